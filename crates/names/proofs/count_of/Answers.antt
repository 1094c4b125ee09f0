-- `names::count_of` meets its contract. Assumes nothing.
use Rattle.names.proofs.count_of.Goals as goal

pub returns-in-Success : goal.returns-in-Success
returns-in-Success c m = rw c.in-Success.is (c.count_of_reply.ensures m c.in-Success.result)

pub returns-in-Failure : goal.returns-in-Failure
returns-in-Failure c m = rw c.in-Failure.is

pub returns-in-Credentials : goal.returns-in-Credentials
returns-in-Credentials c m = rw c.in-Credentials.is

pub returns-in-UnknownResponse : goal.returns-in-UnknownResponse
returns-in-UnknownResponse c m = rw c.in-UnknownResponse.is

pub returns-in-Refused : goal.returns-in-Refused
returns-in-Refused c m = rw c.in-Refused.is
