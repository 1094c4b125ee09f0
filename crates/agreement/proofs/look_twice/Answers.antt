-- `agreement::look_twice` meets its contract: by what each look promises. Assumes nothing.
use Rattle.agreement.proofs.Agreeing.{agreeing}
use Rattle.agreement.proofs.look_twice.Goals as goal

pub returns : goal.returns
returns c =
    let second = c in
    agreeing second.look-first.ensures second.look-second.ensures c.same_request_parts.ensures c.same_reply_parts.ensures c.same_name.ensures
