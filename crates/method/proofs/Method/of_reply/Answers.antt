-- `method::Method::of_reply` meets its contract: a reply number is looked up as the request number below it. Assumes nothing.
use mathlib.Core.Path.{sym, ap, ◌∙◌}
use native.Mathlib.Omega.{arith}
use Rattle.method.specs.Methods.{of_request, found_method}
use Rattle.method.proofs.Table.{reply-below, reply-as-request}
use Rattle.method.proofs.Method.of_reply.Goals as goal

pub returns-in_err-checked_sub : goal.returns-in_err-checked_sub
returns-in_err-checked_sub c = let no = c.in_err-checked_sub.ensures in ap found_method c.from_residual.ensures ∙ sym (reply-below c.args.number (omega arith))

pub returns : goal.returns
returns c =
    let a = c.in_ok-checked_sub.ensures in
    c.of_request.ensures ∙ ap of_request a.1 ∙ sym (reply-as-request c.args.number a.0)
