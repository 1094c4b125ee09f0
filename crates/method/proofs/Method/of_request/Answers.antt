-- `method::Method::of_request` meets its contract: 0 is no method's, and another number is looked up at its place. Assumes nothing.
use mathlib.Core.Path.{◌≡◌, sym, ap, ◌∙◌}
use native.Mathlib.Omega.{arith}
use Rattle.method.specs.Methods.{found_method, of_request}
use Rattle.method.proofs.Table.{request-at, request-zero}
use Rattle.method.proofs.Method.of_request.Goals as goal

pub returns-in_err-place : goal.returns-in_err-place
returns-in_err-place c =
    let no = c.in_err-place.ensures in
    let zero : c.args.number ≡ 0 = omega arith in
    ap found_method c.from_residual.ensures ∙ sym (ap of_request zero ∙ request-zero)

pub returns : goal.returns
returns c =
    let a = c.in_ok-place.ensures in
    ap found_method c.copied.ensures ∙ request-at c.args.number c.in_ok-place.place c.get.result a.0 a.1 c.get.ensures.lookup
