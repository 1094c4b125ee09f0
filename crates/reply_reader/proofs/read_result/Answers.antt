-- `reply_reader::read_result` meets its contract: the result is refused, or ends the reply, or leads on. Assumes nothing.
use mathlib.Core.Path.{◌≡◌, refl, sym, ap, ◌∙◌}
use mathlib.Core.Bool.{true, false}
use native.Mathlib.Omega.{arith}
use borrow.Author.Rules.{rules}
use lib.IntN.{ℤ, pos, nat_abs}
use lib.Signed.{lt_z}
use mir.Syntax.{w32}
use mir.Val.{SFits}
use mir.ValLaws.{to_z-of_z}
use Rattle.number.proofs.TwosComplement.{kept-casts}
use Rattle.layout.specs.Kinds.{i32}
use Rattle.layout.specs.Values.{Part, Value}
use Rattle.layout.specs.Reading.{value_of}
use Rattle.layout.proofs.ReplyTypes.{led-type}
use Rattle.reply_reader.specs.Answers.{answer_at, success_at}
use Rattle.field_reader.proofs.Cursors.{number_behind}
use Rattle.reply_reader.proofs.Answered.{zero-or-more, small_result, leads-on, result-refused, result-failure}
use Rattle.reply_reader.proofs.read_result.Goals as goal
use Rattle.reply_reader.proofs.read_result.Goals.{After-i32_at-result}

-- the result that was read, its fit, and where it leads
abbrev result : After-i32_at-result → ℤ
result s = s.i32_at-result.result.value

fits : (s : After-i32_at-result) → SFits w32 (result s)
fits s = search rules

leads : (s : After-i32_at-result) → let a = s.args in
    success_at a.m.now s.i32_at-result.result.next a.id a.type_number (result s) ≡ answer_at a.m.now a.c a.id a.type_number
leads s =
    let b = s in
    let l = led-type b.args.type_number b.requires.0 in
    leads-on l.count l.kinds s.i32_at-result.ensures b.args.id b.args.type_number l.is

pub returns-then-code-ne-NONE : goal.returns-then-code-ne-NONE
returns-then-code-ne-NONE c =
    let s = (goal.at.returns-then-code-ne-NONE c).After-i32_at-result in
    let a = c.args in
    result-refused a.m.now s.i32_at-result.result.next (result s) a.id a.type_number c.if-code-ne-NONE.true ∙ leads s

pub returns-then-value-lt0 : goal.returns-then-value-lt0
returns-then-value-lt0 c =
    let s = (goal.at.returns-then-value-lt0 c).After-i32_at-result in
    let b = c in
    let l = led-type b.args.type_number b.requires.0 in
    let below : lt_z (result s) (pos 0) ≡ true = rw (to_z-of_z w32 (result s) (fits s)) at c.if-value-lt0.true in
    rw (to_z-of_z w32 (result s) (fits s))
    (result-failure b.args.m.now s.i32_at-result.result.next (result s) b.args.id b.args.type_number l.is c.if-code-ne-NONE.false below ∙ leads s)

pub overflow_cast-value : goal.overflow_cast-value
overflow_cast-value c = let s = (goal.at.overflow_cast-value c).After-i32_at-result in kept-casts w32 4 refl (result s) (fits s) c.if-value-lt0.false

pub read_success-requires : goal.read_success-requires
read_success-requires c =
    let s = (goal.at.read_success-requires c).After-i32_at-result in
    let below : lt_z (result s) (pos 0) ≡ false = rw (to_z-of_z w32 (result s) (fits s)) at c.if-value-lt0.false in
    let b = c in
    let place = number_behind {A = Value Part} (value_of i32) 4 s.i32_at-result.ensures c.if-code-ne-NONE.false in
    (b.requires.0, rw (to_z-of_z w32 (result s) (fits s)) (small_result (result s) (fits s) below), omega (arith, place, b.requires.1))

pub returns : goal.returns
returns c =
    let s = (goal.at.returns c).After-i32_at-result in
    let below : lt_z (result s) (pos 0) ≡ false = rw (to_z-of_z w32 (result s) (fits s)) at c.if-value-lt0.false in
    let a = c.args in
    let same = ap (λ (z : ℤ). pos (nat_abs z)) (to_z-of_z w32 (result s) (fits s)) ∙ sym (zero-or-more (result s) below) in
    c.read_success.ensures ∙ ap (success_at a.m.now s.i32_at-result.result.next a.id a.type_number) same ∙ leads s
