-- Each call is refused and changes nothing, or has all that it asks for. Assumes nothing.
use mathlib.Core.Path.{◌≡◌, refl}
use mathlib.Core.Bool.{Bool, true, false, not, cond}
use mathlib.Core.List.{List}
use mathlib.Core.Option.{Option, none, some}
use Prim.Native.Nat.{ℕ, ◌<◌}
use lib.Dec.{leb}
use borrow.Author.Tests.{leb-false}
use Rattle.layout.specs.Refusals.{unexpected_type, unsound_table, id_outstanding, table_full, id_not_outstanding, type_mismatch}
use Rattle.layout.specs.Values.{Part, Value}
use Rattle.layout.specs.Reading.{Shape, Answer, refused as not-read, accepted}
use Rattle.outstanding_records.specs.declared.Request.{Request}
use Rattle.outstanding_records.specs.declared.Record.{Record}
use Rattle.outstanding.specs.Records.{is_free, holds_id, any, lookup}
use Rattle.outstanding.specs.Calls.{type_bound, sound, kept, entered, removed, CallOutcome, outcome, Told, done, refuse_call, request, enter, insert, answers, Arrival, answered, refused-reply, refuse_reply, settle_accepted, arrive}
use Rattle.layout.proofs.Tests.{apart}
use Rattle.outstanding.proofs.Soundness.{Sound, sound-out}

-- ---- entering

pub data Entering (l : List Record) (i t : ℕ) : CallOutcome Told → Type 0 where
  stopped : (n : ℕ) → Entering l i t (refuse_call n)
  passed : Sound l → t < type_bound → any (holds_id i) l ≡ false → any is_free l ≡ true → Entering l i t (outcome done (entered i (request t)))

pub entering : (l : List Record) (i t : ℕ) → Entering l i t (enter l i t)
unfolding enter insert
entering l i t = by (sound l) (leb type_bound t) (any (holds_id i) l) (any is_free l) refl refl refl refl
  where
    by : (b₁ b₂ b₃ b₄ : Bool) → sound l ≡ b₁ → leb type_bound t ≡ b₂ → any (holds_id i) l ≡ b₃ → any is_free l ≡ b₄
        → Entering l i t (cond (not b₁) (refuse_call unsound_table) (cond b₂ (refuse_call unexpected_type) (cond b₃ (refuse_call id_outstanding) (cond (not b₄) (refuse_call table_full) (outcome done (entered i (request t)))))))
    by false b₂ b₃ b₄ e₁ e₂ e₃ e₄ = stopped unsound_table
    by true true b₃ b₄ e₁ e₂ e₃ e₄ = stopped unexpected_type
    by true false true b₄ e₁ e₂ e₃ e₄ = stopped id_outstanding
    by true false false false e₁ e₂ e₃ e₄ = stopped table_full
    by true false false true e₁ e₂ e₃ e₄ = passed (sound-out l e₁) (leb-false type_bound t e₂) e₃ e₄

-- ---- an arriving reply

pub data Arriving (l : List Record) : Answer → CallOutcome Arrival → Type 0 where
  stopped : {a : Answer} (n p : ℕ) → Arriving l a (outcome (refused-reply n p) kept)
  passed : {s : Shape} {i t k : ℕ} {vs : List (Value Part)} (q : Request) → Sound l → any (holds_id i) l ≡ true → lookup l i ≡ some q → answers t (some q) ≡ true
      → Arriving l (accepted s i t vs k) (outcome (answered (accepted s i t vs k)) (removed i))

pub arriving : (l : List Record) (a : Answer) → Arriving l a (arrive l a)
unfolding arrive settle_accepted
arriving l (not-read n p) = by (sound l)
  where
    by : (b : Bool) → Arriving l (not-read n p) (cond (not b) (refuse_reply unsound_table) (outcome (refused-reply n p) kept))
    by true = stopped n p
    by false = stopped unsound_table 0
arriving l (accepted s i t vs k) = unsound-first (sound l) refl
  where
    fits : (o : Option Request) (b : Bool) → Sound l → any (holds_id i) l ≡ true → lookup l i ≡ o → answers t o ≡ b
        → Arriving l (accepted s i t vs k) (cond (not b) (refuse_reply type_mismatch) (outcome (answered (accepted s i t vs k)) (removed i)))
    fits none true ok h e f = apart f
    fits (some q) true ok h e f = passed q ok h e f
    fits o false ok h e f = stopped type_mismatch 0

    held : (b : Bool) → Sound l → any (holds_id i) l ≡ b
        → Arriving l (accepted s i t vs k) (cond (not b) (refuse_reply id_not_outstanding) (cond (not (answers t (lookup l i))) (refuse_reply type_mismatch) (outcome (answered (accepted s i t vs k)) (removed i))))
    held true ok h = fits (lookup l i) (answers t (lookup l i)) ok h refl refl
    held false ok h = stopped id_not_outstanding 0

    unsound-first : (b : Bool) → sound l ≡ b → Arriving l (accepted s i t vs k) (cond (not b) (refuse_reply unsound_table) (cond (not (any (holds_id i) l)) (refuse_reply id_not_outstanding) (cond (not (answers t (lookup l i))) (refuse_reply type_mismatch) (outcome (answered (accepted s i t vs k)) (removed i)))))
    unsound-first true e = held (any (holds_id i) l) (sound-out l e) refl
    unsound-first false e = stopped unsound_table 0
