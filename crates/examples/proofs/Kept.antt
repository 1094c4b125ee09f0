-- Nothing behind a reply changes: from what writers and front promise. Assumes nothing.
use Prim.Native.Nat.{ℕ}
use mathlib.Core.Path.{◌≡◌, refl, sym, ap, subst, ◌∙◌}
use mathlib.Core.Bool.{Bool, true, false, cond}
use mathlib.Core.List.{List, ◌++◌}
use lib.Dec.{leb}
use lib.ListN.{length, drop}
use lib.Seq.{drop_at}
use Rattle.layout.specs.Refusals.{buffer_too_small}
use Rattle.layout.specs.Table.{Side, request}
use Rattle.layout.specs.Values.{Value}
use Rattle.layout.specs.Reading.{Shape, read}
use Rattle.layout.specs.Writing.{length_of, encode_message, write}
use Rattle.layout.specs.Front.{Call, hand_on, refuse-with, reply-with, called, stored, refused, done, settle, front}
use Rattle.layout.proofs.Tests.{apart}
use Rattle.layout.proofs.Written.{write-finished}
use Rattle.message_writer.specs.declared.Written.{Written}
use Rattle.message_writer.specs.declared.Written.TheVariants as W
use Rattle.message_writer.specs.Writers.{told_of, Wrote}
use Rattle.message_writer.proofs.Finished.{rest-kept, refused-kept}
use Rattle.front.specs.declared.Fronted.{Fronted}
use Rattle.front.specs.declared.Fronted.TheVariants as F
use Rattle.front.specs.Acts.{act_of, Fronts}
use Rattle.examples.specs.Turns.{RestKept}

module _ (side : Side) (s : Shape) (i t : ℕ) (vs : List (Value (List ℕ))) (summed : Bool) (out : List ℕ) where
  -- of a writer, finished or refused
  pub written-rest : {after : List ℕ} (r : Written) → Wrote (write side s i t vs summed out) after r → RestKept (length_of (told_of r)) out after
  written-rest (W.Stored n) w =
      let size = (write-finished side s i t vs summed out (sym w.tells)).finished.size in
      record { is = ap (drop n) (rest-kept side s i t vs summed out w) ∙ drop_at (encode_message side s i t vs) (drop n out) n (sym size) }
  written-rest (W.Refused n p) w = record { is = (refused-kept side s i t vs summed out w).1 }

-- how many bytes the front reports
abbrev pub reported : Fronted → ℕ
reported F.HandedOn = 0
reported (F.Stored n) = n
reported (F.Refused n p) = 0

-- of the front, whatever it does
pub fronted-rest : (m out : List ℕ) {after : List ℕ} {r v : Fronted} → r ≡ v → Fronts (front m out) after r → RestKept (reported v) out after
unfolding front
fronted-rest m out {after} {r} e f =
    subst (λ (v : Fronted). RestKept (reported v) out after) e (record { is = ap (drop (reported r)) f.leaves ∙ settled (called m (read request m)) r f.acts })
  where
    answered : (b : Bool) (bs : List ℕ) (r : Fronted)
        → act_of r ≡ (cond b (done (stored (length bs)) (bs ++ drop (length bs) out)) (done (refused buffer_too_small 0) out)).act
        → drop (reported r) (cond b (done (stored (length bs)) (bs ++ drop (length bs) out)) (done (refused buffer_too_small 0) out)).buffer ≡ drop (reported r) out
    answered true bs (F.Stored n) e =
        let size : length bs ≡ n = cc in
        ap (λ (k : ℕ). drop n (bs ++ drop k out)) size ∙ drop_at bs (drop n out) n size
    answered true bs F.HandedOn e = let z : false ≡ true = cc in apart z
    answered true bs (F.Refused n p) e = let z : false ≡ true = cc in apart z
    answered false bs r e = refl

    settled : (c : Call) (r : Fronted) → act_of r ≡ (settle c out).act → drop (reported r) (settle c out).buffer ≡ drop (reported r) out
    settled hand_on r e = refl
    settled (refuse-with n) r e = refl
    settled (reply-with bs) r e = answered (leb (length bs) (length out)) bs r e

-- the answer of a writer, told as its length
pub kept_by : {n k : ℕ} {out after : List ℕ} → k ≡ n → RestKept n out after → RestKept k out after
kept_by {out = out} {after = after} e h = subst (λ (k : ℕ). RestKept k out after) (sym e) h

-- a turn that changed nothing, then one that kept the rest
pub kept_on : {n : ℕ} {out between after : List ℕ} → RestKept 0 out between → RestKept n between after → RestKept n out after
kept_on {n} f g = record { is = g.is ∙ ap (drop n) f.is }
