-- Demand 3 holds. Assumes nothing.
use mathlib.Core.Path.{◌≡◌, refl, sym, ap, ◌∙◌, subst}
use mathlib.Core.List.{List, [], map}
use Prim.Native.Nat.{ℕ, ◌≤◌, ◌<◌}
use lib.ListN.{length, take}
use lib.Seq.{take-nil}
use Rattle.layout.specs.Table.{Side, request, reply}
use Rattle.layout.specs.Values.{Part, Value, bytes_in}
use Rattle.layout.specs.Reading.{Shape, accepted, read}
use Rattle.layout.specs.Pieces.{pieces, Agree, cut_answer}
use Rattle.layout.specs.Names.{names_among, names_of, opened, steps}
use Rattle.layout.specs.Front.{settle, front}
use Rattle.layout.specs.Demand3.{Kept, Demand3, cut_call}
use Rattle.layout.specs.Limits.{longest}
use Rattle.layout.proofs.Trace.{MessageHere, message-reads, message-traced}
use Rattle.layout.proofs.Sizes.{known-size, known-inside}
use Rattle.layout.proofs.Stays.{message-stays, body-contents}
use Rattle.layout.proofs.Cuts.{message-cut}
use Rattle.layout.proofs.Iterating.{opened-steps, names-bytes, cut-nameless}
use Rattle.layout.proofs.Fronting.{front-accepted, front_cut, front-unknown}

-- ---- a law of one side, for a side that is that one

module _ {side : Side} {m : List ℕ} {s : Shape} {i t k : ℕ} {vs : List (Value Part)} (h : MessageHere side m s i t vs k) where
  fronts : side ≡ request → (m' : List ℕ) → Agree k m m' → length m' ≤ longest → (out : List ℕ) → front m' out ≡ front m out
  fronts e m' a l out =
      let here : MessageHere request m s i t vs k = subst (λ (x : Side). MessageHere x m s i t vs k) e h in
      front-accepted (message-stays here a l) out ∙ sym (front-accepted here out)

  cut-front : side ≡ request → (j : ℕ) → j < k → (out : List ℕ) → front (take j m) out ≡ settle (cut_call j i t) out
  cut-front e = front_cut (subst (λ (x : Side). MessageHere x m s i t vs k) e h)

  names : side ≡ reply → (m' : List ℕ) → Agree k m m' → length m' ≤ longest → (n : ℕ)
      → map (bytes_in m') (steps n m' (opened m')) ≡ map (bytes_in m) (steps n m (opened m))
  names e m' a l n =
      let here : MessageHere reply m s i t vs k = subst (λ (x : Side). MessageHere x m s i t vs k) e h in
      rw (opened-steps n m', opened-steps n m, message-reads (message-stays here a l), message-reads here) (names-bytes n here a)

  cut-names : side ≡ reply → (j : ℕ) → j < k → (n : ℕ) → steps n (take j m) (opened (take j m)) ≡ []
  cut-names e j l n =
      let here : MessageHere reply m s i t vs k = subst (λ (x : Side). MessageHere x m s i t vs k) e h in
      opened-steps n (take j m) ∙ rw (message-cut here j l) (cut-nameless n j (pieces reply s t vs))

  kept : Kept side m s i t vs k
  kept =
      record {
        size = known-size h;
        inside = known-inside h;
        answers = λ m' a l. message-reads (message-stays h a l);
        bytes = λ m' a. body-contents h.rest a;
        names = names;
        fronts = fronts;
        cut = message-cut h;
        cut-names = cut-names;
        cut-front = cut-front;
      }

-- ---- the whole claim

pub demand3 : Demand3
demand3 = record { accepts = λ side m s i t vs k e. kept (message-traced e); unknown = front-unknown }
