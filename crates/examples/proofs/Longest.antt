-- A loop that takes the names by steps meets the longest. Assumes nothing.
use Prim.Native.Nat.{ℕ, zero, suc, ◌-◌, ◌<◌}
use mathlib.Core.Path.{◌≡◌, refl, sym, ap, ◌∙◌}
use mathlib.Core.Bool.{cond}
use mathlib.Core.List.{List, [], ◌∷◌}
use native.Mathlib.Omega.{arith}
use lib.ListN.{length, take}
use lib.Seq.{take-length}
use lib.Dec.{leb}
use borrow.Author.Tests.{le-leb}
use Rattle.layout.specs.Parts.{nothing}
use Rattle.layout.specs.Reading.{read}
use Rattle.layout.specs.Table.{reply}
use Rattle.layout.specs.Names as layout
use Rattle.layout.specs.Names.{names_of, opened, name, ended, step, steps, gather}
use Rattle.layout.proofs.Iterating.{opened-steps}
use Rattle.wire.specs.Runs.{shown}
use Rattle.names.specs.declared.Position.{Position}
use Rattle.names.specs.Positions.{position_of, name_of, behind}
use Rattle.examples.specs.Longest.{greater, longest, longest_name}

-- the end shows no byte
nothing-shown : (m : List ℕ) → length (shown m nothing) ≡ 0
unfolding shown
nothing-shown m = rw (le-leb 0 (length m) (omega arith))

greater-none : (a : ℕ) → greater a 0 ≡ a
greater-none a = rw (le-leb 0 a (omega arith))

-- what one step adds to the longest so far, and where it leads
stepped : (m : List ℕ) (n a : ℕ) (u : layout.Step)
    → longest m (greater a (length (shown m (name_of u)))) (steps n m (behind u)) ≡ longest m a (gather u (λ x v. x ∷ steps n m v) (λ v. steps n m v))
stepped m n a (name x v) = refl
stepped m n a (ended v) =
    ap (λ (k : ℕ). longest m k (steps n m v)) (ap (greater a) (nothing-shown m) ∙ greater-none a)

-- a turn of the loop: u is the step from w, v the position behind it, l the name; n were left, a is the longest before and k the longest then
pub turned : (m : List ℕ) (w : layout.Position) (a n : ℕ) {u : layout.Step} {v : layout.Position} {l : List ℕ} {k : ℕ} → 0 < n → u ≡ step m w → v ≡ behind u
    → l ≡ shown m (name_of u) → k ≡ greater a (length l) → longest m k (steps (n - 1) m v) ≡ longest m a (steps n m w)
turned m w a n {u} {v} {l} {k} h e b s g =
    let some : suc (n - 1) ≡ n = omega arith in
    rw (g, s, b, e) (stepped m (n - 1) a (step m w) ∙ ap (λ (j : ℕ). longest m a (steps j m w)) some)

-- all names, from where the iterator opens
pub from-opened : (m : List ℕ) (w : Position) → position_of w ≡ opened m → longest m 0 (steps w.left m (position_of w)) ≡ longest_name m
unfolding opened
from-opened m w e =
    let n : w.left ≡ length (names_of (read reply m)) = ap (λ (p : layout.Position). p.left) e in
    ap (longest m 0)
    (ap (λ (p : layout.Position). steps w.left m p) e
    ∙ opened-steps w.left m
    ∙ ap (λ (k : ℕ). take k (names_of (read reply m))) n
    ∙ take-length (names_of (read reply m)))

-- none is left
pub at-end : (m : List ℕ) (a n : ℕ) (w : layout.Position) → n ≡ 0 → a ≡ longest m a (steps n m w)
at-end m a n w e = rw e
