-- What `nth_name` and `nth_step` begin with, `open(reply).skip(n)`: where the iterator is then. Assumes nothing.
use mathlib.Core.Path.{◌≡◌, ap, ◌∙◌}
use mathlib.Core.List.{List}
use Prim.Native.Nat.{ℕ}
use denote.Ref.{Bor}
use Rattle.layout.specs.Names as layout
use Rattle.names.specs.Positions.{position_of, skipped}
use Rattle.names_iterator.specs.declared.Iter.{Iter}
use Rattle.names_iterator.specs.Iterating.{Opened, step_on, Further}

-- the next step from there
pub reached : (s : Bor (List ℕ)) (n : ℕ) (r r' : Iter) → Opened s r → Further n r r' → step_on r' ≡ layout.step s.now (skipped n s.now (layout.opened s.now))
reached s n r r' e e' =
    ap (λ (x : Bor (List ℕ)). layout.step x.now (position_of r'.position)) (e'.0 ∙ e.0)
    ∙ ap (layout.step s.now) (e'.1 ∙ ap (λ (x : Bor (List ℕ)). skipped n x.now (position_of r.position)) e.0 ∙ ap (skipped n s.now) e.1)
