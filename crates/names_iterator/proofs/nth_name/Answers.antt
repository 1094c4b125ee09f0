-- `names_iterator::nth_name` meets its contract. That the name so met is the n-th is a law of crate `names`. Assumes nothing.
use mathlib.Core.Path.{ap, subst, ◌∙◌}
use mathlib.Core.List.{List}
use Prim.Native.Nat.{ℕ}
use denote.Ref.{Bor}
use Rattle.layout.specs.Values.{Part}
use Rattle.wire.specs.Runs.{Shows}
use Rattle.names.specs.Positions.{name_of, nth_name}
use Rattle.names.proofs.Skipping as law
use Rattle.names_iterator.specs.declared.Iter.{Iter}
use Rattle.names_iterator.specs.Iterating.{Opened, step_on, Further}
use Rattle.names_iterator.proofs.Reaching.{reached}
use Rattle.names_iterator.proofs.nth_name.Goals as goal

the-nth : (s : Bor (List ℕ)) (n : ℕ) (r r' : Iter) (t : Bor (List ℕ)) → Opened s r → Further n r r' → Shows r'.reply (name_of (step_on r')) t → Shows s (nth_name n s.now) t
the-nth s n r r' t e e' e'' =
    subst (λ (x : Part). Shows s x t) (ap name_of (reached s n r r' e e') ∙ law.nth-name n s.now)
    (subst (λ (x : Bor (List ℕ)). Shows x (name_of (step_on r')) t) (e'.0 ∙ e.0) e'')

pub returns : goal.returns
returns c = the-nth c.args.reply c.args.n c.open.result c.skip.result c.next_name.result c.open.ensures c.skip.ensures c.next_name.ensures
