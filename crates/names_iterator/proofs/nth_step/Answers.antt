-- `names_iterator::nth_step` meets its contract: the step behind `n` names, and where it leaves the iterator. Assumes nothing.
use mathlib.Core.Path.{ap, ◌∙◌}
use mathlib.Core.List.{List}
use Prim.Native.Nat.{ℕ}
use denote.Ref.{Bor}
use Rattle.layout.specs.Names as layout
use Rattle.names.specs.declared.Step.{Step}
use Rattle.names.specs.Positions.{behind}
use Rattle.names.proofs.Skipping as law
use Rattle.names_iterator.specs.declared.Iter.{Iter}
use Rattle.names_iterator.specs.Iterating.{Opened, Further, Takes, NthStep}
use Rattle.names_iterator.proofs.Reaching.{reached}
use Rattle.names_iterator.proofs.nth_step.Goals as goal

moves : (s : Bor (List ℕ)) (n : ℕ) (r r' : Iter) (t : Step) (d : Iter) → Opened s r → Further n r r' → Takes r' t d
    → NthStep n s.now (record { step = t; position = d.position })
moves s n r r' t d e e' e'' =
    (e''.0 ∙ reached s n r r' e e', e''.2 ∙ ap behind (reached s n r r' e e') ∙ law.skip-more n s.now (layout.opened s.now))

pub returns : goal.returns
returns c = moves c.args.reply c.args.n c.open.result c.skip-it.result c.next-step.result c.next-step.new.self c.open.ensures c.skip-it.ensures c.next-step.ensures
