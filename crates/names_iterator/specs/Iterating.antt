-- What the iterator's functions promise, by the layout's positions and steps.
use Rattle.std.specs.Prelude.{◌≡◌, List, ℕ, suc}
use Rattle.std.specs.Borrow.{Bor}
use Rattle.layout.specs.Names as layout
use Rattle.names.specs.Positions.{position_of, step_of, behind, skipped}
use Rattle.names.specs.declared.Step.{Step}
use Rattle.names_iterator.specs.declared.Iter.{Iter}
use Rattle.names_iterator.specs.declared.Moved.{Moved}

-- the iterator on a message m, before the first name
abbrev pub Opened : Bor (List ℕ) → Iter → Type 0
Opened m it = (it.reply ≡ m) × (position_of it.position ≡ layout.opened m.now)

-- the next step of an iterator
abbrev pub step_on : Iter → layout.Step
step_on it = layout.step it.reply.now (position_of it.position)

-- the iterator n names further on
abbrev pub Further : ℕ → Iter → Iter → Type 0
Further n it it' = (it'.reply ≡ it.reply) × (position_of it'.position ≡ skipped n it.reply.now (position_of it.position))

-- the next name of it is taken: the answer is its step, and the iterator is where that leaves it, on the same reply
abbrev pub Takes : Iter → Step → Iter → Type 0
Takes it s it' = (step_of s ≡ step_on it) × (it'.reply ≡ it.reply) × (position_of it'.position ≡ behind (step_on it))

-- the step behind n names of a message m, and where it leaves the iterator
abbrev pub NthStep : ℕ → List ℕ → Moved → Type 0
NthStep n m r = (step_of r.step ≡ layout.step m (skipped n m (layout.opened m))) × (position_of r.position ≡ skipped (suc n) m (layout.opened m))
