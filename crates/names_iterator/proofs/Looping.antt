-- A loop over the iterator, `let mut it = open(reply); loop { match it.next() { … } }`, as a caller meets it by the promises of `open` and `next`:
-- it gives exactly the names of the reply, in their order, and then the end for ever. The laws of crate `names` say so of positions; here they
-- are taken to the struct. Assumes nothing.
use mathlib.Core.Path.{◌≡◌, refl, sym, ap, subst, ◌∙◌}
use mathlib.Core.List.{List, [], ◌∷◌}
use Prim.Native.Nat.{ℕ, suc}
use lib.ListN.{take}
use denote.Ref.{Bor}
use Rattle.layout.specs.Table.{reply}
use Rattle.layout.specs.Values.{Part, bytes_in}
use Rattle.layout.specs.Reading.{read}
use Rattle.layout.specs.Names.{names_of}
use Rattle.wire.specs.declared.Run.{Run}
use Rattle.wire.specs.Runs.{part_of, shown}
use Rattle.names.specs.declared.Position.{Position}
use Rattle.names.specs.declared.Step.{Step}
use Rattle.names.specs.declared.Step.TheVariants as S
use Rattle.names.specs.Positions.{position_of, step_of, name_of, behind}
use Rattle.names.proofs.Stepping as law
use Rattle.names_iterator.specs.declared.Iter.{Iter}
use Rattle.names_iterator.specs.Iterating.{Opened, step_on, Takes}

-- a turn of the loop: what `next` promises of its answer s, and of the iterator that it leaves
pub record Turn (it : Iter) (s : Step) (it' : Iter) : Type 0 where
  pub takes : Takes it s it'

-- so many turns met these names
pub data Turns : ℕ → Iter → List Part → Type 0 where
  no-turn : {it : Iter} → Turns 0 it []
  a-name : {n : ℕ} {it it' : Iter} {x : Run} {w : Position} {xs : List Part} → Turn it (S.Name x w) it' → Turns n it' xs → Turns (suc n) it (part_of x ∷ xs)
  an-end : {n : ℕ} {it it' : Iter} {w : Position} {xs : List Part} → Turn it (S.End w) it' → Turns n it' xs → Turns (suc n) it xs

-- the step of a turn is a call of `names::step_at`
called : {it it' : Iter} {s : Step} → Turn it s it' → law.Next it.reply.now it.position s
called t = record { is = t.takes.0 }

-- and the iterator is left where that step says
moves : {it it' : Iter} {s : Step} → Turn it s it' → position_of it'.position ≡ behind (step_of s)
moves t = t.takes.2 ∙ ap behind (sym t.takes.0)

after : {n : ℕ} {it it' : Iter} {s : Step} (w : Position) {xs : List Part} → Turn it s it' → behind (step_of s) ≡ position_of w
    → law.Calls it'.reply.now n it'.position xs → law.Calls it.reply.now n w xs
after {n} {it} {it'} w {xs} t e c =
    subst (λ (v : Position). law.Calls it.reply.now n v xs) (law.same-position it'.position w (moves t ∙ e)) (subst (λ (m : Bor (List ℕ)). law.Calls m.now n it'.position xs) t.takes.1 c)

turns-calls : {n : ℕ} {it : Iter} {xs : List Part} → Turns n it xs → law.Calls it.reply.now n it.position xs
turns-calls no-turn = law.no_call
turns-calls (a-name {w = w} t ts) = law.a-name (called t) (after w t refl (turns-calls ts))
turns-calls (an-end {w = w} t ts) = law.an-end (called t) (after w t refl (turns-calls ts))

-- n turns from `open` meet the first n names of the reply, in order: all of them, and then no more
pub opened-turns : {m : Bor (List ℕ)} {n : ℕ} {it : Iter} {xs : List Part} → Opened m it → Turns n it xs → xs ≡ take n (names_of (read reply m.now))
opened-turns {m} {n} {it} {xs} o t = law.opened-calls o.1 (subst (λ (s : Bor (List ℕ)). law.Calls s.now n it.position xs) o.0 (turns-calls t))

-- at the end the iterator stays as it is
pub end_stays : {it it' : Iter} {w : Position} → Turn it (S.End w) it' → it' ≡ it
end_stays {it} {it'} {w} t =
    let e : it'.position ≡ it.position = law.same-position it'.position w (moves t) ∙ law.end_stays (called t) in
    λ i. record { reply = t.takes.1 i; position = e i }

-- and every later turn says so again
pub end-again : {it it' it'' : Iter} {w : Position} {s : Step} → Turn it (S.End w) it' → Turn it' s it'' → s ≡ S.End w
end-again {it} {it'} {w = w} {s = s} t u =
    law.end-again
    (called t)
    (subst (λ (v : Position). law.Next it.reply.now v s) (law.same-position it'.position w (moves t)) (subst (λ (m : Bor (List ℕ)). law.Next m.now it'.position s) t.takes.1 (called u)))

-- what `next_name` promises before a turn is, where there is a name, its bytes in the reply
pub name-bytes : {it it' : Iter} {x : Run} {w : Position} {b : List ℕ} → Turn it (S.Name x w) it' → b ≡ shown it.reply.now (name_of (step_on it)) → b ≡ bytes_in it.reply.now (part_of x)
name-bytes {it} t e = e ∙ ap (λ s. shown it.reply.now (name_of s)) (sym t.takes.0) ∙ law.name-inside (called t)
