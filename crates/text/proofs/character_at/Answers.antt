-- `text::character_at` meets its contract: the entries are passed one after the other until a decision is taken. A decision is taken
-- where each of its tests holds, and passed where one of them fails.
-- Assumes nothing.
use mathlib.Core.Path.{◌≡◌, refl, sym, ◌∙◌}
use mathlib.Core.Bool.{true}
use mathlib.Core.List.{List}
use mathlib.Core.Logic.{inl, inr}
use Prim.Native.Nat.{ℕ}
use lib.ListN.{drop}
use Rattle.text.specs.Utf8.{entries}
use Rattle.text.proofs.Decisions.{first_of, either, both, one-fails, two-fail, three-fail, four-fail, Left, all_left, passed, chosen, none_left}
use Rattle.text.proofs.character_at.Goals as goal
use Rattle.text.proofs.character_at.Goals.{Else-within, Joined-else-within-2, Joined-else-within-4, Joined-else-within-8, Joined-else-within-11, Joined-else-within-14, Joined-else-within-18, Joined-else-within-22, Joined-within-7}
use Rattle.text.proofs.character_at.Goals.{then-within-7, else-within-7, else-within-2-via-then-within-2+else-within-3, else-within-2-via-else-within-2, else-within-4-via-then-within-4+then-within-5+else-within-6, else-within-4-via-then-within-4+else-within-5, else-within-4-via-else-within-4, else-within-8-via-then-within-8+then-within-9+else-within-10, else-within-8-via-then-within-8+else-within-9, else-within-8-via-else-within-8, else-within-11-via-then-within-11+then-within-12+else-within-13, else-within-11-via-then-within-11+else-within-12, else-within-11-via-else-within-11, else-within-14-via-then-within-14+then-within-15+then-within-16+else-within-17, else-within-14-via-then-within-14+then-within-15+else-within-16, else-within-14-via-then-within-14+else-within-15, else-within-14-via-else-within-14, else-within-18-via-then-within-18+then-within-19+then-within-20+else-within-21, else-within-18-via-then-within-18+then-within-19+else-within-20, else-within-18-via-then-within-18+else-within-19, else-within-18-via-else-within-18, else-within-22-via-then-within-22+then-within-23+then-within-24+else-within-25, else-within-22-via-then-within-22+then-within-23+else-within-24, else-within-22-via-then-within-22+else-within-23, else-within-22-via-else-within-22}

-- the entries that are left for the character at a place, past the first k
abbrev LeftAt : ℕ → List ℕ → ℕ → Type 0
LeftAt k s at = Left (drop k entries) s at

-- ---- passed

left1 : (c : Else-within) → LeftAt 1 c.args.s.now c.args.at
left1 c = passed (all_left c.args.s.now c.args.at c.requires) (one-fails (sym c.within.ensures ∙ c.if-within.false) true)

-- the first byte of entry 4, which has two ranges
first4 : (c : Joined-within-7) (l : LeftAt 3 c.args.s.now c.args.at) → first_of l ≡ c.if-within-7.value
first4 c l =
    either (λ e. e) (λ e. e)
    (elim c.if-within-7.branch [
      | then-within-7 w ↦ inl (sym c.within-4.ensures ∙ w.if-within-7.true, w.value-is ∙ w.if-within-7.true)
      | else-within-7 w ↦ inr (sym c.within-4.ensures ∙ w.if-within-7.false, w.value-is ∙ w.within-else-within-7.ensures)
    ])

left2 : (c : Joined-else-within-2) → LeftAt 1 c.args.s.now c.args.at → LeftAt 2 c.args.s.now c.args.at
left2 c l =
    passed l
    (two-fail (λ e. e) (λ e. e) true
    (elim c.else-within-2.branch [
      | else-within-2-via-then-within-2+else-within-3 w ↦ inl (sym w.within-then-within-2.ensures ∙ w.if-within-3.false)
      | else-within-2-via-else-within-2 w ↦ inr (sym c.within-2.ensures ∙ w.if-within-2.false)
    ]))

left3 : (c : Joined-else-within-4) → LeftAt 2 c.args.s.now c.args.at → LeftAt 3 c.args.s.now c.args.at
left3 c l =
    passed l
    (three-fail (λ e. e) (λ e. e) (λ e. e) true
    (elim c.else-within-4.branch [
      | else-within-4-via-then-within-4+then-within-5+else-within-6 w ↦ inl (sym w.within-then-within-5.ensures ∙ w.if-within-6.false)
      | else-within-4-via-then-within-4+else-within-5 w ↦ inr (inl (sym w.within-then-within-4.ensures ∙ w.if-within-5.false))
      | else-within-4-via-else-within-4 w ↦ inr (inr (sym c.within-3.ensures ∙ w.if-within-4.false))
    ]))

left4 : (c : Joined-else-within-8) (l : LeftAt 3 c.args.s.now c.args.at) → first_of l ≡ c.if-within-7.value → LeftAt 4 c.args.s.now c.args.at
left4 c l f =
    passed l
    (three-fail (λ e. e) (λ e. e) (λ e. e) true
    (elim c.else-within-8.branch [
      | else-within-8-via-then-within-8+then-within-9+else-within-10 w ↦ inl (sym w.within-then-within-9.ensures ∙ w.if-within-10.false)
      | else-within-8-via-then-within-8+else-within-9 w ↦ inr (inl (sym w.within-then-within-8.ensures ∙ w.if-within-9.false))
      | else-within-8-via-else-within-8 w ↦ inr (inr (f ∙ w.if-within-8.false))
    ]))

left5 : (c : Joined-else-within-11) → LeftAt 4 c.args.s.now c.args.at → LeftAt 5 c.args.s.now c.args.at
left5 c l =
    passed l
    (three-fail (λ e. e) (λ e. e) (λ e. e) true
    (elim c.else-within-11.branch [
      | else-within-11-via-then-within-11+then-within-12+else-within-13 w ↦ inl (sym w.within-then-within-12.ensures ∙ w.if-within-13.false)
      | else-within-11-via-then-within-11+else-within-12 w ↦ inr (inl (sym w.within-then-within-11.ensures ∙ w.if-within-12.false))
      | else-within-11-via-else-within-11 w ↦ inr (inr (sym c.within-5.ensures ∙ w.if-within-11.false))
    ]))

left6 : (c : Joined-else-within-14) → LeftAt 5 c.args.s.now c.args.at → LeftAt 6 c.args.s.now c.args.at
left6 c l =
    passed l
    (four-fail (λ e. e) (λ e. e) (λ e. e) (λ e. e) true
    (elim c.else-within-14.branch [
      | else-within-14-via-then-within-14+then-within-15+then-within-16+else-within-17 w ↦ inl (sym w.within-then-within-16.ensures ∙ w.if-within-17.false)
      | else-within-14-via-then-within-14+then-within-15+else-within-16 w ↦ inr (inl (sym w.within-then-within-15.ensures ∙ w.if-within-16.false))
      | else-within-14-via-then-within-14+else-within-15 w ↦ inr (inr (inl (sym w.within-then-within-14.ensures ∙ w.if-within-15.false)))
      | else-within-14-via-else-within-14 w ↦ inr (inr (inr (sym c.within-6.ensures ∙ w.if-within-14.false)))
    ]))

left7 : (c : Joined-else-within-18) → LeftAt 6 c.args.s.now c.args.at → LeftAt 7 c.args.s.now c.args.at
left7 c l =
    passed l
    (four-fail (λ e. e) (λ e. e) (λ e. e) (λ e. e) true
    (elim c.else-within-18.branch [
      | else-within-18-via-then-within-18+then-within-19+then-within-20+else-within-21 w ↦ inl (sym w.within-then-within-20.ensures ∙ w.if-within-21.false)
      | else-within-18-via-then-within-18+then-within-19+else-within-20 w ↦ inr (inl (sym w.within-then-within-19.ensures ∙ w.if-within-20.false))
      | else-within-18-via-then-within-18+else-within-19 w ↦ inr (inr (inl (sym w.within-then-within-18.ensures ∙ w.if-within-19.false)))
      | else-within-18-via-else-within-18 w ↦ inr (inr (inr (sym c.within-7.ensures ∙ w.if-within-18.false)))
    ]))

left8 : (c : Joined-else-within-22) → LeftAt 7 c.args.s.now c.args.at → LeftAt 8 c.args.s.now c.args.at
left8 c l =
    passed l
    (four-fail (λ e. e) (λ e. e) (λ e. e) (λ e. e) true
    (elim c.else-within-22.branch [
      | else-within-22-via-then-within-22+then-within-23+then-within-24+else-within-25 w ↦ inl (sym w.within-then-within-24.ensures ∙ w.if-within-25.false)
      | else-within-22-via-then-within-22+then-within-23+else-within-24 w ↦ inr (inl (sym w.within-then-within-23.ensures ∙ w.if-within-24.false))
      | else-within-22-via-then-within-22+else-within-23 w ↦ inr (inr (inl (sym w.within-then-within-22.ensures ∙ w.if-within-23.false)))
      | else-within-22-via-else-within-22 w ↦ inr (inr (inr (sym c.within-8.ensures ∙ w.if-within-22.false)))
    ]))

-- ---- taken
pub returns-then-within : goal.returns-then-within
returns-then-within c = chosen (all_left c.args.s.now c.args.at c.requires) (both (sym c.within.ensures ∙ c.if-within.true) refl)

pub returns-then-within-3 : goal.returns-then-within-3
returns-then-within-3 c =
    chosen (left1 (goal.at.returns-then-within-3 c).Else-within)
    (both (sym c.within-2.ensures ∙ c.if-within-2.true)
    (both (sym c.within-then-within-2.ensures ∙ c.if-within-3.true) refl))

pub returns-then-within-6 : goal.returns-then-within-6
returns-then-within-6 c =
    chosen (left2 (goal.at.returns-then-within-6 c).Joined-else-within-2 (left1 (goal.at.returns-then-within-6 c).Else-within))
    (both (sym c.within-3.ensures ∙ c.if-within-4.true)
    (both (sym c.within-then-within-4.ensures ∙ c.if-within-5.true)
    (both (sym c.within-then-within-5.ensures ∙ c.if-within-6.true) refl)))

pub returns-then-within-10 : goal.returns-then-within-10
returns-then-within-10 c =
    chosen (left3 (goal.at.returns-then-within-10 c).Joined-else-within-4 (left2 (goal.at.returns-then-within-10 c).Joined-else-within-2 (left1 (goal.at.returns-then-within-10 c).Else-within)))
    (both (first4 (goal.at.returns-then-within-10 c).Joined-within-7 (left3 (goal.at.returns-then-within-10 c).Joined-else-within-4 (left2 (goal.at.returns-then-within-10 c).Joined-else-within-2 (left1 (goal.at.returns-then-within-10 c).Else-within))) ∙ c.if-within-8.true)
    (both (sym c.within-then-within-8.ensures ∙ c.if-within-9.true)
    (both (sym c.within-then-within-9.ensures ∙ c.if-within-10.true) refl)))

pub returns-then-within-13 : goal.returns-then-within-13
returns-then-within-13 c =
    chosen ((let l = left3 (goal.at.returns-then-within-13 c).Joined-else-within-4 (left2 (goal.at.returns-then-within-13 c).Joined-else-within-2 (left1 (goal.at.returns-then-within-13 c).Else-within)) in left4 (goal.at.returns-then-within-13 c).Joined-else-within-8 l (first4 (goal.at.returns-then-within-13 c).Joined-within-7 l)))
    (both (sym c.within-5.ensures ∙ c.if-within-11.true)
    (both (sym c.within-then-within-11.ensures ∙ c.if-within-12.true)
    (both (sym c.within-then-within-12.ensures ∙ c.if-within-13.true) refl)))

pub returns-then-within-17 : goal.returns-then-within-17
returns-then-within-17 c =
    chosen (left5 (goal.at.returns-then-within-17 c).Joined-else-within-11 ((let l = left3 (goal.at.returns-then-within-17 c).Joined-else-within-4 (left2 (goal.at.returns-then-within-17 c).Joined-else-within-2 (left1 (goal.at.returns-then-within-17 c).Else-within)) in left4 (goal.at.returns-then-within-17 c).Joined-else-within-8 l (first4 (goal.at.returns-then-within-17 c).Joined-within-7 l))))
    (both (sym c.within-6.ensures ∙ c.if-within-14.true)
    (both (sym c.within-then-within-14.ensures ∙ c.if-within-15.true)
    (both (sym c.within-then-within-15.ensures ∙ c.if-within-16.true)
    (both (sym c.within-then-within-16.ensures ∙ c.if-within-17.true) refl))))

pub returns-then-within-21 : goal.returns-then-within-21
returns-then-within-21 c =
    chosen (left6 (goal.at.returns-then-within-21 c).Joined-else-within-14 (left5 (goal.at.returns-then-within-21 c).Joined-else-within-11 ((let l = left3 (goal.at.returns-then-within-21 c).Joined-else-within-4 (left2 (goal.at.returns-then-within-21 c).Joined-else-within-2 (left1 (goal.at.returns-then-within-21 c).Else-within)) in left4 (goal.at.returns-then-within-21 c).Joined-else-within-8 l (first4 (goal.at.returns-then-within-21 c).Joined-within-7 l)))))
    (both (sym c.within-7.ensures ∙ c.if-within-18.true)
    (both (sym c.within-then-within-18.ensures ∙ c.if-within-19.true)
    (both (sym c.within-then-within-19.ensures ∙ c.if-within-20.true)
    (both (sym c.within-then-within-20.ensures ∙ c.if-within-21.true) refl))))

pub returns-then-within-25 : goal.returns-then-within-25
returns-then-within-25 c =
    chosen (left7 (goal.at.returns-then-within-25 c).Joined-else-within-18 (left6 (goal.at.returns-then-within-25 c).Joined-else-within-14 (left5 (goal.at.returns-then-within-25 c).Joined-else-within-11 ((let l = left3 (goal.at.returns-then-within-25 c).Joined-else-within-4 (left2 (goal.at.returns-then-within-25 c).Joined-else-within-2 (left1 (goal.at.returns-then-within-25 c).Else-within)) in left4 (goal.at.returns-then-within-25 c).Joined-else-within-8 l (first4 (goal.at.returns-then-within-25 c).Joined-within-7 l))))))
    (both (sym c.within-8.ensures ∙ c.if-within-22.true)
    (both (sym c.within-then-within-22.ensures ∙ c.if-within-23.true)
    (both (sym c.within-then-within-23.ensures ∙ c.if-within-24.true)
    (both (sym c.within-then-within-24.ensures ∙ c.if-within-25.true) refl))))

pub returns : goal.returns
returns c = none_left (left8 (goal.at.returns c).Joined-else-within-22 (left7 (goal.at.returns c).Joined-else-within-18 (left6 (goal.at.returns c).Joined-else-within-14 (left5 (goal.at.returns c).Joined-else-within-11 ((let l = left3 (goal.at.returns c).Joined-else-within-4 (left2 (goal.at.returns c).Joined-else-within-2 (left1 (goal.at.returns c).Else-within)) in left4 (goal.at.returns c).Joined-else-within-8 l (first4 (goal.at.returns c).Joined-within-7 l)))))))
