-- Names passed over, and the name that is met then. Assumes nothing.
use mathlib.Core.Path.{◌≡◌, refl, sym, ap, subst, ◌∙◌}
use mathlib.Core.List.{List, [], ◌∷◌}
use Prim.Native.Nat.{ℕ, zero, suc, ◌-◌, ◌<◌}
use native.Mathlib.Omega.{arith}
use lib.ListN.{take, get_or}
use Rattle.layout.specs.Parts.{nothing}
use Rattle.layout.specs.Table.{reply}
use Rattle.layout.specs.Values.{Part, bytes_in}
use Rattle.layout.specs.Reading.{read}
use Rattle.layout.specs.Names as layout
use Rattle.layout.specs.Names.{names_of, opened, name, ended, step, steps, gather}
use Rattle.layout.proofs.Iterating.{opened-steps, ended-stays}
use Rattle.wire.specs.declared.Run.{Run}
use Rattle.wire.specs.Runs.{shown}
use Rattle.names.specs.declared.Position.{Position}
use Rattle.names.specs.declared.Step.TheVariants as S
use Rattle.names.specs.Positions.{position_of, name_of, behind, skipped, nth_name}
use Rattle.names.proofs.Stepping.{Next, step-inside}

-- ---- one step of those to make, or none

pub skip-none : (m : List ℕ) (w : layout.Position) (n : ℕ) → n ≡ 0 → w ≡ skipped n m w
skip-none m w n e = rw e

pub skip-name : {m : List ℕ} {w v : Position} {x : Run} (n : ℕ) → 0 < n → Next m w (S.Name x v) → skipped (n - 1) m (position_of v) ≡ skipped n m (position_of w)
skip-name {m} {w} {v} n l e =
    let s : n ≡ suc (n - 1) = omega arith in
    ap (λ (u : layout.Step). skipped (n - 1) m (behind u)) e.is ∙ sym (ap (λ (k : ℕ). skipped k m (position_of w)) s)

-- where there is no name, however many steps there are to make
ended-skips : (n : ℕ) (m : List ℕ) (w : layout.Position) → step m w ≡ ended w → skipped n m w ≡ w
ended-skips zero m w e = refl
ended-skips (suc n) m w e = rw e (ended-skips n m w e)

pub skip-end : {m : List ℕ} {w v : Position} (n : ℕ) → Next m w (S.End v) → position_of v ≡ skipped n m (position_of w)
skip-end {m} {w} {v} n e =
    let s = ended-stays m (position_of w) (sym e.is) in
    s ∙ sym (ended-skips n m (position_of w) (sym e.is ∙ ap ended s))

-- one step more, behind those made
pub skip-more : (n : ℕ) (m : List ℕ) (w : layout.Position) → behind (step m (skipped n m w)) ≡ skipped (suc n) m w
skip-more zero m w = refl
skip-more (suc n) m w = skip-more n m (behind (step m w))

-- ---- the name behind n names is the n-th of the reply, counted from 0

ended-steps : (n : ℕ) (m : List ℕ) (w : layout.Position) → step m w ≡ ended w → steps n m w ≡ []
ended-steps zero m w e = refl
ended-steps (suc n) m w e = rw e (ended-steps n m w e)

skipped-name : (n : ℕ) (m : List ℕ) (w : layout.Position) → name_of (step m (skipped n m w)) ≡ get_or (steps (suc n) m w) n nothing
skipped-name zero m w = go (step m w)
  where
    go : (s : layout.Step) → name_of s ≡ get_or (gather s (λ x v. x ∷ []) (λ v. [])) 0 nothing
    go (name x v) = refl
    go (ended v) = refl
skipped-name (suc n) m w = go (step m w) refl (skipped-name n m)
  where
    go : (s : layout.Step) → step m w ≡ s → ((v : layout.Position) → name_of (step m (skipped n m v)) ≡ get_or (steps (suc n) m v) n nothing)
        → name_of (step m (skipped n m (behind s))) ≡ get_or (gather s (λ x v. x ∷ steps (suc n) m v) (λ v. steps (suc n) m v)) (suc n) nothing
    go (name x v) e h = h v
    go (ended v) e h =
        let f : step m v ≡ ended v = ap (step m) (ended-stays m w e) ∙ e in
        rw (ended-skips n m v f, ended-steps (suc n) m v f, f)

get_d_take : {A : Type 0} (n : ℕ) (xs : List A) (d : A) → get_or (take (suc n) xs) n d ≡ get_or xs n d
get_d_take zero [] d = refl
get_d_take (suc n) [] d = refl
get_d_take zero (x ∷ xs) d = refl
get_d_take (suc n) (x ∷ xs) d = get_d_take n xs d

pub nth-name : (n : ℕ) (m : List ℕ) → name_of (step m (skipped n m (opened m))) ≡ nth_name n m
nth-name n m = skipped-name n m (opened m) ∙ ap (λ (xs : List Part). get_or xs n nothing) (opened-steps (suc n) m) ∙ get_d_take n (names_of (read reply m)) nothing

-- so it lies inside the message
pub nth_inside : (n : ℕ) (m : List ℕ) → shown m (nth_name n m) ≡ bytes_in m (nth_name n m)
nth_inside n m = subst (λ (x : Part). shown m x ≡ bytes_in m x) (nth-name n m) (step-inside m (skipped n m (opened m)))
