-- Laws of well-formed text and of its end. Assumes nothing.
use mathlib.Core.Path.{◌≡◌, refl, sym, ap, ◌∙◌, subst}
use mathlib.Core.Bool.{true}
use mathlib.Core.List.{List, [], ◌∷◌, ◌++◌, append_assoc, append-nil, Memᴰ}
use mathlib.Core.Logic.{◌↔◌}
use Prim.Native.Nat.{ℕ, zero, suc, ◌+◌, ◌-◌, ◌≤◌, ◌<◌}
use native.Mathlib.Decide.{dec_lt}
use native.Mathlib.Nat.{add-zero, le_refl, le_of_suc-le-suc}
use native.Mathlib.Omega.{arith}
use lib.ListN.{length, take, drop, length-drop, length-append, take-append-drop}
use lib.Seq.{drop_at, length-take-le, take-add, take-length}
use borrow.Author.Tests.{eq-eqb, ne_eqb, eqb-true}
use Rattle.text.specs.Utf8.{Entry, entries, matches, size, character, end_after, well_formed_end, well_formed, WellFormed, empty, more}
use Rattle.text.proofs.Characters.{Begun, character-found, character-begun, matches-append, matches-long}

-- ---- the end, character by character

pub character-fits : (s : List ℕ) → character s ≤ length s
unfolding character
character-fits s = go (dec_lt 0 (character s))
  where
    go : Dec (0 < character s) → character s ≤ length s
    go (yes p) =
        let b : Begun entries s = character-begun s p in
        let l : size b.entry ≤ length s = matches-long b.entry s b.does in
        rw b.sized l
    go (no n) = omega arith

end_after_lem : (k : ℕ) (s : List ℕ) → k ≤ length s → end_after k s ≡ k + end_after 0 (drop k s)
end_after_lem zero s h = omega arith
end_after_lem (suc k) [] h = let none : ⊥ = omega arith in absurd none
end_after_lem (suc k) (b ∷ s) h =
    let e : end_after k s ≡ k + end_after 0 (drop k s) = end_after_lem k s (le_of_suc-le-suc h) in
    omega arith

end-over : (n b : ℕ) (s : List ℕ) → n ≤ suc (length s) → 0 < n → suc (end_after (n - 1) s) ≡ n + end_after 0 (drop n (b ∷ s))
end-over zero b s h p = let none : ⊥ = omega arith in absurd none
end-over (suc m) b s h p =
    let e : end_after m s ≡ m + end_after 0 (drop m s) = end_after_lem m s (le_of_suc-le-suc h) in
    let d : suc m - 1 ≡ m = omega arith in
    rw d (omega arith)

-- where a character begins the list, the end is past it
pub end-next : (s : List ℕ) → 0 < character s → well_formed_end s ≡ character s + well_formed_end (drop (character s) s)
unfolding well_formed_end
end-next [] p = let none : ⊥ = omega (arith, character-fits []) in absurd none
end-next (b ∷ s) p =
    rw (ne_eqb (character (b ∷ s)) 0 (λ z. omega arith)) (end-over (character (b ∷ s)) b s (character-fits (b ∷ s)) p)

-- and where none does, the end is there
pub end_none : (s : List ℕ) → character s ≡ 0 → well_formed_end s ≡ 0
unfolding well_formed_end
end_none [] z = refl
end_none (b ∷ s) z = rw (eq-eqb (character (b ∷ s)) 0 z)

pub end_empty : well_formed_end [] ≡ 0
unfolding well_formed_end
end_empty = refl

-- ---- text

-- a character in front of a list
in-front : {e : Entry} (c s : List ℕ) → Memᴰ e entries → matches e c ≡ true → length c ≡ size e
    → (character (c ++ s) ≡ length c) × (drop (character (c ++ s)) (c ++ s) ≡ s)
in-front {e} c s m h l =
    let n : character (c ++ s) ≡ length c = character-found (c ++ s) m (matches-append e c s (omega arith) ∙ h) ∙ sym l in
    (n, ap (λ (k : ℕ). drop k (c ++ s)) n ∙ drop_at c s (length c) refl)

-- well-formed text in front moves the end by its length
pub end-append : {p : List ℕ} (s : List ℕ) → WellFormed p → well_formed_end (p ++ s) ≡ length p + well_formed_end s
end-append s empty = omega arith
end-append s (more {e} c {s = p} m h l w) =
    let f = in-front c (p ++ s) m h l in
    let n : character (c ++ (p ++ s)) ≡ length c = f.0 in
    let next : well_formed_end (c ++ (p ++ s)) ≡ character (c ++ (p ++ s)) + well_formed_end (drop (character (c ++ (p ++ s))) (c ++ (p ++ s))) =
    end-next (c ++ (p ++ s)) (omega arith) in
    let rest : well_formed_end (drop (character (c ++ (p ++ s))) (c ++ (p ++ s))) ≡ well_formed_end (p ++ s) = ap well_formed_end f.1 in
    let r : well_formed_end (p ++ s) ≡ length p + well_formed_end s = end-append s w in
    rw (append_assoc c p s, length-append c p) (omega arith)

-- the beginning up to the end is well-formed
abbrev Well : List ℕ → Type 0
Well s = WellFormed (take (well_formed_end s) s) × (well_formed_end s ≤ length s)

well-step : (s : List ℕ) → Dec (0 < character s) → (0 < character s → Well (drop (character s) s)) → Well s
well-step s (no n) r = rw (end_none s (omega arith)) (empty, omega arith)
well-step s (yes p) r =
    let b : Begun entries s = character-begun s p in
    let n : ℕ = character s in
    let m : ℕ = well_formed_end (drop n s) in
    let e : well_formed_end s ≡ n + m = end-next s p in
    let f : n ≤ length s = character-fits s in
    let l : length (drop n s) ≡ length s - n = length-drop n s in
    let g : m ≤ length (drop n s) = (r p).1 in
    let k : length (take n s) ≡ n = length-take-le n s f in
    let z : n ≡ size b.entry = character-found s b.member b.does in
    let j : matches b.entry (take n s) ≡ true =
    sym (matches-append b.entry (take n s) (drop n s) (omega arith)) ∙ ap (matches b.entry) (take-append-drop n s) ∙ b.does in
    rw (e, take-add n m s) (more (take n s) b.member j (k ∙ z) (r p).0, omega arith)

well-within : (k : ℕ) (s : List ℕ) → length s ≤ k → Well s
well-within zero s l = well-step s (dec_lt 0 (character s)) (λ p. let none : ⊥ = omega (arith, character-fits s) in absurd none)
well-within (suc k) s l =
    well-step s (dec_lt 0 (character s))
    (λ p. well-within k (drop (character s) s) (let d : length (drop (character s) s) ≡ length s - character s = length-drop (character s) s in omega arith))

pub end-well : (s : List ℕ) → WellFormed (take (well_formed_end s) s)
end-well s = (well-within (length s) s (le_refl (length s))).0

pub end_fits : (s : List ℕ) → well_formed_end s ≤ length s
end_fits s = (well-within (length s) s (le_refl (length s))).1

-- no longer beginning is well-formed
pub end-longest : (s : List ℕ) (n : ℕ) → n ≤ length s → WellFormed (take n s) → n ≤ well_formed_end s
end-longest s n l w =
    let e : well_formed_end (take n s ++ drop n s) ≡ length (take n s) + well_formed_end (drop n s) = end-append (drop n s) w in
    let f : length (take n s) ≡ n = length-take-le n s l in
    let g : well_formed_end (take n s ++ drop n s) ≡ well_formed_end s = ap well_formed_end (take-append-drop n s) in
    omega arith

-- a list is well-formed exactly when its end is its length
pub well-formed-end : (s : List ℕ) → WellFormed s ↔ (well_formed_end s ≡ length s)
well-formed-end s = (
  (λ w. let e : well_formed_end (s ++ []) ≡ length s + well_formed_end [] = end-append [] w in rw (append-nil, end_empty) at e ∙ add-zero (length s)),
  (λ e. subst (λ (l : List ℕ). WellFormed l) (ap (λ (n : ℕ). take n s) e ∙ take-length s) (end-well s)),
)

-- and so exactly when the test says so
pub well-formed-test : (s : List ℕ) → WellFormed s ↔ (well_formed s ≡ true)
unfolding well_formed
well-formed-test s = (
  (λ w. eq-eqb (well_formed_end s) (length s) ((well-formed-end s).0 w)),
  (λ t. (well-formed-end s).1 (eqb-true (well_formed_end s) (length s) t)),
)

-- a well-formed beginning can be dropped
pub well-formed-drop : {p : List ℕ} (s : List ℕ) → WellFormed p → WellFormed (p ++ s) ↔ WellFormed s
well-formed-drop {p} s w =
    let e : well_formed_end (p ++ s) ≡ length p + well_formed_end s = end-append s w in
    let l : length (p ++ s) ≡ length p + length s = length-append p s in (
      (λ v. (well-formed-end s).1 (let f : well_formed_end (p ++ s) ≡ length (p ++ s) = (well-formed-end (p ++ s)).0 v in omega arith)),
      (λ v. (well-formed-end (p ++ s)).1 (let f : well_formed_end s ≡ length s = (well-formed-end s).0 v in omega arith)),
    )
