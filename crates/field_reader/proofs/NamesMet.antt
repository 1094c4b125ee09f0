-- Names read one after another, as a loop meets them. Assumes nothing.
use mathlib.Core.Path.{◌≡◌, refl, sym, ap, ◌∙◌}
use mathlib.Core.Bool.{Bool, true, false, cond}
use mathlib.Core.List.{List, [], ◌∷◌, ◌++◌, append_assoc, append-nil}
use Prim.Native.Nat.{ℕ, suc, ◌+◌, ◌-◌, ◌<◌}
use native.Mathlib.Omega.{arith}
use lib.Dec.{eqb}
use borrow.Author.Tests.{eq-eqb, ne_eqb}
use Rattle.layout.specs.Kinds.{string, strings}
use Rattle.layout.specs.Values.{Part, Value, run, runs}
use Rattle.layout.specs.Reading.{Outcome, got, fail, followed, mapped, num_at, string_at, strings_at}
use Rattle.layout.specs.Names.{names_at}
use Rattle.layout.proofs.Iterating.{strings-are-names}
use Rattle.layout.proofs.Tests.{apart}
use Rattle.wire.specs.declared.Cursor.{Cursor}
use Rattle.wire.specs.Cursors.{place}
use Rattle.field_reader.specs.Cursors.{outcome_at, Ended, Took}
use Rattle.field_reader.proofs.Cursors.{chain, map-ended, stays, at_place, refused-there}

-- ---- a string that was read at a place

module _ (m : List ℕ) (at : ℕ) {x : Part} {d : Cursor} (h : Took m (place at) string (run x) d) where
  pub string-met : d.code ≡ 0 → string_at m at ≡ got x d.at
  string-met z = go (string_at m at) (rw (eq-eqb d.code 0 z) at h.is)
    where
      go : (o : Outcome Part) → ◌≡◌ {A = Outcome (Value Part)} (got (run x) d.at) (followed o (λ a q. got (run a) q)) → o ≡ got x d.at
      go (got y q) e = cc
      go (fail n p) e = let z : false ≡ true = cc in apart z

  pub string-failed : (d.code ≡ 0 → ⊥) → string_at m at ≡ fail d.code d.at
  string-failed z = go (string_at m at) (rw (ne_eqb d.code 0 z) at h.is)
    where
      go : (o : Outcome Part) → ◌≡◌ {A = Outcome (Value Part)} (fail d.code d.at) (followed o (λ a q. got (run a) q)) → o ≡ fail d.code d.at
      go (got y q) e = let z : false ≡ true = cc in apart z
      go (fail n p) e = cc

-- ---- the loop: the names that were met, and what is left of the n that begin at start

pub record Met (m : List ℕ) (n start left at : ℕ) : Type 0 where
  pub names : List Part
  pub is : strings_at n m start ≡ followed (strings_at left m at) (λ xs q. got (names ++ xs) q)

followed-got : (o : Outcome (List Part)) → o ≡ followed o (λ xs q. got xs q)
followed-got (got xs q) = refl
followed-got (fail n p) = refl

pub met-none : (m : List ℕ) (n start : ℕ) → Met m n start n start
met-none m n start = record { names = []; is = followed-got (strings_at n m start) }

one_more : (o : Outcome (List Part)) (ns : List Part) (x : Part)
    → followed (followed o (λ xs q. got (x ∷ xs) q)) (λ xs q. got (ns ++ xs) q) ≡ followed o (λ xs q. got (ns ++ (x ∷ []) ++ xs) q)
one_more (got xs q) ns x = ap (λ (l : List Part). got l q) (sym (append_assoc ns (x ∷ []) xs))
one_more (fail n p) ns x = refl

pub met-more : {m : List ℕ} {n start left at : ℕ} → Met m n start left at → 0 < left → {x : Part} {q : ℕ} → string_at m at ≡ got x q → Met m n start (left - 1) q
met-more {m} {n} {start} {left} {at} h l {x} {q} e =
    let s : left ≡ suc (left - 1) = omega arith in
    record {
      names = h.names ++ (x ∷ []);
      is = h.is ∙ ap (λ (k : ℕ). followed (strings_at k m at) (λ xs r. got (h.names ++ xs) r)) s ∙ rw e (one_more (strings_at (left - 1) m q) h.names x);
    }

pub met-failed : {m : List ℕ} {n start left at : ℕ} → Met m n start left at → 0 < left → {c p : ℕ} → string_at m at ≡ fail c p → strings_at n m start ≡ fail c p
met-failed {m} {n} {start} {left} {at} h l e =
    let s : left ≡ suc (left - 1) = omega arith in
    h.is ∙ ap (λ (k : ℕ). followed (strings_at k m at) (λ xs r. got (h.names ++ xs) r)) s ∙ rw e

pub met_all : {m : List ℕ} {n start left at : ℕ} → Met m n start left at → left ≡ 0 → strings_at n m start ≡ got (names_at n m start) at
met_all {m} {n} {start} {left} {at} h z =
    let e : strings_at n m start ≡ got (h.names ++ []) at = h.is ∙ ap (λ (k : ℕ). followed (strings_at k m at) (λ xs r. got (h.names ++ xs) r)) z in
    e ∙ ap (λ (xs : List Part). got xs at) (strings-are-names n m start e)

-- ---- a count, and the names behind it

module _ {m : List ℕ} {c first : Cursor} {e n : ℕ} (h : Ended m c (num_at 4) e n first) where
  -- the count was refused
  pub count-refused : (first.code ≡ 0 → ⊥) → Took m c strings (runs []) first
  count-refused z = chain (num_at 4) (λ k. mapped runs (strings_at k)) h (stays first (mapped runs (strings_at n)) (runs []) z)

  -- or one of the names
  pub name-refused : (d : Cursor) → first.code ≡ 0 → strings_at n m first.at ≡ outcome_at d [] → Took m c strings (runs []) d
  name-refused d z e = chain (num_at 4) (λ k. mapped runs (strings_at k)) h (map-ended runs (strings_at n) (refused-there first (strings_at n) [] d z e))

  -- or all were read
  pub names-read : (xs : List Part) (p : ℕ) → first.code ≡ 0 → strings_at n m first.at ≡ got xs p → Took m c strings (runs xs) (place p)
  names-read xs p z e = chain (num_at 4) (λ k. mapped runs (strings_at k)) h (map-ended runs (strings_at n) (at_place first (strings_at n) [] xs p z e))
