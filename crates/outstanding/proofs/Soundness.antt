-- A sound table: what it has, and that it stays sound. Assumes nothing.
use mathlib.Core.Path.{◌≡◌, refl, ◌∙◌}
use mathlib.Core.Bool.{true, false}
use mathlib.Core.List.{List, [], ◌∷◌, map}
use Prim.Native.Nat.{ℕ, ◌<◌}
use lib.Dec.{eqb}
use lib.ListN.{length}
use borrow.Author.Tests.{eqb-true, eq-eqb, lt-ltb}
use Rattle.outstanding_records.specs.declared.Record.{Record}
use Rattle.outstanding_records.specs.declared.Record.TheVariants.{Free, Held}
use Rattle.outstanding.specs.Records.{is_free, holds_id, any, all, replace, distinct}
use Rattle.outstanding_records.specs.Copies.{size}
use Rattle.outstanding.specs.Calls.{type_bound, in_bounds, sound, request}
use Rattle.layout.proofs.Tests.{and_both}
use Rattle.std.proofs.lemmas.List.{length-map}
use Rattle.outstanding.proofs.Lists.{replace-length, all-replace}
use Rattle.outstanding.proofs.Maps.{distinct-cleared, distinct-entered, distinct-removed}

pub record Sound (l : List Record) : Type 0 where
  pub full_size : length l ≡ size
  pub bounds : all in_bounds l ≡ true
  pub alone : distinct l ≡ true

pub sound-out : (l : List Record) → sound l ≡ true → Sound l
unfolding sound
sound-out l e =
    let a = and_both (eqb (length l) size) _ e in
    let b = and_both (all in_bounds l) (distinct l) a.1 in
    record { full_size = eqb-true _ _ a.0; bounds = b.0; alone = b.1 }

pub sound-in : (l : List Record) → Sound l → sound l ≡ true
unfolding sound
sound-in l s = rw (eq-eqb (length l) size s.full_size, s.bounds, s.alone)

-- ---- 64 free records

bounds-cleared : (l : List Record) → all in_bounds (map (λ r. Free) l) ≡ true
bounds-cleared [] = refl
bounds-cleared (r ∷ l) = bounds-cleared l

pub sound-cleared : (l : List Record) → length l ≡ size → Sound (map (λ r. Free) l)
sound-cleared l e = record { full_size = length-map l (λ (r : Record). Free) ∙ e; bounds = bounds-cleared l; alone = distinct-cleared l }

-- ---- one record less or more

module _ (l : List Record) (s : Sound l) where
  pub sound-entered : (i t : ℕ) → t < type_bound → any (holds_id i) l ≡ false → Sound (replace is_free (Held i (request t)) l)
  sound-entered i t h n = record {
    full_size = replace-length is_free (Held i (request t)) l ∙ s.full_size;
    bounds = all-replace in_bounds is_free (Held i (request t)) l (lt-ltb t type_bound h) s.bounds;
    alone = distinct-entered l i (request t) n s.alone;
  }

  pub sound-removed : (i : ℕ) → Sound (replace (holds_id i) Free l)
  sound-removed i = record {
    full_size = replace-length (holds_id i) Free l ∙ s.full_size;
    bounds = all-replace in_bounds (holds_id i) Free l refl s.bounds;
    alone = distinct-removed l i s.alone;
  }
