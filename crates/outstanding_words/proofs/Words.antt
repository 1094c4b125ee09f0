-- Words and the records that they are. Assumes nothing.
use mathlib.Core.Path.{◌≡◌, refl, sym, ap, ◌∙◌}
use mathlib.Core.Bool.{Bool, true, false, cond}
use mathlib.Core.List.{List, [], ◌∷◌, map}
use Prim.Native.Nat.{ℕ, ◌/◌, ◌%◌}
use native.Mathlib.Omega.{arith}
use lib.Dec.{eqb}
use borrow.Author.Tests.{eqb-true}
use Rattle.outstanding_records.specs.declared.Record.{Record}
use Rattle.outstanding_records.specs.declared.Record.TheVariants.{Free, Held}
use Rattle.outstanding.specs.Records.{is_free, holds_id, all, replace}
use Rattle.outstanding.specs.Calls.{in_bounds, Change, kept, entered, removed, after, request}
use Rattle.layout.proofs.Tests.{apart}
use Rattle.outstanding.proofs.Lists.{all_in, replace-map}
use Rattle.outstanding_records.specs.Words.{type_unit, tenant_unit, byte, held_mark, word_of, is_held, no_type, record_of, records}
use Rattle.outstanding_records.proofs.Words.{free-read}
use Rattle.outstanding_words.specs.Words.{after_words}

-- ---- a word whose record may stand in a sound table is that record's word

pub word-of-read : (w : ℕ) → in_bounds (record_of w) ≡ true → word_of (record_of w) ≡ w
unfolding word_of record_of
word-of-read w h = by (eqb w 0) (is_held w) refl refl h
  where
    by : (b c : Bool) → eqb w 0 ≡ b → is_held w ≡ c → in_bounds (cond b Free (Held (w % type_unit) (request (cond c (w / type_unit % byte) no_type)))) ≡ true
        → word_of (cond b Free (Held (w % type_unit) (request (cond c (w / type_unit % byte) no_type)))) ≡ w
    by true c e f g = sym (eqb-true w 0 e)
    by false true e f g = let top : w / tenant_unit ≡ held_mark / tenant_unit = eqb-true _ _ f in omega arith
    by false false e f g = apart g

-- a word that no record gives is no record of a sound table
pub stray-out : (w : ℕ) → ((r : Record) → word_of r ≡ w → ⊥) → in_bounds (record_of w) ≡ false
stray-out w h = by (in_bounds (record_of w)) refl
  where
    by : (b : Bool) → in_bounds (record_of w) ≡ b → in_bounds (record_of w) ≡ false
    by true e = absurd (h (record_of w) (word-of-read w e))
    by false e = e

-- ---- words and records change alike

-- what is stored reads back
abbrev pub Fits : Change → Type 0
Fits kept = Unit {0}
Fits (entered i q) = record_of (word_of (Held i q)) ≡ Held i q
Fits (removed i) = Unit {0}

pub records-after : (c : Change) (ws : List ℕ) → Fits c → records (after_words c ws) ≡ after c (records ws)
records-after kept ws f = refl
records-after (entered i q) ws f = replace-map record_of is_free (word_of (Held i q)) ws ∙ ap (λ (r : Record). replace is_free r (records ws)) f
records-after (removed i) ws f = replace-map record_of (holds_id i) (word_of Free) ws ∙ ap (λ (r : Record). replace (holds_id i) r (records ws)) free-read

-- ---- sound tables of words are equal where their records are

words-of-records : (ws : List ℕ) → all in_bounds (records ws) ≡ true → map word_of (records ws) ≡ ws
words-of-records [] h = refl
words-of-records (w ∷ ws) h =
    let s = all_in in_bounds (record_of w) (records ws) h in
    ap (λ (x : ℕ). x ∷ map word_of (records ws)) (word-of-read w s.0) ∙ ap (λ (xs : List ℕ). w ∷ xs) (words-of-records ws s.1)

pub same-words : (ws xs : List ℕ) → all in_bounds (records ws) ≡ true → records ws ≡ records xs → ws ≡ xs
same-words ws xs h e = sym (words-of-records ws h) ∙ ap (map word_of) e ∙ words-of-records xs (ap (all in_bounds) (sym e) ∙ h)
