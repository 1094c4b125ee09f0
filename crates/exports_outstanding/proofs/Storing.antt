-- From a decision on the records to the words, and to what a host is shown. Assumes nothing.
use mathlib.Core.Path.{◌≡◌, refl, sym, ap, ◌∙◌}
use mathlib.Core.List.{List}
use Prim.Native.Nat.{ℕ}
use native.Mathlib.Omega.{arith}
use lib.ListN.{length, set}
use lib.Seq.{set_out}
use Rattle.layout.specs.Table.{reply}
use Rattle.layout.specs.Reading.{Answer, read}
use Rattle.layout.specs.Front.{type_of}
use Rattle.outstanding_records.specs.declared.Record.{Record}
use Rattle.outstanding_records.specs.declared.Record.TheVariants.{Free, Held}
use Rattle.outstanding.specs.Records.{is_free, holds_id}
use Rattle.outstanding.specs.Calls.{Change, kept, entered, removed, CallOutcome, Arrival, arrive}
use Rattle.std.proofs.lemmas.List.{length-map}
use Rattle.outstanding.proofs.Lists.{replace-set, first-map}
use Rattle.outstanding.proofs.Views.{Arriving, stopped, passed, arriving}
use Rattle.outstanding_decisions.specs.Decisions.{place, stored, Decided}
use Rattle.outstanding_records.specs.Words.{word_of, record_of, records}
use Rattle.outstanding_words.specs.Words.{after_words}
use Rattle.exports_reading.specs.Typed.{typed}
use Rattle.exports_reading.proofs.Typed.{same-type}
use Rattle.exports_outstanding.specs.Shown.{shown_of}

module _ (ws : List ℕ) where
  by : (c : Change) → set ws (place c (records ws)) (word_of (stored c)) ≡ after_words c ws
  by kept = rw (length-map ws record_of) (set_out ws (length ws) (word_of Free) (omega arith))
  by (entered i q) = ap (λ (n : ℕ). set ws n (word_of (Held i q))) (first-map record_of is_free ws) ∙ sym (replace-set (λ w. is_free (record_of w)) (word_of (Held i q)) ws)
  by (removed i) = ap (λ (n : ℕ). set ws n (word_of Free)) (first-map record_of (holds_id i) ws) ∙ sym (replace-set (λ w. holds_id i (record_of w)) (word_of Free) ws)

  -- once the record is stored as a word, the words are what the call leaves
  pub stores : {A : Type 0} {a : A} {at : ℕ} {r : Record} {o : CallOutcome A} → Decided (records ws) a at r o → set ws at (word_of r) ≡ after_words o.change ws
  stores {A} {a} {at} {r} {o} d = rw (d.stands, d.stores) (by o.change)

-- the type in the message is that of the answer, where the reply is answered
pub typed-arrival : (l : List Record) (m : List ℕ) → typed (type_of m) (shown_of (arrive l (read reply m)).told) ≡ shown_of (arrive l (read reply m)).told
typed-arrival l m = go (arriving l (read reply m)) refl
  where
    go : {a : Answer} {o : CallOutcome Arrival} → Arriving l a o → read reply m ≡ a → typed (type_of m) (shown_of o.told) ≡ shown_of o.told
    go (stopped n p) e = refl
    go {a} (passed q s h f g) e = ap (typed (type_of m)) (sym e) ∙ same-type reply m ∙ e
