-- From the tests that a function has made to what it decides. Assumes nothing.
use mathlib.Core.Path.{◌≡◌, refl, sym, ◌∙◌, ap}
use mathlib.Core.Bool.{Bool, true, false, cond, ◌||◌}
use mathlib.Core.List.{List, [], ◌∷◌}
use mathlib.Core.Option.{some}
use Prim.Native.Nat.{ℕ, suc}
use lib.Dec.{eqb}
use native.Mathlib.Omega.{arith}
use lib.ListN.{length, get_or, get_or-map, set}
use lib.Seq.{set_out}
use Rattle.std.specs.Prelude.{position, Some}
use Rattle.std.proofs.lemmas.List.{length-map}
use Rattle.outstanding_records.specs.declared.Record.{Record}
use Rattle.outstanding_records.specs.declared.Record.TheVariants.{Free, Held}
use Rattle.layout.specs.Table.{reply}
use Rattle.layout.specs.Values.{Part, Value}
use Rattle.layout.specs.Reading.{Shape, accepted, read}
use Rattle.layout.specs.Front.{type_of}
use Rattle.layout.proofs.Trace.{message-traced}
use Rattle.reply_reader.specs.declared.ReplyAnswer.{ReplyAnswer}
use Rattle.reply_reader.specs.declared.ReplyAnswer.TheVariants as reply'
use Rattle.reply_reader.specs.Answers.{answer_of}
use Rattle.outstanding.specs.Records.{is_free, holds_id, any, first, lookup}
use Rattle.outstanding.specs.Calls.{Change, kept, entered, removed, after, CallOutcome, outcome, performed, perform, refused-reply, settle_accepted, settle}
use Rattle.outstanding.proofs.Lists.{replace-set, found-at}
use Rattle.outstanding_records.specs.Words.{record_of, records}
use Rattle.outstanding_decisions.specs.declared.Reading.TheVariants as R
use Rattle.outstanding_decisions.specs.Decisions.{place, stored, Decided, request_in, reading_of}

-- a refusal stores nothing
pub stops : {A : Type 0} {l : List Record} {a x : A} {at : ℕ} {r : Record} {o : CallOutcome A} → a ≡ x → at ≡ length l → r ≡ Free → o ≡ outcome x kept → Decided l a at r o
stops {A} {l} {a} {x} {at} {r} {o} e f g h = rw h (record { tells = e; stands = f; stores = g })

-- the map at an id is what its first holder says
pub lookup_first : (l : List Record) (i : ℕ) (d : Record) → any (holds_id i) l ≡ true → lookup l i ≡ request_in (get_or l (first (holds_id i) l) d)
lookup_first [] i d h = absurd cc
lookup_first (Free ∷ l) i d h = lookup_first l i d h
lookup_first (Held j q ∷ l) i d h = by (eqb j i) h (λ g. lookup_first l i d g)
  where
    by : (b : Bool) → (b || any (holds_id i) l) ≡ true → (any (holds_id i) l ≡ true → lookup l i ≡ request_in (get_or l (first (holds_id i) l) d))
        → cond b (some q) (lookup l i) ≡ request_in (get_or (Held j q ∷ l) (cond b 0 (suc (first (holds_id i) l))) d)
    by true g f = refl
    by false g f = f g

-- a reply that its reader accepted is settled by its id and by the type in the message; one that it refused gets that refusal
module _ (l : List Record) (m : List ℕ) where
  at-type : {s : Shape} {i t k : ℕ} {vs : List (Value Part)} → read reply m ≡ accepted s i t vs k → settle l (read reply m) ≡ settle_accepted l i (type_of m) (accepted s i t vs k)
  at-type {s} {i} {t} {k} {vs} e = ap (settle l) e ∙ ap (λ (u : ℕ). settle_accepted l i u (accepted s i t vs k)) (sym (message-traced e).type.is)

  pub settle-accepted : (a : ReplyAnswer) (i : ℕ) → answer_of m a ≡ read reply m → reading_of a ≡ R.Accepted i → settle l (read reply m) ≡ settle_accepted l i (type_of m) (answer_of m a)
  settle-accepted (reply'.Success j r q k) i e f = let same : j ≡ i = cc in rw (sym same) (at-type (sym e))
  settle-accepted (reply'.Failure j t r k) i e f = let same : j ≡ i = cc in rw (sym same) (at-type (sym e))
  settle-accepted (reply'.Credentials j x k) i e f = let same : j ≡ i = cc in rw (sym same) (at-type (sym e))
  settle-accepted (reply'.UnknownResponse j k) i e f = let same : j ≡ i = cc in rw (sym same) (at-type (sym e))
  settle-accepted (reply'.Refused n p) i e f = let z : ◌≡◌ {A = ℕ} 0 1 = cc in absurd (omega (arith, z))

  pub settle-refused : (a : ReplyAnswer) (n p : ℕ) → answer_of m a ≡ read reply m → reading_of a ≡ R.Refused n p → settle l (read reply m) ≡ outcome (refused-reply n p) kept
  settle-refused (reply'.Success j r q k) n p e f = let z : ◌≡◌ {A = ℕ} 0 1 = cc in absurd (omega (arith, z))
  settle-refused (reply'.Failure j t r k) n p e f = let z : ◌≡◌ {A = ℕ} 0 1 = cc in absurd (omega (arith, z))
  settle-refused (reply'.Credentials j x k) n p e f = let z : ◌≡◌ {A = ℕ} 0 1 = cc in absurd (omega (arith, z))
  settle-refused (reply'.UnknownResponse j k) n p e f = let z : ◌≡◌ {A = ℕ} 0 1 = cc in absurd (omega (arith, z))
  settle-refused (reply'.Refused n' p') n p e f = let same : n' ≡ n = cc in let at : p' ≡ p = cc in rw (sym same, sym at) (ap (settle l) (sym e))

-- what is decided is what the call comes to, once the record is stored
pub performs : {A : Type 0} {l : List Record} {a : A} {at : ℕ} {r : Record} {o : CallOutcome A} → Decided l a at r o → performed a (set l at r) ≡ perform o l
performs {A} {l} {a} {at} {r} {o} d = rw (d.tells, d.stands, d.stores) (ap (performed o.told) (by o.change))
  where
    by : (c : Change) → set l (place c l) (stored c) ≡ after c l
    by kept = set_out l (length l) Free (omega arith)
    by (entered i q) = sym (replace-set is_free (Held i q) l)
    by (removed i) = sym (replace-set (holds_id i) Free l)

-- ---- a table of words

module _ (ws : List ℕ) where
  -- a refusal stores nothing
  pub stops-in : {A : Type 0} {a x : A} {at : ℕ} {r : Record} {o : CallOutcome A} → a ≡ x → at ≡ length ws → r ≡ Free → o ≡ outcome x kept → Decided (records ws) a at r o
  stops-in e f g h = stops e (f ∙ sym (length-map ws record_of)) g h

  -- the map at an id is what the word says where it is found
  pub lookup-at : (i : ℕ) {at : ℕ} → position (holds_id i) (records ws) ≡ Some at → lookup (records ws) i ≡ request_in (record_of (get_or ws at 0))
  lookup-at i {at} e =
      let found = found-at (holds_id i) (records ws) e in
      lookup_first (records ws) i (record_of 0) found.1
      ∙ ap (λ (n : ℕ). request_in (get_or (records ws) n (record_of 0))) (sym found.0)
      ∙ ap request_in (get_or-map record_of ws at 0)
