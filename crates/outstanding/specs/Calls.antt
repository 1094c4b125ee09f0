-- The table of outstanding requests (document 02, Item 5): what emptying, entering and an arriving reply come to, for every list of records.
use Rattle.std.specs.Prelude.{ℕ, ◌+◌, Bool, true, false, not, cond, ◌&&◌, ◌||◌, List, [], ◌∷◌, map, eqb, leb, ltb, length}
use Rattle.std.proofs.Math.Option.{Option, none, some}
use Rattle.method.specs.Methods.{reply_offset}
use Rattle.layout.specs.Refusals.{unexpected_type, id_outstanding, table_full, id_not_outstanding, type_mismatch, unsound_table}
use Rattle.layout.specs.Table.{unknown_response}
use Rattle.layout.specs.Reading.{Answer, refused as not-read, accepted}
use Rattle.outstanding_records.specs.Copies.{size}
use Rattle.outstanding_records.specs.declared.Request.{Request}
use Rattle.outstanding_records.specs.declared.Record.{Record}
use Rattle.outstanding_records.specs.declared.Record.TheVariants.{Free, Held}
use Rattle.outstanding.specs.Records.{is_free, holds_id, any, all, replace, distinct, lookup, ids}

-- ---- numbers

-- the types of requests lie below those of replies
abbrev pub type_bound : ℕ
type_bound = reply_offset

-- ---- a sound table

abbrev pub in_bounds : Record → Bool
in_bounds Free = true
in_bounds (Held i q) = ltb q.type_number type_bound

unfoldable pub sound : List Record → Bool
sound l = eqb (length l) size && (all in_bounds l && distinct l)

-- ---- what a call tells, and what it does to the records

-- at most one record changes
pub data Change : Type 0 where
  kept : Change
  -- the first free record holds this request under this id
  entered : ℕ → Request → Change
  -- the record that holds this id is freed
  removed : ℕ → Change

abbrev pub after : Change → List Record → List Record
after kept l = l
after (entered i q) l = replace is_free (Held i q) l
after (removed i) l = replace (holds_id i) Free l

pub record CallOutcome (A : Type 0) : Type 0 where
  pub told : A
  pub change : Change

abbrev pub outcome : {A : Type 0} → A → Change → CallOutcome A
outcome a c = record { told = a; change = c }

-- a call on a table whose records are written as R: what it told, and the table afterwards
pub record Performed (A R : Type 0) : Type 0 where
  pub told : A
  pub table : List R

abbrev pub performed : {A R : Type 0} → A → List R → Performed A R
performed a l = record { told = a; table = l }

abbrev pub perform : {A : Type 0} → CallOutcome A → List Record → Performed A Record
perform o l = performed o.told (after o.change l)

-- refusals in their order: the number of the first test that holds
abbrev pub checks : {A : Type 0} → List (Bool × ℕ) → (ℕ → A) → A → A
checks [] stop go = go
checks (c ∷ cs) stop go = cond c.0 (stop c.1) (checks cs stop go)

-- what emptying and entering tell: done, or a refusal's number and place
pub data Told : Type 0 where
  done : Told
  refused : ℕ → ℕ → Told

abbrev pub refuse_call : ℕ → CallOutcome Told
refuse_call n = outcome (refused n 0) kept

-- ---- emptying frees every record, and asks only for their number

abbrev pub size_checks : {R : Type 0} → List R → List (Bool × ℕ)
size_checks l = (not (eqb (length l) size), unsound_table) ∷ []

unfoldable pub empty : {R : Type 0} → R → List R → Performed Told R
empty free l = checks (size_checks l) (λ n. performed (refused n 0) l) (performed done (map (λ r. free) l))

-- ---- entering; every call but emptying first asks for a sound table

abbrev pub sound_checks : List Record → List (Bool × ℕ)
sound_checks l = (not (sound l), unsound_table) ∷ []

abbrev pub request : ℕ → Request
request t = record { type_number = t }

abbrev pub entry_checks : List Record → ℕ → ℕ → List (Bool × ℕ)
entry_checks l i t =
    (leb type_bound t, unexpected_type)
    ∷ (any (holds_id i) l, id_outstanding)
    ∷ (not (any is_free l), table_full)
    ∷ []

-- what entering comes to behind the first test
unfoldable pub insert : List Record → ℕ → ℕ → CallOutcome Told
insert l i t = checks (entry_checks l i t) refuse_call (outcome done (entered i (request t)))

unfoldable pub enter : List Record → ℕ → ℕ → CallOutcome Told
enter l i t = checks (sound_checks l) refuse_call (insert l i t)

-- ---- an arriving reply, by the answer of its reader

-- a reply of type t answers this request
abbrev pub answers : ℕ → Option Request → Bool
answers t none = false
answers t (some q) = eqb t (q.type_number + reply_offset) || eqb t unknown_response

-- what an arriving reply is told: the reader's answer, or a refusal's number and place
pub data Arrival : Type 0 where
  answered : Answer → Arrival
  refused-reply : ℕ → ℕ → Arrival

abbrev pub refuse_reply : ℕ → CallOutcome Arrival
refuse_reply n = outcome (refused-reply n 0) kept

abbrev pub reply_checks : List Record → ℕ → ℕ → List (Bool × ℕ)
reply_checks l i t =
    (not (any (holds_id i) l), id_not_outstanding)
    ∷ (not (answers t (lookup l i)), type_mismatch)
    ∷ []

-- a reply with this id and type, which its reader accepted with this answer
unfoldable pub settle_accepted : List Record → ℕ → ℕ → Answer → CallOutcome Arrival
settle_accepted l i t a = checks (reply_checks l i t) refuse_reply (outcome (answered a) (removed i))

-- what an arriving reply comes to behind the first test
abbrev pub settle : List Record → Answer → CallOutcome Arrival
settle l (not-read n p) = outcome (refused-reply n p) kept
settle l (accepted s i t vs k) = settle_accepted l i t (accepted s i t vs k)

unfoldable pub arrive : List Record → Answer → CallOutcome Arrival
arrive l a = checks (sound_checks l) refuse_reply (settle l a)

-- ---- a look: how many are outstanding, and the request of an id

pub data Looked : Type 0 where
  seen : ℕ → Option Request → Looked
  not_seen : ℕ → ℕ → Looked

unfoldable pub look : List Record → ℕ → Looked
look l i = checks (sound_checks l) (λ n. not_seen n 0) (seen (length (ids l)) (lookup l i))
