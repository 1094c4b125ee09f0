-- What each call comes to, by the tests that it meets: what code that makes these tests cites. Assumes nothing.
use mathlib.Core.Path.{◌≡◌}
use mathlib.Core.Bool.{true, false}
use mathlib.Core.List.{List, map}
use Prim.Native.Nat.{ℕ, ◌<◌, ◌≤◌}
use lib.ListN.{length}
use borrow.Author.Tests.{ne_eqb, eq-eqb, le-leb, lt-leb}
use Rattle.layout.specs.Refusals.{unexpected_type, id_outstanding, table_full, id_not_outstanding, type_mismatch, unsound_table}
use Rattle.layout.specs.Reading.{Answer}
use Rattle.outstanding_records.specs.declared.Record.{Record}
use Rattle.outstanding.specs.Records.{is_free, holds_id, any, lookup, ids}
use Rattle.outstanding_records.specs.Copies.{size}
use Rattle.outstanding.specs.Calls.{type_bound, sound, entered, removed, outcome, performed, done, refused, refuse_call, empty, request, insert, enter, answers, answered, refuse_reply, settle_accepted, settle, arrive, seen, not_seen, look}

-- ---- emptying

module _ {R : Type 0} (free : R) (l : List R) where
  pub empty-other-size : (length l ≡ size → ⊥) → empty free l ≡ performed (refused unsound_table 0) l
  unfolding empty
  empty-other-size h = rw (ne_eqb (length l) size h)

  pub empty-done : length l ≡ size → empty free l ≡ performed done (map (λ r. free) l)
  unfolding empty
  empty-done h = rw (eq-eqb (length l) size h)

-- ---- a table that is not sound refuses

module _ (l : List Record) where
  pub other-size : (length l ≡ size → ⊥) → sound l ≡ false
  unfolding sound
  other-size h = rw (ne_eqb (length l) size h)

  module _ (e : sound l ≡ false) where
    pub enter-unsound : (i t : ℕ) → enter l i t ≡ refuse_call unsound_table
    unfolding enter
    enter-unsound i t = rw e

    pub arrive-unsound : (a : Answer) → arrive l a ≡ refuse_reply unsound_table
    unfolding arrive
    arrive-unsound a = rw e

    pub look-unsound : (i : ℕ) → look l i ≡ not_seen unsound_table 0
    unfolding look
    look-unsound i = rw e

  module _ (e : sound l ≡ true) where
    pub enter-sound : (i t : ℕ) → enter l i t ≡ insert l i t
    unfolding enter
    enter-sound i t = rw e

    pub arrive-sound : (a : Answer) → arrive l a ≡ settle l a
    unfolding arrive
    arrive-sound a = rw e

    pub look-sound : (i : ℕ) → look l i ≡ seen (length (ids l)) (lookup l i)
    unfolding look
    look-sound i = rw e

-- ---- entering

module _ (l : List Record) (i t : ℕ) where
  pub insert-reply-type : type_bound ≤ t → insert l i t ≡ refuse_call unexpected_type
  unfolding insert
  insert-reply-type h = rw (le-leb type_bound t h)

  module _ (h : t < type_bound) where
    pub insert-outstanding : any (holds_id i) l ≡ true → insert l i t ≡ refuse_call id_outstanding
    unfolding insert
    insert-outstanding e = rw (lt-leb type_bound t h, e)

    pub insert-full : any (holds_id i) l ≡ false → any is_free l ≡ false → insert l i t ≡ refuse_call table_full
    unfolding insert
    insert-full e f = rw (lt-leb type_bound t h, e, f)

    pub insert-done : any (holds_id i) l ≡ false → any is_free l ≡ true → insert l i t ≡ outcome done (entered i (request t))
    unfolding insert
    insert-done e f = rw (lt-leb type_bound t h, e, f)

-- ---- an accepted reply

module _ (l : List Record) (i t : ℕ) (a : Answer) where
  pub settle-not-outstanding : any (holds_id i) l ≡ false → settle_accepted l i t a ≡ refuse_reply id_not_outstanding
  unfolding settle_accepted
  settle-not-outstanding e = rw e

  module _ (e : any (holds_id i) l ≡ true) where
    pub settle-mismatch : answers t (lookup l i) ≡ false → settle_accepted l i t a ≡ refuse_reply type_mismatch
    unfolding settle_accepted
    settle-mismatch f = rw (e, f)

    pub settle-answered : answers t (lookup l i) ≡ true → settle_accepted l i t a ≡ outcome (answered a) (removed i)
    unfolding settle_accepted
    settle-answered f = rw (e, f)
