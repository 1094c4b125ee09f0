-- The table as a map from id to request, in the words of document 02, Item 5. Assumes nothing.
use mathlib.Core.Path.{◌≡◌, refl, sym, ◌∙◌, ap}
use mathlib.Core.Bool.{true, false, cond}
use mathlib.Core.List.{List, []}
use mathlib.Core.Option.{none, some}
use Prim.Native.Nat.{ℕ, ◌<◌, ◌≤◌}
use native.Mathlib.Omega.{arith}
use lib.Dec.{eqb}
use lib.ListN.{length}
use borrow.Author.Tests.{lt-ltb, le-ltb}
use Rattle.layout.specs.Values.{Part, Value}
use Rattle.layout.specs.Reading.{Shape, Answer, accepted}
use Rattle.outstanding_records.specs.declared.Record.{Record}
use Rattle.outstanding_records.specs.declared.Record.TheVariants.{Free}
use Rattle.outstanding.specs.Records.{is_free, holds_id, any, replace, lookup, ids, is_in, once, is_some}
use Rattle.outstanding_records.specs.Copies.{size}
use Rattle.layout.specs.Refusals.{table_full}
use Rattle.outstanding.specs.Calls.{type_bound, sound, entered, after, CallOutcome, outcome, Told, done, refused, refuse_call, empty, request, insert, enter, answers, Arrival, answered, refused-reply, settle_accepted, arrive}
use Rattle.outstanding.proofs.Cases.{empty-other-size, empty-done, enter-sound, arrive-sound, insert-full, insert-done, settle-answered}
use Rattle.outstanding.proofs.Maps.{lookup_absent, lookup-cleared, ids-cleared, lookup-entered, lookup-removed, remove-swap, held-some, held_in, ids-once, ids-most, removed-free, free-left, other_way}
use Rattle.outstanding.proofs.Soundness.{Sound, sound-in, sound-cleared, sound-entered, sound-removed}
use Rattle.outstanding.proofs.Views.{Entering, stopped, passed, entering, Arriving, arriving}

-- the records after a call
abbrev pub entered-table : List Record → ℕ → ℕ → List Record
entered-table l i t = after (enter l i t).change l

abbrev pub arrived-table : List Record → Answer → List Record
arrived-table l a = after (arrive l a).change l

-- two cases that exclude each other
never_done : {n p : ℕ} → done ≡ refused n p → ⊥
never_done e = let z : ◌≡◌ {A = ℕ} 0 1 = cc in omega (arith, z)

never-answered : {n p : ℕ} {a : Answer} → refused-reply n p ≡ answered a → ⊥
never-answered e = let z : ◌≡◌ {A = ℕ} 0 1 = cc in omega (arith, z)

-- ---- emptying gives the empty map; a refusal changes no record

module _ (l : List Record) (e : length l ≡ size) where
  pub empty-told : (empty Free l).told ≡ done
  empty-told = rw (empty-done Free l e)

  pub empty-map : (i : ℕ) → lookup (empty Free l).table i ≡ none
  empty-map i = rw (empty-done Free l e) (lookup-cleared l i)

  pub empty-ids : ids (empty Free l).table ≡ []
  empty-ids = rw (empty-done Free l e) (ids-cleared l)

  pub empty-sound : sound (empty Free l).table ≡ true
  empty-sound = rw (empty-done Free l e) (sound-in _ (sound-cleared l e))

pub empty-keeps : (l : List Record) → (length l ≡ size → ⊥) → (empty Free l).table ≡ l
empty-keeps l h = rw (empty-other-size Free l h)

-- ---- entering adds exactly this id with this type, and nothing else

module _ (l : List Record) (i t : ℕ) where
  pub enter-map : (enter l i t).told ≡ done → (j : ℕ) → lookup (entered-table l i t) j ≡ cond (eqb i j) (some (request t)) (lookup l j)
  enter-map = by (entering l i t)
    where
      by : {o : CallOutcome Told} → Entering l i t o → o.told ≡ done → (j : ℕ) → lookup (after o.change l) j ≡ cond (eqb i j) (some (request t)) (lookup l j)
      by (stopped n) e j = absurd (never_done (sym e))
      by (passed s h n f) e j = lookup-entered l i (request t) j f n

  -- and the id was not there
  pub enter-new : (enter l i t).told ≡ done → lookup l i ≡ none
  enter-new = by (entering l i t)
    where
      by : {o : CallOutcome Told} → Entering l i t o → o.told ≡ done → lookup l i ≡ none
      by (stopped n) e = absurd (never_done (sym e))
      by (passed s h n f) e = lookup_absent l i n

  -- a refusal changes no record
  pub enter-keeps : {n p : ℕ} → (enter l i t).told ≡ refused n p → entered-table l i t ≡ l
  enter-keeps {n} {p} = by (entering l i t)
    where
      by : {o : CallOutcome Told} → Entering l i t o → o.told ≡ refused n p → after o.change l ≡ l
      by (stopped n) e = refl
      by (passed s h n f) e = absurd (never_done e)

  pub enter-stays-sound : Sound l → Sound (entered-table l i t)
  enter-stays-sound = by (entering l i t)
    where
      by : {o : CallOutcome Told} → Entering l i t o → Sound l → Sound (after o.change l)
      by (stopped n) s = s
      by (passed s h n f) _ = sound-entered l s i t h n

  -- in a sound table an id that is not outstanding is entered where fewer than 64 are, and refused as table full where 64 are
  module _ (s : Sound l) (h : t < type_bound) (n : lookup l i ≡ none) where
    pub enter-room : length (ids l) < size → enter l i t ≡ outcome done (entered i (request t))
    enter-room k =
        let room : any is_free l ≡ true = sym (free-left l) ∙ lt-ltb (length (ids l)) (length l) (omega (arith, k, s.full_size)) in
        enter-sound l (sound-in l s) i t ∙ insert-done l i t h (held-some l i ∙ ap is_some n) room

    pub enter-full : length (ids l) ≡ size → enter l i t ≡ refuse_call table_full
    enter-full k =
        let full : any is_free l ≡ false = sym (free-left l) ∙ le-ltb (length (ids l)) (length l) (omega (arith, k, s.full_size)) in
        enter-sound l (sound-in l s) i t ∙ insert-full l i t h (held-some l i ∙ ap is_some n) full

-- ---- an answered reply removes exactly its id

module _ (l : List Record) (a : Answer) where
  -- what is answered is all that the reader answers
  pub arrive-whole : {b : Answer} → (arrive l a).told ≡ answered b → b ≡ a
  arrive-whole {b} = by (arriving l a)
    where
      by : {x : Answer} {o : CallOutcome Arrival} → Arriving l x o → o.told ≡ answered b → b ≡ x
      by (stopped n p) e = absurd (never-answered e)
      by (passed q s h f g) e = cc

  -- a refusal changes no record
  pub arrive-keeps : {n p : ℕ} → (arrive l a).told ≡ refused-reply n p → arrived-table l a ≡ l
  arrive-keeps {n} {p} = by (arriving l a)
    where
      by : {x : Answer} {o : CallOutcome Arrival} → Arriving l x o → o.told ≡ refused-reply n p → after o.change l ≡ l
      by (stopped n p) e = refl
      by (passed q s h f g) e = absurd (never-answered (sym e))

  pub arrive-stays-sound : Sound l → Sound (arrived-table l a)
  arrive-stays-sound = by (arriving l a)
    where
      by : {x : Answer} {o : CallOutcome Arrival} → Arriving l x o → Sound l → Sound (after o.change l)
      by (stopped n p) s = s
      by (passed {i = i} q s h f g) _ = sound-removed l s i

  -- the freed room is used again: however full the table was, an id that is not outstanding is then entered
  pub room-again : {b : Answer} → (arrive l a).told ≡ answered b → (i t : ℕ) → t < type_bound → lookup (arrived-table l a) i ≡ none → (enter (arrived-table l a) i t).told ≡ done
  room-again {b} = by (arriving l a)
    where
      by : {x : Answer} {o : CallOutcome Arrival} → Arriving l x o → o.told ≡ answered b → (i t : ℕ) → t < type_bound → lookup (after o.change l) i ≡ none → (enter (after o.change l) i t).told ≡ done
      by (stopped n p) e i t h f = absurd (never-answered e)
      by (passed {i = j} q s held found g) e i t h f =
          let m = replace (holds_id j) Free l in
          rw (enter-sound m (sound-in m (sound-removed l s j)) i t, insert-done m i t h (held-some m i ∙ ap is_some f) (removed-free l j held)) refl

module _ (l : List Record) (s : Shape) (i t k : ℕ) (vs : List (Value Part)) where
  pub arrive-map : (arrive l (accepted s i t vs k)).told ≡ answered (accepted s i t vs k) → (j : ℕ) → lookup (arrived-table l (accepted s i t vs k)) j ≡ cond (eqb i j) none (lookup l j)
  arrive-map = by (arriving l (accepted s i t vs k))
    where
      by : {o : CallOutcome Arrival} → Arriving l (accepted s i t vs k) o → o.told ≡ answered (accepted s i t vs k) → (j : ℕ) → lookup (after o.change l) j ≡ cond (eqb i j) none (lookup l j)
      by (stopped n p) e j = absurd (never-answered e)
      by (passed q ok h f g) e j = lookup-removed l i j ok.alone

  -- its id was outstanding, and its type answers the request
  pub arrive-held : (arrive l (accepted s i t vs k)).told ≡ answered (accepted s i t vs k) → answers t (lookup l i) ≡ true
  arrive-held = by (arriving l (accepted s i t vs k))
    where
      by : {o : CallOutcome Arrival} → Arriving l (accepted s i t vs k) o → o.told ≡ answered (accepted s i t vs k) → answers t (lookup l i) ≡ true
      by (stopped n p) e = absurd (never-answered e)
      by (passed q ok h f g) e = rw f g

-- ---- the ids are the map's domain, each once, at most 64

pub ids-domain : (l : List Record) (i : ℕ) → is_in i (ids l) ≡ is_some (lookup l i)
ids-domain l i = held_in l i ∙ held-some l i

module _ (l : List Record) (s : Sound l) where
  pub each-once : once (ids l) ≡ true
  each-once = ids-once l s.alone

  pub few-ids : length (ids l) ≤ size
  few-ids = omega (arith, ids-most l, s.full_size)

-- ---- the replies to two different outstanding ids, in either order: both are answered as they were alone, and the records are the same

module _ (l : List Record) where
  behind : {s s' : Shape} {i i' t t' k k' : ℕ} {vs vs' : List (Value Part)} {o o' : CallOutcome Arrival} → eqb i i' ≡ false → Arriving l (accepted s i t vs k) o → Arriving l (accepted s' i' t' vs' k') o'
      → o.told ≡ answered (accepted s i t vs k) → o'.told ≡ answered (accepted s' i' t' vs' k') → arrive (after o.change l) (accepted s' i' t' vs' k') ≡ o'
  behind n (stopped _ _) w e e' = absurd (never-answered e)
  behind n (passed q ok h f g) (stopped _ _) e e' = absurd (never-answered e')
  behind {i = i} {i'} {t' = t'} n (passed q ok h f g) (passed q' ok' h' f' g') e e' =
      let m = replace (holds_id i) Free l in
      let found : lookup m i' ≡ some q' = lookup-removed l i i' ok.alone ∙ rw n f' in
      rw (arrive-sound m (sound-in m (sound-removed l ok i)) _) (settle-answered m i' t' _ (held-some m i' ∙ ap is_some found) (ap (answers t') found ∙ g'))

  swapped : {s s' : Shape} {i i' t t' k k' : ℕ} {vs vs' : List (Value Part)} {o o' : CallOutcome Arrival} → eqb i i' ≡ false → Arriving l (accepted s i t vs k) o → Arriving l (accepted s' i' t' vs' k') o'
      → o.told ≡ answered (accepted s i t vs k) → o'.told ≡ answered (accepted s' i' t' vs' k') → after o'.change (after o.change l) ≡ after o.change (after o'.change l)
  swapped n (stopped _ _) w e e' = absurd (never-answered e)
  swapped n (passed q ok h f g) (stopped _ _) e e' = absurd (never-answered e')
  swapped {i = i} {i'} n (passed q ok h f g) (passed q' ok' h' f' g') e e' = remove-swap l i i' n

module _ (l : List Record) (s s' : Shape) (i i' t t' k k' : ℕ) (vs vs' : List (Value Part)) (n : eqb i i' ≡ false)
    (e : (arrive l (accepted s i t vs k)).told ≡ answered (accepted s i t vs k)) (e' : (arrive l (accepted s' i' t' vs' k')).told ≡ answered (accepted s' i' t' vs' k')) where
  pub still-answered : arrive (arrived-table l (accepted s i t vs k)) (accepted s' i' t' vs' k') ≡ arrive l (accepted s' i' t' vs' k')
  still-answered = behind l n (arriving l (accepted s i t vs k)) (arriving l (accepted s' i' t' vs' k')) e e'

pub either_order : (l : List Record) (s s' : Shape) (i i' t t' k k' : ℕ) (vs vs' : List (Value Part)) → eqb i i' ≡ false
    → (arrive l (accepted s i t vs k)).told ≡ answered (accepted s i t vs k) → (arrive l (accepted s' i' t' vs' k')).told ≡ answered (accepted s' i' t' vs' k')
    → arrived-table (arrived-table l (accepted s i t vs k)) (accepted s' i' t' vs' k') ≡ arrived-table (arrived-table l (accepted s' i' t' vs' k')) (accepted s i t vs k)
either_order l s s' i i' t t' k k' vs vs' n e e' =
    let a = accepted s i t vs k in
    let b = accepted s' i' t' vs' k' in
    ap (λ (o : CallOutcome Arrival). after o.change (arrived-table l a)) (still-answered l s s' i i' t t' k k' vs vs' n e e')
    ∙ swapped l n (arriving l a) (arriving l b) e e'
    ∙ sym (ap (λ (o : CallOutcome Arrival). after o.change (arrived-table l b)) (still-answered l s' s i' i t' t k' k vs' vs (other_way i i' n) e' e))

-- ---- what is told of an id depends on nothing that is held under other ids

pub enter-told-alike : (l m : List Record) (i t : ℕ) → sound l ≡ true → sound m ≡ true → lookup l i ≡ lookup m i → any is_free l ≡ any is_free m → enter l i t ≡ enter m i t
unfolding insert
enter-told-alike l m i t s s' e f = rw (enter-sound l s i t, enter-sound m s' i t, held-some l i, held-some m i, e, f) refl

pub arrive-told-alike : (l m : List Record) (s : Shape) (i t k : ℕ) (vs : List (Value Part)) → sound l ≡ true → sound m ≡ true → lookup l i ≡ lookup m i
    → arrive l (accepted s i t vs k) ≡ arrive m (accepted s i t vs k)
unfolding settle_accepted
arrive-told-alike l m s i t k vs ok ok' e = rw (arrive-sound l ok (accepted s i t vs k), arrive-sound m ok' (accepted s i t vs k), held-some l i, held-some m i, e) refl
