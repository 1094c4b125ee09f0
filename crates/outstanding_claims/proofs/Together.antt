-- What calls on tables of words come to together, as a host is shown it. Assumes nothing.
use mathlib.Core.Path.{◌≡◌, refl, sym, ap, ◌∙◌, subst}
use mathlib.Core.Bool.{Bool, true, false}
use mathlib.Core.List.{List}
use mathlib.Core.Option.{Option, none, some}
use Prim.Native.Nat.{ℕ, ◌<◌}
use native.Mathlib.Omega.{arith}
use lib.Dec.{ltb}
use lib.ListN.{length}
use borrow.Author.Tests.{eq-eqb, ne_eqb}
use Rattle.layout.specs.Values.{Part, Value}
use Rattle.layout.specs.Reading.{Shape, Answer, refused as not-read, accepted}
use Rattle.outstanding_records.specs.declared.Request.{Request}
use Rattle.outstanding_records.specs.declared.Record.{Record}
use Rattle.outstanding.specs.Records.{is_free, holds_id, any, all, lookup, ids, is_some}
use Rattle.layout.specs.Refusals.{id_not_outstanding}
use Rattle.outstanding.specs.Calls.{type_bound, in_bounds, sound, request, removed, after, CallOutcome, outcome, enter, Arrival, answered, arrive, seen, look}
use Rattle.outstanding.proofs.Cases.{arrive-sound, settle-not-outstanding, look-sound, look-unsound}
use Rattle.outstanding.proofs.Maps.{lookup-removed, held-some, free-left}
use Rattle.outstanding.proofs.Soundness.{Sound, sound-out, sound-in, sound-removed}
use Rattle.outstanding.proofs.Views.{Arriving, stopped, passed, arriving}
use Rattle.outstanding.proofs.Laws.{arrived-table, arrive-stays-sound, room-again, still-answered, either_order, enter-told-alike, arrive-told-alike}
use Rattle.outstanding_records.specs.Words.{records}
use Rattle.outstanding_words.specs.Words.{after_words}
use Rattle.outstanding_words.proofs.Words.{records-after, same-words}
use Rattle.exports.specs.declared.TushaletsReading.{TushaletsReading}
use Rattle.exports.specs.Shown.{reading_of}
use Rattle.exports_outstanding.specs.Shown.{number_of, shown_of, looked_of}

-- the words after a reply, and what a host is shown of it
abbrev pub left : List ℕ → Answer → List ℕ
left ws a = after_words (arrive (records ws) a).change ws

abbrev pub shown : List ℕ → Answer → Answer
shown ws a = shown_of (arrive (records ws) a).told

-- a reply that a host is not shown as refused was answered
data Taken (l : List Record) : Answer → Type 0 where
  takes : {s : Shape} {i t k : ℕ} {vs : List (Value Part)} → Sound l → arrive l (accepted s i t vs k) ≡ outcome (answered (accepted s i t vs k)) (removed i) → Taken l (accepted s i t vs k)

abbrev Shown : List Record → Answer → Type 0
Shown l a = (reading_of (shown_of (arrive l a).told)).shape ≡ 0 → ⊥

taken : (l : List Record) (a : Answer) → Shown l a → Taken l a
taken l a = go (arriving l a) refl
  where
    go : {x : Answer} {o : CallOutcome Arrival} → Arriving l x o → arrive l x ≡ o → ((reading_of (shown_of o.told)).shape ≡ 0 → ⊥) → Taken l x
    go (stopped n p) e h = absurd (h refl)
    go (passed q ok held found g) e h = takes ok e

-- then the words left are those of the records left
followed : (ws : List ℕ) {a : Answer} → Taken (records ws) a → records (left ws a) ≡ arrived-table (records ws) a
followed ws (takes {i = i} ok e) = ap (λ (o : CallOutcome Arrival). records (after_words o.change ws)) e ∙ records-after (removed i) ws tt ∙ sym (ap (λ (o : CallOutcome Arrival). after o.change (records ws)) e)

told : {l : List Record} {a : Answer} → Taken l a → (arrive l a).told ≡ answered a
told (takes ok e) = ap (λ (o : CallOutcome Arrival). o.told) e

is-sound : {l : List Record} {a : Answer} → Taken l a → Sound l
is-sound (takes ok e) = ok

-- ---- the freed room is used again

-- an id that a look does not show is not in the map
not-shown : (l : List Record) (i : ℕ) → sound l ≡ true → (looked_of (look l i)).held ≡ 0 → lookup l i ≡ none
not-shown l i s e = by (lookup l i) (sym (ap (λ k. (looked_of k).held) (look-sound l s i)) ∙ e)
  where
    by : (o : Option Request) → (looked_of (seen (length (ids l)) o)).held ≡ 0 → o ≡ none
    by none f = refl
    by (some q) f = absurd (omega arith)

pub refilled : (ws : List ℕ) (a : Answer) (i t : ℕ) → Shown (records ws) a → (looked_of (look (records (left ws a)) i)).held ≡ 0 → t < type_bound
    → number_of (enter (records (left ws a)) i t).told ≡ 0
refilled ws a i t h e f =
    let k = taken (records ws) a h in
    let m = arrived-table (records ws) a in
    let same = followed ws k in
    let free = not-shown m i (sound-in m (arrive-stays-sound (records ws) a (is-sound k))) (sym (ap (λ l. (looked_of (look l i)).held) same) ∙ e) in
    rw same (ap number_of (room-again (records ws) a (told k) i t f free))

-- ---- a reply that arrives again

pub again-stray : (ws : List ℕ) (a : Answer) → Shown (records ws) a → shown (left ws a) a ≡ not-read id_not_outstanding 0
again-stray ws a h = by (taken (records ws) a h)
  where
    by : {b : Answer} → Taken (records ws) b → shown (left ws b) b ≡ not-read id_not_outstanding 0
    by {b} (takes {i = i} {t = t} ok e) =
        let m = after (removed i) (records ws) in
        let absent : lookup m i ≡ none = rw (lookup-removed (records ws) i i ok.alone, eq-eqb i i refl) refl in
        let gone : any (holds_id i) m ≡ false = held-some m i ∙ ap is_some absent in
        rw (e, records-after (removed i) ws tt, arrive-sound m (sound-in m (sound-removed (records ws) ok i)) b, settle-not-outstanding m i t b gone) refl

-- ---- two replies in either order

module _ (ws : List ℕ) where
  -- the second is answered behind the first as it is alone
  one-order : {a b : Answer} → Taken (records ws) a → Taken (records ws) b → ((reading_of (shown ws a)).id ≡ (reading_of (shown ws b)).id → ⊥) → arrive (records (left ws a)) b ≡ arrive (records ws) b
  one-order (takes {s} {i} {t} {k} {vs} ok e) (takes {s = s'} {i = i'} {t = t'} {k = k'} {vs = vs'} ok' e') d =
      let differ : i ≡ i' → ⊥ = λ f. d (ap (λ (o : CallOutcome Arrival). (reading_of (shown_of o.told)).id) e ∙ f ∙ sym (ap (λ (o : CallOutcome Arrival). (reading_of (shown_of o.told)).id) e')) in
      ap (λ (l : List Record). arrive l (accepted s' i' t' vs' k')) (followed ws (takes ok e)) ∙ still-answered (records ws) s s' i i' t t' k k' vs vs' (ne_eqb i i' differ) (told (takes ok e)) (told (takes ok' e'))

  -- so it is taken there too
  still-taken : {a b : Answer} → Taken (records ws) a → Taken (records ws) b → ((reading_of (shown ws a)).id ≡ (reading_of (shown ws b)).id → ⊥) → Taken (records (left ws a)) b
  still-taken {a} x (takes ok' e') d =
      takes (subst Sound (sym (followed ws x)) (arrive-stays-sound (records ws) a (is-sound x))) (one-order x (takes ok' e') d ∙ e')

  -- the words are the same
  both-orders : {a b : Answer} → Taken (records ws) a → Taken (records ws) b → ((reading_of (shown ws a)).id ≡ (reading_of (shown ws b)).id → ⊥) → left (left ws a) b ≡ left (left ws b) a
  both-orders (takes {s} {i} {t} {k} {vs} ok e) (takes {s = s'} {i = i'} {t = t'} {k = k'} {vs = vs'} ok' e') d =
      let a = accepted s i t vs k in
      let b = accepted s' i' t' vs' k' in
      let x = takes ok e in
      let y = takes ok' e' in
      let differ : i ≡ i' → ⊥ = λ f. d (ap (λ (o : CallOutcome Arrival). (reading_of (shown_of o.told)).id) e ∙ f ∙ sym (ap (λ (o : CallOutcome Arrival). (reading_of (shown_of o.told)).id) e')) in
      let behind = still-taken x y d in
      let before = still-taken y x (λ f. d (sym f)) in
      let one : records (left (left ws a) b) ≡ arrived-table (arrived-table (records ws) a) b = followed (left ws a) behind ∙ ap (λ (l : List Record). arrived-table l b) (followed ws x) in
      let other : records (left (left ws b) a) ≡ arrived-table (arrived-table (records ws) b) a = followed (left ws b) before ∙ ap (λ (l : List Record). arrived-table l a) (followed ws y) in
      let bounds = ap (all in_bounds) (followed (left ws a) behind) ∙ (arrive-stays-sound (records (left ws a)) b (is-sound behind)).bounds in
      same-words _ _ bounds (one ∙ either_order (records ws) s s' i i' t t' k k' vs vs' (ne_eqb i i' differ) (told x) (told y) ∙ sym other)

-- the four calls: what they show, and the words that they leave
pub either : (ws : List ℕ) (a b : Answer) {r₁ r₂ r₃ r₄ : TushaletsReading} {ws₁ ws₂ xs₁ xs₂ : List ℕ}
    → (r₁ ≡ reading_of (shown ws a)) × (ws₁ ≡ left ws a) → (r₂ ≡ reading_of (shown ws b)) × (xs₁ ≡ left ws b)
    → (r₃ ≡ reading_of (shown ws₁ b)) × (ws₂ ≡ left ws₁ b) → (r₄ ≡ reading_of (shown xs₁ a)) × (xs₂ ≡ left xs₁ a)
    → (r₁.shape ≡ 0 → ⊥) → (r₂.shape ≡ 0 → ⊥) → (r₁.id ≡ r₂.id → ⊥) → (r₄ ≡ r₁) × (r₃ ≡ r₂) × (ws₂ ≡ xs₂)
either ws a b {r₁} {r₂} {r₃} {r₄} {ws₁} {ws₂} {xs₁} {xs₂} c₁ c₂ c₃ c₄ h h' d = (fourth, third, words)
  where
    x : Taken (records ws) a
    x = taken (records ws) a (λ e. h (ap (λ (r : TushaletsReading). r.shape) c₁.0 ∙ e))

    y : Taken (records ws) b
    y = taken (records ws) b (λ e. h' (ap (λ (r : TushaletsReading). r.shape) c₂.0 ∙ e))

    differ : (reading_of (shown ws a)).id ≡ (reading_of (shown ws b)).id → ⊥
    differ e = d (ap (λ (r : TushaletsReading). r.id) c₁.0 ∙ e ∙ sym (ap (λ (r : TushaletsReading). r.id) c₂.0))

    third : r₃ ≡ r₂
    third = c₃.0 ∙ ap (λ (v : List ℕ). reading_of (shown v b)) c₁.1 ∙ ap (λ (o : CallOutcome Arrival). reading_of (shown_of o.told)) (one-order ws x y differ) ∙ sym c₂.0

    fourth : r₄ ≡ r₁
    fourth = c₄.0 ∙ ap (λ (v : List ℕ). reading_of (shown v a)) c₂.1 ∙ ap (λ (o : CallOutcome Arrival). reading_of (shown_of o.told)) (one-order ws y x (λ e. differ (sym e))) ∙ sym c₁.0

    words : ws₂ ≡ xs₂
    words = c₃.1 ∙ ap (λ (v : List ℕ). left v b) c₁.1 ∙ both-orders ws x y differ ∙ sym (ap (λ (v : List ℕ). left v a) c₂.1) ∙ sym c₄.1

-- ---- tables that look the same

-- a look that is not refused shows a sound table
shown-sound : (l : List Record) (i : ℕ) → (looked_of (look l i)).number ≡ 0 → sound l ≡ true
shown-sound l i e = by (sound l) refl
  where
    by : (b : Bool) → sound l ≡ b → sound l ≡ true
    by true s = s
    by false s = absurd (omega (arith, sym (ap (λ k. (looked_of k).number) (look-unsound l s i)) ∙ e))

module _ (l m : List Record) (i : ℕ) (s : sound l ≡ true) (s' : sound m ≡ true) (e : looked_of (look l i) ≡ looked_of (look m i)) where
  seen_alike : looked_of (seen (length (ids l)) (lookup l i)) ≡ looked_of (seen (length (ids m)) (lookup m i))
  seen_alike = sym (ap looked_of (look-sound l s i)) ∙ e ∙ ap looked_of (look-sound m s' i)

  same-request : lookup l i ≡ lookup m i
  same-request = by (lookup l i) (lookup m i) seen_alike
    where
      by : (o o' : Option Request) → looked_of (seen (length (ids l)) o) ≡ looked_of (seen (length (ids m)) o') → o ≡ o'
      by none none f = refl
      by none (some q) f = absurd (omega (arith, ap (λ k. k.held) f))
      by (some q) none f = absurd (omega (arith, ap (λ k. k.held) f))
      by (some q) (some q') f = ap (λ (t : ℕ). some (request t)) (ap (λ k. k.type_number) f)

  same_count : length (ids l) ≡ length (ids m)
  same_count = counted (length (ids l)) (lookup l i) ∙ ap (λ k. k.count) seen_alike ∙ sym (counted (length (ids m)) (lookup m i))
    where
      counted : (n : ℕ) (o : Option Request) → n ≡ (looked_of (seen n o)).count
      counted n none = refl
      counted n (some q) = refl

  same-room : any is_free l ≡ any is_free m
  same-room =
      sym (free-left l) ∙ ap (λ (n : ℕ). ltb n (length l)) same_count ∙ ap (ltb (length (ids m))) ((sound-out l s).full_size ∙ sym (sound-out m s').full_size) ∙ free-left m

pub entries-alike : (l m : List Record) (i t : ℕ) → looked_of (look l i) ≡ looked_of (look m i) → (looked_of (look l i)).number ≡ 0 → enter l i t ≡ enter m i t
entries-alike l m i t e f =
    let s = shown-sound l i f in
    let s' = shown-sound m i (sym (ap (λ k. k.number) e) ∙ f) in
    enter-told-alike l m i t s s' (same-request l m i s s' e) (same-room l m i s s' e)

pub arrivals-alike : (l m : List Record) (a : Answer) → looked_of (look l (reading_of a).id) ≡ looked_of (look m (reading_of a).id) → (looked_of (look l (reading_of a).id)).number ≡ 0 → arrive l a ≡ arrive m a
arrivals-alike l m (not-read n p) e f =
    rw (arrive-sound l (shown-sound l 0 f) (not-read n p), arrive-sound m (shown-sound m 0 (sym (ap (λ k. k.number) e) ∙ f)) (not-read n p)) refl
arrivals-alike l m (accepted s i t vs k) e f =
    let ok = shown-sound l i f in
    let ok' = shown-sound m i (sym (ap (λ x. x.number) e) ∙ f) in
    arrive-told-alike l m s i t k vs ok ok' (same-request l m i ok ok' e)
