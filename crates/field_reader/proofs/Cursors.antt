-- Readings at cursors, one after another. Assumes nothing.
use mathlib.Core.Path.{◌≡◌, refl, sym, ap, ◌∙◌}
use mathlib.Core.Bool.{Bool, true, false, cond}
use mathlib.Core.List.{List, [], ◌∷◌}
use Prim.Native.Nat.{ℕ, ◌+◌, ◌-◌, ◌≤◌, ◌<◌}
use native.Mathlib.Omega.{arith}
use lib.Dec.{eqb}
use lib.ListN.{length, take, drop, length-drop}
use lib.Seq.{length-take-le}
use borrow.Author.Tests.{eq-eqb, ne_eqb, le-leb, lt-leb}
use Rattle.number.specs.BigEndian.{Found, whole, truncated as too_few, number_at}
use Rattle.text.specs.Utf8.{well_formed_end, well_formed}
use Rattle.layout.specs.Refusals.{truncated, malformed_text}
use Rattle.layout.specs.Kinds.{Kind}
use Rattle.layout.specs.Values.{Part, part, Value}
use Rattle.layout.specs.Reading.{Outcome, got, fail, Reader, followed, seq, give, mapped, num_outcome, num_at, malformed_place, run_at, field_at, fields_at}
use Rattle.layout.proofs.Tests.{apart}
use Rattle.wire.specs.declared.Cursor.{Cursor}
use Rattle.wire.specs.Cursors.{place, refusal_at}
use Rattle.field_reader.specs.Cursors.{outcome_at, from, Ended, Took, Reads, none, more}

-- what follows a reading at a cursor
pub push : {A B : Type 0} (t : Bool) (o : Outcome A) (n p : ℕ) (k : A → ℕ → Outcome B) → cond t (followed o k) (fail n p) ≡ followed (cond t o (fail n p)) k
push true o n p k = refl
push false o n p k = refl

-- a reading, and one that goes on from it
pub chain : {A B : Type 0} {m : List ℕ} {c d e : Cursor} (r : Reader A) (k : A → Reader B) {x a : A} {y b : B}
    → Ended m c r x a d → Ended m d (k a) y b e → Ended m c (seq r k) y b e
chain {m = m} {c = c} {d = d} r k {a = a} f g =
    record {
      empty = g.empty;
      is = g.is
          ∙ push (eqb d.code 0) (got a d.at) d.code d.at (λ x q. k x m q)
          ∙ ap (λ o. followed o (λ x q. k x m q)) f.is
          ∙ sym (push (eqb c.code 0) (r m c.at) c.code c.at (λ x q. k x m q));
    }

-- a reading whose value is mapped
pub map-ended : {A B : Type 0} {m : List ℕ} {c d : Cursor} (f : A → B) (r : Reader A) {x a : A} → Ended m c r x a d → Ended m c (mapped f r) (f x) (f a) d
map-ended f r g = chain r (λ a. give (f a)) g (record { is = refl; empty = λ h. ap f (g.empty h) })

-- fields one after another are the fields of their kinds. Of these no value is empty as a whole: those in front of a refusal were read
pub fields-ended : {m : List ℕ} {c e : Cursor} {ks : List Kind} {vs : List (Value Part)} → Reads m c ks vs e → Ended m c (fields_at ks) vs vs e
fields-ended none = record { is = refl; empty = λ h. refl }
fields-ended (more {k = k} {ks = ks} {v = v} f t) =
    chain (field_at k) (λ x. mapped (λ xs. x ∷ xs) (fields_at ks)) f (map-ended (λ vs. v ∷ vs) (fields_at ks) (fields-ended t))

-- two fields that were read as one, such as a timestamp
pub two-more : {m : List ℕ} {c d e : Cursor} {k l : Kind} {v w : Value Part} {ks : List Kind} {vs : List (Value Part)}
    → Reads m c (k ∷ l ∷ []) (v ∷ w ∷ []) d → Reads m d ks vs e → Reads m c (k ∷ l ∷ ks) (v ∷ w ∷ vs) e
two-more (more f (more g none)) t = more f (more g t)

module _ {A : Type 0} {m : List ℕ} (c : Cursor) (r : Reader A) where
  -- at a refused cursor
  pub stays : (e : A) → (c.code ≡ 0 → ⊥) → Ended m c r e e c
  stays e h = record { is = rw (ne_eqb c.code 0 h); empty = λ n. refl }

  -- at a place: what was read, or a refusal
  pub at_place : (e a : A) (p : ℕ) → c.code ≡ 0 → r m c.at ≡ got a p → Ended m c r e a (place p)
  at_place e a p h is = record { is = rw (eq-eqb c.code 0 h) (sym is); empty = λ n. absurd (n refl) }

  pub refused-there : (e : A) (d : Cursor) → c.code ≡ 0 → r m c.at ≡ outcome_at d e → Ended m c r e e d
  refused-there e d h is = record { is = rw (eq-eqb c.code 0 h) (sym is); empty = λ n. refl }

-- a number that was found at a place, and one that was not
module _ (w : ℕ) {m : List ℕ} (c : Cursor) (h : c.code ≡ 0) where
  pub num-found : {x : ℕ} → whole x ≡ number_at w m c.at → Ended m c (num_at w) 0 x (place (c.at + w))
  unfolding num_at
  num-found {x} e = at_place c (num_at w) 0 x (c.at + w) h (rw (← e))

  pub num-truncated : too_few ≡ number_at w m c.at → Ended m c (num_at w) 0 0 (refusal_at truncated c.at)
  unfolding num_at
  num-truncated e = refused-there c (num_at w) 0 (refusal_at truncated c.at) h (rw (← e))

-- a number that was read ends so many bytes behind where it began, whatever it is taken for
pub number_behind : {A : Type 0} (f : ℕ → A) (w : ℕ) {m : List ℕ} {c d : Cursor} {e a : A} → Ended m c (mapped f (num_at w)) e a d → d.code ≡ 0 → d.at ≡ c.at + w
unfolding num_at
number_behind {A} f w {m} {c} {d} {a = a} h z = go (eqb c.code 0) (number_at w m c.at) (rw (eq-eqb d.code 0 z) at h.is)
  where
    go : (b : Bool) (x : Found) → ◌≡◌ {A = Outcome A} (got a d.at) (cond b (followed (num_outcome w c.at x) (λ n q. got (f n) q)) (fail c.code c.at)) → d.at ≡ c.at + w
    go true (whole n) e = cc
    go true too_few e = let z : false ≡ true = cc in apart z
    go false x e = let z : false ≡ true = cc in apart z

-- a run at a place, and the test of its bytes
module _ (valid : List ℕ → Bool) (n : ℕ) {m : List ℕ} (c : Cursor) (h : c.code ≡ 0) where
  pub run-truncated : (x : Part) → length m < c.at + n → Ended m c (run_at valid n) x x (refusal_at truncated c.at)
  unfolding run_at
  run-truncated x l = refused-there c (run_at valid n) x (refusal_at truncated c.at) h (rw (lt-leb (c.at + n) (length m) l))

  pub run-malformed : (x : Part) → c.at + n ≤ length m → valid (take n (drop c.at m)) ≡ false
      → Ended m c (run_at valid n) x x (refusal_at malformed_text (malformed_place n m c.at))
  unfolding run_at
  run-malformed x l e =
      refused-there c (run_at valid n) x (refusal_at malformed_text (malformed_place n m c.at)) h (rw (le-leb (c.at + n) (length m) l, e))

  pub run-whole : (x : Part) → c.at + n ≤ length m → valid (take n (drop c.at m)) ≡ true
      → Ended m c (run_at valid n) x (part c.at n) (place (c.at + n))
  unfolding run_at
  run-whole x l e = at_place c (run_at valid n) x (part c.at n) (c.at + n) h (rw (le-leb (c.at + n) (length m) l, e))

-- text by where its longest well-formed beginning ends: `e` is what the code compared with the length, n bytes from p on
module _ (m : List ℕ) (p n : ℕ) {e : ℕ} (l : p + n ≤ length m) (is : e ≡ well_formed_end (take (p + n - p) (drop p m))) where
  same_end : e ≡ well_formed_end (take n (drop p m))
  same_end = let s : p + n - p ≡ n = omega arith in is ∙ ap (λ (k : ℕ). well_formed_end (take k (drop p m))) s

  size : length (take n (drop p m)) ≡ n
  size = length-take-le n (drop p m) (omega (arith, length-drop p m))

  pub text-right : e ≡ n → well_formed (take n (drop p m)) ≡ true
  unfolding well_formed
  text-right t = rw (size, ← same_end) (eq-eqb e n t)

  pub text-wrong : (e ≡ n → ⊥) → well_formed (take n (drop p m)) ≡ false
  unfolding well_formed
  text-wrong t = rw (size, ← same_end) (ne_eqb e n t)

  -- and then it breaks at that end
  pub text-breaks : p + e ≡ malformed_place n m p
  text-breaks = ap (λ (k : ℕ). p + k) same_end
