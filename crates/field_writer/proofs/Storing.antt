-- Laws of storing at a cursor. Assumes nothing.
use mathlib.Core.Path.{◌≡◌, refl, sym, ap, ◌∙◌}
use mathlib.Core.Bool.{Bool, true, false}
use mathlib.Core.List.{List, [], ◌∷◌, ◌++◌, append_assoc}
use Prim.Native.Nat.{ℕ, ◌+◌, ◌%◌, ◌^◌, ◌≤◌, ◌<◌}
use native.Mathlib.Nat.{add-zero, add_assoc}
use native.Mathlib.Omega.{arith}
use lib.Dec.{eqb}
use lib.ListN.{length, take, drop, length-append}
use lib.Seq.{take_at, drop_at, drop-drop, length-take-le, paste-zero}
use borrow.Author.Tests.{eq-eqb, ne_eqb, le-leb, lt-leb, leb-false, eqb-true, eqb-false}
use Rattle.number.specs.BigEndian.{be, bytes_of, overwritten, Stores}
use Rattle.number.proofs.BigEndian.{length-bytes_of, length-overwritten, bytes-bytes_of, be-bytes_of-mod, bytes_of-be, stored-fits}
use Rattle.layout.specs.Kinds.{Kind}
use Rattle.layout.specs.Values.{Value}
use Rattle.layout.specs.Refusals.{oversize, buffer_too_small}
use Rattle.layout.specs.Limits.{longest}
use Rattle.wire.specs.declared.Cursor.{Cursor}
use Rattle.layout.specs.Writing.{encode, encode_all}
use Rattle.field_writer.specs.Stored.{Stored, left, room_at, Room, run_from, Put, Puts, none, more, concat, Fields, done, field}
use Rattle.wire.specs.Cursors.{place, refusal}

-- the bytes of a number are those of its remainder
pub remainder : (w x : ℕ) → bytes_of w (x % 256 ^ w) ≡ bytes_of w x
remainder w x = sym (ap (bytes_of w) (be-bytes_of-mod w x)) ∙ ap (λ (n : ℕ). bytes_of n (be (bytes_of w x))) (sym (length-bytes_of w x)) ∙ bytes_of-be (bytes_of w x) (bytes-bytes_of w x)

-- ---- room

module _ (c : Cursor) (w n : ℕ) where
  pub room-refused : (c.code ≡ 0 → ⊥) → Room c w n c
  unfolding room_at
  room-refused h = record { is = rw (ne_eqb c.code 0 h); fits = λ z. absurd (h z) }

  pub room-none : c.code ≡ 0 → n < c.at + w → Room c w n (refusal buffer_too_small)
  unfolding room_at
  room-none h l = record { is = rw (eq-eqb c.code 0 h, lt-leb (c.at + w) n l); fits = λ z. omega arith }

  pub room-found : c.code ≡ 0 → c.at + w ≤ n → Room c w n c
  unfolding room_at
  room-found h l = record { is = rw (eq-eqb c.code 0 h, le-leb (c.at + w) n l); fits = λ _. l }

-- ---- bytes

module _ {c d : Cursor} {w : ℕ} {e l : List ℕ} (size : length e ≡ w) (r : Room c w (length l) d) where
  pub put_refused : (d.code ≡ 0 → ⊥) → Put l c e l d
  put_refused h = record { is = rw (size, ← r.is, ne_eqb d.code 0 h) }

  pub put-stored : {m : List ℕ} → d.code ≡ 0 → m ≡ overwritten l d.at e → Put l c e m (place (d.at + w))
  put-stored {m} h o = record { is = rw (size, ← r.is, eq-eqb d.code 0 h, o) }

-- a number at a place: it was stored, or there was no room
module _ {w x : ℕ} {l m : List ℕ} {c : Cursor} (h : c.code ≡ 0) where
  pub number_put : Stores w l c.at x m true → Put l c (bytes_of w x) m (place (c.at + w))
  number_put s = put-stored (length-bytes_of w x) (room-found c w (length l) h (stored-fits s)) h s.leaves

  pub number_short : Stores w l c.at x m false → Put l c (bytes_of w x) m (refusal buffer_too_small)
  number_short s =
      rw s.leaves
      (put_refused (length-bytes_of w x) (room-none c w (length l) h (leb-false (c.at + w) (length l) (sym s.fits))) (λ z. omega arith))

-- at a refused cursor nothing is stored
pub put-stays : (c : Cursor) (l e : List ℕ) → (c.code ≡ 0 → ⊥) → Put l c e l c
put-stays c l e h = put_refused refl (room-refused c (length e) (length l) h) h

-- ---- one after another

module _ {l m e : List ℕ} {c d : Cursor} (p : Put l c e m d) where
  pub nothing_put : (c.code ≡ 0 → ⊥) → (m ≡ l) × (d ≡ c)
  unfolding room_at
  nothing_put h =
      let s : left m d ≡ left l c = p.is ∙ rw (ne_eqb c.code 0 h, ne_eqb c.code 0 h) in
      (ap (λ (x : Stored). x.buffer) s, ap (λ (x : Stored). x.next) s)

  pub all-put : c.code ≡ 0 → c.at + length e ≤ length l → (m ≡ overwritten l c.at e) × (d ≡ place (c.at + length e))
  unfolding room_at
  all-put h r =
      let s : left m d ≡ left (overwritten l c.at e) (place (c.at + length e)) =
      p.is ∙ rw (eq-eqb c.code 0 h, le-leb (c.at + length e) (length l) r, eq-eqb c.code 0 h) in
      (ap (λ (x : Stored). x.buffer) s, ap (λ (x : Stored). x.next) s)

pub overwritten-none : (l : List ℕ) (at : ℕ) → overwritten l at [] ≡ l
unfolding overwritten
overwritten-none l at = sym (paste-zero l at [])

-- bytes behind others are all of them together
pub overwritten-twice : (l : List ℕ) (at : ℕ) (a b : List ℕ) → at + length a ≤ length l
    → overwritten (overwritten l at a) (at + length a) b ≡ overwritten l at (a ++ b)
unfolding overwritten
overwritten-twice l at a b h =
    rw (behind, take_at (take at l ++ a) (drop (at + length a) l) (at + length a) front, append_assoc (take at l) a b)
  where
    front : length (take at l ++ a) ≡ at + length a
    front = omega (arith, length-append (take at l) a, length-take-le at l (omega arith))

    behind : drop (at + length a + length b) (overwritten l at a) ≡ drop (at + length (a ++ b)) l
    behind =
        rw (← (drop-drop (length b) (at + length a) (overwritten l at a)), drop_at (take at l ++ a) (drop (at + length a) l) (at + length a) front, drop-drop (length b) (at + length a) l, length-append a b)
        (ap (λ (k : ℕ). drop k l) (add_assoc at (length a) (length b)))

pub none-put : {l n : List ℕ} {c f : Cursor} {es : List (List ℕ)} → Puts l c es n f → (c.code ≡ 0 → ⊥) → (n ≡ l) × (f ≡ c)
none-put none h = (refl, refl)
none-put (more {d = d} p q) h =
    let s = nothing_put p h in
    let r = none-put q (λ (z : d.code ≡ 0). h (ap (λ (x : Cursor). x.code) (sym s.1) ∙ z)) in
    (r.0 ∙ s.0, r.1 ∙ s.1)

pub each-put : {l n : List ℕ} {c f : Cursor} {es : List (List ℕ)} → Puts l c es n f → c.code ≡ 0 → c.at + length (concat es) ≤ length l
    → (n ≡ overwritten l c.at (concat es)) × (f.code ≡ 0) × (f.at ≡ c.at + length (concat es))
each-put {l} {c = c} none h r = (sym (overwritten-none l c.at), h, sym (add-zero c.at))
each-put {l} {n} {c} {f} (more {m = m} {e = e} {d = d} {es = es} p q) h r =
    let sum : length (e ++ concat es) ≡ length e + length (concat es) = length-append e (concat es) in
    let s = all-put p h (omega arith) in
    let at : d.at ≡ c.at + length e = ap (λ (x : Cursor). x.at) s.1 in
    let long : length m ≡ length l = ap length s.0 ∙ length-overwritten l c.at e (omega arith) in
    let t = each-put q (ap (λ (x : Cursor). x.code) s.1) (omega arith) in
    let b : n ≡ overwritten (overwritten l c.at e) (c.at + length e) (concat es) = t.0 ∙ rw (s.0, at) in
    (b ∙ overwritten-twice l c.at e (concat es) (omega arith), t.1, omega (arith, t.2))

pub puts_then : {l m n : List ℕ} {c d f : Cursor} {es fs : List (List ℕ)} → Puts l c es m d → Puts m d fs n f → Puts l c (es ++ fs) n f
puts_then none q = q
puts_then (more p r) q = more p (puts_then r q)

-- the bytes of each field
abbrev pub encodings : List Kind → List (Value (List ℕ)) → List (List ℕ)
encodings [] vs = []
encodings (k ∷ ks) [] = []
encodings (k ∷ ks) (v ∷ vs) = encode k v ∷ encodings ks vs

pub concat-encodings : (ks : List Kind) (vs : List (Value (List ℕ))) → concat (encodings ks vs) ≡ encode_all ks vs
concat-encodings [] vs = refl
concat-encodings (k ∷ ks) [] = refl
concat-encodings (k ∷ ks) (v ∷ vs) = ap (λ (e : List ℕ). encode k v ++ e) (concat-encodings ks vs)

pub fields-put : {l n : List ℕ} {c f : Cursor} {ks : List Kind} {vs : List (Value (List ℕ))} → Fields l c ks vs n f → Puts l c (encodings ks vs) n f
fields-put done = none
fields-put (field p q) = more p (fields-put q)

pub fields-then : {l m n : List ℕ} {c d f : Cursor} {ks ks' : List Kind} {vs vs' : List (Value (List ℕ))}
    → Fields l c ks vs m d → Fields m d ks' vs' n f → Fields l c (ks ++ ks') (vs ++ vs') n f
fields-then done q = q
fields-then (field p r) q = field p (fields-then r q)

-- where something was stored, it was stored from a place
pub put-from : {l m e : List ℕ} {c d : Cursor} → Put l c e m d → d.code ≡ 0 → c.code ≡ 0
put-from {c = c} {d = d} p z = go (eqb c.code 0) refl
  where
    go : (b : Bool) → eqb c.code 0 ≡ b → c.code ≡ 0
    go true t = eqb-true c.code 0 t
    go false t = ap (λ (x : Cursor). x.code) (sym (nothing_put p (eqb-false c.code 0 t)).1) ∙ z

pub puts-from : {l m : List ℕ} {c d : Cursor} {es : List (List ℕ)} → Puts l c es m d → d.code ≡ 0 → c.code ≡ 0
puts-from none z = z
puts-from (more p q) z = put-from p (puts-from q z)

-- a run that is not longer than any message is stored where it stands
pub run-put : {l e m : List ℕ} {c d : Cursor} {n : ℕ} → (c.code ≡ 0 → n ≤ longest) → Put l (run_from c n) e m d → Put l c e m d
unfolding run_from
run-put {l} {e} {m} {c} {d} {n} short p = go (eqb c.code 0) refl
  where
    go : (b : Bool) → eqb c.code 0 ≡ b → Put l c e m d
    go true t = rw (t, le-leb n longest (short (eqb-true c.code 0 t))) at p
    go false t = rw t at p

-- in a message that was checked to be no longer than the longest, no run is
pub run-within : {size len : ℕ} {l m n e : List ℕ} {c d f : Cursor} {es : List (List ℕ)} → (c.code ≡ 0 → size ≤ longest) → Puts l c es m d → len ≤ size
    → Put m (run_from d len) e n f → Put m d e n f
run-within checked q h p = run-put (λ z. let s = checked (puts-from q z) in omega (arith, h, s)) p

pub run-refused : (c : Cursor) (n : ℕ) → (c.code ≡ 0 → ⊥) → run_from c n ≡ c
unfolding run_from
run-refused c n h = rw (ne_eqb c.code 0 h)

pub run-oversize : (c : Cursor) (n : ℕ) → c.code ≡ 0 → longest < n → run_from c n ≡ refusal oversize
unfolding run_from
run-oversize c n h l = rw (eq-eqb c.code 0 h, lt-leb n longest l)

pub run_fits : (c : Cursor) (n : ℕ) → c.code ≡ 0 → n ≤ longest → run_from c n ≡ c
unfolding run_from
run_fits c n h l = rw (eq-eqb c.code 0 h, le-leb n longest l)

-- ---- several pieces whose whole room was tested: all of them, or none

same-cursor : {c d : Cursor} → c.code ≡ d.code → c.at ≡ d.at → c ≡ d
same-cursor e f = λ i. record { code = e i; at = f i }

pub whole-put : {l m : List ℕ} {c d f : Cursor} {w : ℕ} {es : List (List ℕ)} (e : List ℕ) → concat es ≡ e → length e ≡ w → Room c w (length l) d → Puts l d es m f
    → Put l c e m f
whole-put {l} {m} {c} {d} {f} {w} {es} e same size r q = go (eqb d.code 0) refl
  where
    all : d.code ≡ 0 → Put l c e m f
    all z =
        let fit : d.at + length (concat es) ≤ length l = rw (same, size) (r.fits z) in
        let s = each-put q z fit in
        let at : f ≡ place (d.at + w) = same-cursor s.1 (s.2 ∙ rw (same, size)) in
        rw at (put-stored size r z (s.0 ∙ rw same))

    go : (b : Bool) → eqb d.code 0 ≡ b → Put l c e m f
    go true z = all (eqb-true d.code 0 z)
    go false z =
        let h = eqb-false d.code 0 z in
        let s = none-put q h in
        rw (s.0, s.1) (put_refused size r h)
