-- A message that is refused as malformed text is refused inside a string, where that string breaks; and where such a string breaks, the
-- message is so refused. Assumes nothing.
use mathlib.Core.Path.{◌≡◌, refl, sym, ap, ◌∙◌}
use mathlib.Core.Bool.{Bool, true, false, cond}
use mathlib.Core.List.{List, [], ◌∷◌}
use Prim.Native.Nat.{ℕ, zero, suc, ◌+◌, ◌-◌, ◌≤◌, ◌<◌}
use native.Mathlib.Omega.{arith}
use lib.Dec.{leb, ltb, eqb}
use lib.IntN.{ℤ, pos, negsuc}
use lib.ListN.{length, take, drop, length-take}
use borrow.Author.Tests.{leb-true, le-leb, ltb-false, eqb-false, ne_eqb}
use Rattle.number.specs.BigEndian.{be, number_at, whole, truncated as too_few}
use Rattle.number.specs.TwosComplement.{signed_of}
use Rattle.text.specs.Utf8.{well_formed_end, well_formed}
use Rattle.text.proofs.Texts.{end_fits, end-well, end-longest}
use Rattle.layout.specs.Kinds.{width, Kind, num, string, bytes, strings}
use Rattle.layout.specs.Refusals.{truncated_header, oversize, truncated, malformed_text, data_length_mismatch}
use Rattle.layout.specs.Limits.{header_size, longest}
use Rattle.layout.specs.Table.{Side, Plan, unexpected, header, asked, plain, led, plan}
use Rattle.layout.specs.Values.{Part, part, Value, signed, run, runs, bytes_in}
use Rattle.layout.specs.Reading.{Outcome, got, fail, followed, mapped, num_outcome, num_at, malformed_place, run_at, any_bytes, string_at, bytes_at, strings_at, value_of, field_at, fields_at, success, known, body, data_size, succeeded, behind_result, result_place, fields_place, body_at, Message, message, message_at, refused, answer, behind_header, read}
use Rattle.layout.specs.Front.{id_of, type_of}
use Rattle.layout.specs.Pieces.{Agree}
use Rattle.layout.specs.MalformedText.{Reaches, text, name, behind, ReachesIn, in-request, in-bare-reply, behind-result, BreaksAt, Malformed}
use Rattle.layout.proofs.Agreement.{agree_less, agree-take, same-part, part_length}
use Rattle.layout.proofs.Cuts.{run-cut}
use Rattle.layout.proofs.Header.{read-header}
use Rattle.layout.proofs.Tests.{apart}
use Rattle.layout.proofs.Sizes.{strings-size, field-size}
use Rattle.layout.proofs.Stays.{num-stays, strings-stay, field-stays}
use Rattle.layout.proofs.Trace.{NumHere, StringsHere, no-string, a-string-more, num-reads, sized_reads, field-reads, num-traced, strings-traced, field-traced}

-- text breaks inside, or is well-formed to its end
pub malformed-inside : (n : ℕ) (m : List ℕ) (p : ℕ) → p + n ≤ length m → malformed_place n m p ≤ p + n
malformed-inside n m p l =
    let f : well_formed_end (take n (drop p m)) ≤ length (take n (drop p m)) = end_fits (take n (drop p m)) in
    omega (arith, part_length p n m l)

-- ---- a refusal as malformed text comes from the text of a string

-- the reading o is refused as malformed text at q
abbrev Refuses : {A : Type 0} → Outcome A → ℕ → Type 0
Refuses o q = o ≡ fail malformed_text q

-- another refusal, or none, is not that one
other : {A B : Type 0} {n p q : ℕ} → (n ≡ malformed_text → ⊥) → Refuses {A = A} (fail n p) q → B
other d e = absurd (d cc)

none : {A B : Type 0} {a : A} {p q : ℕ} → Refuses (got a p) q → B
none e = let z : ◌≡◌ {A = ℕ} 0 1 = cc in let n : ⊥ = omega arith in absurd n

-- of two readings, the first or the second refuses
data Either {A B : Type 0} (o : Outcome A) (k : A → ℕ → Outcome B) (q : ℕ) : Type 0 where
  first : Refuses o q → Either o k q
  second : {a : A} {r : ℕ} → o ≡ got a r → Refuses (k a r) q → Either o k q

either : {A B : Type 0} (o : Outcome A) (k : A → ℕ → Outcome B) {q : ℕ} → Refuses (followed o k) q → Either o k q
either (got a r) k e = second refl e
either (fail n p) k {q} e =
    let c : n ≡ malformed_text = cc in
    let d : p ≡ q = cc in
    first (λ i. fail (c i) (d i))

unmapped : {A B : Type 0} (f : A → B) (o : Outcome A) {q : ℕ} → Refuses (followed o (λ a r. got (f a) r)) q → Refuses o q
unmapped f o e = go (either o (λ a r. got (f a) r) e)
  where
    go : {q : ℕ} → Either o (λ a r. got (f a) r) q → Refuses o q
    go (first h) = h
    go (second h g) = none g

module _ (m : List ℕ) where
  -- numbers and data are not refused so
  num-refuses : {B : Type 0} (w p : ℕ) {q : ℕ} → Refuses (num_at w m p) q → B
  unfolding num_at number_at
  num-refuses {B} w p {q} e = go (leb (p + w) (length m)) e
    where
      go : (t : Bool) → Refuses (num_outcome w p (cond t (whole (be (take w (drop p m)))) too_few)) q → B
      go true e = none e
      go false e = other (λ d. omega arith) e

  -- the bytes of a run are all there and not valid, and the place is where they break
  record Bad (valid : List ℕ → Bool) (x : Part) (q : ℕ) : Type 0 where
    fits : x.start + x.size ≤ length m
    bad : valid (bytes_in m x) ≡ false
    at : q ≡ malformed_place x.size m x.start

  run-refuses : (valid : List ℕ → Bool) (n p : ℕ) {q : ℕ} → Refuses (run_at valid n m p) q → Bad valid (part p n) q
  unfolding run_at
  run-refuses valid n p {q} e = go (leb (p + n) (length m)) (valid (take n (drop p m))) refl refl e
    where
      go : (t u : Bool) → leb (p + n) (length m) ≡ t → valid (take n (drop p m)) ≡ u
          → Refuses (cond t (cond u (got (part p n) (p + n)) (fail malformed_text (malformed_place n m p))) (fail truncated p)) q → Bad valid (part p n) q
      go true true h g e = none e
      go true false h g e = record { fits = leb-true (p + n) (length m) h; bad = g; at = cc }
      go false u h g e = other (λ d. omega arith) e

  -- the string whose bytes break
  record BadString (p q : ℕ) : Type 0 where
    start : ℕ
    size : ℕ
    counted : num_at 4 m p ≡ got size start
    is : Bad well_formed (part start size) q

  string-refuses : (p : ℕ) {q : ℕ} → Refuses (string_at m p) q → BadString p q
  string-refuses p {q} e = go (either (num_at 4 m p) (λ n r. run_at well_formed n m r) e)
    where
      go : Either (num_at 4 m p) (λ n r. run_at well_formed n m r) q → BadString p q
      go (first h) = num-refuses 4 p h
      go (second {a = n} {r = r} h g) = record { start = r; size = n; counted = h; is = run-refuses well_formed n r g }

  bytes-refuses : {B : Type 0} (p : ℕ) {q : ℕ} → Refuses (bytes_at m p) q → B
  bytes-refuses {B} p {q} e = go (either (num_at 4 m p) (λ n r. run_at any_bytes n m r) e)
    where
      go : Either (num_at 4 m p) (λ n r. run_at any_bytes n m r) q → B
      go (first h) = num-refuses 4 p h
      go (second {a = n} {r = r} h g) =
          let b = run-refuses any_bytes n r g in
          let z : true ≡ false = b.bad in
          apart (sym z)

  -- of n strings, the one behind others that are read
  record BadName (n p q : ℕ) : Type 0 where
    others : ℕ
    fewer : others < n
    names : List Part
    end : ℕ
    read : strings_at others m p ≡ got names end
    is : BadString end q

  strings-refuse : (n p : ℕ) {q : ℕ} → Refuses (strings_at n m p) q → BadName n p q
  strings-refuse zero p e = none e
  strings-refuse (suc n) p {q} e = go (either (string_at m p) (λ x r. mapped (λ xs. x ∷ xs) (strings_at n) m r) e) (λ r h. strings-refuse n r h)
    where
      go : Either (string_at m p) (λ x r. mapped (λ xs. x ∷ xs) (strings_at n) m r) q → ((r : ℕ) → Refuses (strings_at n m r) q → BadName n r q)
          → BadName (suc n) p q
      go (first h) later = record { others = 0; fewer = omega arith; names = []; end = p; read = refl; is = string-refuses p h }
      go (second {a = x} {r = r} h g) later =
          let b = later r (unmapped (λ xs. x ∷ xs) (strings_at n m r) g) in
          record {
            others = suc b.others;
            fewer = omega (arith, b.fewer);
            names = x ∷ b.names;
            end = b.end;
            read = rw (h, b.read);
            is = b.is;
          }

  -- of fields, the string that reading comes to
  record BadField (R : Part → Type 0) (q : ℕ) : Type 0 where
    string : Part
    reached : R string
    is : Bad well_formed string q

  field-refuses : (k : Kind) (ks : List Kind) (p : ℕ) {q : ℕ} → Refuses (field_at k m p) q → BadField (Reaches m (k ∷ ks) p) q
  field-refuses (num k) ks p e = num-refuses (width k) p (unmapped (value_of k) (num_at (width k) m p) e)
  field-refuses string ks p e =
      let b = string-refuses p (unmapped run (string_at m p) e) in
      record { string = part b.start b.size; reached = text b.counted; is = b.is }
  field-refuses bytes ks p e = bytes-refuses p (unmapped run (bytes_at m p) e)
  field-refuses strings ks p {q} e = go (either (num_at 4 m p) (λ n r. mapped runs (strings_at n) m r) e)
    where
      go : Either (num_at 4 m p) (λ n r. mapped runs (strings_at n) m r) q → BadField (Reaches m (strings ∷ ks) p) q
      go (first h) = num-refuses 4 p h
      go (second {a = n} {r = r} h g) =
          let b = strings-refuse n r (unmapped runs (strings_at n m r) g) in
          let s = b.is in
          record { string = part s.start s.size; reached = name h b.fewer b.read s.counted; is = s.is }

  fields-refuse : (ks : List Kind) (p : ℕ) {q : ℕ} → Refuses (fields_at ks m p) q → BadField (Reaches m ks p) q
  fields-refuse [] p e = none e
  fields-refuse (k ∷ ks) p {q} e = go (either (field_at k m p) (λ v r. mapped (λ vs. v ∷ vs) (fields_at ks) m r) e) (λ r h. fields-refuse ks r h)
    where
      go : Either (field_at k m p) (λ v r. mapped (λ vs. v ∷ vs) (fields_at ks) m r) q
          → ((r : ℕ) → Refuses (fields_at ks m r) q → BadField (Reaches m ks r) q) → BadField (Reaches m (k ∷ ks) p) q
      go (first h) later = field-refuses k ks p h
      go (second {a = v} {r = r} h g) later =
          let b = later r (unmapped (λ vs. v ∷ vs) (fields_at ks m r) g) in
          record { string = b.string; reached = behind h b.reached; is = b.is }

  succeeded-refuses : {B : Type 0} (c : Bool) (r : ℕ) (vs : List (Value Part)) (p : ℕ) {q : ℕ} → Refuses (succeeded c r vs m p) q → B
  succeeded-refuses false r vs p e = none e
  succeeded-refuses {B} true r vs p {q} e = go (eqb r (data_size vs)) e
    where
      go : (t : Bool) → Refuses (cond t (got (body success (signed (pos r) ∷ vs)) p) (fail data_length_mismatch result_place)) q → B
      go true e = none e
      go false e = other (λ d. omega arith) e

  body-refuses : (pl : Plan) {q : ℕ} → Refuses (body_at pl m header_size) q → BadField (ReachesIn m pl) q
  body-refuses unexpected e = other (λ d. omega arith) e
  body-refuses header e = none e
  body-refuses (asked ks) e =
      let b = fields-refuse ks header_size (unmapped (body known) (fields_at ks m header_size) e) in
      record { string = b.string; reached = in-request b.reached; is = b.is }
  body-refuses (plain ks) e =
      let b = fields-refuse ks header_size (unmapped (body success) (fields_at ks m header_size) e) in
      record { string = b.string; reached = in-bare-reply b.reached; is = b.is }
  body-refuses (led c ks) {q} e = go (either (num_at 4 m header_size) (λ n r. behind_result c ks (signed_of 4 n) m r) e)
    where
      fields : {n r : ℕ} → num_at 4 m result_place ≡ got n fields_place → signed_of 4 n ≡ pos r
          → Either (fields_at ks m fields_place) (λ vs a. succeeded c r vs m a) q → BadField (ReachesIn m (led c ks)) q
      fields h z (first g) =
          let b = fields-refuse ks fields_place g in
          record { string = b.string; reached = behind-result h z b.reached; is = b.is }
      fields {r = r} h z (second {a = vs} {r = a} g f) = succeeded-refuses c r vs a f

      result : {n : ℕ} → num_at 4 m result_place ≡ got n fields_place → (z : ℤ) → signed_of 4 n ≡ z → Refuses (behind_result c ks z m fields_place) q
          → BadField (ReachesIn m (led c ks)) q
      result h (negsuc x) z e = none e
      result h (pos r) z e = fields h z (either (fields_at ks m fields_place) (λ vs a. succeeded c r vs m a) e)

      go : Either (num_at 4 m header_size) (λ n r. behind_result c ks (signed_of 4 n) m r) q → BadField (ReachesIn m (led c ks)) q
      go (first h) = num-refuses 4 header_size h
      go (second {a = n} {r = r} h g) =
          let at : r ≡ fields_place = (num-traced h).1 in
          result (rw at at h) (signed_of 4 n) refl (rw at at g)

  -- ---- the string breaks there

  bad-breaks : {x : Part} {q : ℕ} → Bad well_formed x q → BreaksAt m x q
  unfolding well_formed
  bad-breaks {x} {q} b =
      let s : List ℕ = bytes_in m x in
      let e : ℕ = well_formed_end s in
      let size : length s ≡ x.size = part_length x.start x.size m b.fits in
      let fits : e ≤ length s = end_fits s in
      let short : e ≡ length s → ⊥ = eqb-false e (length s) b.bad in
      let at : q ≡ x.start + e = b.at in
      let in-string : q - x.start ≡ e = omega arith in
      record {
        whole = b.fits;
        from = omega arith;
        before = omega arith;
        well-formed = rw in-string (end-well s);
        maximal = λ n l w. rw in-string (end-longest s n (omega arith) w);
      }

  -- ---- its length stands before it, and all else that was read

  reaches-counted : {ks : List Kind} {p : ℕ} {x : Part} → Reaches m ks p x → NumHere 4 m (x.start - 4) x.size × (p + 4 ≤ x.start)
  reaches-counted (text {p = p} {q = q} h) =
      let a = num-traced h in
      let back : q - 4 ≡ p = omega (arith, a.1) in
      (rw back a.0, omega (arith, a.1))
  reaches-counted (name {p = p} {q = q} {r = r} {s = s} {k = k} h l t g) =
      let a = num-traced h in
      let b = num-traced g in
      let back : s - 4 ≡ r = omega (arith, b.1) in
      (rw back b.0, omega (arith, a.1, b.1, strings-size (strings-traced k q t)))
  reaches-counted (behind {k = k} {p = p} h t) =
      let a = reaches-counted t in
      (a.0, omega (arith, a.1, field-size (field-traced k p h)))

  in-counted : {pl : Plan} {x : Part} → ReachesIn m pl x → NumHere 4 m (x.start - 4) x.size × (header_size + 4 ≤ x.start)
  in-counted (in-request t) = reaches-counted t
  in-counted (in-bare-reply t) = reaches-counted t
  in-counted (behind-result h z t) = let a = reaches-counted t in (a.0, omega (arith, a.1))

-- ---- where the bytes of the string are refused, so is the message, and any that agrees with it up to there

-- a string behind others
strings-stop : {m : List ℕ} {k p r n s : ℕ} {xs : List Part} → StringsHere m k p xs r → (c : ℕ) → k < c → string_at m r ≡ fail n s → strings_at c m p ≡ fail n s
strings-stop t zero l e = let nothing : ⊥ = omega arith in absurd nothing
strings-stop no-string (suc c) l e = rw e
strings-stop (a-string-more {n = k} h t) (suc c) l e = rw (sized_reads h, strings-stop {k = k} t c (omega arith) e)

module _ (m m' : List ℕ) where
  num-again : (p : ℕ) {n q : ℕ} → num_at 4 m p ≡ got n q → Agree q m m' → num_at 4 m' p ≡ got n q
  num-again p {n} {q} h a =
      let g = num-traced h in
      num-reads (num-stays g.0 (rw g.1 at a)) ∙ ap (got n) (sym g.1)

  string-stops : (p : ℕ) {n q c s : ℕ} → num_at 4 m p ≡ got n q → Agree q m m' → run_at well_formed n m' q ≡ fail c s → string_at m' p ≡ fail c s
  string-stops p h a e = rw (num-again p h a, e)

  fields-stop : {ks : List Kind} {p c s : ℕ} {x : Part} → Reaches m ks p x → Agree x.start m m' → run_at well_formed x.size m' x.start ≡ fail c s
      → fields_at ks m' p ≡ fail c s
  fields-stop (text {p = p} h) a e = rw (string-stops p h a e)
  fields-stop (name {p = p} {q = q} {r = r} {c = n} {k = k} h l t g) a e =
      let others = strings-traced k q t in
      let behind-others = num-traced g in
      let first = num-again p h (agree_less (omega (arith, strings-size others, behind-others.1)) a) in
      let stay = strings-stay others (agree_less (omega (arith, behind-others.1)) a) in
      rw (first, strings-stop stay n l (string-stops r g a e))
  fields-stop (behind {k = k} {p = p} h t) a e =
      let stay = field-stays (field-traced k p h) (agree_less (omega (arith, (reaches-counted m t).1)) a) in
      rw (field-reads stay, fields-stop t a e)

  body-stops : {pl : Plan} {x : Part} {c s : ℕ} → ReachesIn m pl x → Agree x.start m m' → run_at well_formed x.size m' x.start ≡ fail c s
      → body_at pl m' header_size ≡ fail c s
  body-stops (in-request t) a e = rw (fields-stop t a e)
  body-stops (in-bare-reply t) a e = rw (fields-stop t a e)
  body-stops (behind-result h z t) a e = rw (num-again result_place h (agree_less (omega (arith, (reaches-counted m t).1)) a), z, fields-stop t a e)

  message-stops : (side : Side) {x : Part} {c s : ℕ} → ReachesIn m (plan side (type_of m)) x → Agree x.start m m' → length m' ≤ longest
      → run_at well_formed x.size m' x.start ≡ fail c s → read side m' ≡ refused c s
  message-stops side t a l e =
      let b : Agree header_size m m' = agree_less (omega (arith, (in-counted m t).1)) a in
      let same : type_of m' ≡ type_of m = ap be (sym (same-part 4 1 b)) in
      read-header side m' b.fits l ∙ rw (same, body-stops t a e)

-- ---- messages

-- the string in which a message is refused
pub record Broken (side : Side) (m : List ℕ) (q : ℕ) : Type 0 where
  pub string : Part
  pub is : Malformed side m q string
  -- it begins behind its length, which stands behind the header
  pub behind : header_size + 4 ≤ string.start
  pub counted : NumHere 4 m (string.start - 4) string.size

module _ (side : Side) (m : List ℕ) where
  -- the message cut inside the string
  cut_inside : {x : Part} {q : ℕ} → length m ≤ longest → ReachesIn m (plan side (type_of m)) x → BreaksAt m x q → read side (take q m) ≡ refused truncated x.start
  cut_inside {x} {q} l t b =
      message-stops m (take q m) side t (agree-take x.start q m (omega (arith, b.whole)) b.from) (omega (arith, length-take q m))
      (run-cut m q well_formed x.size x.start b.before)

  bad-message : {q : ℕ} → length m ≤ longest → BadField m (ReachesIn m (plan side (type_of m))) q → Broken side m q
  bad-message {q} s b =
      let at : BreaksAt m b.string q = bad-breaks m b.is in
      record {
        string = b.string;
        is = record { reached = b.reached; breaks = at; cut = cut_inside s b.reached at };
        behind = (in-counted m b.reached).1;
        counted = (in-counted m b.reached).0;
      }

  -- malformed text is refused inside a string that reading comes to, where that string breaks
  pub malformed : {q : ℕ} → read side m ≡ refused malformed_text q → Broken side m q
  unfolding read
  malformed {q} said = go (ltb (length m) header_size) (ltb longest (length m)) refl refl said
    where
      text-refused : (o : Outcome Message) → answer o ≡ refused malformed_text q → Refuses o q
      text-refused (got x k) e = let z : ◌≡◌ {A = ℕ} 0 1 = cc in let n : ⊥ = omega arith in absurd n
      text-refused (fail n p) e =
          let c : n ≡ malformed_text = cc in
          let d : p ≡ q = cc in
          λ i. fail (c i) (d i)

      go : (t u : Bool) → ltb (length m) header_size ≡ t → ltb longest (length m) ≡ u
          → cond t (refused truncated_header 0) (cond u (refused oversize 0) (answer (message_at side m 0))) ≡ refused malformed_text q → Broken side m q
      go true u h g e = let z : ◌≡◌ {A = ℕ} 1 5 = cc in let n : ⊥ = omega arith in absurd n
      go false true h g e = let z : ◌≡◌ {A = ℕ} 2 5 = cc in let n : ⊥ = omega arith in absurd n
      go false false h g e =
          let long : header_size ≤ length m = ltb-false (length m) header_size h in
          let short : length m ≤ longest = ltb-false longest (length m) g in
          let r : behind_header side (id_of m) (type_of m) m ≡ refused malformed_text q = sym (read-header side m long short) ∙ said in
          bad-message short (body-refuses m (plan side (type_of m)) (unmapped (message (id_of m) (type_of m)) (body_at (plan side (type_of m)) m header_size) (text-refused _ r)))

  -- the converse: where such a string breaks, the message is so refused
  breaks-run : {x : Part} {q : ℕ} → BreaksAt m x q → run_at well_formed x.size m x.start ≡ fail malformed_text q
  unfolding run_at well_formed
  breaks-run {x} {q} b =
      let s : List ℕ = bytes_in m x in
      let e : ℕ = well_formed_end s in
      let size : length s ≡ x.size = part_length x.start x.size m b.whole in
      let fits : e ≤ length s = end_fits s in
      let less : e ≤ q - x.start = b.maximal e (omega arith) (end-well s) in
      let more : q - x.start ≤ e = end-longest s (q - x.start) (omega (arith, b.before)) b.well-formed in
      let at : x.start + e ≡ q = omega (arith, b.from) in
      rw (le-leb (x.start + x.size) (length m) b.whole, ne_eqb e (length s) (λ z. omega (arith, b.before)), at)

  pub breaks-refused : {x : Part} {q : ℕ} → length m ≤ longest → ReachesIn m (plan side (type_of m)) x → BreaksAt m x q → read side m ≡ refused malformed_text q
  breaks-refused {x} l t b = message-stops m m side t (record { same = refl; fits = omega (arith, b.whole) }) l (breaks-run b)
