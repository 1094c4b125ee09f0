-- The string that breaks is found where a message, cut at the place of its refusal, is refused. Assumes nothing.
use mathlib.Core.Path.{◌≡◌, refl, sym, ap, subst, ◌∙◌}
use mathlib.Core.Bool.{Bool, true, false}
use mathlib.Core.List.{List, []}
use Prim.Native.Nat.{ℕ, ◌+◌, ◌-◌, ◌≤◌, ◌<◌}
use native.Mathlib.Omega.{arith}
use lib.Dec.{eqb}
use lib.ListN.{length, take}
use lib.Seq.{length-take-le}
use borrow.Author.Tests.{eqb-true, eqb-false, le-leb, le-ltb}
use Rattle.number.specs.BigEndian.{whole, number_at}
use Rattle.layout.specs.Refusals.{truncated, malformed_text}
use Rattle.layout.specs.Table.{Side}
use Rattle.layout.specs.Values.{Part}
use Rattle.layout.specs.Reading.{Answer, refused, accepted, read}
use Rattle.layout.specs.Parts.{nothing}
use Rattle.layout.specs.MalformedText.{Malformed}
use Rattle.layout.proofs.Header.{read-truncated-header}
use Rattle.layout.proofs.Trace.{NumHere}
use Rattle.layout.proofs.Breaking.{Broken, malformed, breaks-refused}
use Rattle.text_claim.specs.Claims.{place_of, string_from, FindsText}

-- the place where m is cut, and the string that is found
abbrev cut_place : Side → List ℕ → ℕ
cut_place side m = place_of malformed_text (read side m)

abbrev found : Side → List ℕ → Part
found side m = string_from m (place_of truncated (read side (take (cut_place side m) m)))

-- an answer is malformed text, or is not, and then nothing is cut off
data Told (a : Answer) : Type 0 where
  text : {q : ℕ} → a ≡ refused malformed_text q → Told a
  other : ((q : ℕ) → a ≡ refused malformed_text q → ⊥) → place_of malformed_text a ≡ 0 → Told a

told : (a : Answer) → Told a
told (refused n p) = go (eqb n malformed_text) refl
  where
    go : (t : Bool) → eqb n malformed_text ≡ t → Told (refused n p)
    go true e = text (ap (λ (c : ℕ). refused c p) (eqb-true n malformed_text e))
    go false e = other (λ q f. let c : n ≡ malformed_text = cc in eqb-false n malformed_text e c) (rw e)
told (accepted s i t vs k) = other (λ q f. let z : ◌≡◌ {A = ℕ} 0 1 = cc in let n : ⊥ = omega arith in absurd n) refl

module _ (side : Side) (m : List ℕ) where
  -- the place of malformed text lies inside the message
  place_inside : place_of malformed_text (read side m) ≤ length m
  place_inside = go (told (read side m))
    where
      go : Told (read side m) → place_of malformed_text (read side m) ≤ length m
      go (text e) = let b = (malformed side m e).is.breaks in rw e (omega (arith, b.before, b.whole))
      go (other n z) = rw z (omega arith)

  -- the length before a string counts it
  number-before : {p n : ℕ} → NumHere 4 m p n → number_at 4 m p ≡ whole n
  unfolding number_at
  number-before {p} h = rw (le-leb (p + 4) (length m) h.fits, h.is)

  broken-found : {q : ℕ} (b : Broken side m q) → read side m ≡ refused malformed_text q → found side m ≡ b.string
  broken-found b e = rw (e, b.is.cut, le-ltb b.string.start 4 (omega (arith, b.behind)), number-before b.counted)

  none_found : place_of malformed_text (read side m) ≡ 0 → found side m ≡ nothing
  none_found z = rw (z, read-truncated-header side [] (omega arith))

  finds : FindsText side m (read side m) (found side m)
  finds = go (told (read side m))
    where
      go : Told (read side m) → FindsText side m (read side m) (found side m)
      go (text {q = q} e) =
          let b = malformed side m e in
          let is : found side m ≡ b.string = broken-found b e in
          record {
            reads = refl;
            breaks = λ {q = r} f. let same : q ≡ r = cc (sym e ∙ f) in subst (λ (p : ℕ). Malformed side m p (found side m)) same (rw is b.is);
            none = λ n. absurd (n q e);
            told = λ l t b. breaks-refused side m l t b;
          }
      go (other n z) = record { reads = refl; breaks = λ {q = r} f. absurd (n r f); none = λ d. none_found z; told = λ l t b. breaks-refused side m l t b }

  -- ---- of the functions: a is the answer, q where m is cut, b the answer to what is left, s where that is refused

  pub cut_fits : {a : Answer} {q : ℕ} → a ≡ read side m → q ≡ place_of malformed_text a → q ≡ length (take q m)
  cut_fits {a} {q} f g =
      let at : q ≡ place_of malformed_text (read side m) = g ∙ ap (place_of malformed_text) f in
      sym (length-take-le q m (omega (arith, place_inside)))

  pub finds-text : {a b : Answer} {q s : ℕ} {x : Part} → a ≡ read side m → q ≡ place_of malformed_text a → b ≡ read side (take q m) → s ≡ place_of truncated b → x ≡ string_from m s
      → FindsText side m a x
  finds-text f g h l e = rw (e, l, h, g, f) finds
