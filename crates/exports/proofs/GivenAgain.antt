-- Laws for hosts: what a reading shows, given to a writer, are the values that were read. Assumes nothing.
use mathlib.Core.Path.{◌≡◌, refl, sym, ap, ap₂, ◌∙◌}
use mathlib.Core.Bool.{Bool, true, false}
use mathlib.Core.List.{List, [], ◌∷◌, ◌++◌, map}
use Prim.Native.Nat.{ℕ, ◌+◌, ◌%◌, ◌^◌, ◌<◌}
use native.Mathlib.Nat.{add-zero}
use native.Mathlib.Omega.{arith}
use lib.IntN.{ℤ}
use lib.ListN.{length, get_or, drop, length-append}
use lib.Seq.{get_or-drop, drop-drop, take-append_seam, drop-append_seam}
use Rattle.number.specs.TwosComplement.{signed_of, bits_of, Signed, not_negative, negative}
use Rattle.number.proofs.TwosComplement.{signed-bits, bits_below}
use Rattle.layout.specs.Kinds.{Num, Kind, bytes}
use Rattle.layout.specs.Values.{Part, Value, number, signed, truth, run, runs, bytes_in, contents, NumFits, fits-u8, fits-u32, fits-u64, fits-i8, fits-i32, fits_bool, fits-num, fits-string, fits-bytes, fits-strings, AllFit, none, more}
use Rattle.layout.specs.Writing.{bit, split, sum}
use Rattle.exports.specs.Shown.{cells}
use Rattle.exports.specs.Given.{value_by, given}

-- the cells of the numbers among fields
abbrev pub number_cells : List (Value Part) → List ℕ
number_cells [] = []
number_cells (number n ∷ vs) = cells (number n) ++ number_cells vs
number_cells (signed z ∷ vs) = cells (signed z) ++ number_cells vs
number_cells (truth b ∷ vs) = cells (truth b) ++ number_cells vs
number_cells (run x ∷ vs) = number_cells vs
number_cells (runs xs ∷ vs) = number_cells vs

-- names one behind the other
abbrev pub joined : List (List ℕ) → List ℕ
joined [] = []
joined (s ∷ ss) = s ++ joined ss

-- the bytes of the texts, data and names among fields
abbrev pub run_bytes : List ℕ → List (Value Part) → List (List ℕ)
run_bytes m [] = []
run_bytes m (number n ∷ vs) = run_bytes m vs
run_bytes m (signed z ∷ vs) = run_bytes m vs
run_bytes m (truth b ∷ vs) = run_bytes m vs
run_bytes m (run x ∷ vs) = bytes_in m x ∷ run_bytes m vs
run_bytes m (runs xs ∷ vs) = joined (map (bytes_in m) xs) ∷ run_bytes m vs

-- ls are the lengths of the names among fields
abbrev pub LengthsOf : List ℕ → List (Value Part) → List ℕ → Type 0
LengthsOf m [] ls = Unit {0}
LengthsOf m (number n ∷ vs) ls = LengthsOf m vs ls
LengthsOf m (signed z ∷ vs) ls = LengthsOf m vs ls
LengthsOf m (truth b ∷ vs) ls = LengthsOf m vs ls
LengthsOf m (run x ∷ vs) ls = LengthsOf m vs ls
LengthsOf m (runs xs ∷ vs) ls = (ls ≡ map length (map (bytes_in m) xs)) × LengthsOf m vs ls

-- ---- one number

-- the low byte of a small number's 32 bits is its byte
low_byte : {z : ℤ} → Signed 1 z → bits_of 4 z % 0x100 ≡ bits_of 1 z
unfolding bits_of
low_byte (not_negative h) = omega arith
low_byte (negative h) = omega arith

number-again : {k : Num} {n : ℕ} → NumFits k (number n) → value_by k n ≡ number n
number-again (fits-u8 {n = n} h) = let e : n % 0x100 ≡ n = omega arith in ap number e
number-again (fits-u32 {n = n} h) = let e : n % 0x1_0000_0000 ≡ n = omega arith in ap number e
number-again (fits-u64 h) = refl

signed-again : {k : Num} {z : ℤ} → NumFits k (signed z) → value_by k (bits_of 4 z) ≡ signed z
signed-again (fits-i8 h) = ap signed (ap (signed_of 1) (low_byte h) ∙ signed-bits 1 h)
signed-again (fits-i32 {z = z} h) =
    let l : bits_of 4 z < 256 ^ 4 = bits_below 4 h in
    let e : bits_of 4 z % 0x1_0000_0000 ≡ bits_of 4 z = omega arith in
    ap signed (ap (signed_of 4) e ∙ signed-bits 4 h)

truth-again : {k : Num} (b : Bool) → NumFits k (truth b) → value_by k (bit b) ≡ truth b
truth-again true (fits_bool b) = refl
truth-again false (fits_bool b) = refl

-- ---- names

split-joined : (ss : List (List ℕ)) → split (map length ss) (joined ss) ≡ ss
split-joined [] = refl
split-joined (s ∷ ss) = rw (take-append_seam s (joined ss), drop-append_seam s (joined ss)) (ap (λ (us : List (List ℕ)). s ∷ us) (split-joined ss))

pub sum-joined : (ss : List (List ℕ)) → sum (map length ss) ≡ length (joined ss)
sum-joined [] = refl
sum-joined (s ∷ ss) = rw (sum-joined ss) (sym (length-append s (joined ss)))

-- ---- fields

module _ (ns : List ℕ) (i : ℕ) {n : ℕ} {later : List ℕ} (e : drop i ns ≡ n ∷ later) where
  first-given : get_or ns i 0 ≡ n
  first-given = ap (λ (j : ℕ). get_or ns j 0) (sym (add-zero i)) ∙ sym (get_or-drop i ns 0 0) ∙ ap (λ (l : List ℕ). get_or l 0 0) e

  rest-given : drop (i + 1) ns ≡ later
  rest-given = sym (drop-drop 1 i ns) ∙ ap (λ (l : List ℕ). drop 1 l) e

-- fields of a message m, given by the cells of their numbers and the bytes of their texts, data and names. More words and more slices may
-- be given; they are not looked at
pub given-again : (m : List ℕ) {ks : List Kind} (vs : List (Value Part)) → AllFit ks (contents m vs) → (ls : List ℕ) → LengthsOf m vs ls
    → (ns : List ℕ) (i : ℕ) (later : List ℕ) → drop i ns ≡ number_cells vs ++ later → (others : List (List ℕ))
    → given ks ns i (run_bytes m vs ++ others) ls ≡ contents m vs
given-again m [] none ls h ns i later e others = refl
given-again m (number n ∷ vs) (more (fits-num {k = k} f) t) ls h ns i later e others =
    ap₂ (λ v us. v ∷ us) (ap (value_by k) (first-given ns i e) ∙ number-again f) (given-again m vs t ls h ns (i + 1) later (rest-given ns i e) others)
given-again m (run x ∷ vs) (more {ks = ks} (fits-num {k = k} f) t) ls h ns i later e others = elim f [ ]
given-again m (runs xs ∷ vs) (more {ks = ks} (fits-num {k = k} f) t) ls h ns i later e others = elim f [ ]
given-again m (signed z ∷ vs) (more (fits-num {k = k} f) t) ls h ns i later e others =
    ap₂ (λ v us. v ∷ us) (ap (value_by k) (first-given ns i e) ∙ signed-again f) (given-again m vs t ls h ns (i + 1) later (rest-given ns i e) others)
given-again m (truth b ∷ vs) (more (fits-num {k = k} f) t) ls h ns i later e others =
    ap₂ (λ v us. v ∷ us) (ap (value_by k) (first-given ns i e) ∙ truth-again b f) (given-again m vs t ls h ns (i + 1) later (rest-given ns i e) others)
given-again m (run x ∷ vs) (more (fits-string s) t) ls h ns i later e others =
    ap (λ us. run (bytes_in m x) ∷ us) (given-again m vs t ls h ns i later e others)
given-again m (run x ∷ vs) (more (fits-bytes s) t) ls h ns i later e others =
    ap (λ us. run (bytes_in m x) ∷ us) (given-again m vs t ls h ns i later e others)
given-again m (runs xs ∷ vs) (more (fits-strings ss) t) ls h ns i later e others =
    ap₂ (λ us ws. runs us ∷ ws)
    (ap (λ (l : List ℕ). split l (joined (map (bytes_in m) xs))) h.0 ∙ split-joined (map (bytes_in m) xs))
    (given-again m vs t ls h.1 ns i later e others)
