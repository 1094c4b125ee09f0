-- What a host may count on in the cells of a reading, and in the names that it meets.
use Rattle.std.specs.Prelude.{ℕ, zero, suc, ◌+◌, ◌≤◌, ◌≡◌, true, cond, List, [], ◌∷◌, eqb, length}
use Rattle.text.specs.Utf8.{well_formed}
use Rattle.layout.specs.Kinds.{Num, Kind, num, string, bytes, strings}
use Rattle.layout.specs.Values.{Part, part, bytes_in}
use Rattle.layout.specs.Names.{position, step}
use Rattle.exports.specs.Shown.{name_of}

-- n bytes from p on lie inside the message m
pub record Inside (m : List ℕ) (p n : ℕ) : Type 0 where
  pub fits : p + n ≤ length m

-- and they are well-formed text
pub record Text (m : List ℕ) (p n : ℕ) : Type 0 where
  pub fits : p + n ≤ length m
  pub good : well_formed (bytes_in m (part p n)) ≡ true

-- the cells of fields of these kinds: a number has one; a text or data has two, its place and its length. Names have two as well, of which
-- nothing is said here, but of the names that they lead to (`names_met`). Behind the last field any cells may follow
pub data Sound (m : List ℕ) : List Kind → List ℕ → Type 0 where
  no_more : {cs : List ℕ} → Sound m [] cs
  a-number : {k : Num} {c : ℕ} {ks : List Kind} {cs : List ℕ} → Sound m ks cs → Sound m (num k ∷ ks) (c ∷ cs)
  a-text : {p n : ℕ} {ks : List Kind} {cs : List ℕ} → Text m p n → Sound m ks cs → Sound m (string ∷ ks) (p ∷ n ∷ cs)
  some_bytes : {p n : ℕ} {ks : List Kind} {cs : List ℕ} → Inside m p n → Sound m ks cs → Sound m (bytes ∷ ks) (p ∷ n ∷ cs)
  some-names : {p n : ℕ} {ks : List Kind} {cs : List ℕ} → Sound m ks cs → Sound m (strings ∷ ks) (p ∷ n ∷ cs)

-- the names that a host meets in n steps, each from the position that the last one gave, until there is none
abbrev pub names_met : ℕ → List ℕ → ℕ → ℕ → List Part
names_met zero m at left = []
names_met (suc n) m at left =
    let x = name_of (step m (position at left)) in
    cond (eqb x.found 1) (part x.start x.len ∷ names_met n m x.at x.left) []

-- each of these names is text
pub data AllText (m : List ℕ) : List Part → Type 0 where
  no_text : AllText m []
  a-text-more : {x : Part} {xs : List Part} → Text m x.start x.size → AllText m xs → AllText m (x ∷ xs)
