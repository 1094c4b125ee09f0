-- Well-formed text, as document 01 lists it (RFC 3629, section 4).
use Rattle.std.specs.Prelude.{ℕ, zero, suc, ◌-◌, ◌≡◌, Bool, true, false, ◌&&◌, ◌||◌, cond, leb, eqb, length}
use mathlib.Core.List.{List, [], ◌∷◌, ◌++◌, Memᴰ}

infix 80 ◌to◌
-- the bytes from lo to hi (document 01: lo..hi)
pub record Range : Type 0 where
  pub lo : ℕ
  pub hi : ℕ

abbrev pub ◌to◌ : ℕ → ℕ → Range
◌to◌ l h = record { lo = l; hi = h }

-- one byte alone
abbrev byte : ℕ → Range
byte b = b to b

abbrev pub tail : Range
tail = 0x80 to 0xbf

-- an entry of the list: the ranges of the first byte, and a range for each byte that follows it
pub record Entry : Type 0 where
  pub first : List Range
  pub rest : List Range

abbrev entry : List Range → List Range → Entry
entry f r = record { first = f; rest = r }

-- the list, entry by entry, in document 01's order
abbrev pub entries : List Entry
entries =
    entry (0x00 to 0x7f ∷ []) []
    ∷ entry (0xc2 to 0xdf ∷ []) (tail ∷ [])
    ∷ entry (byte 0xe0 ∷ []) (0xa0 to 0xbf ∷ tail ∷ [])
    ∷ entry (0xe1 to 0xec ∷ 0xee to 0xef ∷ []) (tail ∷ tail ∷ [])
    ∷ entry (byte 0xed ∷ []) (0x80 to 0x9f ∷ tail ∷ [])
    ∷ entry (byte 0xf0 ∷ []) (0x90 to 0xbf ∷ tail ∷ tail ∷ [])
    ∷ entry (0xf1 to 0xf3 ∷ []) (tail ∷ tail ∷ tail ∷ [])
    ∷ entry (byte 0xf4 ∷ []) (0x80 to 0x8f ∷ tail ∷ tail ∷ [])
    ∷ []

abbrev pub inside : Range → ℕ → Bool
inside r b = leb r.lo b && leb b r.hi

abbrev pub inside_one : List Range → ℕ → Bool
inside_one [] b = false
inside_one (r ∷ rs) b = inside r b || inside_one rs b

-- the list begins with a byte of each range, one after the other
abbrev pub begins : List Range → List ℕ → Bool
begins [] s = true
begins (r ∷ rs) [] = false
begins (r ∷ rs) (b ∷ s) = inside r b && begins rs s

-- the list begins with a character of the entry
abbrev pub matches : Entry → List ℕ → Bool
matches e [] = false
matches e (b ∷ s) = inside_one e.first b && begins e.rest s

abbrev pub size : Entry → ℕ
size e = suc (length e.rest)

-- text is characters, each by one of the entries, one after the other
pub data WellFormed : List ℕ → Type 0 where
  empty : WellFormed []
  more : {e : Entry} (c : List ℕ) {s : List ℕ} → Memᴰ e entries → matches e c ≡ true → length c ≡ size e → WellFormed s → WellFormed (c ++ s)

-- the size of the first of these entries that the list begins with a character of; 0 where there is none
abbrev pub first_size : List Entry → List ℕ → ℕ
first_size [] s = 0
first_size (e ∷ es) s = cond (matches e s) (size e) (first_size es s)

-- the size of the character that the list begins with; 0 where it begins with none
unfoldable pub character : List ℕ → ℕ
character s = first_size entries s

-- k bytes more of a character, then characters as long as there are any: how many bytes that is
abbrev pub end_after : ℕ → List ℕ → ℕ
end_after k [] = 0
end_after (suc k) (b ∷ s) = suc (end_after k s)
end_after zero (b ∷ s) = let n = character (b ∷ s) in cond (eqb n 0) 0 (suc (end_after (n - 1) s))

-- where the longest well-formed beginning ends
unfoldable pub well_formed_end : List ℕ → ℕ
well_formed_end s = end_after 0 s

-- all of it is well-formed
unfoldable pub well_formed : List ℕ → Bool
well_formed s = eqb (well_formed_end s) (length s)
