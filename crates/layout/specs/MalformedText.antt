-- Malformed text of a message: the string that reading meets, and where it breaks (document 02, Item 2).
use Rattle.std.specs.Prelude.{ℕ, ◌+◌, ◌-◌, ◌≤◌, ◌<◌, ◌≡◌, Bool, List, ◌∷◌, pos, length, take}
use Rattle.number.specs.TwosComplement.{signed_of}
use Rattle.text.specs.Utf8.{WellFormed}
use Rattle.layout.specs.Kinds.{u32, i32, width, Kind, string, strings}
use Rattle.layout.specs.Refusals.{truncated}
use Rattle.layout.specs.Limits.{header_size}
use Rattle.layout.specs.Table.{Side, Plan, asked, plain, led, plan}
use Rattle.layout.specs.Values.{Part, part, Value, bytes_in}
use Rattle.layout.specs.Reading.{got, num_at, strings_at, field_at, result_place, fields_place, refused, read}
use Rattle.layout.specs.Front.{type_of}

-- reading these fields from p on comes to the string x: all that stands before its bytes is read, its length too
pub data Reaches (m : List ℕ) : List Kind → ℕ → Part → Type 0 where
  text : {ks : List Kind} {p q n : ℕ} → num_at (width u32) m p ≡ got n q → Reaches m (string ∷ ks) p (part q n)
  -- one of c names, behind k others
  name : {ks : List Kind} {p q r s c k n : ℕ} {xs : List Part} → num_at (width u32) m p ≡ got c q → k < c → strings_at k m q ≡ got xs r → num_at (width u32) m r ≡ got n s
      → Reaches m (strings ∷ ks) p (part s n)
  behind : {k : Kind} {ks : List Kind} {p q : ℕ} {v : Value Part} {x : Part} → field_at k m p ≡ got v q → Reaches m ks q x → Reaches m (k ∷ ks) p x

-- reading what follows the header comes to the string x, among the fields, or among those behind a result that is not negative
pub data ReachesIn (m : List ℕ) : Plan → Part → Type 0 where
  in-request : {ks : List Kind} {x : Part} → Reaches m ks header_size x → ReachesIn m (asked ks) x
  in-bare-reply : {ks : List Kind} {x : Part} → Reaches m ks header_size x → ReachesIn m (plain ks) x
  behind-result : {c : Bool} {ks : List Kind} {n r : ℕ} {x : Part} → num_at (width i32) m result_place ≡ got n fields_place → signed_of (width i32) n ≡ pos r
      → Reaches m ks fields_place x → ReachesIn m (led c ks) x

-- the string x breaks at q
pub record BreaksAt (m : List ℕ) (x : Part) (q : ℕ) : Type 0 where
  -- all its bytes are there
  pub whole : x.start + x.size ≤ length m
  -- q lies inside: from its first byte on, before its end
  pub from : x.start ≤ q
  pub before : q < x.start + x.size
  -- its bytes before q are well-formed text, and no beginning of it that is longer is
  pub well-formed : WellFormed (take (q - x.start) (bytes_in m x))
  pub maximal : (n : ℕ) → n ≤ x.size → WellFormed (take n (bytes_in m x)) → n ≤ q - x.start

-- the string x, which the reading of m comes to, breaks at q. One such string there is at most: those before it are well-formed, and none
-- behind it is reached
pub record Malformed (side : Side) (m : List ℕ) (q : ℕ) (x : Part) : Type 0 where
  pub reached : ReachesIn m (plan side (type_of m)) x
  pub breaks : BreaksAt m x q
  -- the message, cut at q, is refused as truncated where the string begins
  pub cut : read side (take q m) ≡ refused truncated x.start
