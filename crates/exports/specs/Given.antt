-- What a host gives a writer: a type, numbers, texts or data, lengths of names; and what is then written.
use Rattle.std.specs.Prelude.{ℕ, ◌+◌, ◌%◌, Bool, true, not, List, [], ◌∷◌, eqb, ℤ, length, get_or, drop}
use Rattle.std.specs.Borrow.{Bor}
use Rattle.number.specs.TwosComplement.{signed_of}
use Rattle.layout.specs.Kinds.{Num, u8, i8, u32, i32, u64, bool, Kind, num, string, bytes, strings}
use Rattle.layout.specs.Table.{request, reply, Plan, unexpected, header, asked, plain, led, plan}
use Rattle.layout.specs.Values.{Value, number, signed, truth, run, runs}
use Rattle.layout.specs.Reading.{known, success}
use Rattle.layout.specs.Pieces.{kinds_of}
use Rattle.layout.specs.Writing.{WriteOutcome, write, split, sum}

-- a number field is given by the low bits of a number of 64 bits, and a bool by any number but 0
abbrev pub value_by : Num → ℕ → Value (List ℕ)
value_by u8 n = number (n % 0x100)
value_by i8 n = signed (signed_of 1 (n % 0x100))
value_by u32 n = number (n % 0x1_0000_0000)
value_by i32 n = signed (signed_of 4 (n % 0x1_0000_0000))
value_by u64 n = number n
value_by bool n = truth (not (eqb n 0))

-- fields of these kinds: their numbers are those of ns from the i-th on, their texts and data are ss, one after another; names are such a
-- run, cut by the lengths ls. For what is not given stands 0, or no bytes
abbrev pub given : List Kind → List ℕ → ℕ → List (List ℕ) → List ℕ → List (Value (List ℕ))
given [] ns i ss ls = []
given (num k ∷ ks) ns i ss ls = value_by k (get_or ns i 0) ∷ given ks ns (i + 1) ss ls
given (string ∷ ks) ns i ss ls = run (get_or ss 0 []) ∷ given ks ns i (drop 1 ss) ls
given (bytes ∷ ks) ns i ss ls = run (get_or ss 0 []) ∷ given ks ns i (drop 1 ss) ls
given (strings ∷ ks) ns i ss ls = runs (split ls (get_or ss 0 [])) ∷ given ks ns i (drop 1 ss) ls

-- the lengths of names sum to their run; true where there are no names
abbrev pub summed : List Kind → List ℕ → List ℕ → Bool
summed [] s ls = true
summed (num k ∷ ks) s ls = summed ks s ls
summed (string ∷ ks) s ls = summed ks s ls
summed (bytes ∷ ks) s ls = summed ks s ls
summed (strings ∷ ks) s ls = eqb (sum ls) (length s)

-- the known request of this type; of a type that no method has, it is refused as unexpected
unfoldable pub request_by : ℕ → ℕ → List ℕ → List ℕ → List ℕ → List ℕ → WriteOutcome
request_by i t ns s u out = write request known i t (given (kinds_of (plan request t) known) ns 0 (s ∷ u ∷ []) []) true out

-- the same by what a host lends
abbrev pub request_lent : ℕ → ℕ → Bor (List ℕ) → Bor (List ℕ) → Bor (List ℕ) → List ℕ → WriteOutcome
request_lent i t ns s u out = request_by i t ns.now s.now u.now out

-- what follows the header of a success: the result z, where it has one, and the fields
abbrev pub behind_header : Plan → ℤ → List ℕ → List ℕ → List ℕ → List (Value (List ℕ))
behind_header unexpected z ns s ls = []
behind_header header z ns s ls = []
behind_header (asked ks) z ns s ls = []
behind_header (plain ks) z ns s ls = given ks ns 0 (s ∷ []) ls
behind_header (led c ks) z ns s ls = signed z ∷ given ks ns 0 (s ∷ []) ls

-- the success of this type; of a type that has none, it is refused as unexpected
unfoldable pub success_by : ℕ → ℕ → ℤ → List ℕ → List ℕ → List ℕ → List ℕ → WriteOutcome
success_by i t z ns s ls out =
    let p = plan reply t in
    write reply success i t (behind_header p z ns s ls) (summed (kinds_of p success) s ls) out

-- the same by what a host lends
abbrev pub success_lent : ℕ → ℕ → ℤ → Bor (List ℕ) → Bor (List ℕ) → Bor (List ℕ) → List ℕ → WriteOutcome
success_lent i t z ns s ls out = success_by i t z ns.now s.now ls.now out
