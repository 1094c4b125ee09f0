-- What the body of a case holds, and what lent memory holds before a call: second/FORMAT.md.
use Rattle.std.specs.Prelude.{ℕ, zero, suc, ◌+◌, ◌*◌, ◌%◌, cond, List, [], ◌∷◌, ◌++◌, eqb, drop}
use Rattle.number.specs.BigEndian.{Found, whole, truncated, number_at}
use Rattle.outstanding_records.specs.declared.Record.{Record}
use Rattle.outstanding_records.specs.declared.Record.TheVariants.{Free, Held}
use Rattle.outstanding_records.specs.Copies.{size}
use Rattle.outstanding.specs.Calls.{request}

abbrev pub or_zero : Found → ℕ
or_zero (whole x) = x
or_zero truncated = 0

-- the number in the w bytes from place p of l; 0 where it does not fit
abbrev pub number_in : ℕ → List ℕ → ℕ → ℕ
number_in w l p = or_zero (number_at w l p)

-- f of 0, of 1, and so on: n elements
unfoldable pub listed : {A : Type 0} → (ℕ → A) → ℕ → List A
listed f zero = []
listed f (suc n) = listed f n ++ (f n ∷ [])

-- what stands at i before a call: in a buffer modulo 251; in a list of numbers of 32 bits modulo 2 to the 32nd, which changes no
-- number of a short list
unfoldable pub filling : ℕ → ℕ → ℕ
filling m i = (i * 7 + 3) % m

abbrev pub byte_modulus : ℕ
byte_modulus = 251

abbrev pub number_modulus : ℕ
number_modulus = 0x1_0000_0000

-- the first of the records that stand in l: a byte that is 0 where it is free, the id, the type
unfoldable pub record_in : List ℕ → Record
record_in l = cond (eqb (number_in 1 l 0) 0) Free (Held (number_in 4 l 1) (request (number_in 1 l 5)))

-- the bytes of a record
abbrev pub record_size : ℕ
record_size = 6

-- the table whose records stand in l one behind the other
unfoldable pub table_in : List ℕ → List Record
table_in l = listed (λ i. record_in (drop (i * record_size) l)) size
