-- The numbers of refusal: document 01's, then document 02's. The word in brackets is document 01's.
use Rattle.std.specs.Prelude.{ℕ}

-- (runt) fewer than the header's bytes
abbrev pub truncated_header : ℕ
truncated_header = 1

-- (over-long) more bytes than the longest message, read or to be written
abbrev pub oversize : ℕ
oversize = 2

-- (stray) a type that no such message has
abbrev pub unexpected_type : ℕ
unexpected_type = 3

-- (short) a number or a run that does not fit
abbrev pub truncated : ℕ
truncated = 4

-- (text) a string that is not well-formed
abbrev pub malformed_text : ℕ
malformed_text = 5

-- (tally) a read reply whose result is not the length of its data
abbrev pub data_length_mismatch : ℕ
data_length_mismatch = 6

-- (room) a lent buffer that is shorter than what is to be written
abbrev pub buffer_too_small : ℕ
buffer_too_small = 7

-- (sign) a failure without a negative code, or a success with one
abbrev pub result_sign : ℕ
result_sign = 8

-- (list) lengths of names that do not sum to their run
abbrev pub lengths_mismatch : ℕ
lengths_mismatch = 9

-- ---- the table of outstanding requests (document 02, Item 5)

-- a request with this id is outstanding
abbrev pub id_outstanding : ℕ
id_outstanding = 10

-- no record is free
abbrev pub table_full : ℕ
table_full = 11

-- a reply to an id that is not outstanding
abbrev pub id_not_outstanding : ℕ
id_not_outstanding = 12

-- a reply whose type does not answer the request
abbrev pub type_mismatch : ℕ
type_mismatch = 13

-- records that no calls leave
abbrev pub unsound_table : ℕ
unsound_table = 20
