-- A readdir reply, stored with its names one after another.
use Rattle.std.specs.Prelude.{ℕ, List, [], ◌∷◌, ℤ}
use Rattle.method.specs.declared.Method.TheVariants.{Readdir}
use Rattle.method.specs.Methods.{reply_number}
use Rattle.layout.specs.Refusals.{malformed_text}
use Rattle.layout.specs.Table.{reply}
use Rattle.layout.specs.Values.{signed, runs}
use Rattle.layout.specs.Reading.{success}
use Rattle.layout.specs.Writing.{sized, encode_message, all_well_formed, WriteOutcome, check, store_checked}

-- each name: its length, and its bytes
abbrev pub name_pieces : List (List ℕ) → List (List ℕ)
name_pieces [] = []
name_pieces (s ∷ ss) = sized s ∷ name_pieces ss

-- what is left of layout's `write_names` once the sign and the lengths are right, as the law `lengths-right` shows
abbrev pub store_names : ℕ → ℤ → List (List ℕ) → List ℕ → WriteOutcome
store_names i r ss out =
    check malformed_text (all_well_formed ss) out
    (store_checked (encode_message reply success i (reply_number Readdir) (signed r ∷ runs ss ∷ [])) out)
