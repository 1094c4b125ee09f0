-- The listing of a request (document 01, "The lister"): for every message, accepted or refused.
use Rattle.std.specs.Prelude.{ℕ, List, [], ◌∷◌, ◌++◌, leb, length}
use Rattle.text.specs.Ascii.{ascii}
use Rattle.method.specs.Methods.{Found, found, unknown as no-method, of_request}
use Rattle.layout.specs.Refusals.{buffer_too_small}
use Rattle.layout.specs.Table.{request}
use Rattle.layout.specs.Reading.{Answer, refused, accepted, read}
use Rattle.layout.specs.Parts.{fields_of}
use Rattle.layout.specs.Writing.{WriteOutcome, check, store}
use Rattle.lines.specs.Lines.{decimal, Line, text}
use Rattle.method_names.specs.Names.{name_of}
use Rattle.request_lines.specs.FieldLines.{field_lines}

-- ---- lines that requests and replies share

-- the known length, and the whole length
abbrev pub closing_line : ℕ → ℕ → Line
closing_line known whole = ascii "known" ∷ decimal known ∷ ascii "of" ∷ decimal whole ∷ []

abbrev pub refusal_line : ℕ → ℕ → Line
refusal_line n p = ascii "refused" ∷ decimal n ∷ ascii "at" ∷ decimal p ∷ []

-- ---- a request

-- with its method's name, or its type where it has no method
abbrev pub first_line : Found → ℕ → ℕ → Line
first_line (found x) t i = ascii (name_of x) ∷ ascii "id" ∷ decimal i ∷ []
first_line no-method t i = ascii "unknown" ∷ decimal t ∷ ascii "id" ∷ decimal i ∷ []

-- a message of so many bytes whose reading comes to this answer
abbrev pub request_lines : ℕ → Answer → List Line
request_lines whole (refused n p) = refusal_line n p ∷ []
request_lines whole (accepted s i t vs k) = first_line (of_request t) t i ∷ (field_lines (fields_of request t) vs ++ (closing_line k whole ∷ []))

unfoldable pub listing : List ℕ → List ℕ
listing m = text (request_lines (length m) (read request m))

-- the answer, and the lent buffer afterwards: the listing in front of what stays of it, or a refusal that changes nothing
unfoldable pub listed : List ℕ → List ℕ → WriteOutcome
listed m out = check buffer_too_small (leb (length (listing m)) (length out)) out (store (listing m) out)

-- bytes that suffice for the listing of every request
abbrev pub longest_listing : ℕ
longest_listing = 256
