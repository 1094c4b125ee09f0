-- The text and data of a message by the names of its fields, and the names that a type's fields have.
use Rattle.std.specs.Prelude.{ℕ, cond, List, [], ◌∷◌}
use Prim.Native.String.{String}
use lib.Text.{eqt}
use Rattle.method.specs.Methods.{Found, found, unknown as no-method, of_request, of_reply}
use Rattle.layout.specs.Kinds.{i32, num, Field, ◌is◌}
use Rattle.layout.specs.Table.{Reply, result, counted, bare, row, Side, request, reply}
use Rattle.layout.specs.Values.{Part, part, Value, run_of}
use Rattle.layout.specs.Reading.{Answer, refused, accepted}

-- the fields of a reply, the result among them
abbrev pub reply_fields : Reply → List Field
reply_fields (result fs) = "result" is num i32 ∷ fs
reply_fields (counted fs) = "result" is num i32 ∷ fs
reply_fields (bare fs) = fs

abbrev pub request_fields_of : Found → List Field
request_fields_of (found m) = (row m).request
request_fields_of no-method = []

abbrev pub reply_fields_of : Found → List Field
reply_fields_of (found m) = reply_fields (row m).reply
reply_fields_of no-method = []

-- the fields behind the header of a message of this type
unfoldable pub fields_of : Side → ℕ → List Field
fields_of request t = request_fields_of (of_request t)
fields_of reply t = reply_fields_of (of_reply t)

abbrev pub nothing : Part
nothing = part 0 0

-- the part of the field of this name; nothing where there is no such field
abbrev pub named : String → List Field → List (Value Part) → Part
named n [] vs = nothing
named n (f ∷ fs) [] = nothing
named n (f ∷ fs) (v ∷ vs) = cond (eqt n f.name) (run_of nothing v) (named n fs vs)

-- of an answer: nothing for a message without that field, or refused
abbrev pub part_named : Side → String → Answer → Part
part_named side n (refused c p) = nothing
part_named side n (accepted s i t vs k) = named n (fields_of side t) vs
