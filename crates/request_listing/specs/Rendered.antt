-- What the parts of the renderer add, in the terms of the reader's answer.
use Rattle.std.specs.Prelude.{ℕ, List, [], ◌∷◌, ◌++◌}
use Rattle.method.specs.Methods.{found, unknown as no-method}
use Rattle.layout.specs.Table.{row}
use Rattle.request_reader.specs.declared.Request.{Request}
use Rattle.request_reader.specs.declared.RequestAnswer.{RequestAnswer}
use Rattle.request_reader.specs.declared.RequestAnswer.TheVariants.{Known, Unknown, Refused}
use Rattle.request_reader.specs.Answers.{method_of, type_of, values_of}
use Rattle.lines.specs.Lines.{Line}
use Rattle.request_lines.specs.FieldLines.{field_lines}
use Rattle.request_listing.specs.Listing.{closing_line, refusal_line, first_line}

abbrev pub known_lines : ℕ → Request → ℕ → ℕ → List Line
known_lines i q k whole = first_line (found (method_of q)) (type_of q) i ∷ (field_lines (row (method_of q)).request (values_of q) ++ (closing_line k whole ∷ []))

abbrev pub answer_lines : RequestAnswer → ℕ → List Line
answer_lines (Known i q k) whole = known_lines i q k whole
answer_lines (Unknown i t k) whole = first_line no-method t i ∷ closing_line k whole ∷ []
answer_lines (Refused n p) whole = refusal_line n p ∷ []
