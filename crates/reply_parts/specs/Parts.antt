-- A part of the success that was read, if one was.
use Prim.Native.String.{String}
use Rattle.std.specs.Prelude.{ℕ, ◌∷◌, List, Option, None, Some, pos}
use Rattle.layout.specs.Table.{reply}
use Rattle.layout.specs.Values.{Part, signed}
use Rattle.layout.specs.Parts.{nothing, named, fields_of}
use Rattle.reply_reader.specs.declared.Reply.{Reply}
use Rattle.reply_reader.specs.Answers.{type_of, values_of}

-- the result in front is no part, so any number stands for it
abbrev pub part_in : List ℕ → String → Option Reply → Part
part_in m n None = nothing
part_in m n (Some q) = named n (fields_of reply (type_of q)) (signed (pos 0) ∷ values_of m q)
