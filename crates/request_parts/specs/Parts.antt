-- A part of the request that was read, if one was.
use Prim.Native.String.{String}
use Rattle.std.specs.Prelude.{Option, None, Some}
use Rattle.layout.specs.Table.{request}
use Rattle.layout.specs.Values.{Part}
use Rattle.layout.specs.Parts.{nothing, named, fields_of}
use Rattle.request_reader.specs.declared.Request.{Request}
use Rattle.request_reader.specs.Answers.{type_of, values_of}

abbrev pub part_in : String → Option Request → Part
part_in n None = nothing
part_in n (Some q) = named n (fields_of request (type_of q)) (values_of q)
