-- Parts by name. Assumes nothing.
use Prim.Native.String.{String}
use mathlib.Core.Path.{◌≡◌, refl}
use mathlib.Core.List.{List, [], ◌∷◌}
use Rattle.layout.specs.Kinds.{Field}
use Rattle.layout.specs.Parts.{nothing, named}

-- a message without values has no part
pub none_named : (n : String) (fs : List Field) → named n fs [] ≡ nothing
none_named n [] = refl
none_named n (f ∷ fs) = refl
