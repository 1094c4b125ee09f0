-- What positions and steps stand for.
use Rattle.std.specs.Prelude.{ℕ, zero, suc, List, length, get_or}
use Rattle.layout.specs.Values.{Part}
use Rattle.layout.specs.Reading.{Answer, read}
use Rattle.layout.specs.Table.{reply}
use Rattle.layout.specs.Parts.{nothing}
use Rattle.layout.specs.Names as layout
use Rattle.wire.specs.Runs.{part_of}
use Rattle.names.specs.declared.Position.{Position}
use Rattle.names.specs.declared.Step.{Step}
use Rattle.names.specs.declared.Step.TheVariants as S

-- the start on a message that was answered so
abbrev pub opened_by : Answer → layout.Position
opened_by a = layout.position layout.first_name (length (layout.names_of a))

abbrev pub position_of : Position → layout.Position
position_of w = layout.position w.at w.left

abbrev pub step_of : Step → layout.Step
step_of (S.Name x w) = layout.name (part_of x) (position_of w)
step_of (S.End w) = layout.ended (position_of w)

-- the name that a step gave; the empty part where it gave none
abbrev pub name_of : layout.Step → Part
name_of (layout.name x w) = x
name_of (layout.ended w) = nothing

-- where a step leaves the iterator
abbrev pub behind : layout.Step → layout.Position
behind (layout.name x w) = w
behind (layout.ended w) = w

-- so many steps on
abbrev pub skipped : ℕ → List ℕ → layout.Position → layout.Position
skipped zero m w = w
skipped (suc n) m w = skipped n m (behind (layout.step m w))

-- the n-th name of a message, counted from 0; behind the last the empty part
abbrev pub nth_name : ℕ → List ℕ → Part
nth_name n m = get_or (layout.names_of (read reply m)) n nothing
