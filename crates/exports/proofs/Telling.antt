-- What a host is told: a shape and an act by their numbers, a length, and by a writer that meets its promise what that promise says. Assumes nothing.
use mathlib.Core.Path.{◌≡◌, refl, ap, ◌∙◌}
use mathlib.Core.Bool.{false, cond}
use mathlib.Core.List.{List}
use Prim.Native.Nat.{ℕ}
use lib.Dec.{eqb}
use Rattle.layout.specs.Reading.{Shape, unknown, known, failure, success}
use Rattle.layout.specs.Writing.{Told, stored, refused, length_of, WriteOutcome}
use Rattle.layout.specs.Front.{Act, handed-on, stored as act-stored, refused as act-refused}
use Rattle.message_writer.specs.declared.Written.{Written}
use Rattle.message_writer.specs.Writers.{told_of, Wrote}
use Rattle.exports.specs.declared.TushaletsWritten.{TushaletsWritten}
use Rattle.exports.specs.declared.TushaletsFronted.{TushaletsFronted}
use Rattle.exports.specs.Shown.{shape_number, written_of, fronted_of}

-- the shape that a host takes a number for
abbrev shape_by : ℕ → Shape
shape_by n = cond (eqb n 1) unknown (cond (eqb n 2) known (cond (eqb n 3) failure success))

-- no two shapes share a number
pub shape-told : (s : Shape) → shape_by (shape_number s) ≡ s
shape-told unknown = refl
shape-told known = refl
shape-told failure = refl
shape-told success = refl

-- none has that of a refusal
pub shape-accepted : (s : Shape) → eqb (shape_number s) 0 ≡ false
shape-accepted unknown = refl
shape-accepted known = refl
shape-accepted failure = refl
shape-accepted success = refl

-- the act that a host takes the numbers of the front for is the one that it did
abbrev act_by : TushaletsFronted → Act
act_by x = cond (eqb x.act 0) handed-on (cond (eqb x.act 1) (act-stored x.len) (act-refused x.number x.place))

pub act-told : (a : Act) → act_by (fronted_of a) ≡ a
act-told handed-on = refl
act-told (act-stored n) = refl
act-told (act-refused n p) = refl

-- a refused writer reports length 0
pub length-told : (t : Told) → (written_of t).len ≡ length_of t
length-told (stored n) = refl
length-told (refused n p) = refl

pub tells-host : {w : WriteOutcome} {n : List ℕ} {r : Written} {x : TushaletsWritten} → x ≡ written_of (told_of r) → Wrote w n r
    → (x ≡ written_of w.told) × (n ≡ w.buffer)
tells-host e h = (e ∙ ap written_of h.tells, h.leaves)
