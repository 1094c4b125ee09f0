-- What the type of a reply settles. Assumes nothing.
use mathlib.Core.Path.{◌≡◌, refl}
use mathlib.Core.List.{List, map, reverse}
use Prim.Native.Nat.{ℕ, ◌≤◌, ◌<◌}
use native.Mathlib.Omega.{arith}
use lib.ListN.{take}
use Rattle.method.specs.declared.Method.TheVariants.{Access, Getcreds}
use Rattle.method.specs.Methods.{methods, reply_number}
use Rattle.method.proofs.Table.{NoneOf, has, differs, at_each}
use Rattle.layout.specs.Refusals.{unexpected_type}
use Rattle.layout.specs.Table.{reply, unknown_response, HasResult}
use Rattle.layout.specs.Reading.{type_place, Answer, refused, behind_header}
use Rattle.layout.proofs.ReplyTypes.{unexpected-below, unexpected-above}

-- the types of a match over the methods with a result, the last first
abbrev matched : List ℕ
matched = reverse (map reply_number (take 22 methods))

-- it leaves nothing
pub all-matched : (t : ℕ) → HasResult t → NoneOf matched t → ⊥
all-matched t h n = differs matched t t n (at_each (has matched) (reply_number Access) 22 t refl h.0 (omega (arith, h.1))) refl

pub unexpected-low : (m : List ℕ) (i t : ℕ) → t < unknown_response → refused unexpected_type type_place ≡ behind_header reply i t m
unexpected-low m i t h = rw (unexpected-below t h)

pub unexpected-high : (m : List ℕ) (i t : ℕ) → reply_number Getcreds < t → refused unexpected_type type_place ≡ behind_header reply i t m
unexpected-high m i t h = rw (unexpected-above t h)
