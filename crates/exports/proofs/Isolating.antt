-- Laws for hosts: every writer and the front are isolated, by the laws of layout. Assumes nothing.
use mathlib.Core.Path.{◌≡◌, refl}
use mathlib.Core.Bool.{Bool}
use mathlib.Core.List.{List}
use Prim.Native.Nat.{ℕ}
use lib.IntN.{ℤ}
use Rattle.layout.specs.Table.{Side, request, reply}
use Rattle.layout.specs.Values.{Value}
use Rattle.layout.specs.Reading.{Shape, known, success}
use Rattle.layout.specs.Writing.{WriteOutcome, Told, stored, refused, length_of, write}
use Rattle.layout.specs.Front.{Act, handed-on, stored as act-stored, refused as act-refused, front}
use Rattle.layout.specs.Isolation.{act_length, WriterIsolated as WriterIsolatedLayout}
use Rattle.layout.proofs.Isolating as layout
use Rattle.exports.specs.Shown.{written_of, fronted_of}
use Rattle.exports.specs.Given.{request_by, success_by}
use Rattle.exports.specs.Isolation.{WriterIsolated, FrontIsolated}

told-length : (x : Told) → (written_of x).len ≡ length_of x
told-length (stored n) = refl
told-length (refused n p) = refl

act-length : (x : Act) → (fronted_of x).len ≡ act_length x
act-length handed-on = refl
act-length (act-stored n) = refl
act-length (act-refused n p) = refl

-- any writer that is isolated, as a host sees it
pub writer-shown : {w : List ℕ → WriteOutcome} → WriterIsolatedLayout w → WriterIsolated w
writer-shown i = layout.isolated-told written_of (λ r. r.len) told-length i

-- every writer, of requests and of replies
pub write-isolated : (side : Side) (s : Shape) (i t : ℕ) (vs : List (Value (List ℕ))) (sums : Bool) → WriterIsolated (λ (a : List ℕ). write side s i t vs sums a)
write-isolated side s i t vs sums = writer-shown (layout.write-isolated side s i t vs sums)

pub request-isolated : (i t : ℕ) (ns s u : List ℕ) → WriterIsolated (λ (a : List ℕ). request_by i t ns s u a)
unfolding request_by
request-isolated i t ns s u = write-isolated request known i t _ _

pub success-isolated : (i t : ℕ) (z : ℤ) (ns s ls : List ℕ) → WriterIsolated (λ (a : List ℕ). success_by i t z ns s ls a)
unfolding success_by
success-isolated i t z ns s ls = write-isolated reply success i t _ _

-- the front, on every request
pub front-isolated : (m : List ℕ) → FrontIsolated (λ (a : List ℕ). front m a)
front-isolated m = layout.isolated-told fronted_of (λ r. r.len) act-length (layout.front-isolated m)
