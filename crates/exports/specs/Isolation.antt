-- Two tenants, one scratchpad, as a host sees it: layout's isolation, of the answers that a host is told.
use Rattle.std.specs.Prelude.{List, ℕ}
use Rattle.layout.specs.Writing.{WriteOutcome}
use Rattle.layout.specs.Front.{FrontOutcome}
use Rattle.layout.specs.Isolation.{Isolated}
use Rattle.exports.specs.Shown.{written_of, fronted_of}

abbrev pub WriterIsolated : (List ℕ → WriteOutcome) → Type 0
WriterIsolated w = Isolated (λ (x : WriteOutcome). written_of x.told) (λ r. r.len) (λ (x : WriteOutcome). x.buffer) w

abbrev pub FrontIsolated : (List ℕ → FrontOutcome) → Type 0
FrontIsolated w = Isolated (λ (x : FrontOutcome). fronted_of x.act) (λ r. r.len) (λ (x : FrontOutcome). x.buffer) w
