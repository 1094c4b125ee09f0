-- What a call on records that are held by value answers, and the words afterwards.
use Rattle.std.specs.Prelude.{ℕ, ◌≡◌, List, map}
use Rattle.outstanding_records.specs.declared.Record.{Record}
use Rattle.outstanding.specs.Calls.{Performed, Told, Arrival}
use Rattle.outstanding_records.specs.Words.{word_of}
use Rattle.outstanding_decisions.specs.Decisions.{told_of, arrival_of}
use Rattle.outstanding_bridges.specs.declared.EnteredTable.{EnteredTable}
use Rattle.outstanding_bridges.specs.declared.ArrivedTable.{ArrivedTable}

-- of emptying or entering: they are those of w
abbrev pub EnteredAfter : Performed Told Record → EnteredTable → Type 0
EnteredAfter w r = (told_of r.answer ≡ w.told) × (r.words ≡ map word_of w.table)

-- of the arriving reply m
abbrev pub ArrivedAfter : List ℕ → Performed Arrival Record → ArrivedTable → Type 0
ArrivedAfter m w r = (arrival_of m r.answer ≡ w.told) × (r.words ≡ map word_of w.table)
