-- What the turns of `is_sound` know of the records that are left. Assumes nothing.
use Rattle.std.proofs.Common.{◌≡◌, ◌∙◌, sym, Bool, false, ◌&&◌, List, ◌∷◌, ℕ, length}
use borrow.Author.Tests.{eq-eqb}
use Rattle.std.proofs.lemmas.List.{length-map, nil_from_length}
use Rattle.outstanding_records.specs.declared.Record.{Record}
use Rattle.outstanding_records.specs.declared.Record.TheVariants.{Free}
use Rattle.outstanding_records.specs.Copies.{size}
use Rattle.outstanding_records.specs.Words.{record_of, records}
use Rattle.outstanding.specs.Records.{all, distinct}
use Rattle.outstanding.specs.Calls.{in_bounds, sound}
use Rattle.outstanding.proofs.Cases.{other-size}
use Rattle.outstanding.proofs.Maps.{free-alone}

-- sound but for the number of records
abbrev pub soundly : List Record → Bool
soundly l = all in_bounds l && distinct l

-- a free record repeats no id
pub free_first : (l : List Record) → soundly (Free ∷ l) ≡ soundly l
free_first l = rw (free-alone l)

pub other-number : (ws : List ℕ) → (length ws ≡ size → ⊥) → sound (records ws) ≡ false
other-number ws h = other-size (records ws) (λ e. h (sym (length-map ws record_of) ∙ e))

pub full-number : (ws : List ℕ) → length ws ≡ size → sound (records ws) ≡ soundly (records ws)
unfolding sound
full-number ws e = rw (eq-eqb (length (records ws)) size (length-map ws record_of ∙ e))

pub ruleset turns = (free_first, other-number, full-number, nil_from_length)
