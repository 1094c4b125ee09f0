-- `outstanding_words::words_of` meets its contract. Assumes nothing.
use Rattle.std.proofs.Common.{◌≡◌, ℕ, ◌<◌, sym, ◌∙◌, length, slice_index_or, rules, arith}
use Rattle.outstanding_records.specs.declared.Record.TheVariants.{Free}
use Rattle.outstanding_records.specs.Words.{word_of, record_of}
use Rattle.outstanding_words.proofs.Searches.{map_by_each}
use Rattle.outstanding_words.proofs.words_of.Goals as goal

pub returns : goal.returns
returns c =
    let m = c.map.ensures.items in
    let ws = c.map.result in
    let t = c.args.table in
    let full : length t ≡ 64 = search rules in
    let each : (i : ℕ) → i < 64 → (slice_index_or ws i 0 ≡ word_of (slice_index_or t i Free)) × (record_of (slice_index_or ws i 0) ≡ slice_index_or t i Free) = λ i h. let k = (m.at i Free 0 h).2 in search rules in (
      map_by_each word_of Free 0 t ws (full ∙ sym m.long) (λ i h. (each i (omega arith)).0),
      sym (map_by_each record_of 0 Free ws t (m.long ∙ sym full) (λ i h. sym (each i (omega (arith, m.long))).1)),
    )
