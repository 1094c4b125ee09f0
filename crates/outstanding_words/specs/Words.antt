-- What a call does to a table of words, for a host that lends numbers.
use Rattle.std.specs.Prelude.{ℕ, List}
use Rattle.outstanding_records.specs.declared.Record.TheVariants.{Free, Held}
use Rattle.outstanding_records.specs.Words.{word_of, record_of}
use Rattle.outstanding.specs.Records.{is_free, holds_id, replace}
use Rattle.outstanding.specs.Calls.{Change, kept, entered, removed}

-- the words afterwards: one at most has changed
abbrev pub after_words : Change → List ℕ → List ℕ
after_words kept ws = ws
after_words (entered i q) ws = replace (λ w. is_free (record_of w)) (word_of (Held i q)) ws
after_words (removed i) ws = replace (λ w. holds_id i (record_of w)) (word_of Free) ws
