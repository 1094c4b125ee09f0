-- The worked messages of document 01 that are marked P, as one table.
use Rattle.std.specs.Prelude.{ℕ, List, [], ◌∷◌, ◌++◌, map, pos, negsuc, length, replicate}
use Rattle.layout.specs.Table.{Side, request, reply}
use Rattle.layout.specs.Values.{part, signed, run}
use Rattle.layout.specs.Reading.{unknown, known, failure, success, Answer, refused, accepted, read}
use Rattle.layout.specs.Front.{FrontOutcome, done, stored, front}

-- what a row gives: the reader's answer, and where the row has it the front's act with a buffer
pub data RowOutcome : Type 0 where
  reads : Answer → RowOutcome
  fronts : Answer → FrontOutcome → RowOutcome

pub record Example : Type 0 where
  pub side : Side
  pub bytes : List ℕ
  pub outcome : RowOutcome

abbrev example : Side → List ℕ → RowOutcome → Example
example s m o = record { side = s; bytes = m; outcome = o }

-- the lent buffer of the rows with a front: ten bytes, so that one behind the answer is seen to stay
abbrev lent : List ℕ
lent = replicate 10 0x55

abbrev pub examples : List Example
examples =
    example request [] (reads (refused 1 0))
    ∷ example request (0 ∷ 0 ∷ 0 ∷ 1 ∷ 0x02 ∷ 0 ∷ 0 ∷ 0 ∷ 1 ∷ 0x2f ∷ []) (reads (accepted known 1 0x02 (run (part 9 1) ∷ []) 10))
    ∷ example request (0 ∷ 0 ∷ 0 ∷ 1 ∷ 0x02 ∷ 0 ∷ 0 ∷ 0 ∷ 1 ∷ 0x2f ∷ 0xff ∷ []) (reads (accepted known 1 0x02 (run (part 9 1) ∷ []) 10))
    ∷ example request (0 ∷ 0 ∷ 0 ∷ 1 ∷ 0x02 ∷ 0 ∷ 0 ∷ 0 ∷ 2 ∷ 0x2f ∷ []) (reads (refused 4 9))
    ∷ example reply (0 ∷ 0 ∷ 0 ∷ 1 ∷ 0x82 ∷ 0xff ∷ 0xff ∷ 0xff ∷ 0xfe ∷ []) (reads (accepted failure 1 0x82 (signed (negsuc 1) ∷ []) 9))
    ∷ example reply (0 ∷ 0 ∷ 0 ∷ 1 ∷ 0x82 ∷ 0 ∷ 0 ∷ 0 ∷ 0 ∷ []) (reads (refused 4 9))
    ∷ example request (0 ∷ 0 ∷ 0 ∷ 0x23 ∷ 0x42 ∷ [])
    (fronts (accepted unknown 0x23 0x42 [] 5) (done (stored 5) (0 ∷ 0 ∷ 0 ∷ 0x23 ∷ 0x80 ∷ replicate 5 0x55)))
    ∷ example request (0 ∷ 0 ∷ 0 ∷ 5 ∷ 0x0f ∷ 0 ∷ 0 ∷ 0 ∷ 1 ∷ 0x80 ∷ [])
    (fronts (refused 5 9) (done (stored 9) (0 ∷ 0 ∷ 0 ∷ 5 ∷ 0x8f ∷ 0xff ∷ 0xff ∷ 0xff ∷ 0xea ∷ 0x55 ∷ [])))
    ∷ example reply (0 ∷ 0 ∷ 0 ∷ 9 ∷ 0x90 ∷ 0 ∷ 0 ∷ 0 ∷ 2 ∷ 0 ∷ 0 ∷ 0 ∷ 1 ∷ 0x61 ∷ []) (reads (refused 6 5))
    ∷ example reply (0 ∷ 0 ∷ 0 ∷ 9 ∷ 0x90 ∷ 0 ∷ 0 ∷ 0 ∷ 1 ∷ 0 ∷ 0 ∷ 0 ∷ 1 ∷ 0x61 ∷ [])
    (reads (accepted success 9 0x90 (signed (pos 1) ∷ run (part 13 1) ∷ []) 14))
    ∷ example reply (0 ∷ 0 ∷ 0 ∷ 2 ∷ 0x93 ∷ 0 ∷ 0 ∷ 0 ∷ 0 ∷ 0xff ∷ 0xff ∷ 0xff ∷ 0xff ∷ []) (reads (refused 4 13))
    ∷ example request (0 ∷ 0 ∷ 0 ∷ 7 ∷ 0x01 ∷ 0 ∷ 0 ∷ 0 ∷ 0 ∷ 0xff ∷ [])
    (reads (accepted known 7 0x01 (run (part 9 0) ∷ signed (negsuc 0) ∷ []) 10))
    ∷ []

-- what comes of a row's bytes, shown as far as the row shows it
abbrev comes : Side → List ℕ → RowOutcome → RowOutcome
comes side m (reads a) = reads (read side m)
comes side m (fronts a f) = fronts (read side m) (front m lent)

abbrev pub outcomes : List Example → List RowOutcome
outcomes es = map (λ e. comes e.side e.bytes e.outcome) es

abbrev pub expected : List Example → List RowOutcome
expected es = map (λ e. e.outcome) es
