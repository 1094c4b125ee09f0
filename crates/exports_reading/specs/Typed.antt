-- An answer whose type was taken from the message.
use Rattle.std.specs.Prelude.{ℕ}
use Rattle.layout.specs.Reading.{Answer, refused, accepted}

-- the answer with t for its type
abbrev pub typed : ℕ → Answer → Answer
typed t (refused n p) = refused n p
typed t (accepted s i u vs k) = accepted s i t vs k
