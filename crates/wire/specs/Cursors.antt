-- A cursor: a place of a message or of a lent buffer, or a refusal.
use Rattle.std.specs.Prelude.{ℕ}
use Rattle.wire.specs.declared.Cursor.{Cursor}

-- a place
abbrev pub place : ℕ → Cursor
place p = record { code = 0; at = p }

-- a refusal of this number at a place
abbrev pub refusal_at : ℕ → ℕ → Cursor
refusal_at n p = record { code = n; at = p }

-- a refusal of a whole message, or of a writer; its place is 0
abbrev pub refusal : ℕ → Cursor
refusal n = refusal_at n 0
