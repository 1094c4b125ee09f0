-- What a provider's turn leaves as it was.
use Rattle.std.specs.Prelude.{ℕ, ◌≡◌, List, drop}

-- nothing behind the first n bytes of a buffer has changed
pub record RestKept (n : ℕ) (before after : List ℕ) : Type 0 where
  pub is : drop n after ≡ drop n before
