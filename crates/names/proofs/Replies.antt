-- Only a readdir reply has names. Assumes nothing.
use mathlib.Core.Path.{◌≡◌, refl}
use mathlib.Core.List.{List, [], ◌∷◌}
use Prim.Native.Nat.{ℕ}
use lib.IntN.{ℤ}
use Rattle.layout.specs.Values.{signed}
use Rattle.layout.specs.Names.{names_among}
use Rattle.reply_reader.specs.declared.Reply.{Reply}
use Rattle.reply_reader.specs.declared.Reply.TheVariants as R
use Rattle.reply_reader.specs.Answers.{values_of}

abbrev Nameless : Reply → Type 0
Nameless q = (m : List ℕ) (z : ℤ) → names_among (signed z ∷ values_of m q) ≡ []

pub data Split : Reply → Type 0 where
  readdir : (n : ℕ) → Split (R.Readdir n)
  other : {q : Reply} → Nameless q → Split q

pub split : (q : Reply) → Split q
split R.Access = other (λ m z. refl)
split (R.Getattr attributes) = other (λ m z. refl)
split (R.Readlink resolved) = other (λ m z. refl)
split R.Symlink = other (λ m z. refl)
split R.Link = other (λ m z. refl)
split R.Rename = other (λ m z. refl)
split R.Chmod = other (λ m z. refl)
split R.Chown = other (λ m z. refl)
split R.Truncate = other (λ m z. refl)
split R.Fsync = other (λ m z. refl)
split (R.Open handle) = other (λ m z. refl)
split R.Mknod = other (λ m z. refl)
split (R.Create handle) = other (λ m z. refl)
split R.Release = other (λ m z. refl)
split R.Unlink = other (λ m z. refl)
split (R.Read content) = other (λ m z. refl)
split R.Write = other (λ m z. refl)
split R.Mkdir = other (λ m z. refl)
split (R.Readdir names) = readdir names
split R.Rmdir = other (λ m z. refl)
split (R.Statfs statistics) = other (λ m z. refl)
split R.Utimens = other (λ m z. refl)

pub other-nameless : {q : Reply} → Split q → ((n : ℕ) → q ≡ R.Readdir n → ⊥) → Nameless q
other-nameless (readdir n) h = absurd (h n refl)
other-nameless (other o) h = o
