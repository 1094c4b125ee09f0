-- The bytes of a run, and the place that they are shown from. Assumes nothing.
use mathlib.Core.Path.{◌≡◌}
use mathlib.Core.List.{List, []}
use Prim.Native.Nat.{ℕ, ◌+◌, ◌-◌, ◌≤◌, ◌<◌}
use native.Mathlib.Omega.{arith}
use lib.ListN.{length, take, drop}
use borrow.Author.Tests.{le-leb, lt-leb}
use Rattle.layout.specs.Values.{part}
use Rattle.wire.specs.Runs.{shown, place_in}

module _ (m : List ℕ) (p n : ℕ) where
  pub no_bytes : length m < p + n → [] ≡ shown m (part p n)
  unfolding shown
  no_bytes h = rw (lt-leb (p + n) (length m) h)

  pub all-bytes : p + n ≤ length m → take (p + n - p) (drop p m) ≡ shown m (part p n)
  unfolding shown
  all-bytes h = let l : p + n - p ≡ n = omega arith in rw (le-leb (p + n) (length m) h, l)

  pub no_place : length m < p + n → 0 ≡ place_in (length m) (part p n)
  unfolding place_in
  no_place h = rw (lt-leb (p + n) (length m) h)

  pub its-place : p + n ≤ length m → p ≡ place_in (length m) (part p n)
  unfolding place_in
  its-place h = rw (le-leb (p + n) (length m) h)
