-- Law for hosts: the listing of a request is isolated, as every writer is. Assumes nothing.
use mathlib.Core.List.{List}
use Prim.Native.Nat.{ℕ}
use Rattle.layout.proofs.Isolating.{store-isolated}
use Rattle.request_listing.specs.Listing.{listing, listed}
use Rattle.exports.specs.Isolation.{WriterIsolated}
use Rattle.exports.proofs.Isolating.{writer-shown}

pub listing-isolated : (m : List ℕ) → WriterIsolated (λ (a : List ℕ). listed m a)
unfolding listed
listing-isolated m = writer-shown (store-isolated (listing m))
