-- Names that were collected, written again: they are the names that were read. Assumes nothing.
use Prim.Native.Nat.{ℕ, ◌≤◌}
use mathlib.Core.Path.{◌≡◌, ap, ap₂, ◌∙◌}
use mathlib.Core.Bool.{true}
use mathlib.Core.List.{List, [], ◌∷◌, ◌++◌, map}
use lib.IntN.{ℤ}
use lib.ListN.{length, take, drop}
use borrow.Author.Tests.{eq-eqb}
use Rattle.number.specs.BigEndian.{Bytes}
use Rattle.method.specs.declared.Method.TheVariants.{Readdir}
use Rattle.method.specs.Methods.{reply_number}
use Rattle.layout.specs.Table.{reply}
use Rattle.layout.specs.Values.{Part, signed, runs, bytes_in}
use Rattle.layout.specs.Reading.{success, accepted, read}
use Rattle.layout.specs.Names.{first_name, names_at}
use Rattle.layout.specs.Writing.{stored, sum, write, write_names}
use Rattle.layout.proofs.Trace.{message-traced}
use Rattle.layout.proofs.Rewritten.{normalised-same, written-again}
use Rattle.readdir_writer.specs.declared.Collected.TheVariants.{Copied}
use Rattle.readdir_writer.specs.Collecting.{names_in, sizes, joined, Buffers, Collects}
use Rattle.readdir_writer.proofs.CollectedParts.{read_names, names-sum, names-split, lengths-part, run-part}
use Rattle.round_trip.proofs.Replies.{no_bool_lem}

module _ (m : List ℕ) (n : ℕ) where
  -- the writer of names writes the names themselves
  pub names-again : (i : ℕ) (z : ℤ) (out : List ℕ) → let xs = names_in m n in
      write_names i z (sizes xs) (joined m xs) out ≡ write reply success i (reply_number Readdir) (signed z ∷ runs (map (bytes_in m) xs) ∷ []) true out
  unfolding write_names
  names-again i z out = rw (names-split m n, eq-eqb (sum (sizes (names_in m n))) (length (joined m (names_in m n))) (names-sum m n))

  module _ {b d : Buffers} {count len : ℕ} (h : Collects m (names_in m n) b d (Copied count len)) where
    -- the parts of the buffers that a caller hands on are written as the names themselves
    pub collected-again : (i : ℕ) (z : ℤ) (out : List ℕ)
        → write_names i z (take count d.lengths) (take len d.run) out
        ≡ write reply success i (reply_number Readdir) (signed z ∷ runs (map (bytes_in m) (names_in m n)) ∷ []) true out
    collected-again i z out = ap₂ (λ (ks s : List ℕ). write_names i z ks s out) (lengths-part m n h) (run-part m n h) ∙ names-again i z out

    -- a readdir reply that was read, its names collected and written with its id and result, is its known part again
    pub collected-reply : {i k : ℕ} {z : ℤ} → read reply m ≡ accepted success i (reply_number Readdir) (signed z ∷ runs (names_at n m first_name) ∷ []) k → Bytes m
        → (out : List ℕ) → k ≤ length out
        → write_names i z (take count d.lengths) (take len d.run) out ≡ record { told = stored k; buffer = take k m ++ drop k out }
    collected-reply {i} {k} {z} a by out l =
        collected-again i z out
        ∙ ap (λ (xs : List Part). write reply success i (reply_number Readdir) (signed z ∷ runs (map (bytes_in m) xs) ∷ []) true out) (read_names m n a)
        ∙ written-again reply m a by out l
        ∙ ap (λ (e : List ℕ). record { told = stored k; buffer = e ++ drop k out }) (normalised-same (message-traced a) (no_bool_lem (reply_number Readdir) success))
