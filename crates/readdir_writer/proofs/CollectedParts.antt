-- Names that were collected: the lengths and the run that a caller hands on, and the names of a reply that was read. Assumes nothing.
use mathlib.Core.Path.{◌≡◌, refl, sym, ap, ap₂, ◌∙◌}
use mathlib.Core.Bool.{false}
use mathlib.Core.List.{List, [], ◌∷◌, map}
use Prim.Native.Nat.{ℕ}
use lib.IntN.{ℤ}
use lib.ListN.{length, take, drop}
use lib.Seq.{take-append_seam, drop-append_seam, take_at}
use Rattle.method.specs.declared.Method.TheVariants.{Readdir}
use Rattle.method.specs.Methods.{reply_number, of_reply}
use Rattle.layout.specs.Kinds.{strings}
use Rattle.layout.specs.Table.{reply, led, plan}
use Rattle.layout.specs.Values.{Part, Value, signed, runs, bytes_in}
use Rattle.layout.specs.Reading.{success, accepted, read}
use Rattle.layout.specs.Names.{names_among, first_name, names_at}
use Rattle.layout.specs.Writing.{split, sum}
use Rattle.layout.proofs.Trace.{a-strings, no_field, a-field-more, BodyHere, a-success, message-traced}
use Rattle.layout.proofs.Iterating.{names-are-steps}
use Rattle.field_writer.specs.Stored.{concat}
use Rattle.readdir_writer.specs.declared.Collected.TheVariants.{Copied}
use Rattle.readdir_writer.specs.Collecting.{names_in, sizes, joined, Buffers, Collects}
use Rattle.readdir_writer.proofs.Taking.{sizes-are, joined_length}
use Rattle.readdir_writer.proofs.Copying.{copied}

-- names in one run, taken apart by their lengths
split-concat : (ss : List (List ℕ)) → split (map length ss) (concat ss) ≡ ss
split-concat [] = refl
split-concat (s ∷ ss) =
    ap₂ ◌∷◌ (take-append_seam s (concat ss)) (ap (split (map length ss)) (drop-append_seam s (concat ss)) ∙ split-concat ss)

readdir-plan : plan reply (reply_number Readdir) ≡ led false (strings ∷ [])
unfolding plan of_reply
readdir-plan = refl

module _ (m : List ℕ) (n : ℕ) where
  -- of a reply that was read, the iterator gives the names that the answer has
  pub read_names : {i k : ℕ} {z : ℤ} → read reply m ≡ accepted success i (reply_number Readdir) (signed z ∷ runs (names_at n m first_name) ∷ []) k
      → names_in m n ≡ names_at n m first_name
  read_names {k = k} a = go (rw readdir-plan at (message-traced a).rest) refl
    where
      go : {vs : List (Value Part)} → BodyHere m (led false (strings ∷ [])) 5 success vs k → names_at n m first_name ≡ names_among vs → names_in m n ≡ names_among vs
      go (a-success g f (a-field-more (a-strings h t) no_field) c) e = names-are-steps n m first_name t e

  -- the lengths sum to the run
  pub names-sum : let xs = names_in m n in sum (sizes xs) ≡ length (joined m xs)
  names-sum = joined_length m first_name n

  -- and they take it apart into the names
  pub names-split : let xs = names_in m n in split (sizes xs) (joined m xs) ≡ map (bytes_in m) xs
  names-split =
      ap (λ (ks : List ℕ). split ks (joined m (names_in m n))) (sizes-are n m first_name n) ∙ split-concat (map (bytes_in m) (names_in m n))

  module _ {b d : Buffers} {count len : ℕ} (h : Collects m (names_in m n) b d (Copied count len)) where
    -- the parts of the buffers that a caller hands on
    pub lengths-part : take count d.lengths ≡ sizes (names_in m n)
    lengths-part =
        let c = copied (sizes (names_in m n)) (length b.run) (length b.lengths) h.answers in
        ap (λ (x : Buffers). take count x.lengths) h.leaves ∙ take_at (sizes (names_in m n)) (drop count b.lengths) count (sym c.0)

    pub run-part : take len d.run ≡ joined m (names_in m n)
    run-part =
        let c = copied (sizes (names_in m n)) (length b.run) (length b.lengths) h.answers in
        ap (λ (x : Buffers). take len x.run) h.leaves ∙ take_at (joined m (names_in m n)) (drop len b.run) len (sym (c.1 ∙ names-sum))
