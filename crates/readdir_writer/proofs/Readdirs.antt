-- From the pieces that were stored to the readdir reply that was written. Assumes nothing.
use mathlib.Core.Path.{◌≡◌, refl, sym, ap, ap₂, subst, ◌∙◌}
use mathlib.Core.Bool.{Bool, true, false, and-true}
use mathlib.Core.List.{List, [], ◌∷◌, ◌++◌, append_assoc, append-nil}
use Prim.Native.Nat.{ℕ, suc, ◌+◌, ◌*◌, ◌%◌, ◌^◌, ◌≤◌}
use native.Mathlib.Omega.{arith}
use lib.IntN.{ℤ, pos, negsuc}
use lib.ListN.{length, take, drop, length-append, length-drop}
use lib.Seq.{length-take-le}
use lib.Signed.{lt_z}
use borrow.Author.Tests.{ltb-true}
use Rattle.number.specs.BigEndian.{bytes_of}
use Rattle.number.specs.TwosComplement.{bits_of}
use Rattle.number.proofs.BigEndian.{length-bytes_of}
use Rattle.method.specs.declared.Method.TheVariants.{Readdir}
use Rattle.method.specs.Methods.{reply_number, of_reply}
use Rattle.layout.specs.Table.{reply, plan}
use Rattle.layout.specs.Values.{signed, runs}
use Rattle.layout.specs.Reading.{success}
use Rattle.layout.specs.Writing.{sized, sized_all, encode_message, all_well_formed, split, sum, WriteOutcome, write}
use Rattle.layout.proofs.Tests.{apart}
use Rattle.layout.proofs.Written.{length-sized}
use Rattle.wire.specs.declared.Cursor.{Cursor}
use Rattle.message_writer.specs.declared.Written.{Written}
use Rattle.message_writer.specs.declared.Written.TheVariants.{Refused}
use Rattle.field_writer.specs.Stored.{Puts, concat}
use Rattle.message_writer.specs.Writers.{admitted, Ends, Wrote}
use Rattle.field_writer.proofs.Storing.{remainder}
use Rattle.message_writer.proofs.Writers.{wrote}
use Rattle.readdir_writer.specs.Readdir.{name_pieces, store_names}

-- ---- the names' pieces

concat-pieces : (ss : List (List ℕ)) → concat (name_pieces ss) ≡ sized_all ss
concat-pieces [] = refl
concat-pieces (s ∷ ss) = ap (λ (e : List ℕ). sized s ++ e) (concat-pieces ss)

count-split : (ns s : List ℕ) → length (split ns s) ≡ length ns
count-split [] s = refl
count-split (n ∷ ns) s = ap suc (count-split ns (drop n s))

size-split : (ns s : List ℕ) → sum ns ≤ length s → length (sized_all (split ns s)) ≡ 4 * length ns + sum ns
size-split [] s h = refl
size-split (n ∷ ns) s h =
    omega (
      arith,
      size-split ns (drop n s) (omega (arith, length-drop n s)),
      length-append (sized (take n s)) (sized_all (split ns (drop n s))),
      length-sized (take n s),
      length-take-le n s (omega arith),
    )

-- ---- the message

module _ (i : ℕ) (z : ℤ) where
  -- its pieces: header, result, count and names
  abbrev pub reply_pieces : ℕ → List (List ℕ) → List (List ℕ)
  reply_pieces count names = (bytes_of 4 i ++ bytes_of 1 (reply_number Readdir)) ∷ bytes_of 4 (bits_of 4 z) ∷ bytes_of 4 count ∷ names

  module _ (ss : List (List ℕ)) (count : ℕ) (names : List (List ℕ)) (counted : bytes_of 4 count ≡ bytes_of 4 (length ss)) (bytes : concat names ≡ sized_all ss) where
    pieces-encode : concat (reply_pieces count names) ≡ encode_message reply success i (reply_number Readdir) (signed z ∷ runs ss ∷ [])
    unfolding encode_message plan of_reply
    pieces-encode =
        rw (counted, bytes, append-nil (bytes_of 4 (length ss) ++ sized_all ss), append_assoc (bytes_of 4 i) (bytes_of 1 (reply_number Readdir)) (bytes_of 4 (bits_of 4 z) ++ (bytes_of 4 (length ss) ++ sized_all ss)))

    pieces-size : length (sized_all ss) + 13 ≡ length (concat (reply_pieces count names))
    pieces-size = rw bytes (simp (length-append, length-bytes_of) (omega arith))

    -- the pieces were stored from where they were admitted
    pub pieces-wrote : {l n : List ℕ} {c f : Cursor} {r : Written} {ok : Bool} {size : ℕ} → ok ≡ all_well_formed ss → size ≡ length (sized_all ss) + 13
        → c ≡ admitted ok size (length l) → Puts l c (reply_pieces count names) n f → Ends f r → Wrote (store_names i z ss l) n r
    pieces-wrote {l} {n} {c} {f} texts long start q end =
        let m : List ℕ = encode_message reply success i (reply_number Readdir) (signed z ∷ runs ss ∷ []) in
        let from : c ≡ admitted (all_well_formed ss) (length m) (length l) =
        start ∙ ap₂ (λ (b : Bool) (k : ℕ). admitted b k (length l)) texts (long ∙ pieces-size ∙ ap length pieces-encode) in
        wrote end (all_well_formed ss) m pieces-encode (subst (λ (d : Cursor). Puts l d (reply_pieces count names) n f) from q)

  -- names given as one run and a list of lengths, stored one after another
  pub names-wrote : (ns s : List ℕ) {l n : List ℕ} {c f : Cursor} {r : Written} {ok : Bool} → sum ns ≡ length s → ok ≡ all_well_formed (split ns s)
      → c ≡ admitted ok (length s + 4 * length ns + 13) (length l) → Puts l c (reply_pieces (length ns % 256 ^ 4) (name_pieces (split ns s))) n f → Ends f r
      → Wrote (store_names i z (split ns s) l) n r
  names-wrote ns s e texts start q end =
      pieces-wrote (split ns s) (length ns % 256 ^ 4) (name_pieces (split ns s)) (remainder 4 (length ns) ∙ ap (bytes_of 4) (sym (count-split ns s))) (concat-pieces (split ns s)) texts (omega (arith, size-split ns s (omega arith))) start q end

-- ---- the checks in front

module _ (i : ℕ) (ss : List (List ℕ)) (l : List ℕ) where
  abbrev writing : ℤ → Bool → WriteOutcome
  writing z summed = write reply success i (reply_number Readdir) (signed z ∷ runs ss ∷ []) summed l

  pub sign-refused : (z : ℤ) (summed : Bool) → lt_z z (pos 0) ≡ true → Wrote (writing z summed) l (Refused 8 0)
  unfolding write plan of_reply
  sign-refused (negsuc x) summed h = record { tells = refl; leaves = refl }
  sign-refused (pos x) summed h = let none : ⊥ = omega (arith, ltb-true x 0 h) in absurd none

  pub sum-refused : (z : ℤ) {summed : Bool} → lt_z z (pos 0) ≡ false → summed ≡ false → Wrote (writing z summed) l (Refused 9 0)
  unfolding write plan of_reply
  sum-refused (pos x) h e = rw e (record { tells = refl; leaves = refl })
  sum-refused (negsuc x) h e = apart (sym h)

  pub checks-right : (z : ℤ) {summed : Bool} → lt_z z (pos 0) ≡ false → summed ≡ true → {n : List ℕ} {r : Written} → Wrote (store_names i z ss l) n r
      → Wrote (writing z summed) n r
  unfolding write plan of_reply
  checks-right (pos x) h e w = rw (e, and-true (all_well_formed ss)) w
  checks-right (negsuc x) h e w = apart (sym h)
