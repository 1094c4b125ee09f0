-- From the lines that were added to the listing. Assumes nothing.
use mathlib.Core.Path.{◌≡◌, refl, sym, ap, ◌∙◌}
use mathlib.Core.List.{List, [], ◌∷◌, append_assoc}
use Prim.Native.Nat.{ℕ, ◌+◌, ◌≤◌}
use native.Mathlib.Decide.{dec_le}
use native.Mathlib.Omega.{arith}
use lib.Dec.{leb}
use lib.ListN.{length, take, get_or}
use mir.Syntax.{w8}
use mir.Val.{Fits}
use borrow.Author.Tests.{le-leb, lt-leb}
use Rattle.number.specs.BigEndian.{overwritten}
use Rattle.text.specs.Ascii.{ascii}
use Rattle.method.specs.Methods.{Found, found, unknown as no-method, of_request}
use Rattle.method.proofs.Table.{request-found}
use Rattle.layout.specs.Table.{request, request_plan, plan}
use Rattle.layout.specs.Values.{Part, Value}
use Rattle.layout.specs.Refusals.{buffer_too_small}
use Rattle.layout.specs.Reading.{unknown, accepted, read}
use Rattle.layout.specs.Parts.{fields_of}
use Rattle.layout.specs.Writing.{stored, check, store}
use Rattle.layout.proofs.Trace.{BodyHere, header-only, message-traced}
use Rattle.wire.specs.declared.Cursor.{Cursor}
use Rattle.request_reader.specs.declared.RequestAnswer.{RequestAnswer}
use Rattle.request_reader.specs.declared.RequestAnswer.TheVariants.{Known, Unknown, Refused}
use Rattle.request_reader.specs.Answers.{method_of, answer_of}
use Rattle.message_writer.specs.declared.Written.{Written}
use Rattle.field_writer.specs.Stored.{Stored, left, room_at, Put, none as no-piece, more as a_Piece}
use Rattle.wire.specs.Cursors.{place, refusal}
use Rattle.message_writer.specs.Writers.{told_of, Ends, Wrote}
use Rattle.field_writer.proofs.Storing.{all-put}
use Rattle.lines.specs.Lines.{line_text, text, Begins, AddsLines}
use Rattle.lines.proofs.Adding.{added}
use Rattle.request_listing.specs.Listing.{listing, listed, longest_listing}
use Rattle.request_listing.specs.Rendered.{answer_lines}
use Rattle.request_listing.proofs.Lengths.{listing-fits}

-- a name, and the rest of the first line
pub named : {l m n v w : List ℕ} {c d f : Cursor} → Put l c v m d → Put m d (line_text (ascii " id" ∷ w ∷ [])) n f → AddsLines l c ((v ∷ ascii "id" ∷ w ∷ []) ∷ []) n f
named {v = v} {w = w} p q =
    let rest = line_text (ascii " id" ∷ w ∷ []) in
    record { pieces = v ∷ rest ∷ []; puts = a_Piece p (a_Piece q no-piece); are = sym (append_assoc v rest []) }

-- ---- the answer's lines are the listing's

unknown-plan : (f : Found) {m : List ℕ} {p q : ℕ} {vs : List (Value Part)} → BodyHere m (request_plan f) p unknown vs q → f ≡ no-method
unknown-plan no-method header-only = refl
unknown-plan (found _) {m = m} {p = p} {q = q} {vs = vs} b = elim b [ ]

unknown-type : (m : List ℕ) (i t k : ℕ) (vs : List (Value Part)) → read request m ≡ accepted unknown i t vs k → of_request t ≡ no-method
unfolding plan
unknown-type m i t k vs e = unknown-plan (of_request t) (message-traced e).rest

pub answer-text : (m : List ℕ) (a : RequestAnswer) → answer_of a ≡ read request m → text (answer_lines a (length m)) ≡ listing m
unfolding listing fields_of
answer-text m (Known i q k) e = rw (← e, request-found (method_of q))
answer-text m (Unknown i t k) e = rw (← e, unknown-type m i t k [] (sym e))
answer-text m (Refused n p) e = rw (← e)

-- ---- the buffer

pub put-wrote : {l e n : List ℕ} {f : Cursor} {r : Written} → Put l (place 0) e n f → Ends f r → Wrote (check buffer_too_small (leb (length e) (length l)) l (store e l)) n r
unfolding overwritten room_at
put-wrote {l} {e} {n} {f} {r} p end = go (dec_le (length e) (length l))
  where
    zero-plus : 0 + length e ≡ length e
    zero-plus = omega arith

    go : Dec (length e ≤ length l) → Wrote (check buffer_too_small (leb (length e) (length l)) l (store e l)) n r
    go (yes h) =
        let s = all-put p refl (omega arith) in
        rw (le-leb (length e) (length l) h)
        (record { tells = end.is ∙ rw (s.1, zero-plus); leaves = s.0 ∙ rw zero-plus })
    go (no h) =
        let s : left n f ≡ left l (refusal buffer_too_small) = p.is ∙ rw (lt-leb (0 + length e) (length l) (omega arith)) in
        rw (lt-leb (length e) (length l) (omega arith))
        (record { tells = end.is ∙ rw (ap (λ (x : Stored). x.next) s); leaves = ap (λ (x : Stored). x.buffer) s })

pub rendered : (m : List ℕ) (a : RequestAnswer) {l n : List ℕ} {f : Cursor} → ((i : ℕ) → Fits w8 (get_or m i 0)) → length l ≡ longest_listing
    → answer_of a ≡ read request m → AddsLines l (place 0) (answer_lines a (length m)) n f → Begins n (listing m) f.at
rendered m a by long e p =
    let same = answer-text m a e in
    rw same at (added p (rw (same, long) (listing-fits m (λ i. (by i).fits))))

pub put-listed : (m : List ℕ) {l n t : List ℕ} {k : ℕ} {f : Cursor} {r : Written} → Begins t (listing m) k → Put l (place 0) (take k t) n f → Ends f r → Wrote (listed m l) n r
unfolding listed
put-listed m d p end = rw (← d.is) (put-wrote p end)

-- a buffer of the longest listing's size is never refused
pub enough : (m l : List ℕ) {n : List ℕ} {r : Written} → ((i : ℕ) → Fits w8 (get_or m i 0)) → Wrote (listed m l) n r → longest_listing ≤ length l
    → told_of r ≡ stored (length (listing m))
unfolding listed
enough m l by w h = w.tells ∙ rw (le-leb (length (listing m)) (length l) (omega (arith, listing-fits m (λ i. (by i).fits))))
