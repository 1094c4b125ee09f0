-- The front's act: on an accepted request, on a cut one, and on every request of an unknown type. Assumes nothing.
use mathlib.Core.Path.{◌≡◌, refl, sym, ap, ◌∙◌}
use mathlib.Core.Bool.{Bool, true, false, cond}
use mathlib.Core.List.{List, [], ◌∷◌, ◌++◌}
use Prim.Native.Nat.{ℕ, ◌+◌, ◌≤◌, ◌<◌}
use native.Mathlib.Decide.{dec_lt}
use native.Mathlib.Omega.{arith}
use lib.Dec.{leb, ltb}
use lib.ListN.{length, take, drop, length-append}
use borrow.Author.Tests.{ltb-true, ltb-false, lt-ltb, le-ltb, le-leb}
use Rattle.number.specs.BigEndian.{be, bytes_of}
use Rattle.number.specs.TwosComplement.{bits_of}
use Rattle.number.proofs.BigEndian.{length-bytes_of}
use Rattle.method.specs.declared.Method.TheVariants.{Access, Utimens, Getcreds}
use Rattle.method.specs.Methods.{reply_offset, request_number, unknown as no-method, of_request}
use Rattle.method.proofs.Table.{request-zero, request-found, request-above}
use Rattle.layout.specs.Refusals.{truncated_header, oversize, truncated}
use Rattle.layout.specs.Limits.{header_size, longest}
use Rattle.layout.specs.Table.{request, unknown_response, Plan, header, HasFields, plan}
use Rattle.layout.specs.Kinds.{width, i32}
use Rattle.layout.specs.Values.{Part, Value}
use Rattle.layout.specs.Reading.{Shape, unknown, known, failure, success, Answer, refused, accepted, behind_header, read}
use Rattle.layout.specs.Pieces.{pieces, first_broken, cut_answer}
use Rattle.layout.specs.Front.{id_of, type_of, unknown_reply, invalid, invalid_reply, Call, hand_on, refuse-with, reply-with, called, stored, FrontOutcome, done, settle, front}
use Rattle.layout.specs.Demand3.{cut_call}
use Rattle.layout.proofs.Agreement.{agree-take}
use Rattle.layout.proofs.Header.{read-truncated-header, read-oversize, read-header}
use Rattle.layout.proofs.Stays.{num-stays}
use Rattle.layout.proofs.Tests.{apart}
use Rattle.layout.proofs.Cuts.{message-cut}
use Rattle.layout.proofs.Trace.{NumHere, BodyHere, header-only, MessageHere, message-reads}

-- what an accepted request of this shape and id calls for
abbrev shape_call : Shape → ℕ → Call
shape_call unknown i = reply-with (unknown_reply i)
shape_call known i = hand_on
shape_call failure i = hand_on
shape_call success i = hand_on

called-shape : (m : List ℕ) (s : Shape) (i t : ℕ) (vs : List (Value Part)) (k : ℕ) → id_of m ≡ i → called m (accepted s i t vs k) ≡ shape_call s i
called-shape m unknown i t vs k e = rw e
called-shape m known i t vs k e = refl
called-shape m failure i t vs k e = refl
called-shape m success i t vs k e = refl

-- an accepted request
pub front-accepted : {m : List ℕ} {s : Shape} {i t k : ℕ} {vs : List (Value Part)} → MessageHere request m s i t vs k → (out : List ℕ)
    → front m out ≡ settle (shape_call s i) out
unfolding front
front-accepted {m} {s} {i} {t} {k} {vs} h out = rw (message-reads h, called-shape m s i t vs k h.id.is)

-- a cut of an accepted request
pub front_cut : {m : List ℕ} {s : Shape} {i t k : ℕ} {vs : List (Value Part)} → MessageHere request m s i t vs k → (j : ℕ) → j < k → (out : List ℕ)
    → front (take j m) out ≡ settle (cut_call j i t) out
unfolding front cut_answer
front_cut {m} {s} {i} {t} {k} {vs} h j l out =
    let calls : called (take j m) (read request (take j m)) ≡ cut_call j i t = rw (message-cut h j l) (go (ltb j header_size) refl) in
    ap (λ (c : Call). settle c out) calls
  where
    go : (b : Bool) → ltb j header_size ≡ b → called (take j m) (cond b (refused truncated_header 0) (refused truncated (first_broken j (pieces request s t vs))))
        ≡ cond b (refuse-with truncated_header) (reply-with (invalid_reply i t))
    go true e = refl
    go false e =
        let c : header_size ≤ j = ltb-false j header_size e in
        rw ((num-stays h.id (agree-take 4 j m h.id.fits (omega arith))).is, (num-stays h.type (agree-take header_size j m h.type.fits c)).is)

-- ---- a request of a type that is none of the 23

pub length-unknown_reply : (i : ℕ) → length (unknown_reply i) ≡ header_size
unfolding unknown_reply
length-unknown_reply i = omega (arith, length-append (bytes_of 4 i) (bytes_of 1 unknown_response), length-bytes_of 4 i, length-bytes_of 1 unknown_response)

pub length-invalid_reply : (i t : ℕ) → length (invalid_reply i t) ≡ header_size + width i32
unfolding invalid_reply
length-invalid_reply i t =
    omega (
      arith,
      length-append (bytes_of 4 i) (bytes_of 1 (t + reply_offset) ++ bytes_of 4 (bits_of 4 invalid)),
      length-append (bytes_of 1 (t + reply_offset)) (bytes_of 4 (bits_of 4 invalid)),
      length-bytes_of 4 i,
      length-bytes_of 1 (t + reply_offset),
      length-bytes_of 4 (bits_of 4 invalid),
    )

stored-unknown : (i : ℕ) (out : List ℕ) → header_size ≤ length out
    → settle (reply-with (unknown_reply i)) out ≡ done (stored header_size) (unknown_reply i ++ drop header_size out)
stored-unknown i out h = rw (length-unknown_reply i, le-leb header_size (length out) h)

pub front-unknown : (m out : List ℕ) → header_size ≤ length m → of_request (type_of m) ≡ no-method → header_size ≤ length out
    → front m out ≡ done (stored header_size) (unknown_reply (id_of m) ++ drop header_size out)
unfolding front read plan
front-unknown m out h e l = go (ltb longest (length m)) refl ∙ stored-unknown (id_of m) out l
  where
    nothing_known : BodyHere m (plan request (type_of m)) header_size unknown [] header_size
    nothing_known = rw e header-only

    here : length m ≤ longest → MessageHere request m unknown (id_of m) (type_of m) [] header_size
    here s = record { short = s; id = record { fits = omega arith; is = refl }; type = record { fits = h; is = refl }; rest = nothing_known }

    go : (b : Bool) → ltb longest (length m) ≡ b → front m out ≡ settle (reply-with (unknown_reply (id_of m))) out
    go true f =
        rw (le-ltb (length m) header_size h, f)
    go false f = front-accepted (here (ltb-false longest (length m) f)) out

-- ---- a request that is refused for its fields

abbrev refusing : Answer → Bool
refusing (refused n p) = true
refusing (accepted s i t vs k) = false

-- its header is whole, and its type is one that has fields
pub record Invalid (m : List ℕ) : Type 0 where
  pub whole : header_size ≤ length m
  pub fields : HasFields (type_of m)

pub invalid-type : (m : List ℕ) {n p : ℕ} → read request m ≡ refused n p → (n ≡ truncated_header → ⊥) → (n ≡ oversize → ⊥) → Invalid m
unfolding plan
invalid-type m {n} {p} e a b = record { whole = whole; fields = (low (dec_lt (type_of m) (request_number Access)), high (dec_lt (request_number Utimens) (type_of m))) }
  where
    same : {x y : ℕ} → read request m ≡ refused x y → n ≡ x
    same {x} {y} f = let r : refused n p ≡ refused x y = sym e ∙ f in cc

    whole : header_size ≤ length m
    whole = go (dec_lt (length m) header_size)
      where
        go : Dec (length m < header_size) → header_size ≤ length m
        go (yes l) = absurd (a (same (read-truncated-header request m l)))
        go (no l) = omega arith

    short : length m ≤ longest
    short = go (dec_lt longest (length m))
      where
        go : Dec (longest < length m) → length m ≤ longest
        go (yes l) = absurd (b (same (read-oversize request m l)))
        go (no l) = omega arith

    leads : refused n p ≡ behind_header request (id_of m) (type_of m) m
    leads = sym e ∙ read-header request m whole short

    accepts : {s : Shape} → behind_header request (id_of m) (type_of m) m ≡ accepted s (id_of m) (type_of m) [] header_size → ⊥
    accepts f = apart (sym (ap refusing (leads ∙ f)))

    low : Dec (type_of m < request_number Access) → request_number Access ≤ type_of m
    low (yes l) = let z : type_of m ≡ 0 = omega arith in absurd (accepts {s = unknown} (rw (ap of_request z ∙ request-zero)))
    low (no l) = omega arith

    high : Dec (request_number Utimens < type_of m) → type_of m ≤ request_number Utimens
    high (yes l) = go (dec_lt (request_number Getcreds) (type_of m))
      where
        go : Dec (request_number Getcreds < type_of m) → type_of m ≤ request_number Utimens
        go (yes g) = absurd (accepts {s = unknown} (rw (request-above (type_of m) g)))
        go (no g) = let z : type_of m ≡ request_number Getcreds = omega arith in absurd (accepts {s = known} (rw (ap of_request z ∙ request-found Getcreds)))
    high (no l) = omega arith
