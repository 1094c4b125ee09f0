-- From the pieces that were stored to the request that was written. Assumes nothing.
use mathlib.Core.Path.{◌≡◌, refl, ap, subst, ◌∙◌}
use mathlib.Core.Bool.{Bool, true, false, ◌&&◌}
use mathlib.Core.List.{List, [], ◌∷◌, ◌++◌, append_assoc}
use Prim.Native.Nat.{ℕ, ◌+◌}
use native.Mathlib.Omega.{arith}
use lib.ListN.{length, length-append}
use Rattle.number.specs.BigEndian.{bytes_of}
use Rattle.number.proofs.BigEndian.{length-bytes_of}
use Rattle.method.specs.declared.Method.{Method}
use Rattle.method.specs.Methods.{found, unknown as no-method, of_request}
use Rattle.layout.specs.Kinds.{Kind}
use Rattle.layout.specs.Refusals.{unexpected_type}
use Rattle.layout.specs.Table.{request, asked, plan}
use Rattle.layout.specs.Values.{Value, run}
use Rattle.layout.specs.Reading.{unknown, known}
use Rattle.layout.specs.Writing.{sized, encode, encode_all, encode_message, text_right, texts_right, store_checked, write}
use Rattle.wire.specs.declared.Cursor.{Cursor}
use Rattle.message_writer.specs.declared.Written.{Written}
use Rattle.message_writer.specs.declared.Written.TheVariants.{Refused}
use Rattle.request_writer.specs.Asking.{RequestStarted, run_size, runs_size}
use Rattle.field_writer.specs.Stored.{Puts, concat, Fields}
use Rattle.message_writer.specs.Writers.{admitted, Ends, Wrote}
use Rattle.field_writer.proofs.Storing.{puts_then, encodings, concat-encodings, fields-put}
use Rattle.message_writer.proofs.Writers.{wrote}

-- what was stored at a place that the checks gave, where `right` is what they found of its texts
pub checked : {l m : List ℕ} {es : List (List ℕ)} {d f : Cursor} {found right : Bool} (size : ℕ) → found ≡ right → d ≡ admitted found size (length l)
    → Puts l d es m f → Puts l (admitted right size (length l)) es m f
checked {l} {m} {es} {f = f} size same place q = subst (λ (e : Cursor). Puts l e es m f) (place ∙ ap (λ (b : Bool). admitted b size (length l)) same) q

-- the pieces are the request's, and their size was checked
asks : (i t : ℕ) (vs : List (Value (List ℕ))) {l n : List ℕ} {f : Cursor} {es : List (List ℕ)} {r : Written} {ks : List Kind} (size : ℕ) (ok : Bool)
    → Ends f r → plan request t ≡ asked ks → ok ≡ texts_right ks vs → concat es ≡ encode_message request known i t vs
    → size ≡ length (concat es) → Puts l (admitted ok size (length l)) es n f → Wrote (write request known i t vs true l) n r
unfolding write
asks i t vs {l} {n} {f} {es} {r} {ks} size ok end p texts same s q =
    let e = encode_message request known i t vs in
    let q' : Puts l (admitted (texts_right ks vs) (length e) (length l)) es n f =
    subst (λ (b : Bool). Puts l (admitted b (length e) (length l)) es n f) texts
    (subst (λ (k : ℕ). Puts l (admitted ok k (length l)) es n f) (s ∙ ap length same) q) in
    rw p (wrote end (texts_right ks vs) e same q')

and-true : (a : Bool) → a ≡ a && true
and-true true = refl
and-true false = refl

and_assoc : (a b c : Bool) → c ≡ true → a && b ≡ a && (b && c)
and_assoc true b c h = and-true b ∙ rw h
and_assoc false b c h = refl

-- a request with one text or data, and numbers behind it that are stored in these pieces
pub pieces-asks : (vs : List (Value (List ℕ))) (rest : List (List ℕ)) {ok : Bool} {l m n s : List ℕ} {d f : Cursor} {i t w : ℕ} {r : Written} {k : Kind} {ks : List Kind}
    → RequestStarted ok (s ∷ []) (run_size s w) i t l m d → Ends f r → plan request t ≡ asked (k ∷ ks) → encode k (run s) ≡ sized s → ok ≡ text_right k (run s)
    → texts_right ks vs ≡ true → length (encode_all ks vs) ≡ w → concat rest ≡ encode_all ks vs → Puts m d rest n f → Wrote (write request known i t (run s ∷ vs) true l) n r
unfolding encode_message
pieces-asks vs rest {ok} {l} {m} {n} {s} {d} {f} {i} {t} {w} {r} {k} {ks} start end p sizes text texts size these q =
    asks i t (run s ∷ vs) (run_size s w) ok end p (text ∙ and-true (text_right k (run s)) ∙ rw texts) bytes long (puts_then start.is q)
  where
    head : List ℕ
    head = bytes_of 4 i ++ bytes_of 1 t

    bytes : concat (head ∷ sized s ∷ rest) ≡ encode_message request known i t (run s ∷ vs)
    bytes = rw (p, sizes, these, append_assoc (bytes_of 4 i) (bytes_of 1 t) (sized s ++ encode_all ks vs))

    long : run_size s w ≡ length (concat (head ∷ sized s ∷ rest))
    long =
        omega (
          arith,
          size,
          ap length these,
          length-append head (sized s ++ concat rest),
          length-append (bytes_of 4 i) (bytes_of 1 t),
          length-append (sized s) (concat rest),
          length-append (bytes_of 4 (length s)) s,
          length-bytes_of 4 i,
          length-bytes_of 1 t,
          length-bytes_of 4 (length s),
        )

-- each number by itself
pub run-asks : (vs : List (Value (List ℕ))) {ok : Bool} {l m n s : List ℕ} {d f : Cursor} {i t w : ℕ} {r : Written} {k : Kind} {ks : List Kind}
    → RequestStarted ok (s ∷ []) (run_size s w) i t l m d → Ends f r → plan request t ≡ asked (k ∷ ks) → encode k (run s) ≡ sized s → ok ≡ text_right k (run s)
    → texts_right ks vs ≡ true → length (encode_all ks vs) ≡ w → Fields m d ks vs n f → Wrote (write request known i t (run s ∷ vs) true l) n r
run-asks vs {ks = ks} start end p sizes text texts size q = pieces-asks vs (encodings ks vs) start end p sizes text texts size (concat-encodings ks vs) (fields-put q)

-- a request with two texts or data, and numbers behind them
pub two-asks : (vs : List (Value (List ℕ))) {ok : Bool} {l m n s u : List ℕ} {d f : Cursor} {i t w : ℕ} {r : Written} {j k : Kind} {ks : List Kind}
    → RequestStarted ok (s ∷ u ∷ []) (runs_size s u w) i t l m d → Ends f r → plan request t ≡ asked (j ∷ k ∷ ks) → encode j (run s) ≡ sized s → encode k (run u) ≡ sized u
    → ok ≡ text_right j (run s) && text_right k (run u) → texts_right ks vs ≡ true → length (encode_all ks vs) ≡ w → Fields m d ks vs n f → Wrote (write request known i t (run s ∷ run u ∷ vs) true l) n r
unfolding encode_message
two-asks vs {ok} {l} {m} {n} {s} {u} {d} {f} {i} {t} {w} {r} {j} {k} {ks} start end p sizes sizes' text texts size q =
    asks i t (run s ∷ run u ∷ vs) (runs_size s u w) ok end p (text ∙ and_assoc (text_right j (run s)) (text_right k (run u)) (texts_right ks vs) texts) bytes long
    (puts_then start.is (fields-put q))
  where
    rest : List (List ℕ)
    rest = encodings ks vs

    head : List ℕ
    head = bytes_of 4 i ++ bytes_of 1 t

    second : List (List ℕ)
    second = sized u ∷ rest

    bytes : concat (head ∷ sized s ∷ second) ≡ encode_message request known i t (run s ∷ run u ∷ vs)
    bytes = rw (p, sizes, sizes', concat-encodings ks vs, append_assoc (bytes_of 4 i) (bytes_of 1 t) (sized s ++ (sized u ++ encode_all ks vs)))

    long : runs_size s u w ≡ length (concat (head ∷ sized s ∷ second))
    long =
        omega (
          arith,
          size,
          ap length (concat-encodings ks vs),
          length-append head (sized s ++ concat second),
          length-append (bytes_of 4 i) (bytes_of 1 t),
          length-append (sized s) (concat second),
          length-append (sized u) (concat rest),
          length-append (bytes_of 4 (length s)) s,
          length-append (bytes_of 4 (length u)) u,
          length-bytes_of 4 i,
          length-bytes_of 1 t,
          length-bytes_of 4 (length s),
          length-bytes_of 4 (length u),
        )

-- a method's type is no unknown request's
pub known-type : (i t : ℕ) (l : List ℕ) {m : Method} → of_request t ≡ found m → Wrote (write request unknown i t [] true l) l (Refused unexpected_type 0)
unfolding write plan
known-type i t l e = record { tells = rw e; leaves = rw e }

pub unknown-type : (i t : ℕ) (l : List ℕ) {n : List ℕ} {r : Written} → of_request t ≡ no-method → Wrote (store_checked (bytes_of 4 i ++ (bytes_of 1 t ++ [])) l) n r
    → Wrote (write request unknown i t [] true l) n r
unfolding write plan encode_message
unknown-type i t l e w = rw e w
