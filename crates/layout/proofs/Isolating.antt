-- Every writer and the front are isolated. Assumes nothing.
use mathlib.Core.Path.{◌≡◌, refl, sym, ap, ◌∙◌}
use mathlib.Core.Bool.{Bool, true, false, cond}
use mathlib.Core.List.{List, [], ◌++◌}
use Prim.Native.Nat.{ℕ}
use lib.Dec.{leb}
use lib.ListN.{length, take, drop}
use lib.Seq.{take_at, drop_at}
use Rattle.layout.specs.Refusals.{oversize, unexpected_type, malformed_text, data_length_mismatch, buffer_too_small, result_sign, lengths_mismatch}
use Rattle.layout.specs.Limits.{longest}
use Rattle.layout.specs.Table.{Side, request, plan}
use Rattle.layout.specs.Values.{Value}
use Rattle.layout.specs.Reading.{Shape, read}
use Rattle.layout.specs.Pieces.{kinds_of}
use Rattle.layout.specs.Writing.{WriteOutcome, encode_message, has_shape, sign_right, texts_right, count_right, refuse, check, store, store_checked, write}
use Rattle.layout.specs.Front.{Call, hand_on, refuse-with, reply-with, called, stored, refused, done, settle, front}
use Rattle.layout.specs.Isolation.{Isolated, WriterIsolated, FrontIsolated, Apart}

-- the bytes e in front of what stays where they fit, else the buffer as it was; told by the one answer or the other
placed : {W A : Type 0} (answer : W → A) (reported : A → ℕ) (buffer : W → List ℕ) (e : List ℕ) (fits lacks : List ℕ → W) (y n : A)
    → ((a : List ℕ) → answer (fits a) ≡ y) → ((a : List ℕ) → answer (lacks a) ≡ n)
    → ((a : List ℕ) → buffer (fits a) ≡ e ++ drop (length e) a) → ((a : List ℕ) → buffer (lacks a) ≡ a) → reported y ≡ length e → reported n ≡ 0
    → Isolated answer reported buffer (λ a. cond (leb (length e) (length a)) (fits a) (lacks a))
placed {W} {A} answer reported buffer e fits lacks y n ay an by bn ry rn =
    record {
      answers = λ a b h. told a (leb (length e) (length a)) ∙ ap (λ (k : ℕ). cond (leb (length e) k) y n) h ∙ sym (told b (leb (length e) (length b)));
      same = λ a b h. front_of a (leb (length e) (length a)) ∙ ap (λ (k : ℕ). cond (leb (length e) k) e []) h ∙ sym (front_of b (leb (length e) (length b)));
      rest = λ a. behind a (leb (length e) (length a));
    }
  where
    told : (a : List ℕ) (t : Bool) → answer (cond t (fits a) (lacks a)) ≡ cond t y n
    told a true = ay a
    told a false = an a

    front_of : (a : List ℕ) (t : Bool) → take (reported (answer (cond t (fits a) (lacks a)))) (buffer (cond t (fits a) (lacks a))) ≡ cond t e []
    front_of a true = rw (ay a, by a, ry) (take_at e (drop (length e) a) (length e) refl)
    front_of a false = rw (an a, bn a, rn) refl

    behind : (a : List ℕ) (t : Bool) → drop (reported (answer (cond t (fits a) (lacks a)))) (buffer (cond t (fits a) (lacks a)))
        ≡ drop (reported (answer (cond t (fits a) (lacks a)))) a
    behind a true = rw (ay a, by a, ry) (drop_at e (drop (length e) a) (length e) refl)
    behind a false = rw (an a, bn a, rn) refl

-- a check that does not look at the buffer
check-isolated : (c : ℕ) (t : Bool) (w : List ℕ → WriteOutcome) → WriterIsolated w → WriterIsolated (λ (a : List ℕ). check c t a (w a))
check-isolated c true w i = i
check-isolated c false w i = record { answers = λ a b e. refl; same = λ a b e. refl; rest = λ a. refl }

-- bytes that are stored where there is room for them
pub store-isolated : (e : List ℕ) → WriterIsolated (λ (a : List ℕ). check buffer_too_small (leb (length e) (length a)) a (store e a))
store-isolated e =
    placed _ _ _ e (λ a. store e a) (λ a. refuse buffer_too_small a) _ _ (λ a. refl) (λ a. refl) (λ a. refl) (λ a. refl) refl refl

-- every writer, of requests and of replies
pub write-isolated : (side : Side) (s : Shape) (i t : ℕ) (vs : List (Value (List ℕ))) (summed : Bool) → WriterIsolated (λ (a : List ℕ). write side s i t vs summed a)
unfolding write store_checked
write-isolated side s i t vs summed =
    let p = plan side t in
    let e = encode_message side s i t vs in
    check-isolated unexpected_type (has_shape p s) _
    (check-isolated result_sign (sign_right p s vs) _
    (check-isolated lengths_mismatch summed _
    (check-isolated malformed_text (texts_right (kinds_of p s) vs) _
    (check-isolated data_length_mismatch (count_right p s vs) _
    (check-isolated oversize (leb (length e) longest) _ (store-isolated e))))))

settle-isolated : (c : Call) → FrontIsolated (λ (a : List ℕ). settle c a)
settle-isolated hand_on = record { answers = λ a b e. refl; same = λ a b e. refl; rest = λ a. refl }
settle-isolated (refuse-with n) = record { answers = λ a b e. refl; same = λ a b e. refl; rest = λ a. refl }
settle-isolated (reply-with e) =
    placed _ _ _ e (λ a. done (stored (length e)) (e ++ drop (length e) a)) (λ a. done (refused buffer_too_small 0) a) _ _
    (λ a. refl) (λ a. refl) (λ a. refl) (λ a. refl) refl refl

-- the front, on every request
pub front-isolated : (m : List ℕ) → FrontIsolated (λ (a : List ℕ). front m a)
unfolding front
front-isolated m = settle-isolated (called m (read request m))

-- two runs of what is isolated
pub isolated-runs : {W A : Type 0} {answer : W → A} {reported : A → ℕ} {buffer : W → List ℕ} {w : List ℕ → W} {x y : A} {a b a' b' : List ℕ}
    → Isolated answer reported buffer w → x ≡ answer (w a) → a' ≡ buffer (w a) → y ≡ answer (w b) → b' ≡ buffer (w b) → Apart reported x y a b a' b'
isolated-runs {a = a} {b = b} i xe ae ye be =
    record {
      answers = λ h. xe ∙ i.answers a b h ∙ sym ye;
      same = λ h. rw (xe, ae, ye, be) (i.same a b h);
      first_rest = rw (xe, ae) (i.rest a);
      second-rest = rw (ye, be) (i.rest b);
    }

-- an answer told in other words, that report the same length
pub isolated-told : {W A B : Type 0} {answer : W → A} {reported : A → ℕ} {buffer : W → List ℕ} {w : List ℕ → W} (tell : A → B) (length-of : B → ℕ)
    → ((x : A) → length-of (tell x) ≡ reported x) → Isolated answer reported buffer w → Isolated (λ (x : W). tell (answer x)) length-of buffer w
isolated-told {answer = answer} {w = w} tell length-of e i =
    record {
      answers = λ a b h. ap tell (i.answers a b h);
      same = λ a b h. rw (e (answer (w a)), e (answer (w b))) (i.same a b h);
      rest = λ a. rw (e (answer (w a))) (i.rest a);
    }
