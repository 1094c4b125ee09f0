-- Two tenants, one scratchpad: what is answered and what is stored do not depend on what the lent buffer held before, and the bytes behind
-- are those that were there.
use Rattle.std.specs.Prelude.{ℕ, ◌≡◌, List, length, take, drop}
use Rattle.layout.specs.Writing.{length_of, WriteOutcome}
use Rattle.layout.specs.Front.{Act, handed-on, stored, refused, FrontOutcome}

-- w takes the buffer as it was lent to an outcome: `answer` is what is told of it, `reported` how many bytes that answer claims, and `buffer`
-- the buffer afterwards
pub record Isolated {W A : Type 0} (answer : W → A) (reported : A → ℕ) (buffer : W → List ℕ) (w : List ℕ → W) : Type 0 where
  -- two buffers of one length: the same answer, and the same reported bytes
  pub answers : (a b : List ℕ) → length a ≡ length b → answer (w a) ≡ answer (w b)
  pub same : (a b : List ℕ) → length a ≡ length b → take (reported (answer (w a))) (buffer (w a)) ≡ take (reported (answer (w b))) (buffer (w b))
  -- behind them, the bytes that were there
  pub rest : (a : List ℕ) → drop (reported (answer (w a))) (buffer (w a)) ≡ drop (reported (answer (w a))) a

-- a writer: of requests and replies, and the lister
abbrev pub WriterIsolated : (List ℕ → WriteOutcome) → Type 0
WriterIsolated w = Isolated (λ (x : WriteOutcome). x.told) length_of (λ (x : WriteOutcome). x.buffer) w

-- the length that a front reports: 0 where it stored nothing
abbrev pub act_length : Act → ℕ
act_length handed-on = 0
act_length (stored n) = n
act_length (refused n p) = 0

abbrev pub FrontIsolated : (List ℕ → FrontOutcome) → Type 0
FrontIsolated w = Isolated (λ (x : FrontOutcome). x.act) act_length (λ (x : FrontOutcome). x.buffer) w

-- the same of two runs: on the buffers a and b, which became a' and b', they answered x and y
pub record Apart {A : Type 0} {B : Type 0} (reported : A → ℕ) (x y : A) (a b a' b' : List B) : Type 0 where
  pub answers : length a ≡ length b → x ≡ y
  pub same : length a ≡ length b → take (reported x) a' ≡ take (reported y) b'
  pub first_rest : drop (reported x) a' ≡ drop (reported x) a
  pub second-rest : drop (reported y) b' ≡ drop (reported y) b
