-- Steps one after another, as a caller of `open` and `step_at` meets them. Assumes nothing.
use mathlib.Core.Path.{◌≡◌, refl, sym, ap, subst, ◌∙◌}
use mathlib.Core.Bool.{Bool, true, false, cond}
use mathlib.Core.List.{List, [], ◌∷◌}
use Prim.Native.Nat.{ℕ, zero, suc, ◌+◌, ◌-◌, ◌<◌}
use native.Mathlib.Omega.{arith}
use lib.Dec.{eqb, leb}
use lib.ListN.{length, take}
use borrow.Author.Tests.{eq-eqb, ne_eqb, le-leb}
use Rattle.layout.specs.Kinds.{bytes}
use Rattle.layout.specs.Refusals.{truncated}
use Rattle.layout.specs.Table.{reply}
use Rattle.layout.specs.Values.{Part, part, Value, run, bytes_in}
use Rattle.layout.specs.Reading.{Outcome, got, fail, followed, num_at, run_at, bytes_at, any_bytes, read}
use Rattle.layout.specs.Parts.{nothing}
use Rattle.layout.specs.Names as layout
use Rattle.layout.specs.Names.{names_of, position, opened, name, ended, stepped, step_by, step, steps}
use Rattle.layout.proofs.Tests.{apart}
use Rattle.layout.proofs.Iterating.{opened-steps, ended-stays}
use Rattle.wire.specs.declared.Cursor.{Cursor}
use Rattle.wire.specs.declared.Run.{Run}
use Rattle.wire.specs.Cursors.{place}
use Rattle.field_reader.specs.Cursors.{outcome_at, Took}
use Rattle.wire.specs.Runs.{part_of, shown}
use Rattle.names.specs.declared.Position.{Position}
use Rattle.names.specs.declared.Step.{Step}
use Rattle.names.specs.declared.Step.TheVariants as S
use Rattle.names.specs.Positions.{position_of, step_of, name_of}

-- ---- the step, by what was read at its place

step_left : (m : List ℕ) (p n : ℕ) → 0 < n → step m (position p n) ≡ stepped (position p n) (n - 1) (bytes_at m p)
unfolding step
step_left m p n h =
    let s : n ≡ suc (n - 1) = omega arith in
    ap (step_by m p) s ∙ ap (λ (k : ℕ). stepped (position p k) (n - 1) (bytes_at m p)) (sym s)

module _ (m : List ℕ) (p : ℕ) {x : Part} {d : Cursor} (h : Took m (place p) bytes (run x) d) where
  name-read : bytes_at m p ≡ outcome_at d x
  name-read = go (eqb d.code 0) (bytes_at m p) h.is
    where
      go : (b : Bool) (o : Outcome Part) → ◌≡◌ {A = Outcome (Value Part)} (cond b (got (run x) d.at) (fail d.code d.at)) (followed o (λ a q. got (run a) q))
          → o ≡ cond b (got x d.at) (fail d.code d.at)
      go true (got y q) e = cc
      go true (fail n r) e = let z : false ≡ true = cc in apart z
      go false (got y q) e = let z : false ≡ true = cc in apart z
      go false (fail n r) e = cc

  pub step-name : (n : ℕ) → 0 < n → d.code ≡ 0 → name x (position d.at (n - 1)) ≡ step m (position p n)
  step-name n l z = sym (step_left m p n l ∙ rw (name-read, eq-eqb d.code 0 z))

  pub step_end : (n : ℕ) → 0 < n → (d.code ≡ 0 → ⊥) → ended (position p n) ≡ step m (position p n)
  step_end n l z = sym (step_left m p n l ∙ rw (name-read, ne_eqb d.code 0 z))

-- ---- calls of `step_at`, each at the position that the one before it gave

-- what `step_at` promises of its answer s at w
pub record Next (m : List ℕ) (w : Position) (s : Step) : Type 0 where
  pub is : step_of s ≡ step m (position_of w)

-- so many calls gave these names
pub data Calls (m : List ℕ) : ℕ → Position → List Part → Type 0 where
  no_call : {w : Position} → Calls m 0 w []
  a-name : {n : ℕ} {w v : Position} {x : Run} {xs : List Part} → Next m w (S.Name x v) → Calls m n v xs → Calls m (suc n) w (part_of x ∷ xs)
  an-end : {n : ℕ} {w v : Position} {xs : List Part} → Next m w (S.End v) → Calls m n v xs → Calls m (suc n) w xs

calls-steps : {m : List ℕ} {n : ℕ} {w : Position} {xs : List Part} → Calls m n w xs → xs ≡ steps n m (position_of w)
calls-steps no_call = refl
calls-steps (a-name {x = x} e t) = rw (← e.is) (ap (λ (ys : List Part). part_of x ∷ ys) (calls-steps t))
calls-steps (an-end e t) = rw (← e.is) (calls-steps t)

-- n calls from what `open` returned give the first n names of the reply, in order: all of them, and then no more
pub opened-calls : {m : List ℕ} {n : ℕ} {w : Position} {xs : List Part} → position_of w ≡ opened m → Calls m n w xs → xs ≡ take n (names_of (read reply m))
opened-calls {m} {n} o t = calls-steps t ∙ ap (steps n m) o ∙ opened-steps n m

-- ---- the end stays

pub same-position : (v w : Position) → position_of v ≡ position_of w → v ≡ w
same-position v w e = ap (λ (p : layout.Position). record { at = p.at; left = p.left }) e

pub end_stays : {m : List ℕ} {w v : Position} → Next m w (S.End v) → v ≡ w
end_stays {m} {w} {v} e = same-position v w (ended-stays m (position_of w) (sym e.is))

-- and every call there says so again
pub end-again : {m : List ℕ} {w v : Position} {s : Step} → Next m w (S.End v) → Next m v s → s ≡ S.End v
end-again {m} {w} {v} {s} e f = go s (f.is ∙ ap (step m) (ended-stays m (position_of w) (sym e.is)) ∙ sym e.is)
  where
    go : (s : Step) → step_of s ≡ ended (position_of v) → s ≡ S.End v
    go (S.Name x u) g = let z : false ≡ true = cc in apart z
    go (S.End u) g = let h : position_of u ≡ position_of v = cc in ap S.End (same-position u v h)

-- ---- a name lies inside the message, at whatever position it was given

abbrev Inside : List ℕ → Part → Type 0
Inside m x = leb (x.start + x.size) (length m) ≡ true

run_inside : (m : List ℕ) (p n : ℕ) {x : Part} {q : ℕ} → run_at any_bytes n m p ≡ got x q → Inside m x
unfolding run_at
run_inside m p n {x} {q} e = go (leb (p + n) (length m)) refl e
  where
    go : (b : Bool) → leb (p + n) (length m) ≡ b → cond b (got (part p n) (p + n)) (fail truncated p) ≡ got x q → Inside m x
    go true h e = let y : part p n ≡ x = cc in rw (← y) h
    go false h e = let z : false ≡ true = cc in apart z

bytes_inside : (m : List ℕ) (o : Outcome ℕ) {x : Part} {q : ℕ} → followed o (λ n p. run_at any_bytes n m p) ≡ got x q → Inside m x
bytes_inside m (got n p) e = run_inside m p n e
bytes_inside m (fail n p) e = let z : false ≡ true = cc in apart z

-- the bytes that are shown of a part are all its bytes
abbrev Whole : List ℕ → Part → Type 0
Whole m x = shown m x ≡ bytes_in m x

none-whole : (m : List ℕ) → Whole m nothing
unfolding shown
none-whole m = rw (le-leb 0 (length m) (omega arith))

pub step-inside : (m : List ℕ) (w : layout.Position) → Whole m (name_of (step m w))
unfolding step shown
step-inside m w = go w.left
  where
    from : (l : ℕ) (o : Outcome Part) → bytes_at m w.at ≡ o → Whole m (name_of (stepped (position w.at (suc l)) l o))
    from l (got x q) e = rw (bytes_inside m (num_at 4 m w.at) e)
    from l (fail n q) e = none-whole m

    go : (l : ℕ) → Whole m (name_of (step_by m w.at l))
    go zero = none-whole m
    go (suc l) = from l (bytes_at m w.at) refl

pub name-inside : {m : List ℕ} {w v : Position} {x : Run} → Next m w (S.Name x v) → shown m (part_of x) ≡ bytes_in m (part_of x)
name-inside {m} {w} {v} {x} e = subst (λ (s : layout.Step). Whole m (name_of s)) (sym e.is) (step-inside m (position_of w))
