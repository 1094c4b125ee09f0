-- Laws of adding lines at a cursor, and of what a buffer then begins with. Assumes nothing.
use mathlib.Core.Path.{◌≡◌, refl, sym, ap, ap₂, ◌∙◌}
use mathlib.Core.List.{List, [], ◌∷◌, ◌++◌, append_assoc, append-nil}
use Prim.Native.Nat.{ℕ, ◌+◌, ◌≤◌}
use native.Mathlib.Omega.{arith}
use lib.ListN.{length, take, drop, length-take}
use lib.Seq.{take_at}
use Rattle.number.specs.BigEndian.{overwritten}
use Rattle.wire.specs.declared.Cursor.{Cursor}
use Rattle.field_writer.specs.Stored.{Put, Puts, none as no-piece, more as a_Piece, concat}
use Rattle.wire.specs.Cursors.{place}
use Rattle.field_writer.proofs.Storing.{puts_then, each-put}
use Rattle.lines.specs.Lines.{Line, line_text, text, Begins, AddsLines}

-- ---- lines

concat-then : (es fs : List (List ℕ)) → concat (es ++ fs) ≡ concat es ++ concat fs
concat-then [] fs = refl
concat-then (e ∷ es) fs = ap (λ (x : List ℕ). e ++ x) (concat-then es fs) ∙ sym (append_assoc e (concat es) (concat fs))

pub text-then : (ls ks : List Line) → text (ls ++ ks) ≡ text ls ++ text ks
text-then [] ks = refl
text-then (l ∷ ls) ks = ap (λ (x : List ℕ). line_text l ++ x) (text-then ls ks) ∙ sym (append_assoc (line_text l) (text ls) (text ks))

-- no line
pub none : {l : List ℕ} {c : Cursor} → AddsLines l c [] l c
none = record { pieces = []; puts = no-piece; are = refl }

-- a line that was stored whole, and lines behind it
pub more : {l m n : List ℕ} {c d f : Cursor} {ws : Line} {ls : List Line} → Put l c (line_text ws) m d → AddsLines m d ls n f → AddsLines l c (ws ∷ ls) n f
more {ws = ws} p q = record { pieces = line_text ws ∷ q.pieces; puts = a_Piece p q.puts; are = ap (λ (x : List ℕ). line_text ws ++ x) q.are }

pub lines_then : {l m n : List ℕ} {c d f : Cursor} {ls ks : List Line} → AddsLines l c ls m d → AddsLines m d ks n f → AddsLines l c (ls ++ ks) n f
lines_then {ls = ls} {ks = ks} p q =
    record { pieces = p.pieces ++ q.pieces; puts = puts_then p.puts q.puts; are = concat-then p.pieces q.pieces ∙ ap₂ ◌++◌ p.are q.are ∙ sym (text-then ls ks) }

-- two lines that were stored whole, and lines behind them
pub two-more : {l m n : List ℕ} {c d f : Cursor} {ws vs : Line} {ls : List Line} → Put l c (text (ws ∷ vs ∷ [])) m d → AddsLines m d ls n f → AddsLines l c (ws ∷ vs ∷ ls) n f
two-more {ws = ws} {vs = vs} p q =
    let two = text (ws ∷ vs ∷ []) in
    lines_then {ls = ws ∷ vs ∷ []} (record { pieces = two ∷ []; puts = a_Piece p no-piece; are = append-nil two }) q

-- ---- what a buffer begins with

pub begins-length : {s e : List ℕ} {k : ℕ} → Begins s e k → length e ≡ k
begins-length b = ap length (sym b.is) ∙ sym b.counts.1

module _ {l n e : List ℕ} {f : Cursor} (short : length e ≤ length l) where
  pieces-begin : {es : List (List ℕ)} → Puts l (place 0) es n f → concat es ≡ e → Begins n e f.at
  unfolding overwritten
  pieces-begin p are =
      let zero-plus : 0 + length e ≡ length e = omega arith in
      let s = each-put p refl (rw are (omega arith)) in
      let at : f.at ≡ length e = s.2 ∙ rw (are, zero-plus) in
      let b : n ≡ e ++ drop (length e) l = s.0 ∙ rw (are, zero-plus) in
      let t : take f.at n ≡ e = rw (at, b) (take_at e (drop (length e) l) (length e) refl) in
      let z : f.at ≡ length (take f.at n) = at ∙ ap length (sym t) in
      record { is = t; counts = (omega (arith, z, length-take f.at n), z) }

  -- what was stored at the start, where it fits
  pub put-begins : Put l (place 0) e n f → Begins n e f.at
  put-begins p = pieces-begin (a_Piece p no-piece) (append-nil e)

-- lines that were added at the start, where they fit
pub added : {l n : List ℕ} {f : Cursor} {ls : List Line} → AddsLines l (place 0) ls n f → length (text ls) ≤ length l → Begins n (text ls) f.at
added p h = pieces-begin h p.puts p.are
