-- What storing at a cursor means.
use Rattle.std.specs.Prelude.{ℕ, ◌+◌, ◌≤◌, ◌≡◌, cond, List, [], ◌∷◌, ◌++◌, eqb, leb, length}
use Rattle.number.specs.BigEndian.{overwritten}
use Rattle.layout.specs.Kinds.{Kind}
use Rattle.layout.specs.Values.{Value}
use Rattle.layout.specs.Refusals.{oversize, buffer_too_small}
use Rattle.layout.specs.Limits.{longest}
use Rattle.layout.specs.Writing.{encode}
use Rattle.wire.specs.declared.Cursor.{Cursor}
use Rattle.wire.specs.Cursors.{place, refusal}

-- the cursor, or a refusal where w bytes at it do not fit into n
unfoldable pub room_at : Cursor → ℕ → ℕ → Cursor
room_at c w n = cond (eqb c.code 0) (cond (leb (c.at + w) n) c (refusal buffer_too_small)) c

-- d is that cursor; where it is a place, the bytes fit
pub record Room (c : Cursor) (w n : ℕ) (d : Cursor) : Type 0 where
  pub is : d ≡ room_at c w n
  pub fits : d.code ≡ 0 → d.at + w ≤ n

-- the cursor, or a refusal where a run of n bytes is longer than any message
unfoldable pub run_from : Cursor → ℕ → Cursor
run_from c n = cond (eqb c.code 0) (cond (leb n longest) c (refusal oversize)) c

-- the buffer, and the cursor behind what was stored
pub record Stored : Type 0 where
  pub buffer : List ℕ
  pub next : Cursor

abbrev pub left : List ℕ → Cursor → Stored
left m d = record { buffer = m; next = d }

-- the bytes e at the place of d; of a refusal, nothing
abbrev pub store_at : Cursor → List ℕ → List ℕ → Stored
store_at d e l = cond (eqb d.code 0) (left (overwritten l d.at e) (place (d.at + length e))) (left l d)

-- storing the bytes e at c makes l into m, and d is behind them; at a refused c, and where e does not fit, m is l and d the refusal
pub record Put (l : List ℕ) (c : Cursor) (e m : List ℕ) (d : Cursor) : Type 0 where
  pub is : left m d ≡ store_at (room_at c (length e) (length l)) e l

-- the bytes of the list, one after another
pub data Puts : List ℕ → Cursor → List (List ℕ) → List ℕ → Cursor → Type 0 where
  none : {l : List ℕ} {c : Cursor} → Puts l c [] l c
  more : {l m n e : List ℕ} {c d f : Cursor} {es : List (List ℕ)} → Put l c e m d → Puts m d es n f → Puts l c (e ∷ es) n f

-- the fields of these kinds with these values, one after another
pub data Fields : List ℕ → Cursor → List Kind → List (Value (List ℕ)) → List ℕ → Cursor → Type 0 where
  done : {l : List ℕ} {c : Cursor} → Fields l c [] [] l c
  field : {l m n : List ℕ} {c d f : Cursor} {k : Kind} {ks : List Kind} {v : Value (List ℕ)} {vs : List (Value (List ℕ))}
      → Put l c (encode k v) m d → Fields m d ks vs n f → Fields l c (k ∷ ks) (v ∷ vs) n f

abbrev pub concat : List (List ℕ) → List ℕ
concat [] = []
concat (e ∷ es) = e ++ concat es
