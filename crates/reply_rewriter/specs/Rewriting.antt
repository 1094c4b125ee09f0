-- The values of a reply as they are written again, and the names of a message as they are met for it.
use Rattle.std.specs.Prelude.{ℕ, ◌≡◌, List, [], ◌∷◌, map, ℤ, length}
use Rattle.method.specs.declared.Method.TheVariants.{Readdir}
use Rattle.layout.specs.Values.{Part, part, Value, number, signed, truth, run, runs, bytes_in}
use Rattle.layout.specs.Names.{first_name}
use Rattle.layout.specs.Writing.{WriteOutcome, sized_all, all_well_formed}
use Rattle.wire.specs.Runs.{shown}
use Rattle.reply_reader.specs.declared.Reply.{Reply}
use Rattle.reply_reader.specs.Answers.{method_of, values_of}
use Rattle.reply_writer.specs.Replying.{replying}
use Rattle.readdir_writer.specs.Collecting.{names_in}
use Rattle.reply_rewriter.specs.declared.Names.{Names}

-- the names that the iterator gives in m, at most n of them
abbrev pub name_texts : List ℕ → ℕ → List (List ℕ)
name_texts m n = map (bytes_in m) (names_in m n)

-- what is written of a value of a reply, its text, data and names being those of m: a text or data that does not lie inside m is empty, and
-- the names are those that the iterator gives, at most as many as the value has
abbrev pub written_in : List ℕ → Value Part → Value (List ℕ)
written_in m (number n) = number n
written_in m (signed z) = signed z
written_in m (truth b) = truth b
written_in m (run x) = run (shown m x)
written_in m (runs xs) = runs (name_texts m (length xs))

-- the values that are written of the success q with the result z, its text, data and names being those of m
abbrev pub values_in : List ℕ → ℤ → Reply → List (Value (List ℕ))
values_in m z q = signed z ∷ map (written_in m) (values_of m q)

-- they, written with the id i into a buffer
abbrev pub rewriting : Reply → ℕ → ℤ → List ℕ → List ℕ → WriteOutcome
rewriting q i z m out = replying (method_of q) i (values_in m z q) out

-- the success of readdir with the names of m, at most n of them, written so
abbrev pub rewriting_names : ℕ → ℕ → ℤ → List ℕ → List ℕ → WriteOutcome
rewriting_names n i z m out = replying Readdir i (signed z ∷ runs (name_texts m n) ∷ []) out

-- the names ss were met in m; with their lengths they are one part of it
pub record Met (m : List ℕ) (ss : List (List ℕ)) (r : Names) : Type 0 where
  pub count : r.count ≡ length ss
  pub texts : r.texts ≡ all_well_formed ss
  pub len : r.len ≡ length (sized_all ss)
  pub bytes : shown m (part first_name r.len) ≡ sized_all ss
