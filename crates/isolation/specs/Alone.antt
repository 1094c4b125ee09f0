-- Two runs on two lent buffers: what each told and left, and that neither depends on what the buffers held.
use Rattle.std.specs.Prelude.{ℕ, ◌≡◌, List, length, take, drop}
use Rattle.std.specs.Borrow.{MutBor}
use denote.Triple.Both.{Both}
use Rattle.layout.specs.Values.{Part}
use Rattle.layout.specs.Writing.{length_of, WriteOutcome}
use Rattle.layout.specs.Front.{front}
use Rattle.layout.specs.Isolation.{act_length, Apart}
use Rattle.message_writer.specs.Writers.{told_of, Writes}
use Rattle.front.specs.Acts.{act_of, Fronts}
use Rattle.readdir_writer.specs.declared.Collected.{Collected}
use Rattle.readdir_writer.specs.declared.Collected.TheVariants.{Copied, Refused}
use Rattle.readdir_writer.specs.Collecting.{Buffers, lent, Collects}
use Rattle.isolation.specs.declared.WrittenTwice.{WrittenTwice}
use Rattle.isolation.specs.declared.FrontedTwice.{FrontedTwice}
use Rattle.isolation.specs.declared.CollectedTwice.{CollectedTwice}

-- a buffer that is lent to a function, before and afterwards
abbrev pub Lent : Type 0
Lent = Both (MutBor (List ℕ)) (MutBor (List ℕ))

-- neither what was told nor what was left depends on what the buffers held, where f is how many bytes are told
abbrev pub LeftApart : {A : Type 0} → (A → ℕ) → A → A → Lent → Lent → Type 0
LeftApart f x y out other = Apart f x y out.entry.now other.entry.now out.exit.now other.exit.now

-- a writer that does what w says: each run, and both
pub record WritesApart (w : List ℕ → WriteOutcome) (r : WrittenTwice) (out other : Lent) : Type 0 where
  pub first : Writes w out.entry out.exit r.first
  pub second : Writes w other.entry other.exit r.second
  pub apart : LeftApart length_of (told_of r.first) (told_of r.second) out other

-- the front on the request m
pub record FrontsApart (m : List ℕ) (r : FrontedTwice) (out other : Lent) : Type 0 where
  pub first : Fronts (front m out.entry.now) out.exit.now r.first
  pub second : Fronts (front m other.entry.now) other.exit.now r.second
  pub apart : LeftApart act_length (act_of r.first) (act_of r.second) out other

-- how many lengths, and how many bytes, collecting names reports: 0 where it refused
abbrev pub count_of : Collected → ℕ
count_of (Copied count len) = count
count_of (Refused n p) = 0

abbrev pub size_of : Collected → ℕ
size_of (Copied count len) = len
size_of (Refused n p) = 0

-- the buffers d have as many bytes and lengths as b
pub record SameRoom (b d : Buffers) : Type 0 where
  pub run : length b.run ≡ length d.run
  pub lengths : length b.lengths ≡ length d.lengths

-- both buffers for names, before and afterwards
abbrev pub lent_both : Lent → Lent → Both Buffers Buffers
lent_both run lengths = record { entry = lent run.entry lengths.entry; exit = lent run.exit lengths.exit }

-- the names xs of m were collected into the buffers b, and into d
pub record CollectsApart (m : List ℕ) (xs : List Part) (r : CollectedTwice) (b d : Both Buffers Buffers) : Type 0 where
  pub first : Collects m xs b.entry b.exit r.first
  pub second : Collects m xs d.entry d.exit r.second
  pub answers : SameRoom b.entry d.entry → r.first ≡ r.second
  pub runs : SameRoom b.entry d.entry → take (size_of r.first) b.exit.run ≡ take (size_of r.second) d.exit.run
  pub lengths : SameRoom b.entry d.entry → take (count_of r.first) b.exit.lengths ≡ take (count_of r.second) d.exit.lengths
  pub first_run : drop (size_of r.first) b.exit.run ≡ drop (size_of r.first) b.entry.run
  pub first-lengths : drop (count_of r.first) b.exit.lengths ≡ drop (count_of r.first) b.entry.lengths
  pub second_run : drop (size_of r.second) d.exit.run ≡ drop (size_of r.second) d.entry.run
  pub second-lengths : drop (count_of r.second) d.exit.lengths ≡ drop (count_of r.second) d.entry.lengths
