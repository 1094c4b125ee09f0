-- Two runs of what is isolated, by the promises of the functions. Assumes nothing.
use Prim.Native.Nat.{ℕ}
use mathlib.Core.Path.{◌≡◌, refl, sym, ap, ap₂, ◌∙◌}
use mathlib.Core.List.{List, []}
use lib.IntN.{ℤ}
use lib.ListN.{length, take, drop}
use lib.Seq.{drop_at}
use denote.Triple.Both.{Both}
use Rattle.layout.specs.Writing.{WriteOutcome, write_names}
use Rattle.layout.specs.Front.{front}
use Rattle.layout.specs.Isolation.{WriterIsolated}
use Rattle.layout.proofs.Isolating.{store-isolated, write-isolated, front-isolated, isolated-runs}
use Rattle.front.specs.Acts.{Fronts}
use Rattle.message_writer.specs.Writers.{Writes}
use Rattle.request_listing.specs.Listing.{listing, listed}
use Rattle.readdir_writer.specs.declared.Collected.{Collected}
use Rattle.readdir_writer.specs.declared.Collected.TheVariants.{Copied, Refused}
use Rattle.readdir_writer.specs.Collecting.{names_in, sizes, joined, counted, Buffers, Collects}
use Rattle.readdir_writer.proofs.Copying.{copied}
use Rattle.readdir_writer.proofs.CollectedParts.{names-sum, run-part, lengths-part}
use Rattle.isolation.specs.declared.WrittenTwice.{WrittenTwice}
use Rattle.isolation.specs.declared.FrontedTwice.{FrontedTwice}
use Rattle.isolation.specs.declared.CollectedTwice.{CollectedTwice}
use Rattle.isolation.specs.Alone.{Lent, WritesApart, FrontsApart, count_of, size_of, SameRoom, CollectsApart}

-- a writer
pub wrote-apart : {w : List ℕ → WriteOutcome} {out other : Lent} {r : WrittenTwice} → WriterIsolated w → Writes w out.entry out.exit r.first
    → Writes w other.entry other.exit r.second → WritesApart w r out other
wrote-apart i p q = record { first = p; second = q; apart = isolated-runs i p.tells p.leaves q.tells q.leaves }

-- the front
pub fronted-apart : (m : List ℕ) {out other : Lent} {r : FrontedTwice} → Fronts (front m out.entry.now) out.exit.now r.first
    → Fronts (front m other.entry.now) other.exit.now r.second → FrontsApart m r out other
fronted-apart m p q = record { first = p; second = q; apart = isolated-runs (front-isolated m) p.acts p.leaves q.acts q.leaves }

pub listing-isolated : (m : List ℕ) → WriterIsolated (λ (a : List ℕ). listed m a)
unfolding listed
listing-isolated m = store-isolated (listing m)

-- names given as one run and a list of lengths
pub names-isolated : (i : ℕ) (z : ℤ) (ns s : List ℕ) → WriterIsolated (λ (a : List ℕ). write_names i z ns s a)
unfolding write_names
names-isolated i z ns s = write-isolated _ _ _ _ _ _

-- ---- names that are collected

module _ (m : List ℕ) (n : ℕ) where
  -- what is reported of the run, and of the lengths
  abbrev run_of : Collected → List ℕ
  run_of (Copied count len) = joined m (names_in m n)
  run_of (Refused c p) = []

  abbrev lengths-of : Collected → List ℕ
  lengths-of (Copied count len) = sizes (names_in m n)
  lengths-of (Refused c p) = []

  module _ {b d : Buffers} where
    run-reported : (x : Collected) → Collects m (names_in m n) b d x → take (size_of x) d.run ≡ run_of x
    run-reported (Copied count len) h = run-part m n h
    run-reported (Refused c p) h = refl

    lengths-reported : (x : Collected) → Collects m (names_in m n) b d x → take (count_of x) d.lengths ≡ lengths-of x
    lengths-reported (Copied count len) h = lengths-part m n h
    lengths-reported (Refused c p) h = refl

    run-kept : (x : Collected) → Collects m (names_in m n) b d x → drop (size_of x) d.run ≡ drop (size_of x) b.run
    run-kept (Copied count len) h =
        let c = copied (sizes (names_in m n)) (length b.run) (length b.lengths) h.answers in
        ap (λ (z : Buffers). drop len z.run) h.leaves
        ∙ drop_at (joined m (names_in m n)) (drop len b.run) len (sym (c.1 ∙ names-sum m n))
    run-kept (Refused c p) h = ap (λ (z : Buffers). z.run) h.leaves

    lengths-kept : (x : Collected) → Collects m (names_in m n) b d x → drop (count_of x) d.lengths ≡ drop (count_of x) b.lengths
    lengths-kept (Copied count len) h =
        let c = copied (sizes (names_in m n)) (length b.run) (length b.lengths) h.answers in
        ap (λ (z : Buffers). drop count z.lengths) h.leaves ∙ drop_at (sizes (names_in m n)) (drop count b.lengths) count (sym c.0)
    lengths-kept (Refused c p) h = ap (λ (z : Buffers). z.lengths) h.leaves

  pub collects-apart : {b d : Both Buffers Buffers} {r : CollectedTwice} → Collects m (names_in m n) b.entry b.exit r.first
      → Collects m (names_in m n) d.entry d.exit r.second → CollectsApart m (names_in m n) r b d
  collects-apart {b} {d} {r} p q =
      let same : SameRoom b.entry d.entry → r.first ≡ r.second =
      λ h. p.answers ∙ ap₂ (λ (x y : ℕ). counted (sizes (names_in m n)) x y) h.run h.lengths ∙ sym q.answers in
      record {
        first = p;
        second = q;
        answers = same;
        runs = λ h. run-reported r.first p ∙ ap run_of (same h) ∙ sym (run-reported r.second q);
        lengths = λ h. lengths-reported r.first p ∙ ap lengths-of (same h) ∙ sym (lengths-reported r.second q);
        first_run = run-kept r.first p;
        first-lengths = lengths-kept r.first p;
        second_run = run-kept r.second q;
        second-lengths = lengths-kept r.second q;
      }
