-- `readdir_writer::name_at` meets its contract. Assumes nothing.
use mathlib.Core.Path.{◌≡◌, sym, ap, ◌∙◌}
use Prim.Native.Nat.{◌+◌, ◌≤◌}
use native.Mathlib.Omega.{arith}
use lib.ListN.{length}
use Rattle.number.specs.BigEndian.{whole, number_at}
use Rattle.number.specs.Answers.{found_u32}
use Rattle.number.proofs.BigEndian.{whole-fits}
use Rattle.readdir_writer.proofs.Taking.{no_length, name-outside, name-inside}
use Rattle.readdir_writer.proofs.name_at.Goals as goal
use Rattle.readdir_writer.proofs.name_at.Goals.{In-Whole}

found : (c : In-Whole) → let a = c.args in whole c.in-Whole.len ≡ number_at 4 a.m.now a.at
found c = sym (ap found_u32 c.in-Whole.is) ∙ c.read_u32-read.ensures

fits : (c : In-Whole) → let a = c.args in a.at + 4 ≤ length a.m.now
fits c = (whole-fits 4 _ _ (found c)).0

pub returns-in_default : goal.returns-in_default
returns-in_default c = no_length _ _ (sym (ap found_u32 c.in_default.is) ∙ c.read_u32-read.ensures)

pub overflow_add-start : goal.overflow_add-start
overflow_add-start c = omega (arith, fits c)

pub overflow_sub-m : goal.overflow_sub-m
overflow_sub-m c = fits c

pub returns-then-m-start : goal.returns-then-m-start
returns-then-m-start c = name-outside _ _ (found (goal.at.returns-then-m-start c).In-Whole) (omega (arith, fits (goal.at.returns-then-m-start c).In-Whole))

pub returns : goal.returns
returns c = name-inside _ _ (found (goal.at.returns c).In-Whole) (omega (arith, fits (goal.at.returns c).In-Whole))
