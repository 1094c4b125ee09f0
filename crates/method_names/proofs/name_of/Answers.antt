-- `method_names::name_of` meets its contract: the table is computed and compared as a whole. Assumes nothing.
use native.Mathlib.Omega.{arith}
use Rattle.method_names.proofs.Rows.{first-number, last-number, row_at}
use Rattle.method_names.proofs.name_of.Goals as goal

pub overflow_sub-result : goal.overflow_sub-result
overflow_sub-result c = omega (arith, c.request_number-number.ensures, first-number c.args.method)

pub bounds-number-number : goal.bounds-number-number
bounds-number-number c = omega (arith, c.request_number-number.ensures, first-number c.args.method, last-number c.args.method)

pub returns : goal.returns
returns c = row_at _ c.args.method c.request_number-number.ensures
