-- What the cases of a request and of its answer stand for, and the answer by what follows the header.
use Rattle.std.specs.Prelude.{ℕ, ◌≡◌, List, [], ◌∷◌}
use Rattle.method.specs.declared.Method.{Method}
use Rattle.method.specs.declared.Method.TheVariants.{Access, Getattr, Readlink, Symlink, Link, Rename, Chmod, Chown, Truncate, Fsync, Open, Mknod, Create, Release, Unlink, Read, Write, Mkdir, Readdir, Rmdir, Statfs, Utimens, Getcreds}
use Rattle.method.specs.Methods.{request_number}
use Rattle.layout.specs.Table.{request, plan}
use Rattle.layout.specs.Values.{Part, Value, number, signed, truth, run}
use Rattle.layout.specs.Reading.{mapped, unknown, known, body, body_at, message, Answer, refused, accepted, answer}
use Rattle.wire.specs.declared.Cursor.{Cursor}
use Rattle.field_reader.specs.Cursors.{outcome_at, from}
use Rattle.wire.specs.Runs.{part_of}
use Rattle.wire.specs.Values.{rename_values, read_values, write_values, utimens_values}
use Rattle.request_reader.specs.declared.Request.{Request}
use Rattle.request_reader.specs.declared.Request.TheVariants as R
use Rattle.request_reader.specs.declared.RequestAnswer.{RequestAnswer}
use Rattle.request_reader.specs.declared.RequestAnswer.TheVariants as A

abbrev pub method_of : Request → Method
method_of (R.Access path mode) = Access
method_of (R.Getattr path) = Getattr
method_of (R.Readlink path) = Readlink
method_of (R.Symlink target linkpath) = Symlink
method_of (R.Link old-path new-path) = Link
method_of (R.Rename old-path new-path flags) = Rename
method_of (R.Chmod path mode) = Chmod
method_of (R.Chown path uid gid) = Chown
method_of (R.Truncate path size handle) = Truncate
method_of (R.Fsync path is-datasync handle) = Fsync
method_of (R.Open path flags) = Open
method_of (R.Mknod path mode dev) = Mknod
method_of (R.Create path mode) = Create
method_of (R.Release path handle) = Release
method_of (R.Unlink path) = Unlink
method_of (R.Read path buffer-size offset handle) = Read
method_of (R.Write path content offset handle) = Write
method_of (R.Mkdir path mode) = Mkdir
method_of (R.Readdir path) = Readdir
method_of (R.Rmdir path) = Rmdir
method_of (R.Statfs path) = Statfs
method_of (R.Utimens path atime mtime handle) = Utimens
method_of R.Getcreds = Getcreds

-- the values of the fields, in the table's order
abbrev pub values_of : Request → List (Value Part)
values_of (R.Access path mode) = run (part_of path) ∷ signed mode ∷ []
values_of (R.Getattr path) = run (part_of path) ∷ []
values_of (R.Readlink path) = run (part_of path) ∷ []
values_of (R.Symlink target linkpath) = run (part_of target) ∷ run (part_of linkpath) ∷ []
values_of (R.Link old-path new-path) = run (part_of old-path) ∷ run (part_of new-path) ∷ []
values_of (R.Rename old-path new-path flags) = rename_values (part_of old-path) (part_of new-path) flags
values_of (R.Chmod path mode) = run (part_of path) ∷ number mode ∷ []
values_of (R.Chown path uid gid) = run (part_of path) ∷ number uid ∷ number gid ∷ []
values_of (R.Truncate path size handle) = run (part_of path) ∷ number size ∷ number handle ∷ []
values_of (R.Fsync path is-datasync handle) = run (part_of path) ∷ truth is-datasync ∷ number handle ∷ []
values_of (R.Open path flags) = run (part_of path) ∷ signed flags ∷ []
values_of (R.Mknod path mode dev) = run (part_of path) ∷ number mode ∷ number dev ∷ []
values_of (R.Create path mode) = run (part_of path) ∷ number mode ∷ []
values_of (R.Release path handle) = run (part_of path) ∷ number handle ∷ []
values_of (R.Unlink path) = run (part_of path) ∷ []
values_of (R.Read path buffer-size offset handle) = read_values (part_of path) buffer-size offset handle
values_of (R.Write path content offset handle) = write_values (part_of path) (part_of content) offset handle
values_of (R.Mkdir path mode) = run (part_of path) ∷ number mode ∷ []
values_of (R.Readdir path) = run (part_of path) ∷ []
values_of (R.Rmdir path) = run (part_of path) ∷ []
values_of (R.Statfs path) = run (part_of path) ∷ []
values_of (R.Utimens path atime mtime handle) = utimens_values (part_of path) atime mtime handle
values_of R.Getcreds = []

abbrev pub type_of : Request → ℕ
type_of q = request_number (method_of q)

-- document 01's answer for every case
abbrev pub answer_of : RequestAnswer → Answer
answer_of (A.Known i q k) = accepted known i (type_of q) (values_of q) k
answer_of (A.Unknown i t k) = accepted unknown i t [] k
answer_of (A.Refused n p) = refused n p

-- a known request whose last field ends at c
pub record Finished (i : ℕ) (q : Request) (c : Cursor) (a : Answer) : Type 0 where
  pub is : a ≡ answer (outcome_at c (message i (type_of q) (body known (values_of q))))

-- the answer for a message with id i and type t, whose fields stand at c
unfoldable pub answer_at : List ℕ → Cursor → ℕ → ℕ → Answer
answer_at m c i t = answer (from c (mapped (message i t) (body_at (plan request t))) m)
