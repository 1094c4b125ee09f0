-- What the cases of a reply and of its answer stand for, and the answer by what follows the header or the result.
use Rattle.std.specs.Prelude.{ℕ, ◌≡◌, cond, List, [], ◌∷◌, eqb, ℤ, pos}
use Rattle.method.specs.declared.Method.{Method}
use Rattle.method.specs.declared.Method.TheVariants.{Access, Getattr, Readlink, Symlink, Link, Rename, Chmod, Chown, Truncate, Fsync, Open, Mknod, Create, Release, Unlink, Read, Write, Mkdir, Readdir, Rmdir, Statfs, Utimens, Getcreds}
use Rattle.method.specs.Methods.{reply_number}
use Rattle.layout.specs.Refusals.{unexpected_type, data_length_mismatch}
use Rattle.layout.specs.Table.{unknown_response, reply, Plan, unexpected, header, asked, plain, led, plan}
use Rattle.layout.specs.Values.{Part, Value, number, signed, run, runs}
use Rattle.layout.specs.Reading.{Outcome, got, fail, Reader, mapped, unknown, failure, success, Body, body, behind_result, type_place, body_at, message, Answer, refused, accepted, answer, result_place}
use Rattle.layout.specs.Names.{first_name, names_at}
use Rattle.wire.specs.declared.Cursor.{Cursor}
use Rattle.field_reader.specs.Cursors.{outcome_at, from}
use Rattle.wire.specs.Runs.{part_of}
use Rattle.wire.specs.Values.{attributes_values, statistics_values}
use Rattle.reply_reader.specs.declared.Reply.{Reply}
use Rattle.reply_reader.specs.declared.Reply.TheVariants as R
use Rattle.reply_reader.specs.declared.ReplyAnswer.{ReplyAnswer}
use Rattle.reply_reader.specs.declared.ReplyAnswer.TheVariants as A

abbrev pub method_of : Reply → Method
method_of R.Access = Access
method_of (R.Getattr attributes) = Getattr
method_of (R.Readlink resolved) = Readlink
method_of R.Symlink = Symlink
method_of R.Link = Link
method_of R.Rename = Rename
method_of R.Chmod = Chmod
method_of R.Chown = Chown
method_of R.Truncate = Truncate
method_of R.Fsync = Fsync
method_of (R.Open handle) = Open
method_of R.Mknod = Mknod
method_of (R.Create handle) = Create
method_of R.Release = Release
method_of R.Unlink = Unlink
method_of (R.Read content) = Read
method_of R.Write = Write
method_of R.Mkdir = Mkdir
method_of (R.Readdir count) = Readdir
method_of R.Rmdir = Rmdir
method_of (R.Statfs statistics) = Statfs
method_of R.Utimens = Utimens

abbrev pub type_of : Reply → ℕ
type_of q = reply_number (method_of q)

-- the values of the fields behind the result, in the table's order; the names of a readdir reply are found in the message m
abbrev pub values_of : List ℕ → Reply → List (Value Part)
values_of m R.Access = []
values_of m (R.Getattr attributes) = attributes_values attributes
values_of m (R.Readlink resolved) = run (part_of resolved) ∷ []
values_of m R.Symlink = []
values_of m R.Link = []
values_of m R.Rename = []
values_of m R.Chmod = []
values_of m R.Chown = []
values_of m R.Truncate = []
values_of m R.Fsync = []
values_of m (R.Open handle) = number handle ∷ []
values_of m R.Mknod = []
values_of m (R.Create handle) = number handle ∷ []
values_of m R.Release = []
values_of m R.Unlink = []
values_of m (R.Read content) = run (part_of content) ∷ []
values_of m R.Write = []
values_of m R.Mkdir = []
values_of m (R.Readdir count) = runs (names_at count m first_name) ∷ []
values_of m R.Rmdir = []
values_of m (R.Statfs statistics) = statistics_values statistics
values_of m R.Utimens = []

-- document 01's answer for every case
abbrev pub answer_of : List ℕ → ReplyAnswer → Answer
answer_of m (A.Success i r q k) = accepted success i (type_of q) (signed r ∷ values_of m q) k
answer_of m (A.Failure i t r k) = accepted failure i t (signed r ∷ []) k
answer_of m (A.Credentials i x k) = accepted success i (reply_number Getcreds) (run (part_of x) ∷ []) k
answer_of m (A.UnknownResponse i k) = accepted unknown i unknown_response [] k
answer_of m (A.Refused n p) = refused n p

-- the answer for a message with id i and type t, whose fields, the result among them, stand at c
unfoldable pub answer_at : List ℕ → Cursor → ℕ → ℕ → Answer
answer_at m c i t = answer (from c (mapped (message i t) (body_at (plan reply t))) m)

-- what follows a result; of a type without one, which is never asked for, some refusal
abbrev pub behind : Plan → ℤ → Reader Body
behind unexpected z m p = fail unexpected_type type_place
behind header z m p = fail unexpected_type type_place
behind (asked ks) z m p = fail unexpected_type type_place
behind (plain ks) z m p = fail unexpected_type type_place
behind (led c ks) z m p = behind_result c ks z m p

-- the answer for a message with id i, type t and result z, whose other fields stand at c
unfoldable pub success_at : List ℕ → Cursor → ℕ → ℕ → ℤ → Answer
success_at m c i t z = answer (from c (mapped (message i t) (behind (plan reply t) z)) m)

-- a success with the result n whose last field ends at c
pub record Finished (m : List ℕ) (i n : ℕ) (q : Reply) (c : Cursor) (a : Answer) : Type 0 where
  pub is : a ≡ answer (outcome_at c (message i (type_of q) (body success (signed (pos n) ∷ values_of m q))))

-- the cursor d behind data of so many bytes, and e after the result n was compared
pub record Compared (d : Cursor) (size n : ℕ) (e : Cursor) : Type 0 where
  pub is : (b : Body) → outcome_at e b ≡ from d (λ m p. cond (eqb n size) (got b p) (fail data_length_mismatch result_place)) []
