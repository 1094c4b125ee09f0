-- The values of a request or a reply that a caller holds fit their fields: each number is of its type. Assumes nothing.
use Prim.Native.Nat.{ℕ, ◌<◌, ◌^◌}
use mathlib.Core.Path.{refl}
use mathlib.Core.Bool.{Bool}
use mathlib.Core.List.{List, ◌∷◌, ◌++◌}
use lib.IntN.{ℤ}
use lib.Signed.{mag}
use mir.Syntax.{w8, w32}
use mir.Val.{Val, hbits}
use denote.Laws.{Is}
use denote.Enum.Laws as enum
use denote.Struct.Laws as struct
use Rattle.number.proofs.TwosComplement.{machine-fits}
use Rattle.layout.specs.Kinds.{u8 as k-u8, i8 as k-i8, u32 as k-u32, i32 as k-i32, u64 as k-u64, bool as k-bool, Kind, num, string, bytes, time_kinds, kinds, attributes as attributes_fields, statistics as statistics_fields}
use Rattle.method.specs.Methods.{of_reply}
use Rattle.layout.specs.Table.{row, reply, plan}
use Rattle.layout.specs.Values.{Value, number, signed, truth, run, AllFit, none, more, fits-num, fits-u8, fits-u32, fits-u64, fits-i8, fits-i32, fits_bool, fits-string, fits-bytes, fits-strings}
use Rattle.layout.specs.Reading.{success}
use Rattle.layout.specs.Pieces.{kinds_of}
use Rattle.wire.specs.Values.{time_values, attributes_values, statistics_values}
use Rattle.wire.specs.declared.Timestamp.{Timestamp}
use Rattle.wire.specs.declared.Attributes.{Attributes}
use Rattle.wire.specs.declared.Statistics.{Statistics}
use Rattle.wire.specs.contracts.Timestamp as time
use Rattle.wire.proofs.Timestamp.TheLaws as time'
use Rattle.wire.specs.contracts.Attributes as attributes
use Rattle.wire.proofs.Attributes.TheLaws as attributes'
use Rattle.wire.specs.contracts.Statistics as statistics
use Rattle.wire.proofs.Statistics.TheLaws as statistics'
use Rattle.request_reader.specs.declared.Request.{Request}
use Rattle.request_reader.specs.declared.Request.TheVariants as Q
use Rattle.request_reader.specs.Answers.{method_of}
use Rattle.request_reader.specs.contracts.Request as T
use Rattle.request_reader.proofs.Request.TheLaws as T'
use Rattle.reply_reader.specs.declared.Reply.{Reply}
use Rattle.reply_reader.specs.declared.Reply.TheVariants as R
use Rattle.reply_reader.specs.Answers.{type_of as reply_type}
use Rattle.reply_reader.specs.contracts.Reply as U
use Rattle.reply_reader.proofs.Reply.TheLaws as U'
use Rattle.request_rewriter.specs.Rewriting.{values_in as request_values}
use Rattle.reply_rewriter.specs.Rewriting.{values_in as reply_values}

-- ---- one field more

module _ {ks : List Kind} {vs : List (Value (List ℕ))} (rest : AllFit ks vs) where
  text : {s : List ℕ} → AllFit (string ∷ ks) (run s ∷ vs)
  text {s} = more (fits-string s) rest

  any : {s : List ℕ} → AllFit (bytes ∷ ks) (run s ∷ vs)
  any {s} = more (fits-bytes s) rest

  u8 : {n : ℕ} → n < 2 ^ 8 → AllFit (num k-u8 ∷ ks) (number n ∷ vs)
  u8 h = more (fits-num (fits-u8 h)) rest

  u32 : {n : ℕ} → n < 2 ^ 32 → AllFit (num k-u32 ∷ ks) (number n ∷ vs)
  u32 h = more (fits-num (fits-u32 h)) rest

  u64 : {n : ℕ} → n < 2 ^ 64 → AllFit (num k-u64 ∷ ks) (number n ∷ vs)
  u64 h = more (fits-num (fits-u64 h)) rest

  i8 : {z : ℤ} → mag z < 2 ^ hbits w8 → AllFit (num k-i8 ∷ ks) (signed z ∷ vs)
  i8 {z} h = more (fits-num (fits-i8 (machine-fits w8 1 refl z (record { sfits = h })))) rest

  i32 : {z : ℤ} → mag z < 2 ^ hbits w32 → AllFit (num k-i32 ∷ ks) (signed z ∷ vs)
  i32 {z} h = more (fits-num (fits-i32 (machine-fits w32 4 refl z (record { sfits = h })))) rest

  bool : {b : Bool} → AllFit (num k-bool ∷ ks) (truth b ∷ vs)
  bool {b} = more (fits-num (fits_bool b)) rest

  timestamp : (t : Timestamp) {ws : List Val} → Is time.the_row t ws → AllFit (time_kinds ++ ks) (time_values t vs)
  timestamp t {ws} h =
      let o = struct.owed time.the_type time'.the_laws t ws h in
      more (fits-num (fits-u64 o.0.1)) (more (fits-num (fits-u32 o.1.0.1)) rest)

-- ---- a request

pub request-fits : (s : List ℕ) (q : Request) (ws : List Val) → Is T.the_row q ws → AllFit (kinds (row (method_of q)).request) (request_values s q)
request-fits s (Q.Access path mode) ws h = let o = enum.owed T.the_type T'.the_laws (Q.Access path mode) ws h in text (i8 none o.1.0.1)
request-fits s (Q.Getattr path) ws h = text none
request-fits s (Q.Readlink path) ws h = text none
request-fits s (Q.Symlink target linkpath) ws h = text (text none)
request-fits s (Q.Link old-path new-path) ws h = text (text none)
request-fits s (Q.Rename old-path new-path flags) ws h = let o = enum.owed T.the_type T'.the_laws (Q.Rename old-path new-path flags) ws h in text (text (u8 none o.1.1.0.1))
request-fits s (Q.Chmod path mode) ws h = let o = enum.owed T.the_type T'.the_laws (Q.Chmod path mode) ws h in text (u32 none o.1.0.1)
request-fits s (Q.Chown path uid gid) ws h = let o = enum.owed T.the_type T'.the_laws (Q.Chown path uid gid) ws h in text (u32 (u32 none o.1.1.0.1) o.1.0.1)
request-fits s (Q.Truncate path size handle) ws h = let o = enum.owed T.the_type T'.the_laws (Q.Truncate path size handle) ws h in text (u64 (u64 none o.1.1.0.1) o.1.0.1)
request-fits s (Q.Fsync path is-datasync handle) ws h = let o = enum.owed T.the_type T'.the_laws (Q.Fsync path is-datasync handle) ws h in text (bool (u64 none o.1.1.0.1))
request-fits s (Q.Open path flags) ws h = let o = enum.owed T.the_type T'.the_laws (Q.Open path flags) ws h in text (i32 none o.1.0.1)
request-fits s (Q.Mknod path mode dev) ws h = let o = enum.owed T.the_type T'.the_laws (Q.Mknod path mode dev) ws h in text (u32 (u64 none o.1.1.0.1) o.1.0.1)
request-fits s (Q.Create path mode) ws h = let o = enum.owed T.the_type T'.the_laws (Q.Create path mode) ws h in text (u32 none o.1.0.1)
request-fits s (Q.Release path handle) ws h = let o = enum.owed T.the_type T'.the_laws (Q.Release path handle) ws h in text (u64 none o.1.0.1)
request-fits s (Q.Unlink path) ws h = text none
request-fits s (Q.Read path buffer-size offset handle) ws h = let o = enum.owed T.the_type T'.the_laws (Q.Read path buffer-size offset handle) ws h in text (u32 (u64 (u64 none o.1.1.1.0.1) o.1.1.0.1) o.1.0.1)
request-fits s (Q.Write path content offset handle) ws h = let o = enum.owed T.the_type T'.the_laws (Q.Write path content offset handle) ws h in text (any (u64 (u64 none o.1.1.1.0.1) o.1.1.0.1))
request-fits s (Q.Mkdir path mode) ws h = let o = enum.owed T.the_type T'.the_laws (Q.Mkdir path mode) ws h in text (u32 none o.1.0.1)
request-fits s (Q.Readdir path) ws h = text none
request-fits s (Q.Rmdir path) ws h = text none
request-fits s (Q.Statfs path) ws h = text none
request-fits s (Q.Utimens path atime mtime handle) ws h = let o = enum.owed T.the_type T'.the_laws (Q.Utimens path atime mtime handle) ws h in text (timestamp (timestamp (u64 none o.1.1.1.0.1) mtime o.1.1.0) atime o.1.0)
request-fits s Q.Getcreds ws h = none

-- ---- a reply

attributes-fit : (a : Attributes) {ws : List Val} → Is attributes.the_row a ws → AllFit (kinds attributes_fields) (attributes_values a)
attributes-fit a {ws} h =
    let o = struct.owed attributes.the_type attributes'.the_laws a ws h in
    let times = o.1.1.1.1.1.1.1.1 in
    u64 (u64 (u32 (u32 (u32 (u64 (u64 (u64 (timestamp (timestamp (timestamp none a.ctime times.1.1.0) a.mtime times.1.0) a.atime times.0)
    o.1.1.1.1.1.1.1.0.1) o.1.1.1.1.1.1.0.1) o.1.1.1.1.1.0.1) o.1.1.1.1.0.1) o.1.1.1.0.1) o.1.1.0.1) o.1.0.1) o.0.1

statistics-fit : (b : Statistics) {ws : List Val} → Is statistics.the_row b ws → AllFit (kinds statistics_fields) (statistics_values b)
statistics-fit b {ws} h =
    let o = struct.owed statistics.the_type statistics'.the_laws b ws h in
    u64 (u64 (u64 (u64 (u64 (u64 (u64 (u64 none
    o.1.1.1.1.1.1.1.0.1) o.1.1.1.1.1.1.0.1) o.1.1.1.1.1.0.1) o.1.1.1.1.0.1) o.1.1.1.0.1) o.1.1.0.1) o.1.0.1) o.0.1

-- the result, and the fields behind it
pub reply-fits : (m : List ℕ) (q : Reply) (ws : List Val) → Is U.the_row q ws → {z : ℤ} → mag z < 2 ^ hbits w32
    → AllFit (kinds_of (plan reply (reply_type q)) success) (reply_values m z q)
unfolding plan of_reply
reply-fits m R.Access ws h g = i32 none g
reply-fits m (R.Getattr a) ws h g = let o = enum.owed U.the_type U'.the_laws (R.Getattr a) ws h in i32 (attributes-fit a o.0) g
reply-fits m (R.Readlink resolved) ws h g = i32 (text none) g
reply-fits m R.Symlink ws h g = i32 none g
reply-fits m R.Link ws h g = i32 none g
reply-fits m R.Rename ws h g = i32 none g
reply-fits m R.Chmod ws h g = i32 none g
reply-fits m R.Chown ws h g = i32 none g
reply-fits m R.Truncate ws h g = i32 none g
reply-fits m R.Fsync ws h g = i32 none g
reply-fits m (R.Open handle) ws h g = let o = enum.owed U.the_type U'.the_laws (R.Open handle) ws h in i32 (u64 none o.0.1) g
reply-fits m R.Mknod ws h g = i32 none g
reply-fits m (R.Create handle) ws h g = let o = enum.owed U.the_type U'.the_laws (R.Create handle) ws h in i32 (u64 none o.0.1) g
reply-fits m R.Release ws h g = i32 none g
reply-fits m R.Unlink ws h g = i32 none g
reply-fits m (R.Read content) ws h g = i32 (any none) g
reply-fits m R.Write ws h g = i32 none g
reply-fits m R.Mkdir ws h g = i32 none g
reply-fits m (R.Readdir count) ws h g = i32 (more (fits-strings _) none) g
reply-fits m R.Rmdir ws h g = i32 none g
reply-fits m (R.Statfs b) ws h g = let o = enum.owed U.the_type U'.the_laws (R.Statfs b) ws h in i32 (statistics-fit b o.0) g
reply-fits m R.Utimens ws h g = i32 none g
