-- The table of document 01, "Messages", its write line as document 02, Item 3, has it: the fields of each method's request and reply; and what
-- follows the header of a type.
use Rattle.std.specs.Prelude.{ℕ, ◌≤◌, Bool, true, false, cond, List, [], ◌∷◌, ◌++◌, eqb}
use Rattle.method.specs.declared.Method.{Method}
use Rattle.method.specs.declared.Method.TheVariants.{Access, Getattr, Readlink, Symlink, Link, Rename, Chmod, Chown, Truncate, Fsync, Open, Mknod, Create, Release, Unlink, Read, Write, Mkdir, Readdir, Rmdir, Statfs, Utimens, Getcreds}
use Rattle.method.specs.Methods.{request_number, reply_number, Found, found, unknown as no-method, of_request, of_reply}
use Rattle.layout.specs.Kinds.{Num, u8, i8, u32, i32, u64, bool, Kind, num, string, bytes, strings, Field, ◌is◌, kinds, atime, mtime, attributes, statistics}

infix 50 ◌gets◌
-- the fields of a reply
pub data Reply : Type 0 where
  -- behind a result that is not negative
  result : List Field → Reply
  -- the same, and the result is the length of the data
  counted : List Field → Reply
  -- with no result before them
  bare : List Field → Reply

pub record Row : Type 0 where
  pub request : List Field
  pub reply : Reply

abbrev ◌gets◌ : List Field → Reply → Row
◌gets◌ fs r = record { request = fs; reply = r }

abbrev path : Field
path = "path" is string

abbrev handle : Field
handle = "handle" is num u64

abbrev old_new : List Field
old_new = "old_path" is string ∷ "new_path" is string ∷ []

abbrev pub row : Method → Row
row Access = path ∷ "mode" is num i8 ∷ [] gets result []
row Getattr = path ∷ [] gets result attributes
row Readlink = path ∷ [] gets result ("resolved" is string ∷ [])
row Symlink = "target" is string ∷ "linkpath" is string ∷ [] gets result []
row Link = old_new gets result []
row Rename = old_new ++ ("flags" is num u8 ∷ []) gets result []
row Chmod = path ∷ "mode" is num u32 ∷ [] gets result []
row Chown = path ∷ "uid" is num u32 ∷ "gid" is num u32 ∷ [] gets result []
row Truncate = path ∷ "size" is num u64 ∷ handle ∷ [] gets result []
row Fsync = path ∷ "is_datasync" is num bool ∷ handle ∷ [] gets result []
row Open = path ∷ "flags" is num i32 ∷ [] gets result (handle ∷ [])
row Mknod = path ∷ "mode" is num u32 ∷ "dev" is num u64 ∷ [] gets result []
row Create = path ∷ "mode" is num u32 ∷ [] gets result (handle ∷ [])
row Release = path ∷ handle ∷ [] gets result []
row Unlink = path ∷ [] gets result []
row Read = path ∷ "buffer_size" is num u32 ∷ "offset" is num u64 ∷ handle ∷ [] gets counted ("data" is bytes ∷ [])
row Write = path ∷ "data" is bytes ∷ "offset" is num u64 ∷ handle ∷ [] gets result []
row Mkdir = path ∷ "mode" is num u32 ∷ [] gets result []
row Readdir = path ∷ [] gets result ("items" is strings ∷ [])
row Rmdir = path ∷ [] gets result []
row Statfs = path ∷ [] gets result statistics
row Utimens = path ∷ atime ++ mtime ++ (handle ∷ []) gets result []
row Getcreds = [] gets bare ("creds" is string ∷ [])

-- the type of the unknown response
abbrev pub unknown_response : ℕ
unknown_response = 0x80

pub data Side : Type 0 where
  request reply : Side

-- what follows the header of a message, by its type
pub data Plan : Type 0 where
  -- no message has this type
  unexpected : Plan
  -- nothing that is known
  header : Plan
  -- the fields of a request
  asked : List Kind → Plan
  -- the fields of a reply without a result
  plain : List Kind → Plan
  -- a result, and on success the fields; true: the result is the length of the data
  led : Bool → List Kind → Plan

abbrev pub request_plan : Found → Plan
request_plan (found m) = asked (kinds (row m).request)
request_plan no-method = header

abbrev pub plan_of : Reply → Plan
plan_of (result fs) = led false (kinds fs)
plan_of (counted fs) = led true (kinds fs)
plan_of (bare fs) = plain (kinds fs)

-- the types of the replies that have a result
abbrev pub HasResult : ℕ → Type 0
HasResult t = (reply_number Access ≤ t) × (t ≤ reply_number Utimens)

-- the types of the requests that have fields
abbrev pub HasFields : ℕ → Type 0
HasFields t = (request_number Access ≤ t) × (t ≤ request_number Utimens)

abbrev pub reply_plan : Found → Plan
reply_plan (found m) = plan_of (row m).reply
reply_plan no-method = unexpected

unfoldable pub plan : Side → ℕ → Plan
plan request t = request_plan (of_request t)
plan reply t = cond (eqb t unknown_response) header (reply_plan (of_reply t))
