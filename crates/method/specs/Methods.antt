-- The methods and their numbers, as document 01's table has them.
use Rattle.std.specs.Prelude.{ℕ, ◌+◌, cond, List, [], ◌∷◌, eqb, Option, None, Some}
use Rattle.method.specs.declared.Method.{Method}
use Rattle.method.specs.declared.Method.TheVariants.{Access, Getattr, Readlink, Symlink, Link, Rename, Chmod, Chown, Truncate, Fsync, Open, Mknod, Create, Release, Unlink, Read, Write, Mkdir, Readdir, Rmdir, Statfs, Utimens, Getcreds}

-- every method, in document 01's order
abbrev pub methods : List Method
methods =
    Access
    ∷ Getattr
    ∷ Readlink
    ∷ Symlink
    ∷ Link
    ∷ Rename
    ∷ Chmod
    ∷ Chown
    ∷ Truncate
    ∷ Fsync
    ∷ Open
    ∷ Mknod
    ∷ Create
    ∷ Release
    ∷ Unlink
    ∷ Read
    ∷ Write
    ∷ Mkdir
    ∷ Readdir
    ∷ Rmdir
    ∷ Statfs
    ∷ Utimens
    ∷ Getcreds
    ∷ []

-- the table: the request number of each method
abbrev pub request_number : Method → ℕ
request_number Access = 0x01
request_number Getattr = 0x02
request_number Readlink = 0x03
request_number Symlink = 0x04
request_number Link = 0x05
request_number Rename = 0x06
request_number Chmod = 0x07
request_number Chown = 0x08
request_number Truncate = 0x09
request_number Fsync = 0x0a
request_number Open = 0x0b
request_number Mknod = 0x0c
request_number Create = 0x0d
request_number Release = 0x0e
request_number Unlink = 0x0f
request_number Read = 0x10
request_number Write = 0x11
request_number Mkdir = 0x12
request_number Readdir = 0x13
request_number Rmdir = 0x14
request_number Statfs = 0x15
request_number Utimens = 0x16
request_number Getcreds = 0x17

-- so much is a reply number above its request number
abbrev pub reply_offset : ℕ
reply_offset = 0x80

abbrev pub reply_number : Method → ℕ
reply_number m = request_number m + reply_offset

-- what looking a number up finds
pub data Found : Type 0 where
  found : Method → Found
  unknown : Found

-- the first of these methods whose number under f is n
abbrev pub lookup : (Method → ℕ) → List Method → ℕ → Found
lookup f [] n = unknown
lookup f (m ∷ ms) n = cond (eqb n (f m)) (found m) (lookup f ms n)

unfoldable pub of_request : ℕ → Found
of_request n = lookup request_number methods n

unfoldable pub of_reply : ℕ → Found
of_reply n = lookup reply_number methods n

-- what an answer says
abbrev pub found_method : Option Method → Found
found_method (Some m) = found m
found_method None = unknown
