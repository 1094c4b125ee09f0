-- The names of the methods, as listings show them (document 01's table).
use Rattle.std.specs.Prelude.{◌-◌, ◌++◌, length, replicate}
use Prim.Native.String.{String}
use Rattle.text.specs.Ascii.{ascii}
use Rattle.method.specs.declared.Method.{Method}
use Rattle.method.specs.declared.Method.TheVariants.{Access, Getattr, Readlink, Symlink, Link, Rename, Chmod, Chown, Truncate, Fsync, Open, Mknod, Create, Release, Unlink, Read, Write, Mkdir, Readdir, Rmdir, Statfs, Utimens, Getcreds}
use Rattle.method_names.specs.declared.Name.{Name}

abbrev pub name_of : Method → String
name_of Access = "access"
name_of Getattr = "getattr"
name_of Readlink = "readlink"
name_of Symlink = "symlink"
name_of Link = "link"
name_of Rename = "rename"
name_of Chmod = "chmod"
name_of Chown = "chown"
name_of Truncate = "truncate"
name_of Fsync = "fsync"
name_of Open = "open"
name_of Mknod = "mknod"
name_of Create = "create"
name_of Release = "release"
name_of Unlink = "unlink"
name_of Read = "read"
name_of Write = "write"
name_of Mkdir = "mkdir"
name_of Readdir = "readdir"
name_of Rmdir = "rmdir"
name_of Statfs = "statfs"
name_of Utimens = "utimens"
name_of Getcreds = "getcreds"

-- a method's row of the table in the code: its name, filled up to 8 bytes with spaces, and its length
abbrev pub row_of : Method → Name
row_of x = let name = ascii (name_of x) in (name ++ replicate (8 - length name) 32, length name)
