-- A success has no creds: only the getcreds reply, which has no result, has them. Assumes nothing.
use mathlib.Core.Path.{◌≡◌, refl}
use mathlib.Core.List.{List, ◌∷◌}
use Prim.Native.Nat.{ℕ}
use lib.IntN.{ℤ}
use Rattle.method.specs.Methods.{of_reply}
use Rattle.layout.specs.Table.{reply}
use Rattle.layout.specs.Values.{signed}
use Rattle.layout.specs.Parts.{nothing, named, fields_of}
use Rattle.reply_reader.specs.declared.Reply.{Reply}
use Rattle.reply_reader.specs.declared.Reply.TheVariants as R
use Rattle.reply_reader.specs.Answers.{type_of, values_of}

pub success_without_creds : (m : List ℕ) (z : ℤ) (q : Reply) → named "creds" (fields_of reply (type_of q)) (signed z ∷ values_of m q) ≡ nothing
unfolding fields_of of_reply
success_without_creds m z R.Access = refl
success_without_creds m z (R.Getattr attributes) = refl
success_without_creds m z (R.Readlink resolved) = refl
success_without_creds m z R.Symlink = refl
success_without_creds m z R.Link = refl
success_without_creds m z R.Rename = refl
success_without_creds m z R.Chmod = refl
success_without_creds m z R.Chown = refl
success_without_creds m z R.Truncate = refl
success_without_creds m z R.Fsync = refl
success_without_creds m z (R.Open handle) = refl
success_without_creds m z R.Mknod = refl
success_without_creds m z (R.Create handle) = refl
success_without_creds m z R.Release = refl
success_without_creds m z R.Unlink = refl
success_without_creds m z (R.Read content) = refl
success_without_creds m z R.Write = refl
success_without_creds m z R.Mkdir = refl
success_without_creds m z (R.Readdir count) = refl
success_without_creds m z R.Rmdir = refl
success_without_creds m z (R.Statfs statistics) = refl
success_without_creds m z R.Utimens = refl
