-- From the fields that were read to the answer. Assumes nothing.
use mathlib.Core.Path.{◌≡◌, ap, ◌∙◌}
use mathlib.Core.List.{List, [], map, reverse}
use Prim.Native.Nat.{ℕ}
use Rattle.method.specs.Methods.{methods, request_number}
use Rattle.method.proofs.Table.{NoneOf, request-unknown}
use Rattle.layout.specs.Kinds.{Kind}
use Rattle.layout.specs.Table.{request, asked, plan}
use Rattle.layout.specs.Reading.{unknown, known, body, message, mapped, fields_at, Answer, accepted, answer, behind_header}
use Rattle.wire.specs.declared.Cursor.{Cursor}
use Rattle.field_reader.specs.Cursors.{Reads}
use Rattle.field_reader.proofs.Cursors.{map-ended, fields-ended}
use Rattle.request_reader.specs.declared.Request.{Request}
use Rattle.request_reader.specs.Answers.{type_of, values_of, Finished, answer_at}

-- the fields of a method were read: the answer is the layout's
pub answered : {m : List ℕ} {c e : Cursor} {i t : ℕ} {q : Request} {a : Answer} {ks : List Kind}
    → Finished i q e a → type_of q ≡ t → plan request t ≡ asked ks → Reads m c ks (values_of q) e → a ≡ answer_at m c i t
unfolding answer_at
answered {i = i} {t = t} {q = q} {ks = ks} f n p r =
    rw p (f.is ∙ rw n (ap answer (map-ended (message i t) (mapped (body known) (fields_at ks)) (map-ended (body known) (fields_at ks) (fields-ended r))).is))

-- a type that is no method's
pub not_known : (m : List ℕ) (i t : ℕ) → NoneOf (reverse (map request_number methods)) t → accepted unknown i t [] 5 ≡ behind_header request i t m
unfolding plan
not_known m i t n = rw (request-unknown t n)
