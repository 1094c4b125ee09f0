-- The provider's front: what it does with any request and any lent buffer (document 01, "The front").
use Rattle.std.specs.Prelude.{ℕ, ◌+◌, Bool, cond, List, [], ◌∷◌, ◌++◌, leb, eqb, ℤ, negsuc, length, take, drop}
use Rattle.number.specs.BigEndian.{be, bytes_of}
use Rattle.number.specs.TwosComplement.{bits_of}
use Rattle.method.specs.Methods.{reply_offset}
use Rattle.layout.specs.Refusals.{truncated_header, oversize, buffer_too_small}
use Rattle.layout.specs.Table.{request, unknown_response}
use Rattle.layout.specs.Reading.{Shape, unknown, known, failure, success, Answer, refused as not-read, accepted, read}

-- id and type of a message of five bytes or more
abbrev pub id_of : List ℕ → ℕ
id_of m = be (take 4 m)

abbrev pub type_of : List ℕ → ℕ
type_of m = be (take 1 (drop 4 m))

-- five bytes: id and 80
unfoldable pub unknown_reply : ℕ → List ℕ
unknown_reply i = bytes_of 4 i ++ bytes_of 1 unknown_response

-- the result of an invalid request, -22
abbrev pub invalid : ℤ
invalid = negsuc 21

-- nine bytes: id, type plus 0x80, result -22
unfoldable pub invalid_reply : ℕ → ℕ → List ℕ
invalid_reply i t = bytes_of 4 i ++ (bytes_of 1 (t + reply_offset) ++ bytes_of 4 (bits_of 4 invalid))

-- what a request calls for: it is handed on, refused, or answered with these bytes
pub data Call : Type 0 where
  hand_on : Call
  refuse-with : ℕ → Call
  reply-with : List ℕ → Call

abbrev pub called : List ℕ → Answer → Call
called m (not-read n p) =
    cond (eqb n truncated_header) (refuse-with truncated_header)
    (cond (eqb n oversize) (reply-with (unknown_reply (id_of m))) (reply-with (invalid_reply (id_of m) (type_of m))))
called m (accepted unknown i t vs k) = reply-with (unknown_reply (id_of m))
called m (accepted known i t vs k) = hand_on
-- no request is read as one of these
called m (accepted failure i t vs k) = hand_on
called m (accepted success i t vs k) = hand_on

-- what the front tells: handed on, so many bytes stored, or refused with this number at this place
pub data Act : Type 0 where
  handed-on : Act
  stored : ℕ → Act
  refused : ℕ → ℕ → Act

-- and the lent buffer afterwards
pub record FrontOutcome : Type 0 where
  pub act : Act
  pub buffer : List ℕ

abbrev pub done : Act → List ℕ → FrontOutcome
done a out = record { act = a; buffer = out }

-- a refusal, at place 0, changes nothing; otherwise the bytes stand in front of what stays of the buffer
abbrev pub settle : Call → List ℕ → FrontOutcome
settle hand_on out = done handed-on out
settle (refuse-with n) out = done (refused n 0) out
settle (reply-with bs) out =
    cond (leb (length bs) (length out)) (done (stored (length bs)) (bs ++ drop (length bs) out)) (done (refused buffer_too_small 0) out)

unfoldable pub front : List ℕ → List ℕ → FrontOutcome
front m out = settle (called m (read request m)) out
