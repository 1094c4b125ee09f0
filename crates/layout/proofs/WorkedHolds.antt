-- The worked messages come out as document 01 says: one claim over the table, closed by computation. Assumes nothing.
use mathlib.Core.Path.{◌≡◌, refl}
use Rattle.number.specs.BigEndian.{be, bytes_of, number_at}
use Rattle.number.specs.TwosComplement.{signed_of, bits_of}
use Rattle.text.specs.Utf8.{character, well_formed_end, well_formed}
use Rattle.method.specs.Methods.{of_request, of_reply}
use Rattle.layout.specs.Table.{plan}
use Rattle.layout.specs.Reading.{num_at, run_at, message_at, read}
use Rattle.layout.specs.Front.{unknown_reply, invalid_reply, front}
use Rattle.layout.specs.Worked.{examples, outcomes, expected}

pub worked : outcomes examples ≡ expected examples
unfolding be bytes_of number_at signed_of bits_of character well_formed_end well_formed of_request of_reply plan num_at run_at message_at read unknown_reply invalid_reply front
worked = refl
