-- `data_claim::read_data` meets its contract. Assumes nothing.
use Prim.Native.Nat.{ℕ}
use mathlib.Core.Path.{◌≡◌, sym, ap, ◌∙◌}
use mathlib.Core.List.{List}
use lib.IntN.{ℤ, pos}
use lib.ListN.{length}
use Rattle.layout.specs.Table.{reply}
use Rattle.layout.specs.Parts.{part_named}
use Rattle.wire.specs.Runs.{shown}
use Rattle.reply_reader.specs.declared.ReplyAnswer.{ReplyAnswer}
use Rattle.reply_reader.specs.Answers.{answer_of}
use Rattle.data_claim.proofs.Claims.{carries, its-data}
use Rattle.data_claim.proofs.read_data.Goals as goal

pub returns : goal.returns
returns c =
    let m = c.args.message.now in
    let one = c.read_reply-answer.ensures in
    let size = ap length c.data-data.ensures.bytes in
    record {
      reads = one;
      carries = size;
      claims =
          λ {i} {k} {z} {x} e.
          carries m (sym one ∙ ap (answer_of m) e)
          ∙ ap (λ (s : List ℕ). pos (length s)) (ap (shown m) (sym (its-data m i k z x)) ∙ ap (λ (a : ReplyAnswer). shown m (part_named reply "data" (answer_of m a))) (sym e))
          ∙ ap pos (sym size);
    }
