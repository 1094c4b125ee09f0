-- `text_claim::find_in_reply` meets its contract. Assumes nothing.
use Rattle.layout.specs.Table.{reply}
use Rattle.text_claim.proofs.Claims.{cut_fits, finds-text}
use Rattle.text_claim.proofs.find_in_reply.Goals as goal

pub slice_bounds-read_reply-end : goal.slice_bounds-read_reply-end
slice_bounds-read_reply-end c =
    let m = c.args.m.now in
    cut_fits reply m c.read_reply-answer.ensures (c.reply_place-place.ensures m)

pub returns : goal.returns
returns c =
    let m = c.args.m.now in
    finds-text reply m c.read_reply-answer.ensures (c.reply_place-place.ensures m)
    c.read_reply-cut.ensures (c.reply_place-start.ensures _) c.string_from.ensures
