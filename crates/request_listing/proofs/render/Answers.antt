-- `request_listing::render` meets its contract. Assumes nothing.
use borrow.Author.Rules.{rules}
use Rattle.request_listing.proofs.Rendering.{rendered}
use Rattle.request_listing.proofs.render.Goals as goal

pub returns : goal.returns
returns c =
    let q = c.read_request-answer in
    rendered c.args.m.now q.result c.type_inv.m (search rules) q.ensures c.put_answer-end.ensures
