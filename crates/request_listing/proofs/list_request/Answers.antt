-- `request_listing::list_request` meets its contract. Assumes nothing.
use Rattle.request_listing.proofs.Rendering.{put-listed, enough}
use Rattle.request_listing.proofs.list_request.Goals as goal

pub returns-clause-writes : goal.returns-clause-writes
returns-clause-writes c = put-listed c.args.m.now c.render-len.ensures c.put_all-place.ensures c.finish.ensures

pub returns-clause-result_value : goal.returns-clause-result_value
returns-clause-result_value c =
    enough c.args.m.now c.args.out.now c.type_inv.m (put-listed c.args.m.now c.render-len.ensures c.put_all-place.ensures c.finish.ensures)
