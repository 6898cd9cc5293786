use Rattle.std.proofs.Common.{◌≤◌, arith}
use Rattle.sb_digest.proofs.Telling.{start-least, start-most}
use Rattle.sb_budget.proofs.offered_table.OfferedTable.for_peer.Goals as goal

pub new-requires-clause-least : goal.new-requires-clause-least
new-requires-clause-least c =
    let within : c.floor.result ≤ c.upto.result = omega (arith, c.floor.ensures.floor, c.upto.ensures.version, c.floor.ensures.table.is.floor) in
    omega (arith, start-least c.args.digest.now c.args.owner.now c.floor.result c.upto.result within, c.start_from-next.ensures.floor, c.floor.ensures.floor)

pub new-requires-clause-most : goal.new-requires-clause-most
new-requires-clause-most c =
    let within : c.floor.result ≤ c.upto.result = omega (arith, c.floor.ensures.floor, c.upto.ensures.version, c.floor.ensures.table.is.floor) in
    omega (arith, start-most c.args.digest.now c.args.owner.now c.floor.result c.upto.result within, c.start_from-next.ensures.floor, c.upto.ensures.version)
