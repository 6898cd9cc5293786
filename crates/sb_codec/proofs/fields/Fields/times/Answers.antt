use Rattle.std.proofs.lemmas.Result.{err_from_is_err_and}
use Rattle.sb_codec.specs.Fields.{times_field}
use Rattle.sb_codec.proofs.Loop.{starts, goes_on, ends, is_done}
use Rattle.sb_codec.proofs.fields.Fields.times.Goals as goal

pub loop-init : goal.loop-init
loop-init g c = rw c.in_ok-items.ensures.items (starts g.T.ListItem.field c.args.count c.args.self.now)

pub returns-in_err-read : goal.returns-in_err-read
returns-in_err-read g c =
    let p = err_from_is_err_and c.from_residual-in_err-read.result c.from_residual-in_err-read.ensures.1 in
    rw (p.1, p.2) (ends g.T.ListItem.field c.in_err-read.field-0.0 c.loop.items.items c.args.count c.loop.counter c.loop.self (times_field g.T.ListItem.field c.args.count c.args.self.now) c.loop-test.true c.in_err-read.ensures c.loop.invariant)

pub loop-preserved : goal.loop-preserved
loop-preserved g c = rw c.in_ok-push.ensures.items (goes_on g.T.ListItem.field c.loop.items.items c.args.count c.loop.counter c.loop.self c.read.new.fields c.in_ok-read.field-0 (times_field g.T.ListItem.field c.args.count c.args.self.now) c.loop-test.true c.in_ok-read.ensures c.loop.invariant)

pub returns : goal.returns
returns g c = is_done g.T.ListItem.field c.loop.items.items c.args.count c.loop.counter c.loop.self (times_field g.T.ListItem.field c.args.count c.args.self.now) c.loop-test.false c.loop.invariant
