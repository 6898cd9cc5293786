use Rattle.std.proofs.Common.{◌≡◌, ◌-◌}
use Rattle.sb_codec.specs.Fields.{times_field}
use Rattle.sb_codec.proofs.Loop.{with_front}
use Rattle.sb_codec.proofs.fields.Fields.times.Given as goal

abbrev pub invariant-loop : goal.invariant-loop
invariant-loop g l = with_front l.items.items (times_field g.T.ListItem.field (l.count - l.counter) l.self) ≡ times_field g.T.ListItem.field l.fn.count l.fn.self
