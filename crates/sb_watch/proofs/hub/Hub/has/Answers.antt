use Rattle.std.proofs.Common.{ap, ◌∙◌, position}
use Rattle.sb_watch.specs.Hubs.{is_id}
use Rattle.sb_watch.proofs.Places.{is_placed}
use Rattle.sb_watch.proofs.hub.Hub.has.Goals as goal

pub returns-clause-answer : goal.returns-clause-answer
returns-clause-answer c =
    rw (← c.self.view_is) (c.is_some.ensures ∙ is_placed (is_id c.args.id) c.self.inside.watches.items c.place_of.result (c.place_of.ensures ∙ ap (position (is_id c.args.id)) c.deref.ensures.value))
