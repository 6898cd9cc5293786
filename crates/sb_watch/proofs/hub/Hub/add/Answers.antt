use Rattle.std.proofs.Common.{◌<◌, ap, subst, sym, length, arith}
use Rattle.sb_watch.specs.declared.limits.TheConstants.{WATCHES_MOST}
use Rattle.sb_watch.specs.Records.{Watch, Hub}
use Rattle.sb_watch.proofs.Ids.{hub_of, hub_with, none_at_next}
use Rattle.sb_watch.proofs.hub.Hub.add.Goals as goal

pub invariant_of-self-2 : goal.invariant_of-self-2
invariant_of-self-2 c =
    let hub = hub_of c.self.inside.watches.items c.self.inside.next in
    let room : length hub.watches < WATCHES_MOST = subst (λ (h : Hub). length h.watches < WATCHES_MOST) (sym c.self.view_is) c.in_default.ensures.room.0 in
    rw c.in_ok-push.ensures.items (hub_with hub c.in_ok-new.field-0 (ap (λ (w : Watch). w.id) c.in_ok-new.ensures.found) room c.self.invariant)

pub returns-clause-unused : goal.returns-clause-unused
returns-clause-unused c =
    rw (← c.self.view_is) (none_at_next c.new-2.result 0 c.self.inside.next c.self.inside.watches.items (omega (arith, c.new-2.ensures)) c.self.invariant.ids)
