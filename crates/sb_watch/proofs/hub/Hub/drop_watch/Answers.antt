use Rattle.std.proofs.Common.{ap, ◌∙◌, sym, subst, position}
use Rattle.std.proofs.lemmas.Bool.{cond-true, cond-false}
use Rattle.sb_watch.specs.Hubs.{is_id, IsHub}
use Rattle.sb_watch.proofs.Places.{any_placed, none_placed}
use Rattle.sb_watch.proofs.Ids.{hub_of, hub_without, dropped_at, none_left_out}
use Rattle.sb_watch.proofs.hub.Hub.drop_watch.Goals as goal

pub invariant_of-self : goal.invariant_of-self
invariant_of-self c =
    let hub = hub_of c.self.inside.watches.items c.self.inside.next in
    let at = ap (position (is_id c.args.id)) (sym c.deref.ensures.value) ∙ sym c.place_of.ensures ∙ c.in-Some.is in
    rw c.remove-watch.ensures.items (subst IsHub (sym (dropped_at hub c.args.id c.in-Some.place c.remove-watch.result c.self.invariant at)) (hub_without hub c.args.id c.self.invariant))

pub returns-in-Some-clause-answer : goal.returns-in-Some-clause-answer
returns-in-Some-clause-answer c =
    let at = ap (position (is_id c.args.id)) (sym c.deref.ensures.value) ∙ sym c.place_of.ensures ∙ c.in-Some.is in
    rw (← c.self.view_is) (sym (cond-true _ _ _ (any_placed (is_id c.args.id) c.self.inside.watches.items c.in-Some.place c.remove-watch.result at)))

pub returns-in-Some-clause-left : goal.returns-in-Some-clause-left
returns-in-Some-clause-left c =
    let hub = hub_of c.self.inside.watches.items c.self.inside.next in
    let at = ap (position (is_id c.args.id)) (sym c.deref.ensures.value) ∙ sym c.place_of.ensures ∙ c.in-Some.is in
    rw (← c.self.view_is, c.remove-watch.ensures.items) (dropped_at hub c.args.id c.in-Some.place c.remove-watch.result c.self.invariant at)

pub returns-in-None-clause-answer : goal.returns-in-None-clause-answer
returns-in-None-clause-answer c =
    let at = ap (position (is_id c.args.id)) (sym c.deref.ensures.value) ∙ sym c.place_of.ensures ∙ c.in-None.is in
    rw (← c.self.view_is) (sym (cond-false _ _ _ (none_placed (is_id c.args.id) c.self.inside.watches.items at)))

pub returns-in-None-clause-left : goal.returns-in-None-clause-left
returns-in-None-clause-left c =
    let hub = hub_of c.self.inside.watches.items c.self.inside.next in
    let at = ap (position (is_id c.args.id)) (sym c.deref.ensures.value) ∙ sym c.place_of.ensures ∙ c.in-None.is in
    rw (← c.self.view_is) (none_left_out hub c.args.id at)
