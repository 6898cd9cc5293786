use Rattle.std.proofs.Common.{ap, ◌∙◌, sym, subst, position, Ok}
use Rattle.sb_watch.specs.Watches.{answer_of, watch_after_answer}
use Rattle.sb_watch.specs.Hubs.{is_id, IsHub}
use Rattle.sb_watch.proofs.Ids.{hub_of, hub_answered, taken_at, none_taken, answer_found, answer_of_none}
use Rattle.sb_watch.proofs.hub.Hub.take.Goals as goal

pub invariant_of-self : goal.invariant_of-self
invariant_of-self c =
    let hub = hub_of c.self.inside.watches.items c.self.inside.next in
    let at = ap (position (is_id c.args.id)) (sym c.deref.ensures.value) ∙ sym c.place_of.ensures ∙ c.in-Some.is in
    subst IsHub (sym (taken_at hub c.args.id c.in-Some.place c.index_mut.result.now c.take.new.self c.self.invariant at (c.take.ensures.left ∙ ap watch_after_answer c.index_mut.ensures.value))) (hub_answered hub c.args.id c.self.invariant)

pub returns-in-Some-clause-answer : goal.returns-in-Some-clause-answer
returns-in-Some-clause-answer c =
    let hub = hub_of c.self.inside.watches.items c.self.inside.next in
    let at = ap (position (is_id c.args.id)) (sym c.deref.ensures.value) ∙ sym c.place_of.ensures ∙ c.in-Some.is in
    rw (← c.self.view_is) (ap Ok (c.take.ensures.answer ∙ ap answer_of c.index_mut.ensures.value) ∙ sym (answer_found hub c.args.id c.in-Some.place c.index_mut.result.now at))

pub returns-in-Some-clause-left : goal.returns-in-Some-clause-left
returns-in-Some-clause-left c =
    let hub = hub_of c.self.inside.watches.items c.self.inside.next in
    let at = ap (position (is_id c.args.id)) (sym c.deref.ensures.value) ∙ sym c.place_of.ensures ∙ c.in-Some.is in
    rw (← c.self.view_is) (taken_at hub c.args.id c.in-Some.place c.index_mut.result.now c.take.new.self c.self.invariant at (c.take.ensures.left ∙ ap watch_after_answer c.index_mut.ensures.value))

pub returns-in-None-clause-answer : goal.returns-in-None-clause-answer
returns-in-None-clause-answer c =
    let hub = hub_of c.self.inside.watches.items c.self.inside.next in
    let at = ap (position (is_id c.args.id)) (sym c.deref.ensures.value) ∙ sym c.place_of.ensures ∙ c.in-None.is in
    rw (← c.self.view_is) (sym (answer_of_none hub c.args.id at))

pub returns-in-None-clause-left : goal.returns-in-None-clause-left
returns-in-None-clause-left c =
    let hub = hub_of c.self.inside.watches.items c.self.inside.next in
    let at = ap (position (is_id c.args.id)) (sym c.deref.ensures.value) ∙ sym c.place_of.ensures ∙ c.in-None.is in
    rw (← c.self.view_is) (none_taken hub c.args.id at)
