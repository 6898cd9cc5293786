use Rattle.std.proofs.Common.{◌≡◌, ◌+◌, rules, List, [], ◌∷◌, ◌++◌, take, Result, sym, ap, subst, ◌∙◌}
use Rattle.std.proofs.lemmas.List.{take_more}
use Rattle.sb_types.specs.declared.fault.Fault.{Fault}
use Rattle.sb_world.specs.declared.event.Event.{Event}
use Rattle.sb_world.specs.declared.event.Answer.{Answer}
use Rattle.sb_world.specs.Steps.{Passes}
use Rattle.sb_world.proofs.Reaching.{passes_more}
use Rattle.sb_world.proofs.world.World.run_each.Goals as goal

pub loop-event-preserved : goal.loop-event-preserved
loop-event-preserved g c =
    let old = c.args.self.now in
    let new = c.step_once-answer.new.self in
    let index = c.loop-event.event-index in
    let event = c.event-item.result in
    let answer = c.step_once-answer.result in
    let step = c.step_once-answer.ensures.step in
    let more = passes_more old c.loop-event.self new (take index c.args.events.now) c.loop-event.answers.items event answer step.0 c.loop-event.invariant.passes step.1 in
    let events : take index c.args.events.now ++ event ∷ [] ≡ take (index + 1) c.args.events.now =
    ap (λ (e : Event). take index c.args.events.now ++ e ∷ []) c.event-item.is ∙ sym (take_more c.args.events.now index event c.loop-event-test.true) in
    record {
      passes = subst (λ (es : List Event). Passes old es c.push_reserved.new.self.items new) events
          (subst (λ (rs : List (Result Answer Fault)). Passes old (take index c.args.events.now ++ event ∷ []) rs new) (sym c.push_reserved.ensures.items) more);
      count = search rules;
      room = search rules;
    }
