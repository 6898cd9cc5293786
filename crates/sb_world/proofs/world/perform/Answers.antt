use Rattle.std.proofs.Common.{◌≡◌, ℕ, Bool, cond, List, [], refl, sym, ap, subst, ◌∙◌}
use Rattle.std.proofs.lemmas.List.{append-nil}
use Rattle.sb_world.specs.declared.event.Event.{Event}
use Rattle.sb_world.specs.Connections.{of_others}
use Rattle.sb_world.specs.Turns.{rests}
use Rattle.sb_world.specs.Events.{Acts}
use Rattle.sb_world.proofs.world.perform.Goals as goal

pub returns-in-Commit : goal.returns-in-Commit
returns-in-Commit g c = (
  c.commit.ensures.0,
  [],
  subst (λ (e : Event). Acts e c.args.place.now c.args.connections.now.items c.args.sent.now.items (record { answer = c.commit.result; effect = c.commit.ensures.0; place = c.commit.new.self; frames = [] }) c.args.connections.now.items) (sym c.in-Commit.is) (c.commit.ensures.1, refl),
  sym (append-nil c.args.sent.now.items),
)

pub returns-in-Purge : goal.returns-in-Purge
returns-in-Purge g c =
    let conns = c.args.connections.now.items in
    let me = c.args.place.now.me in
    let new = c.drop_those_of_down-in-Purge.new.connections.items in
    let left : new ≡ cond c.purge-answer.new.self.is_up conns (of_others me conns) =
    c.drop_those_of_down-in-Purge.ensures ∙ ap (λ (up : Bool). cond up conns (of_others c.name-me-in-Purge.result conns)) c.is_up-in-Purge.ensures
    ∙ ap (λ (name : List ℕ). cond c.purge-answer.new.self.is_up conns (of_others name conns)) c.name-me-in-Purge.ensures in (
      rests,
      [],
      subst (λ (e : Event). Acts e c.args.place.now conns c.args.sent.now.items (record { answer = c.purge-answer.result; effect = rests; place = c.purge-answer.new.self; frames = [] }) new) (sym c.in-Purge.is) (c.purge-answer.ensures, left),
      sym (append-nil c.args.sent.now.items),
    )

pub returns-in-Offer : goal.returns-in-Offer
returns-in-Offer g c = (
  rests,
  c.send.ensures.0,
  subst (λ (e : Event). Acts e c.args.place.now c.args.connections.now.items c.args.sent.now.items (record { answer = c.send.result; effect = rests; place = c.args.place.now; frames = c.send.ensures.0 }) c.args.connections.now.items) (sym c.in-Offer.is) (c.send.ensures.1, refl),
  c.send.ensures.2,
)
