use Rattle.std.proofs.Common.{◌≡◌, ◌<◌, List, length, Some, slice_get, sym, ap, subst, ◌∙◌}
use Rattle.std.specs.Prelude.{slice_set}
use Rattle.std.proofs.lemmas.Option.{slice_get-get_or}
use Rattle.sb_world.specs.Connections.{Connection}
use Rattle.sb_world.specs.Events.{node_of}
use Rattle.sb_world.specs.Places.{Place, Seen, place_at, with_place}
use Rattle.sb_world.specs.Steps.{Step}
use Rattle.sb_world.proofs.Looking.{stepped}
use Rattle.sb_world.proofs.world.World.step_once.Goals as goal

pub returns : goal.returns
returns g c =
    let old : Seen = record { settings = c.self.inside.settings; places = c.self.inside.places.items; connections = c.self.inside.connections.items; sent = c.self.inside.sent.items } in
    let name = c.in-Some.name in
    let index = c.in-Some-place_of.index in
    let p = c.index_mut.result.now in
    let q = c.act.new.place in
    let acted = c.act.ensures in
    let named = subst (λ (cs : List Connection). node_of cs c.args.event.now ≡ Some name) c.deref.ensures.value (sym c.in-Some.ensures) in
    let found = subst (λ (ps : List Place). place_at ps name ≡ slice_get ps index) c.deref-2.ensures.value c.in-Some-place_of.ensures.found in
    let within = subst (λ (ps : List Place). index < length ps) c.deref-2.ensures.value c.in-Some-place_of.ensures.within in
    let there = slice_get-get_or old.places index p within ∙ ap (λ (r : Place). Some r) (sym c.index_mut.ensures.value) in
    let put = subst (λ (ps : List Place). with_place ps name q ≡ slice_set ps index q) c.deref-2.ensures.value (c.in-Some-place_of.ensures.set q) in
    record {
      step = (
        acted.0,
        subst (λ (s : Seen). Step s c.args.event.now c.act.result acted.0 (record { settings = old.settings; places = slice_set old.places index q; connections = c.act.new.connections.items; sent = c.act.new.sent.items })) c.self.view_is
            (stepped old c.args.event.now c.act.result acted.0 name p q index c.act.new.connections.items acted.1 c.act.new.sent.items named found there put acted.2 acted.3),
      );
    }
