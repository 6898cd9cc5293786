use Rattle.sb_log.specs.Puts.{IsSure}
use Rattle.sb_world.specs.Places.{Place, Seen}
use Rattle.sb_world.specs.Making.{IsMade}
use Rattle.sb_world.proofs.Fitting.{made_is, made_fits, each_found, some_contents}
use Rattle.sb_world.proofs.world.World.new.Goals as goal

pub returns-clause-made : goal.returns-clause-made
returns-clause-made g c = made_is c.args.settings c.in_ok-places_of.field-0.items c.new.result.items c.new-2.result.items c.in_ok-places_of.ensures.new c.new.ensures.items c.new-2.ensures.items

pub returns-clause-fits : goal.returns-clause-fits
returns-clause-fits g c =
    let world : Seen = record { settings = c.args.settings; places = c.in_ok-places_of.field-0.items; connections = c.new.result.items; sent = c.new-2.result.items } in
    let made : IsMade world = made_is c.args.settings world.places world.connections world.sent c.in_ok-places_of.ensures.new c.new.ensures.items c.new-2.ensures.items in
    λ clean writes contents. made_fits world made clean writes contents

pub returns-clause-some : goal.returns-clause-some
returns-clause-some g c =
    let world : Seen = record { settings = c.args.settings; places = c.in_ok-places_of.field-0.items; connections = c.new.result.items; sent = c.new-2.result.items } in
    let made : IsMade world = made_is c.args.settings world.places world.connections world.sent c.in_ok-places_of.ensures.new c.new.ensures.items c.new-2.ensures.items in
    λ clean. some_contents world made clean

pub returns-clause-sure : goal.returns-clause-sure
returns-clause-sure g c = λ sure name. each_found (λ (p : Place). IsSure p.log) c.in_ok-places_of.field-0.items (c.in_ok-places_of.ensures.sure sure) name
