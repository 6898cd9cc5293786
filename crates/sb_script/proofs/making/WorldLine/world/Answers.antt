use Rattle.std.proofs.Common.{map, ◌∙◌, ap}
use Rattle.std.proofs.lemmas.List.{map-id}
use Rattle.sb_log.specs.Records.{Log}
use Rattle.sb_script.specs.Making.{empty_log}
use Rattle.sb_script.proofs.Worlds.{world_made, world_not_made}
use Rattle.sb_script.proofs.making.WorldLine.world.Goals as goal

pub returns-clause-world : goal.returns-clause-world
returns-clause-world c =
    let logs = c.in_ok-logs.logs.items in
    world_made c.args.self.now c.in_ok-settings.settings c.in_ok-names.names.items (map (λ (l : Log). l) logs) c.in_ok-settings.ensures.settings c.in_ok-names.ensures.names
    (map-id logs ∙ c.in_ok-logs.ensures.logs ∙ ap (map (empty_log c.in_ok-settings.settings)) c.deref.ensures.value)
    c.new.result c.new.ensures.settings c.new.ensures.names c.new.ensures.logs c.new.ensures.made

pub returns-clause-fault : goal.returns-clause-fault
returns-clause-fault c =
    let logs = c.in_ok-logs.logs.items in
    world_not_made c.args.self.now c.in_ok-settings.settings c.in_ok-names.names.items (map (λ (l : Log). l) logs) c.in_ok-settings.ensures.settings c.in_ok-names.ensures.names
    (map-id logs ∙ c.in_ok-logs.ensures.logs ∙ ap (map (empty_log c.in_ok-settings.settings)) c.deref.ensures.value)
    c.new.result c.new.ensures.why
