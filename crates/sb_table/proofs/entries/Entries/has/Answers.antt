use Rattle.std.proofs.Common.{ap, ◌∙◌}
use Rattle.sb_types.specs.Records.{Table}
use Rattle.sb_types.specs.Runs.{has_key}
use Rattle.sb_table.proofs.Keys.{has_is}
use Rattle.sb_table.proofs.entries.Entries.has.Goals as goal

pub returns-clause-has : goal.returns-clause-has
returns-clause-has c =
    c.is_ok.ensures.value
    ∙ has_is c.place_of.result c.self.inside.entries.items c.deref.result.now c.args.key.now (c.deref.ensures.value ∙ c.self.invariant.1)
    c.place_of.ensures.bound c.place_of.ensures.place c.self.invariant.0.run.distinct
    ∙ ap (λ (t : Table). has_key c.args.key.now t.entries) c.self.view_is
