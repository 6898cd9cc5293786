use Rattle.sb_table.proofs.Markers.{some_up_to, none_up_to}
use Rattle.sb_table.proofs.entries.Entries.has_up_to.Goals as goal

pub returns-in-Some-clause-has : goal.returns-in-Some-clause-has
returns-in-Some-clause-has c =
    some_up_to c.args.key.now c.args.version c.in-Some.at c.in-Some.field-0-1.now c.args.self.now.entries c.get.ensures.table.run.distinct c.in-Some.ensures.found

pub returns-in-None-clause-has : goal.returns-in-None-clause-has
returns-in-None-clause-has c = none_up_to c.args.key.now c.args.version c.args.self.now.entries c.in-None.ensures.found
