use Rattle.sb_script.proofs.Runs.{reads_counted, reads_within, reads_made, reads_fault, reads_early}
use Rattle.sb_script.proofs.lines.read_some.Goals as goal

pub returns-clause-counted : goal.returns-clause-counted
returns-clause-counted g c =
    reads_counted (g.R.Read.remaining c.args.reader.now) (g.R.Read.remaining c.read_within.new.reader) c.read_within.new.bytes c.args.steps.now c.args.left.now c.read_within.new.steps c.read_within.new.left c.read_within.result c.read_within.ensures.gives c.read_within.ensures.counted

pub returns-clause-count : goal.returns-clause-count
returns-clause-count g c =
    reads_within (g.R.Read.remaining c.args.reader.now) (g.R.Read.remaining c.read_within.new.reader) c.read_within.new.bytes c.args.steps.now c.args.left.now c.read_within.new.steps c.read_within.new.left c.read_within.result c.read_within.ensures.gives

pub returns-clause-made : goal.returns-clause-made
returns-clause-made g c =
    reads_made (g.R.Read.remaining c.args.reader.now) (g.R.Read.remaining c.read_within.new.reader) c.read_within.new.bytes c.args.steps.now c.args.left.now c.read_within.new.steps c.read_within.new.left c.read_within.result c.read_within.ensures.gives

pub returns-clause-fault : goal.returns-clause-fault
returns-clause-fault g c =
    reads_fault (g.R.Read.remaining c.args.reader.now) (g.R.Read.remaining c.read_within.new.reader) c.read_within.new.bytes c.args.steps.now c.args.left.now c.read_within.new.steps c.read_within.new.left c.read_within.result c.read_within.ensures.gives c.read_within.ensures.counted

pub returns-clause-early : goal.returns-clause-early
returns-clause-early g c =
    reads_early (g.R.Read.remaining c.args.reader.now) (g.R.Read.remaining c.read_within.new.reader) c.read_within.new.bytes c.args.steps.now c.args.left.now c.read_within.new.steps c.read_within.new.left c.read_within.result c.read_within.ensures.gives c.read_within.ensures.counted
