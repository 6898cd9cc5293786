use Rattle.std.proofs.Common.{rules}
use Rattle.std.proofs.lemmas.Iterator.{items_from_collect, YieldsList-from_map}
use Rattle.std.proofs.lemmas.Iterator.Consumers.{YieldsList-at, YieldsList-from_first}
use Rattle.sb_types.specs.Records.{Entry}
use Rattle.sb_types.specs.Runs.{newer_entries}
use Rattle.sb_state_tests.proofs.table.versions_after.Goals as goal

pub returns : goal.returns
returns c =
    items_from_collect c.collect.result c.collect.ensures.ran
    (YieldsList-from_map _ (λ (e : Entry). e.version)
    (YieldsList-at c.map.ensures.source (YieldsList-from_first (λ x. x.now) (λ it. it) (newer_entries c.args.version c.args.table.now.entries) c.after.ensures.entries))
    c.map.ensures.closure (λ x r q k. search rules))
