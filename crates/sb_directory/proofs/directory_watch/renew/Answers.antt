use Rattle.std.proofs.Common.{ap, sym, ◌∙◌}
use Rattle.std.proofs.lemmas.List.Edits.{map_over_more}
use Rattle.sb_directory.specs.Watching.{renewed}
use Rattle.sb_directory.proofs.directory_watch.renew.Goals as goal

pub loop-watch-preserved : goal.loop-watch-preserved
loop-watch-preserved g c =
    rw (c.renew_if.ensures ∙ ap (renewed c.args.id c.args.history.now) (sym c.watch-item.is))
    (map_over_more (renewed c.args.id c.args.history.now) c.args.watches.now c.loop-watch.watches c.loop-watch.watch-index c.watch-item.result c.loop-watch-test.true c.loop-watch.invariant c.watch-item.is)
