use Rattle.std.proofs.Common.{ap, sym, ◌∙◌}
use Rattle.std.proofs.lemmas.List.Edits.{map_over_more}
use Rattle.sb_watch.specs.Watches.{watch_after_note}
use Rattle.sb_watch.proofs.hub.tell_all.Goals as goal

pub loop-watch-preserved : goal.loop-watch-preserved
loop-watch-preserved c =
    rw (c.tell.ensures ∙ ap (watch_after_note c.args.note.now) (sym c.watch-item.is))
    (map_over_more (watch_after_note c.args.note.now) c.args.watches.now c.loop-watch.watches c.loop-watch.watch-index c.watch-item.result c.loop-watch-test.true c.loop-watch.invariant c.watch-item.is)
