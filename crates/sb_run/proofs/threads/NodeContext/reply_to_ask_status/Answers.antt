use Rattle.std.proofs.Common.{◌∙◌}
use Rattle.sb_run.specs.StatusReplies.{short_text}
use Rattle.sb_run.proofs.StatusAnswers.{page_answers}
use Rattle.sb_run.proofs.threads.NodeContext.reply_to_ask_status.Goals as goal

pub returns-in-Ok-page_with : goal.returns-in-Ok-page_with
returns-in-Ok-page_with g c =
    let conflict = rw c.in-Ok-counted.is at c.count_held-seat.ensures.conflict in
    let keys = rw c.in-Ok-counted.is at c.count_held-seat.ensures.keys in
    let version = rw c.in-Ok-counted.is at c.count_held-seat.ensures.version in
    let held = c.facts-facts.ensures.held in
    page_answers g.S.NodeTag.opening g.S.DirectoryTag.settings c.args.seat c.count_held-seat.result.0 c.args.asked.now c.facts-facts.result c.deref.result.now.peers.all.items c.in-Ok.report.peers.items
    (short_text c.release.result.now) c.in-Ok-page_with.page c.count_held-seat.ensures.looks
    (record {
      statuses = c.in-Ok.ensures.peers;
      caught_up = c.facts-facts.ensures.peers.1 ∙ c.in-Ok.ensures.caught_up;
      count = c.facts-facts.ensures.peers.0 ∙ c.in-Ok.report.peers.ok.0;
      conflict = held.2 ∙ conflict;
      keys = (keys.0, keys.1, held.1 ∙ keys.2);
      version = (version.0, version.1, held.0 ∙ version.2);
    })
    c.in-Ok-page_with.ensures.page
