use Rattle.std.proofs.Common.{◌≡◌, [], drop, fold, sym, ap, subst, ◌∙◌}
use Rattle.sb_views.specs.Publishing.{IsQueued}
use Rattle.sb_views.specs.Operations.{after_operation}
use Rattle.sb_views.proofs.Turning.{publishes, handed, after_publish, now_published}
use Rattle.sb_views.proofs.writer.ViewWriter.publish_queue.Goals as goal

pub publish_as-writer-requires : goal.publish_as-writer-requires
publish_as-writer-requires g c next is =
    let old = c.self.inside.writer in
    let new = c.hand_over.new.writer in
    let none : c.hand_over.new.queue.items ≡ [] = c.in_default.ensures.all in
    let queued : IsQueued g.S.NodeTag.history g.S.NodeTag.opening c.self.inside.queued new.desk.shown.value (fold after_operation new.desk.shown.value (drop new.behind new.log.items)) =
    handed g.S.NodeTag.history g.S.NodeTag.opening c.self.inside.queued old.desk.shown.value new.desk.shown.value _ (drop new.behind new.log.items) c.hand_over.new.queue.items
    (ap (λ d. d.shown.value) c.hand_over.ensures.desk) c.hand_over.ensures.pending none c.self.invariant.1 in
    publishes g.S.NodeTag.history g.S.NodeTag.opening c.self.inside.queued _ _ new.desk.shown.value next
    (subst (IsQueued g.S.NodeTag.history g.S.NodeTag.opening c.self.inside.queued new.desk.shown.value) (sym is) queued)

pub invariant_of-writer-2 : goal.invariant_of-writer-2
invariant_of-writer-2 g c =
    let old = c.self.inside.writer in
    let new = c.hand_over.new.writer in
    let none : c.hand_over.new.queue.items ≡ [] = c.in_default.ensures.all in
    let queued : IsQueued g.S.NodeTag.history g.S.NodeTag.opening c.self.inside.queued new.desk.shown.value (fold after_operation new.desk.shown.value (drop new.behind new.log.items)) =
    handed g.S.NodeTag.history g.S.NodeTag.opening c.self.inside.queued old.desk.shown.value new.desk.shown.value _ (drop new.behind new.log.items) c.hand_over.new.queue.items
    (ap (λ d. d.shown.value) c.hand_over.ensures.desk) c.hand_over.ensures.pending none c.self.invariant.1 in
    let left = c.publish_as-writer.result.0 in
    let same : new.desk.shown.value.position.events ≡ c.self.inside.published = ap (λ d. d.shown.value.position.events) c.hand_over.ensures.desk ∙ c.self.invariant.0 in (
      now_published g.S.NodeTag.history g.S.NodeTag.opening c.self.inside.queued c.self.inside.published c.prefix_after-published.result new.desk.shown.value left.desk.shown.value _ _ _
          c.publish_as-writer.result.1 same queued c.publish_as-writer.ensures.values c.prefix_after-published.ensures,
      after_publish g.S.NodeTag.history g.S.NodeTag.opening c.self.inside.queued new.desk.shown.value left.desk.shown.value (drop new.behind new.log.items) (drop left.behind left.log.items)
          c.hand_over.new.queue.items c.publish_as-writer.result.1 queued none c.publish_as-writer.ensures.values,
    )
