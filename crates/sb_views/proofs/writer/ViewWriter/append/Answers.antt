use Rattle.std.proofs.Common.{◌≡◌, ◌++◌, ◌∷◌, [], List, drop, fold, sym, ap, subst, ◌∙◌, append_assoc}
use mathlib.Core.List.{IsPrefix}
use Rattle.sb_views.specs.declared.event.Event.{Event}
use Rattle.sb_views.specs.declared.view_copy.Operation.{Operation}
use Rattle.sb_views.specs.declared.view_copy.Operation.TheVariants.{Reach}
use Rattle.sb_views.specs.Histories.{Position, node_after}
use Rattle.sb_views.specs.Changes.{Leads}
use Rattle.sb_views.specs.Operations.{after_operation, changes_of}
use Rattle.sb_views.specs.Publishing.{Views, IsQueued}
use Rattle.sb_views.proofs.Appending.{appended}
use Rattle.sb_views.proofs.writer.ViewWriter.append.Goals as goal

pub invariant_of-self : goal.invariant_of-self
invariant_of-self g c =
    let history = g.S.NodeTag.history in
    let opening = g.S.NodeTag.opening in
    let inside = c.self.inside in
    let queued = inside.queued in
    let upto = c.args.upto.now in
    let shown = inside.writer.desk.shown.value in
    let dropped = drop inside.writer.behind inside.writer.log.items in
    let queue = inside.queue.items in
    let operations = c.into_operations-steps.result.items in
    let position : Position = record { book = history; events = upto } in
    let same : c.args.self.now.queued ≡ queued = sym (ap (λ (v : Views). v.queued) c.self.view_is) in
    let begins : IsPrefix queued upto = subst (λ (l : List Event). IsPrefix l upto) same c.requires.begins in
    let changes : Leads (node_after opening c.args.self.now.queued).held (node_after opening upto).held (changes_of operations) =
    subst (Leads (node_after opening c.args.self.now.queued).held (node_after opening upto).held) (sym c.into_operations-steps.ensures.changes) c.requires.leads in
    let leads : Leads (node_after opening queued).held (node_after opening upto).held (changes_of operations) =
    subst (λ (l : List Event). Leads (node_after opening l).held (node_after opening upto).held (changes_of operations)) same changes in
    let is_queued : dropped ++ c.queue_all.new.queue.items ≡ (dropped ++ queue) ++ (operations ++ Reach position ∷ []) =
    ap (λ (q : List Operation). dropped ++ q) (c.in-Ok.ensures ∙ ap (λ (m : Position). queue ++ (operations ++ Reach m ∷ [])) c.position.ensures)
    ∙ sym (append_assoc dropped queue (operations ++ Reach position ∷ [])) in (
      c.self.invariant.0,
      subst (λ (l : List Event). IsQueued history opening l shown (fold after_operation shown (dropped ++ c.queue_all.new.queue.items))) (sym c.copy.ensures)
          (appended history opening queued upto shown (dropped ++ queue) operations c.self.invariant.1 c.into_operations-steps.ensures.alone begins leads (dropped ++ c.queue_all.new.queue.items) is_queued),
    )
