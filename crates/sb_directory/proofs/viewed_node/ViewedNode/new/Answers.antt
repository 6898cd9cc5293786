use Rattle.std.proofs.Common.{◌≡◌, List, [], length, refl, sym, ap, subst, ◌∙◌}
use mathlib.Core.List.{IsPrefix}
use Rattle.std.specs.List.{AllByRecursion}
use Rattle.sb_holdings.specs.Plain.{IsHoldings}
use Rattle.sb_watch.specs.Hubs.{AllNotes}
use Rattle.sb_views.specs.declared.event.Event.{Event}
use Rattle.sb_views.specs.Histories.{node_after}
use Rattle.sb_views.specs.Publishing.{Views}
use Rattle.sb_directory.specs.Notes.{is_held}
use Rattle.sb_directory.specs.Watching.{IsWatched}
use Rattle.sb_directory.specs.Lacking.{AreSince}
use Rattle.sb_directory.proofs.Following.{grown-there, since-there}
use Rattle.sb_directory.proofs.viewed_node.ViewedNode.new.Goals as goal

pub invariant_of-result : goal.invariant_of-result
invariant_of-result g c =
    let opening = g.S.NodeTag.opening in
    let node = c.args.core.node in
    let queued : c.args.views.queued ≡ [] = ap (λ (v : Views). v.queued) c.requires.views in
    let here : node ≡ node_after opening c.args.history = sym c.requires.opening ∙ sym (ap (node_after opening) c.requires.history) in
    let there : node ≡ node_after opening c.args.views.queued = sym c.requires.opening ∙ sym (ap (node_after opening) queued) in
    let is : IsHoldings node.held = c.requires.holdings in (
      record {
        node = here;
        begins = subst (λ (r : List Event). IsPrefix r c.args.history) (sym queued) (c.args.history, refl);
        grown = grown-there opening node c.args.views.queued there is;
        since = subst (AreSince (node_after opening c.args.views.queued).held node.held) (sym c.new-3.ensures) (since-there opening node c.args.views.queued there);
        notes = subst (AllNotes (is_held node.held)) (sym c.new.ensures) tt;
        watches = subst (AllByRecursion (IsWatched opening c.args.history c.new.result)) (sym c.new-2.ensures.items) tt;
      },
      c.requires.total ∙ sym (ap (λ (l : List Event). length l) c.requires.history),
      c.requires.settings,
      c.requires.rest.0,
      c.requires.rest.1,
    )
