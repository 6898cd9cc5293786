use Rattle.std.proofs.Common.{sym, ◌∙◌, subst, ◌≤◌, ℕ, length}
use Rattle.sb_holdings.specs.Held.{shown_of}
use Rattle.sb_holdings.specs.Nodes.{held_by}
use Rattle.sb_views.specs.Histories.{node_after}
use Rattle.sb_run.proofs.Enduring.{history-later}
use Rattle.sb_run.proofs.Staged.{number_within}
use Rattle.sb_run.proofs.laws.running_nodes_keep_truth.Goals as goal

pub returns-clause-given : goal.returns-clause-given
returns-clause-given c = λ writes opening history node_view owner key value version is holds are true view row.
    let after = c.nodes_hold.ensures.holds writes opening _ is are holds true in
    c.reads_are_true.ensures.written (writes owner) (shown_of (node_after opening history).held owner) key value version (after owner).shown
    (sym (c.views_show_what_is_held.ensures.row (node_after opening history) node_view owner key view) ∙ row)

pub returns-clause-exact : goal.returns-clause-exact
returns-clause-exact c = λ writes opening history node_view owner e is holds are true view written last within.
    let table = shown_of (node_after opening history).held owner in
    let after = c.nodes_hold.ensures.holds writes opening _ is are holds true in
    let node = c.nodes_hold.ensures.is opening _ is are in
    let held = subst (λ (n : ℕ). e.version ≤ n) (c.views_show_what_is_held.ensures.upto (node_after opening history) node_view owner view) within in
    c.views_show_what_is_held.ensures.row (node_after opening history) node_view owner e.key view
    ∙ c.reads_are_true.ensures.exact (writes owner) table e (node owner).shown (after owner).shown written held last

pub returns-clause-honest : goal.returns-clause-honest
returns-clause-honest c = λ writes opening settings history digest blocks b is holds are true answer stands.
    let after = c.nodes_hold.ensures.holds writes opening _ is are holds true in
    let node = c.nodes_hold.ensures.is opening _ is are in
    c.answers_are_honest.ensures.honest writes (node_after opening history) settings.budget digest blocks b node after answer.1 stands

pub returns-clause-digests : goal.returns-clause-digests
returns-clause-digests c = λ opening settings history from want digest owner answer reached.
    c.digests_are_true.ensures.held (node_after opening history).held settings.budget want from digest owner answer reached

pub returns-clause-starts : goal.returns-clause-starts
returns-clause-starts c = λ opening settings history from want digest owner floor upto answer reached. (
  c.digests_are_true.ensures.number (node_after opening history).held settings.budget want from digest owner floor upto answer reached,
  c.digests_are_true.ensures.floor (node_after opening history).held settings.budget want from digest owner floor upto answer reached,
)

pub returns-clause-reached : goal.returns-clause-reached
returns-clause-reached c = λ writes opening settings history from want digest owner is holds are true answer reached.
    let after = c.nodes_hold.ensures.holds writes opening _ is are holds true in
    subst (λ (n : ℕ). n ≤ length (writes owner)) (sym (c.digests_are_true.ensures.held (node_after opening history).held settings.budget want from digest owner answer reached)) (after owner).shown.reach

pub returns-clause-progress : goal.returns-clause-progress
returns-clause-progress c = λ writes opening settings history from want digest owner floor upto is holds are true answer reached.
    let after = c.nodes_hold.ensures.holds writes opening _ is are holds true in
    let number = c.digests_are_true.ensures.number (node_after opening history).held settings.budget want from digest owner floor upto answer reached in
    subst (λ (n : ℕ). n ≤ length (writes owner)) (sym number) (number_within (writes owner) owner (held_by (node_after opening history) owner) floor upto (after owner))

pub returns-clause-later : goal.returns-clause-later
returns-clause-later c = history-later c.nodes_hold.ensures.is c.nodes_hold.ensures.later c.runs_join.ensures
