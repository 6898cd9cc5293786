use Rattle.std.proofs.Common.{List, MatchBool, IsOk, subst}
use Rattle.sb_types.specs.Runs.{Stands}
use Rattle.sb_watch.specs.Hubs.{has_note_at, answer_at}
use Rattle.sb_directory.specs.ViewedNodes.{ViewedNode}
use Rattle.sb_directory.specs.Watching.{DirectoryWatch}
use Rattle.sb_directory.proofs.Watching.{found-note, found-answer}
use Rattle.sb_directory.proofs.viewed_node.ViewedNode.has.Goals as goal

pub returns-clause-note : goal.returns-clause-note
returns-clause-note g c there =
    let inside = c.self.inside in
    let watch = c.args.watch.now in
    let found = subst (λ (ws : List DirectoryWatch). MatchBool c.is_one_of.result (Stands ws watch) (Stands ws watch → ⊥)) c.deref.ensures.value c.is_one_of.ensures in
    subst (λ (l : ViewedNode). IsOk (has_note_at l.hub watch.id)) c.self.view_is
    (found-note g.S.NodeTag.opening inside.history inside.hub inside.watches.items c.self.invariant.0.watches watch c.is_one_of.result found there)

pub returns-clause-answer : goal.returns-clause-answer
returns-clause-answer g c there =
    let inside = c.self.inside in
    let watch = c.args.watch.now in
    let found = subst (λ (ws : List DirectoryWatch). MatchBool c.is_one_of.result (Stands ws watch) (Stands ws watch → ⊥)) c.deref.ensures.value c.is_one_of.ensures in
    subst (λ (l : ViewedNode). IsOk (answer_at l.hub watch.id)) c.self.view_is
    (found-answer g.S.NodeTag.opening inside.history inside.hub inside.watches.items c.self.invariant.0.watches watch c.is_one_of.result found there)
