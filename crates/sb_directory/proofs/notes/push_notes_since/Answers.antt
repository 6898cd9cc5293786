use Rattle.std.proofs.Common.{ℕ, List, subst}
use Rattle.std.specs.Vec.Iter.{into_iter_items}
use Rattle.sb_directory.proofs.Noting.{IsTellingAll, telling_all-goes_on}
use Rattle.sb_directory.proofs.notes.push_notes_since.Goals as goal

pub loop-owner-preserved-in-Some-table : goal.loop-owner-preserved-in-Some-table
loop-owner-preserved-in-Some-table c =
    let held = c.args.holdings.now in
    let from = c.args.hub.now in
    let all = c.args.versions.items in
    let left = subst (λ (rest : List (List ℕ × ℕ)). IsTellingAll held from all c.loop-owner.hub rest) c.in-Some.ensures.steps.0 c.loop-owner.invariant in
    telling_all-goes_on held from all c.loop-owner.hub c.push_owner.new.hub (c.in-Some.owner, c.in-Some.version) (into_iter_items c.next.new.self)
    c.in-Some-table.table.now left c.in-Some-table.ensures.found c.push_owner.ensures
