use Rattle.std.proofs.Common.{rules, ◌≡◌, List, [], ◌∷◌, ◌++◌, ap, subst, ◌∙◌}
use Rattle.sb_types.specs.Records.{Entry}
use Rattle.sb_views.specs.declared.change.Change.TheVariants.{Enter}
use Rattle.sb_types.specs.Runs.{newer_entries}
use Rattle.sb_directory.proofs.Batches.{IsPushing, pushing-begins, pushing-goes_on, pushing-ends, pushed-last}
use Rattle.sb_directory.proofs.lacked.push_entries.Goals as goal

pub loop-entry-init : goal.loop-entry-init
loop-entry-init c =
    pushing-begins c.args.owner.now c.args.batch.now c.args.version (newer_entries c.args.version c.args.table.now.entries) c.into_iter-entry-iterator.result
    (c.into_iter-entry-iterator.ensures.into_iter_gives ∙ c.shared_after-entry-items.ensures.entries)

pub loop-entry-preserved : goal.loop-entry-preserved
loop-entry-preserved c =
    let owner = c.args.owner.now in
    let all = newer_entries c.args.version c.args.table.now.entries in
    let given = c.in_ok-share.ensures.same in
    let copied : c.in_ok-share.field-0 ≡ c.in-Some.entry.now = cc in
    pushing-goes_on owner c.args.batch.now c.args.version all c.loop-entry.batch c.push.new.self c.loop-entry.last c.version-last.result c.in-Some.entry.now c.next.new.self
    (subst (λ (rest : List Entry). IsPushing owner c.args.batch.now c.args.version all c.loop-entry.batch c.loop-entry.last rest) c.in-Some.ensures.steps c.loop-entry.invariant)
    (c.in_ok-push.ensures.ok ∙ ap (λ (e : Entry). c.loop-entry.batch ++ (owner, Enter e) ∷ []) copied)
    (c.version-last.ensures.version ∙ ap (λ (e : Entry). e.version) c.entry.ensures.entry)

pub returns-clause-ok : goal.returns-clause-ok
returns-clause-ok c = search (rules, pushing-ends c.args.owner.now c.args.batch.now c.args.version (newer_entries c.args.version c.args.table.now.entries) c.loop-entry.batch)

pub returns-clause-last : goal.returns-clause-last
returns-clause-last c = search (rules, pushed-last c.args.owner.now c.args.batch.now c.args.version (newer_entries c.args.version c.args.table.now.entries) c.loop-entry.batch)
