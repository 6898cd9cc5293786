use Rattle.std.proofs.Common.{rules, Some, sym, ap, ◌∙◌}
use Rattle.std.proofs.lemmas.List.Sorted.{answers_always}
use Rattle.sb_codec.specs.declared.message.ages.OwnerAge.{OwnerAge}
use Rattle.sb_run.proofs.Ages.{age-found, age-missing}
use Rattle.sb_run.proofs.heard.age_of.Goals as goal

pub returns-in-Ok : goal.returns-in-Ok
returns-in-Ok c =
    let held = c.in-Ok.ensures.position (λ (a : OwnerAge). a.owner) (answers_always _ _ _ (λ f a r g h. search rules)) in
    let bound = rw c.list-list.ensures.list at c.in-Ok.ensures.bound in
    let at = rw c.list-list.ensures.list at held in
    let there = rw c.list-list.ensures.list at c.index-list-place.is in
    ap (λ (a : OwnerAge). Some a.age) (sym c.index-list-place.is) ∙ sym (age-found c.args.owner.now _ _ _ c.list-list.ensures.ages bound at there)

pub returns-in-Err : goal.returns-in-Err
returns-in-Err c =
    let held = c.in-Err.ensures.position (λ (a : OwnerAge). a.owner) (answers_always _ _ _ (λ f a r g h. search rules)) in
    let bound = rw c.list-list.ensures.list at c.in-Err.ensures.bound in
    let at = rw c.list-list.ensures.list at held in
    sym (age-missing c.args.owner.now _ _ c.list-list.ensures.ages bound at)
