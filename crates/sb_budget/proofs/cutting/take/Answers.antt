use Rattle.std.proofs.Common.{◌∷◌, ◌++◌, [], true, false, Bool, ap, subst, sym}
use Rattle.sb_budget.specs.Offers.{Item}
use Rattle.sb_budget.specs.Cut.{item_of}
use Rattle.sb_budget.specs.BlocksByOwner.{item_at}
use Rattle.sb_budget.specs.Making.{AfterNext, IsStopped, IsTaking}
use Rattle.sb_budget.proofs.CutLemmas.{stopped_here, stopped_before}
use Rattle.sb_budget.proofs.cutting.take.Goals as goal

pub returns-then-is_full-clause-taking : goal.returns-then-is_full-clause-taking
returns-then-is_full-clause-taking c = λ budget items is.
    subst (IsStopped budget (items ++ item_of c.args.item ∷ [])) (sym c.leave.ensures)
    (stopped_before budget items (item_of c.args.item) c.args.making.now (subst (λ (b : Bool). IsTaking budget items b c.args.making.now) c.if-is_full.true is))

pub returns-then-branch-clause-taking : goal.returns-then-branch-clause-taking
returns-then-branch-clause-taking c = λ budget items is.
    let after = c.in_ok-push.ensures.next budget items (subst (λ (b : Bool). IsTaking budget items b c.args.making.now) c.if-is_full.false is) in
    let this : AfterNext budget items (item_of c.args.item) c.in_ok-push.field-0 c.push.new.self = subst (λ (i : Item). AfterNext budget items i c.in_ok-push.field-0 c.push.new.self) (ap (λ h. item_at h c.args.item.entry) c.head.ensures.head) after in
    subst (λ (t : Bool). AfterNext budget items (item_of c.args.item) t c.push.new.self) c.if-branch.true this

pub returns-clause-taking : goal.returns-clause-taking
returns-clause-taking c = λ budget items is.
    let after = c.in_ok-push.ensures.next budget items (subst (λ (b : Bool). IsTaking budget items b c.args.making.now) c.if-is_full.false is) in
    let this : AfterNext budget items (item_of c.args.item) c.in_ok-push.field-0 c.push.new.self = subst (λ (i : Item). AfterNext budget items i c.in_ok-push.field-0 c.push.new.self) (ap (λ h. item_at h c.args.item.entry) c.head.ensures.head) after in
    let left : AfterNext budget items (item_of c.args.item) false c.push.new.self = subst (λ (t : Bool). AfterNext budget items (item_of c.args.item) t c.push.new.self) c.if-branch.false this in
    subst (IsStopped budget (items ++ item_of c.args.item ∷ [])) (sym c.leave-2.ensures)
    (stopped_here budget items (item_of c.args.item) c.push.new.self left.0 left.1 left.2)
