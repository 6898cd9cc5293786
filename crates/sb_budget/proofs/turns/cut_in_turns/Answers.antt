use Rattle.std.proofs.Common.{◌≡◌, ◌<◌, ◌++◌, ◌∷◌, [], suc, true, false, Bool, ℕ, List, map, length, refl, sym, subst, ap, ap₂, ◌∙◌, arith}
use Rattle.std.proofs.lemmas.Result.{IfOk-weaker}
use Rattle.std.proofs.lemmas.List.{map-append, length-map}
use Rattle.sb_types.specs.Records.{Block}
use Rattle.sb_budget.specs.declared.offered.Offered.{Offered}
use Rattle.sb_budget.specs.Offers.{Item}
use Rattle.sb_budget.specs.Cut.{item_of, items_of_all, blocks_of, IsCut, CanCut}
use Rattle.sb_budget.specs.BlocksByOwner.{item_at, lowered_of}
use Rattle.sb_budget.specs.Making.{Making, AfterNext, IsTaking}
use Rattle.sb_budget.specs.Parts.{Part, all_of}
use Rattle.sb_budget.specs.Turns.{parts_after_turn, in_turns}
use Rattle.sb_budget.proofs.CutLemmas.{cut_taken, some_taken, taken_fits, taken_parts}
use Rattle.sb_budget.proofs.TurnLemmas.{IsTurn, rejoined_length, left_part, turn_taken, turn_left, turn_ends, none_later, later_first, later_last}
use Rattle.sb_budget.proofs.turns.cut_in_turns.Goals.{In-Some, In_default, In_ok-push, After-leave_all, In_ok-push_front-in-First, In_ok-push_back-in-Last}
use Rattle.sb_budget.proofs.turns.cut_in_turns.Goals as goal

pub loop-cursor-init : goal.loop-cursor-init
loop-cursor-init c = ([], refl, c.new-making.ensures.begins)

-- ---- one item is offered

stands : (c : In-Some) → IsTurn c.args.budget c.args.turns (in_turns c.args.turns c.from-queue.result.items) (c.in-Some.cursor ∷ c.pop_front.new.self.items) c.loop-cursor.making
stands c =
    subst (λ (ps : List Part). IsTurn c.args.budget c.args.turns (in_turns c.args.turns c.from-queue.result.items) ps c.loop-cursor.making) c.in-Some.ensures.items c.loop-cursor.invariant

item : (c : In_ok-push) → item_at c.head-head.result c.in_ok-entry.entry ≡ item_of c.in-Some.cursor.next
item c = ap₂ item_at c.head-head.ensures.head (c.in_ok-entry.ensures.same ∙ c.split_first-later.ensures.entry)

next : (c : In_ok-push) (taken : Bool) → c.in_ok-push.field-0 ≡ taken → AfterNext c.args.budget (items_of_all (stands (goal.at.In_ok-push c).In-Some).0) (item_of c.in-Some.cursor.next) taken c.push.new.self
next c taken is =
    let front = (stands (goal.at.In_ok-push c).In-Some).0 in
    subst (λ (t : Bool). AfterNext c.args.budget (items_of_all front) (item_of c.in-Some.cursor.next) t c.push.new.self) is
    (subst (λ (i : Item). AfterNext c.args.budget (items_of_all front) i c.in_ok-push.field-0 c.push.new.self) (item c)
    (c.in_ok-push.ensures.next c.args.budget (items_of_all front) (stands (goal.at.In_ok-push c).In-Some).2))

-- it was taken
taken : (c : In_ok-push) → c.in_ok-push.field-0 ≡ true
    → IsTurn c.args.budget c.args.turns (in_turns c.args.turns c.from-queue.result.items) (parts_after_turn c.args.turns c.pop_front.new.self.items c.in-Some.cursor.later) c.push.new.self
taken c fits =
    turn_taken c.args.budget c.args.turns (in_turns c.args.turns c.from-queue.result.items) c.in-Some.cursor c.pop_front.new.self.items c.loop-cursor.making
    (stands (goal.at.In_ok-push c).In-Some) c.push.new.self (next c true fits)

-- and what is left of its owner goes to the front, or to the back
first : (c : In_ok-push_front-in-First) → parts_after_turn c.args.turns c.pop_front.new.self.items c.in-Some.cursor.later ≡ c.push_front.new.self.items
first c =
    ap (λ u. parts_after_turn u c.pop_front.new.self.items c.in-Some.cursor.later) c.in-First.is
    ∙ later_first c.pop_front.new.self.items c.in-Some.cursor.later c.in-Some-later.later (sym c.split_first-later.ensures.later ∙ c.in-Some-later.is)
    ∙ sym c.in_ok-push_front-in-First.ensures.items

last : (c : In_ok-push_back-in-Last) → parts_after_turn c.args.turns c.pop_front.new.self.items c.in-Some.cursor.later ≡ c.push_back.new.self.items
last c =
    ap (λ u. parts_after_turn u c.pop_front.new.self.items c.in-Some.cursor.later) c.in-Last.is
    ∙ later_last c.pop_front.new.self.items c.in-Some.cursor.later c.in-Some-later.later (sym c.split_first-later.ensures.later ∙ c.in-Some-later.is)
    ∙ sym c.in_ok-push_back-in-Last.ensures.items

-- it did not fit, and all that is left was left
stopped : (c : After-leave_all) → c.in_ok-push.field-0 ≡ false → IsTaking c.args.budget (items_of_all (in_turns c.args.turns c.from-queue.result.items)) true c.leave_all.new.making
stopped c full =
    let at = goal.at.After-leave_all c in
    let is = stands at.In-Some in
    let front = items_of_all is.0 in
    let p = c.in-Some.cursor in
    let others = c.pop_front.new.self.items in
    let these = items_of_all (p.next ∷ p.later) in
    let after : AfterNext c.args.budget front (item_of p.next) false c.push.new.self = next at.In_ok-push false full in
    let own : c.leave.new.self.blocks ≡ blocks_of front these =
    ap (λ (m : Making). m.blocks) c.leave.ensures ∙ ap (λ (o : List ℕ). map (λ b. lowered_of o b) c.push.new.self.blocks) c.owner-owner.ensures.owner
    ∙ ap (map (λ b. lowered_of p.next.owner b)) after.0.blocks ∙ left_part p front [] c.owner-owner.ensures.later in
    let all : c.leave_all.new.making.blocks ≡ blocks_of front (items_of_all (all_of (p ∷ others))) =
    c.leave_all.ensures.left front these own ∙ ap (blocks_of front) (sym (map-append item_of (p.next ∷ p.later) (all_of others))) in
    turn_left c.args.budget c.args.turns (in_turns c.args.turns c.from-queue.result.items) p others c.loop-cursor.making is c.push.new.self c.leave_all.new.making after all

-- ---- the turns

pub loop-cursor-preserved-in_default-later : goal.loop-cursor-preserved-in_default-later
loop-cursor-preserved-in_default-later c =
    subst (λ (ps : List Part). IsTurn c.args.budget c.args.turns (in_turns c.args.turns c.from-queue.result.items) ps c.push.new.self)
    (none_later c.args.turns c.pop_front.new.self.items c.in-Some.cursor.later (λ q e. c.in_default-later.not-Some q (c.split_first-later.ensures.later ∙ e)))
    (taken (goal.at.loop-cursor-preserved-in_default-later c).In_ok-push c.if-not-branch.false)

pub loop-cursor-preserved-in_ok-push_front-in-First : goal.loop-cursor-preserved-in_ok-push_front-in-First
loop-cursor-preserved-in_ok-push_front-in-First c =
    let at = goal.at.loop-cursor-preserved-in_ok-push_front-in-First c in
    subst (λ (ps : List Part). IsTurn c.args.budget c.args.turns (in_turns c.args.turns c.from-queue.result.items) ps c.push.new.self) (first at.In_ok-push_front-in-First)
    (taken at.In_ok-push c.if-not-branch.false)

pub loop-cursor-preserved : goal.loop-cursor-preserved
loop-cursor-preserved c =
    let at = goal.at.loop-cursor-preserved c in
    subst (λ (ps : List Part). IsTurn c.args.budget c.args.turns (in_turns c.args.turns c.from-queue.result.items) ps c.push.new.self) (last at.In_ok-push_back-in-Last)
    (taken at.In_ok-push c.if-not-branch.false)

begins : (c : In-Some) → length (all_of c.loop-cursor.queue.items) ≡ suc (length (c.in-Some.cursor.later ++ all_of c.pop_front.new.self.items))
begins c = ap (λ (ps : List Part). length (all_of ps)) c.in-Some.ensures.items

pub loop-cursor-smaller-in_ok-push_front-in-First : goal.loop-cursor-smaller-in_ok-push_front-in-First
loop-cursor-smaller-in_ok-push_front-in-First c =
    let at = goal.at.loop-cursor-smaller-in_ok-push_front-in-First c in
    omega (
      arith,
      begins at.In-Some,
      rejoined_length c.args.turns c.pop_front.new.self.items c.in-Some.cursor.later,
      ap (λ (ps : List Part). length (all_of ps)) (first at.In_ok-push_front-in-First),
    )

pub loop-cursor-smaller : goal.loop-cursor-smaller
loop-cursor-smaller c =
    let at = goal.at.loop-cursor-smaller c in
    omega (
      arith,
      begins at.In-Some,
      rejoined_length c.args.turns c.pop_front.new.self.items c.in-Some.cursor.later,
      ap (λ (ps : List Part). length (all_of ps)) (last at.In_ok-push_back-in-Last),
    )

-- ---- its ends

pub finish-requires : goal.finish-requires
finish-requires c =
    let made = stopped (goal.at.finish-requires c).After-leave_all c.if-not-branch.true in
    let whole : List Offered = in_turns c.args.turns c.from-queue.result.items in
    record {
      blocks = taken_parts c.args.budget whole true c.leave_all.new.making
          (subst (λ (ps : List Part). CanCut (in_turns c.args.turns ps)) (sym c.from-queue.ensures.0) c.requires.items) made;
      fits = taken_fits c.args.budget (items_of_all whole) true c.leave_all.new.making made;
    }

pub returns-then-not-branch-clause-cut : goal.returns-then-not-branch-clause-cut
returns-then-not-branch-clause-cut c =
    let made = stopped (goal.at.returns-then-not-branch-clause-cut c).After-leave_all c.if-not-branch.true in
    let cut : IsCut c.args.budget (items_of_all (in_turns c.args.turns c.args.owners.items)) c.leave_all.new.making.blocks =
    subst (λ (ps : List Part). IsCut c.args.budget (items_of_all (in_turns c.args.turns ps)) c.leave_all.new.making.blocks) c.from-queue.ensures.0
    (cut_taken c.args.budget (items_of_all (in_turns c.args.turns c.from-queue.result.items)) true c.leave_all.new.making made) in
    IfOk-weaker c.finish.result _ _ (λ delta same. subst (IsCut c.args.budget (items_of_all (in_turns c.args.turns c.args.owners.items))) (sym same) cut) c.finish.ensures.blocks

pub returns-then-not-branch-clause-some : goal.returns-then-not-branch-clause-some
returns-then-not-branch-clause-some c =
    let made = stopped (goal.at.returns-then-not-branch-clause-some c).After-leave_all c.if-not-branch.true in
    let whole : List Offered = in_turns c.args.turns c.from-queue.result.items in
    IfOk-weaker c.finish.result _ _
    (λ delta same some. subst (λ (bs : List Block). 0 < length bs) (sym same)
    (some_taken c.args.budget (items_of_all whole) true c.leave_all.new.making made
    (omega (arith, some, length-map whole item_of, ap (λ (ps : List Part). length (in_turns c.args.turns ps)) c.from-queue.ensures.0))))
    c.finish.ensures.blocks

-- no owner has anything left
empty : (ps : List Part) → length ps ≡ 0 → ps ≡ []
empty [] e = refl
empty (p ∷ ps) e = absurd (omega (arith, e))

ended : (c : In_default) → IsTaking c.args.budget (items_of_all (in_turns c.args.turns c.from-queue.result.items)) false c.loop-cursor.making
ended c =
    turn_ends c.args.budget c.args.turns (in_turns c.args.turns c.from-queue.result.items) c.loop-cursor.queue.items c.loop-cursor.making c.loop-cursor.invariant
    (empty c.loop-cursor.queue.items (omega (arith, c.in_default.ensures.cases, c.loop-cursor.queue.ok)))

pub finish-requires-2 : goal.finish-requires-2
finish-requires-2 c =
    let made = ended c in
    let whole : List Offered = in_turns c.args.turns c.from-queue.result.items in
    record {
      blocks = taken_parts c.args.budget whole false c.loop-cursor.making
          (subst (λ (ps : List Part). CanCut (in_turns c.args.turns ps)) (sym c.from-queue.ensures.0) c.requires.items) made;
      fits = taken_fits c.args.budget (items_of_all whole) false c.loop-cursor.making made;
    }

pub returns-clause-cut : goal.returns-clause-cut
returns-clause-cut c =
    let made = ended (goal.at.returns-clause-cut c).In_default in
    let cut : IsCut c.args.budget (items_of_all (in_turns c.args.turns c.args.owners.items)) c.loop-cursor.making.blocks =
    subst (λ (ps : List Part). IsCut c.args.budget (items_of_all (in_turns c.args.turns ps)) c.loop-cursor.making.blocks) c.from-queue.ensures.0
    (cut_taken c.args.budget (items_of_all (in_turns c.args.turns c.from-queue.result.items)) false c.loop-cursor.making made) in
    IfOk-weaker c.finish-2.result _ _ (λ delta same. subst (IsCut c.args.budget (items_of_all (in_turns c.args.turns c.args.owners.items))) (sym same) cut) c.finish-2.ensures.blocks

pub returns-clause-some : goal.returns-clause-some
returns-clause-some c =
    let made = ended (goal.at.returns-clause-some c).In_default in
    let whole : List Offered = in_turns c.args.turns c.from-queue.result.items in
    IfOk-weaker c.finish-2.result _ _
    (λ delta same some. subst (λ (bs : List Block). 0 < length bs) (sym same)
    (some_taken c.args.budget (items_of_all whole) false c.loop-cursor.making made
    (omega (arith, some, length-map whole item_of, ap (λ (ps : List Part). length (in_turns c.args.turns ps)) c.from-queue.ensures.0))))
    c.finish-2.ensures.blocks
