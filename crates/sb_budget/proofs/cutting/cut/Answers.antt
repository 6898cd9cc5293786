use Rattle.std.proofs.Common.{◌≡◌, ◌<◌, ◌∷◌, [], List, length, sym, subst, ◌∙◌, arith}
use Rattle.std.proofs.lemmas.Iterator.Adapters.{YieldsList-from_vec}
use Rattle.std.proofs.lemmas.Iterator.Consumers.{YieldsList-end}
use Rattle.std.proofs.lemmas.List.{map-id, map-append, length-map}
use Rattle.std.proofs.lemmas.Result.{IfOk-weaker}
use Rattle.sb_types.specs.Records.{Block}
use Rattle.sb_budget.specs.declared.offered.Offered.{Offered}
use Rattle.sb_budget.specs.Offers.{Item}
use Rattle.sb_budget.specs.Cut.{item_of, items_of_all, IsCut}
use Rattle.sb_budget.specs.Making.{IsTaking}
use Rattle.sb_budget.proofs.CutLemmas.{cut_taken, some_taken, taken_fits, taken_parts}
use Rattle.sb_budget.proofs.cutting.cut.Goals as goal

pub loop-item-init : goal.loop-item-init
loop-item-init c = (tt, tt, c.new-making.ensures.begins)

pub loop-item-preserved : goal.loop-item-preserved
loop-item-preserved c =
    let y = c.loop-item.yielded in
    let x = c.in-Some.item in (
      tt,
      tt,
      subst (λ (l : List Item). IsTaking c.args.budget l c.in_ok-is_full.is_full c.take.new.making) (sym (map-append item_of y (x ∷ [])))
          (c.in_ok-is_full.ensures.taking c.args.budget (items_of_all y) c.loop-item.invariant.2),
    )

pub finish-requires : goal.finish-requires
finish-requires c =
    let items = c.args.items.items in
    let source = YieldsList-from_vec items c.into_iter-item-iterator.ensures.into_iter_gives.0 (c.into_iter-item-iterator.ensures.into_iter_gives.1 ∙ c.args.items.ok.0) in
    let ends = YieldsList-end source c.loop-item.yielded _ c.loop-item.yielded_by _ c.next.new.self c.in-None.is c.next.ensures.steps in
    let all : c.loop-item.yielded ≡ items = sym (map-id c.loop-item.yielded) ∙ ends.0 in
    let taken : IsTaking c.args.budget (items_of_all items) c.loop-item.is_full c.loop-item.making = subst (λ (l : List Offered). IsTaking c.args.budget (items_of_all l) c.loop-item.is_full c.loop-item.making) all c.loop-item.invariant.2 in
    record {
      blocks = taken_parts c.args.budget items c.loop-item.is_full c.loop-item.making c.requires.items taken;
      fits = taken_fits c.args.budget (items_of_all items) c.loop-item.is_full c.loop-item.making taken;
    }

pub returns-clause-cut : goal.returns-clause-cut
returns-clause-cut c =
    let items = c.args.items.items in
    let source = YieldsList-from_vec items c.into_iter-item-iterator.ensures.into_iter_gives.0 (c.into_iter-item-iterator.ensures.into_iter_gives.1 ∙ c.args.items.ok.0) in
    let ends = YieldsList-end source c.loop-item.yielded _ c.loop-item.yielded_by _ c.next.new.self c.in-None.is c.next.ensures.steps in
    let all : c.loop-item.yielded ≡ items = sym (map-id c.loop-item.yielded) ∙ ends.0 in
    let taken : IsTaking c.args.budget (items_of_all items) c.loop-item.is_full c.loop-item.making = subst (λ (l : List Offered). IsTaking c.args.budget (items_of_all l) c.loop-item.is_full c.loop-item.making) all c.loop-item.invariant.2 in
    IfOk-weaker c.finish.result _ _
    (λ delta same. subst (IsCut c.args.budget (items_of_all items)) (sym same) (cut_taken c.args.budget (items_of_all items) c.loop-item.is_full c.loop-item.making taken))
    c.finish.ensures.blocks

pub returns-clause-some : goal.returns-clause-some
returns-clause-some c =
    let items = c.args.items.items in
    let source = YieldsList-from_vec items c.into_iter-item-iterator.ensures.into_iter_gives.0 (c.into_iter-item-iterator.ensures.into_iter_gives.1 ∙ c.args.items.ok.0) in
    let ends = YieldsList-end source c.loop-item.yielded _ c.loop-item.yielded_by _ c.next.new.self c.in-None.is c.next.ensures.steps in
    let all : c.loop-item.yielded ≡ items = sym (map-id c.loop-item.yielded) ∙ ends.0 in
    let taken : IsTaking c.args.budget (items_of_all items) c.loop-item.is_full c.loop-item.making = subst (λ (l : List Offered). IsTaking c.args.budget (items_of_all l) c.loop-item.is_full c.loop-item.making) all c.loop-item.invariant.2 in
    IfOk-weaker c.finish.result _ _
    (λ delta same some. subst (λ (bs : List Block). 0 < length bs) (sym same)
    (some_taken c.args.budget (items_of_all items) c.loop-item.is_full c.loop-item.making taken (omega (arith, some, length-map items item_of))))
    c.finish.ensures.blocks
