use Rattle.std.proofs.Common.{◌≡◌, [], true, false, List, length, sym, subst, ap, ◌∙◌, arith}
use Rattle.std.specs.List.Sorted.{IsSearchInRange, IsBinarySearchResult}
use Rattle.sb_types.specs.Records.{Block}
use Rattle.sb_types.specs.Limits.{are_owners_above}
use Rattle.sb_budget.specs.BlocksByOwner.{item_at, cost_of}
use Rattle.sb_budget.specs.Making.{Making, IsFrontOf, AfterNext}
use Rattle.sb_budget.proofs.PlaceLemmas.{text_cmp, placed_is_joined, joined_above}
use Rattle.sb_budget.proofs.CutLemmas.{room_short, name_above}
use Rattle.sb_budget.proofs.MakingLemmas.{next_left, next_taken}
use Rattle.sb_budget.proofs.delta_builder.DeltaBuilder.push.Goals as goal

pub returns-in_default-clause-next : goal.returns-in_default-clause-next
returns-in_default-clause-next c = λ budget front is.
    let blocks = c.self.inside.gathered.items in
    let item = item_at c.args.head c.args.entry in
    let bound : IsSearchInRange c.place_near-place.result (length blocks) = subst (λ (bs : List Block). IsSearchInRange c.place_near-place.result (length bs)) c.deref.ensures.value c.place_near-place.ensures.bound in
    let found : IsBinarySearchResult (λ (b : Block). text_cmp b.owner c.args.head.owner) blocks c.place_near-place.result =
    subst (λ (bs : List Block). IsBinarySearchResult (λ (b : Block). text_cmp b.owner c.args.head.owner) bs c.place_near-place.result) c.deref.ensures.value c.place_near-place.ensures.place in
    let old : Making = record { blocks = blocks; room = c.self.inside.room } in
    let cost : c.cost.result ≡ cost_of item c.place_near-place.result = c.cost.ensures.cost in
    let short = room_short c.checked_sub.result c.cost.result c.self.inside.room c.checked_sub.ensures c.in_default.not-Some in
    subst (AfterNext budget front item false) c.self.view_is
    (next_left budget front item old c.self.invariant (subst (IsFrontOf budget front) (sym c.self.view_is) is) c.place_near-place.result bound found
    (omega (arith, cost, c.cost.ensures.most)) (omega (arith, short, cost)))

pub invariant_of-self : goal.invariant_of-self
invariant_of-self c = ap (are_owners_above []) c.in_err-put.ensures.left ∙ c.self.invariant

pub invariant_of-self-2 : goal.invariant_of-self-2
invariant_of-self-2 c =
    let blocks = c.self.inside.gathered.items in
    let item = item_at c.args.head c.args.entry in
    let bound : IsSearchInRange c.place_near-place.result (length blocks) = subst (λ (bs : List Block). IsSearchInRange c.place_near-place.result (length bs)) c.deref.ensures.value c.place_near-place.ensures.bound in
    let found : IsBinarySearchResult (λ (b : Block). text_cmp b.owner c.args.head.owner) blocks c.place_near-place.result =
    subst (λ (bs : List Block). IsBinarySearchResult (λ (b : Block). text_cmp b.owner c.args.head.owner) bs c.place_near-place.result) c.deref.ensures.value c.place_near-place.ensures.place in
    ap (are_owners_above []) (c.in_ok-put.ensures.placed ∙ placed_is_joined item blocks c.place_near-place.result c.self.invariant bound found)
    ∙ joined_above item [] blocks (name_above c.args.head.owner c.cost.ensures.owner) c.self.invariant

pub returns-clause-next : goal.returns-clause-next
returns-clause-next c = λ budget front is.
    let blocks = c.self.inside.gathered.items in
    let item = item_at c.args.head c.args.entry in
    let bound : IsSearchInRange c.place_near-place.result (length blocks) = subst (λ (bs : List Block). IsSearchInRange c.place_near-place.result (length bs)) c.deref.ensures.value c.place_near-place.ensures.bound in
    let found : IsBinarySearchResult (λ (b : Block). text_cmp b.owner c.args.head.owner) blocks c.place_near-place.result =
    subst (λ (bs : List Block). IsBinarySearchResult (λ (b : Block). text_cmp b.owner c.args.head.owner) bs c.place_near-place.result) c.deref.ensures.value c.place_near-place.ensures.place in
    let old : Making = record { blocks = blocks; room = c.self.inside.room } in
    let cost : c.cost.result ≡ cost_of item c.place_near-place.result = c.cost.ensures.cost in
    subst (λ (bs : List Block). AfterNext budget front item true (record { blocks = bs; room = c.in-Some.left })) (sym c.in_ok-put.ensures.placed)
    (next_taken budget front item old c.self.invariant (subst (IsFrontOf budget front) (sym c.self.view_is) is) c.place_near-place.result bound found
    c.in-Some.left (omega (arith, c.in-Some.ensures.0, c.in-Some.ensures.1, cost)))
