use Rattle.std.proofs.Common.{◌≡◌, [], List, set, map, length, sym, ap, subst, ◌∙◌, Ok, Err}
use Rattle.std.specs.List.Sorted.{IsSearchInRange, IsBinarySearchResult}
use Rattle.sb_types.specs.Records.{Block}
use Rattle.sb_types.specs.Limits.{are_owners_above}
use Rattle.sb_budget.specs.BlocksByOwner.{block_to_last_entry, lowered_of}
use Rattle.sb_budget.specs.Making.{Making, left_by}
use Rattle.sb_budget.proofs.PlaceLemmas.{text_cmp, lowered_found, lowered_missing, lowered_above}
use Rattle.sb_budget.proofs.delta_builder.DeltaBuilder.leave.Goals.{After-self-1}
use Rattle.sb_budget.proofs.delta_builder.DeltaBuilder.leave.Goals as goal

-- the owner's block is lowered
one : (c : After-self-1) → set c.self.inside.gathered.items c.in-Ok.index c.lower.new.self ≡ map (λ b. lowered_of c.args.owner b) c.self.inside.gathered.items
one c =
    let blocks = c.self.inside.gathered.items in
    let bound : IsSearchInRange (Ok c.in-Ok.index) (length blocks) = subst (λ (bs : List Block). IsSearchInRange (Ok c.in-Ok.index) (length bs)) c.deref.ensures.value c.in-Ok.ensures.bound in
    let found : IsBinarySearchResult (λ (b : Block). text_cmp b.owner c.args.owner) blocks (Ok c.in-Ok.index) =
    subst (λ (bs : List Block). IsBinarySearchResult (λ (b : Block). text_cmp b.owner c.args.owner) bs (Ok c.in-Ok.index)) c.deref.ensures.value c.in-Ok.ensures.place in
    ap (set blocks c.in-Ok.index) (c.lower.ensures ∙ ap block_to_last_entry c.index_mut.ensures.value) ∙ lowered_found c.args.owner blocks c.in-Ok.index _ c.self.invariant bound found

pub invariant_of-self : goal.invariant_of-self
invariant_of-self c = ap (are_owners_above []) (one c) ∙ lowered_above c.args.owner [] c.self.inside.gathered.items c.self.invariant

pub returns-in-Ok : goal.returns-in-Ok
returns-in-Ok c = ap (λ (bs : List Block). record { blocks = bs; room = c.self.inside.room }) (one c) ∙ ap (left_by c.args.owner) c.self.view_is

pub returns-in_default : goal.returns-in_default
returns-in_default c =
    let blocks = c.self.inside.gathered.items in
    let bound : IsSearchInRange (Err c.in_default.field-0) (length blocks) = subst (λ (bs : List Block). IsSearchInRange (Err c.in_default.field-0) (length bs)) c.deref.ensures.value c.in_default.ensures.bound in
    let found : IsBinarySearchResult (λ (b : Block). text_cmp b.owner c.args.owner) blocks (Err c.in_default.field-0) =
    subst (λ (bs : List Block). IsBinarySearchResult (λ (b : Block). text_cmp b.owner c.args.owner) bs (Err c.in_default.field-0)) c.deref.ensures.value c.in_default.ensures.place in
    let same = lowered_missing c.args.owner blocks c.in_default.field-0 c.self.invariant bound found in
    subst (λ (m : Making). m ≡ left_by c.args.owner m) c.self.view_is (ap (λ (bs : List Block). record { blocks = bs; room = c.self.inside.room }) (sym same))
