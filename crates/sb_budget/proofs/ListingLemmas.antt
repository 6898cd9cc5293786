-- A listing of what owners offer, and lists in order.
use Rattle.std.proofs.Common.{◌≡◌, ℕ, zero, suc, ◌<◌, Bool, false, List, [], ◌∷◌, ◌++◌, length, get_or, sym, ap, subst, ◌∙◌, arith, add-one, IsPermutation}
use Rattle.std.specs.Prelude.{All, AllPairs}
use Rattle.std.specs.List.Sorted.{IsSortedBy}
use Rattle.std.proofs.lemmas.List.{length-map}
use Rattle.std.proofs.lemmas.List.Sorted.{length_permutation}
use Rattle.std.proofs.lemmas.List.Elements.{All-push}
use Rattle.std.proofs.lemmas.List.Kept.{AllPairs-cons}
use Rattle.sb_types.specs.Records.{Block}
use Rattle.sb_holdings.specs.Held.{Held}
use Rattle.sb_digest.specs.Digests.{Digest}
use Rattle.sb_budget.specs.declared.offered.Offered.{Offered}
use Rattle.sb_budget.specs.Offers.{of_owner}
use Rattle.sb_budget.specs.Orders.{AscendsByOwner}
use Rattle.sb_budget.specs.Available.{available_for}
use Rattle.sb_budget.specs.Cut.{item_of, items_of_all, IsPart, IsCut, CanCut}
use Rattle.sb_budget.specs.Parts.{Part, all_of, AreParts, IsDeltaBy}
use Rattle.sb_budget.proofs.OrderLemmas.{owner_kept}
use Rattle.sb_budget.proofs.GatherLemmas.{of_owner_items}

module _ {held : Held} {digest : Digest} {parts : List Part} (are : AreParts held digest parts) (listed : List Offered) (moved : IsPermutation (all_of parts) listed) (ascends : AscendsByOwner listed) where
  pub listing_can_cut : CanCut listed
  listing_can_cut owner =
      let is = are.cut owner in
      (is.0, is.1, is.2, subst (IsPart is.0 is.1 is.2) (sym (owner_kept owner (all_of parts) listed are.offer moved ascends)) is.3)

  pub listing_delta : (IsListing : List Offered → Type 0) (budget : ℕ) (delta : List Block) → IsListing listed → IsCut budget (items_of_all listed) delta → IsDeltaBy IsListing budget held digest delta
  listing_delta IsListing budget delta order cut = record {
    offered = all_of parts;
    available = are.items;
    ranks = are.ranks;
    listed = listed;
    each_once = moved;
    order = order;
    each = λ owner.
        of_owner_items owner listed ∙ ap items_of_all (owner_kept owner (all_of parts) listed are.offer moved ascends)
        ∙ sym (of_owner_items owner (all_of parts)) ∙ ap (of_owner owner) are.items;
    cut = cut;
  }

  pub listing_length : length listed ≡ length (available_for held digest)
  listing_length = length_permutation (all_of parts) listed moved ∙ sym (length-map (all_of parts) item_of) ∙ ap length are.items

-- one more in front
pub sorted_cons : {X : Type 0} (lt : X → X → Bool) (x : X) (ys : List X) → ((d : X) → 0 < length ys → lt (get_or ys 0 d) x ≡ false) → IsSortedBy lt ys → IsSortedBy lt (x ∷ ys)
sorted_cons lt x ys first rest zero d low l = first d (omega arith)
sorted_cons lt x ys first rest (suc k) d low l = rw add-one (rw add-one at (rest k d (omega arith) (omega arith)))

-- one more behind
pub pairs_push : {X : Type 0} (R : X → X → Type 0) (xs : List X) (y : X) → AllPairs R xs → All (λ x. R x y) xs → AllPairs R (xs ++ y ∷ [])
pairs_push R [] y pairs all = λ i j d l k. absurd (omega arith)
pairs_push R (x ∷ xs) y pairs all =
    AllPairs-cons R x (xs ++ y ∷ []) (All-push (R x) xs y (λ k d l. pairs 0 (suc k) d (omega arith) (omega arith)) (all 0 x (omega arith)))
    (pairs_push R xs y (λ i j d l k. pairs (suc i) (suc j) d (omega arith) (omega arith)) (λ k d l. all (suc k) d (omega arith)))
