-- What is offered, owner by owner.
use Rattle.std.specs.Prelude.{◌≡◌, ℕ, ◌+◌, ◌<◌, List, [], ◌∷◌, All, AllPairs, ⊤, Option, Some, None, IsPermutation}
use Rattle.std.specs.List.{flat_map}
use Rattle.std.specs.declared.cmp.Ordering.TheVariants.{Less}
use Rattle.std.specs.Ordering.{nat_cmp}
use Rattle.std.specs.Cmp.Lexicographic.{slice_cmp}
use Rattle.sb_types.specs.Records.{Block}
use Rattle.sb_holdings.specs.Held.{Held}
use Rattle.sb_digest.specs.Digests.{Digest}
use Rattle.sb_budget.specs.declared.offered.Offered.{Offered}
use Rattle.sb_budget.specs.Orders.{version_of, IsOffer}
use Rattle.sb_budget.specs.Offers.{of_owner}
use Rattle.sb_budget.specs.Cut.{items_of_all, IsCut, CanCut}
use Rattle.sb_budget.specs.Available.{available_for, AreRanked}

-- what is still to be sent of one owner: the next item, and those after it
pub record Part : Type 0 where
  pub next : Offered
  pub later : List Offered

abbrev pub part_of : List Offered → Option Part
part_of [] = None
part_of (o ∷ os) = Some (record { next = o; later = os })

abbrev pub all_of : List Part → List Offered
all_of parts = flat_map (λ p. p.next ∷ p.later) parts

-- the later item is the owner's next one
abbrev pub IsNextAfter : Offered → Offered → Type 0
IsNextAfter x y = (y.owner ≡ x.owner) × (y.rank ≡ x.rank + 1) × (y.count ≡ x.count) × (version_of x < version_of y)

abbrev pub IsChain : Offered → List Offered → Type 0
IsChain x [] = ⊤
IsChain x (y ∷ ys) = IsNextAfter x y × IsChain y ys

-- together all that is available, each owner's from its first item on, in ascending order of the names
pub record AreParts (held : Held) (digest : Digest) (parts : List Part) : Type 0 where
  pub items : items_of_all (all_of parts) ≡ available_for held digest
  pub ranks : AreRanked (all_of parts)
  pub offer : IsOffer (all_of parts)
  pub cut : CanCut (all_of parts)
  pub chains : All (λ p. (p.next.rank ≡ 0) × IsChain p.next p.later) parts
  pub names : AllPairs (λ p q. slice_cmp nat_cmp p.next.owner q.next.owner ≡ Less) parts

-- they are what some node offers in answer to some digest
abbrev pub AreOffered : List Part → Type 0
AreOffered parts = (held : Held) × (digest : Digest) × AreParts held digest parts

-- the longest prefix within the budget, of a listing of all that is available, in which each owner's items keep their
-- order
pub record IsDeltaBy (IsListing : List Offered → Type 0) (budget : ℕ) (held : Held) (digest : Digest) (blocks : List Block) : Type 0 where
  pub offered : List Offered
  pub available : items_of_all offered ≡ available_for held digest
  pub ranks : AreRanked offered
  pub listed : List Offered
  pub each_once : IsPermutation offered listed
  pub order : IsListing listed
  pub each : (owner : List ℕ) → of_owner owner (items_of_all listed) ≡ of_owner owner (available_for held digest)
  pub cut : IsCut budget (items_of_all listed) blocks
