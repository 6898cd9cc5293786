-- What a node sends to a peer that sent a digest.
use Rattle.std.specs.Prelude.{◌≡◌, ℕ, List, IsPermutation, IsSorted}
use Rattle.sb_types.specs.declared.settings.Order.{Order}
use Rattle.sb_types.specs.declared.settings.Order.TheVariants as orders
use Rattle.sb_types.specs.Records.{Block, Settings}
use Rattle.sb_holdings.specs.Held.{Held}
use Rattle.sb_digest.specs.Digests.{Digest}
use Rattle.sb_budget.specs.declared.offered.Offered.{Offered}
use Rattle.sb_budget.specs.Available.{available_for, AreRanked}
use Rattle.sb_budget.specs.Offers.{Item, of_owner}
use Rattle.sb_budget.specs.Cut.{items_of_all, IsCut}
use Rattle.sb_breadth.specs.Breadth.{by_rank}
use Rattle.sb_depth.specs.Depth.{by_count}

-- the items are in the order of the settings
abbrev pub IsListedBy : Order → List Offered → Type 0
IsListedBy orders.Breadth items = IsSorted by_rank items
IsListedBy orders.Depth items = IsSorted by_count items

-- of all that is available, each item once, in the order of the settings, the longest prefix within their budget
pub record IsDelta (settings : Settings) (held : Held) (digest : Digest) (blocks : List Block) : Type 0 where
  pub offered : List Offered
  pub available : items_of_all offered ≡ available_for held digest
  pub ranks : AreRanked offered
  pub listed : List Offered
  pub each_once : IsPermutation offered listed
  pub order : IsListedBy settings.order listed
  pub cut : IsCut settings.budget (items_of_all listed) blocks

-- the same for any order: the longest prefix within the budget, of a list in which each owner's items keep their order
pub record IsAnswer (budget : ℕ) (held : Held) (digest : Digest) (blocks : List Block) : Type 0 where
  pub items : List Item
  pub each : (owner : List ℕ) → of_owner owner items ≡ of_owner owner (available_for held digest)
  pub cut : IsCut budget items blocks
