-- A delta that is being made from the items of a list, one after another.
use Rattle.std.specs.Prelude.{◌≡◌, ℕ, ◌+◌, ◌<◌, ◌≤◌, Bool, true, false, List, [], ◌∷◌, ◌++◌, length, map}
use Rattle.sb_types.specs.declared.limits.TheConstants.{BUDGET_LEAST, BUDGET_MOST}
use Rattle.sb_types.specs.Records.{Block}
use Rattle.sb_budget.specs.declared.head.Head.{Head}
use Rattle.sb_budget.specs.declared.offered.Offered.{Offered}
use Rattle.sb_budget.specs.Offers.{Item}
use Rattle.sb_budget.specs.Cut.{blocks_of, delta_frame_length}
use Rattle.sb_budget.specs.BlocksByOwner.{lowered_of}

-- its blocks, and the bytes that are left in its frame
pub record Making : Type 0 where
  pub blocks : List Block
  pub room : ℕ

abbrev pub head_of : Offered → Head
head_of o = record { owner = o.owner; floor = o.floor; after = o.after; upto = o.upto }

-- this prefix was taken, and nothing was left out
pub record IsFrontOf (budget : ℕ) (front : List Item) (making : Making) : Type 0 where
  pub least : BUDGET_LEAST ≤ budget
  pub most : budget ≤ BUDGET_MOST
  pub blocks : making.blocks ≡ blocks_of front []
  pub room : delta_frame_length making.blocks + making.room ≡ budget

-- if the next item is taken, the prefix is longer by it; if it does not fit, the prefix stays, and is not empty
abbrev pub AfterNext : ℕ → List Item → Item → Bool → Making → Type 0
AfterNext budget front next true making = IsFrontOf budget (front ++ next ∷ []) making
AfterNext budget front next false making =
    IsFrontOf budget front making × (0 < length front) × (budget < delta_frame_length (blocks_of (front ++ next ∷ []) []))

-- an owner's block now ends at its last entry
abbrev pub left_by : List ℕ → Making → Making
left_by owner making = record { blocks = map (λ b. lowered_of owner b) making.blocks; room = making.room }

-- of the items so far a prefix was taken, the next did not fit, and that and all after it were left out
pub record IsStopped (budget : ℕ) (items : List Item) (making : Making) : Type 0 where
  pub most : budget ≤ BUDGET_MOST
  pub front : List Item
  pub next : Item
  pub rest : List Item
  pub whole : front ++ next ∷ rest ≡ items
  pub some : 0 < length front
  pub blocks : making.blocks ≡ blocks_of front (next ∷ rest)
  pub fits : delta_frame_length (blocks_of front []) ≤ budget
  pub full : budget < delta_frame_length (blocks_of (front ++ next ∷ []) [])

-- all items so far were taken, or all from one on that did not fit were left out
abbrev pub IsTaking : ℕ → List Item → Bool → Making → Type 0
IsTaking budget items false making = IsFrontOf budget items making
IsTaking budget items true making = IsStopped budget items making
