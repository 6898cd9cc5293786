-- A delta in the making, as what is gathered of a front.
use Rattle.std.proofs.Common.{◌≡◌, ℕ, ◌+◌, ◌<◌, ◌≤◌, true, false, List, [], ◌∷◌, ◌++◌, length, refl, sym, ap, ◌∙◌, arith, Result}
use Rattle.std.specs.Prelude.{sum_by}
use Rattle.std.specs.List.Sorted.{IsSearchInRange, IsBinarySearchResult}
use Rattle.sb_types.specs.declared.limits.TheConstants.{BUDGET_LEAST, BUDGET_MOST}
use Rattle.sb_types.specs.Records.{Block}
use Rattle.sb_types.specs.Lengths.{block_length}
use Rattle.sb_types.specs.Limits.{are_owners_above}
use Rattle.sb_budget.specs.Offers.{Item}
use Rattle.sb_budget.specs.Cut.{blocks_of, delta_frame_length}
use Rattle.sb_budget.specs.BlocksByOwner.{blocks_with_item, cost_of}
use Rattle.sb_budget.specs.Making.{Making, IsFrontOf, AfterNext}
use Rattle.sb_budget.proofs.PlaceLemmas.{text_cmp, joined, placed_is_joined, placed_length}
use Rattle.sb_budget.proofs.GatherLemmas.{gathered_is, gathered_push, all_ordered}

pub front_none : (budget room : ℕ) → BUDGET_LEAST ≤ budget → budget ≤ BUDGET_MOST → 9 + room ≡ budget → IsFrontOf budget [] (record { blocks = []; room = room })
front_none budget room least most e = record { least = least; most = most; blocks = refl; room = omega (arith, e) }

-- the first item always fits
begun_short : (budget cost : ℕ) (front : List Item) (making : Making) → IsFrontOf budget front making → cost ≤ 1015 → making.room < cost → 0 < length front
begun_short budget cost [] making is few short = absurd (omega (arith, is.room, ap delta_frame_length is.blocks, is.least, few, short))
begun_short budget cost (x ∷ xs) making is few short = omega arith

module _ (budget : ℕ) (front : List Item) (next : Item) (old : Making) (up : are_owners_above [] old.blocks ≡ true) (is : IsFrontOf budget front old)
    (place : Result ℕ ℕ) (bound : IsSearchInRange place (length old.blocks)) (found : IsBinarySearchResult (λ (b : Block). text_cmp b.owner next.owner) old.blocks place) where
  placed_front : blocks_with_item place next old.blocks ≡ blocks_of (front ++ next ∷ []) []
  placed_front =
      placed_is_joined next old.blocks place up bound found ∙ ap (joined next) (is.blocks ∙ gathered_is front)
      ∙ sym (gathered_push front next (all_ordered front)) ∙ sym (gathered_is (front ++ next ∷ []))

  -- it does not fit
  pub next_left : cost_of next place ≤ 1015 → old.room < cost_of next place → AfterNext budget front next false old
  next_left few short = (
    is,
    begun_short budget (cost_of next place) front old is few short,
    omega (arith, is.room, short, placed_length next old.blocks place bound, ap (sum_by block_length) placed_front),
  )

  -- it is taken
  pub next_taken : (left : ℕ) → left + cost_of next place ≡ old.room → AfterNext budget front next true (record { blocks = blocks_with_item place next old.blocks; room = left })
  next_taken left takes = record {
    least = is.least;
    most = is.most;
    blocks = placed_front;
    room = omega (arith, is.room, takes, placed_length next old.blocks place bound);
  }
