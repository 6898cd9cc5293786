-- Which blocks of a delta are left without those of forgotten owners.
use Rattle.std.proofs.Common.{◌≡◌, ℕ, true, false, not, List, [], ◌∷◌, Ok, ⊎_elim, refl, sym, ap, subst}
use Rattle.std.proofs.lemmas.Bool.{not-true, or_parts}
use Rattle.sb_types.specs.Records.{Block}
use Rattle.sb_types.specs.Runs.{Stands}
use Rattle.sb_types.proofs.Standing.{kept, of_kept}
use Rattle.sb_holdings.specs.declared.ends.BlockEnd.{BlockEnd}
use Rattle.sb_session.specs.Handlers.{Act, applies}
use Rattle.sb_session.specs.Received.{IsPartOf}
use Rattle.sb_handlers.specs.declared.gate.GatePoint.{GatePoint}
use Rattle.sb_handlers.specs.Forgetting.{is_forgotten, is_left_out, has_forgotten, kept_blocks, ForgettingStep}
use Rattle.sb_handlers.specs.Gates.{GatedStep}

pub blocks_out : (names : List (List ℕ)) (blocks : List Block) (b : Block) → Stands (kept_blocks names blocks) b → Stands blocks b × (is_forgotten names b.owner ≡ false)
blocks_out names blocks b s =
    let r = of_kept (λ x. not (is_left_out names x)) blocks b s in
    (r.0, not-true (is_left_out names b) r.1)

pub blocks_kept : (names : List (List ℕ)) (blocks : List Block) (b : Block) → Stands blocks b → is_forgotten names b.owner ≡ false → Stands (kept_blocks names blocks) b
blocks_kept names blocks b s is = kept (λ x. not (is_left_out names x)) blocks b s (ap not is)

-- what is left is a part of the delta
pub kept_part : (names : List (List ℕ)) (blocks left : List Block) → left ≡ kept_blocks names blocks → IsPartOf left blocks
kept_part names blocks left is b s = (blocks_out names blocks b (subst (λ (bs : List Block). Stands bs b) is s)).0

-- where no block is of a forgotten owner, all are left
all_kept : (names : List (List ℕ)) (blocks : List Block) → has_forgotten names blocks ≡ false → kept_blocks names blocks ≡ blocks
all_kept names [] none = refl
all_kept names (b ∷ bs) none =
    let parts = or_parts (is_left_out names b) (has_forgotten names bs) none in
    rw (ap not parts.0) (ap (λ (rest : List Block). b ∷ rest) (all_kept names bs parts.1))

-- the handler within takes what is left of the delta
pub forgetting_applies : {H : Type 0} (names : List (List ℕ)) (step : H → Act → H → Type 0) (stays grows : H → H → Type 0) (old new : H) (blocks : List Block) (ends : List BlockEnd)
    → ForgettingStep names step stays grows old (applies blocks (Ok ends)) new → (inner : List BlockEnd) × step old (applies (kept_blocks names blocks) (Ok inner)) new
forgetting_applies names step stays grows old new blocks ends took =
    ⊎_elim (λ own. (ends, subst (λ (bs : List Block). step old (applies bs (Ok ends)) new) (sym (all_kept names blocks own.0)) own.1)) (λ out. (out.0, out.1)) took

-- behind a gate the handler within takes the delta that was taken
pub gated_applies : {H : Type 0} (lets turns_away : GatePoint → Type 0) (step : H → Act → H → Type 0) (stays grows : H → H → Type 0) (old new : H) (blocks : List Block)
    (ends : List BlockEnd) → GatedStep lets turns_away step stays grows old (applies blocks (Ok ends)) new → step old (applies blocks (Ok ends)) new
gated_applies lets turns_away step stays grows old new blocks ends took = ⊎_elim (λ own. own.1) (λ turned. absurd cc (turned.0.0)) took
