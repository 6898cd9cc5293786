-- Owners that a node forgets: which blocks of a delta it is handed, and which ends the peer's session sees.
use Rattle.std.proofs.Common.{◌≡◌, ◌⊎◌, inl, inr, ⊎_elim, ℕ, Bool, true, false, not, refl, List, [], ◌∷◌, ◌++◌, take, drop, filter, nat_eq, if◌then◌else◌, Option, Result, Ok, Err}
use Rattle.std.specs.List.{list_any}
use Rattle.std.specs.Cmp.Lexicographic.{pointwise}
use Rattle.sb_types.specs.declared.fault.Fault.{Fault}
use Rattle.sb_types.specs.declared.fault.Fault.TheVariants.{NoMemory}
use Rattle.sb_types.specs.Records.{Block}
use Rattle.sb_holdings.specs.declared.ends.BlockEnd.{BlockEnd}
use Rattle.sb_holdings.specs.declared.ends.BlockEnd.TheVariants.{OwnersFull}
use Rattle.sb_digest.specs.Digests.{Digest}
use Rattle.sb_session.specs.Handlers.{Act, tells, gives, applies, may_enter}

-- the owner is one of these
abbrev pub is_forgotten : List (List ℕ) → List ℕ → Bool
is_forgotten names owner = list_any (λ name. pointwise nat_eq name owner) names

-- the block is of one of these owners
abbrev pub is_left_out : List (List ℕ) → Block → Bool
is_left_out names b = is_forgotten names b.owner

-- a block of a delta is of one of these owners
abbrev pub has_forgotten : List (List ℕ) → List Block → Bool
has_forgotten names blocks = list_any (is_left_out names) blocks

-- the blocks of all other owners, in their order
abbrev pub kept_blocks : List (List ℕ) → List Block → List Block
kept_blocks names blocks = filter (λ b. not (is_left_out names b)) blocks

-- the names but this one
abbrev pub names_without : List ℕ → List (List ℕ) → List (List ℕ)
names_without own names = filter (λ name. not (pointwise nat_eq name own)) names

-- an end for each block: no room for a forgotten owner, and else the next of the ends of the kept blocks
abbrev pub told_ends : List (List ℕ) → List Block → List BlockEnd → List BlockEnd
told_ends names [] ends = []
told_ends names (b ∷ bs) ends =
    if is_left_out names b then OwnersFull ∷ told_ends names bs ends else take 1 ends ++ told_ends names bs (drop 1 ends)

-- no delta with a block of a forgotten owner is handed on as it is
abbrev pub PassesOn : List (List ℕ) → Act → Type 0
PassesOn names (tells from want answer) = Unit {0}
PassesOn names (gives digest answer) = Unit {0}
PassesOn names (applies blocks answer) = has_forgotten names blocks ≡ false

-- the handler within takes the kept blocks alone, and the others are as owners for which there is no room; or there is no memory for that, and
-- nothing is entered
abbrev pub LeavesOut : {H : Type 0} → List (List ℕ) → (H → Act → H → Type 0) → (H → H → Type 0) → (H → H → Type 0) → H → Act → H → Type 0
LeavesOut names step stays grows old (tells from want answer) new = ⊥
LeavesOut names step stays grows old (gives digest answer) new = ⊥
LeavesOut names step stays grows old (applies blocks (Ok ends)) new =
    (inner : List BlockEnd) × step old (applies (kept_blocks names blocks) (Ok inner)) new × (ends ≡ told_ends names blocks inner)
LeavesOut names step stays grows old (applies blocks (Err fault)) new =
    step old (applies (kept_blocks names blocks) (Err fault)) new ⊎ ((fault ≡ NoMemory) × (stays old new × grows old new))

-- a step of the handler within; or it is handed fewer blocks
abbrev pub ForgettingStep : {H : Type 0} → List (List ℕ) → (H → Act → H → Type 0) → (H → H → Type 0) → (H → H → Type 0) → H → Act → H → Type 0
ForgettingStep names step stays grows old act new = (PassesOn names act × step old act new) ⊎ LeavesOut names step stays grows old act new

module _ {H : Type 0} (names : List (List ℕ)) (step : H → Act → H → Type 0) (stays grows : H → H → Type 0) (old new : H) where
  -- what holds of each step of the handler within that enters nothing holds where blocks are left out and nothing is entered
  left-nothing : ((act : Act) → may_enter act ≡ false → step old act new → stays old new)
      → (act : Act) → may_enter act ≡ false → LeavesOut names step stays grows old act new → stays old new
  left-nothing nothing (tells from want answer) none out = absurd out
  left-nothing nothing (gives digest answer) none out = absurd out
  left-nothing nothing (applies blocks (Ok ends)) none out = absurd (cc)
  left-nothing nothing (applies blocks (Err fault)) none out =
      ⊎_elim (nothing (applies (kept_blocks names blocks) (Err fault)) refl) (λ short. short.1.0) out

  -- what each step of the handler within keeps true stays true where blocks are left out
  left-later : ((act : Act) → step old act new → grows old new) → (act : Act) → LeavesOut names step stays grows old act new → grows old new
  left-later later (tells from want answer) out = absurd out
  left-later later (gives digest answer) out = absurd out
  left-later later (applies blocks (Ok ends)) out = later (applies (kept_blocks names blocks) (Ok out.0)) out.1
  left-later later (applies blocks (Err fault)) out = ⊎_elim (later (applies (kept_blocks names blocks) (Err fault))) (λ short. short.1.1) out

  -- only a delta that was applied enters anything
  pub forgetting-nothing : ((act : Act) → may_enter act ≡ false → step old act new → stays old new)
      → (act : Act) → may_enter act ≡ false → ForgettingStep names step stays grows old act new → stays old new
  forgetting-nothing nothing act none took = ⊎_elim (λ own. nothing act none own.1) (left-nothing nothing act none) took

  -- and what stays true over each call of the handler within stays true
  pub forgetting-later : ((act : Act) → step old act new → grows old new) → (act : Act) → ForgettingStep names step stays grows old act new → grows old new
  forgetting-later later act took = ⊎_elim (λ own. later act own.1) (left-later later act) took
