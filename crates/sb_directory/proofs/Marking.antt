-- A node that takes the block by which it marks its own name is in conflict.
use Rattle.std.proofs.Common.{◌≡◌, ℕ, ◌≤◌, true, false, List, [], ◌∷◌, ◌++◌, inl, inr, ⊎_elim, ◌⊎◌, Option, Some, None, IsSome, refl, sym, ap, subst, ◌∙◌, arith}
use Rattle.std.proofs.lemmas.Bool.{false≢true}
use Rattle.std.proofs.lemmas.Cmp.{nat_list_eq_equiv}
use Rattle.sb_types.specs.Records.{Block}
use Rattle.sb_holdings.specs.declared.ends.BlockEnd.{BlockEnd}
use Rattle.sb_holdings.specs.declared.ends.BlockEnd.TheVariants.{Own, OwnAhead, Gap, Stale, OwnersFull, Taken, TooManyKeys, NoMemory}
use Rattle.sb_holdings.specs.Ends.{is_own, IsTaken, IsStaged}
use Rattle.sb_holdings.specs.Nodes.{Node, Took, node_after_event, replay_node, greater_version}
use Rattle.sb_holdings.specs.Treats.{Treats, took_each}
use Rattle.sb_views.specs.declared.event.Event.{Event}
use Rattle.sb_views.specs.declared.event.Event.TheVariants.{Applied}
use Rattle.sb_views.specs.Histories.{node_after}
use Rattle.sb_directory.specs.Audits.{mark_of}
use Rattle.sb_directory.proofs.Keeping.{node-delta}

is_greater : (known : Option ℕ) (version : ℕ) → IsSome (greater_version known version)
is_greater None version = refl
is_greater (Some other) version = refl

module _ (node : Node) where
  own : is_own node.held (mark_of node) ≡ true
  own = nat_list_eq_equiv.refl node.held.me

  no_other : is_own node.held (mark_of node) ≡ false → ⊥
  no_other other = false≢true (sym other ∙ own)

  not_taken : (end : BlockEnd) → IsTaken node.held (mark_of node) end ⊎ IsStaged node.held (mark_of node) end → ⊥
  not_taken end = ⊎_elim (λ t. no_other t.joins.other) (λ s. no_other s.joins.other)

  -- however the ends are said, the mark is ahead
  ahead : (ends : List BlockEnd) → Treats node (mark_of node ∷ []) ends → IsSome (replay_node node (took_each (mark_of node ∷ []) ends)).conflict
  ahead [] t = absurd t
  ahead (Own ∷ ends) t = absurd (omega (arith, t.0.1))
  ahead (OwnAhead version ∷ ends) t = is_greater node.conflict version
  ahead (Gap ∷ ends) t = absurd (no_other t.0.0)
  ahead (Stale ∷ ends) t = absurd (no_other t.0.0)
  ahead (OwnersFull ∷ ends) t = absurd (⊎_elim (λ j. no_other j.other) (λ s. no_other s.1.other) t.0.0)
  ahead (Taken n ∷ ends) t = absurd (not_taken (Taken n) t.0)
  ahead (TooManyKeys n ∷ ends) t = absurd (not_taken (TooManyKeys n) t.0)
  ahead (NoMemory n ∷ ends) t = absurd (not_taken (NoMemory n) t.0)

pub marked : (opening core : Node) (history : List Event) (blocks : List Block) (ends : List BlockEnd) (last_call : List Event) → core ≡ node_after opening history
    → blocks ≡ mark_of core ∷ [] → Treats (node_after opening history) blocks ends → last_call ≡ history ++ Applied blocks ends ∷ []
    → IsSome (node_after opening last_call).conflict
marked opening core history blocks ends last_call same mark treats longer =
    let node = node_after opening history in
    let own_mark : blocks ≡ mark_of node ∷ [] = mark ∙ ap (λ (n : Node). mark_of n ∷ []) same in
    let conflict = ahead node ends (subst (λ (bs : List Block). Treats node bs ends) own_mark treats) in
    let after : node_after opening last_call ≡ replay_node node (took_each (mark_of node ∷ []) ends) =
    ap (node_after opening) longer ∙ node-delta opening history blocks ends ∙ ap (λ (bs : List Block). replay_node node (took_each bs ends)) own_mark in
    subst (λ (n : Node). IsSome n.conflict) (sym after) conflict
