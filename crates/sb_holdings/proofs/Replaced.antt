-- What is found of an owner whose holder was replaced.
use Rattle.std.proofs.Common.{◌≡◌, ℕ, Bool, true, false, cond, List, Some, None, ap, ◌∙◌, nat_eq}
use Rattle.std.proofs.lemmas.Cmp.{nat_list_cmp_total}
use Rattle.std.specs.Ordering.{nat_cmp}
use Rattle.std.specs.Cmp.Lexicographic.{pointwise, slice_cmp}
use Rattle.std.specs.FinMap.{FinMap, get, insert, remove, get-insert, get-remove}
use Rattle.sb_types.specs.Records.{Holder}
use Rattle.sb_holdings.specs.Held.{is_nothing, with_holder}
use Rattle.sb_holdings.proofs.Nodes.{same_test}

module _ (owners : FinMap (slice_cmp nat_cmp) Holder) (owner name : List ℕ) (h : Holder) where
  get-put : (b : Bool) → get (cond b (remove owners owner) (insert owners owner h)) name ≡ cond (pointwise nat_eq name owner) (cond b None (Some h)) (get owners name)
  get-put true = get-remove nat_list_cmp_total owners owner name ∙ ap (λ (same : Bool). cond same None (get owners name)) (same_test owners owner h name)
  get-put false = get-insert nat_list_cmp_total owners owner h name ∙ ap (λ (same : Bool). cond same (Some h) (get owners name)) (same_test owners owner h name)

  pub get-with_holder : get (with_holder owners owner h) name ≡ cond (pointwise nat_eq name owner) (cond (is_nothing h) None (Some h)) (get owners name)
  get-with_holder = get-put (is_nothing h)
