-- What a block leaves of one owner, by its end.
use Rattle.std.proofs.Common.{ℕ, zero, suc, ◌≤◌, List, length, refl, Option, Some, None, IfSome, nat_lt, arith, ltb-true, leb-true}
use Rattle.std.proofs.lemmas.Bool.{and_parts, cond_both}
use Rattle.sb_types.specs.declared.entry.Write.{Write}
use Rattle.sb_types.specs.Records.{Stage, Block, Holder}
use Rattle.sb_types.specs.Runs.{newer_entries, IsBlock}
use Rattle.sb_types.specs.Writes.{Honest, IsHolder}
use Rattle.sb_holdings.specs.declared.ends.BlockEnd.{BlockEnd}
use Rattle.sb_holdings.specs.declared.ends.BlockEnd.TheVariants.{Own, OwnAhead, Gap, Stale, OwnersFull, Taken, TooManyKeys, NoMemory}
use Rattle.sb_holdings.specs.Blocks.{part_above, leading_part}
use Rattle.sb_holdings.specs.Shown.{joins_shown, shown_with}
use Rattle.sb_holdings.specs.Stages.{stage_for, staged_all, staged_front, staged_refused}
use Rattle.sb_holdings.specs.Taken.{holder_by_route, holder_after_block}
use Rattle.sb_holdings.proofs.Parts.{IsPart, part_is, front_is}
use Rattle.sb_holdings.proofs.Steps.{Step, unchanged}
use Rattle.sb_holdings.proofs.Joining.{shown_step}
use Rattle.sb_holdings.proofs.Staging.{Joins, stage_joins, stage_step, settled_step, dropped}

module _ (writes : List Write) (h : Holder) (b : Block) (i : IsHolder h) (is : IsBlock b) where
  staged_all_step : (o : Option Stage) → IfSome o (Joins h b) → Step writes (Honest writes b) h (staged_all h b o)
  staged_all_step None j = unchanged i
  staged_all_step (Some s) j =
      settled_step writes h b (part_above s.progress b) s i j (part_is b s.progress is j.after (omega (arith, j.order)))

  staged_front_step : (n : ℕ) (o : Option Stage) → IfSome o (Joins h b) → Step writes (Honest writes b) h (staged_front n h b o)
  staged_front_step zero o j = unchanged i
  staged_front_step (suc n) None j = unchanged i
  staged_front_step (suc n) (Some s) j =
      stage_step writes h b (leading_part (suc n) (part_above s.progress b)) s i j (front_is (suc n) b s.progress is j.after (omega (arith, j.order)))

  staged_refused_step : (n : ℕ) (o : Option Stage) → IfSome o (Joins h b) → Step writes (Honest writes b) h (staged_refused n h b o)
  staged_refused_step n None j = unchanged i
  staged_refused_step n (Some s) j =
      cond_both (nat_lt n (length (newer_entries s.progress b.entries))) _ _ (Step writes (Honest writes b) h) (λ _. staged_front_step n (Some s) j) (λ _. dropped h i)

  routed_step : (p : Block) (staged : Option Stage → Holder) →
      (b.after ≤ h.shown.held → h.shown.held ≤ b.upto → IsPart b h.shown.held p) →
      ((o : Option Stage) → IfSome o (Joins h b) → Step writes (Honest writes b) h (staged o)) →
      Step writes (Honest writes b) h (holder_by_route h b (shown_with h p) staged)
  routed_step p staged to_shown to_stage =
      cond_both (joins_shown h.shown b) (shown_with h p) _ (Step writes (Honest writes b) h)
      (λ joins.
      let parts = and_parts _ _ joins in
      let more = and_parts _ _ parts.1 in
      let new = ltb-true h.shown.held b.upto more.1 in
      shown_step writes h b p i (to_shown (leb-true b.after h.shown.held more.0) (omega (arith, new))) (leb-true b.floor h.shown.held parts.0))
      (λ _. cond_both (nat_lt h.shown.held b.floor) _ h (Step writes (Honest writes b) h)
      (λ beyond. to_stage (stage_for h.stage b) (stage_joins h b i is (ltb-true h.shown.held b.floor beyond) h.stage refl))
      (λ _. unchanged i))

  pub treat_step : (end : BlockEnd) → Step writes (Honest writes b) h (holder_after_block h b end)
  treat_step Own = unchanged i
  treat_step (OwnAhead upto) = unchanged i
  treat_step Gap = unchanged i
  treat_step Stale = unchanged i
  treat_step OwnersFull = unchanged i
  treat_step (Taken n) = routed_step _ _ (part_is b h.shown.held is) staged_all_step
  treat_step (TooManyKeys n) = routed_step _ _ (front_is n b h.shown.held is) (staged_front_step n)
  treat_step (NoMemory n) = routed_step _ _ (front_is n b h.shown.held is) (staged_refused_step n)
