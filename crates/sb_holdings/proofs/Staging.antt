-- What a block does to the stage.
use Rattle.std.proofs.Common.{◌≡◌, ℕ, ◌<◌, ◌≤◌, true, cond, List, [], refl, sym, ◌∙◌, Option, Some, None, IfSome, nat_lt, nat_le, nat_eq, arith, ltb-true, leb-true, eqb-true}
use Rattle.std.proofs.lemmas.Bool.{and_parts, cond_both}
use Rattle.sb_types.proofs.Live.{live-live}
use Rattle.sb_types.specs.declared.entry.Write.{Write}
use Rattle.sb_types.specs.Records.{Entry, Stage, Block, Holder}
use Rattle.sb_types.specs.Runs.{entries_after, IsRun, IsBlock}
use Rattle.sb_types.specs.Writes.{Tells, HoldsStage, Honest, IsHolder, HolderHolds}
use Rattle.sb_table.specs.Floors.{table_after_swap}
use Rattle.sb_holdings.specs.Stages.{new_stage, goes_on, new_stage_of, stage_for, stage_with, holder_after_stage}
use Rattle.sb_table.proofs.Order.{run_entered}
use Rattle.sb_holdings.proofs.Telling.{tells_entered}
use Rattle.sb_holdings.proofs.Swapping.{swapped_run, swapped_tells, swapped_each}
use Rattle.sb_holdings.proofs.Parts.{IsPart}
use Rattle.sb_holdings.proofs.Steps.{Step, stays}

-- the block joins the stage
pub record Joins (h : Holder) (b : Block) (s : Stage) : Type 0 where
  pub run : IsRun 0 s.progress s.entries
  pub beyond : h.shown.held < s.floor
  pub floor : s.floor ≡ b.floor
  pub after : b.after ≤ s.progress
  pub order : s.progress < b.upto
  pub holds : (writes : List Write) → Honest writes b → HolderHolds writes h → HoldsStage writes s

empty_run : IsRun 0 0 []
empty_run = record { ascending = refl; most = omega arith; distinct = refl }

empty_tells : {writes : List Write} {floor after upto : ℕ} {entries : List Entry} → Tells writes floor after upto entries → Tells writes floor 0 0 []
empty_tells t = record {
  reach = omega arith;
  reach_floor = t.reach_floor;
  true_each = λ e s. absurd s;
  whole = λ e w lo hi. absurd (omega arith);
  past = λ e x w g s k o. absurd s;
}

module _ (h : Holder) (b : Block) (i : IsHolder h) (is : IsBlock b) (beyond : h.shown.held < b.floor) where
  begins_joins : IfSome (new_stage_of b) (Joins h b)
  begins_joins = cond_both (nat_eq b.after 0) (Some (new_stage b.floor)) None (λ o. IfSome o (Joins h b)) (λ zero. new (eqb-true b.after 0 zero)) (λ _. tt)
    where
      new : b.after ≡ 0 → Joins h b (new_stage b.floor)
      new z = record {
        run = empty_run;
        beyond = beyond;
        floor = refl;
        after = omega arith;
        order = omega (arith, is.order);
        holds = λ writes honest t. empty_tells honest;
      }

  goes_on_joins : (s : Stage) → h.stage ≡ Some s → goes_on s b ≡ true → Joins h b s
  goes_on_joins s e g =
      let parts = and_parts _ _ g in
      let more = and_parts _ _ parts.1 in
      let known = rw e at i.stage in
      record {
        run = known.0;
        beyond = known.1;
        floor = eqb-true s.floor b.floor parts.0;
        after = leb-true b.after s.progress more.0;
        order = ltb-true s.progress b.upto more.1;
        holds = λ writes honest t. rw e at t.stage;
      }

  pub stage_joins : (o : Option Stage) → h.stage ≡ o → IfSome (stage_for o b) (Joins h b)
  stage_joins None e = begins_joins
  stage_joins (Some s) e =
      cond_both (goes_on s b) (Some s) (cond (nat_lt s.floor b.floor) (new_stage_of b) None) (λ o. IfSome o (Joins h b))
      (goes_on_joins s e)
      (λ _. cond_both (nat_lt s.floor b.floor) (new_stage_of b) None (λ o. IfSome o (Joins h b)) (λ _. begins_joins) (λ _. tt))

pub dropped : {writes : List Write} {assumed : Type 0} (h : Holder) → IsHolder h → Step writes assumed h (record { shown = h.shown; stage = None })
dropped h i = record {
  is = record { shown = i.shown; stage = tt };
  onward = stays h.shown;
  holds = λ _ t. record { shown = t.shown; stage = tt };
}

module _ (writes : List Write) (h : Holder) (b p : Block) (s : Stage) (i : IsHolder h) (j : Joins h b s) (part : IsPart b s.progress p) where
  with_run : IsRun 0 p.upto (entries_after s.entries p.entries)
  with_run = run_entered j.run part.run

  with_tells : Honest writes b → HolderHolds writes h → HoldsStage writes (stage_with s p)
  with_tells honest t =
      let new : Tells writes s.floor s.progress p.upto p.entries = rw (part.floor ∙ sym j.floor) at (part.honest writes honest) in
      tells_entered j.run part.run (j.holds writes honest t) new

  pub stage_step : Step writes (Honest writes b) h (record { shown = h.shown; stage = Some (stage_with s p) })
  stage_step = record {
    is = record { shown = i.shown; stage = (with_run, j.beyond) };
    onward = stays h.shown;
    holds = λ honest t. record { shown = t.shown; stage = with_tells honest t };
  }

  swap_step : s.floor ≤ p.upto → Step writes (Honest writes b) h (record { shown = table_after_swap h.shown (stage_with s p); stage = None })
  swap_step l = record {
    is = record {
      shown = record { run = swapped_run i.shown.run with_run s.floor (omega (arith, j.beyond)); floor = l; live = live-live s.floor _ };
      stage = tt;
    };
    onward = record {
      held = omega (arith, j.beyond);
      each = swapped_each s.floor h.shown.held h.shown.entries (entries_after s.entries p.entries);
    };
    holds = λ honest t. record {
      shown = swapped_tells i.shown.run with_run i.shown.floor j.beyond t.shown (with_tells honest t);
      stage = tt;
    };
  }

  pub settled_step : Step writes (Honest writes b) h (holder_after_stage h (stage_with s p))
  settled_step = cond_both (nat_le s.floor p.upto) _ _ (Step writes (Honest writes b) h) (λ l. swap_step (leb-true s.floor p.upto l)) (λ _. stage_step)
