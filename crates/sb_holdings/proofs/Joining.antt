-- What a block and an own write do to the shown table.
use Rattle.std.proofs.Common.{◌≡◌, ℕ, ◌+◌, ◌<◌, ◌≤◌, max, List, [], ◌∷◌, inl, inr, ⊎_elim, refl, ap, subst, Option, Some, None, IfSome, ◌&&◌, ◌||◌, nat_lt, nat_le, nat_eq, arith, ltb-true, eqb-true, lt-ltb}
use Rattle.std.proofs.lemmas.Bool.{and_from, and_parts, cond_both, leb-true}
use Rattle.sb_types.proofs.Live.{live-above, live-entered, live-live}
use Rattle.sb_types.specs.declared.entry.Write.{Write}
use Rattle.sb_types.specs.Records.{Entry, Stage, Block, Holder}
use Rattle.sb_types.specs.Runs.{is_set, live_entries, entries_after, IsRun}
use Rattle.sb_types.specs.Writes.{Written, Tells, HoldsStage, Honest, IsHolder}
use Rattle.sb_table.specs.Plain.{with_entry}
use Rattle.sb_table.specs.Floors.{table_at_floor}
use Rattle.sb_holdings.specs.Shown.{stage_beyond, shown_with, holder_after_write, own_purged}
use Rattle.sb_types.proofs.Standing.{of_live, of_entered}
use Rattle.sb_table.proofs.Order.{run_after, run_order, run_kept, run_entered}
use Rattle.sb_holdings.proofs.Telling.{tells_live, tells_raised, tells_raised_below, tells_entered, one_write, within_writes}
use Rattle.sb_holdings.proofs.Parts.{IsPart}
use Rattle.sb_holdings.proofs.Steps.{Step, unchanged}

beyond_is : (before held : ℕ) (o : Option Stage) → IfSome o (λ s. IsRun 0 s.progress s.entries × (before < s.floor)) → IfSome (stage_beyond held o) (λ s. IsRun 0 s.progress s.entries × (held < s.floor))
beyond_is before held None p = tt
beyond_is before held (Some s) p =
    cond_both (nat_lt held s.floor) (Some s) None (λ o. IfSome o (λ s. IsRun 0 s.progress s.entries × (held < s.floor))) (λ l. (p.0, ltb-true held s.floor l)) (λ _. tt)

beyond_holds : (writes : List Write) (held : ℕ) (o : Option Stage) → IfSome o (HoldsStage writes) → IfSome (stage_beyond held o) (HoldsStage writes)
beyond_holds writes held None p = tt
beyond_holds writes held (Some s) p = cond_both (nat_lt held s.floor) (Some s) None (λ o. IfSome o (HoldsStage writes)) (λ _. p) (λ _. tt)

joined_tells : {writes : List Write} {before floor held upto : ℕ} {entries others : List Entry} → IsRun 0 held entries → IsRun held upto others → before ≤ held → floor ≤ held → Tells writes before 0 held entries → Tells writes floor held upto others → Tells writes (max before floor) 0 upto (entries_after (live_entries (max before floor) entries) others)
joined_tells {before = before} {floor = floor} r q l m t n =
    tells_entered (run_kept _ r) q
    (tells_live (tells_raised (max before floor) (omega arith) (omega arith) r t))
    (tells_raised_below (max before floor) (omega arith) (omega arith) q n)

pub shown_step : (writes : List Write) (h : Holder) (b p : Block) → IsHolder h → IsPart b h.shown.held p → b.floor ≤ h.shown.held → Step writes (Honest writes b) h (shown_with h p)
shown_step writes h b p i part l = record {
  is = record {
    shown = record {
      run = run_entered (run_kept _ i.shown.run) part.run;
      floor = omega (arith, i.shown.floor, part.floor, run_order part.run);
      live =
          let floor = max h.shown.floor p.floor in
          live-entered floor (live_entries floor h.shown.entries) p.entries (live-live floor h.shown.entries)
          (live-above floor h.shown.held p.entries (omega (arith, i.shown.floor, part.floor)) part.run.ascending);
    };
    stage = beyond_is h.shown.held p.upto h.stage i.stage;
  };
  onward = record {
    held = run_order part.run;
    each = λ e s. ⊎_elim (λ old. inl (of_live _ h.shown.entries e old)) (λ new. inr (run_after e part.run new)) (of_entered _ p.entries e s);
  };
  holds = λ honest t. record {
    shown = joined_tells i.shown.run part.run i.shown.floor (omega (arith, part.floor)) t.shown (part.honest writes honest);
    stage = beyond_holds writes p.upto h.stage t.stage;
  };
}

one_run : (held : ℕ) (e : Entry) → held < e.version → IsRun held e.version (e ∷ [])
one_run held e l = record { ascending = and_from _ _ (lt-ltb held e.version l) refl; most = omega arith; distinct = refl }

one_tells : {writes : List Write} (floor held : ℕ) (e : Entry) → floor ≤ held → e.version ≡ held + 1 → Written writes e → Tells writes floor held e.version (e ∷ [])
one_tells floor held e l v w = record {
  reach = within_writes e w;
  reach_floor = omega (arith, within_writes e w);
  true_each = λ x s. ⊎_elim (λ p. subst (Written _) p w) (λ none. absurd none) s;
  whole = λ x y lo hi. inl (inl (one_write e x w y (omega arith)));
  past = λ x y z g s k o. ⊎_elim (λ p. absurd (omega (arith, o, g.1, ap (λ (a : Entry). a.version) p))) (λ none. absurd none) s;
}

pub own_step : (writes : List Write) (h : Holder) (e : Entry) → IsHolder h → Step writes (Written writes e) h (holder_after_write h e)
own_step writes h e i = cond_both (nat_eq e.version (h.shown.held + 1)) _ h (Step writes (Written writes e) h) (λ is. next (eqb-true e.version (h.shown.held + 1) is)) (λ _. unchanged i)
  where
    next : e.version ≡ h.shown.held + 1 → Step writes (Written writes e) h (record { shown = with_entry h.shown e; stage = stage_beyond e.version h.stage })
    next v =
        let l : h.shown.held < e.version = omega arith in
        let one = one_run h.shown.held e l in
        record {
          is = record {
            shown = record {
              run = run_entered i.shown.run one;
              floor = omega (arith, i.shown.floor);
              live = live-entered h.shown.floor h.shown.entries (e ∷ []) i.shown.live (live-above h.shown.floor h.shown.held (e ∷ []) i.shown.floor one.ascending);
            };
            stage = beyond_is h.shown.held e.version h.stage i.stage;
          };
          onward = record {
            held = omega arith;
            each = λ x s. ⊎_elim inl (λ new. inr (run_after x one new)) (of_entered h.shown.entries (e ∷ []) x s);
          };
          holds = λ w t. record {
            shown = tells_entered i.shown.run one t.shown (one_tells h.shown.floor h.shown.held e i.shown.floor v w);
            stage = beyond_holds writes e.version h.stage t.stage;
          };
        }

pub purge_step : (writes : List Write) (h : Holder) (floor : ℕ) → IsHolder h → Step writes (Unit {0}) h (own_purged floor h)
purge_step writes h floor i =
    cond_both (nat_lt h.shown.floor floor && nat_le floor h.shown.held) (record { shown = table_at_floor h.shown.held floor h.shown; stage = h.stage }) h (Step writes (Unit {0}) h)
    (λ is. let parts = and_parts (nat_lt h.shown.floor floor) (nat_le floor h.shown.held) is in higher (ltb-true h.shown.floor floor parts.0) (leb-true floor h.shown.held parts.1))
    (λ _. unchanged i)
  where
    higher : h.shown.floor < floor → floor ≤ h.shown.held → Step writes (Unit {0}) h (record { shown = table_at_floor h.shown.held floor h.shown; stage = h.stage })
    higher l m = record {
      is = record {
        shown = record { run = run_kept (λ e. is_set e.slot || nat_lt floor e.version) i.shown.run; floor = m; live = live-live floor h.shown.entries };
        stage = i.stage;
      };
      onward = record { held = omega arith; each = λ e s. inl (of_live floor h.shown.entries e s) };
      holds = λ _ t. record { shown = tells_live (tells_raised floor (omega (arith, l)) m i.shown.run t.shown); stage = t.stage };
    }
