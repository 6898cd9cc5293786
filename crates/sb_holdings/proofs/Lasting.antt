-- What is told stays true as more is written.
use Rattle.std.proofs.Common.{◌≡◌, ℕ, zero, suc, ◌<◌, ◌≤◌, ◌-◌, List, [], ◌∷◌, ◌++◌, length, inl, inr, ⊎_elim, refl, sym, ◌∙◌, Option, Some, None, IfSome, slice_get, arith, length-append}
use Rattle.std.proofs.lemmas.Option.{slice_get_within}
use Rattle.sb_types.specs.declared.entry.Write.{Write}
use Rattle.sb_types.specs.Records.{Entry, Stage, Holder}
use Rattle.sb_types.specs.Writes.{Written, Superseded, Tells, HoldsStage, HolderHolds}

slice_get_front : {X : Type 0} (xs ys : List X) (k : ℕ) → k < length xs → slice_get (xs ++ ys) k ≡ slice_get xs k
slice_get_front [] ys k l = absurd (omega arith)
slice_get_front (x ∷ xs) ys zero l = refl
slice_get_front (x ∷ xs) ys (suc k) l = slice_get_front xs ys k (omega arith)

module _ (writes more : List Write) where
  pub written_later : (e : Entry) → Written writes e → Written (writes ++ more) e
  written_later e w = record {
    counted = w.counted;
    found = slice_get_front writes more (e.version - 1) (slice_get_within writes _ _ w.found) ∙ w.found;
  }

  written_before : (e : Entry) → e.version ≤ length writes → Written (writes ++ more) e → Written writes e
  written_before e l w = record {
    counted = w.counted;
    found = sym (slice_get_front writes more (e.version - 1) (omega (arith, w.counted))) ∙ w.found;
  }

  superseded_later : (e : Entry) → Superseded writes e → Superseded (writes ++ more) e
  superseded_later e s = (s.0, written_later s.0 s.1, s.2, s.3)

  pub tells_later : {floor after upto : ℕ} {entries : List Entry} → Tells writes floor after upto entries → Tells (writes ++ more) floor after upto entries
  tells_later t = record {
    reach = omega (arith, t.reach, length-append writes more);
    reach_floor = omega (arith, t.reach_floor, length-append writes more);
    true_each = λ e s. written_later e (t.true_each e s);
    whole = λ e w lo hi. ⊎_elim inl (λ r. inr (⊎_elim (λ s. inl (superseded_later e s)) inr r)) (t.whole e (written_before e (omega (arith, t.reach)) w) lo hi);
    past = λ e x w g s k o. superseded_later e (t.past e x (written_before e (omega (arith, g.1, t.reach_floor)) w) g s k o);
  }

  stage_later : (o : Option Stage) → IfSome o (HoldsStage writes) → IfSome o (HoldsStage (writes ++ more))
  stage_later None t = tt
  stage_later (Some s) t = tells_later t

  pub holder_later : (h : Holder) → HolderHolds writes h → HolderHolds (writes ++ more) h
  holder_later h t = record { shown = tells_later t.shown; stage = stage_later h.stage t.stage }
