-- What a stage tells once it is shown.
use Rattle.std.proofs.Common.{◌≡◌, ℕ, ◌<◌, ◌≤◌, List, ◌++◌, ◌⊎◌, inl, inr, ⊎_elim, refl, ap, ◌∙◌, arith}
use Rattle.std.proofs.lemmas.Bool.{cases_lt, cases_order}
use Rattle.sb_types.specs.declared.entry.Write.{Write}
use Rattle.sb_types.specs.Records.{Entry}
use Rattle.sb_types.specs.Runs.{Stands, has_key, newer_entries, entries_up_to, entries_with_keys, live_entries, IsRun}
use Rattle.sb_types.specs.Writes.{Written, Superseded, Gone, Tells}
use Rattle.sb_types.proofs.Standing.{left, right, either, in_above, of_above, in_within, of_within, in_only, of_only, of_live}
use Rattle.sb_table.proofs.Order.{run_one, run_kept, run_above, run_joined}
use Rattle.sb_holdings.proofs.Telling.{tells_live}

module _ {held progress : ℕ} {shown staged : List Entry} (r : IsRun 0 held shown) (q : IsRun 0 progress staged) where
  merged_run : held ≤ progress → IsRun 0 progress (entries_with_keys (entries_up_to held staged) shown ++ newer_entries held staged)
  merged_run l = run_joined (run_kept (λ entry. has_key entry.key (entries_up_to held staged)) r) (run_above held l q) apart
    where
      apart : (x y : Entry) → Stands (entries_with_keys (entries_up_to held staged) shown) x → Stands (newer_entries held staged) y → x.key ≡ y.key → ⊥
      apart x y s t k =
          let o = (of_only (entries_up_to held staged) shown x s).1 in
          let low = of_within held staged o.0 o.1 in
          let high = of_above held staged y t in
          omega (arith, low.1, high.1, ap (λ (e : Entry). e.version) (run_one o.0 y q low.0 high.0 (o.2 ∙ k)))

  pub swapped_run : (floor : ℕ) → held ≤ progress → IsRun 0 progress (live_entries floor (entries_with_keys (entries_up_to held staged) shown ++ newer_entries held staged))
  swapped_run floor l = run_kept _ (merged_run l)

  module _ {writes : List Write} {before floor : ℕ} (low : before ≤ held) (beyond : held < floor) (t : Tells writes before 0 held shown) (n : Tells writes floor 0 progress staged) where
    -- an entry of the stage up to held stands in what was shown, or need not
    told : (e : Entry) → Written writes e → Stands staged e → Stands (entries_with_keys (entries_up_to held staged) shown ++ newer_entries held staged) e ⊎ (Superseded writes e ⊎ Gone floor e)
    told e w s = ⊎_elim
        (λ new. inl (right _ _ e (in_above held staged e s new)))
        (λ old. ⊎_elim
        (λ there. inl (left _ _ e (in_only (entries_up_to held staged) shown e e there (in_within held staged e s old) refl)))
        (λ rest. inr (⊎_elim inl (λ g. inr (g.0, omega (arith, g.1))) rest))
        (t.whole e w w.counted old))
        (cases_lt held e.version)

    -- a shown entry under a key of the stage is older than no marker that may have gone, unless that key was written again
    passed : (e x y : Entry) → Written writes e → Gone floor e → Stands shown x → x.key ≡ e.key → x.version < e.version → Stands staged y → y.version ≤ held → y.key ≡ x.key → Superseded writes e
    passed e x y w g s k o there l j = ⊎_elim
        (λ same. ⊎_elim
        (λ stands. absurd (omega (arith, o, ap (λ (z : Entry). z.version) (run_one x e r s stands k))))
        (λ rest. ⊎_elim (λ super. super) (λ gone. t.past e x w gone s k o) rest)
        (t.whole e w w.counted (omega (arith, same, l))))
        (λ apart. ⊎_elim
        (λ older. n.past e y w g there (j ∙ k) older)
        (λ newer. (y, n.true_each y there, j ∙ k, newer))
        apart)
        (cases_order y.version e.version)

    merged_tells : Tells writes floor 0 progress (entries_with_keys (entries_up_to held staged) shown ++ newer_entries held staged)
    merged_tells = record {
      reach = n.reach;
      reach_floor = n.reach_floor;
      true_each = λ e s. ⊎_elim (λ a. t.true_each e (of_only _ shown e a).0) (λ b. n.true_each e (of_above held staged e b).0) (either _ _ e s);
      whole = λ e w lo hi. ⊎_elim (told e w) inr (n.whole e w lo hi);
      past = λ e x w g s k o. ⊎_elim
          (λ a. let f = of_only (entries_up_to held staged) shown x a in
          let y = of_within held staged f.1.0 f.1.1 in
          passed e x f.1.0 w g f.0 k o y.0 y.1 f.1.2)
          (λ b. n.past e x w g (of_above held staged x b).0 k o)
          (either _ _ x s);
    }

    pub swapped_tells : Tells writes floor 0 progress (live_entries floor (entries_with_keys (entries_up_to held staged) shown ++ newer_entries held staged))
    swapped_tells = tells_live merged_tells

pub swapped_each : (floor held : ℕ) (shown staged : List Entry) (e : Entry) → Stands (live_entries floor (entries_with_keys (entries_up_to held staged) shown ++ newer_entries held staged)) e → Stands shown e ⊎ (held < e.version)
swapped_each floor held shown staged e s =
    ⊎_elim (λ a. inl (of_only _ shown e a).0) (λ b. inr (of_above held staged e b).1) (either _ _ e (of_live floor _ e s))
