-- What entries tell, said entry by entry, is what they tell version by version.
use Rattle.std.proofs.Common.{◌≡◌, ℕ, zero, suc, ◌-◌, ◌<◌, ◌≤◌, List, [], ◌∷◌, length, ◌⊎◌, inl, inr, ⊎_elim, refl, sym, ap, ◌∙◌, subst, Some, slice_get, arith}
use Rattle.std.proofs.lemmas.Bool.{cases_order}
use Rattle.sb_types.specs.declared.entry.Write.{Write}
use Rattle.sb_types.specs.Records.{Entry}
use Rattle.sb_types.specs.Runs.{Stands}
use Rattle.sb_types.specs.Writes.{Written, Superseded, Gone, Tells}
use Rattle.sb_holdings.specs.ByVersion.{write_of, SupersededAt, GoneAt, TellsByVersion}
use Rattle.sb_holdings.proofs.Telling.{one_write}
use Rattle.sb_holdings.proofs.Numbered.{write_in, superseded_or_last}

-- ---- one write

there : {X : Type 0} (xs : List X) (k : ℕ) → k < length xs → (x : X) × (slice_get xs k ≡ Some x)
there [] k l = absurd (omega arith)
there (x ∷ xs) zero l = (x, refl)
there (x ∷ xs) (suc k) l = there xs k (omega arith)

counted_from_one : (writes : List Write) (n : ℕ) → 1 ≤ n → write_of writes n ≡ slice_get writes (n - 1)
counted_from_one writes zero l = absurd (omega arith)
counted_from_one writes (suc n) l = let e : n ≡ suc n - 1 = omega arith in ap (slice_get writes) e

none_at_zero : (writes : List Write) (n : ℕ) (w : Write) → write_of writes n ≡ Some w → 1 ≤ n
none_at_zero writes zero w e = absurd (cc)
none_at_zero writes (suc n) w e = omega arith

pub at_version : (writes : List Write) (e : Entry) → Written writes e → write_of writes e.version ≡ Some (write_in e)
at_version writes e w = counted_from_one writes e.version w.counted ∙ w.found

pub written_at : (writes : List Write) (e : Entry) → write_of writes e.version ≡ Some (write_in e) → Written writes e
written_at writes e f =
    let counted = none_at_zero writes e.version _ f in
    record { counted = counted; found = sym (counted_from_one writes e.version counted) ∙ f }

same_write : (writes : List Write) (n : ℕ) (v w : Write) → write_of writes n ≡ Some v → write_of writes n ≡ Some w → v ≡ w
same_write writes n v w p q = cc

module _ (writes : List Write) where
  abbrev entry_of : ℕ → Write → Entry
  entry_of n w = record { key = w.key; version = n; slot = w.slot }

  written_each : (n : ℕ) → 1 ≤ n → n ≤ length writes → (w : Write) × Written writes (entry_of n w)
  written_each n l m =
      let w = there writes (n - 1) (omega arith) in
      (w.0, record { counted = l; found = w.1 })

  superseded_at : (e : Entry) → Written writes e → Superseded writes e → SupersededAt writes e.version
  superseded_at e w s = record {
    later = s.0.version;
    write = write_in e;
    new = write_in s.0;
    order = s.3;
    old_is = at_version writes e w;
    new_is = at_version writes s.0 s.1;
    key = s.2;
  }

  superseded_by : (e : Entry) → Written writes e → SupersededAt writes e.version → Superseded writes e
  superseded_by e w s =
      let same = same_write writes e.version s.write (write_in e) s.old_is (at_version writes e w) in
      (record { key = s.new.key; version = s.later; slot = s.new.slot }, written_at writes (record { key = s.new.key; version = s.later; slot = s.new.slot }) s.new_is, s.key ∙ ap (λ (x : Write). x.key) same, s.order)

  gone_at : {floor : ℕ} (e : Entry) → Written writes e → Gone floor e → (Superseded writes e → ⊥) → GoneAt writes floor e.version
  gone_at e w g last = record {
    last = λ s. last (superseded_by e w s);
    write = write_in e;
    write_is = at_version writes e w;
    removed = g.0;
    under = g.1;
  }

  gone_by : {floor : ℕ} (e : Entry) → Written writes e → GoneAt writes floor e.version → Gone floor e
  gone_by e w g =
      let same = same_write writes e.version (write_in e) g.write (at_version writes e w) g.write_is in
      (ap (λ (x : Write). x.slot) same ∙ g.removed, g.under)

  module _ {floor after upto : ℕ} {entries : List Entry} where
    pub by_version : Tells writes floor after upto entries → TellsByVersion writes floor after upto entries
    by_version t = record {
      reach = t.reach;
      reach_floor = t.reach_floor;
      true_each = λ e s. at_version writes e (t.true_each e s);
      whole = λ n lo hi. told n (written_each n (omega arith) (omega (arith, t.reach))) lo hi;
      past = λ n gone x s k. latest n gone x (written_at writes (entry_of n gone.write) gone.write_is) s k;
    }
      where
        told : (n : ℕ) → (w : Write) × Written writes (entry_of n w) → after < n → n ≤ upto → ((e : Entry) × Stands entries e × (e.version ≡ n)) ⊎ (SupersededAt writes n ⊎ GoneAt writes floor n)
        told n p lo hi = ⊎_elim
            (λ s. inl (entry_of n p.0, s, refl))
            (λ rest. inr (⊎_elim (λ s. inl (superseded_at _ p.1 s)) (λ g. ⊎_elim (λ s. inl (superseded_at _ p.1 s)) (λ last. inr (gone_at _ p.1 g last)) (superseded_or_last writes (entry_of n p.0))) rest))
            (t.whole (entry_of n p.0) p.1 lo hi)

        latest : (n : ℕ) (gone : GoneAt writes floor n) (x : Entry) → Written writes (entry_of n gone.write) → Stands entries x → x.key ≡ gone.write.key → x.version ≡ n
        latest n gone x w s k = ⊎_elim (λ same. same)
            (λ apart. ⊎_elim
            (λ older. absurd (gone.last (superseded_at _ w (t.past (entry_of n gone.write) x w (gone.removed, gone.under) s k older))))
            (λ newer. absurd (gone.last (superseded_at _ w (x, t.true_each x s, k, newer))))
            apart)
            (cases_order x.version n)

    pub by_entry : TellsByVersion writes floor after upto entries → Tells writes floor after upto entries
    unfolding gone_at
    by_entry t = record {
      reach = t.reach;
      reach_floor = t.reach_floor;
      true_each = λ e s. written_at writes e (t.true_each e s);
      whole = λ e w lo hi. ⊎_elim
          (λ f. inl (subst (Stands entries) (one_write f.0 e (written_at writes f.0 (t.true_each f.0 f.1)) w f.2) f.1))
          (λ rest. inr (⊎_elim (λ s. inl (superseded_by e w s)) (λ g. inr (gone_by e w g)) rest))
          (t.whole e.version lo hi);
      past = λ e x w g s k o. ⊎_elim
          (λ super. super)
          (λ last. absurd (omega (arith, o, t.past e.version (gone_at e w g last) x s k)))
          (superseded_or_last writes e);
    }
