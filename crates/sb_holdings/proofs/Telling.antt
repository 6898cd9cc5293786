-- What follows of what entries tell: for parts of them, for a higher floor, and for entries entered.
use Rattle.std.proofs.Common.{◌≡◌, ℕ, ◌<◌, ◌≤◌, ◌-◌, List, length, take, ◌⊎◌, inl, inr, ⊎_elim, ap, Some, slice_get, arith}
use Rattle.std.proofs.lemmas.Option.{slice_get_within}
use Rattle.std.proofs.lemmas.Bool.{cases_lt}
use Rattle.sb_types.specs.declared.entry.Write.{Write}
use Rattle.sb_types.specs.Records.{Entry}
use Rattle.sb_types.specs.Runs.{Stands, last_version, newer_entries, live_entries, entries_after, IsRun}
use Rattle.sb_types.specs.Writes.{Written, Superseded, Gone, Tells}
use Rattle.sb_types.proofs.Standing.{right, taken, in_above, of_above, in_live, of_live, in_entered, of_entered}
use Rattle.sb_table.proofs.Order.{front_whole, run_after, run_one, run_order, front_most}

-- ---- writes

pub within_writes : {writes : List Write} (e : Entry) → Written writes e → e.version ≤ length writes
within_writes {writes} e w = omega (arith, slice_get_within writes (e.version - 1) _ w.found, w.counted)

pub same_parts : (a b : Entry) → a.version ≡ b.version → a.key ≡ b.key → a.slot ≡ b.slot → a ≡ b
same_parts a b v k s = λ i. record { key = k i; version = v i; slot = s i }

pub one_write : {writes : List Write} (a b : Entry) → Written writes a → Written writes b → a.version ≡ b.version → a ≡ b
one_write {writes} a b w x v =
    let found : slice_get writes (a.version - 1) ≡ Some (record { key = b.key; slot = b.slot }) = rw v x.found in
    let same : ◌≡◌ {A = Write} (record { key = a.key; slot = a.slot }) (record { key = b.key; slot = b.slot }) = cc (found, w.found) in
    same_parts a b v (ap (λ (y : Write). y.key) same) (ap (λ (y : Write). y.slot) same)

-- ---- parts

-- what stands between two versions is told by all the entries there
pub cut : {writes : List Write} {floor after upto : ℕ} {entries : List Entry} (a u : ℕ) (part : List Entry) →
    Tells writes floor after upto entries → after ≤ a → u ≤ upto →
    ((e : Entry) → Stands part e → Stands entries e) →
    ((e : Entry) → Stands entries e → a < e.version → e.version ≤ u → Stands part e) →
    Tells writes floor a u part
cut a u part t l m few all = record {
  reach = omega (arith, t.reach);
  reach_floor = t.reach_floor;
  true_each = λ e s. t.true_each e (few e s);
  whole = λ e w lo hi. ⊎_elim (λ s. inl (all e s lo hi)) inr (t.whole e w (omega arith) (omega arith));
  past = λ e x w g s k o. t.past e x w g (few x s) k o;
}

pub tells_above : {writes : List Write} {floor after upto : ℕ} {entries : List Entry} (v : ℕ) → after ≤ v → Tells writes floor after upto entries → Tells writes floor v upto (newer_entries v entries)
tells_above {entries = entries} v l t = cut v _ (newer_entries v entries) t l (omega arith) (λ e s. (of_above v entries e s).0) (λ e s lo hi. in_above v entries e s lo)

pub tells_front : {writes : List Write} {floor after upto : ℕ} {entries : List Entry} (n : ℕ) → IsRun after upto entries → Tells writes floor after upto entries → Tells writes floor after (last_version after (take n entries)) (take n entries)
tells_front {after = after} {entries = entries} n r t =
    cut after _ (take n entries) t (omega arith) (omega (arith, front_most n r)) (λ e s. taken n entries e s) (λ e s lo hi. front_whole n after entries e r.ascending s hi)

-- markers up to the floor may go
pub tells_live : {writes : List Write} {floor after upto : ℕ} {entries : List Entry} → Tells writes floor after upto entries → Tells writes floor after upto (live_entries floor entries)
tells_live {floor = floor} {entries = entries} t = record {
  reach = t.reach;
  reach_floor = t.reach_floor;
  true_each = λ e s. t.true_each e (of_live floor entries e s);
  whole = λ e w lo hi. ⊎_elim (λ s. ⊎_elim inl (λ g. inr (inr g)) (in_live floor entries e s)) inr (t.whole e w lo hi);
  past = λ e x w g s k o. t.past e x w g (of_live floor entries x s) k o;
}

-- a floor may rise as far as all is told
pub tells_raised : {writes : List Write} {floor upto : ℕ} {entries : List Entry} (to : ℕ) → floor ≤ to → to ≤ upto → IsRun 0 upto entries → Tells writes floor 0 upto entries → Tells writes to 0 upto entries
tells_raised {writes} {floor} {upto} {entries} to l m r t = record {
  reach = t.reach;
  reach_floor = omega (arith, t.reach);
  true_each = t.true_each;
  whole = λ e w lo hi. ⊎_elim inl (λ q. ⊎_elim (λ s. inr (inl s)) (λ g. inr (inr (g.0, omega (arith, g.1)))) q) (t.whole e w lo hi);
  past = λ e x w g s k o. ⊎_elim
      (λ there. absurd (omega (arith, o, ap (λ (y : Entry). y.version) (run_one x e r s there k))))
      (λ q. ⊎_elim (λ super. super) (λ gone. t.past e x w gone s k o) q)
      (t.whole e w w.counted (omega (arith, g.1)));
}

-- and as far as nothing is told yet
pub tells_raised_below : {writes : List Write} {floor after upto : ℕ} {entries : List Entry} (to : ℕ) → floor ≤ to → to ≤ after → IsRun after upto entries → Tells writes floor after upto entries → Tells writes to after upto entries
tells_raised_below {writes} {floor} {after} {upto} {entries} to l m r t = record {
  reach = t.reach;
  reach_floor = omega (arith, t.reach, run_order r);
  true_each = t.true_each;
  whole = λ e w lo hi. ⊎_elim inl (λ q. ⊎_elim (λ s. inr (inl s)) (λ g. inr (inr (g.0, omega (arith, g.1)))) q) (t.whole e w lo hi);
  past = λ e x w g s k o. absurd (omega (arith, run_after x r s, o, g.1));
}

-- entries above all others are entered
pub tells_entered : {writes : List Write} {floor after between upto : ℕ} {entries others : List Entry} → IsRun after between entries → IsRun between upto others → Tells writes floor after between entries → Tells writes floor between upto others → Tells writes floor after upto (entries_after entries others)
tells_entered {writes} {floor} {after} {between} {upto} {entries} {others} r q t n = record {
  reach = n.reach;
  reach_floor = n.reach_floor;
  true_each = λ e s. ⊎_elim (t.true_each e) (n.true_each e) (of_entered entries others e s);
  whole = λ e w lo hi. ⊎_elim
      (λ new. ⊎_elim (λ s. inl (right _ others e s)) inr (n.whole e w new hi))
      (λ old. ⊎_elim (λ s. replaced e old (in_entered entries others e s)) inr (t.whole e w lo old))
      (cases_lt between e.version);
  past = λ e x w g s k o. ⊎_elim (λ old. t.past e x w g old k o) (λ new. n.past e x w g new k o) (of_entered entries others x s);
}
  where
    replaced : (e : Entry) → e.version ≤ between → Stands (entries_after entries others) e ⊎ ((b : Entry) × Stands others b × (b.key ≡ e.key)) → Stands (entries_after entries others) e ⊎ (Superseded writes e ⊎ Gone floor e)
    replaced e old (inl s) = inl s
    replaced e old (inr p) = inr (inl (p.0, n.true_each p.0 p.1, p.2, omega (arith, run_after p.0 q p.1)))
