-- What is true of a log's writes is neither foreign nor missing.
use Rattle.std.proofs.Common.{◌≡◌, ℕ, zero, suc, ◌+◌, ◌-◌, ◌<◌, ◌≤◌, true, List, [], ◌∷◌, ◌++◌, length, inl, inr, ⊎_elim, ◌⊎◌, refl, sym, ap, ◌∙◌, subst, arith}
use Rattle.std.proofs.lemmas.Bool.{cases_order, false≢true}
use Rattle.sb_types.specs.declared.entry.Write.{Write}
use Rattle.sb_types.specs.Records.{Entry, Table, Block}
use Rattle.sb_types.specs.Runs.{Stands, IsRun, IsTable, IsBlock, is_set}
use Rattle.sb_types.specs.Writes.{Written, Superseded, Gone, Tells, Holds, Honest}
use Rattle.sb_types.proofs.Standing.{has}
use Rattle.sb_table.proofs.Order.{run_after, run_one}
use Rattle.sb_holdings.proofs.Telling.{within_writes, one_write}
use Rattle.sb_holdings.proofs.Lasting.{tells_later}
use Rattle.sb_holdings.proofs.Numbered.{superseded_or_last}
use Rattle.sb_audit.specs.declared.foreign.Reason.{Reason}
use Rattle.sb_audit.specs.declared.foreign.Reason.TheVariants.{AheadOfLog, OtherSlot, OtherKey, LaterWrite, EarlierWrite, UnknownKey}
use Rattle.sb_audit.specs.Foreign.{IsOwn, Explains, IsForeign}
use Rattle.sb_audit.specs.Missing.{IsMissing}

-- the last write of a key
record IsLast (writes : List Write) (e z : Entry) : Type 0 where
  pub written : Written writes z
  pub key : z.key ≡ e.key
  pub order : e.version ≤ z.version
  pub last : Superseded writes z → ⊥

last_from : (writes : List Write) (n : ℕ) (e : Entry) → Written writes e → length writes < e.version + n → (z : Entry) × IsLast writes e z
last_from writes zero e w l = absurd (omega (arith, within_writes e w, l))
last_from writes (suc n) e w l =
    ⊎_elim
    (λ s.
    let r = last_from writes n s.0 s.1 (omega (arith, s.3, l)) in
    (r.0, record { written = r.1.written; key = r.1.key ∙ s.2; order = omega (arith, r.1.order, s.3); last = r.1.last }))
    (λ last. (e, record { written = w; key = refl; order = omega arith; last = last }))
    (superseded_or_last writes e)

last_of : (writes : List Write) (e : Entry) → Written writes e → (z : Entry) × IsLast writes e z
last_of writes e w = last_from writes (suc (length writes)) e w (omega arith)

module _ (writes : List Write) (t : Table) (own : IsOwn writes t) where
  -- the last write of a key stands in the own table, or is a marker that may be gone
  last_kept : (e z : Entry) → IsLast writes e z → Stands t.entries z ⊎ Gone t.floor z
  last_kept e z l =
      ⊎_elim inl (λ rest. ⊎_elim (λ s. absurd (l.last s)) inr rest)
      (own.holds.whole z l.written l.written.counted (omega (arith, within_writes z l.written, own.all)))

  -- what stands there was not written again
  pub own_last : (x : Entry) → Stands t.entries x → Superseded writes x → ⊥
  own_last x s later =
      let z = last_of writes later.0 later.1 in
      let key : x.key ≡ z.0.key = sym (z.1.key ∙ later.2) in
      ⊎_elim
      (λ there. omega (arith, z.1.order, later.3, ap (λ (y : Entry). y.version) (run_one x z.0 own.table.run s there key)))
      (λ gone. z.1.last (own.holds.past z.0 x z.1.written gone s key (omega (arith, z.1.order, later.3))))
      (last_kept later.0 z.0 z.1)

  module _ (floor after upto : ℕ) (es : List Entry) (run : IsRun after upto es) (tells : Tells writes floor after upto es) where
    -- of what is told, an own entry in the range is told, or its marker may be gone
    told : (x : Entry) → Written writes x → (Superseded writes x → ⊥) → after < x.version → x.version ≤ upto → Stands es x ⊎ Gone floor x
    told x w last lo hi = ⊎_elim inl (λ rest. ⊎_elim (λ s. absurd (last s)) inr rest) (tells.whole x w lo hi)

    -- so nothing older of its key is told
    not_older : (x e : Entry) → Written writes x → (Superseded writes x → ⊥) → Stands es e → x.key ≡ e.key → e.version < x.version → x.version ≤ upto → ⊥
    not_older x e w last s key older hi =
        ⊎_elim
        (λ there. omega (arith, older, ap (λ (y : Entry). y.version) (run_one x e run there s key)))
        (λ gone. last (tells.past x e w gone s (sym key) older))
        (told x w last (omega (arith, run_after e run s, older)) hi)

    module _ (e : Entry) (s : Stands es e) where
      abbrev w : Written writes e
      w = tells.true_each e s

      value_last : is_set e.slot ≡ true → t.floor ≤ upto → (z : Entry) → IsLast writes e z → Gone t.floor z → ⊥
      value_last set reach z l gone =
          ⊎_elim
          (λ same. false≢true (sym (ap is_set (sym (ap (λ (y : Entry). y.slot) (one_write z e l.written w same)) ∙ gone.0)) ∙ set))
          (λ apart. ⊎_elim
          (λ older. omega (arith, l.order, older))
          (λ newer. not_older z e l.written l.last s l.key newer (omega (arith, gone.1, reach)))
          apart)
          (cases_order z.version e.version)

      refuted : (reason : Reason) → Explains t upto e reason → ⊥
      refuted AheadOfLog ahead = omega (arith, ahead, within_writes e w, own.all)
      refuted OtherSlot x = x.4 (ap (λ (y : Entry). y.slot) (one_write x.0 e (own.holds.true_each x.0 x.1) w x.2))
      refuted OtherKey x = x.3 (ap (λ (y : Entry). y.key) (one_write x.0 e (own.holds.true_each x.0 x.1) w x.2))
      refuted LaterWrite x = own_last x.0 x.1 (e, w, sym x.2, x.3)
      refuted EarlierWrite x = not_older x.0 e (own.holds.true_each x.0 x.1) (own_last x.0 x.1) s x.2 x.3 x.4
      refuted UnknownKey none =
          let z = last_of writes e w in
          ⊎_elim
          (λ there. false≢true (sym none.0 ∙ has e.key t.entries z.0 there z.1.key))
          (λ gone. ⊎_elim
          (λ above. omega (arith, z.1.order, gone.1, above))
          (λ value. value_last value.0 value.1 z.0 z.1 gone)
          none.1)
          (last_kept e z.0 z.1)

      pub not_foreign : IsForeign t upto e → ⊥
      not_foreign f = refuted f.0 f.1

-- ---- a single write

one_run : (e : Entry) → 1 ≤ e.version → IsRun (e.version - 1) e.version (e ∷ [])
one_run e counted = record { ascending = grind (arith, counted); most = omega arith; distinct = refl }

one_told : (writes : List Write) (e : Entry) → Written writes e → Tells writes 0 (e.version - 1) e.version (e ∷ [])
one_told writes e v = record {
  reach = within_writes e v;
  reach_floor = omega arith;
  true_each = λ x s. ⊎_elim (λ p. subst (Written writes) p v) (λ none. absurd none) s;
  whole = λ x y lo hi. inl (inl (one_write e x v y (omega (arith, lo, hi, v.counted))));
  past = λ x y by gone s k o. absurd (omega (arith, by.counted, gone.1));
}

pub written_not_foreign : (writes : List Write) (t : Table) (e : Entry) → IsOwn writes t → Written writes e → IsForeign t e.version e → ⊥
written_not_foreign writes t e own w = not_foreign writes t own 0 (e.version - 1) e.version (e ∷ []) (one_run e w.counted) (one_told writes e w) e (inl refl)

pub block_not_foreign : (old more : List Write) (t : Table) (b : Block) (e : Entry) → IsOwn (old ++ more) t → IsBlock b → Honest old b → Stands b.entries e → IsForeign t b.upto e → ⊥
block_not_foreign old more t b e own is honest s = not_foreign (old ++ more) t own b.floor b.after b.upto b.entries is.run (tells_later old more honest) e s

pub table_not_foreign : (old more : List Write) (t u : Table) (e : Entry) → IsOwn (old ++ more) t → IsTable u → Holds old u → Stands u.entries e → IsForeign t u.held e → ⊥
table_not_foreign old more t u e own is holds s = not_foreign (old ++ more) t own u.floor 0 u.held u.entries is.run (tells_later old more holds) e s

pub not_missing : (old more : List Write) (t : Table) (b : Block) (x : Entry) → IsOwn (old ++ more) t → Honest old b → Stands t.entries x → IsMissing b x → ⊥
not_missing old more t b x own honest s m =
    ⊎_elim m.lacks
    (λ rest. ⊎_elim (own_last (old ++ more) t own x s) m.stays rest)
    ((tells_later old more honest).whole x (own.holds.true_each x s) m.after m.upto)
