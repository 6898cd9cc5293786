-- What is held of all owners, where one owner's table is changed.
use Rattle.std.proofs.Common.{◌≡◌, ℕ, ◌+◌, ◌≤◌, ◌<◌, ◌^◌, true, List, Option, Some, None, IfSome, is_some, unwrap_or, refl, sym, ap, ◌∙◌, nat_eq, arith, eqb-true}
use Rattle.std.proofs.lemmas.Bool.{and_parts, cond_both, cond-false, false_from_ne_true, false≢true, leb-true}
use Rattle.std.proofs.lemmas.Cmp.{nat_list_cmp_total}
use Rattle.std.specs.Ordering.{eq_by_cmp}
use Rattle.std.specs.Cmp.Lexicographic.{texts_ties}
use Rattle.std.specs.FinMap.{FinMap, get, insert, get-insert, same_map, slice_cmp-IsAntisymmetric, nat_cmp-IsAntisymmetric}
use Rattle.sb_types.proofs.Live.{live-above}
use Rattle.sb_types.specs.Records.{Entry, Table, Holder}
use Rattle.sb_types.specs.Limits.{is_entry}
use Rattle.sb_types.specs.Writes.{IsHolder}
use Rattle.sb_table.specs.Plain.{IsPlainTable}
use Rattle.sb_table.proofs.Plain.{nothing_plain}
use Rattle.sb_holdings.specs.Held.{Held, empty_holder, holder_of, shown_of, held_after_write}
use Rattle.sb_holdings.specs.Plain.{table_holder, IsKeptHolder, IsHoldings, next_version}
use Rattle.sb_types.proofs.Texts.{same_text}
use Rattle.sb_holdings.proofs.ByOwner.{by_text, some-there}

-- ---- what is held of an owner

IsHolder-plain : (t : Table) → IsPlainTable t → IsHolder (table_holder t)
IsHolder-plain t plain = record {
  shown = record { run = plain.run; floor = omega (arith, plain.floor); live = live-above t.floor 0 t.entries (omega (arith, plain.floor)) plain.run.ascending };
  stage = tt;
}

kept_or_nothing : (o : Option Holder) → IfSome o IsKeptHolder → IsHolder (unwrap_or o empty_holder)
kept_or_nothing None is = IsHolder-plain empty_holder.shown nothing_plain
kept_or_nothing (Some h) is = is.is

pub IsHolder-held : (held : Held) → IsHoldings held → (owner : List ℕ) → IsHolder (holder_of held.owners owner)
IsHolder-held held is owner = kept_or_nothing (get held.owners owner) (is.each owner)

same_owners : (m n : FinMap by_text Holder) → ((q : List ℕ) → get m q ≡ get n q) → m ≡ n
same_owners = same_map nat_list_cmp_total (slice_cmp-IsAntisymmetric nat_cmp-IsAntisymmetric)

-- ---- an own write

abbrev pub with_own : Held → Holder → Held
with_own held h = record { me = held.me; owners = insert held.owners held.me h }

stands : (o : Option Holder) → is_some o ≡ true → Some (unwrap_or o empty_holder) ≡ o
stands None there = absurd (false≢true there)
stands (Some h) there = refl

-- what is held of the own name, put back
with_own-same : (held : Held) → IsHoldings held → with_own held (holder_of held.owners held.me) ≡ held
with_own-same held is =
    let h = holder_of held.owners held.me in
    ap (λ (m : FinMap by_text Holder). let new : Held = record { me = held.me; owners = m } in new)
    (same_owners (insert held.owners held.me h) held.owners (λ q. get-insert nat_list_cmp_total held.owners held.me h q
    ∙ cond_both (eq_by_cmp by_text q held.me) (Some h) (get held.owners q) (λ (o : Option Holder). o ≡ get held.owners q)
    (λ tied. stands (get held.owners held.me) (some-there (get held.owners held.me) is.own) ∙ sym (ap (get held.owners) (same_text q held.me (texts_ties q held.me ∙ tied)))) (λ _. refl)))

pub written-unfit : (held : Held) (e : Entry) → IsHoldings held → (e.version ≡ (shown_of held held.me).held + 1 → ⊥) → held_after_write held e ≡ held
written-unfit held e is unfit =
    let h = holder_of held.owners held.me in
    ap (with_own held) (cond-false (nat_eq e.version (h.shown.held + 1)) _ h (false_from_ne_true _ (λ same. unfit (eqb-true e.version (h.shown.held + 1) same))))
    ∙ with_own-same held is

next-version : (version held : ℕ) → held < 2 ^ 64 → 1 ≤ version → version ≡ next_version held → version ≡ held + 1
next-version version held fits counted next = omega arith

pub entry-next : (e : Entry) (held : ℕ) → is_entry e ≡ true → held < 2 ^ 64 → e.version ≡ next_version held → e.version ≡ held + 1
entry-next e held is fits next =
    next-version e.version held fits (leb-true 1 e.version (and_parts _ _ (and_parts _ _ (and_parts _ _ is).0).1).0) next
