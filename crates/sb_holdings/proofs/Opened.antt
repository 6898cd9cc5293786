-- What a node holds that has just opened.
use Rattle.std.proofs.Common.{◌≡◌, ℕ, Bool, true, false, cond, List, [], ◌∷◌, Option, Some, None, unwrap_or, refl, sym, ap, subst, ◌∙◌, nat_eq, arith}
use Rattle.std.proofs.lemmas.Bool.{cond_both}
use Rattle.std.specs.FinMap.{get}
use Rattle.std.specs.Cmp.Lexicographic.{pointwise, texts_ties}
use Rattle.std.specs.List.Sorted.{IsStrictlySortedBy}
use Rattle.sb_types.specs.declared.entry.Write.{Write}
use Rattle.sb_types.specs.Records.{Table, Holder}
use Rattle.sb_types.specs.Writes.{Holds, HolderHolds}
use Rattle.sb_table.specs.Floors.{IsKeptTable}
use Rattle.sb_holdings.specs.Held.{empty_holder, holder_of}
use Rattle.sb_holdings.specs.Plain.{table_holder, IsKeptHolder, IsHoldings}
use Rattle.sb_holdings.specs.Nodes.{opened_node, NodeHolds}
use Rattle.sb_types.proofs.Texts.{same_text}
use Rattle.sb_holdings.proofs.ByOwner.{Rise, get-from, IsHoldings-own}

-- the holder, or nothing
found-or_nothing : (b : Bool) (h : Holder) → unwrap_or (cond b (Some h) None) empty_holder ≡ cond b h empty_holder
found-or_nothing true h = refl
found-or_nothing false h = refl

one-rises : (me : List ℕ) (h : Holder) → Rise ((me, h) ∷ [])
unfolding IsStrictlySortedBy
one-rises me h = (tt, tt)

get-opened : (me : List ℕ) (t : Table) (name : List ℕ) → get (opened_node me t).held.owners name ≡ cond (pointwise nat_eq name me) (Some (table_holder t)) None
get-opened me t name =
    get-from me ((me, table_holder t) ∷ []) (one-rises me (table_holder t)) name ∙ ap (λ (b : Bool). cond b (Some (table_holder t)) None) (sym (texts_ties name me))

holder-opened : (me : List ℕ) (t : Table) (name : List ℕ) → holder_of (opened_node me t).held.owners name ≡ cond (pointwise nat_eq name me) (table_holder t) empty_holder
holder-opened me t name = ap (λ (o : Option Holder). unwrap_or o empty_holder) (get-opened me t name) ∙ found-or_nothing (pointwise nat_eq name me) (table_holder t)

-- ---- the own table alone

kept-table : (t : Table) → IsKeptTable t → IsKeptHolder (table_holder t)
kept-table t kept = record { is = record { shown = kept.is; stage = tt }; limit = kept.limit; staged = tt }

pub IsHoldings-alone : (me : List ℕ) (t : Table) → IsKeptTable t → IsHoldings (opened_node me t).held
IsHoldings-alone me t kept = IsHoldings-own me (table_holder t) (kept-table t kept) refl

-- ---- what it holds is true

nothing-holds : (writes : List Write) → HolderHolds writes empty_holder
nothing-holds writes = record {
  shown = record {
    reach = omega arith;
    reach_floor = omega arith;
    true_each = λ e s. absurd s;
    whole = λ e w lo hi. absurd (omega (arith, lo, hi));
    past = λ e x w g s k o. absurd s;
  };
  stage = tt;
}

pub opened-holds : (writes : List ℕ → List Write) (me : List ℕ) (t : Table) → Holds (writes me) t → NodeHolds writes (opened_node me t)
opened-holds writes me t holds name =
    subst (HolderHolds (writes name)) (sym (holder-opened me t name))
    (cond_both (pointwise nat_eq name me) (table_holder t) empty_holder (HolderHolds (writes name))
    (λ same. subst (λ (o : List ℕ). HolderHolds (writes o) (table_holder t)) (sym (same_text name me same)) (record { shown = holds; stage = tt }))
    (λ _. nothing-holds (writes name)))
