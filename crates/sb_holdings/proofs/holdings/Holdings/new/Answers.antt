use Rattle.std.proofs.Common.{◌≡◌, ◌∷◌, List, [], ℕ, refl, ap, sym, subst, ◌∙◌}
use Rattle.std.specs.BTreeMap.{insert_entry}
use Rattle.std.specs.Ordering.{nat_cmp}
use Rattle.std.specs.Cmp.Lexicographic.{slice_cmp}
use Rattle.sb_types.specs.Records.{Holder}
use Rattle.sb_holdings.specs.Plain.{table_holder, held_of, IsKeptHolder, IsHoldings}
use Rattle.sb_holdings.proofs.ByOwner.{IsHoldings-own}
use Rattle.sb_holdings.proofs.holdings.Holdings.new.Goals as goal

pub invariant_of-result : goal.invariant_of-result
invariant_of-result c =
    let only : c.insert.new.self.entries ≡ (c.args.me, table_holder c.args.table) ∷ [] =
    c.in_ok-insert.ensures.entries ∙ ap (λ (es : List (List ℕ × Holder)). insert_entry (slice_cmp nat_cmp) es c.args.me c.alone.result) c.new-holders.ensures.empty
    ∙ ap (λ (h : Holder). (c.args.me, h) ∷ []) c.alone.ensures.alone in (
      c.insert.ensures.ordered,
      subst (λ (es : List (List ℕ × Holder)). IsHoldings (held_of c.args.me es)) (sym only)
          (IsHoldings-own c.args.me (table_holder c.args.table) (subst IsKeptHolder c.alone.ensures.alone c.alone.ensures.kept) refl),
    )

pub returns-clause-holdings : goal.returns-clause-holdings
returns-clause-holdings c = (invariant_of-result c).1
