use Rattle.std.proofs.Common.{◌≡◌, sym, ap, subst, ◌∙◌}
use Rattle.std.specs.Prelude.{None}
use Rattle.std.specs.List.Sorted.{IsStrictlySortedBy}
use Rattle.std.specs.Map.{keys_of}
use Rattle.sb_holdings.specs.Plain.{tables_from}
use Rattle.sb_digest.specs.Digests.{covers}
use Rattle.sb_budget.specs.Available.{number_for, offered_table, AreRanked}
use Rattle.sb_budget.specs.Cut.{items_of_all, CanCut}
use Rattle.sb_budget.specs.Orders.{IsOffer}
use Rattle.sb_budget.specs.Parts.{all_of, AreParts}
use Rattle.sb_budget.proofs.PlaceLemmas.{text_cmp}
use Rattle.sb_budget.proofs.AvailableLemmas.{all_parts, items_held, rising_tables, can_cut, is_offer, are_ranked}
use Rattle.sb_budget.proofs.PartLemmas.{all_pieces, all_pieced, items_of_pieces, chains_of_pieces, names_of_pieces}
use Rattle.sb_budget.proofs.cursor.cursors.Goals as goal

pub returns-clause-parts : goal.returns-clause-parts
returns-clause-parts c =
    let held = c.args.holdings.now in
    let digest = c.args.digest.now in
    let tables = tables_from None held in
    let up : IsStrictlySortedBy text_cmp (keys_of tables) = rw c.tables_from-owner-items.ensures.tables at c.tables_from-owner-items.ensures.ascending in
    let each = rising_tables held up digest c.tables_from-owner-items.ensures.holdings in
    let made = all_pieced (covers digest) (offered_table digest) (number_for digest) c.loop-owner.cursors.items c.loop-owner.owner-iterator tables c.loop-owner.invariant c.in-None.ensures.steps.0 in
    let all : all_of (all_pieces (covers digest) (offered_table digest) (number_for digest) tables) ≡ all_parts (covers digest) (offered_table digest) (number_for digest) tables = items_of_pieces (covers digest) (offered_table digest) (number_for digest) tables in
    subst (AreParts held digest) (sym made) (record {
      items = ap items_of_all all ∙ items_held held digest;
      ranks = subst AreRanked (sym all) (are_ranked (covers digest) (offered_table digest) (number_for digest) tables up each);
      offer = subst IsOffer (sym all) (is_offer (covers digest) (offered_table digest) (number_for digest) tables up each);
      cut = subst CanCut (sym all) (can_cut (covers digest) (offered_table digest) (number_for digest) tables up each);
      chains = chains_of_pieces (covers digest) (offered_table digest) (number_for digest) tables each;
      names = names_of_pieces (covers digest) (offered_table digest) (number_for digest) tables up;
    })
