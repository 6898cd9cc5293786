use Rattle.std.proofs.Common.{None, sym, ap, subst, ◌∙◌}
use Rattle.std.specs.List.Sorted.{IsStrictlySortedBy}
use Rattle.std.specs.Map.{keys_of}
use Rattle.sb_holdings.specs.Plain.{tables_from}
use Rattle.sb_digest.specs.Digests.{covers}
use Rattle.sb_budget.specs.Available.{number_for, offered_table, AreRanked}
use Rattle.sb_budget.specs.Cut.{items_of_all, CanCut}
use Rattle.sb_budget.specs.Orders.{IsOffer}
use Rattle.sb_budget.proofs.PlaceLemmas.{text_cmp}
use Rattle.sb_budget.proofs.AvailableLemmas.{all_made, items_held, rising_tables, can_cut, is_offer, are_ranked}
use Rattle.sb_budget.proofs.availability.available.Goals as goal

pub returns-clause-items : goal.returns-clause-items
returns-clause-items c =
    let held = c.args.holdings.now in
    let digest = c.args.digest.now in
    let tables = tables_from None held in
    let made = all_made (covers digest) (offered_table digest) (number_for digest) c.loop-owner.offered.items c.loop-owner.owner-iterator tables c.loop-owner.invariant c.in-None.ensures.steps.0 in
    ap items_of_all made ∙ items_held held digest

pub returns-clause-ranks : goal.returns-clause-ranks
returns-clause-ranks c =
    let held = c.args.holdings.now in
    let digest = c.args.digest.now in
    let tables = tables_from None held in
    let up : IsStrictlySortedBy text_cmp (keys_of tables) = rw c.tables_from-owner-items.ensures.tables at c.tables_from-owner-items.ensures.ascending in
    let made = all_made (covers digest) (offered_table digest) (number_for digest) c.loop-owner.offered.items c.loop-owner.owner-iterator tables c.loop-owner.invariant c.in-None.ensures.steps.0 in
    let each = rising_tables held up digest c.tables_from-owner-items.ensures.holdings in
    subst AreRanked (sym made) (are_ranked (covers digest) (offered_table digest) (number_for digest) tables up each)

pub returns-clause-offer : goal.returns-clause-offer
returns-clause-offer c =
    let held = c.args.holdings.now in
    let digest = c.args.digest.now in
    let tables = tables_from None held in
    let up : IsStrictlySortedBy text_cmp (keys_of tables) = rw c.tables_from-owner-items.ensures.tables at c.tables_from-owner-items.ensures.ascending in
    let made = all_made (covers digest) (offered_table digest) (number_for digest) c.loop-owner.offered.items c.loop-owner.owner-iterator tables c.loop-owner.invariant c.in-None.ensures.steps.0 in
    let each = rising_tables held up digest c.tables_from-owner-items.ensures.holdings in
    subst IsOffer (sym made) (is_offer (covers digest) (offered_table digest) (number_for digest) tables up each)

pub returns-clause-cut : goal.returns-clause-cut
returns-clause-cut c =
    let held = c.args.holdings.now in
    let digest = c.args.digest.now in
    let tables = tables_from None held in
    let up : IsStrictlySortedBy text_cmp (keys_of tables) = rw c.tables_from-owner-items.ensures.tables at c.tables_from-owner-items.ensures.ascending in
    let made = all_made (covers digest) (offered_table digest) (number_for digest) c.loop-owner.offered.items c.loop-owner.owner-iterator tables c.loop-owner.invariant c.in-None.ensures.steps.0 in
    let each = rising_tables held up digest c.tables_from-owner-items.ensures.holdings in
    subst CanCut (sym made) (can_cut (covers digest) (offered_table digest) (number_for digest) tables up each)
