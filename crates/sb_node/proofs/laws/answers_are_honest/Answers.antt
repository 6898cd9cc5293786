use Rattle.std.proofs.Common.{◌≡◌, true, false, ⊎_elim, ◌∙◌}
use Rattle.std.proofs.lemmas.Bool.{cases_Bool}
use Rattle.sb_holdings.specs.Nodes.{held_by}
use Rattle.sb_digest.specs.Digests.{covers}
use Rattle.sb_budget.specs.Available.{number_for, offered_table}
use Rattle.sb_node.proofs.Honesty.{no_table, no_table_is, no_table_holds}
use Rattle.sb_node.proofs.laws.answers_are_honest.Goals as goal

pub returns-clause-honest : goal.returns-clause-honest
returns-clause-honest c = λ writes node budget digest blocks b is holds answer stands.
    ⊎_elim
    (λ (reached : covers digest b.owner ≡ true).
    c.cuts_are_honest.ensures.honest (writes b.owner) (offered_table digest b.owner (held_by node b.owner).shown) (number_for digest b.owner (held_by node b.owner).shown) budget answer.items blocks b
    (c.offered_tables_hold.ensures.is digest b.owner (held_by node b.owner).shown (is b.owner).shown)
    (c.offered_tables_hold.ensures.holds (writes b.owner) digest b.owner (held_by node b.owner).shown (is b.owner).shown (holds b.owner).shown) answer.cut stands
    (answer.each b.owner ∙ c.available_by_number.ensures.covered node.held digest b.owner reached))
    (λ (other : covers digest b.owner ≡ false).
    c.cuts_are_honest.ensures.honest (writes b.owner) no_table 0 budget answer.items blocks b no_table_is (no_table_holds (writes b.owner)) answer.cut stands
    (answer.each b.owner ∙ c.available_by_number.ensures.others node.held digest b.owner other))
    (cases_Bool (covers digest b.owner))

pub returns-clause-is : goal.returns-clause-is
returns-clause-is c = λ node budget digest blocks b is answer stands.
    ⊎_elim
    (λ (reached : covers digest b.owner ≡ true).
    c.cuts_are_honest.ensures.is (offered_table digest b.owner (held_by node b.owner).shown) (number_for digest b.owner (held_by node b.owner).shown) budget answer.items blocks b
    (c.offered_tables_hold.ensures.is digest b.owner (held_by node b.owner).shown (is b.owner).shown) answer.cut stands
    (answer.each b.owner ∙ c.available_by_number.ensures.covered node.held digest b.owner reached))
    (λ (other : covers digest b.owner ≡ false).
    c.cuts_are_honest.ensures.is no_table 0 budget answer.items blocks b no_table_is answer.cut stands
    (answer.each b.owner ∙ c.available_by_number.ensures.others node.held digest b.owner other))
    (cases_Bool (covers digest b.owner))
