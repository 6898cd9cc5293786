use Rattle.std.proofs.Common.{◌++◌, ℕ, List, sym, ap, subst, ◌∙◌, append-nil}
use Rattle.std.specs.List.{filter_map}
use Rattle.sb_holdings.specs.Plain.{table_of}
use Rattle.sb_budget.specs.Backlogs.{digest_since, part_since}
use Rattle.sb_budget.specs.Parts.{AreParts}
use Rattle.sb_budget.proofs.SinceLemmas.{since_pieces, since_parts}
use Rattle.sb_budget.proofs.since.cursors_since.Goals as goal

pub returns-clause-parts : goal.returns-clause-parts
returns-clause-parts c =
    let held = c.args.holdings.now in
    let backlog = c.args.backlog.now in
    subst (AreParts held (digest_since held backlog))
    (sym (sym (append-nil c.loop-owner.cursors.items)
    ∙ ap (λ (es : List (List ℕ × ℕ)). c.loop-owner.cursors.items ++ filter_map (λ (q : List ℕ × ℕ). part_since q.0 (table_of held q.0) q.1) es) (sym c.in-None.ensures.steps.0)
    ∙ c.loop-owner.invariant ∙ since_pieces held backlog c.requires.holdings))
    (since_parts held backlog c.requires.holdings)
