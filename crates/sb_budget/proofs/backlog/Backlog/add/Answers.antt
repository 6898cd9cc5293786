use Rattle.std.proofs.Common.{◌≡◌, true, false, is_some, sym, ap, ◌∙◌}
use Rattle.std.proofs.lemmas.Bool.{cond-true, cond-false}
use Rattle.std.specs.FinMap.{get, contains_key, insert}
use Rattle.sb_budget.proofs.BacklogLemmas.{get-found, with_inserted}
use Rattle.sb_budget.specs.Backlogs.{Backlog, backlog_by}
use Rattle.sb_budget.proofs.backlog.Backlog.add.Goals as goal
use Rattle.sb_budget.proofs.backlog.Backlog.add.Goals.{in-Ok, in-Err}

pub returns-then-contains_key-clause-ok : goal.returns-then-contains_key-clause-ok
returns-then-contains_key-clause-ok c =
    let m = c.args.self.now in
    let has : contains_key m c.args.owner ≡ true =
    ap (λ (b : Backlog). is_some (get b c.args.owner)) (sym c.self.view_is)
    ∙ ap is_some (get-found c.self.inside.owners.entries c.self.invariant c.args.owner) ∙ sym c.contains_key.ensures ∙ c.if-contains_key.true in
    sym (cond-true (contains_key m c.args.owner) m (insert m c.args.owner c.args.version) has)

pub returns-clause-ok : goal.returns-clause-ok
returns-clause-ok c =
    let m = c.args.self.now in
    let none : contains_key m c.args.owner ≡ false =
    ap (λ (b : Backlog). is_some (get b c.args.owner)) (sym c.self.view_is)
    ∙ ap is_some (get-found c.self.inside.owners.entries c.self.invariant c.args.owner) ∙ sym c.contains_key.ensures ∙ c.if-contains_key.false in
    elim c.match-insert.branch [
      | in-Ok w ↦ rw w.result-is
          (with_inserted c.self.inside.owners.entries c.insert.new.self.entries c.args.owner c.args.version c.self.invariant c.insert.ensures.ordered w.in-Ok.ensures.updates.0
          ∙ ap (λ (r : Backlog). insert r c.args.owner c.args.version) c.self.view_is
          ∙ sym (cond-false (contains_key m c.args.owner) m (insert m c.args.owner c.args.version) none))
      | in-Err w ↦ rw w.result-is tt
    ]

pub returns-clause-err : goal.returns-clause-err
returns-clause-err c =
    elim c.match-insert.branch [
      | in-Ok w ↦ rw w.result-is tt
      | in-Err w ↦ rw w.result-is (ap backlog_by w.in-Err.ensures.err ∙ c.self.view_is)
    ]
