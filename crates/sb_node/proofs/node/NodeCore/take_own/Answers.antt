use Rattle.std.proofs.Common.{◌≡◌, sym, ap, subst, ◌∙◌}
use Rattle.sb_types.specs.Faults.{Gives}
use Rattle.sb_holdings.specs.Held.{Held}
use Rattle.sb_holdings.specs.Plain.{own_answer}
use Rattle.sb_node.specs.Cores.{Core, committed_answer}
use Rattle.sb_node.proofs.Own.{own_allowed}
use Rattle.sb_node.proofs.node.NodeCore.take_own.Goals as goal

pub returns-clause-answer : goal.returns-clause-answer
returns-clause-answer c =
    let node = c.args.self.now.node in
    let committed = c.args.committed.now in
    let held : c.self.inside.holdings ≡ node.held = ap (λ (core : Core). core.node.held) c.self.view_is in
    let entry : c.in_ok-copy.field-0 ≡ committed.entry = cc (c.in_ok-copy.ensures.copied) in
    let same : own_answer c.self.inside.holdings c.in_ok-copy.field-0 ≡ committed_answer node committed =
    ap (λ (h : Held). own_answer h c.in_ok-copy.field-0) held ∙ ap (own_answer node.held) entry ∙ own_allowed node committed c.in_default.ensures.none ∙ sym c.in_default.ensures.none in
    subst (Gives c.push_own.result) same c.push_own.ensures.answer
