use Rattle.std.proofs.Common.{sym, ◌∙◌}
use Rattle.sb_holdings.proofs.Holding.{begun-none, begun-none_fills, begun-fills, begun-is}
use Rattle.sb_holdings.proofs.holder.Holder.begin.Goals as goal

pub returns-then-progress-eq0-clause-effect : goal.returns-then-progress-eq0-clause-effect
returns-then-progress-eq0-clause-effect c =
    begun-none c.args.self.now c.args.floor c.args.upto c.args.entries.now c.requires.run c.requires.more c.new-stage.result c.fill-end.new.stage c.fill-end.result
    c.new-stage.ensures.nothing c.fill-end.ensures.end c.fill-end.ensures.effect (sym c.progress.ensures.progress ∙ c.if-progress-eq0.true)

pub returns-then-progress-eq0-clause-end : goal.returns-then-progress-eq0-clause-end
returns-then-progress-eq0-clause-end c =
    begun-none_fills c.args.self.now c.args.floor c.args.upto c.args.entries.now c.requires.run c.requires.more c.new-stage.result c.fill-end.new.stage c.fill-end.result
    c.new-stage.ensures.nothing c.fill-end.ensures.end c.fill-end.ensures.effect

pub returns-clause-effect : goal.returns-clause-effect
returns-clause-effect c =
    begun-is c.args.self.now c.args.floor c.args.upto c.args.entries.now c.requires.run c.requires.more c.new-stage.result c.fill-end.new.stage c.fill-end.result
    c.new-stage.ensures.nothing c.fill-end.ensures.end c.fill-end.ensures.effect c.settle.result c.settle.ensures.end c.settle.new.self
    (λ none. c.if-progress-eq0.false (c.progress.ensures.progress ∙ none)) c.settle.ensures.effect

pub returns-clause-end : goal.returns-clause-end
returns-clause-end c =
    begun-fills c.args.self.now c.args.floor c.args.upto c.args.entries.now c.requires.run c.requires.more c.new-stage.result c.fill-end.new.stage c.fill-end.result
    c.new-stage.ensures.nothing c.fill-end.ensures.end c.fill-end.ensures.effect c.settle.result c.settle.ensures.end
