use Rattle.std.proofs.Common.{◌≡◌, ℕ, ap, ◌∙◌, arith}
use Rattle.sb_types.specs.Records.{Holder}
use Rattle.sb_types.specs.Runs.{newer_entries}
use Rattle.sb_holdings.specs.Holders.{unnamed_block}
use Rattle.sb_table.proofs.Order.{lower}
use Rattle.sb_holdings.proofs.Holding.{fits-staged, new-run, taken-is}
use Rattle.sb_holdings.proofs.holder.Holder.take.Goals as goal

pub returns-then-floor-held-clause-end : goal.returns-then-floor-held-clause-end
returns-then-floor-held-clause-end c =
    let held_is : c.upto-held.result ≡ c.args.self.now.shown.held = c.upto-held.ensures.version ∙ ap (λ (h : Holder). h.shown.held) c.self.view_is in
    fits-staged c.args.self.now (unnamed_block c.args.floor c.args.after c.args.upto c.args.entries.now) (omega (arith, held_is, c.if-floor-held.true)) c.take_staged.result c.take_staged.ensures.end

pub entries_above-requires : goal.entries_above-requires
entries_above-requires c = lower 0 c.args.after c.args.entries.now (omega arith) c.requires.run.ascending

pub take_shown-requires-clause-run : goal.take_shown-requires-clause-run
take_shown-requires-clause-run c =
    let held_is : c.upto-held.result ≡ c.args.self.now.shown.held = c.upto-held.ensures.version ∙ ap (λ (h : Holder). h.shown.held) c.self.view_is in
    new-run c.args.self.now.shown c.upto-held.result c.args.after c.args.upto c.args.entries.now c.entries_above.result.now held_is c.entries_above.ensures (omega (arith, c.if-upto-held.false)) c.requires.run

pub returns-clause-effect : goal.returns-clause-effect
returns-clause-effect c =
    let held_is : c.upto-held.result ≡ c.args.self.now.shown.held = c.upto-held.ensures.version ∙ ap (λ (h : Holder). h.shown.held) c.self.view_is in
    taken-is c.args.self.now (unnamed_block c.args.floor c.args.after c.args.upto c.args.entries.now)
    (omega (arith, held_is, c.if-floor-held.false)) (omega (arith, held_is, c.if-after-held.false)) (omega (arith, held_is, c.if-upto-held.false))
    c.take_shown.new.self c.entries_above.result.now c.take_shown.result (c.entries_above.ensures ∙ ap (λ (n : ℕ). newer_entries n c.args.entries.now) held_is) c.take_shown.ensures.end c.take_shown.ensures.effect
