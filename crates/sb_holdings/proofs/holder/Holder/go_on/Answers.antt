use Rattle.std.proofs.Common.{◌≡◌, sym, ap, ◌∙◌, Some}
use Rattle.sb_types.specs.Records.{Holder}
use Rattle.sb_types.specs.Runs.{newer_entries}
use Rattle.sb_holdings.specs.Holders.{with_stage, is_due}
use Rattle.sb_holdings.proofs.Holding.{goes-on_some, go_on-is}
use Rattle.sb_holdings.proofs.holder.Holder.go_on.Goals as goal

pub settle-requires-clause-some : goal.settle-requires-clause-some
settle-requires-clause-some c =
    let is : c.args.self.now.stage ≡ Some c.in-Some.stage = sym (ap (λ (h : Holder). h.stage) c.self.view_is) ∙ sym c.in-Some.ensures.value in
    let new_is : c.entries_above-new.result.now ≡ newer_entries c.in-Some.stage.progress c.args.entries.now = c.entries_above-new.ensures ∙ ap (λ n. newer_entries n c.args.entries.now) c.progress.ensures.progress in
    goes-on_some c.self.inside.stage c.in-Some.stage c.fill-end.new.stage c.args.upto c.args.entries.now c.entries_above-new.result.now c.fill-end.result (sym c.in-Some.ensures.value)
    c.self.invariant.staged (rw (← c.self.view_is) at c.requires.stage) new_is c.fill-end.ensures.effect

pub returns-in-Some-clause-effect : goal.returns-in-Some-clause-effect
returns-in-Some-clause-effect c =
    let is : c.args.self.now.stage ≡ Some c.in-Some.stage = sym (ap (λ (h : Holder). h.stage) c.self.view_is) ∙ sym c.in-Some.ensures.value in
    let new_is : c.entries_above-new.result.now ≡ newer_entries c.in-Some.stage.progress c.args.entries.now = c.entries_above-new.ensures ∙ ap (λ n. newer_entries n c.args.entries.now) c.progress.ensures.progress in
    go_on-is c.args.self.now c.settle.new.self c.in-Some.stage c.fill-end.new.stage c.args.upto c.args.entries.now c.entries_above-new.result.now c.fill-end.result c.settle.result
    is new_is c.fill-end.ensures.end c.fill-end.ensures.effect c.settle.ensures.end
    (c.settle.ensures.effect ∙ ap (λ (h : Holder). with_stage h.shown c.fill-end.new.stage (is_due c.fill-end.new.stage c.fill-end.result) c.settle.result) c.self.view_is)
