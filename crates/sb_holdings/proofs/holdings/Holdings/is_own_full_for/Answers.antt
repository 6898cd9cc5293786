use Rattle.std.proofs.Common.{Option, unwrap_or, sym, ap, ◌∙◌}
use Rattle.sb_types.specs.Records.{Table, Holder}
use Rattle.sb_table.specs.Plain.{is_full_for}
use Rattle.sb_holdings.specs.Held.{empty_holder}
use Rattle.sb_holdings.proofs.ByOwner.{own-now}
use Rattle.sb_holdings.proofs.holdings.Holdings.is_own_full_for.Goals as goal

pub returns-in-Some-clause-full : goal.returns-in-Some-clause-full
returns-in-Some-clause-full c =
    let now = own-now c.args.self.now c.self.inside.me c.self.inside.holders.entries c.self.invariant.0 c.self.view_is ∙ ap (λ (o : Option Holder). unwrap_or o empty_holder) (sym c.in-Some.ensures.value) in
    c.is_full_for.ensures.full ∙ ap (λ (t : Table). is_full_for c.args.key.now t.entries) c.shown.ensures.shown ∙ sym (ap (λ (h : Holder). is_full_for c.args.key.now h.shown.entries) now)

pub returns-in-None-clause-full : goal.returns-in-None-clause-full
returns-in-None-clause-full c =
    let now = own-now c.args.self.now c.self.inside.me c.self.inside.holders.entries c.self.invariant.0 c.self.view_is ∙ ap (λ (o : Option Holder). unwrap_or o empty_holder) (sym c.in-None.ensures.value) in
    sym (ap (λ (h : Holder). is_full_for c.args.key.now h.shown.entries) now)
