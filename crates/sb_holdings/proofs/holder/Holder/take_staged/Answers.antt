use Rattle.std.proofs.Common.{◌≡◌, true, [], sym, ap, ◌∙◌, Option}
use Rattle.sb_types.specs.Records.{Stage, Holder}
use Rattle.std.specs.Option.{option_copied}
use Rattle.sb_holdings.specs.Holders.{goes_on_with, unnamed_block}
use Rattle.sb_holdings.proofs.Holding.{goes-on}
use Rattle.sb_holdings.proofs.holder.Holder.take_staged.Goals as goal

pub go_on-requires : goal.go_on-requires
go_on-requires c =
    let has : c.args.self.now.stage ≡ option_copied c.as_ref.result = sym (ap (λ (h : Holder). h.stage) c.self.view_is) ∙ sym c.as_ref.ensures.value in
    let goes : goes_on_with c.args.self.now.stage (unnamed_block c.args.floor c.args.after c.args.upto []) ≡ true =
    ap (λ (o : Option Stage). goes_on_with o (unnamed_block c.args.floor c.args.after c.args.upto [])) has ∙ sym c.goes_on_with.ensures ∙ c.if-goes_on_with.true in
    record { stage = goes-on c.args.self.now.stage c.args.floor c.args.after c.args.upto c.args.entries.now goes c.requires.run }
