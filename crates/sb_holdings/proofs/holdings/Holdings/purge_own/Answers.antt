use Rattle.std.proofs.Common.{◌≡◌, Some, is_some, MutBor, sym, ap, ◌∙◌}
use Rattle.std.specs.Option.{option_copied_mut}
use Rattle.sb_types.specs.Records.{Holder}
use Rattle.sb_holdings.proofs.ByOwner.{is_some-map, found, own-some, own-purged, own-purged_kept}
use Rattle.sb_holdings.proofs.holdings.Holdings.purge_own.Goals as goal

pub unwrap-requires : goal.unwrap-requires
unwrap-requires c =
    sym (is_some-map (λ (x : MutBor Holder). x.now) c.get_mut.result) ∙ ap is_some c.get_mut.ensures.value ∙ own-some c.self.inside.me c.self.inside.holders.entries c.self.invariant.0 c.self.invariant.1

pub invariant_of-self : goal.invariant_of-self
invariant_of-self c =
    let at : found c.self.inside.holders.entries c.self.inside.me ≡ Some c.unwrap.result.now = sym c.get_mut.ensures.value ∙ ap option_copied_mut c.unwrap.ensures in
    ((c.get_mut.follows.holds c.purge.new.self).4, own-purged_kept c.args.self.now c.self.inside.me c.self.inside.holders (c.get_mut.follows.lender c.purge.new.self) c.unwrap.result.now c.purge.new.self c.self.invariant.0 (c.get_mut.follows.holds c.purge.new.self).4 at (c.get_mut.follows.holds c.purge.new.self) c.self.invariant.1 c.self.view_is c.args.floor c.purge.ensures.purged c.purge.ensures.kept)

pub returns-clause-holdings : goal.returns-clause-holdings
returns-clause-holdings c = (invariant_of-self c).1

pub returns-clause-purged : goal.returns-clause-purged
returns-clause-purged c =
    let at : found c.self.inside.holders.entries c.self.inside.me ≡ Some c.unwrap.result.now = sym c.get_mut.ensures.value ∙ ap option_copied_mut c.unwrap.ensures in
    own-purged c.args.self.now c.self.inside.me c.self.inside.holders (c.get_mut.follows.lender c.purge.new.self) c.unwrap.result.now c.purge.new.self c.self.invariant.0 (c.get_mut.follows.holds c.purge.new.self).4 at (c.get_mut.follows.holds c.purge.new.self) c.self.invariant.1 c.self.view_is c.args.floor c.purge.ensures.purged
