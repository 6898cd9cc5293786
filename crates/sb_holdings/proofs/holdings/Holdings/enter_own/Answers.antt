use Rattle.std.proofs.Common.{◌≡◌, ◌+◌, Option, Some, unwrap_or, is_some, MutBor, sym, ap, ◌∙◌, arith}
use Rattle.std.specs.Option.{option_copied_mut}
use Rattle.sb_types.specs.Records.{Holder}
use Rattle.sb_holdings.specs.Held.{empty_holder, holder_of}
use Rattle.sb_table.specs.Plain.{is_full_for}
use Rattle.sb_holdings.proofs.ByOwner.{is_some-map, found, own-some, own-alone, own-now, own-ok, own-err, own-kept}
use Rattle.sb_holdings.proofs.holdings.Holdings.enter_own.Goals as goal

pub unwrap-requires : goal.unwrap-requires
unwrap-requires c =
    sym (is_some-map (λ (x : MutBor Holder). x.now) c.get_mut.result) ∙ ap is_some c.get_mut.ensures.value ∙ own-some c.self.inside.me c.self.inside.holders.entries c.self.invariant.0 c.self.invariant.1

pub invariant_of-self : goal.invariant_of-self
invariant_of-self c =
    let at : found c.self.inside.holders.entries c.self.inside.me ≡ Some c.unwrap.result.now = sym c.get_mut.ensures.value ∙ ap option_copied_mut c.unwrap.ensures in
    ((c.get_mut.follows.holds c.push.new.self).4, own-kept c.args.self.now c.self.inside.me c.self.inside.holders (c.get_mut.follows.lender c.push.new.self) c.unwrap.result.now c.push.new.self c.self.invariant.0 (c.get_mut.follows.holds c.push.new.self).4 at (c.get_mut.follows.holds c.push.new.self) c.self.invariant.1 c.self.view_is c.args.entry c.push.result c.push.ensures.ok c.push.ensures.err c.push.ensures.kept)

pub returns-clause-holdings : goal.returns-clause-holdings
returns-clause-holdings c = (invariant_of-self c).1

pub returns-clause-err : goal.returns-clause-err
returns-clause-err c =
    let at : found c.self.inside.holders.entries c.self.inside.me ≡ Some c.unwrap.result.now = sym c.get_mut.ensures.value ∙ ap option_copied_mut c.unwrap.ensures in
    own-err c.args.self.now c.self.inside.me c.self.inside.holders (c.get_mut.follows.lender c.push.new.self) c.unwrap.result.now c.push.new.self c.self.invariant.0 (c.get_mut.follows.holds c.push.new.self).4 at (c.get_mut.follows.holds c.push.new.self) c.self.invariant.1 c.self.view_is c.args.entry c.push.result c.push.ensures.err

pub returns-clause-ok : goal.returns-clause-ok
returns-clause-ok c =
    let at : found c.self.inside.holders.entries c.self.inside.me ≡ Some c.unwrap.result.now = sym c.get_mut.ensures.value ∙ ap option_copied_mut c.unwrap.ensures in
    let now : holder_of c.args.self.now.owners c.args.self.now.me ≡ c.unwrap.result.now = own-now c.args.self.now c.self.inside.me c.self.inside.holders.entries c.self.invariant.0 c.self.view_is ∙ ap (λ (o : Option Holder). unwrap_or o empty_holder) at in
    own-ok c.args.self.now c.self.inside.me c.self.inside.holders (c.get_mut.follows.lender c.push.new.self) c.unwrap.result.now c.push.new.self c.self.invariant.0 (c.get_mut.follows.holds c.push.new.self).4 at (c.get_mut.follows.holds c.push.new.self) c.self.invariant.1 c.self.view_is c.args.entry c.push.result c.push.ensures.ok (c.requires.next ∙ ap (λ (h : Holder). h.shown.held + 1) now)

pub push-requires-clause-later : goal.push-requires-clause-later
push-requires-clause-later c =
    let at : found c.self.inside.holders.entries c.self.inside.me ≡ Some c.unwrap.result.now = sym c.get_mut.ensures.value ∙ ap option_copied_mut c.unwrap.ensures in
    let now : holder_of c.args.self.now.owners c.args.self.now.me ≡ c.unwrap.result.now = own-now c.args.self.now c.self.inside.me c.self.inside.holders.entries c.self.invariant.0 c.self.view_is ∙ ap (λ (o : Option Holder). unwrap_or o empty_holder) at in
    omega (arith, c.requires.next, ap (λ (h : Holder). h.shown.held) now)

pub push-requires-clause-room : goal.push-requires-clause-room
push-requires-clause-room c =
    let at : found c.self.inside.holders.entries c.self.inside.me ≡ Some c.unwrap.result.now = sym c.get_mut.ensures.value ∙ ap option_copied_mut c.unwrap.ensures in
    let now : holder_of c.args.self.now.owners c.args.self.now.me ≡ c.unwrap.result.now = own-now c.args.self.now c.self.inside.me c.self.inside.holders.entries c.self.invariant.0 c.self.view_is ∙ ap (λ (o : Option Holder). unwrap_or o empty_holder) at in
    ap (λ (h : Holder). is_full_for c.args.entry.key h.shown.entries) (sym now) ∙ c.requires.room

pub push-requires-clause-alone : goal.push-requires-clause-alone
push-requires-clause-alone c =
    let at : found c.self.inside.holders.entries c.self.inside.me ≡ Some c.unwrap.result.now = sym c.get_mut.ensures.value ∙ ap option_copied_mut c.unwrap.ensures in
    own-alone c.self.inside.me c.self.inside.holders.entries c.unwrap.result.now c.self.invariant.0 c.self.invariant.1 at
