use Rattle.std.proofs.Common.{◌≡◌, ℕ, ◌+◌, Bool, true, false, List, [], ◌∷◌, ◌++◌, length, Result, Err, refl, sym, ap, subst, ◌∙◌}
use Rattle.std.proofs.lemmas.List.{append-nil, length-append}
use Rattle.sb_types.specs.declared.fault.Fault.{Fault}
use Rattle.sb_world.specs.Hearing.{Listener, listener_of, HearsOnce, frames_of, items_of}
use Rattle.sb_world.proofs.Heard.{heard_so, fewer_once, laid_on, heard_one, heard_all, heard_up_to}
use Rattle.sb_world.proofs.hearing.hear.Goals as goal

pub loop-fault-init : goal.loop-fault-init
loop-fault-init c = ([], refl, sym (append-nil c.args.sent.now.items), sym (append-nil c.args.items.now.items))

pub loop-fault-smaller : goal.loop-fault-smaller
loop-fault-smaller c =
    let a : Listener = listener_of c.loop-fault.core c.loop-fault.session c.loop-fault.frames in
    let b : Listener = listener_of c.hear_next.new.core c.hear_next.new.session c.hear_next.new.frames in
    let said = c.hear_next.ensures in
    let is = c.in-Ok-true.is ∙ ap heard_so c.in-Ok-true.field-0-test in
    fewer_once a b (length c.loop-fault.sent.items) said.0 said.1 (subst (λ (r : Result Bool Fault). HearsOnce a b (length c.loop-fault.sent.items) r said.0 said.1) is said.4)

pub loop-fault-preserved : goal.loop-fault-preserved
loop-fault-preserved c =
    let sent = c.args.sent.now.items in
    let items = c.args.items.now.items in
    let n = length sent in
    let start : Listener = listener_of c.args.core.now c.args.session.now c.args.frames.now in
    let a : Listener = listener_of c.loop-fault.core c.loop-fault.session c.loop-fault.frames in
    let b : Listener = listener_of c.hear_next.new.core c.hear_next.new.session c.hear_next.new.frames in
    let inv = c.loop-fault.invariant in
    let heard = inv.0 in
    let frames = frames_of heard in
    let told = items_of n heard in
    let said = c.hear_next.ensures in
    let is = c.in-Ok-true.is ∙ ap heard_so c.in-Ok-true.field-0-test in
    let count : length c.loop-fault.sent.items ≡ n + length frames = ap (λ (fs : List (List ℕ)). length fs) inv.2 ∙ length-append sent frames in
    let once = subst (λ m. HearsOnce a b m (heard_so true) said.0 said.1) count (subst (λ (r : Result Bool Fault). HearsOnce a b (length c.loop-fault.sent.items) r said.0 said.1) is said.4) in
    let one = heard_one start a b heard n frames told inv.1 refl refl said.0 said.1 once in (
      heard ++ one.0 ∷ [],
      one.1,
      laid_on sent c.loop-fault.sent.items c.hear_next.new.sent.items frames said.0 (frames_of (heard ++ one.0 ∷ [])) inv.2 said.2 one.2,
      laid_on items c.loop-fault.items.items c.hear_next.new.items.items told said.1 (items_of n (heard ++ one.0 ∷ [])) inv.3 said.3 one.3,
    )

pub returns-in-Ok-false : goal.returns-in-Ok-false
returns-in-Ok-false c =
    let sent = c.args.sent.now.items in
    let items = c.args.items.now.items in
    let n = length sent in
    let start : Listener = listener_of c.args.core.now c.args.session.now c.args.frames.now in
    let a : Listener = listener_of c.loop-fault.core c.loop-fault.session c.loop-fault.frames in
    let b : Listener = listener_of c.hear_next.new.core c.hear_next.new.session c.hear_next.new.frames in
    let inv = c.loop-fault.invariant in
    let heard = inv.0 in
    let frames = frames_of heard in
    let told = items_of n heard in
    let said = c.hear_next.ensures in
    let is = c.in-Ok-false.is ∙ ap heard_so c.in-Ok-false.field-0-test in
    let count : length c.loop-fault.sent.items ≡ n + length frames = ap (λ (fs : List (List ℕ)). length fs) inv.2 ∙ length-append sent frames in
    let once = subst (λ m. HearsOnce a b m (heard_so false) said.0 said.1) count (subst (λ (r : Result Bool Fault). HearsOnce a b (length c.loop-fault.sent.items) r said.0 said.1) is said.4) in
    let all = heard_all start a b heard n frames told inv.1 refl refl said.0 said.1 once in (
      all.0,
      all.1,
      frames ++ said.0,
      told ++ said.1,
      laid_on sent c.loop-fault.sent.items c.hear_next.new.sent.items frames said.0 (frames ++ said.0) inv.2 said.2 refl,
      laid_on items c.loop-fault.items.items c.hear_next.new.items.items told said.1 (told ++ said.1) inv.3 said.3 refl,
      all.2,
      all.3,
    )

pub returns-in-Err : goal.returns-in-Err
returns-in-Err c =
    let sent = c.args.sent.now.items in
    let items = c.args.items.now.items in
    let n = length sent in
    let start : Listener = listener_of c.args.core.now c.args.session.now c.args.frames.now in
    let a : Listener = listener_of c.loop-fault.core c.loop-fault.session c.loop-fault.frames in
    let b : Listener = listener_of c.hear_next.new.core c.hear_next.new.session c.hear_next.new.frames in
    let inv = c.loop-fault.invariant in
    let heard = inv.0 in
    let frames = frames_of heard in
    let told = items_of n heard in
    let said = c.hear_next.ensures in
    let count : length c.loop-fault.sent.items ≡ n + length frames = ap (λ (fs : List (List ℕ)). length fs) inv.2 ∙ length-append sent frames in
    let once = subst (λ m. HearsOnce a b m (Err c.in-Err.fault) said.0 said.1) count (subst (λ (r : Result Bool Fault). HearsOnce a b (length c.loop-fault.sent.items) r said.0 said.1) c.in-Err.is said.4) in
    let all = heard_up_to start a b heard n frames told inv.1 refl refl c.in-Err.fault said.0 said.1 once in (
      all.0,
      all.1,
      frames ++ said.0,
      told ++ said.1,
      laid_on sent c.loop-fault.sent.items c.hear_next.new.sent.items frames said.0 (frames ++ said.0) inv.2 said.2 refl,
      laid_on items c.loop-fault.items.items c.hear_next.new.items.items told said.1 (told ++ said.1) inv.3 said.3 refl,
      all.2,
      all.3,
    )
