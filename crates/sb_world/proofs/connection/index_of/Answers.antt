use Rattle.std.proofs.Common.{◌≡◌, true, Some, arith, List, sym, ap, subst, ◌∙◌}
use Rattle.std.proofs.lemmas.List.{take_all}
use Rattle.std.proofs.lemmas.Option.{slice_get-get_or}
use Rattle.std.specs.List.{list_all}
use Rattle.sb_world.specs.Connections.{Connection}
use Rattle.sb_world.proofs.Looking.{is_another, none_connected, connected_there, changed_there, gone_there}
use Rattle.sb_world.proofs.connection.index_of.Goals as goal

pub returns-then-is_numbered-clause-found : goal.returns-then-is_numbered-clause-found
returns-then-is_numbered-clause-found c =
    let there = c.index-connections-index.result in
    let at_i = slice_get-get_or c.args.connections.now c.loop-index.index there c.loop-index-test.true ∙ ap (λ (x : Connection). Some x) (sym c.index-connections-index.is) in
    connected_there c.args.number there (sym c.if-is_numbered.ensures) c.args.connections.now c.loop-index.index c.loop-index.invariant.others at_i

pub returns-then-is_numbered-clause-set : goal.returns-then-is_numbered-clause-set
returns-then-is_numbered-clause-set c =
    let there = c.index-connections-index.result in
    let at_i = slice_get-get_or c.args.connections.now c.loop-index.index there c.loop-index-test.true ∙ ap (λ (x : Connection). Some x) (sym c.index-connections-index.is) in
    changed_there c.args.number there (sym c.if-is_numbered.ensures) c.args.connections.now c.loop-index.index c.loop-index.invariant.others at_i

pub returns-then-is_numbered-clause-cut : goal.returns-then-is_numbered-clause-cut
returns-then-is_numbered-clause-cut c =
    let there = c.index-connections-index.result in
    let at_i = slice_get-get_or c.args.connections.now c.loop-index.index there c.loop-index-test.true ∙ ap (λ (x : Connection). Some x) (sym c.index-connections-index.is) in
    gone_there c.args.number there (sym c.if-is_numbered.ensures) c.args.connections.now c.loop-index.index c.loop-index.invariant.others at_i

pub returns-clause-none : goal.returns-clause-none
returns-clause-none c =
    let done = c.loop-index-test.false in
    none_connected c.args.connections.now c.args.number (subst (λ (cs : List Connection). list_all (is_another c.args.number) cs ≡ true) (take_all c.loop-index.index c.args.connections.now (omega arith)) c.loop-index.invariant.others)
