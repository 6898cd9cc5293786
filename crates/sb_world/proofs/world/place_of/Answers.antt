use Rattle.std.proofs.Common.{◌≡◌, true, Some, arith, List, sym, ap, subst, ◌∙◌}
use Rattle.std.proofs.lemmas.List.{take_all}
use Rattle.std.proofs.lemmas.Option.{slice_get-get_or}
use Rattle.std.specs.List.{list_all}
use Rattle.sb_world.specs.Places.{Place}
use Rattle.sb_world.proofs.Looking.{is_other, none_there, found_there, put_there}
use Rattle.sb_world.proofs.world.place_of.Goals as goal

pub returns-then-is_named-clause-found : goal.returns-then-is_named-clause-found
returns-then-is_named-clause-found g c =
    let there = c.index-places-index.result in
    let at_i = slice_get-get_or c.args.places.now c.loop-index.index there c.loop-index-test.true ∙ ap (λ (p : Place). Some p) (sym c.index-places-index.is) in
    found_there c.args.name.now there (sym c.if-is_named.ensures) c.args.places.now c.loop-index.index c.loop-index.invariant.others at_i

pub returns-then-is_named-clause-set : goal.returns-then-is_named-clause-set
returns-then-is_named-clause-set g c =
    let there = c.index-places-index.result in
    let at_i = slice_get-get_or c.args.places.now c.loop-index.index there c.loop-index-test.true ∙ ap (λ (p : Place). Some p) (sym c.index-places-index.is) in
    put_there c.args.name.now there (sym c.if-is_named.ensures) c.args.places.now c.loop-index.index c.loop-index.invariant.others at_i

pub returns-clause-none : goal.returns-clause-none
returns-clause-none g c =
    let done = c.loop-index-test.false in
    none_there c.args.places.now c.args.name.now (subst (λ (ps : List Place). list_all (is_other c.args.name.now) ps ≡ true) (take_all c.loop-index.index c.args.places.now (omega arith)) c.loop-index.invariant.others)
