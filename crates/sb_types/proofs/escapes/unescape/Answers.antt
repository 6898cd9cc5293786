use Rattle.std.proofs.Common.{◌≡◌, ◌<◌, length, take, arith}
use Rattle.std.proofs.lemmas.Grind.{common_steps}
use Rattle.std.proofs.lemmas.List.{length-take-le}
use Rattle.sb_types.proofs.Spelling.{not_read, too_long}
use Rattle.sb_types.proofs.escapes.unescape.Goals as goal

pub returns-in_err-byte-clause-none : goal.returns-in_err-byte-clause-none
returns-in_err-byte-clause-none c =
    let some : 0 < length c.loop-rest.rest.now = grind (arith, common_steps) in
    let front = take c.loop-rest.count c.loop-rest.room in
    let none = c.in_err-byte.ensures.none in
    rw c.from_residual.ensures (λ text short whole. not_read front c.loop-rest.rest.now text c.args.word.now c.loop-rest.invariant.word some none whole)

pub returns-then-count-eq-TEXT_MOST-clause-none : goal.returns-then-count-eq-TEXT_MOST-clause-none
returns-then-count-eq-TEXT_MOST-clause-none c text short whole =
    let some : 0 < length c.loop-rest.rest.now = grind (arith, common_steps) in
    let full : length (take c.loop-rest.count c.loop-rest.room) ≡ 512 = omega (arith, length-take-le c.loop-rest.count c.loop-rest.room (omega arith), c.if-count-eq-TEXT_MOST.true) in
    too_long (take c.loop-rest.count c.loop-rest.room) c.loop-rest.rest.now text c.args.word.now 512 c.loop-rest.invariant.word some full short whole
