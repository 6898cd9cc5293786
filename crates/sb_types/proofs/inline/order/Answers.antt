use Rattle.std.proofs.Common.{◌≡◌, ◌<◌, ◌+◌, length, arith, refl, ◌∙◌, nat_cmp, w8, w64, Fits, Equal, get_or}
use Rattle.std.proofs.Math.Facts.{Fits-lt-pow}
use Rattle.std.specs.Int.{from_be_bytes}
use Rattle.sb_types.proofs.Padded.{unequal, equal, rest_of_bytes}
use Rattle.sb_types.proofs.inline.order.Goals as goal

pub loop-front-init : goal.loop-front-init
loop-front-init c =
    (refl, (λ i. let f : Fits w8 (get_or c.args.left.now i 0) = c.type_inv.left i in Fits-lt-pow f), (λ i. let f : Fits w8 (get_or c.args.right.now i 0) = c.type_inv.right i in Fits-lt-pow f))

pub returns-in_default-cmp : goal.returns-in_default-cmp
returns-in_default-cmp c =
    let i = c.loop-front.invariant in
    let e : c.cmp.result ≡ nat_cmp (from_be_bytes w64 c.in-Some-Some.front.now) (from_be_bytes w64 c.in-Some-Some.other.now) = cc (c.cmp.ensures, c.from_be_bytes.ensures, c.from_be_bytes-in-Some-Some.ensures) in
    unequal c.loop-front.left.now c.loop-front.right.now c.in-Some-Some.front.now c.in-Some-Some.other.now c.in-Some-Some.behind.now c.in-Some-Some.later.now c.cmp.result i.1 i.2 c.in-Some-Some.ensures.cases c.in-Some-Some.ensures'.cases e c.in_default-cmp.not-Equal ∙ i.0

pub loop-front-smaller : goal.loop-front-smaller
loop-front-smaller c =
    let s = c.in-Some-Some.ensures.cases in
    let e : length c.in-Some-Some.behind.now + 8 ≡ length c.loop-front.left.now = s.2 in
    let l : length c.in-Some-Some.behind.now < length c.loop-front.left.now = omega (arith, e) in l

pub loop-front-preserved : goal.loop-front-preserved
loop-front-preserved c =
    let i = c.loop-front.invariant in
    let e : nat_cmp (from_be_bytes w64 c.in-Some-Some.front.now) (from_be_bytes w64 c.in-Some-Some.other.now) ≡ Equal = cc (c.cmp.ensures, c.in-Equal.is, c.from_be_bytes.ensures, c.from_be_bytes-in-Some-Some.ensures) in (
      equal c.loop-front.left.now c.loop-front.right.now c.in-Some-Some.front.now c.in-Some-Some.other.now c.in-Some-Some.behind.now c.in-Some-Some.later.now i.1 i.2 c.in-Some-Some.ensures.cases c.in-Some-Some.ensures'.cases e ∙ i.0,
      rest_of_bytes c.loop-front.left.now c.in-Some-Some.front.now c.in-Some-Some.behind.now i.1 c.in-Some-Some.ensures.cases,
      rest_of_bytes c.loop-front.right.now c.in-Some-Some.other.now c.in-Some-Some.later.now i.2 c.in-Some-Some.ensures'.cases,
    )

pub returns : goal.returns
returns c = let i = c.loop-front.invariant in c.cmp-2.ensures ∙ i.0
