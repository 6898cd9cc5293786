use Rattle.std.proofs.Common.{rules, sym, ap, ◌∙◌}
use Rattle.std.proofs.lemmas.List.Sorted.{answers_always}
use Rattle.sb_digest.specs.Digests.{Pair, digest_of, number_by, floor_by}
use Rattle.sb_digest.proofs.Searching.{pair-there, pair-found, pair-missing, place-at, place-found, place-missing}
use Rattle.sb_digest.proofs.digest.Digest.start_from.Goals as goal

pub returns-then-eq : goal.returns-then-eq
returns-then-eq c =
    let at = rw c.deref.ensures.value at c.in-Some.ensures.lookup in
    let digest = digest_of c.self.inside.want c.self.inside.from c.self.inside.until c.self.inside.pairs.items in
    let same = sym (rw (ap (λ (p : Pair). p.owner) c.pair.view_is) at c.if-eq.ensures) in
    let pair = sym (pair-there digest c.args.owner.now c.args.place c.in-Some.pair.now c.self.invariant.0 at.3.0 at.3.1 same) in
    record {
      after = rw (← c.self.view_is) (c.start.ensures.after ∙ ap (number_by c.args.floor c.args.upto) pair);
      floor = rw (← c.self.view_is) (c.start.ensures.floor ∙ ap (floor_by c.args.floor c.args.upto) pair);
      place = rw (← c.self.view_is) (sym (place-at digest c.args.owner.now c.args.place c.in-Some.pair.now c.self.invariant.0 at.3.0 at.3.1 same));
    }

pub returns-in-Ok : goal.returns-in-Ok
returns-in-Ok c =
    let held = c.in-Ok.ensures.position (λ (p : Pair). p.owner) (answers_always _ _ _ (λ f a r g h. search rules)) in
    let digest = digest_of c.self.inside.want c.self.inside.from c.self.inside.until c.self.inside.pairs.items in
    let bound = rw c.deref-2.ensures.value at c.in-Ok.ensures.bound in
    let at = rw c.deref-2.ensures.value at held in
    let pair = sym (pair-found digest c.args.owner.now _ _ c.self.invariant.0 bound at c.index.ensures) in
    record {
      after = rw (← c.self.view_is) (c.start-in-Ok.ensures.after ∙ ap (number_by c.args.floor c.args.upto) pair);
      floor = rw (← c.self.view_is) (c.start-in-Ok.ensures.floor ∙ ap (floor_by c.args.floor c.args.upto) pair);
      place = rw (← c.self.view_is) (sym (place-found digest c.args.owner.now _ c.self.invariant.0 bound at));
    }

pub returns-in-Err : goal.returns-in-Err
returns-in-Err c =
    let held = c.in-Err.ensures.position (λ (p : Pair). p.owner) (answers_always _ _ _ (λ f a r g h. search rules)) in
    let digest = digest_of c.self.inside.want c.self.inside.from c.self.inside.until c.self.inside.pairs.items in
    let bound = rw c.deref-2.ensures.value at c.in-Err.ensures.bound in
    let at = rw c.deref-2.ensures.value at held in
    let pair = sym (pair-missing digest c.args.owner.now _ c.self.invariant.0 bound at) in
    record {
      after = rw (← c.self.view_is) (c.of_unknown.ensures.after ∙ ap (number_by c.args.floor c.args.upto) pair);
      floor = rw (← c.self.view_is) (c.of_unknown.ensures.floor ∙ ap (floor_by c.args.floor c.args.upto) pair);
      place = rw (← c.self.view_is) (sym (place-missing digest c.args.owner.now _ c.self.invariant.0 bound at));
    }
