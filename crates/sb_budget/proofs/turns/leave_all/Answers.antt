use Rattle.std.proofs.Common.{ℕ, ◌∷◌, ◌++◌, List, map, sym, ap, ◌∙◌, append_assoc}
use Rattle.std.proofs.lemmas.List.{map-append}
use Rattle.sb_budget.specs.Cut.{item_of, items_of_all}
use Rattle.sb_budget.specs.BlocksByOwner.{lowered_of}
use Rattle.sb_budget.specs.Making.{Making}
use Rattle.sb_budget.specs.Parts.{Part, all_of}
use Rattle.sb_budget.proofs.TurnLemmas.{left_part}
use Rattle.sb_budget.proofs.turns.leave_all.Goals as goal

pub loop-cursor-preserved : goal.loop-cursor-preserved
loop-cursor-preserved c = λ front left same.
    let old = c.loop-cursor.invariant front left same in
    let p = c.in-Some.cursor in
    let others = c.pop_front.new.self.items in
    let these = items_of_all (p.next ∷ p.later) in (
      old.0 ++ these,
      old.1 ∙ ap (λ (ps : List Part). old.0 ++ items_of_all (all_of ps)) c.in-Some.ensures.items
          ∙ ap (λ r. old.0 ++ r) (map-append item_of (p.next ∷ p.later) (all_of others))
          ∙ sym (append_assoc old.0 these (items_of_all (all_of others))),
      ap (λ (m : Making). m.blocks) c.leave.ensures
          ∙ ap (λ (o : List ℕ). map (λ b. lowered_of o b) c.loop-cursor.making.blocks) c.owner.ensures.owner
          ∙ ap (map (λ b. lowered_of p.next.owner b)) old.2 ∙ left_part p front old.0 c.owner.ensures.later,
    )
