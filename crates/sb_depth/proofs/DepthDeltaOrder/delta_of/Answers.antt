use Rattle.std.proofs.Common.{◌<◌, ℕ, List, length, IfOk, subst, rules}
use Rattle.std.specs.List.Sorted.{IsSortedByKey}
use Rattle.std.proofs.lemmas.Result.{IfOk-weaker}
use Rattle.std.proofs.lemmas.List.Sorted.{answers_always}
use Rattle.sb_types.specs.Records.{Block}
use Rattle.sb_budget.specs.Parts.{Part}
use Rattle.sb_depth.proofs.Counts.{by_key, turns_can_cut, sorted_delta, ascending_delta, turns_length}
use Rattle.sb_depth.proofs.DepthDeltaOrder.delta_of.Goals as goal

pub cut_in_turns-requires-clause-items : goal.cut_in_turns-requires-clause-items
cut_in_turns-requires-clause-items c =
    let are = c.requires.owners.2 in
    let moved = c.in_ok-sort_by_cached_key.ensures.permutation in
    let up : IsSortedByKey (λ (p : Part). p.next) by_key c.sort_by_cached_key.new.self.items =
    c.in_ok-sort_by_cached_key.ensures.sorted (λ (p : Part). (record { 0 = p.next.count }, p.next.owner)) (answers_always _ _ _ (λ f a r g h. search rules)) in
    turns_can_cut are moved up

pub returns-clause-order : goal.returns-clause-order
returns-clause-order c held digest are =
    let moved = c.in_ok-sort_by_cached_key.ensures.permutation in
    let up : IsSortedByKey (λ (p : Part). p.next) by_key c.sort_by_cached_key.new.self.items =
    c.in_ok-sort_by_cached_key.ensures.sorted (λ (p : Part). (record { 0 = p.next.count }, p.next.owner)) (answers_always _ _ _ (λ f a r g h. search rules)) in
    IfOk-weaker c.cut_in_turns.result _ _ (λ delta cut. sorted_delta are moved up c.args.budget delta cut) c.cut_in_turns.ensures.cut

pub returns-clause-delta : goal.returns-clause-delta
returns-clause-delta c held digest are =
    let moved = c.in_ok-sort_by_cached_key.ensures.permutation in
    let up : IsSortedByKey (λ (p : Part). p.next) by_key c.sort_by_cached_key.new.self.items =
    c.in_ok-sort_by_cached_key.ensures.sorted (λ (p : Part). (record { 0 = p.next.count }, p.next.owner)) (answers_always _ _ _ (λ f a r g h. search rules)) in
    IfOk-weaker c.cut_in_turns.result _ _ (λ delta cut. ascending_delta are moved up c.args.budget delta cut) c.cut_in_turns.ensures.cut

pub returns-clause-goes : goal.returns-clause-goes
returns-clause-goes c held digest are =
    let moved = c.in_ok-sort_by_cached_key.ensures.permutation in
    let up : IsSortedByKey (λ (p : Part). p.next) by_key c.sort_by_cached_key.new.self.items =
    c.in_ok-sort_by_cached_key.ensures.sorted (λ (p : Part). (record { 0 = p.next.count }, p.next.owner)) (answers_always _ _ _ (λ f a r g h. search rules)) in
    subst (λ (n : ℕ). IfOk c.cut_in_turns.result (λ (delta : List Block). 0 < n → 0 < length delta)) (turns_length are moved up) c.cut_in_turns.ensures.some
