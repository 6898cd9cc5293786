use Rattle.std.proofs.Common.{◌≡◌, List, [], ◌∷◌, drop, IfErr, Some, Ok, Err, sym, ap, subst, ◌∙◌}
use Rattle.std.proofs.lemmas.Option.{slice_get-get_or}
use Rattle.sb_types.specs.Records.{Entry}
use Rattle.sb_types.specs.Faults.{Gives}
use Rattle.sb_holdings.specs.Nodes.{Wrote, node_after_event}
use Rattle.sb_log.specs.Records.{Committed}
use Rattle.sb_node.specs.Cores.{with_node, committed_answer}
use Rattle.sb_world.specs.declared.event.Answer.TheVariants as answers
use Rattle.sb_world.specs.Places.{Place}
use Rattle.sb_world.specs.Turns.{rests, goes}
use Rattle.sb_world.proofs.Choosing.{oldest_first, takes_oldest}
use Rattle.sb_world.proofs.place.Place.take.Goals as goal

pub returns-in-Ok : goal.returns-in-Ok
returns-in-Ok g c =
    let oldest = c.in-Some.oldest.now in
    let others = c.pop_front.new.self.items in
    let took = c.in-Ok.ensures in
    let there = c.in-Some.ensures.item in
    let first = oldest_first c.self.inside.waiting.items oldest (ap (λ (d : Committed). Some d) there.1 ∙ sym (slice_get-get_or c.self.inside.waiting.items 0 oldest there.3.0)) in
    let waiting : c.args.self.now.waiting ≡ oldest ∷ others = sym (ap (λ (p : Place). p.waiting) c.self.view_is) ∙ first ∙ ap (λ (xs : List Committed). oldest ∷ xs) (sym c.pop_front.ensures.rest) in
    let version : c.version-version.result ≡ oldest.entry.version = c.version-version.ensures.version ∙ ap (λ (e : Entry). e.version) c.entry.ensures.entry in
    let gives = subst (λ (p : Place). Gives (Ok c.in-Ok.field-0) (committed_answer p.core.node oldest)) c.self.view_is took.answer in
    let refused = subst (λ (p : Place). IfErr (committed_answer p.core.node oldest) (λ fault. Ok c.in-Ok.field-0 ≡ Err fault)) c.self.view_is took.refused in (
      goes (Wrote oldest.entry ∷ []),
      takes_oldest c.args.self.now c.args.self.now.waiting others oldest _ waiting (Ok c.in-Ok.field-0) gives refused (λ i. record {
        answer = Ok (answers.Took (version i));
        effect = goes (Wrote oldest.entry ∷ []);
        place = record {
          me = (c.self.view_is i).me;
          log = (c.self.view_is i).log;
          core = (took.ok ∙ ap (λ (p : Place). with_node p.core (node_after_event p.core.node (Wrote oldest.entry))) c.self.view_is) i;
          waiting = others;
          is_up = (c.self.view_is i).is_up;
        };
        frames = [];
      }),
    )

pub returns-in-Err : goal.returns-in-Err
returns-in-Err g c =
    let oldest = c.in-Some.oldest.now in
    let others = drop 1 c.self.inside.waiting.items in
    let fault = c.in-Err.fault in
    let left = c.in-Err.ensures in
    let there = c.in-Some.ensures.item in
    let first = oldest_first c.self.inside.waiting.items oldest (ap (λ (d : Committed). Some d) there.1 ∙ sym (slice_get-get_or c.self.inside.waiting.items 0 oldest there.3.0)) in
    let waiting : c.args.self.now.waiting ≡ oldest ∷ others = sym (ap (λ (p : Place). p.waiting) c.self.view_is) ∙ first in
    let gives = subst (λ (p : Place). Gives (Err fault) (committed_answer p.core.node oldest)) c.self.view_is left.answer in
    let refused = subst (λ (p : Place). IfErr (committed_answer p.core.node oldest) (λ other. Err fault ≡ Err other)) c.self.view_is left.refused in (
      rests,
      takes_oldest c.args.self.now c.args.self.now.waiting others oldest _ waiting (Err fault) gives refused (λ i. record {
        answer = Err fault;
        effect = rests;
        place = record {
          me = (c.self.view_is i).me;
          log = (c.self.view_is i).log;
          core = (left.err ∙ ap (λ (p : Place). p.core) c.self.view_is) i;
          waiting = (c.self.view_is i).waiting;
          is_up = (c.self.view_is i).is_up;
        };
        frames = [];
      }),
    )
