use Rattle.std.proofs.Common.{◌≡◌, ap, subst, ◌∙◌}
use Rattle.std.proofs.lemmas.Result.{IfOk-weaker}
use Rattle.sb_holdings.specs.Held.{Held}
use Rattle.sb_digest.specs.Digests.{Digest}
use Rattle.sb_node.specs.Answers.{IsDelta, IsAnswer}
use Rattle.sb_world.specs.Places.{Place}
use Rattle.sb_world.specs.Turns.{offer_digest}
use Rattle.sb_world.proofs.place.Place.offer.Goals as goal

pub returns-clause-delta : goal.returns-clause-delta
returns-clause-delta g c =
    let p = c.args.self.now in
    let owner = c.args.owner.now in
    let after = c.args.after in
    let blocks = c.in_ok-delta.delta in
    let held : c.holdings.result.now ≡ p.core.node.held = c.holdings.ensures.held ∙ ap (λ (q : Place). q.core.node.held) c.self.view_is in
    let digest = c.in_ok-digest.ensures.digest ∙ ap (λ (h : Held). offer_digest h owner after) held in
    let told = subst (λ (q : Place). IsDelta q.core.settings q.core.node.held c.in_ok-digest.digest blocks) c.self.view_is c.in_ok-delta.ensures.delta in
    let answer = subst (λ (q : Place). IsAnswer q.core.settings.budget q.core.node.held c.in_ok-digest.digest blocks) c.self.view_is c.in_ok-delta.ensures.answer in
    IfOk-weaker c.frame_of.result _ _ (λ bytes laid. (
      blocks,
      c.encoded_length.ensures.delta,
      subst (λ (d : Digest). IsDelta p.core.settings p.core.node.held d blocks) digest told,
      subst (λ (d : Digest). IsAnswer p.core.settings.budget p.core.node.held d blocks) digest answer,
      laid,
    )) c.frame_of.ensures.frame
