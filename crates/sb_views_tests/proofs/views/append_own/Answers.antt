use Rattle.std.proofs.Common.{◌≡◌, ℕ, List, [], ◌∷◌, ◌++◌, ap, ◌∙◌}
use Rattle.sb_types.specs.Records.{Entry}
use Rattle.sb_views.specs.declared.change.Change.{Change}
use Rattle.sb_views.specs.declared.change.Change.TheVariants.{Enter}
use Rattle.sb_views.specs.declared.event.Event.{Event}
use Rattle.sb_views.specs.declared.event.Event.TheVariants.{TookOwn}
use Rattle.sb_views.proofs.Leading.{first-leads}
use Rattle.sb_views_tests.proofs.views.append_own.Goals as goal

pub append-requires-clause-leads : goal.append-requires-clause-leads
append-requires-clause-leads g c =
    let entry = c.args.entry in
    let upto : c.prefix.result.now ≡ TookOwn entry ∷ [] =
    c.prefix.ensures ∙ c.add.ensures ∙ ap (λ (l : List Event). l ++ TookOwn entry ∷ []) c.requires.start in
    let batch : c.push.new.self ≡ (c.args.holdings.now.me, Enter entry) ∷ [] =
    c.in-Ok.ensures.ok ∙ ap (λ (b : List (List ℕ × Change)). b ++ (c.me.result.now, Enter c.shared.result) ∷ []) c.new-batch.ensures
    ∙ ap (λ (e : Entry). (c.me.result.now, Enter e) ∷ []) c.shared.ensures
    ∙ ap (λ (o : List ℕ). (o, Enter entry) ∷ []) c.me.ensures.name in
    first-leads g.S.NodeTag.opening c.args.holdings.now entry c.args.writer.now.queued c.prefix.result.now c.push.new.self
    c.requires.opening c.requires.next c.requires.queued upto batch
