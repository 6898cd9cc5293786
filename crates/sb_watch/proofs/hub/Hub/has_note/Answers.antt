use Rattle.std.proofs.Common.{ap, ◌∙◌, sym, position, not, Ok}
use Rattle.sb_watch.specs.Watches.{owes_nothing}
use Rattle.sb_watch.specs.Records.{Watch}
use Rattle.sb_watch.specs.Hubs.{is_id}
use Rattle.sb_watch.proofs.Ids.{hub_of, note_found, note_of_none}
use Rattle.sb_watch.proofs.hub.Hub.has_note.Goals as goal

pub returns-in-Some : goal.returns-in-Some
returns-in-Some c =
    let hub = hub_of c.self.inside.watches.items c.self.inside.next in
    let at = ap (position (is_id c.args.id)) (sym c.deref.ensures.value) ∙ sym c.place_of.ensures ∙ c.in-Some.is in
    rw (← c.self.view_is) (record { answer = ap Ok (c.has_note.ensures ∙ ap (λ (w : Watch). not (owes_nothing w)) c.index.ensures) ∙ sym (note_found hub c.args.id c.in-Some.place c.index.result.now at) })

pub returns-in-None : goal.returns-in-None
returns-in-None c =
    let hub = hub_of c.self.inside.watches.items c.self.inside.next in
    let at = ap (position (is_id c.args.id)) (sym c.deref.ensures.value) ∙ sym c.place_of.ensures ∙ c.in-None.is in
    rw (← c.self.view_is) (record { answer = sym (note_of_none hub c.args.id at) })
