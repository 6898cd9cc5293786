use Rattle.std.proofs.Common.{◌≡◌, ◌<◌, List, ◌++◌, length, take, Option, Some, None, IfNone, Ok, slice_get, sym, ap, subst, ◌∙◌}
use Rattle.std.specs.Prelude.{slice_set, remove}
use Rattle.std.proofs.lemmas.Option.{slice_get-get_or}
use Rattle.sb_types.specs.declared.fault.Fault.{Fault}
use Rattle.sb_world.specs.declared.event.Answer.TheVariants as answers
use Rattle.sb_world.specs.declared.event.Item.{Item}
use Rattle.sb_world.specs.Connections.{Connection, connection_at, with_connection, without_connection}
use Rattle.sb_world.specs.Connecting.{heard_by, connections_after, Pieces}
use Rattle.sb_world.specs.Hearing.{Tells}
use Rattle.sb_world.specs.Places.{Place}
use Rattle.sb_world.specs.Turns.{listens, with_core}
use Rattle.sb_world.proofs.Connected.{remove_set, delivered}
use Rattle.sb_world.proofs.place.Place.piece.Goals as goal

pub returns-in-Some-fault : goal.returns-in-Some-fault
returns-in-Some-fault g c =
    let v : Place = record { me = c.self.inside.me; log = g.L.WriteLog.seen c.self.inside.log; core = c.self.inside.core; waiting = c.self.inside.waiting.items; is_up = c.self.inside.is_up } in
    let conns = c.args.connections.now.items in
    let number = c.args.number in
    let count = c.args.count in
    let sent = c.args.sent.now.items in
    let i = c.in-Some.index in
    let x = c.index_mut.result.now in
    let within = subst (λ (cs : List Connection). i < length cs) c.deref.ensures.value c.in-Some.ensures.within in
    let found = subst (λ (cs : List Connection). connection_at cs number ≡ slice_get cs i) c.deref.ensures.value c.in-Some.ensures.found in
    let here = slice_get-get_or conns i x within ∙ ap (λ (d : Connection). Some d) (sym c.index_mut.ensures.value) in
    let said = c.piece-fault.ensures in
    let heard = said.0 in
    let last = said.2 in
    let told = said.4 in
    let core = c.piece-fault.new.core in
    let fault = c.in-Some-fault.fault in
    let items = c.new.result in
    let new = c.remove.new.self.items in
    let cut = subst (λ (cs : List Connection). without_connection cs number ≡ remove cs i) c.deref.ensures.value c.in-Some.ensures.cut in
    let tells = subst (λ (f : Option Fault). Tells (length sent) heard said.1 last f told said.3) c.in-Some-fault.is said.8 in
    let is : items ≡ told = c.new.ensures ∙ said.6 ∙ ap (λ (is : List Item). is ++ told) c.new-items.ensures.items in
    let left : new ≡ connections_after (Some fault) conns number (heard_by x count last) = c.remove.ensures.items ∙ remove_set conns i c.piece-fault.new.self ∙ sym cut in (
      listens (take count x.left) heard,
      said.3,
      subst
          (λ (p : Place). Pieces (connection_at conns number) p number count conns sent (record { answer = Ok (answers.Delivered items (Some fault)); effect = listens (take count x.left) heard; place = with_core v core; frames = said.3 }) new)
          c.self.view_is
          (delivered v number conns sent x (found ∙ here) count heard said.1 last (Some fault) items told said.3 core new said.7 tells is said.9 left),
      said.5,
    )

pub returns : goal.returns
returns g c =
    let v : Place = record { me = c.self.inside.me; log = g.L.WriteLog.seen c.self.inside.log; core = c.self.inside.core; waiting = c.self.inside.waiting.items; is_up = c.self.inside.is_up } in
    let conns = c.args.connections.now.items in
    let number = c.args.number in
    let count = c.args.count in
    let sent = c.args.sent.now.items in
    let i = c.in-Some.index in
    let x = c.index_mut.result.now in
    let within = subst (λ (cs : List Connection). i < length cs) c.deref.ensures.value c.in-Some.ensures.within in
    let found = subst (λ (cs : List Connection). connection_at cs number ≡ slice_get cs i) c.deref.ensures.value c.in-Some.ensures.found in
    let here = slice_get-get_or conns i x within ∙ ap (λ (d : Connection). Some d) (sym c.index_mut.ensures.value) in
    let said = c.piece-fault.ensures in
    let heard = said.0 in
    let last = said.2 in
    let told = said.4 in
    let core = c.piece-fault.new.core in
    let items = c.new-2.result in
    let new = slice_set conns i c.piece-fault.new.self in
    let set = subst (λ (cs : List Connection). (d : Connection) → with_connection cs number d ≡ slice_set cs i d) c.deref.ensures.value c.in-Some.ensures.set in
    let tells = subst (λ (f : Option Fault). Tells (length sent) heard said.1 last f told said.3) c.in-None.is said.8 in
    let is : items ≡ told = c.new-2.ensures ∙ said.6 ∙ ap (λ (is : List Item). is ++ told) c.new-items.ensures.items in
    let on = subst (λ (f : Option Fault). IfNone f (c.piece-fault.new.self ≡ heard_by x count last)) c.in-None.is said.10 in
    let left : new ≡ connections_after None conns number (heard_by x count last) = sym (set c.piece-fault.new.self) ∙ ap (with_connection conns number) on in (
      listens (take count x.left) heard,
      said.3,
      subst
          (λ (p : Place). Pieces (connection_at conns number) p number count conns sent (record { answer = Ok (answers.Delivered items None); effect = listens (take count x.left) heard; place = with_core v core; frames = said.3 }) new)
          c.self.view_is
          (delivered v number conns sent x (found ∙ here) count heard said.1 last None items told said.3 core new said.7 tells is said.9 left),
      said.5,
    )
