use Rattle.std.proofs.Common.{rules, ◌≡◌, ℕ, ◌+◌, ◌<◌, List, [], ◌∷◌, ◌++◌, length, Some, Ok, Err, slice_get, refl, sym, ap, subst, ◌∙◌}
use Rattle.std.specs.Prelude.{slice_set}
use Rattle.std.proofs.lemmas.Option.{slice_get-get_or}
use Rattle.sb_types.specs.declared.fault.Fault.TheVariants as faults
use Rattle.sb_frames.specs.Frames.{frame}
use Rattle.sb_session.specs.Sessions.{Session}
use Rattle.sb_session.specs.Taking.{Asks}
use Rattle.sb_node.specs.Steps.{Steps}
use Rattle.sb_world.specs.declared.event.Answer.TheVariants as answers
use Rattle.sb_world.specs.Connections.{Connection, connection_at, with_connection}
use Rattle.sb_world.specs.Connecting.{in_session, AsksOn}
use Rattle.sb_world.specs.Places.{Place}
use Rattle.sb_world.specs.Turns.{with_core}
use Rattle.sb_world.proofs.Connected.{same_there, resting, asked_not, asked_short, asked_so}
use Rattle.sb_world.proofs.place.Place.ask.Goals as goal

pub returns-in-Err : goal.returns-in-Err
returns-in-Err g c =
    let v : Place = record { me = c.self.inside.me; log = g.L.WriteLog.seen c.self.inside.log; core = c.self.inside.core; waiting = c.self.inside.waiting.items; is_up = c.self.inside.is_up } in
    let conns = c.args.connections.now.items in
    let number = c.args.number in
    let sent = c.args.sent.now.items in
    let i = c.in-Some.index in
    let x = c.index.result.now in
    let within = subst (λ (cs : List Connection). i < length cs) c.deref.ensures.value c.in-Some.ensures.within in
    let found = subst (λ (cs : List Connection). connection_at cs number ≡ slice_get cs i) c.deref.ensures.value c.in-Some.ensures.found in
    let here = slice_get-get_or conns i x within ∙ ap (λ (d : Connection). Some d) (sym c.index.ensures) in
    let fault = c.in-Err.fault in
    let asks = subst (λ (s : Session). Asks Steps s v.core (Err fault) c.ask.new.self c.ask.new.handler) c.session-session.ensures c.in-Err.ensures.asks in
    subst (λ (p : Place). (frames : List (List ℕ)) × AsksOn (connection_at conns number) p number conns sent (resting (with_core v c.ask.new.handler) (Err fault) frames) conns × (sent ≡ sent ++ frames)) c.self.view_is
    (asked_not v number conns sent x (found ∙ here) c.ask.new.self c.ask.new.handler fault asks)

pub returns-then-is_err : goal.returns-then-is_err
returns-then-is_err g c =
    let v : Place = record { me = c.self.inside.me; log = g.L.WriteLog.seen c.self.inside.log; core = c.self.inside.core; waiting = c.self.inside.waiting.items; is_up = c.self.inside.is_up } in
    let conns = c.args.connections.now.items in
    let number = c.args.number in
    let sent = c.args.sent.now.items in
    let later = c.reserve.new.self.items in
    let i = c.in-Some.index in
    let x = c.index.result.now in
    let within = subst (λ (cs : List Connection). i < length cs) c.deref.ensures.value c.in-Some.ensures.within in
    let found = subst (λ (cs : List Connection). connection_at cs number ≡ slice_get cs i) c.deref.ensures.value c.in-Some.ensures.found in
    let here = slice_get-get_or conns i x within ∙ ap (λ (d : Connection). Some d) (sym c.index.ensures) in
    let message = c.in-Ok.message in
    let asks = subst (λ (s : Session). Asks Steps s v.core (Ok message) c.ask.new.self c.ask.new.handler) c.session-session.ensures c.in-Ok.ensures.asks in
    subst (λ (p : Place). (frames : List (List ℕ)) × AsksOn (connection_at conns number) p number conns sent (resting (with_core v c.ask.new.handler) (Err faults.NoMemory) frames) conns × (later ≡ sent ++ frames)) c.self.view_is
    (asked_short v number conns sent x (found ∙ here) c.ask.new.self c.ask.new.handler message faults.NoMemory later refl c.reserve.ensures.items asks)

pub returns-in-Err-frame_for : goal.returns-in-Err-frame_for
returns-in-Err-frame_for g c =
    let v : Place = record { me = c.self.inside.me; log = g.L.WriteLog.seen c.self.inside.log; core = c.self.inside.core; waiting = c.self.inside.waiting.items; is_up = c.self.inside.is_up } in
    let conns = c.args.connections.now.items in
    let number = c.args.number in
    let sent = c.args.sent.now.items in
    let later = c.reserve.new.self.items in
    let i = c.in-Some.index in
    let x = c.index.result.now in
    let within = subst (λ (cs : List Connection). i < length cs) c.deref.ensures.value c.in-Some.ensures.within in
    let found = subst (λ (cs : List Connection). connection_at cs number ≡ slice_get cs i) c.deref.ensures.value c.in-Some.ensures.found in
    let here = slice_get-get_or conns i x within ∙ ap (λ (d : Connection). Some d) (sym c.index.ensures) in
    let message = c.in-Ok.message in
    let fault = c.in-Err-frame_for.fault in
    let asks = subst (λ (s : Session). Asks Steps s v.core (Ok message) c.ask.new.self c.ask.new.handler) c.session-session.ensures c.in-Ok.ensures.asks in
    subst (λ (p : Place). (frames : List (List ℕ)) × AsksOn (connection_at conns number) p number conns sent (resting (with_core v c.ask.new.handler) (Err fault) frames) conns × (later ≡ sent ++ frames)) c.self.view_is
    (asked_short v number conns sent x (found ∙ here) c.ask.new.self c.ask.new.handler message fault later c.in-Err-frame_for.ensures.memory c.reserve.ensures.items asks)

pub returns : goal.returns
returns g c =
    let v : Place = record { me = c.self.inside.me; log = g.L.WriteLog.seen c.self.inside.log; core = c.self.inside.core; waiting = c.self.inside.waiting.items; is_up = c.self.inside.is_up } in
    let conns = c.args.connections.now.items in
    let number = c.args.number in
    let sent = c.args.sent.now.items in
    let later = c.push_reserved.new.self.items in
    let i = c.in-Some.index in
    let x = c.index.result.now in
    let y = c.index_mut.result.now in
    let within = subst (λ (cs : List Connection). i < length cs) c.deref.ensures.value c.in-Some.ensures.within in
    let found = subst (λ (cs : List Connection). connection_at cs number ≡ slice_get cs i) c.deref.ensures.value c.in-Some.ensures.found in
    let set = subst (λ (cs : List Connection). (e : Connection) → with_connection cs number e ≡ slice_set cs i e) c.deref.ensures.value c.in-Some.ensures.set in
    let here = slice_get-get_or conns i x within ∙ ap (λ (d : Connection). Some d) (sym c.index.ensures) in
    let there = slice_get-get_or conns i y within ∙ ap (λ (d : Connection). Some d) (sym c.index_mut.ensures.value) in
    let message = c.in-Ok.message in
    let asks = subst (λ (s : Session). Asks Steps s v.core (Ok message) c.ask.new.self c.ask.new.handler) c.session-session.ensures c.in-Ok.ensures.asks in
    let is_later : later ≡ sent ++ frame message ∷ [] =
    c.push_reserved.ensures.items ∙ ap (λ (fs : List (List ℕ)). fs ++ c.in-Ok-frame_for.digest ∷ []) c.reserve.ensures.items ∙ ap (λ (f : List ℕ). sent ++ f ∷ []) c.in-Ok-frame_for.ensures.frame in
    let counted : c.len.result ≡ length sent + 1 = search rules in
    let on = c.go_on.ensures ∙ ap (λ (d : Connection). in_session d c.ask.new.self) (same_there conns i y x there here) in
    subst (λ (p : Place). (frames : List (List ℕ)) × AsksOn (connection_at conns number) p number conns sent (resting (with_core v c.ask.new.handler) (Ok (answers.Sent c.len.result)) frames) (slice_set conns i c.go_on.new.self) × (later ≡ sent ++ frames)) c.self.view_is
    (asked_so v number conns sent x (found ∙ here) c.ask.new.self c.ask.new.handler message i later c.len.result c.go_on.new.self c.in-Ok-frame_for.ensures.limits is_later counted on set asks)
