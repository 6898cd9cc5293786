use Rattle.std.proofs.Common.{rules, ◌≡◌, ℕ, ◌+◌, ◌<◌, ◌≤◌, true, List, [], ◌∷◌, ◌++◌, length, None, Ok, slice_get, ap, subst, ◌∙◌}
use Rattle.std.proofs.lemmas.Option.{slice_get-get_or}
use Rattle.std.proofs.Math.ListN.{get_or}
use Rattle.sb_types.specs.Records.{Settings}
use Rattle.sb_codec.specs.declared.message.Message.{Message}
use Rattle.sb_codec.specs.Messages.{is_message}
use Rattle.sb_frames.specs.Frames.{frame}
use Rattle.sb_frames.specs.Streams.{open_with}
use Rattle.sb_session.specs.Sessions.{Session, new_session, hello_of}
use Rattle.sb_world.specs.declared.event.Answer.TheVariants as answers
use Rattle.sb_world.specs.Connections.{Connection, connection_at}
use Rattle.sb_world.specs.Connecting.{session_at, new_connection, Connects}
use Rattle.sb_world.specs.Places.{Place}
use Rattle.sb_world.proofs.Connected.{resting, in_use, least_budget, connected}
use Rattle.sb_world.proofs.place.Place.connect.Goals as goal

pub returns-in-Some : goal.returns-in-Some
returns-in-Some g c =
    let conns = c.args.connections.now.items in
    let i = c.in-Some.field-0 in
    let within = subst (λ (cs : List Connection). i < length cs) c.deref.ensures.value c.in-Some.ensures.within in
    let found = subst (λ (cs : List Connection). connection_at cs c.args.number ≡ slice_get cs i) c.deref.ensures.value c.in-Some.ensures.found in
    let d = new_connection c.args.self.now c.args.number in
    in_use c.args.self.now c.args.number conns c.args.sent.now.items (get_or conns i d) (found ∙ slice_get-get_or conns i d within)

pub returns : goal.returns
returns g c =
    let v : Place = record { me = c.self.inside.me; log = g.L.WriteLog.seen c.self.inside.log; core = c.self.inside.core; waiting = c.self.inside.waiting.items; is_up = c.self.inside.is_up } in
    let conns = c.args.connections.now.items in
    let number = c.args.number in
    let sent = c.args.sent.now.items in
    let later = c.push_reserved.new.self.items in
    let new = c.push_reserved-2.new.self.items in
    let none = subst (λ (cs : List Connection). connection_at cs number ≡ None) c.deref.ensures.value c.in-None.ensures.none in
    let same : v ≡ c.args.self.now = c.self.view_is in
    let of_settings : c.settings-settings.result ≡ v.core.settings = c.settings-settings.ensures.settings in
    let cluster : c.cluster.result ≡ v.core.settings.cluster = c.cluster.ensures.cluster ∙ ap (λ (s : Settings). s.cluster) of_settings in
    let session : c.new-session.result ≡ session_at v = c.new-session.ensures ∙ ap (λ (name : List ℕ). new_session name v.me) cluster in
    let message : c.hello.result ≡ hello_of (session_at v) = c.hello.ensures ∙ ap hello_of session in
    let is : is_message (hello_of (session_at v)) ≡ true = subst (λ (m : Message). is_message m ≡ true) message c.in_ok-hello.ensures.limits in
    let least : 1024 ≤ v.core.settings.budget = subst (λ (s : Settings). 1024 ≤ s.budget) of_settings (least_budget c.settings-settings.result c.budget.ensures.settings) in
    let is_later : later ≡ sent ++ frame (hello_of (session_at v)) ∷ [] =
    c.push_reserved.ensures.items ∙ ap (λ (fs : List (List ℕ)). fs ++ c.in_ok-hello.hello ∷ []) c.in_ok-reserve-2.ensures.items ∙ ap (λ (f : List ℕ). sent ++ f ∷ []) (c.in_ok-hello.ensures.frame ∙ ap frame message) in
    let is_new : new ≡ conns ++ new_connection v number ∷ [] =
    c.push_reserved-2.ensures.items ∙ ap (λ (cs : List Connection). cs ++ c.new.result ∷ []) c.in_ok-reserve.ensures.items
    ∙ ap (λ (d : Connection). conns ++ d ∷ []) (c.new.ensures ∙ ap (λ (s : Session). record { number = number; me = v.me; session = s; stream = open_with []; left = [] }) session) in
    let counted : c.len.result ≡ length sent + 1 = search rules in
    subst (λ (p : Place). (frames : List (List ℕ)) × Connects (connection_at conns number) p number conns sent (resting p (Ok (answers.Sent c.len.result)) frames) new × (later ≡ sent ++ frames)) same
    (connected v number conns sent none is least later c.len.result new is_later counted is_new)
