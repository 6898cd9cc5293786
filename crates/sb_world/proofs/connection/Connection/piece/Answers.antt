use Rattle.std.proofs.Common.{◌≡◌, ℕ, List, [], length, take, drop, min, Some, refl, sym, ap, subst, ◌∙◌}
use Rattle.std.proofs.lemmas.List.{append-nil, take_min, drop_min}
use Rattle.sb_frames.specs.Streams.{Stream}
use Rattle.sb_world.specs.Connections.{Connection}
use Rattle.sb_world.specs.Connecting.{stream_with_piece, listener, heard_by}
use Rattle.sb_world.specs.Hearing.{Listener, listener_of, Hears, Tells}
use Rattle.sb_world.proofs.Heard.{fed_is, not_fed, if_none}
use Rattle.sb_world.proofs.connection.Connection.piece.Goals as goal

pub returns-in-Err : goal.returns-in-Err
returns-in-Err c =
    let v : Connection = record { number = c.self.inside.number; me = c.self.inside.me; session = c.self.inside.session; stream = c.self.inside.frames; left = c.self.inside.left.items } in
    let core = c.args.core.now in
    let n = length c.args.sent.now.items in
    let count : c.len.result ≡ length v.left = c.len.ensures.value in
    let piece : take c.min-count.result c.as_slice.result.now ≡ take c.args.count v.left =
    ap (take c.min-count.result) c.as_slice.ensures ∙ ap (λ k. take k v.left) (c.min-count.ensures ∙ ap (min c.args.count) count) ∙ take_min c.args.count v.left in
    let tells = not_fed core v.session v.stream (take c.min-count.result c.as_slice.result.now) c.feed.result c.in-Err.fault c.feed.new.self n c.in-Err.is c.feed.ensures in
    let told = subst (λ (xs : List ℕ). Tells n [] (listener_of core v.session (stream_with_piece v.stream xs)) (listener_of core v.session (stream_with_piece v.stream xs)) (Some c.in-Err.fault) [] []) piece tells in (
      [],
      listener core c.args.self.now c.args.count,
      listener core c.args.self.now c.args.count,
      [],
      [],
      sym (append-nil c.args.sent.now.items),
      sym (append-nil c.args.items.now.items),
      refl,
      subst (λ (x : Connection). Tells n [] (listener core x c.args.count) (listener core x c.args.count) (Some c.in-Err.fault) [] []) c.self.view_is told,
      refl,
      tt,
    )

pub returns : goal.returns
returns c =
    let v : Connection = record { number = c.self.inside.number; me = c.self.inside.me; session = c.self.inside.session; stream = c.self.inside.frames; left = c.self.inside.left.items } in
    let core = c.args.core.now in
    let n = length c.args.sent.now.items in
    let count : c.len.result ≡ length v.left = c.len.ensures.value in
    let least : c.min-count.result ≡ min c.args.count (length v.left) = c.min-count.ensures ∙ ap (min c.args.count) count in
    let piece : take c.min-count.result c.as_slice.result.now ≡ take c.args.count v.left =
    ap (take c.min-count.result) c.as_slice.ensures ∙ ap (λ k. take k v.left) least ∙ take_min c.args.count v.left in
    let stream : c.feed.new.self ≡ stream_with_piece v.stream (take c.args.count v.left) =
    fed_is v.stream (take c.min-count.result c.as_slice.result.now) c.in-Ok.field-0 c.feed.new.self c.in-Ok.ensures ∙ ap (stream_with_piece v.stream) piece in
    let left : c.advance.new.self.items ≡ drop c.args.count v.left = c.advance.ensures.items ∙ ap (λ k. drop k v.left) least ∙ drop_min c.args.count v.left in
    let said = c.hear.ensures in
    let last : Listener = listener_of c.hear.new.core c.hear.new.session c.hear.new.frames in
    let hears = subst (λ (s : Stream). Hears (listener_of core v.session s) said.0 said.1) stream said.6 in
    let after : Connection = record { number = v.number; me = v.me; session = c.hear.new.session; stream = c.hear.new.frames; left = c.advance.new.self.items } in
    let is : after ≡ heard_by v c.args.count last = λ i. record { number = v.number; me = v.me; session = c.hear.new.session; stream = c.hear.new.frames; left = left i } in (
      said.0,
      said.1,
      last,
      said.2,
      said.3,
      said.4,
      said.5,
      subst (λ (x : Connection). Hears (listener core x c.args.count) said.0 said.1) c.self.view_is hears,
      said.7,
      refl,
      if_none c.hear.result (is ∙ ap (λ (x : Connection). heard_by x c.args.count last) c.self.view_is),
    )
