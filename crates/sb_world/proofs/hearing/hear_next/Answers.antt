use Rattle.std.proofs.Common.{List, [], ◌++◌, length, map, inl, inr, Ok, refl, sym, ap, subst, ◌∙◌}
use Rattle.std.proofs.lemmas.List.{append-nil}
use Rattle.sb_frames.specs.Frames.{frame}
use Rattle.sb_frames.specs.Streams.{TakesNext}
use Rattle.sb_session.specs.Taking.{messages_of}
use Rattle.sb_world.specs.declared.event.Item.{Item}
use Rattle.sb_world.specs.Hearing.{items_for}
use Rattle.sb_world.proofs.hearing.hear_next.Goals as goal

pub returns-in-Err : goal.returns-in-Err
returns-in-Err c = ([], [], sym (append-nil c.args.sent.now.items), sym (append-nil c.args.items.now.items), inl (inl (c.in-Err.ensures, refl), refl, refl))

pub returns-in-Err-make_room : goal.returns-in-Err-make_room
returns-in-Err-make_room c =
    ([], [], sym (append-nil c.args.sent.now.items), c.in-Err-make_room.ensures.items ∙ sym (append-nil c.args.items.now.items), inr (c.in-Err-make_room.ensures.memory, inl (refl, refl, refl)))

pub returns-in-Err-take : goal.returns-in-Err-take
returns-in-Err-take c =
    let taken = subst (λ o. TakesNext c.args.frames.now (Ok o) c.taken_from.new.frames) c.in-Ok-Some.field-0-is c.in-Ok-Some.ensures in (
      [],
      [],
      sym (append-nil c.args.sent.now.items),
      c.in-Ok.ensures.items ∙ sym (append-nil c.args.items.now.items),
      inl (inr (c.in-Ok-Some.message, c.taken_from.new.frames, taken, c.in-Err-take.ensures.takes), refl, refl),
    )

pub returns-in-Ok-reply : goal.returns-in-Ok-reply
returns-in-Ok-reply c =
    let replies = c.in-Ok-take.replies in
    let told = items_for (length c.args.sent.now.items) replies in
    let taken = subst (λ o. TakesNext c.args.frames.now (Ok o) c.taken_from.new.frames) c.in-Ok-Some.field-0-is c.in-Ok-Some.ensures in
    let ok = c.in-Ok-reply.ensures.ok in (
      map frame (messages_of replies),
      told,
      ok.0,
      ok.1 ∙ ap (λ (is : List Item). is ++ told) c.in-Ok.ensures.items,
      (record { message = c.in-Ok-Some.message; replies = replies }, (taken, c.in-Ok-take.ensures.takes, c.in-Ok-reply.ensures.limits), refl, refl),
    )

pub returns-in-Err-reply : goal.returns-in-Err-reply
returns-in-Err-reply c =
    let taken = subst (λ o. TakesNext c.args.frames.now (Ok o) c.taken_from.new.frames) c.in-Ok-Some.field-0-is c.in-Ok-Some.ensures in
    let part = c.in-Err-reply.ensures.err in (
      part.0,
      part.1,
      part.2,
      part.3 ∙ ap (λ (is : List Item). is ++ part.1) c.in-Ok.ensures.items,
      inr (
        c.in-Err-reply.ensures.memory,
        inr (record { message = c.in-Ok-Some.message; replies = c.in-Ok-take.replies }, (taken, c.in-Ok-take.ensures.takes, c.in-Err-reply.ensures.limits), part.4, part.5),
      ),
    )
