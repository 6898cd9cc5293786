use Rattle.std.proofs.Common.{◌+◌, length, map, refl, sym, subst}
use Rattle.sb_codec.specs.declared.message.Message.TheVariants as messages
use Rattle.sb_frames.specs.Frames.{frame}
use Rattle.sb_session.specs.declared.replies.Replies.{Replies}
use Rattle.sb_session.specs.Taking.{messages_of}
use Rattle.sb_world.specs.declared.event.Item.TheVariants.{Replied}
use Rattle.sb_world.specs.Hearing.{items_for}
use Rattle.sb_world.proofs.Heard.{on_err, Part, none_of, first_of}
use Rattle.sb_world.proofs.hearing.reply.Goals as goal

pub returns-in-Answered-clause-err : goal.returns-in-Answered-clause-err
returns-in-Answered-clause-err c =
    on_err c.say.result _ _ _ c.say.ensures.unsent c.say.ensures.untold
    (λ same still. none_of c.args.sent.now.items c.say.new.sent.items c.args.items.now.items c.say.new.items.items (map frame (messages_of c.args.replies)) (items_for (length c.args.sent.now.items) c.args.replies) same still)

pub returns-in-Ok-clause-err : goal.returns-in-Ok-clause-err
returns-in-Ok-clause-err c =
    let sent = c.args.sent.now.items in
    let n = length sent in
    on_err c.say-in-Ok.result _ _ _ c.say-in-Ok.ensures.unsent c.say-in-Ok.ensures.untold
    (λ same still.
    subst (λ (r : Replies). Part sent c.say-in-Ok.new.sent.items c.args.items.now.items c.say-in-Ok.new.items.items (map frame (messages_of r)) (items_for n r)) (sym c.in-Exchanged.is)
    (first_of sent c.say-in-Exchanged.new.sent.items c.say-in-Ok.new.sent.items c.args.items.now.items c.say-in-Exchanged.new.items.items c.say-in-Ok.new.items.items
    (frame (messages.Delta c.in-Exchanged.delta)) (frame (messages.Digest c.in-Exchanged.digest)) (Replied (n + 1)) (Replied (n + 2)) c.in-Ok.ensures.sent c.in-Ok.ensures.told same still))

pub returns-in-Err-clause-err : goal.returns-in-Err-clause-err
returns-in-Err-clause-err c =
    none_of c.args.sent.now.items c.say-in-Exchanged.new.sent.items c.args.items.now.items c.say-in-Exchanged.new.items.items (map frame (messages_of c.args.replies)) (items_for (length c.args.sent.now.items) c.args.replies)
    c.in-Err.ensures.unsent c.in-Err.ensures.untold

pub returns-in-Applied-clause-err : goal.returns-in-Applied-clause-err
returns-in-Applied-clause-err c =
    on_err c.tell.result _ _ _ c.tell.ensures.untold c.tell.ensures.untold
    (λ still also. none_of c.args.sent.now.items c.args.sent.now.items c.args.items.now.items c.tell.new.items.items (map frame (messages_of c.args.replies)) (items_for (length c.args.sent.now.items) c.args.replies) refl still)
