use Rattle.std.proofs.Common.{◌≡◌, Bool, true, false, [], ◌∷◌, Err, refl, ap, ◌∙◌, arith}
use Rattle.std.proofs.lemmas.Result.{err_from_is_err_and}
use Rattle.sb_frames.specs.Connections.{Connection}
use Rattle.sb_session.proofs.Saying.{received_wrote, unread}
use Rattle.sb_session.specs.Talks.{party_of}
use Rattle.sb_session.proofs.Talking.{
  Talking,
  never_starts,
  hello_cut,
  talk_begins,
  talk_spoke,
  talk_spoke_fault,
  talk_done,
  goes_on,
  talk_reading,
  talk_at_end,
  talk_receives,
  talk_heard,
  talk_heard_fault,
  talk_heard_bye,
  talk_turns,
  still_goes,
}
use Rattle.sb_session.proofs.talk.talk.Given.{Over}
use Rattle.sb_session.proofs.talk.talk.Goals.{In_ok-say, In-Some, After-rounds_after-rounds}
use Rattle.sb_session.proofs.talk.talk.Goals as goal

-- ---- as far as the talk has come

-- this end has said its Hello
begun : (g : Over) (c : In_ok-say g) →
    Talking g.H.Handler.step (party_of true c.args.all c.args.first c.args.handler.now) (party_of true c.args.all c.args.first c.args.handler.now) [] c.args.connection.now c.say.new.connection
begun g c =
    talk_begins g.H.Handler.step (party_of true c.args.all c.args.first c.args.handler.now) c.args.connection.now c.say.new.connection c.in_ok-start.ensures.0
    (rw c.in_ok-start.ensures.1 at c.in_ok-say.ensures.kept) (rw (c.in_ok-start.ensures.1, c.hello.ensures) at c.in_ok-say.ensures.says)

-- a message has come, and is not heard yet
pending : (g : Over) (c : In-Some g) →
    Talking g.H.Handler.step (party_of true c.args.all c.args.first c.args.handler.now) (party_of false c.loop-message.rounds c.loop-message.session c.loop-message.handler)
    (c.in-Some.message ∷ []) c.args.connection.now c.read_from.new.connection
pending g c =
    talk_receives g.H.Handler.step (party_of true c.args.all c.args.first c.args.handler.now) c.args.connection.now (party_of false c.loop-message.rounds c.loop-message.session c.loop-message.handler)
    c.in-Some.message c.loop-message.connection c.read_from.new.connection c.loop-message.invariant.talking (rw c.in-Some.is at c.in_ok-message.ensures.gives) c.in_ok-message.ensures.kept

-- it was heard and answered, and it is this end's turn where it ends a round
turned : (g : Over) (c : After-rounds_after-rounds g) (b : Bool) → c.ends_round-ends.result ≡ b →
    Talking g.H.Handler.step (party_of true c.args.all c.args.first c.args.handler.now) (party_of b c.rounds_after-rounds.result c.hear.new.session c.hear.new.handler) []
    c.args.connection.now c.hear.new.connection
turned g c b ends =
    let step = g.H.Handler.step in
    let a = party_of true c.args.all c.args.first c.args.handler.now in
    let m = c.in-Some.message in
    let heard = talk_heard step a c.args.connection.now c.loop-message.rounds c.loop-message.session c.loop-message.handler c.hear.new.session c.hear.new.handler c.read_from.new.connection c.hear.new.connection
    m c.loop-message.invariant.goes (pending g (goal.at.After-rounds_after-rounds g c).In-Some) c.in_ok-reason.ensures.kept (rw c.in_default-2.is at c.in_ok-reason.ensures.hears) in
    talk_turns step a m c.ends_round-ends.result b c.loop-message.rounds c.rounds_after-rounds.result c.hear.new.session c.hear.new.handler c.args.connection.now c.hear.new.connection
    c.ends_round-ends.ensures c.rounds_after-rounds.ensures ends heard

-- ---- how it goes on and ends

pub returns-in_err-start-clause-talks : goal.returns-in_err-start-clause-talks
returns-in_err-start-clause-talks g c =
    let p = err_from_is_err_and c.from_residual.result c.from_residual.ensures.1 in
    let e = c.in_err-start.ensures in
    rw (p.1, p.2) (never_starts g.H.Handler.step (party_of true c.args.all c.args.first c.args.handler.now) c.args.connection.now c.start.new.self _ e.0 e.1 e.2)

pub returns-in_err-say-clause-talks : goal.returns-in_err-say-clause-talks
returns-in_err-say-clause-talks g c =
    let a = party_of true c.args.all c.args.first c.args.handler.now in
    let p = err_from_is_err_and c.from_residual-in_err-say.result c.from_residual-in_err-say.ensures.1 in
    rw (p.1, p.2) (hello_cut g.H.Handler.step a c.args.connection.now c.say.new.connection _ c.in_ok-start.ensures.0
    (rw c.in_ok-start.ensures.1 at c.in_err-say.ensures.kept) (rw (c.in_ok-start.ensures.1, c.hello.ensures) at c.in_err-say.ensures.says))

pub returns-in_err-speak-clause-talks : goal.returns-in_err-speak-clause-talks
returns-in_err-speak-clause-talks g c =
    let a = party_of true c.args.all c.args.first c.args.handler.now in
    let p = err_from_is_err_and c.from_residual-in_err-speak.result c.from_residual-in_err-speak.ensures.1 in
    rw (p.1, p.2) (talk_spoke_fault g.H.Handler.step a c.args.connection.now c.args.all c.args.first c.args.handler.now c.speak.new.session c.speak.new.handler
    c.say.new.connection c.speak.new.connection _ (begun g (goal.at.returns-in_err-speak-clause-talks g c).In_ok-say) c.in_err-speak.ensures.kept c.in_err-speak.ensures.speaks)

pub returns-then-branch-clause-talks : goal.returns-then-branch-clause-talks
returns-then-branch-clause-talks g c =
    let a = party_of true c.args.all c.args.first c.args.handler.now in
    talk_done g.H.Handler.step a c.args.connection.now c.args.all c.args.first c.args.handler.now c.speak.new.session c.speak.new.handler c.say.new.connection c.speak.new.connection
    (begun g (goal.at.returns-then-branch-clause-talks g c).In_ok-say) c.in_ok-speak.ensures.kept (rw c.if-branch.true at c.in_ok-speak.ensures.speaks)

pub loop-message-init : goal.loop-message-init
loop-message-init g c =
    let step = g.H.Handler.step in
    let a = party_of true c.args.all c.args.first c.args.handler.now in
    let spoke = rw c.if-branch.false at c.in_ok-speak.ensures.speaks in
    record {
      talking = talk_spoke step a c.args.connection.now c.args.all c.args.first c.args.handler.now c.speak.new.session c.speak.new.handler c.say.new.connection c.speak.new.connection
          (begun g (goal.at.loop-message-init g c).In_ok-say) c.in_ok-speak.ensures.kept spoke;
      goes = goes_on step a c.args.connection.now c.args.all c.args.first c.args.handler.now c.speak.new.session c.speak.new.handler c.say.new.connection c.speak.new.connection spoke;
      unfailed = c.in_ok-speak.ensures.goes_on;
      grows = c.in_ok-speak.ensures.grows;
      counted = omega (
        arith,
        c.in_ok-speak.ensures.kept.2,
        c.in_ok-speak.ensures.kept.3,
        c.in_ok-say.ensures.kept.2,
        c.in_ok-say.ensures.kept.3,
        ap (λ (x : Connection). x.left) c.in_ok-start.ensures.1,
        ap (λ (x : Connection). x.steps) c.in_ok-start.ensures.1,
      );
    }

pub returns-in_err-message-clause-talks : goal.returns-in_err-message-clause-talks
returns-in_err-message-clause-talks g c =
    let a = party_of true c.args.all c.args.first c.args.handler.now in
    let now = party_of false c.loop-message.rounds c.loop-message.session c.loop-message.handler in
    let i = c.loop-message.invariant in
    let p = err_from_is_err_and c.from_residual-in_err-message.result c.from_residual-in_err-message.ensures.1 in
    rw (p.1, p.2) (talk_reading g.H.Handler.step a c.args.connection.now now c.loop-message.connection c.read_from.new.connection _ refl i.goes i.talking c.in_err-message.ensures.gives
    c.in_err-message.ensures.kept)

pub returns-in_err-message-clause-failed : goal.returns-in_err-message-clause-failed
returns-in_err-message-clause-failed g c =
    let p = err_from_is_err_and c.from_residual-in_err-message.result c.from_residual-in_err-message.ensures.1 in
    received_wrote c.from_residual-in_err-message.result c.loop-message.connection c.read_from.new.connection _ c.read_from.new.connection.last_write (p.1 ∙ ap Err p.2) c.in_err-message.ensures.gives

pub returns-in_err-reason-clause-talks : goal.returns-in_err-reason-clause-talks
returns-in_err-reason-clause-talks g c =
    let a = party_of true c.args.all c.args.first c.args.handler.now in
    let i = c.loop-message.invariant in
    let p = err_from_is_err_and c.from_residual-in_err-reason.result c.from_residual-in_err-reason.ensures.1 in
    rw (p.1, p.2) (talk_heard_fault g.H.Handler.step a c.args.connection.now c.loop-message.rounds c.loop-message.session c.loop-message.handler c.hear.new.session c.hear.new.handler
    c.read_from.new.connection c.hear.new.connection c.in-Some.message _ i.goes (pending g (goal.at.returns-in_err-reason-clause-talks g c).In-Some) c.in_err-reason.ensures.kept
    c.in_err-reason.ensures.hears)

pub returns-in-Some-2-clause-talks : goal.returns-in-Some-2-clause-talks
returns-in-Some-2-clause-talks g c =
    let a = party_of true c.args.all c.args.first c.args.handler.now in
    let i = c.loop-message.invariant in
    talk_heard_bye g.H.Handler.step a c.args.connection.now c.loop-message.rounds c.loop-message.session c.loop-message.handler c.hear.new.session c.hear.new.handler c.read_from.new.connection c.hear.new.connection
    c.in-Some.message c.in-Some-2.reason i.goes (pending g (goal.at.returns-in-Some-2-clause-talks g c).In-Some) c.in_ok-reason.ensures.kept
    (rw c.in-Some-2.is at c.in_ok-reason.ensures.hears)

pub returns-in_err-speak-2-clause-talks : goal.returns-in_err-speak-2-clause-talks
returns-in_err-speak-2-clause-talks g c =
    let a = party_of true c.args.all c.args.first c.args.handler.now in
    let p = err_from_is_err_and c.from_residual-in_err-speak-2.result c.from_residual-in_err-speak-2.ensures.1 in
    rw (p.1, p.2) (talk_spoke_fault g.H.Handler.step a c.args.connection.now c.rounds_after-rounds.result c.hear.new.session c.hear.new.handler c.speak-then-ends.new.session
    c.speak-then-ends.new.handler c.hear.new.connection c.speak-then-ends.new.connection _
    (turned g (goal.at.returns-in_err-speak-2-clause-talks g c).After-rounds_after-rounds true c.if-ends.true) c.in_err-speak-2.ensures.kept c.in_err-speak-2.ensures.speaks)

pub returns-then-branch-2-clause-talks : goal.returns-then-branch-2-clause-talks
returns-then-branch-2-clause-talks g c =
    let a = party_of true c.args.all c.args.first c.args.handler.now in
    talk_done g.H.Handler.step a c.args.connection.now c.rounds_after-rounds.result c.hear.new.session c.hear.new.handler c.speak-then-ends.new.session c.speak-then-ends.new.handler
    c.hear.new.connection c.speak-then-ends.new.connection
    (turned g (goal.at.returns-then-branch-2-clause-talks g c).After-rounds_after-rounds true c.if-ends.true) c.in_ok-speak-2.ensures.kept
    (rw c.if-branch-2.true at c.in_ok-speak-2.ensures.speaks)

pub loop-message-preserved-else-branch-2 : goal.loop-message-preserved-else-branch-2
loop-message-preserved-else-branch-2 g c =
    let step = g.H.Handler.step in
    let a = party_of true c.args.all c.args.first c.args.handler.now in
    let spoke = rw c.if-branch-2.false at c.in_ok-speak-2.ensures.speaks in
    let said = c.in_ok-speak-2.ensures.kept in
    let heard = c.in_ok-reason.ensures.kept in
    record {
      talking = talk_spoke step a c.args.connection.now c.rounds_after-rounds.result c.hear.new.session c.hear.new.handler c.speak-then-ends.new.session c.speak-then-ends.new.handler
          c.hear.new.connection c.speak-then-ends.new.connection
          (turned g (goal.at.loop-message-preserved-else-branch-2 g c).After-rounds_after-rounds true c.if-ends.true) said spoke;
      goes = goes_on step a c.args.connection.now c.rounds_after-rounds.result c.hear.new.session c.hear.new.handler c.speak-then-ends.new.session c.speak-then-ends.new.handler
          c.hear.new.connection c.speak-then-ends.new.connection spoke;
      grows = g.met.H.Handler.grows_on c.args.handler.now c.hear.new.handler c.speak-then-ends.new.handler
          (g.met.H.Handler.grows_on c.args.handler.now c.loop-message.handler c.hear.new.handler c.loop-message.invariant.grows c.in_ok-reason.ensures.grows)
          c.in_ok-speak-2.ensures.grows;
      unfailed = c.in_ok-speak-2.ensures.goes_on;
      counted = omega (arith, c.loop-message.invariant.counted, c.in_ok-message.ensures.counted, heard.2, heard.3, said.2, said.3);
    }

pub loop-message-preserved : goal.loop-message-preserved
loop-message-preserved g c =
    let i = c.loop-message.invariant in
    let heard = c.in_ok-reason.ensures.kept in
    record {
      talking = turned g (goal.at.loop-message-preserved g c).After-rounds_after-rounds false c.if-ends.false;
      goes = still_goes c.ends_round-ends.result c.loop-message.rounds c.rounds_after-rounds.result c.rounds_after-rounds.ensures c.if-ends.false i.goes;
      grows = g.met.H.Handler.grows_on c.args.handler.now c.loop-message.handler c.hear.new.handler i.grows c.in_ok-reason.ensures.grows;
      unfailed = c.in_ok-reason.ensures.goes_on;
      counted = omega (arith, i.counted, c.in_ok-message.ensures.counted, heard.2, heard.3);
    }

pub returns-clause-talks : goal.returns-clause-talks
returns-clause-talks g c =
    let a = party_of true c.args.all c.args.first c.args.handler.now in
    let now = party_of false c.loop-message.rounds c.loop-message.session c.loop-message.handler in
    let i = c.loop-message.invariant in
    talk_at_end g.H.Handler.step a c.args.connection.now now c.loop-message.connection c.read_from.new.connection refl i.goes i.talking (rw c.in_default.is at c.in_ok-message.ensures.gives)
    c.in_ok-message.ensures.kept

pub returns-in_err-say-clause-read : goal.returns-in_err-say-clause-read
returns-in_err-say-clause-read g c =
    let p = err_from_is_err_and c.from_residual-in_err-say.result c.from_residual-in_err-say.ensures.1 in
    unread c.from_residual-in_err-say.result _ _ (p.1 ∙ ap Err p.2) c.in_err-say.ensures.unread

pub returns-in_err-speak-clause-read : goal.returns-in_err-speak-clause-read
returns-in_err-speak-clause-read g c =
    let p = err_from_is_err_and c.from_residual-in_err-speak.result c.from_residual-in_err-speak.ensures.1 in
    unread c.from_residual-in_err-speak.result _ _ (p.1 ∙ ap Err p.2) c.in_err-speak.ensures.unread

pub returns-in_err-reason-clause-read : goal.returns-in_err-reason-clause-read
returns-in_err-reason-clause-read g c =
    let p = err_from_is_err_and c.from_residual-in_err-reason.result c.from_residual-in_err-reason.ensures.1 in
    unread c.from_residual-in_err-reason.result _ _ (p.1 ∙ ap Err p.2) c.in_err-reason.ensures.unread

pub returns-in_err-speak-2-clause-read : goal.returns-in_err-speak-2-clause-read
returns-in_err-speak-2-clause-read g c =
    let p = err_from_is_err_and c.from_residual-in_err-speak-2.result c.from_residual-in_err-speak-2.ensures.1 in
    unread c.from_residual-in_err-speak-2.result _ _ (p.1 ∙ ap Err p.2) c.in_err-speak-2.ensures.unread
