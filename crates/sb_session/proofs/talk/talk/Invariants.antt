use Rattle.std.proofs.Common.{◌≡◌, ◌+◌, ◌*◌, true, false, [], length}
use Rattle.sb_frames.specs.declared.frames.TheConstants.{READ_LENGTH}
use Rattle.sb_frames.specs.Sending.{has_failed}
use Rattle.sb_frames.specs.Receiving.{held_of}
use Rattle.sb_session.specs.Talks.{party_of, are_done}
use Rattle.sb_session.proofs.Talking.{Talking}
use Rattle.sb_session.proofs.talk.talk.Given as goal

abbrev pub invariant-loop-message : goal.invariant-loop-message
invariant-loop-message g l = record {
  talking : Talking g.H.Handler.step (party_of true l.fn.all l.fn.first l.fn.handler) (party_of false l.rounds l.session l.handler) [] l.fn.connection l.connection;
  unfailed : has_failed l.connection.last_write ≡ false;
  goes : are_done l.rounds ≡ false;
  grows : g.H.Handler.grows l.fn.handler l.handler;
  counted : l.connection.steps + l.connection.left ≡ l.fn.connection.steps + l.fn.connection.left;
}

abbrev pub decreases-loop-message : goal.decreases-loop-message
decreases-loop-message g l = length (held_of l.connection.stream) + READ_LENGTH * l.connection.left
