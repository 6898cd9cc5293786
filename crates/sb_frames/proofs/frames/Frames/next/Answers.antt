use Rattle.std.proofs.Common.{◌≡◌, ◌++◌, refl, sym, ◌∙◌}
use Rattle.sb_frames.specs.Streams.{open_with}
use Rattle.sb_frames.proofs.Taking.{takes_ok, takes_memory, takes_fault}
use Rattle.sb_frames.proofs.frames.Frames.next.Goals as goal
use Rattle.sb_frames.proofs.frames.Frames.next.Goals.{in-NoMemory, in_default}

pub returns-in-Ok : goal.returns-in-Ok
returns-in-Ok c =
    let held = c.self.inside.frame ++ c.self.inside.buffer.items in
    let was : c.args.self.now ≡ open_with held = sym c.self.view_is ∙ rw c.if-self.false refl in
    rw (was, c.if-self.false) (takes_ok held (c.take_first.new.frame ++ c.take_first.new.buffer.items) c.in-Ok.message c.in-Ok.ensures.takes)

pub returns-after-matches : goal.returns-after-matches
returns-after-matches c =
    let held = c.self.inside.frame ++ c.self.inside.buffer.items in
    let left = c.take_first.new.frame ++ c.take_first.new.buffer.items in
    let was : c.args.self.now ≡ open_with held = sym c.self.view_is ∙ rw c.if-self.false refl in
    elim c.match-matches.branch [
      | in-NoMemory w ↦ rw (was, w.matches-is) (takes_memory held left c.in-Err.fault c.in-Err.ensures.takes w.in-NoMemory.is)
      | in_default w ↦ rw (was, w.matches-is) (takes_fault held left c.in-Err.fault c.in-Err.ensures.takes w.in_default.not-NoMemory)
    ]
