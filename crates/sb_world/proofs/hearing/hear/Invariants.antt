use Rattle.std.proofs.Common.{◌≡◌, List, ◌++◌, length}
use Rattle.sb_frames.specs.Receiving.{held_of}
use Rattle.sb_world.specs.Hearing.{Heard, Hears, listener_of, frames_of, items_of}
use Rattle.sb_world.proofs.hearing.hear.Given as goal

-- what was sent and told is that of all that was heard
abbrev pub invariant-loop-fault : goal.invariant-loop-fault
invariant-loop-fault l = (heard : List Heard)
    × Hears (listener_of l.fn.core l.fn.session l.fn.frames) heard (listener_of l.core l.session l.frames)
    × (l.sent.items ≡ l.fn.sent.items ++ frames_of heard) × (l.items.items ≡ l.fn.items.items ++ items_of (length l.fn.sent.items) heard)

abbrev pub decreases-loop-fault : goal.decreases-loop-fault
decreases-loop-fault l = length (held_of l.frames)
