-- The writes that are asked for.
use Rattle.std.specs.Prelude.{Bool, true, false}
use Rattle.sb_types.specs.declared.entry.Slot.TheVariants.{Set}
use Rattle.sb_types.specs.declared.entry.Write.{Write}
use Rattle.sb_types.specs.Value.{Flag}
use Rattle.sb_codec.specs.declared.message.Message.{Message}
use Rattle.sb_codec.specs.declared.message.Message.TheVariants as kinds
use Rattle.sb_run.specs.declared.node.Beat.{Beat}

-- the message asks for a write
abbrev pub is_put : Message → Bool
is_put (kinds.Put write) = true
is_put other = false

-- the write of a beat
abbrev pub beat_write : Beat → Write
beat_write beat = record { key = beat.key; slot = Set (Flag true) }
