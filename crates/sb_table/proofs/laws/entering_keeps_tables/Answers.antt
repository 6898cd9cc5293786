use Rattle.std.proofs.Common.{arith}
use Rattle.sb_types.proofs.Live.{live-above}
use Rattle.sb_table.proofs.Plain.{IsPlainTable-with_entry}
use Rattle.sb_table.proofs.laws.entering_keeps_tables.Goals as goal

pub returns : goal.returns
returns c = record {
  entered = IsPlainTable-with_entry;
  table = λ t plain. record { run = plain.run; floor = omega (arith, plain.floor); live = live-above t.floor 0 t.entries (omega (arith, plain.floor)) plain.run.ascending };
}
