use Rattle.std.proofs.Common.{arith}
use Rattle.sb_types.proofs.Live.{live-above}
use Rattle.sb_table.proofs.Keeping.{kept-with_entry, kept-raised, kept-swapped}
use Rattle.sb_table.proofs.laws.floors_keep_tables.Goals as goal

pub returns : goal.returns
returns c = record {
  plain = λ t plain. record {
    is = record { run = plain.run; floor = omega (arith, plain.floor); live = live-above t.floor 0 t.entries (omega (arith, plain.floor)) plain.run.ascending };
    limit = plain.limit;
  };
  entered = kept-with_entry;
  raised = kept-raised;
  swapped = kept-swapped;
}
