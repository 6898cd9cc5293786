-- A table of nothing, which holds of any writes, for the owners that a digest does not cover.
use Rattle.std.proofs.Common.{List, [], refl, arith}
use Rattle.sb_types.specs.declared.entry.Write.{Write}
use Rattle.sb_types.specs.Records.{Table}
use Rattle.sb_types.specs.Runs.{IsTable}
use Rattle.sb_types.specs.Writes.{Holds}

abbrev pub no_table : Table
no_table = record { held = 0; floor = 0; entries = [] }

pub no_table_is : IsTable no_table
no_table_is = record { run = record { ascending = refl; most = omega arith; distinct = refl }; floor = omega arith; live = refl }

pub no_table_holds : (writes : List Write) → Holds writes no_table
no_table_holds writes = record {
  reach = omega arith;
  reach_floor = omega arith;
  true_each = λ e s. absurd s;
  whole = λ e w above within. absurd (omega arith);
  past = λ e x w g s key order. absurd s;
}
