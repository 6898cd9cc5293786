use Rattle.std.proofs.Common.{◌≡◌, true, map, take, drop}
use Rattle.std.specs.List.{list_all}
use Rattle.sb_table.specs.Plain.{IsPlainTable}
use Rattle.sb_log.specs.Rows.{cells_of, is_kept, AreNumbered}
use Rattle.sb_log.proofs.rows.table_of.Given as goal

abbrev pub invariant-loop-row : goal.invariant-loop-row
invariant-loop-row l = IsPlainTable l.table × (map cells_of l.table.entries ≡ map (drop 1) (take l.row-index l.rows)) × AreNumbered (take l.row-index l.rows) × (list_all is_kept l.table.entries ≡ true)
