-- What the statements of a log are compiled to.
use Rattle.std.proofs.Common.{◌≡◌, ℕ, pos, negsuc, List, [], ◌∷◌, codes, false, None, Some, Ok, refl}
use Rattle.sqlite_value.specs.declared.value.Value.TheVariants.{Null, Int}
use Rattle.sqlite_sql.specs.Term.{Term, lit, col, op2}
use Rattle.sqlite_sql.specs.Query.{Query, inner, end}
use Rattle.sqlite_schema.specs.declared.command.Command.TheVariants.{Insert, InsertOr, Select, CreateTable, Update, Delete}
use Rattle.sqlite_schema.specs.declared.command.Source.TheVariants.{Values}
use Rattle.sqlite_resolve.specs.Compile.{table_defined_by}
use Rattle.sqlite_tied.specs.Compute.{everything}
use Rattle.sqlite_sql.specs.declared.ops.BinaryOp.TheVariants.{Compare}
use Rattle.sqlite_sql.specs.declared.ops.CompareOp.TheVariants.{Eq, Le}
use Rattle.sqlite_schema.specs.declared.command.Conflict.TheVariants.{Abort}
use Rattle.sqlite_schema.specs.declared.command.Upsert.{Upsert}
use Rattle.sqlite_schema.specs.declared.program.Program.{Program}
use Rattle.sqlite_value.specs.declared.keys.Collation.TheVariants.{Binary}
use Rattle.sqlite_value.specs.Keys.{ascending}
use Rattle.sqlite.specs.Listing.{understood, reads_listing}
use Rattle.sqlite.proofs.Callers.{IsPlain, command_of, statement_of}
use Rattle.sqlite_schema.specs.declared.schema.Table.{Table}
use Rattle.sqlite_catalog.specs.Change.{created}
use Rattle.sb_log.specs.Form.{newest_form, meta_text, writes_text, rows_text, meta_rows_text, meta_row_text, raise_text, floor_text, drop_text, upsert_text, meta_table, writes_table, no_schema, meta_schema, log_schema}

abbrev pub unplaced : Table
unplaced = record writes_table { tree = 0 }

pub make_meta_is : (command_of (understood no_schema meta_text) ≡ CreateTable) × (statement_of meta_text (understood no_schema meta_text) ≡ meta_text) × (table_defined_by meta_text ≡ Ok meta_table)
unfolding understood everything
make_meta_is = (refl, refl, refl)

pub make_meta_plain : IsPlain (understood no_schema meta_text)
unfolding understood everything
make_meta_plain = (refl, refl)

pub make_writes_is : (command_of (understood meta_schema writes_text) ≡ CreateTable) × (statement_of writes_text (understood meta_schema writes_text) ≡ writes_text) × (table_defined_by writes_text ≡ Ok unplaced)
unfolding understood everything
make_writes_is = (refl, refl, refl)

pub make_writes_plain : IsPlain (understood meta_schema writes_text)
unfolding understood everything
make_writes_plain = (refl, refl)

pub schema_is : (created no_schema meta_table ≡ meta_schema) × (created meta_schema unplaced ≡ log_schema)
unfolding understood everything
schema_is = (refl, refl)

abbrev pub rows_query : Query
rows_query = record {
  from = inner 1 end;
  filter = [];
  group = None;
  project = col 1 0 ∷ col 1 1 ∷ col 1 2 ∷ col 1 3 ∷ col 1 4 ∷ col 1 5 ∷ [];
  distinct = false;
  collations = [];
  order = (col 1 2, ascending Binary) ∷ [];
  limit = lit (Int (negsuc 0));
  offset = lit (Int (pos 0));
}

abbrev pub rows_names : List (List ℕ)
rows_names = codes "rowid" ∷ codes "k" ∷ codes "version" ∷ codes "tag" ∷ codes "num" ∷ codes "txt" ∷ []

pub rows_is : (command_of (understood log_schema rows_text) ≡ Select (record { lets = []; body = rows_query }) rows_names) × (reads_listing log_schema rows_text ≡ false)
unfolding understood everything
rows_is = (refl, refl)

pub rows_plain : IsPlain (understood log_schema rows_text)
unfolding understood everything
rows_plain = (refl, refl)

-- what the upsert makes of the row that has the key: its columns k and rowid stay
abbrev pub update_query : Query
update_query = record {
  from = inner 1 end;
  filter = op2 (Compare Eq Binary) (col 1 0) (col 0 5) ∷ [];
  group = None;
  project = col 1 0 ∷ col 1 0 ∷ col 1 1 ∷ col 0 8 ∷ col 0 9 ∷ col 0 10 ∷ col 0 11 ∷ [];
  distinct = false;
  collations = [];
  order = [];
  limit = lit (Int (negsuc 0));
  offset = lit (Int (pos 0));
}

abbrev pub update_program : Program
update_program = record { lets = []; body = update_query }

abbrev pub upsert_terms : List Term
upsert_terms = lit Null ∷ col 0 0 ∷ col 0 1 ∷ col 0 2 ∷ col 0 3 ∷ col 0 4 ∷ []

abbrev pub on_key : Upsert
on_key = record { target = Some (1 ∷ []); update = Some update_program }

pub upsert_is : command_of (understood log_schema upsert_text) ≡ InsertOr 1 Abort (Values upsert_terms 6) (on_key ∷ [])
unfolding understood everything
upsert_is = refl

pub upsert_plain : IsPlain (understood log_schema upsert_text)
unfolding understood everything
upsert_plain = (refl, refl)

abbrev pub meta_query : Query
meta_query = record {
  from = inner 0 end;
  filter = [];
  group = None;
  project = col 1 0 ∷ col 1 2 ∷ col 1 3 ∷ col 1 4 ∷ col 1 5 ∷ col 1 6 ∷ [];
  distinct = false;
  collations = [];
  order = [];
  limit = lit (Int (negsuc 0));
  offset = lit (Int (pos 0));
}

abbrev pub meta_names : List (List ℕ)
meta_names = codes "id" ∷ codes "form" ∷ codes "owner" ∷ codes "cluster" ∷ codes "last" ∷ codes "floor" ∷ []

pub meta_rows_is : (command_of (understood log_schema meta_rows_text) ≡ Select (record { lets = []; body = meta_query }) meta_names) × (reads_listing log_schema meta_rows_text ≡ false)
unfolding understood everything
meta_rows_is = (refl, refl)

pub meta_rows_plain : IsPlain (understood log_schema meta_rows_text)
unfolding understood everything
meta_rows_plain = (refl, refl)

-- the same where the table of writes is missing
pub meta_alone_is : (command_of (understood meta_schema meta_rows_text) ≡ Select (record { lets = []; body = meta_query }) meta_names) × (reads_listing meta_schema meta_rows_text ≡ false)
unfolding understood everything
meta_alone_is = (refl, refl)

pub meta_alone_plain : IsPlain (understood meta_schema meta_rows_text)
unfolding understood everything
meta_alone_plain = (refl, refl)

abbrev pub meta_terms : List Term
meta_terms = lit (Int (pos 1)) ∷ lit Null ∷ lit (Int (pos newest_form)) ∷ col 0 0 ∷ col 0 1 ∷ lit (Int (pos 0)) ∷ lit (Int (pos 0)) ∷ []

pub meta_row_is : command_of (understood log_schema meta_row_text) ≡ Insert 0 (Values meta_terms 7)
unfolding understood everything
meta_row_is = refl

pub meta_row_plain : IsPlain (understood log_schema meta_row_text)
unfolding understood everything
meta_row_plain = (refl, refl)

-- what the raising makes of each row of meta: its other columns stay
abbrev pub raise_query : Query
raise_query = record {
  from = inner 0 end;
  filter = [];
  group = None;
  project = col 1 0 ∷ col 1 0 ∷ lit Null ∷ lit (Int (pos newest_form)) ∷ col 1 3 ∷ col 1 4 ∷ col 1 5 ∷ col 1 6 ∷ [];
  distinct = false;
  collations = [];
  order = [];
  limit = lit (Int (negsuc 0));
  offset = lit (Int (pos 0));
}

abbrev pub raise_program : Program
raise_program = record { lets = []; body = raise_query }

pub raise_is : command_of (understood log_schema raise_text) ≡ Update 0 raise_program
unfolding understood everything
raise_is = refl

pub raise_plain : IsPlain (understood log_schema raise_text)
unfolding understood everything
raise_plain = (refl, refl)

-- what the floor's statement makes of each row of meta: its other columns stay
abbrev pub floor_query : Query
floor_query = record {
  from = inner 0 end;
  filter = [];
  group = None;
  project = col 1 0 ∷ col 1 0 ∷ lit Null ∷ col 1 2 ∷ col 1 3 ∷ col 1 4 ∷ col 0 0 ∷ col 0 1 ∷ [];
  distinct = false;
  collations = [];
  order = [];
  limit = lit (Int (negsuc 0));
  offset = lit (Int (pos 0));
}

abbrev pub floor_program : Program
floor_program = record { lets = []; body = floor_query }

pub floor_is : command_of (understood log_schema floor_text) ≡ Update 0 floor_program
unfolding understood everything
floor_is = refl

pub floor_plain : IsPlain (understood log_schema floor_text)
unfolding understood everything
floor_plain = (refl, refl)

-- the rowids of the removals up to a version
abbrev pub drop_query : Query
drop_query = record {
  from = inner 1 end;
  filter = op2 (Compare Eq Binary) (col 1 3) (lit (Int (pos 0))) ∷ op2 (Compare Le Binary) (col 1 2) (col 0 0) ∷ [];
  group = None;
  project = col 1 0 ∷ [];
  distinct = false;
  collations = [];
  order = [];
  limit = lit (Int (negsuc 0));
  offset = lit (Int (pos 0));
}

abbrev pub drop_program : Program
drop_program = record { lets = []; body = drop_query }

pub drop_is : command_of (understood log_schema drop_text) ≡ Delete 1 drop_program
unfolding understood everything
drop_is = refl

pub drop_plain : IsPlain (understood log_schema drop_text)
unfolding understood everything
drop_plain = (refl, refl)
