-- The two tables of a log, which forms 1 and 2 have alike.
use Rattle.std.specs.Prelude.{◌≡◌, ℕ, pos, ◌==◌, ◌&&◌, slice_get, Bool, true, false, List, [], ◌∷◌, codes, Option, None, Some}
use Rattle.sqlite_value.specs.declared.keys.Collation.TheVariants.{Binary}
use Rattle.sqlite_value.specs.declared.value.Value.TheVariants.{Null, Int}
use Rattle.sqlite_value.specs.Keys.{plain}
use Rattle.sqlite_schema.specs.declared.schema.Column.{Column}
use Rattle.sqlite_schema.specs.declared.schema.Kind.{Kind}
use Rattle.sqlite_schema.specs.declared.schema.Kind.TheVariants.{Integer, Text}
use Rattle.sqlite_schema.specs.declared.schema.Table.{Table}
use Rattle.sqlite_schema.specs.declared.schema.Index.{Index}
use Rattle.sqlite_schema.specs.declared.schema.Schema.{Schema}
use Rattle.sqlite_schema.specs.declared.schema.Stamps.{Stamps}
use Rattle.sb_log.specs.declared.schema.Made.{Made}
use Rattle.sb_log.specs.declared.schema.Made.TheVariants.{Neither, Meta, Both}
use Rattle.sqlite_schema.specs.declared.code.Op.{Op}
use Rattle.sqlite_schema.specs.declared.code.Op.TheVariants.{Literal, Column as Place, Binary as Operation}
use Rattle.sqlite_sql.specs.Term.{Term, lit, col, op2}
use Rattle.sqlite_sql.specs.declared.ops.BinaryOp.{BinaryOp}
use Rattle.sqlite_sql.specs.declared.ops.BinaryOp.TheVariants.{Compare}
use Rattle.sqlite_sql.specs.declared.ops.CompareOp.TheVariants.{Eq}

-- the form that new and raised logs have
abbrev pub newest_form : ℕ
newest_form = 2

abbrev pub meta_text : List ℕ
meta_text = codes "CREATE TABLE meta (id INTEGER PRIMARY KEY CHECK (id = 1), form INTEGER NOT NULL, owner TEXT NOT NULL, cluster TEXT NOT NULL, last INTEGER NOT NULL, floor INTEGER NOT NULL) STRICT"

abbrev pub writes_text : List ℕ
writes_text = codes "CREATE TABLE writes (k TEXT PRIMARY KEY NOT NULL, version INTEGER NOT NULL UNIQUE, tag INTEGER NOT NULL, num INTEGER, txt TEXT) STRICT"

abbrev pub rows_text : List ℕ
rows_text = codes "SELECT rowid, k, version, tag, num, txt FROM writes ORDER BY version"

abbrev pub meta_rows_text : List ℕ
meta_rows_text = codes "SELECT id, form, owner, cluster, last, floor FROM meta"

abbrev pub meta_row_text : List ℕ
meta_row_text = codes "INSERT INTO meta (id, form, owner, cluster, last, floor) VALUES (1, 2, ?1, ?2, 0, 0)"

abbrev pub raise_text : List ℕ
raise_text = codes "UPDATE meta SET form = 2"

abbrev pub floor_text : List ℕ
floor_text = codes "UPDATE meta SET last = ?1, floor = ?2"

abbrev pub drop_text : List ℕ
drop_text = codes "DELETE FROM writes WHERE tag = 0 AND version <= ?1"

abbrev pub upsert_text : List ℕ
upsert_text = codes "INSERT INTO writes (k, version, tag, num, txt) VALUES (?1, ?2, ?3, ?4, ?5) ON CONFLICT (k) DO UPDATE SET version = excluded.version, tag = excluded.tag, num = excluded.num, txt = excluded.txt"

abbrev pub column_of : List ℕ → Kind → Bool → Column
column_of name kind not_null = record { name = name; kind = kind; is_strict = true; not_null = not_null; default = Null; collation = Binary }

abbrev pub meta_columns : List Column
meta_columns = column_of (codes "id") Integer false ∷ column_of (codes "form") Integer true ∷ column_of (codes "owner") Text true ∷ column_of (codes "cluster") Text true ∷ column_of (codes "last") Integer true ∷ column_of (codes "floor") Integer true ∷ []

abbrev pub writes_columns : List Column
writes_columns = column_of (codes "k") Text true ∷ column_of (codes "version") Integer true ∷ column_of (codes "tag") Integer true ∷ column_of (codes "num") Integer false ∷ column_of (codes "txt") Text false ∷ []

abbrev pub no_stamps : Stamps
no_stamps = record { places = []; terms = []; formats = [] }

abbrev pub is_one : Term
is_one = op2 (Compare Eq Binary) (col 1 0) (lit (Int (pos 1)))

abbrev pub is_one_alone : List Term
is_one_alone = is_one ∷ []

-- the node of that test, with those of its two sides, however they lie
abbrev pub is_id : Option Op → Bool
is_id (Some (Place slot at)) = (slot == 1) && (at == 0)
is_id _ = false

abbrev pub is_number_one : Option Op → Bool
is_number_one (Some (Literal (Int (pos n)))) = n == 1
is_number_one _ = false

abbrev pub is_equals : BinaryOp → Bool
is_equals (Compare Eq Binary) = true
is_equals _ = false

abbrev pub is_one_by : (ℕ → Option Op) → Option Op → Bool
is_one_by at (Some (Operation op left right)) = is_equals op && (is_id (at left) && is_number_one (at right))
is_one_by at _ = false

abbrev pub is_one_at : List Op → ℕ → Bool
is_one_at ops root = is_one_by (slice_get ops) (slice_get ops root)

abbrev pub are_one : List Op → List ℕ → Bool
are_one ops [] = false
are_one ops (root ∷ []) = is_one_at ops root
are_one ops (root ∷ other ∷ more) = false

-- it refers to nothing, and no column is filled in
pub record IsPlain (t : Table) : Type 0 where
  pub references : t.references ≡ []
  pub computed : t.computed ≡ []
  pub stamps : t.stamps ≡ no_stamps
  pub counted : t.is_counted ≡ false

pub record HasColumns (name : List ℕ) (tree : ℕ) (columns : List Column) (key : Option ℕ) (t : Table) : Type 0 where
  pub named : t.name ≡ name
  pub numbered : t.tree ≡ tree
  pub columns_are : t.columns ≡ columns
  pub key_is : t.key ≡ key

-- the columns k and version are keys
pub record HasKeys (t : Table) : Type 0 where
  pub primary : t.primary ≡ 1 ∷ []
  pub uniques : t.uniques ≡ (1 ∷ []) ∷ (2 ∷ []) ∷ []
  pub orders : t.orders ≡ plain ∷ plain ∷ []

abbrev pub meta_table : Table
meta_table = record {
  name = codes "meta";
  tree = 0;
  columns = meta_columns;
  key = Some 0;
  primary = 0 ∷ [];
  uniques = [];
  orders = [];
  checks = is_one_alone;
  references = [];
  computed = [];
  stamps = no_stamps;
  is_counted = false;
}

abbrev pub writes_table : Table
writes_table = record {
  name = codes "writes";
  tree = 1;
  columns = writes_columns;
  key = None;
  primary = 1 ∷ [];
  uniques = (1 ∷ []) ∷ (2 ∷ []) ∷ [];
  orders = plain ∷ plain ∷ [];
  checks = [];
  references = [];
  computed = [];
  stamps = no_stamps;
  is_counted = false;
}

abbrev pub writes_index : List ℕ → ℕ → ℕ → Index
writes_index name tree place = record { name = name; tree = tree; table = 1; columns = place ∷ []; order = plain; is_unique = true }

abbrev pub no_schema : Schema
no_schema = record { tables = []; indexes = []; views = [] }

abbrev pub meta_schema : Schema
meta_schema = record { tables = meta_table ∷ []; indexes = []; views = [] }

abbrev pub log_schema : Schema
log_schema = record { tables = meta_table ∷ writes_table ∷ []; indexes = writes_index (codes "sqlite_autoindex_writes_1") 2 1 ∷ writes_index (codes "sqlite_autoindex_writes_2") 3 2 ∷ []; views = [] }

abbrev pub schema_with : Made → Schema
schema_with Neither = no_schema
schema_with Meta = meta_schema
schema_with Both = log_schema
