-- Entries and the cells of their rows.
use Rattle.std.proofs.Common.{◌≡◌, ℕ, ℤ, pos, ◌≤◌, Bool, true, false, ◌||◌, cond, List, [], ◌∷◌, ◌++◌, length, drop, Option, Some, None, refl, ap, ◌∙◌, arith}
use Rattle.std.specs.Option.{option_map}
use Rattle.std.specs.Prelude.{nat_eq}
use Rattle.std.specs.Cmp.Lexicographic.{pointwise}
use Rattle.sqlite_value.specs.declared.value.Value.{Value}
use Rattle.sqlite_value.specs.declared.value.Value.TheVariants.{Int, Text}
use Rattle.sqlite_value.specs.Order.{Row, column}
use Rattle.sb_types.specs.Records.{Entry, Table}
use Rattle.sb_types.specs.Runs.{entry_at, has_key}
use Rattle.sb_table.specs.Plain.{with_entry, version_and_slot}
use Rattle.sb_table.proofs.Enter.{without-none}
use Rattle.sqlite_schema.specs.declared.schema.Index.{Index}
use Rattle.sb_types.specs.declared.limits.TheConstants.{VERSION_MOST}
use Rattle.sb_types.specs.Limits.{is_slot}
use Rattle.sb_types.specs.Text.{is_key}
use Rattle.std.proofs.lemmas.Bool.Decides.{nat_tests}
use Rattle.sb_log.specs.Form.{writes_index}
use Rattle.sb_log.specs.Rows.{cells_of, slot_cells, is_kept}

none_found : (key : List ℕ) (es : List Entry) → entry_at key es ≡ None → has_key key es ≡ false
none_found key [] none = refl
none_found key (e ∷ es) none = go (pointwise nat_eq e.key key) none (none_found key es)
  where
    go : (b : Bool) → cond b (Some e) (entry_at key es) ≡ None → (entry_at key es ≡ None → has_key key es ≡ false) → (b || has_key key es) ≡ false
    go true some later = absurd (cc)
    go false rest later = later rest

unmapped : (o : Option Entry) → option_map version_and_slot o ≡ None → o ≡ None
unmapped None h = refl
unmapped (Some e) h = absurd (cc)

-- where nothing is found under a key, no entry has it
pub not_found : (key : List ℕ) (es : List Entry) → option_map version_and_slot (entry_at key es) ≡ None → has_key key es ≡ false
not_found key es none = none_found key es (unmapped (entry_at key es) none)

-- an entry of a new key goes behind the others
pub added : (t : Table) (e : Entry) → has_key e.key t.entries ≡ false → (with_entry t e).entries ≡ t.entries ++ e ∷ []
added t e new = ap (λ (es : List Entry). es ++ e ∷ []) (without-none e t.entries new)

pub six_cells : (row : Row) → length row ≡ 6 → row ≡ column row 0 ∷ column row 1 ∷ column row 2 ∷ column row 3 ∷ column row 4 ∷ column row 5 ∷ []
six_cells [] h = absurd (omega arith)
six_cells (a ∷ []) h = absurd (omega arith)
six_cells (a ∷ b ∷ []) h = absurd (omega arith)
six_cells (a ∷ b ∷ c ∷ []) h = absurd (omega arith)
six_cells (a ∷ b ∷ c ∷ d ∷ []) h = absurd (omega arith)
six_cells (a ∷ b ∷ c ∷ d ∷ e ∷ []) h = absurd (omega arith)
six_cells (a ∷ b ∷ c ∷ d ∷ e ∷ f ∷ []) h = refl
six_cells (a ∷ b ∷ c ∷ d ∷ e ∷ f ∷ g ∷ more) h = absurd (omega arith)

pub of_six : (row : Row) (a b c d e f : Value) → length row ≡ 6 → column row 0 ≡ a → column row 1 ≡ b → column row 2 ≡ c → column row 3 ≡ d → column row 4 ≡ e → column row 5 ≡ f
    → row ≡ a ∷ b ∷ c ∷ d ∷ e ∷ f ∷ []
of_six row a b c d e f h p q r s t u = six_cells row h ∙ (λ i. p i ∷ q i ∷ r i ∷ s i ∷ t i ∷ u i ∷ [])

pub behind_first : (row : Row) (a b c d e f : Value) → row ≡ a ∷ b ∷ c ∷ d ∷ e ∷ f ∷ [] → drop 1 row ≡ b ∷ c ∷ d ∷ e ∷ f ∷ []
behind_first row a b c d e f is = ap (drop 1) is

pub entry_cells : (key : List ℕ) (version : ℤ) (rest : Row) (e : Entry) → e.key ≡ key → pos e.version ≡ version → slot_cells e.slot ≡ rest → cells_of e ≡ Text key ∷ Int version ∷ rest
entry_cells key version rest e a b c = λ i. Text (a i) ∷ Int (b i) ∷ c i

pub entry_kept : (e : Entry) → is_key e.key ≡ true → 1 ≤ e.version → e.version ≤ VERSION_MOST → is_slot e.slot ≡ true → is_kept e ≡ true
entry_kept e key least most slot = grind (arith, nat_tests)

pub index_is : (index : Index) (name : List ℕ) (tree place : ℕ) → index.name ≡ name → index.tree ≡ tree → index.table ≡ 1 → index.columns ≡ place ∷ [] → index.order.digits ≡ 0 → index.is_unique ≡ true
    → index ≡ writes_index name tree place
index_is index name tree place a b c d e f = λ i. record { name = a i; tree = b i; table = c i; columns = d i; order = record { digits = e i }; is_unique = f i }
