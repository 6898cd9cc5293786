-- A table that is copied entry by entry.
use Rattle.std.proofs.Common.{◌≡◌, ℕ, ◌<◌, ◌≤◌, true, false, List, [], ◌∷◌, ◌++◌, length, refl, sym, ap, ◌∙◌, arith, nat_eq, length-append, append_assoc, append-nil}
use Rattle.std.proofs.lemmas.Bool.Decides.{nat_tests}
use Rattle.std.proofs.lemmas.Cmp.{nat_list_eq_equiv}
use Rattle.std.proofs.lemmas.List.Folds.{list_any-append}
use Rattle.std.specs.Cmp.Lexicographic.{pointwise}
use Rattle.sb_types.specs.Records.{Entry, Table}
use Rattle.sb_types.specs.Runs.{newer_entries, are_ascending, are_distinct, has_key, last_version}
use Rattle.sb_table.specs.Plain.{IsPlainTable, plain_table, with_entry, is_full_for}
use Rattle.sb_table.proofs.Enter.{without-none}
use Rattle.sb_table.proofs.Plain.{plain_table-entered}

pub above_all : (least last : ℕ) (es : List Entry) → least ≤ last → are_ascending last es ≡ true → newer_entries least es ≡ es
above_all least last [] le up = refl
above_all least last (x ∷ xs) le up = grind (arith, nat_tests, above_all least x.version xs)

new_behind : (front : List Entry) (e : Entry) (rest : List Entry) → are_distinct (front ++ e ∷ rest) ≡ true → has_key e.key front ≡ false
new_behind [] e rest apart = refl
new_behind (x ∷ xs) e rest apart =
    grind (arith, new_behind xs e rest, list_any-append (λ y. pointwise nat_eq y.key x.key) xs (e ∷ rest), nat_list_eq_equiv.symm e.key x.key)

later_behind : (last : ℕ) (front : List Entry) (e : Entry) (rest : List Entry) → are_ascending last (front ++ e ∷ rest) ≡ true → last_version last front < e.version
later_behind last [] e rest up = grind (arith, nat_tests)
later_behind last (x ∷ xs) e rest up = grind (arith, nat_tests, later_behind x.version xs e rest)

-- the copy and what is still to be copied are the table's entries
pub record IsCopying (t copy : Table) (rest : List Entry) : Type 0 where
  pub parts : copy.entries ++ rest ≡ t.entries
  pub plain : copy ≡ plain_table copy.entries

pub copying-begins : (t copy : Table) (rest : List Entry) → IsPlainTable t → copy ≡ plain_table [] → rest ≡ newer_entries 0 t.entries → IsCopying t copy rest
copying-begins t copy rest is new all = record {
  parts = ap (λ (c : Table). c.entries ++ rest) new ∙ all ∙ above_all 0 0 t.entries (omega arith) is.run.ascending;
  plain = new ∙ sym (ap (λ (c : Table). plain_table c.entries) new);
}

module _ (t copy : Table) (e : Entry) (rest : List Entry) (is : IsPlainTable t) (copying : IsCopying t copy (e ∷ rest)) where
  pub later : copy.held < e.version
  later = omega (
    arith,
    ap (λ (c : Table). c.held) copying.plain,
    later_behind 0 copy.entries e rest (ap (are_ascending 0) copying.parts ∙ is.run.ascending),
  )

  new : has_key e.key copy.entries ≡ false
  new = new_behind copy.entries e rest (ap are_distinct copying.parts ∙ is.run.distinct)

  pub has_room : is_full_for e.key copy.entries ≡ false
  has_room = grind (arith, nat_tests, is.limit, ap length copying.parts, length-append copy.entries (e ∷ rest))

  pub copying-goes_on : IsCopying t (with_entry copy e) rest
  copying-goes_on = record {
    parts = ap (λ (es : List Entry). (es ++ e ∷ []) ++ rest) (without-none e copy.entries new) ∙ append_assoc copy.entries (e ∷ []) rest ∙ copying.parts;
    plain = ap (λ (c : Table). with_entry c e) copying.plain ∙ sym (plain_table-entered copy.entries e)
        ∙ ap plain_table refl;
  }

pub plain-entries : (t : Table) → IsPlainTable t → t ≡ plain_table t.entries
plain-entries t is =
    ap (λ (n : ℕ). let u : Table = record { held = n; floor = t.floor; entries = t.entries } in u) is.last
    ∙ ap (λ (n : ℕ). let u : Table = record { held = last_version 0 t.entries; floor = n; entries = t.entries } in u) is.floor

pub copying-ends : (t copy : Table) (rest : List Entry) → IsPlainTable t → rest ≡ [] → IsCopying t copy rest → t ≡ copy
copying-ends t copy rest is done copying =
    plain-entries t is ∙ ap plain_table (sym copying.parts ∙ ap (λ (r : List Entry). copy.entries ++ r) done ∙ append-nil copy.entries) ∙ sym copying.plain
