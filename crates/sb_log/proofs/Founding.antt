-- What was found where a log is opened.
use Rattle.std.specs.Prelude.{IfOk, IfErr, OnOk, slice_index_or, ◌==◌, true, false}
use Rattle.std.proofs.Common.{◌≡◌, ◌⊎◌, inl, inr, true≢false, ℕ, ◌≤◌, ◌<◌, List, [], ◌∷◌, length, map, Result, Ok, Err, refl, sym, ap, subst, subst₂, ◌∙◌, arith, eqb-true, IsPermutation}
use Rattle.std.proofs.lemmas.List.Sorted.{IsPermutation-sym, length_permutation}
use Rattle.sqlite_value.specs.Order.{Row}
use Rattle.sqlite.specs.Effect.{Database}
use Rattle.sqlite.proofs.Callers.{one_permutation}
use Rattle.sb_types.specs.declared.fault.Fault.TheVariants.{WrongOwner}
use Rattle.sb_types.specs.Records.{Table}
use Rattle.sb_table.specs.Plain.{plain_table}
use Rattle.sb_log.specs.declared.cause.LogError.{LogError}
use Rattle.sb_log.specs.declared.cause.LogError.TheVariants.{Store, Fault}
use Rattle.sb_log.specs.Cause.{fault_of, IsMakingFault, IsReadingFault, IsStoreError, OnRefusal}
use Rattle.sb_log.specs.Opening.{meta_cells, meta_row, meta_found, writes_found, IsForm, IsFormOf, IsNamedIn, IsNamed, IsSaid, IsMetaOf, IsOthers, NamesAnother, IsRaised, IsCleared, SaysStill, Completes, Opens, Grows, Founds, IsWant, IsOpeningFault}
use Rattle.sb_log.specs.Form.{newest_form, log_schema, schema_with}
use Rattle.sb_log.specs.declared.schema.Made.{Made}
use Rattle.sb_log.specs.declared.schema.Made.TheVariants.{Neither, Meta, Both}
use Rattle.sqlite_trees.specs.Tree.{Trees}
use Rattle.sqlite_schema.specs.declared.schema.Schema.{Schema}
use Rattle.sqlite_catalog.specs.Listing.{IsSound}
use Rattle.sb_log.specs.Rows.{AreRowsOf, CanSay, Drops, last_in, floor_in}
use Rattle.sb_log.specs.Standing.{HoldsContent}
use Rattle.sb_log.proofs.Contents.{holds_plain}

pub was_clean : (a b : ℕ) → b ≡ 0 → a ≤ b → a ≡ 0
was_clean a b clean le = omega arith

pub no_item : (xs : List Row) → length xs < 1 → xs ≡ []
no_item [] few = refl
no_item (x ∷ xs) few = absurd (omega arith)

pub no_rows : (xs : List Row) (len : ℕ) → len ≡ length xs → (len == 0) ≡ true → xs ≡ []
no_rows xs len is none = no_item xs (omega (arith, is, eqb-true len 0 none))

pub one_item : (xs : List Row) (x : Row) → 1 ≤ length xs → length xs < 2 → x ≡ slice_index_or xs 0 x → xs ≡ x ∷ []
one_item [] x least most is = absurd (omega arith)
one_item (y ∷ []) x least most is = ap (λ (z : Row). z ∷ []) (sym is)
one_item (y ∷ z ∷ more) x least most is = absurd (omega arith)

pub none_mapped : (rows shown : List Row) → IsPermutation (map meta_cells rows) shown → shown ≡ [] → rows ≡ []
none_mapped [] shown same none = refl
none_mapped (r ∷ rows) shown same none = absurd (omega (arith, length_permutation (map meta_cells (r ∷ rows)) shown same, ap length none))

pub one_mapped : (rows shown : List Row) (row : Row) → IsPermutation (map meta_cells rows) shown → shown ≡ row ∷ [] → map meta_cells rows ≡ row ∷ []
one_mapped rows shown row same is =
    one_permutation row (map meta_cells rows) (IsPermutation-sym (map meta_cells rows) (row ∷ []) (subst (IsPermutation (map meta_cells rows)) is same))

module _ (owner cluster : List ℕ) (old mid : Database) (shown : List Row) (all : Completes old mid) (same : IsPermutation (map meta_cells (mid.trees 0)) shown) (read : Database) (kept : read ≡ mid) where
  pub opens_new : (result : Result Table LogError) → shown ≡ [] → IfOk result (λ t. AreRowsOf t (read.trees 1)) → IfOk result (λ t. t ≡ plain_table []) → IfOk result (Opens owner cluster old)
  opens_new (Ok t) none rows empty =
      record {
        made = all.made;
        schema = all.schema;
        table = t;
        rows = subst (AreRowsOf t) (ap (λ (d : Database). d.trees 1) kept ∙ all.rows) rows;
        meta = inl (sym all.meta ∙ none_mapped (mid.trees 0) shown same none, empty, empty);
        whole = all.whole;
      }
  opens_new (Err fault) none rows empty = tt

  pub opens_old : (result : Result Table LogError) → IfOk result (λ t. (found : Table) × AreRowsOf found (read.trees 1) × IsSaid owner cluster found t (read.trees 0))
      → IfOk result (Opens owner cluster old)
  opens_old (Ok t) is =
      record {
        made = all.made;
        schema = all.schema;
        table = is.0;
        rows = subst (AreRowsOf is.0) (ap (λ (d : Database). d.trees 1) kept ∙ all.rows) is.1;
        meta = inr (subst (IsSaid owner cluster is.0 t) (ap (λ (d : Database). d.trees 0) kept ∙ all.meta) is.2);
        whole = all.whole;
      }
  opens_old (Err fault) is = tt

pub whatever_came : {A E P : Type 0} (result : Result A E) → P → OnOk result P
whatever_came (Ok a) p = p
whatever_came (Err e) p = tt

pub holds_new : (owner cluster : List ℕ) (result : Result Table LogError) (before : List Row) (db : Trees) → IfOk result (λ t. AreRowsOf t before) → OnOk result (db 1 ≡ before)
    → OnOk result (IsNamedIn newest_form owner cluster 0 0 (db 0)) → IfOk result (λ t. HoldsContent owner cluster t t.entries db)
holds_new owner cluster (Ok t) before db are same named = holds_plain owner cluster t db named (subst (AreRowsOf t) (sym same) are)
holds_new owner cluster (Err fault) before db are same named = tt

module _ (owner cluster : List ℕ) (old mid : Database) (all : Completes old mid) (now : Trees) where
  pub still_new : (result : Result Table LogError) → mid.trees 0 ≡ [] → OnOk result (IsNamedIn newest_form owner cluster 0 0 (now 0)) → OnOk result (SaysStill owner cluster old now)
  still_new (Ok t) none named =
      record { made = all.made; schema = all.schema; meta = subst (λ (m : List Row). IsNamedIn newest_form owner cluster (last_in m) (floor_in m) (now 0)) (sym (sym all.meta ∙ none)) named }
  still_new (Err fault) none named = tt

  pub still_old : (result : Result Table LogError) (read : Database) → read ≡ mid → OnOk result (IsNamedIn newest_form owner cluster (last_in (read.trees 0)) (floor_in (read.trees 0)) (now 0))
      → OnOk result (SaysStill owner cluster old now)
  still_old (Ok t) read kept named =
      record {
        made = all.made;
        schema = all.schema;
        meta = subst (λ (m : List Row). IsNamedIn newest_form owner cluster (last_in m) (floor_in m) (now 0)) (ap (λ (d : Database). d.trees 0) kept ∙ all.meta) named;
      }
  still_old (Err fault) read kept named = tt

-- ---- a log that is whole is not refused

pub nothing_there : (rows shown : List Row) → rows ≡ [] → IsPermutation (map meta_cells rows) shown → length shown ≡ 0
nothing_there rows shown none same = length_permutation (map meta_cells rows) shown same ∙ ap (λ (l : List Row). length (map meta_cells l)) none

pub never_some : (len n : ℕ) → len ≡ n → n ≡ 0 → (len == 0) ≡ false → ⊥
never_some len n same none some = true≢false (sym (ap (λ (k : ℕ). k == 0) (same ∙ none)) ∙ some)

same_made : (a b : Made) → schema_with a ≡ schema_with b → a ≡ b
same_made Neither Neither e = refl
same_made Neither Meta e = absurd (let n : ◌≡◌ {A = ℕ} 0 1 = ap (λ (s : Schema). length s.tables) e in omega (arith, n))
same_made Neither Both e = absurd (let n : ◌≡◌ {A = ℕ} 0 2 = ap (λ (s : Schema). length s.tables) e in omega (arith, n))
same_made Meta Neither e = absurd (let n : ◌≡◌ {A = ℕ} 1 0 = ap (λ (s : Schema). length s.tables) e in omega (arith, n))
same_made Meta Meta e = refl
same_made Meta Both e = absurd (let n : ◌≡◌ {A = ℕ} 1 2 = ap (λ (s : Schema). length s.tables) e in omega (arith, n))
same_made Both Neither e = absurd (let n : ◌≡◌ {A = ℕ} 2 0 = ap (λ (s : Schema). length s.tables) e in omega (arith, n))
same_made Both Meta e = absurd (let n : ◌≡◌ {A = ℕ} 2 1 = ap (λ (s : Schema). length s.tables) e in omega (arith, n))
same_made Both Both e = refl

module _ (owner cluster : List ℕ) (old mid : Database) (t : Table) (all : Completes old mid) (opens : Opens owner cluster old t) where
  one_made : opens.made ≡ all.made
  one_made = same_made opens.made all.made (sym opens.schema ∙ all.schema)

  -- what was made beside it left the rows as they were
  pub still_rows : (read : Database) → read ≡ mid → AreRowsOf opens.table (read.trees 1)
  still_rows read kept =
      subst (AreRowsOf opens.table) (ap (λ (m : Made). writes_found m old.trees) one_made ∙ sym all.rows ∙ sym (ap (λ (d : Database). d.trees 1) kept)) opens.rows

  still_meta : IsMetaOf owner cluster opens.table t (mid.trees 0)
  still_meta = subst (IsMetaOf owner cluster opens.table t) (ap (λ (m : Made). meta_found m old.trees) one_made ∙ sym all.meta) opens.meta

  pub still_empty : mid.trees 0 ≡ [] → opens.table ≡ plain_table []
  still_empty none = elim still_meta [
    | inl nothing ↦ nothing.1
    | inr said ↦ absurd (let e = sym (ap (map meta_cells) none) ∙ said.2.2 in cc)
  ]

  -- what its row says
  abbrev pub Says : Row → Type 0
  Says row = (form : ℕ) × (last : ℕ) × (floor : ℕ) × IsFormOf form opens.table × (row ≡ meta_row form owner cluster last floor) × CanSay last floor opens.table.entries

  pub still_named : (row : Row) → map meta_cells (mid.trees 0) ≡ row ∷ [] → Says row
  still_named row one = elim still_meta [
    | inl nothing ↦ absurd (let e = sym (ap (map meta_cells) nothing.0) ∙ one in cc)
    | inr said ↦ (
        let named : IsNamed owner cluster opens.table said.0 said.1 (mid.trees 0) = said.2 in
        let e = sym one ∙ named.2 in
        (named.0, said.0, said.1, named.1, cc, named.3)
        )
  ]

  pub never_more : (shown : List Row) → IsPermutation (map meta_cells (mid.trees 0)) shown → 2 ≤ length shown → ⊥
  never_more shown same more =
      let len = length_permutation (map meta_cells (mid.trees 0)) shown same in
      elim still_meta [
        | inl nothing ↦ (let e : length (map meta_cells (mid.trees 0)) ≡ 0 = ap (λ (l : List Row). length (map meta_cells l)) nothing.0 in omega (arith, e, len, more))
        | inr said ↦ (let named : IsNamed owner cluster opens.table said.0 said.1 (mid.trees 0) = said.2 in let e : length (map meta_cells (mid.trees 0)) ≡ 1 = ap length named.2 in omega (arith, e, len, more))
      ]

pub or_grows : {A : Type 0} (owner cluster : List ℕ) (found : Database) (db : Trees) → A ⊎ Grows found db → A ⊎ Founds owner cluster found db
or_grows owner cluster found db (inl was) = inl was
or_grows owner cluster found db (inr grows) = inr (inl grows)

pub names_too : (owner cluster : List ℕ) (old mid read : Database) (db : Trees) → Completes old mid → read ≡ mid → mid.trees 0 ≡ []
    → IsSound log_schema db × (db 1 ≡ read.trees 1) × IsNamedIn newest_form owner cluster 0 0 (db 0) → Founds owner cluster old db
names_too owner cluster old mid read db all kept none names =
    inr (inl (record {
      made = all.made;
      schema = all.schema;
      none = sym all.meta ∙ none;
      sound = names.0;
      meta = names.2;
      rows = names.1 ∙ ap (λ (d : Database). d.trees 1) kept ∙ all.rows;
    }))

-- ---- what is accepted is raised, and cleared

module _ (form : ℕ) (owner cluster : List ℕ) (last floor : ℕ) (metas rows : List Row) (named : IsNamedIn form owner cluster last floor metas)
    (t : Table) (are : AreRowsOf t rows) (fits : IsFormOf form t) (can : CanSay last floor t.entries) where
  pub raised_in : (db : Trees) → (form ≡ 1) × IsSound log_schema db × (db 1 ≡ rows) × IsNamedIn newest_form owner cluster last floor (db 0) → IsRaised owner cluster metas rows db
  raised_in db did =
      record {
        last = last;
        floor = floor;
        table = t;
        was = are;
        fits = subst (λ (n : ℕ). IsFormOf n t) did.0 fits;
        can = can;
        older = subst (λ (n : ℕ). IsNamedIn n owner cluster last floor metas) did.0 named;
        sound = did.1;
        meta = did.3;
        same = did.2;
      }

  pub cleared_in : (mid db : Trees) → mid 1 ≡ rows → IsNamedIn newest_form owner cluster last floor (mid 0) → IsSound log_schema db × (Drops floor (mid 1) (db 1) × (db 0 ≡ mid 0)) → IsCleared owner cluster metas rows db
  cleared_in mid db same raised did =
      record {
        form = form;
        last = last;
        floor = floor;
        table = t;
        was = are;
        fits = fits;
        can = can;
        said = named;
        sound = did.0;
        meta = subst (IsNamedIn newest_form owner cluster last floor) (sym did.1.1) raised;
        left = subst (λ (before : List Row). Drops floor before (db 1)) same did.1.0;
      }

pub form_read : (form : ℕ) (t : Table) → IsFormOf form t → IsForm form
form_read form t (inl first) = inl first.0
form_read form t (inr second) = inr second

pub accepts_too : (owner cluster : List ℕ) (old mid read : Database) (db : Trees) → Completes old mid → read ≡ mid
    → IsRaised owner cluster (read.trees 0) (read.trees 1) db ⊎ IsCleared owner cluster (read.trees 0) (read.trees 1) db → Founds owner cluster old db
accepts_too owner cluster old mid read db all kept did =
    inr (inr (record {
      made = all.made;
      schema = all.schema;
      kept = subst₂ (λ (metas rows : List Row). IsRaised owner cluster metas rows db ⊎ IsCleared owner cluster metas rows db)
          (ap (λ (d : Database). d.trees 0) kept ∙ all.meta) (ap (λ (d : Database). d.trees 1) kept ∙ all.rows) did;
    }))

first_length : List Row → ℕ
first_length [] = 6
first_length (row ∷ rows) = length row

pub six_cells : (rows : List Row) (row : Row) → map meta_cells rows ≡ row ∷ [] → length row ≡ 6
unfolding first_length
six_cells [] row is = absurd (omega (arith, ap length is))
six_cells (r ∷ rows) row is = sym (ap first_length is)

module _ (owner cluster : List ℕ) (old mid : Database) (all : Completes old mid) where
  -- the one row that is read was found
  another : (row : Row) → map meta_cells (mid.trees 0) ≡ row ∷ [] → IsOthers owner cluster row → NamesAnother owner cluster old
  another row is others = go all.made all.schema all.meta all.whole
    where
      go : (made : Made) → old.schema ≡ schema_with made → mid.trees 0 ≡ meta_found made old.trees → (made ≡ Meta → meta_found made old.trees ≡ [])
          → NamesAnother owner cluster old
      go Neither schema meta whole = absurd (omega (arith, ap length (sym is ∙ ap (map meta_cells) meta)))
      go Meta schema meta whole = absurd (omega (arith, ap length (sym is ∙ ap (map meta_cells) (meta ∙ whole refl))))
      go Both schema meta whole = record { schema = schema; row = row; is_row = ap (map meta_cells) (sym meta) ∙ is; others = others }

  pub or_another : (row : Row) → map meta_cells (mid.trees 0) ≡ row ∷ [] → (result : Result Table LogError)
      → IfErr result (λ e. fault_of e ≡ WrongOwner → IsOthers owner cluster row) → IfErr result (λ e. fault_of e ≡ WrongOwner → NamesAnother owner cluster old)
  or_another row is (Ok t) others = tt
  or_another row is (Err fault) others = λ called. another row is (others called)

  -- the one row that was found is read
  pub their_row : (names : NamesAnother owner cluster old) → map meta_cells (mid.trees 0) ≡ names.row ∷ []
  their_row names =
      ap (map meta_cells) (subst (λ (m : Made). mid.trees 0 ≡ meta_found m old.trees) (same_made all.made Both (sym all.schema ∙ names.schema)) all.meta) ∙ names.is_row

  pub read_so : (names : NamesAnother owner cluster old) (row : Row) → map meta_cells (mid.trees 0) ≡ row ∷ [] → IsOthers owner cluster row
  read_so names row has =
      subst (IsOthers owner cluster) (ap (λ (xs : List Row). slice_index_or xs 0 []) (sym (their_row names) ∙ has)) names.others

  pub not_unread : NamesAnother owner cluster old → (shown : List Row) → IsPermutation (map meta_cells (mid.trees 0)) shown → shown ≡ [] → ⊥
  not_unread names shown same none =
      omega (arith, ap length (their_row names), length_permutation (map meta_cells (mid.trees 0)) shown same, ap length none)

  pub not_two : NamesAnother owner cluster old → (shown : List Row) → IsPermutation (map meta_cells (mid.trees 0)) shown → 2 ≤ length shown → ⊥
  not_two names shown same two = omega (arith, ap length (their_row names), length_permutation (map meta_cells (mid.trees 0)) shown same, two)

pub or_theirs : (result : Result Table LogError) → result ≡ Err (Fault WrongOwner) → IfErr result (λ e. (fault_of e ≡ WrongOwner) ⊎ IsWant e)
or_theirs result is = subst (λ (r : Result Table LogError). IfErr r (λ e. (fault_of e ≡ WrongOwner) ⊎ IsWant e)) (sym is) (inl refl)

-- ---- which faults come

pub store_wants : (e : LogError) → IsStoreError e → IsWant e
store_wants (Store cause) is = tt
store_wants (Fault fault) is = absurd is

pub making_opens : (e : LogError) → IsMakingFault e → IsOpeningFault e
making_opens (Store cause) is = tt
making_opens (Fault fault) is = inr (inl is)

pub making_spares : (e : LogError) → IsMakingFault e → fault_of e ≡ WrongOwner → ⊥
making_spares (Store cause) is called = cc
making_spares (Fault fault) is called = cc

pub reading_opens : (result : Result Table LogError) → IfErr result IsReadingFault → IfErr result IsOpeningFault
reading_opens (Ok t) is = tt
reading_opens (Err (Store cause)) is = tt
reading_opens (Err (Fault fault)) is = elim is [ inl memory ↦ inl memory | inr damaged ↦ inr (inl damaged) ]

pub reading_spares : (P : Type 0) (result : Result Table LogError) → IfErr result IsReadingFault → IfErr result (λ e. fault_of e ≡ WrongOwner → P)
reading_spares P (Ok t) is = tt
reading_spares P (Err (Store cause)) is = λ called. absurd (cc)
reading_spares P (Err (Fault fault)) is = λ called. absurd (elim is [ inl memory ↦ cc | inr damaged ↦ cc ])

pub so_refused : {A P Q : Type 0} (result : Result A LogError) → OnRefusal result P → (P → Q) → OnRefusal result Q
so_refused (Ok a) was so = tt
so_refused (Err e) was so = λ other. so (was other)
