-- What the statement that says a log's last version and its floor does.
use Rattle.std.proofs.Common.{◌≡◌, ℕ, pos, List, [], ◌∷◌, map, flat_map, Ok, sym, ap, subst₂, ◌∙◌, IsPermutation}
use Rattle.std.proofs.lemmas.List.Sorted.{IsPermutation-map}
use Rattle.sqlite_value.specs.declared.value.Value.TheVariants.{Null, Int}
use Rattle.sqlite_value.specs.Order.{Row, column}
use Rattle.sqlite_trees.specs.Tree.{Trees}
use Rattle.sqlite_sql.specs.Query.{Output, output}
use Rattle.sqlite_rules.specs.Cast.{cast_row}
use Rattle.sqlite.specs.State.{State, Executes, CommitsBy}
use Rattle.sqlite_catalog.specs.Listing.{IsSound}
use Rattle.sqlite.proofs.Callers.{one_permutation}
use Rattle.sb_log.specs.Form.{log_schema, meta_table, floor_text}
use Rattle.sb_log.specs.Opening.{meta_cells, meta_row, IsNamedIn}
use Rattle.sb_log.specs.Standing.{IsReady}
use Rattle.sb_log.proofs.Changing.{Shows, update_ready, update_rows, update_meta, updates_in}
use Rattle.sb_log.proofs.Naming.{source, cast_source, cell}
use Rattle.sb_log.proofs.Texts.{floor_query, floor_is, floor_plain}

module _ (last floor : ℕ) where
  abbrev pub params : Row
  params = Int (pos last) ∷ Int (pos floor) ∷ []

  abbrev floored : Row → Row
  floored r = column r 0 ∷ Null ∷ column r 2 ∷ column r 3 ∷ column r 4 ∷ Int (pos last) ∷ Int (pos floor) ∷ []

  found_one : (r : Row) → Shows floor_query params r (floored r)
  found_one r db found is answer =
      let staged : answer.staged ≡ (params ∷ r ∷ []) ∷ [] = answer.grouped ∙ ap (λ (rows : List Row). flat_map (λ (x : Row). (params ∷ x ∷ []) ∷ []) rows) is in
      let shown : map (λ (o : Output). o.1) answer.kept ≡ (column r 0 ∷ floored r) ∷ [] = ap (map (λ (o : Output). o.1)) (answer.distinct ∙ ap (map (output floor_query)) staged) in
      one_permutation (column r 0 ∷ floored r) found (subst₂ IsPermutation shown (sym answer.shown) (IsPermutation-map (λ (o : Output). o.1) answer.kept answer.ordered answer.same))

  module _ (form was_last was_floor : ℕ) (owner cluster : List ℕ) where
    -- with the columns that stay it says the same, with this last version and this floor
    renamed : (r : Row) → meta_cells r ≡ meta_row form owner cluster was_last was_floor → cast_row meta_table (floored r) ≡ source form owner cluster last floor
    renamed r is =
        let at = cell form owner cluster was_last was_floor r is in
        (λ i. cast_row meta_table (at 0 i ∷ Null ∷ at 1 i ∷ at 2 i ∷ at 3 i ∷ Int (pos last) ∷ Int (pos floor) ∷ [])) ∙ cast_source form owner cluster last floor

    module _ (old : State) (ready : IsReady old) (named : IsNamedIn form owner cluster was_last was_floor (old.now.trees 0)) where
      module _ (new : State) (count : ℕ) (h : Executes floor_text params old new (Ok count)) where
        pub floor_ready : IsReady new
        floor_ready = update_ready floor_text params floor_query floor_is floor_plain floored found_one owner cluster form was_last was_floor form last floor renamed old ready named new count h

        pub floor_rows : new.now.trees 1 ≡ old.now.trees 1
        floor_rows = update_rows floor_text params floor_query floor_is floor_plain floored found_one owner cluster form was_last was_floor form last floor renamed old ready named new count h

        pub floor_meta : IsNamedIn form owner cluster last floor (new.now.trees 0)
        floor_meta = update_meta floor_text params floor_query floor_is floor_plain floored found_one owner cluster form was_last was_floor form last floor renamed old ready named new count h

      -- what a crash leaves of it
      pub floors_in : (db : Trees) → CommitsBy floor_text params old db → IsSound log_schema db × (db 1 ≡ old.now.trees 1) × IsNamedIn form owner cluster last floor (db 0)
      floors_in db h = updates_in floor_text params floor_query floor_is floor_plain floored found_one owner cluster form was_last was_floor form last floor renamed old ready named db h
