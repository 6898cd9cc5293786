-- What the statement that raises a log's form does.
use Rattle.std.proofs.Common.{◌≡◌, ℕ, pos, List, [], ◌∷◌, map, flat_map, Ok, sym, ap, subst₂, ◌∙◌, IsPermutation}
use Rattle.std.proofs.lemmas.List.Sorted.{IsPermutation-map}
use Rattle.sqlite_value.specs.declared.value.Value.TheVariants.{Null, Int}
use Rattle.sqlite_value.specs.Order.{Row, column}
use Rattle.sqlite_trees.specs.Tree.{Trees}
use Rattle.sqlite_sql.specs.Query.{Output, output}
use Rattle.sqlite_rules.specs.Cast.{cast_row}
use Rattle.sqlite.specs.State.{State, Executes, CommitsBy}
use Rattle.sqlite_catalog.specs.Listing.{IsSound}
use Rattle.sqlite.proofs.Callers.{one_permutation}
use Rattle.sb_log.specs.Form.{newest_form, log_schema, meta_table, raise_text}
use Rattle.sb_log.specs.Opening.{meta_cells, meta_row, IsNamedIn}
use Rattle.sb_log.specs.Standing.{IsReady}
use Rattle.sb_log.proofs.Changing.{Shows, update_ready, update_rows, update_meta, updates_in}
use Rattle.sb_log.proofs.Naming.{source, cast_source, cell}
use Rattle.sb_log.proofs.Texts.{raise_query, raise_is, raise_plain}

abbrev raised : Row → Row
raised r = column r 0 ∷ Null ∷ Int (pos newest_form) ∷ column r 3 ∷ column r 4 ∷ column r 5 ∷ column r 6 ∷ []

found_one : (r : Row) → Shows raise_query [] r (raised r)
found_one r db found is answer =
    let staged : answer.staged ≡ ([] ∷ r ∷ []) ∷ [] = answer.grouped ∙ ap (λ (rows : List Row). flat_map (λ (x : Row). ([] ∷ x ∷ []) ∷ []) rows) is in
    let shown : map (λ (o : Output). o.1) answer.kept ≡ (column r 0 ∷ raised r) ∷ [] = ap (map (λ (o : Output). o.1)) (answer.distinct ∙ ap (map (output raise_query)) staged) in
    one_permutation (column r 0 ∷ raised r) found (subst₂ IsPermutation shown (sym answer.shown) (IsPermutation-map (λ (o : Output). o.1) answer.kept answer.ordered answer.same))

module _ (form last floor : ℕ) (owner cluster : List ℕ) where
  -- with the columns that stay it says the same, in form 2
  renamed : (r : Row) → meta_cells r ≡ meta_row form owner cluster last floor → cast_row meta_table (raised r) ≡ source newest_form owner cluster last floor
  renamed r is =
      let at = cell form owner cluster last floor r is in
      (λ i. cast_row meta_table (at 0 i ∷ Null ∷ Int (pos newest_form) ∷ at 2 i ∷ at 3 i ∷ at 4 i ∷ at 5 i ∷ [])) ∙ cast_source newest_form owner cluster last floor

  module _ (old : State) (ready : IsReady old) (named : IsNamedIn form owner cluster last floor (old.now.trees 0)) where
    module _ (new : State) (count : ℕ) (h : Executes raise_text [] old new (Ok count)) where
      pub raise_ready : IsReady new
      raise_ready = update_ready raise_text [] raise_query raise_is raise_plain raised found_one owner cluster form last floor newest_form last floor renamed old ready named new count h

      pub raise_rows : new.now.trees 1 ≡ old.now.trees 1
      raise_rows = update_rows raise_text [] raise_query raise_is raise_plain raised found_one owner cluster form last floor newest_form last floor renamed old ready named new count h

      pub raise_meta : IsNamedIn newest_form owner cluster last floor (new.now.trees 0)
      raise_meta = update_meta raise_text [] raise_query raise_is raise_plain raised found_one owner cluster form last floor newest_form last floor renamed old ready named new count h

    -- what a crash leaves of it
    pub raises_in : (db : Trees) → CommitsBy raise_text [] old db → IsSound log_schema db × (db 1 ≡ old.now.trees 1) × IsNamedIn newest_form owner cluster last floor (db 0)
    raises_in db h = updates_in raise_text [] raise_query raise_is raise_plain raised found_one owner cluster form last floor newest_form last floor renamed old ready named db h
