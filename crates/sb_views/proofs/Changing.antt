-- One table that is changed, and what brings it on to one that grew from it.
use Rattle.std.proofs.Common.{◌≡◌, ℕ, ◌≤◌, ◌<◌, true, nat_lt, List, [], ◌∷◌, ◌++◌, map, refl, sym, ap, ◌∙◌, arith, ltb-true}
use Rattle.std.proofs.lemmas.Bool.{cond_both, cond-false, ltb-false, le-ltb}
use Rattle.sb_types.specs.Records.{Entry, Table}
use Rattle.sb_types.specs.Runs.{IsTable, are_distinct, last_version, newer_entries, entries_after}
use Rattle.sb_types.proofs.Standing.{of_above}
use Rattle.sb_table.specs.Plain.{with_entry}
use Rattle.sb_table.proofs.Copying.{above_all}
use Rattle.sb_holdings.specs.Entering.{entries_after_each}
use Rattle.sb_holdings.specs.Held.{empty_holder}
use Rattle.sb_holdings.specs.Plain.{with_entries}
use Rattle.sb_holdings.proofs.Entering.{one_by_one}
use Rattle.sb_table.proofs.Order.{at_most, distinct_kept, run_upto}
use Rattle.sb_views.specs.declared.change.Change.{Change}
use Rattle.sb_views.specs.declared.change.Change.TheVariants.{Enter, Clear, Hold}
use Rattle.sb_views.specs.Changes.{table_with, table_with_all, IsAlike, held_beyond, changes_above, lacked_of}
use Rattle.sb_views.specs.Growing.{IsGrown}

pub same-alike : (t u : Table) → t ≡ u → IsAlike t u
same-alike t u same = record { held = ap (λ (v : Table). v.held) same; entries = ap (λ (v : Table). v.entries) same }

-- ---- changes in turn

changed-append : (t : Table) (xs ys : List Change) → table_with_all t (xs ++ ys) ≡ table_with_all (table_with_all t xs) ys
changed-append t [] ys = refl
changed-append t (x ∷ xs) ys = changed-append (table_with t x) xs ys

each-in-turn : (t : Table) (es : List Entry) → table_with_all t (map Enter es) ≡ record { held = last_version t.held es; floor = t.floor; entries = entries_after_each t.entries es }
each-in-turn t [] = refl
each-in-turn t (e ∷ es) = each-in-turn (with_entry t e) es

in-turn : (t : Table) (es : List Entry) → are_distinct es ≡ true → table_with_all t (map Enter es) ≡ with_entries t es
in-turn t es apart =
    each-in-turn t es ∙ ap (λ (xs : List Entry). let u : Table = record { held = last_version t.held es; floor = t.floor; entries = xs } in u) (one_by_one t.entries es apart)

module _ (t : Table) (last upto : ℕ) where
  beyond-held : (upto ≤ last → t.held ≡ upto) → (table_with_all t (held_beyond last upto)).held ≡ upto
  beyond-held there =
      cond_both (nat_lt last upto) (Hold upto ∷ []) [] (λ (cs : List Change). (table_with_all t cs).held ≡ upto)
      (λ _. refl) (λ not. there (ltb-false last upto not))

  beyond-entries : (table_with_all t (held_beyond last upto)).entries ≡ t.entries
  beyond-entries =
      cond_both (nat_lt last upto) (Hold upto ∷ []) [] (λ (cs : List Change). (table_with_all t cs).entries ≡ t.entries) (λ _. refl) (λ _. refl)

-- ---- to another table

module _ (t u : Table) where
  -- the one with what the other has above a version
  brought : (version : ℕ) → are_distinct (newer_entries version u.entries) ≡ true
      → (u.held ≤ last_version version (newer_entries version u.entries) → last_version t.held (newer_entries version u.entries) ≡ u.held)
      → u.entries ≡ entries_after t.entries (newer_entries version u.entries) → IsAlike (table_with_all t (changes_above version u)) u
  brought version apart there all =
      let es = newer_entries version u.entries in
      let last = last_version version es in
      let step : table_with_all t (changes_above version u) ≡ table_with_all (with_entries t es) (held_beyond last u.held) =
      changed-append t (map Enter es) (held_beyond last u.held) ∙ ap (λ (v : Table). table_with_all v (held_beyond last u.held)) (in-turn t es apart) in
      record {
        held = ap (λ (v : Table). v.held) step ∙ beyond-held (with_entries t es) last u.held there;
        entries = ap (λ (v : Table). v.entries) step ∙ beyond-entries (with_entries t es) last u.held ∙ sym all;
      }

  -- one without entries, with all that the other has
  pub all-brought : IsTable u → t.entries ≡ [] → ((es : List Entry) → last_version 0 es ≡ u.held → last_version t.held es ≡ u.held) → IsAlike (table_with_all t (changes_above 0 u)) u
  all-brought is none there =
      let es = newer_entries 0 u.entries in
      let whole : es ≡ u.entries = above_all 0 0 u.entries (omega arith) is.run.ascending in
      brought 0 (ap are_distinct whole ∙ is.run.distinct) (λ le. there es (omega (arith, le, is.run.most, ap (last_version 0) whole)))
      (sym whole ∙ sym (ap (λ (xs : List Entry). entries_after xs es) none))

last-positive : (a b : ℕ) (es : List Entry) → b < last_version b es → last_version a es ≡ last_version b es
last-positive a b [] less = absurd (omega (arith, less))
last-positive a b (e ∷ es) less = refl

-- what is lacked of a table that grew brings the earlier one on to it
pub lacked-alike : (t u : Table) → IsTable u → IsGrown t u → IsAlike (table_with_all t (lacked_of t.held t.floor u)) u
lacked-alike t u is grown =
    let es = newer_entries t.held u.entries in
    cond_both (nat_lt t.floor u.floor) (Clear ∷ changes_above 0 u) (changes_above t.held u) (λ (cs : List Change). IsAlike (table_with_all t cs) u)
    (λ rose.
    let some : 0 < u.held = omega (arith, is.floor, ltb-true t.floor u.floor rose) in
    all-brought (table_with t Clear) u is refl (λ xs last. last-positive t.held 0 xs (omega (arith, some, last)) ∙ last))
    (λ stayed.
    let same : u.floor ≡ t.floor = omega (arith, grown.floor, ltb-false t.floor u.floor stayed) in
    let most : last_version t.held es ≤ u.held = at_most t.held u.held es grown.held (λ e s. run_upto e is.run (of_above t.held u.entries e s).0) in
    brought t u t.held (distinct_kept (λ e. nat_lt t.held e.version) u.entries is.run.distinct) (λ le. omega (arith, le, most)) (grown.grown same))

-- of an owner that is not held nothing is lacked
pub nothing-lacked : (version floor : ℕ) → lacked_of version floor empty_holder.shown ≡ []
nothing-lacked version floor =
    cond-false (nat_lt floor 0) (Clear ∷ changes_above 0 empty_holder.shown) (changes_above version empty_holder.shown) (le-ltb floor 0 (omega arith))
    ∙ cond-false (nat_lt version 0) (Hold 0 ∷ []) [] (le-ltb version 0 (omega arith))
