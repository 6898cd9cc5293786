use Rattle.std.proofs.Common.{◌≡◌, ℕ, ◌+◌, Bool, true, false, nat_eq, List, [], ◌∷◌, ◌++◌, inl, refl, sym, ap, subst, ◌∙◌, arith}
use Rattle.std.specs.Cmp.Lexicographic.{pointwise}
use Rattle.sb_types.specs.Records.{Entry}
use Rattle.sb_types.specs.Runs.{IsRun, entries_after}
use Rattle.sb_types.proofs.Texts.{same_text}
use Rattle.sb_holdings.specs.Held.{Held, shown_of, held_after_write}
use Rattle.sb_holdings.specs.Nodes.{Node}
use Rattle.sb_holdings.specs.Plain.{IsHoldings}
use Rattle.sb_holdings.proofs.Changed.{IsHolder-held}
use Rattle.sb_table.proofs.Order.{run_after, run_upto}
use Rattle.sb_views.specs.declared.change.Change.{Change}
use Rattle.sb_views.specs.declared.change.Change.TheVariants.{Enter, Clear, Hold}
use Rattle.sb_views.specs.declared.event.Event.{Event}
use Rattle.sb_views.specs.declared.event.Event.TheVariants.{TookOwn}
use Rattle.sb_views.specs.Changes.{Leads, of_owner, table_with_all}
use Rattle.sb_views.specs.Histories.{node_after}
use Rattle.sb_views.proofs.Leading.{own-leads}
use Rattle.sb_views_tests.proofs.floors.append_anew.Goals as goal

none-held : (es : List Entry) → IsRun 0 0 es → es ≡ []
none-held [] run = refl
none-held (e ∷ es) run = absurd (omega (arith, run_after e run (inl refl), run_upto e run (inl refl)))

-- the owner has this one entry and no other
abbrev anew : List ℕ → Entry → List (List ℕ × Change)
anew owner e = (owner, Clear) ∷ (owner, Enter e) ∷ (owner, Hold e.version) ∷ []

module _ (held : Held) (e : Entry) (none : (shown_of held held.me).entries ≡ []) where
  same-held : (owner : List ℕ) (b : Bool) → pointwise nat_eq held.me owner ≡ b
      → (table_with_all (shown_of held owner) (of_owner owner (anew held.me e))).held ≡ (table_with_all (shown_of held owner) (of_owner owner ((held.me, Enter e) ∷ []))).held
  same-held owner true is = rw is refl
  same-held owner false is = rw is refl

  same-entries : (owner : List ℕ) (b : Bool) → pointwise nat_eq held.me owner ≡ b
      → (table_with_all (shown_of held owner) (of_owner owner (anew held.me e))).entries ≡ (table_with_all (shown_of held owner) (of_owner owner ((held.me, Enter e) ∷ []))).entries
  same-entries owner true is =
      rw is (ap (λ (es : List Entry). entries_after es (e ∷ [])) (sym none ∙ ap (λ (o : List ℕ). (shown_of held o).entries) (same_text held.me owner is)))
  same-entries owner false is = rw is refl

  anew-leads : e.version ≡ (shown_of held held.me).held + 1 → Leads held (held_after_write held e) (anew held.me e)
  anew-leads next owner =
      let test = pointwise nat_eq held.me owner in
      let alike = own-leads held e next owner in
      record { held = same-held owner test refl ∙ alike.held; entries = same-entries owner test refl ∙ alike.entries }

pub append-requires-clause-leads : goal.append-requires-clause-leads
append-requires-clause-leads g c =
    let held = c.args.holdings.now in
    let e = c.args.entry in
    let opening = g.S.NodeTag.opening in
    let none : (shown_of held held.me).entries ≡ [] =
    none-held (shown_of held held.me).entries
    (subst (λ (n : ℕ). IsRun 0 n (shown_of held held.me).entries) c.requires.nothing (IsHolder-held held c.me.ensures.holdings held.me).shown.run) in
    let leads : Leads held (held_after_write held e) (anew held.me e) = anew-leads held e none (omega (arith, c.requires.nothing, c.requires.first)) in
    let batch : c.push_anew.new.batch ≡ anew held.me e = c.in-Ok.ensures ∙ ap (λ (x : Entry). anew c.me.result.now x) c.shared.ensures ∙ ap (λ (o : List ℕ). anew o e) c.me.ensures.name in
    let upto : c.prefix.result.now ≡ TookOwn e ∷ [] = c.prefix.ensures ∙ c.add.ensures ∙ ap (λ (l : List Event). l ++ TookOwn e ∷ []) c.requires.start in
    subst (λ (b : List (List ℕ × Change)). Leads (node_after opening c.args.writer.now.queued).held (node_after opening c.prefix.result.now).held b) (sym batch)
    (subst (λ (l : List Event). Leads (node_after opening l).held (node_after opening c.prefix.result.now).held (anew held.me e)) (sym c.requires.queued)
    (subst (λ (l : List Event). Leads opening.held (node_after opening l).held (anew held.me e)) (sym upto)
    (subst (λ (h : Held). Leads h (held_after_write h e) (anew held.me e)) (sym c.requires.opening) leads)))
