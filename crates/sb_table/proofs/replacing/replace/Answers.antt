use Rattle.std.proofs.Common.{◌≡◌, ◌∷◌, ◌++◌, [], List, remove, slice_set, sym, ap, subst, ◌∙◌, arith}
use Rattle.sb_types.specs.Records.{Entry}
use Rattle.sb_types.specs.Runs.{Stands}
use Rattle.sb_table.proofs.Keys.{old_found}
use Rattle.sb_table.proofs.replacing.replace.Goals as goal

pub remove-requires : goal.remove-requires
remove-requires c =
    let here = old_found c.args.entries.now.items c.deref.result.now c.args.entry c.index.result.now c.version.result c.first_from_version-at.result
    (c.deref.ensures.value ∙ c.reserve.ensures.items) c.requires.table
    (subst (λ (x : Entry). Stands c.args.entries.now.items x × (x.key ≡ c.args.entry.key)) (sym c.index.ensures) (c.requires.stands c.index.result.now))
    (c.version.ensures.version ∙ ap (λ (x : Entry). x.version) c.entry-2.ensures.entry)
    c.first_from_version-at.ensures.below c.first_from_version-at.ensures.from in
    omega (arith, here.0, c.deref.ensures.len)

pub returns-clause-ok : goal.returns-clause-ok
returns-clause-ok c =
    let here = old_found c.args.entries.now.items c.deref.result.now c.args.entry c.index.result.now c.version.result c.first_from_version-at.result
    (c.deref.ensures.value ∙ c.reserve.ensures.items) c.requires.table
    (subst (λ (x : Entry). Stands c.args.entries.now.items x × (x.key ≡ c.args.entry.key)) (sym c.index.ensures) (c.requires.stands c.index.result.now))
    (c.version.ensures.version ∙ ap (λ (x : Entry). x.version) c.entry-2.ensures.entry)
    c.first_from_version-at.ensures.below c.first_from_version-at.ensures.from in
    let given = c.in_ok-same.ensures.same in
    let same : c.in_ok-same.same ≡ c.args.entry = cc in (
      c.push_reserved.ensures.items
          ∙ ap (λ (l : List Entry). l ++ c.args.entry ∷ [])
          (c.remove.ensures.items ∙ ap (λ (l : List Entry). remove l c.first_from_version-at.result) (sym c.deref.ensures.value) ∙ here.1),
      ap (slice_set c.args.keys.now.items c.args.place) same,
    )
