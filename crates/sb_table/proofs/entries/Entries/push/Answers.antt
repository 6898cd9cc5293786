use Rattle.std.proofs.Common.{◌≡◌, ◌<◌, false, sym, subst, arith}
use Rattle.std.proofs.lemmas.Grind.{common_steps}
use Rattle.sb_types.specs.Records.{Entry}
use Rattle.sb_types.specs.Runs.{last_version}
use Rattle.sb_table.specs.Plain.{is_full_for}
use Rattle.sb_table.proofs.Plain.{IsPlainTable-pushed, plain_table-pushed}
use Rattle.sb_table.proofs.entries.Entries.push.Goals as goal

pub returns-clause-ok : goal.returns-clause-ok
returns-clause-ok c =
    let given = c.in_ok-entry.ensures.entry in
    let same : c.in_ok-entry.entry ≡ c.args.entry = cc in
    rw (← c.self.view_is, ← same) (plain_table-pushed c.enter.result c.self.inside.entries.items c.enter.new.entries.items c.in_ok-entry.entry c.enter.ensures.ok)

pub invariant_of-self : goal.invariant_of-self
invariant_of-self c =
    let old = c.self.inside.entries.items in
    let given = c.in_ok-entry.ensures.entry in
    let same : c.in_ok-entry.entry ≡ c.args.entry = cc in
    let later : last_version 0 old < c.args.entry.version = rw (← c.self.view_is) at c.requires in
    let room : is_full_for c.args.entry.key old ≡ false = grind (arith, common_steps) in (
      IsPlainTable-pushed c.enter.result old c.enter.new.entries.items c.in_ok-entry.entry c.enter.ensures.ok c.enter.ensures.err c.self.invariant.0
          (subst (λ (e : Entry). last_version 0 old < e.version) (sym same) later) (subst (λ (e : Entry). is_full_for e.key old ≡ false) (sym same) room),
      c.enter.ensures.keys,
    )

pub returns-clause-table : goal.returns-clause-table
returns-clause-table c = (invariant_of-self c).0
