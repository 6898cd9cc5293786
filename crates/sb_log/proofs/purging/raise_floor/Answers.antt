use Rattle.std.proofs.Common.{◌≤◌, inl, inr, arith}
use Rattle.sqlite.specs.Held.{state}
use Rattle.sqlite.specs.State.{HasCleanDisk}
use Rattle.sb_log.proofs.Contents.{first_leaves, second_holds, second_leaves}
use Rattle.sb_log.proofs.Founding.{was_clean}
use Rattle.sb_log.proofs.Writing.{or_commits}
use Rattle.sb_log.proofs.purging.raise_floor.Goals as goal

pub returns-clause-ready : goal.returns-clause-ready
returns-clause-ready g c clean ready owner cluster content holds =
    let mid = state g.S.Store c.write_floor.new.conn in
    let clean1 : HasCleanDisk mid = was_clean _ _ clean c.drop_removals.ensures.clean in
    c.drop_removals.ensures.commits.ready clean ((c.in_ok-write_floor.ensures.commits 2 holds.last content.floor owner cluster holds.named).ready clean1 ready)

pub returns-clause-content : goal.returns-clause-content
returns-clause-content g c clean ready owner cluster content holds is rises =
    let old = state g.S.Store c.args.conn.now in
    let mid = state g.S.Store c.write_floor.new.conn in
    let new = state g.S.Store c.drop_removals.new.conn in
    let clean1 : HasCleanDisk mid = was_clean _ _ clean c.drop_removals.ensures.clean in
    let wrote = c.in_ok-write_floor.ensures.commits 2 holds.last content.floor owner cluster holds.named in
    let ready1 = wrote.ready clean1 ready in
    let did = wrote.changes clean1 ready in
    second_holds owner cluster content old.now.trees holds c.args.floor rises (omega (arith, is, c.requires.order)) c.args.held is mid.now.trees did.0 did.1 c.drop_removals.result new.now.trees
    (c.drop_removals.ensures.commits.changes clean ready1)

pub returns-clause-crash : goal.returns-clause-crash
returns-clause-crash g c clean ready owner cluster content holds is rises db left =
    let old = state g.S.Store c.args.conn.now in
    let mid = state g.S.Store c.write_floor.new.conn in
    let clean1 : HasCleanDisk mid = was_clean _ _ clean c.drop_removals.ensures.clean in
    let wrote = c.in_ok-write_floor.ensures.commits 2 holds.last content.floor owner cluster holds.named in
    let ready1 = wrote.ready clean1 ready in
    let did = wrote.changes clean1 ready in
    let order : c.args.floor ≤ content.held = omega (arith, is, c.requires.order) in
    elim (c.drop_removals.ensures.commits.crash clean ready1 db left) [
      | inl was ↦ or_commits (first_leaves owner cluster content old.now.trees holds c.args.floor rises order c.args.held is db) (wrote.crash clean1 ready db was)
      | inr drops ↦ inr (second_leaves owner cluster content old.now.trees holds c.args.floor rises order c.args.held is mid.now.trees did.0 did.1 db drops)
    ]

pub returns-in_err-write_floor-clause-crash : goal.returns-in_err-write_floor-clause-crash
returns-in_err-write_floor-clause-crash g c clean ready owner cluster content holds is rises db left =
    let old = state g.S.Store c.args.conn.now in
    or_commits (first_leaves owner cluster content old.now.trees holds c.args.floor rises (omega (arith, is, c.requires.order)) c.args.held is db)
    ((c.in_err-write_floor.ensures.commits 2 holds.last content.floor owner cluster holds.named).crash clean ready db left)
