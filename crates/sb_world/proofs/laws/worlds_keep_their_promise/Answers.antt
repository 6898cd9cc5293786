use Rattle.sb_world.specs.Truth.{IsTrueState}
use Rattle.sb_world.specs.Claims.{GivenIsWritten, ReadIsExact, IsExact, JoinedIsTaken, IsWithinBudget, RemovedIsNotRead, HidesRemoved, KeepsPurged, ArePurged}
use Rattle.sb_world.specs.Places.{IsClean}
use Rattle.sb_world.specs.States.{State}
use Rattle.sb_world.proofs.Running.{each_state, each_step, clean_each, all_true_states}
use Rattle.sb_world.proofs.Later.{nothing_falls}
use Rattle.sb_world.proofs.Claiming.{given_written, reads_exact, state_exact, state_within, joined_taken}
use Rattle.sb_world.proofs.Purging.{state_hides, removed_not_read, state_purged, keeps_purged}
use Rattle.sb_world.proofs.laws.worlds_keep_their_promise.Goals as goal

pub returns-clause-sound : goal.returns-clause-sound
returns-clause-sound c = λ world events answers old states fits run clean. all_true_states (record { holds = c.calls_keep_truth.ensures.holds; is = c.calls_keep_truth.ensures.is; honest = c.answers_are_honest.ensures.honest }) world events answers old states fits run clean

pub returns-clause-given : goal.returns-clause-given
returns-clause-given c = λ world events answers old states fits run clean.
    each_step IsTrueState GivenIsWritten given_written old events answers states run (all_true_states (record { holds = c.calls_keep_truth.ensures.holds; is = c.calls_keep_truth.ensures.is; honest = c.answers_are_honest.ensures.honest }) world events answers old states fits run clean)

pub returns-clause-exact : goal.returns-clause-exact
returns-clause-exact c = λ world events answers old states fits run clean.
    let each = all_true_states (record { holds = c.calls_keep_truth.ensures.holds; is = c.calls_keep_truth.ensures.is; honest = c.answers_are_honest.ensures.honest }) world events answers old states fits run clean in
    (each_step IsTrueState ReadIsExact reads_exact old events answers states run each, each_state IsTrueState IsExact state_exact old states each)

pub returns-clause-taken : goal.returns-clause-taken
returns-clause-taken c = λ world events answers old states fits run clean.
    each_step IsTrueState JoinedIsTaken joined_taken old events answers states run (all_true_states (record { holds = c.calls_keep_truth.ensures.holds; is = c.calls_keep_truth.ensures.is; honest = c.answers_are_honest.ensures.honest }) world events answers old states fits run clean)

pub returns-clause-later : goal.returns-clause-later
returns-clause-later c = λ world events answers old states fits run clean.
    nothing_falls old events answers states run (all_true_states (record { holds = c.calls_keep_truth.ensures.holds; is = c.calls_keep_truth.ensures.is; honest = c.answers_are_honest.ensures.honest }) world events answers old states fits run clean)

pub returns-clause-budget : goal.returns-clause-budget
returns-clause-budget c = λ world events answers old states fits run clean.
    each_state IsTrueState IsWithinBudget state_within old states (all_true_states (record { holds = c.calls_keep_truth.ensures.holds; is = c.calls_keep_truth.ensures.is; honest = c.answers_are_honest.ensures.honest }) world events answers old states fits run clean)

pub returns-clause-removed : goal.returns-clause-removed
returns-clause-removed c = λ world events answers old states fits run clean.
    let each = all_true_states (record { holds = c.calls_keep_truth.ensures.holds; is = c.calls_keep_truth.ensures.is; honest = c.answers_are_honest.ensures.honest }) world events answers old states fits run clean in
    (each_step IsTrueState RemovedIsNotRead removed_not_read old events answers states run each, each_state IsTrueState HidesRemoved state_hides old states each)

pub returns-clause-purged : goal.returns-clause-purged
returns-clause-purged c = λ world events answers old states fits run clean.
    let each = all_true_states (record { holds = c.calls_keep_truth.ensures.holds; is = c.calls_keep_truth.ensures.is; honest = c.answers_are_honest.ensures.honest }) world events answers old states fits run clean in
    let trusted = clean_each old events answers states run clean in
    (each_step (λ (s : State). IsClean s.now.places) KeepsPurged keeps_purged old events answers states run trusted, each_state IsTrueState ArePurged state_purged old states each)
