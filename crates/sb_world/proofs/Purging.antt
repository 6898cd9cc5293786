-- What was purged is gone, and a removed key does not come back.
use Rattle.std.proofs.Common.{◌≡◌, ℕ, ◌≤◌, Bool, true, false, ◌&&◌, ◌||◌, cond, nat_eq, nat_lt, nat_le, unwrap_or, List, ⊎_elim, Option, Some, None, IfSome, IsSomeAnd, Result, Ok, Err, refl, sym, ap, subst, ◌∙◌, arith, ltb-true}
use Rattle.std.proofs.lemmas.Bool.{true≢false, or_cases, cases_Bool, cond_both, and_from, ltb-false, le-leb}
use Rattle.std.proofs.lemmas.Cmp.{nat_list_cmp_total, tied_itself}
use Rattle.std.specs.Ordering.{is_eq, nat_cmp}
use Rattle.std.specs.FinMap.{FinMap, get, insert, get-insert}
use Rattle.std.specs.Cmp.Lexicographic.{pointwise, slice_cmp}
use Rattle.sb_types.specs.declared.entry.Write.{Write}
use Rattle.sb_types.specs.declared.fault.Fault.{Fault}
use Rattle.sb_types.specs.declared.fault.Fault.TheVariants.{NoMemory, Closed, FloorTooHigh}
use Rattle.sb_types.specs.Records.{Entry, Table, Holder}
use Rattle.sb_types.specs.Runs.{Stands, is_set, live_entries}
use Rattle.sb_types.proofs.Standing.{of_kept}
use Rattle.sb_types.proofs.Texts.{same_text}
use Rattle.sb_table.specs.Floors.{table_at_floor}
use Rattle.sb_holdings.specs.Held.{Held, empty_holder, holder_of, shown_of, purged_own}
use Rattle.sb_holdings.specs.Shown.{own_purged}
use Rattle.sb_holdings.specs.Nodes.{opened_node}
use Rattle.sb_holdings.proofs.Content.{content_is}
use Rattle.sb_log.specs.Records.{Log}
use Rattle.sb_log.specs.Puts.{Purges, Loads, content_after_purge}
use Rattle.sb_node.specs.Purging.{purge_answer}
use Rattle.sb_world.specs.declared.event.Event.{Event}
use Rattle.sb_world.specs.declared.event.Event.TheVariants.{Purge, Trim, Restart}
use Rattle.sb_world.specs.declared.event.Answer.{Answer}
use Rattle.sb_world.specs.declared.event.Answer.TheVariants as answers
use Rattle.sb_world.specs.Connections.{Connection}
use Rattle.sb_world.specs.Places.{Place, Seen, place_at, with_place, IsClean}
use Rattle.sb_world.specs.Turns.{Effect, Turn, purge_turn, TrimEnds, trim_turn, RestartEnds}
use Rattle.sb_world.specs.Events.{place_for, ActsWhere}
use Rattle.sb_world.specs.Steps.{StepAt}
use Rattle.sb_world.specs.States.{State, Moves}
use Rattle.sb_world.specs.Truth.{IsContentOf, IsTrueState}
use Rattle.sb_world.specs.Claims.{removal_of, HidesRemoved, RemovedIsNotRead, IsPurged, ArePurged, KeepsPurged}
use Rattle.sb_world.proofs.Names.{found_me, placed, placed_there, clean_there}
use Rattle.sb_world.proofs.Floors.{floor_reached}
use Rattle.sb_world.proofs.Acting.{Same, does_same}
use Rattle.sb_world.proofs.Stepping.{some_map, found_for}
use Rattle.sb_world.proofs.Claiming.{state_exact, reads_exact}

-- ---- a removed key does not come back

pub state_hides : (s : State) → IsTrueState s → HidesRemoved s
state_hides s t name = some_map _ _ (place_at s.now.places name)
    (λ p is exact owner key version removed within. exact owner (removal_of key version) removed.written removed.last within) (state_exact s t name)

pub removed_not_read : (old : State) (event : Event) (answer : Result Answer Fault) (new : State) → Moves old event answer new → IsTrueState old → IsTrueState new → RemovedIsNotRead old event answer new
removed_not_read old event answer new moves t u me owner key version is_event removed =
    reads_exact old event answer new moves t u me owner (removal_of key version) is_event removed.written removed.last

-- ---- no removal up to a floor stands

live_purged : (t : Table) → live_entries t.floor t.entries ≡ t.entries → IsPurged t
live_purged t same e stands gone =
    let kept = of_kept (λ (x : Entry). is_set x.slot || nat_lt t.floor x.version) t.entries e (subst (λ (es : List Entry). Stands es e) (sym same) stands) in
    ⊎_elim
    (λ set. true≢false (sym set ∙ ap is_set gone.0))
    (λ later. let above = ltb-true t.floor e.version later in let below = gone.1 in omega (arith, above, below))
    (or_cases (is_set e.slot) (nat_lt t.floor e.version) kept.1)

content_live : (ws : List Write) (t : Table) → IsContentOf ws t → IsPurged t
content_live ws t is = live_purged t (subst (λ (c : Table). live_entries c.floor c.entries ≡ c.entries) (sym is.content) (content_is ws t.floor is.floor).live)

pub state_purged : (s : State) → IsTrueState s → ArePurged s
state_purged s t name = some_map _ _ (place_at s.now.places name)
    (λ p is place. (
      λ unshut. content_live (s.writes p.me) p.log.content (place.content unshut),
      λ owner. live_purged (shown_of p.core.node.held owner) (place.is owner).shown.live,
    )) (t.places name)

-- ---- a step

abbrev told_purged : ℕ → Result Answer Fault
told_purged floor = Ok (answers.Purged floor)

abbrev told_trimmed : ℕ → Result Answer Fault
told_trimmed floor = Ok (answers.Trimmed floor)

abbrev answer_unless : Bool → Result (Unit {0}) Fault
answer_unless above = cond above (Err FloorTooHigh) (Ok tt)

-- a purge of the own table reaches the floor, where that is held
floor_of_holder : (h : Holder) (floor : ℕ) → floor ≤ h.shown.held → floor ≤ (own_purged floor h).shown.floor
floor_of_holder h floor low =
    cond_both (nat_lt h.shown.floor floor && nat_le floor h.shown.held) (record { shown = table_at_floor h.shown.held floor h.shown; stage = h.stage }) h (λ (k : Holder). floor ≤ k.shown.floor)
    (λ _. omega arith)
    (λ no. ⊎_elim
    (λ higher. absurd (true≢false (sym (and_from (nat_lt h.shown.floor floor) (nat_le floor h.shown.held) higher (le-leb floor h.shown.held low)) ∙ no)))
    (λ reached. ltb-false h.shown.floor floor reached)
    (cases_Bool (nat_lt h.shown.floor floor)))

holder_put : (owners : FinMap (slice_cmp nat_cmp) Holder) (me : List ℕ) (h : Holder) → holder_of (insert owners me h) me ≡ h
holder_put owners me h =
    ap (λ (o : Option Holder). unwrap_or o empty_holder)
    (get-insert nat_list_cmp_total owners me h me ∙ ap (λ (b : Bool). cond b (Some h) (get owners me)) (ap is_eq (tied_itself nat_list_cmp_total me)))

floor_of_held : (held : Held) (floor : ℕ) → floor ≤ (shown_of held held.me).held → floor ≤ (shown_of (purged_own held floor) held.me).floor
floor_of_held held floor low =
    subst (λ (h : Holder). floor ≤ h.shown.floor) (sym (holder_put held.owners held.me (own_purged floor (holder_of held.owners held.me))))
    (floor_of_holder (holder_of held.owners held.me) floor low)

abbrev told_restarted : ℕ → Result Answer Fault
told_restarted version = Ok (answers.Restarted version)

abbrev turn_of : Result Answer Fault → Effect → Place → List (List ℕ) → Turn
turn_of answer effect q frames = record { answer = answer; effect = effect; place = q; frames = frames }

module _ (old : Seen) (me : List ℕ) (effect : Effect) where
  -- a node at which an event happens that names it is found afterwards
  found_after : (event : Event) (answer : Result Answer Fault) (p : Place) → place_at old.places me ≡ Some p → (seen : Seen) (step : StepAt (Some p) old event answer effect seen) → place_at seen.places me ≡ Some step.0
  found_after event answer p is seen step =
      let same = does_same event p old.connections old.sent _ step.1 step.3 in
      let named : p.me ≡ me = found_me old.places me p is in
      ap (λ (s : Seen). place_at s.places me) step.4 ∙ ap (λ n. place_at (with_place old.places n step.0) me) named ∙ placed_there me p step.0 (same.me ∙ named) old.places is

  module _ (floor told : ℕ) where
    abbrev IsDone : Place → Type 0
    IsDone q = (q.is_up ≡ false) × (q.log.is_open ≡ true) × (floor ≤ q.log.content.floor)

    purge_turned : (p q : Place) (frames : List (List ℕ)) (result : Result (Unit {0}) Fault) (log : Log) → Purges p.log floor result log → turn_of (told_purged told) effect q frames ≡ purge_turn p floor result log → q.log.is_clean ≡ true →
        (told ≡ floor) × IsDone q
    purge_turned p q frames (Ok done) log purges is clean =
        let same : told_purged told ≡ told_purged floor = ap (λ (x : Turn). x.answer) is in
        let logs : q.log ≡ log = ap (λ (x : Turn). x.place.log) is in
        let kept : log.is_clean ≡ true = subst (λ (l : Log). l.is_clean ≡ true) logs clean in
        let content : log.content.floor ≡ (content_after_purge floor p.log.content).floor = ap (λ (t : Table). t.floor) (purges.done.content kept) in
        let reached = (floor_reached p.log.content floor).0 in
        let high : floor ≤ log.content.floor = omega (arith, content, reached) in
        let done : IsDone q = (
          ap (λ (x : Turn). x.place.is_up) is,
          subst (λ (l : Log). l.is_open ≡ true) (sym logs) purges.done.is_open,
          subst (λ (l : Log). floor ≤ l.content.floor) (sym logs) high,
        ) in
        (cc, done)
    purge_turned p q frames (Err fault) log purges is clean =
        let no : told_purged told ≡ Err fault = ap (λ (x : Turn). x.answer) is in absurd (cc)

    purge_acts : (p q : Place) (conns : List Connection) (frames : List (List ℕ)) (b : Bool) →
        ActsWhere b (Purge me floor) p old.connections old.sent (turn_of (told_purged told) effect q frames) conns → q.log.is_clean ≡ true → (told ≡ floor) × IsDone q
    purge_acts p q conns frames false is clean = let no : told_purged told ≡ Err Closed = ap (λ (x : Turn). x.answer) is.0 in absurd (cc)
    purge_acts p q conns frames true acts clean = let r = acts.0 in purge_turned p q frames r.0 r.1 r.2 r.3 clean

    purge_at : (found : Option Place) → place_at old.places me ≡ found → (seen : Seen) → StepAt found old (Purge me floor) (told_purged told) effect seen → IsClean seen.places → (told ≡ floor) × IsSomeAnd (place_at seen.places me) IsDone
    purge_at None is seen step clean = let no : told_purged told ≡ Ok answers.Nothing = step.0 in absurd (cc)
    purge_at (Some p) is seen step clean =
        let there = found_after (Purge me floor) (told_purged told) p is seen step in
        let here : step.0.log.is_clean ≡ true = subst (λ (o : Option Place). IfSome o (λ r. r.log.is_clean ≡ true)) there (clean me) in
        let done = purge_acts p step.0 step.1 step.2 p.is_up step.3 here in
        (done.0, subst (λ (o : Option Place). IsSomeAnd o IsDone) (sym there) done.1)

  module _ (floor told : ℕ) where
    abbrev IsTrimmed : Place → Type 0
    IsTrimmed q = (q.is_up ≡ true) × (q.log.is_open ≡ true) × (floor ≤ q.log.content.floor) × (floor ≤ (shown_of q.core.node.held q.core.node.held.me).floor)

    allowed_low : (p : Place) (above : Bool) → nat_lt (shown_of p.core.node.held p.core.node.held.me).held floor ≡ above → answer_unless above ≡ Ok tt → floor ≤ (shown_of p.core.node.held p.core.node.held.me).held
    allowed_low p true is allowed = absurd (cc)
    allowed_low p false is allowed = ltb-false (shown_of p.core.node.held p.core.node.held.me).held floor is

    trim_ended : (p q : Place) (frames : List (List ℕ)) (result : Result (Unit {0}) Fault) (log : Log) → purge_answer p.core.node floor ≡ Ok tt → p.is_up ≡ true → Purges p.log floor result log
        → turn_of (told_trimmed told) effect q frames ≡ trim_turn p floor result log → q.log.is_clean ≡ true → (told ≡ floor) × IsTrimmed q
    trim_ended p q frames (Ok done) log allowed up purges is clean =
        let same : told_trimmed told ≡ told_trimmed floor = ap (λ (x : Turn). x.answer) is in
        let logs : q.log ≡ log = ap (λ (x : Turn). x.place.log) is in
        let kept : log.is_clean ≡ true = subst (λ (l : Log). l.is_clean ≡ true) logs clean in
        let content : log.content.floor ≡ (content_after_purge floor p.log.content).floor = ap (λ (t : Table). t.floor) (purges.done.content kept) in
        let reached = (floor_reached p.log.content floor).0 in
        let high : floor ≤ log.content.floor = omega (arith, content, reached) in
        let low = allowed_low p (nat_lt (shown_of p.core.node.held p.core.node.held.me).held floor) refl allowed in
        let trimmed : IsTrimmed q = (
          ap (λ (x : Turn). x.place.is_up) is ∙ up,
          subst (λ (l : Log). l.is_open ≡ true) (sym logs) purges.done.is_open,
          subst (λ (l : Log). floor ≤ l.content.floor) (sym logs) high,
          subst (λ (x : Turn). floor ≤ (shown_of x.place.core.node.held x.place.core.node.held.me).floor) (sym is) (floor_of_held p.core.node.held floor low),
        ) in
        (cc, trimmed)
    trim_ended p q frames (Err fault) log allowed up purges is clean =
        let no : told_trimmed told ≡ Err fault = ap (λ (x : Turn). x.answer) is in absurd (cc)

    trim_turned : (p q : Place) (frames : List (List ℕ)) (allowed : Result (Unit {0}) Fault) → purge_answer p.core.node floor ≡ allowed → p.is_up ≡ true
        → TrimEnds allowed p floor (turn_of (told_trimmed told) effect q frames) → q.log.is_clean ≡ true → (told ≡ floor) × IsTrimmed q
    trim_turned p q frames (Err fault) is_allowed up is clean = let no : told_trimmed told ≡ Err fault = ap (λ (x : Turn). x.answer) is in absurd (cc)
    trim_turned p q frames (Ok done) is_allowed up r clean = trim_ended p q frames r.0 r.1 is_allowed up r.2 r.3 clean

    trim_acts : (p q : Place) (conns : List Connection) (frames : List (List ℕ)) (b : Bool) → p.is_up ≡ b →
        ActsWhere b (Trim me floor) p old.connections old.sent (turn_of (told_trimmed told) effect q frames) conns → q.log.is_clean ≡ true → (told ≡ floor) × IsTrimmed q
    trim_acts p q conns frames false up is clean = let no : told_trimmed told ≡ Err Closed = ap (λ (x : Turn). x.answer) is.0 in absurd (cc)
    trim_acts p q conns frames true up acts clean = trim_turned p q frames (purge_answer p.core.node floor) refl up acts.0 clean

    trim_at : (found : Option Place) → place_at old.places me ≡ found → (seen : Seen) → StepAt found old (Trim me floor) (told_trimmed told) effect seen → IsClean seen.places → (told ≡ floor) × IsSomeAnd (place_at seen.places me) IsTrimmed
    trim_at None is seen step clean = let no : told_trimmed told ≡ Ok answers.Nothing = step.0 in absurd (cc)
    trim_at (Some p) is seen step clean =
        let there = found_after (Trim me floor) (told_trimmed told) p is seen step in
        let here : step.0.log.is_clean ≡ true = subst (λ (o : Option Place). IfSome o (λ r. r.log.is_clean ≡ true)) there (clean me) in
        let trimmed = trim_acts p step.0 step.1 step.2 p.is_up refl step.3 here in
        (trimmed.0, subst (λ (o : Option Place). IsSomeAnd o IsTrimmed) (sym there) trimmed.1)

  module _ (version : ℕ) where
    abbrev IsOfLog : Place → Type 0
    IsOfLog q = (q.log.is_open ≡ true) × (q.core.node ≡ opened_node me q.log.content)

    restart_turned : (p q : Place) (frames : List (List ℕ)) (result : Result Table Fault) (log : Log) → p.me ≡ me → Loads p.log result log → RestartEnds p log result (turn_of (told_restarted version) effect q frames) → q.log.is_clean ≡ true → IsOfLog q
    restart_turned p q frames (Ok table) log named loads ends clean =
        ⊎_elim
        (λ is.
        let logs : q.log ≡ log = ap (λ (x : Turn). x.place.log) is in
        let kept : log.is_clean ≡ true = subst (λ (l : Log). l.is_clean ≡ true) logs clean in
        let same : table ≡ q.log.content = loads.given.same kept ∙ sym (loads.given.content kept) ∙ ap (λ (l : Log). l.content) (sym logs) in (
          subst (λ (l : Log). l.is_open ≡ true) (sym logs) loads.given.is_open,
          ap (λ (x : Turn). x.place.core.node) is ∙ ap (λ n. opened_node n table) named ∙ ap (opened_node me) same,
        ))
        (λ is. let no : told_restarted version ≡ Err NoMemory = ap (λ (x : Turn). x.answer) is in absurd (cc))
        ends
    restart_turned p q frames (Err fault) log named loads ends clean =
        let no : told_restarted version ≡ Err fault = ap (λ (x : Turn). x.answer) ends in absurd (cc)

    restart_at : (found : Option Place) → place_at old.places me ≡ found → (seen : Seen) → StepAt found old (Restart me) (told_restarted version) effect seen → IsClean seen.places → IsSomeAnd (place_at seen.places me) IsOfLog
    restart_at None is seen step clean = let no : told_restarted version ≡ Ok answers.Nothing = step.0 in absurd (cc)
    restart_at (Some p) is seen step clean =
        let there = found_after (Restart me) (told_restarted version) p is seen step in
        let here : step.0.log.is_clean ≡ true = subst (λ (o : Option Place). IfSome o (λ r. r.log.is_clean ≡ true)) there (clean me) in
        let r = step.3.0 in
        subst (λ (o : Option Place). IsSomeAnd o IsOfLog) (sym there) (restart_turned p step.0 step.2 r.0 r.1 (found_me old.places me p is) r.2 r.3 here)

-- ---- floors do not fall

abbrev FloorStays : Place → Place → Type 0
FloorStays p q = q.log.is_open ≡ true → (p.log.is_open ≡ true) × (p.log.content.floor ≤ q.log.content.floor)

each_stays : (o : Option Place) → IfSome o (λ p. IfSome o (FloorStays p))
each_stays None = tt
each_stays (Some p) = λ unshut. (unshut, omega arith)

module _ (old : Seen) (event : Event) (answer : Result Answer Fault) (effect : Effect) (name : List ℕ) where
  floor_at_step : (found : Option Place) → place_for old event ≡ found → (seen : Seen) → StepAt found old event answer effect seen → IsClean seen.places →
      IfSome (place_at old.places name) (λ p. IfSome (place_at seen.places name) (FloorStays p))
  floor_at_step None is seen step clean =
      subst (λ (s : Seen). IfSome (place_at old.places name) (λ p. IfSome (place_at s.places name) (FloorStays p))) (sym step.2) (each_stays (place_at old.places name))
  floor_at_step (Some p) is seen step clean =
      subst (λ (o : Option Place). IfSome (place_at old.places name) (λ r. IfSome o (FloorStays r))) (sym at) (go (pointwise nat_eq name p.me) refl)
    where
      same : Same p (turn_of answer effect step.0 step.2)
      same = does_same event p old.connections old.sent _ step.1 step.3

      found : place_at old.places p.me ≡ Some p
      found = found_for old event p is

      at : place_at seen.places name ≡ cond (pointwise nat_eq name p.me) (Some step.0) (place_at old.places name)
      at = ap (λ (s : Seen). place_at s.places name) step.4 ∙ placed p.me p step.0 same.me old.places found name

      go : (b : Bool) → pointwise nat_eq name p.me ≡ b → IfSome (place_at old.places name) (λ r. IfSome (cond b (Some step.0) (place_at old.places name)) (FloorStays r))
      go true named =
          let here = clean_there p.me p step.0 same.me old.places found (subst (λ (s : Seen). IsClean s.places) step.4 clean) in
          subst (λ (o : Option Place). IfSome o (λ r. FloorStays r step.0)) (sym (ap (place_at old.places) (same_text name p.me named) ∙ found)) (same.log here)
      go false other = each_stays (place_at old.places name)

-- ---- each step

pub keeps_purged : (old : State) (event : Event) (answer : Result Answer Fault) (new : State) → Moves old event answer new → IsClean old.now.places → IsClean new.now.places → KeepsPurged old event answer new
keeps_purged old event answer new moves before clean = record {
  done = λ me floor told is_event is_answer. purge_at old.now me moves.0 floor told (place_at old.now.places me) refl new.now (step_of (Purge me floor) (told_purged told) is_event is_answer) clean;
  trimmed = λ me floor told is_event is_answer. trim_at old.now me moves.0 floor told (place_at old.now.places me) refl new.now (step_of (Trim me floor) (told_trimmed told) is_event is_answer) clean;
  opened = λ me version is_event is_answer. restart_at old.now me moves.0 version (place_at old.now.places me) refl new.now (step_of (Restart me) (told_restarted version) is_event is_answer) clean;
  stays = λ name. floor_at_step old.now event answer moves.0 name (place_for old.now event) refl new.now moves.1 clean;
}
  where
    step_of : (other : Event) (told : Result Answer Fault) → event ≡ other → answer ≡ told → StepAt (place_for old.now other) old.now other told moves.0 new.now
    step_of other told is_event is_answer =
        subst (λ (a : Result Answer Fault). StepAt (place_for old.now other) old.now other a moves.0 new.now) is_answer
        (subst (λ (e : Event). StepAt (place_for old.now e) old.now e answer moves.0 new.now) is_event moves.1)
