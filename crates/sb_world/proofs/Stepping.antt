-- One step of the machine keeps what is true.
use Rattle.std.proofs.Common.{◌≡◌, ℕ, false, nat_eq, List, Option, Some, None, IfSome, Result, refl, sym, ap, subst, ◌∙◌}
use Rattle.std.specs.Prelude.{option_and_then}
use Rattle.std.specs.Cmp.Lexicographic.{pointwise}
use Rattle.sb_types.specs.declared.entry.Write.{Write}
use Rattle.sb_types.specs.declared.fault.Fault.{Fault}
use Rattle.sb_holdings.specs.Growth.{Grows}
use Rattle.sb_world.specs.declared.event.Event.{Event}
use Rattle.sb_world.specs.declared.event.Answer.{Answer}
use Rattle.sb_world.specs.Places.{Place, Seen, place_at, with_place, IsClean, AreSure}
use Rattle.sb_world.specs.Connections.{Connection}
use Rattle.sb_world.specs.Turns.{Effect}
use Rattle.sb_world.specs.Events.{node_of, place_for, Does}
use Rattle.sb_world.specs.Steps.{StepAt, seen_after}
use Rattle.sb_world.specs.States.{Past, State, put_at, writes_after, past_after, state_after, Moves}
use Rattle.sb_world.specs.Truth.{IsContentOf, IsTrueFrame, IsTruePlace, IsTrueState}
use Rattle.sb_world.proofs.Names.{found_me, put_same, put_other, each_placed, clean_before, sure_after, clean_there}
use Rattle.sb_world.proofs.Going.{grown, frame_on}
use Rattle.sb_world.proofs.Keeping.{joined, relogged, waiting_on}
use Rattle.sb_node.proofs.Told.{Laws}
use Rattle.sb_world.proofs.Acting.{AllKept, does_same, does_kept}
use Rattle.sb_world.proofs.Wires.{does_wires}

-- what holds of a found node by one property holds by the other
pub some_map : (P Q : Place → Type 0) (o : Option Place) → ((p : Place) → o ≡ Some p → P p → Q p) → IfSome o P → IfSome o Q
some_map P Q None f h = tt
some_map P Q (Some p) f h = f p refl h

-- the node of an event is found by its own name
pub found_for : (world : Seen) (event : Event) (p : Place) → place_for world event ≡ Some p → place_at world.places p.me ≡ Some p
found_for world event p found = go (node_of world.connections event) refl found
  where
    go : (o : Option (List ℕ)) → node_of world.connections event ≡ o → option_and_then (place_at world.places) o ≡ Some p → place_at world.places p.me ≡ Some p
    go None is at = absurd (cc)
    go (Some name) is at = ap (place_at world.places) (found_me world.places name p at) ∙ at

module _ (event : Event) (answer : Result Answer Fault) (effect : Effect) (old : State) where
  clean_step : (found : Option Place) → place_for old.now event ≡ found → (seen : Seen) → StepAt found old.now event answer effect seen → IsClean seen.places → IsClean old.now.places
  clean_step None is seen step clean = subst (λ (s : Seen). IsClean s.places) step.2 clean
  clean_step (Some p) is seen step clean =
      let same = does_same event p old.now.connections old.now.sent _ step.1 step.3 in
      clean_before p.me p step.0 same.me old.now.places (found_for old.now event p is) same.clean (subst (λ (s : Seen). IsClean s.places) step.4 clean)

  pub sure_step : (found : Option Place) → place_for old.now event ≡ found → (seen : Seen) → StepAt found old.now event answer effect seen → AreSure old.now.places → AreSure seen.places
  sure_step None is seen step sure = subst (λ (s : Seen). AreSure s.places) (sym step.2) sure
  sure_step (Some p) is seen step sure =
      let same = does_same event p old.now.connections old.now.sent _ step.1 step.3 in
      subst (λ (s : Seen). AreSure s.places) (sym step.4) (sure_after p.me p step.0 same.me old.now.places (found_for old.now event p is) same.sure sure)

  -- of a node of another name nothing changed
  elsewhere : (me : List ℕ) (p : Place) → pointwise nat_eq p.me me ≡ false → IsTruePlace old.writes (old.past p.me) old.now.settings p →
      IsTruePlace (put_at old.writes me (writes_after (old.writes me) effect)) (put_at old.past me (past_after me (old.writes me) (old.past me) effect) p.me) old.now.settings p
  elsewhere me p other t =
      let new = put_at old.writes me (writes_after (old.writes me) effect) in
      let grows : Grows old.writes new = grown old.writes me effect in
      let same : new p.me ≡ old.writes p.me = put_other old.writes me p.me (writes_after (old.writes me) effect) other in
      subst (λ (h : Past). IsTruePlace new h old.now.settings p) (sym (put_other old.past me p.me (past_after me (old.writes me) (old.past me) effect) other))
      (relogged old.writes new grows (old.past p.me) old.now.settings p t p.log p.waiting p.is_up t.owner (λ unshut. subst (λ (ws : List Write). IsContentOf ws p.log.content) (sym same) (t.content unshut)) (waiting_on old.writes new grows (old.past p.me) old.now.settings p t))

  module _ (laws : Laws) (p q : Place) (conns : List Connection) (frames : List (List ℕ)) (found : place_at old.now.places p.me ≡ Some p)
      (does : Does event p old.now.connections old.now.sent (record { answer = answer; effect = effect; place = q; frames = frames }) conns) (clean : IsClean (with_place old.now.places p.me q)) (t : IsTrueState old) where
    abbrev new : List ℕ → List Write
    new = put_at old.writes p.me (writes_after (old.writes p.me) effect)

    abbrev later : Past
    later = past_after p.me (old.writes p.me) (old.past p.me) effect

    me_same : q.me ≡ p.me
    me_same = (does_same event p old.now.connections old.now.sent _ conns does).me

    true_here : IsTruePlace old.writes (old.past p.me) old.now.settings p
    true_here = subst (λ (o : Option Place). IfSome o (λ r. IsTruePlace old.writes (old.past r.me) old.now.settings r)) found (t.places p.me)

    all : AllKept old.writes (old.past p.me) old.now.settings old.now.sent p true_here t.frames laws old.now.connections t.connections (record { answer = answer; effect = effect; place = q; frames = frames }) conns
    all = does_kept old.writes (old.past p.me) old.now.settings old.now.sent p true_here t.frames laws old.now.connections t.connections event _ conns does

    true_some : IsTrueState (state_after old (Some p) event answer effect (seen_after old.now p.me q conns frames))
    true_some = record {
      places = each_placed p.me p q me_same (λ r. IsTruePlace new (put_at old.past p.me later r.me) old.now.settings r) old.now.places found
          (subst (λ (h : Past). IsTruePlace new h old.now.settings q) (sym (ap (put_at old.past p.me later) me_same ∙ put_same old.past p.me later)) (all.kept.place (clean_there p.me p q me_same old.now.places found clean)))
          (λ name other. some_map _ _ (place_at old.now.places name) (λ r is place. elsewhere p.me r (ap (λ n. pointwise nat_eq n p.me) (found_me old.now.places name r is) ∙ other) place) (t.places name));
      frames = joined (IsTrueFrame new old.now.settings.budget) old.now.sent frames
          (λ bytes stands. frame_on old.writes new (grown old.writes p.me effect) old.now.settings.budget bytes (t.frames bytes stands))
          (λ bytes stands. frame_on old.writes new (grown old.writes p.me effect) old.now.settings.budget bytes (all.kept.frames bytes stands));
      connections = all.each;
      wires = does_wires old.now.sent old.now.connections old.wires t.wires p event (record { answer = answer; effect = effect; place = q; frames = frames }) conns does;
    }

  true_step : Laws → (found : Option Place) → place_for old.now event ≡ found → (seen : Seen) → StepAt found old.now event answer effect seen → IsClean seen.places → IsTrueState old → IsTrueState (state_after old found event answer effect seen)
  true_step laws None is seen step clean t = subst (λ (s : Seen). IsTrueState (state_after old None event answer effect s)) (sym step.2) (record { places = t.places; frames = t.frames; connections = t.connections; wires = t.wires })
  true_step laws (Some p) is seen step clean t =
      subst (λ (s : Seen). IsTrueState (state_after old (Some p) event answer effect s)) (sym step.4)
      (true_some laws p step.0 step.1 step.2 (found_for old.now event p is) step.3 (subst (λ (s : Seen). IsClean s.places) step.4 clean) t)

module _ (old : State) (event : Event) (answer : Result Answer Fault) (new : State) (moves : Moves old event answer new) where
  -- a store that keeps its promise kept it before
  pub clean_moved : IsClean new.now.places → IsClean old.now.places
  clean_moved = clean_step event answer moves.0 old (place_for old.now event) refl new.now moves.1

  pub sure_moved : AreSure old.now.places → AreSure new.now.places
  sure_moved = sure_step event answer moves.0 old (place_for old.now event) refl new.now moves.1

  pub true_moved : Laws → IsClean new.now.places → IsTrueState old → IsTrueState new
  true_moved laws clean t = subst IsTrueState (sym moves.2) (true_step event answer moves.0 old laws (place_for old.now event) refl new.now moves.1 clean t)
