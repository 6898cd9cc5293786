-- The calls of a session, one after another.
use Rattle.std.proofs.Common.{◌≡◌, false, List, [], ◌++◌, Ok, Err, ⊎_elim, refl, sym, ap, ◌∙◌}
use Rattle.std.specs.List.{flat_map}
use Rattle.std.proofs.lemmas.Grind.{flat_map-append}
use Rattle.sb_holdings.specs.Nodes.{Node, replay_node}
use Rattle.sb_types.proofs.Standing.{either}
use Rattle.sb_holdings.proofs.Nodes.{replay_node-append}
use Rattle.sb_session.specs.Handlers.{Act, tells, gives, applies, may_enter}
use Rattle.sb_node.specs.Calls.{Call, events_of, replay_calls}
use Rattle.sb_node.specs.Cores.{Core, with_node}
use Rattle.sb_node.specs.Steps.{entered_by, Steps, IsReplay}

nothing_entered : (act : Act) → may_enter act ≡ false → entered_by act ≡ []
nothing_entered (tells from want answer) e = refl
nothing_entered (gives theirs answer) e = refl
nothing_entered (applies blocks (Ok ends)) e = absurd cc
nothing_entered (applies blocks (Err fault)) e = refl

pub enters_nothing : (old new : Core) (act : Act) → may_enter act ≡ false → Steps old act new → new ≡ old
enters_nothing old new act e step = step.replay ∙ ap (λ (calls : List Call). with_node old (replay_calls old.node calls)) (nothing_entered act e)

pub no_replay : (core : Core) → IsReplay core core
no_replay core = record { calls = []; are = λ call stands. absurd stands; replay = refl }

pub step_replays : (old new : Core) (act : Act) → Steps old act new → IsReplay old new
step_replays old new act step = record { calls = entered_by act; are = step.calls; replay = step.replay }

replay_calls-append : (node : Node) (calls more : List Call) → replay_calls (replay_calls node calls) more ≡ replay_calls node (calls ++ more)
replay_calls-append node calls more =
    sym (replay_node-append node (flat_map events_of calls) (flat_map events_of more)) ∙ ap (replay_node node) (sym (flat_map-append events_of calls more))

pub replays_on : (old mid new : Core) → IsReplay old mid → IsReplay mid new → IsReplay old new
replays_on old mid new first next =
    record {
      calls = first.calls ++ next.calls;
      are = λ call stands. ⊎_elim (first.are call) (next.are call) (either first.calls next.calls call stands);
      replay = next.replay ∙ ap (λ (core : Core). with_node core (replay_calls core.node next.calls)) first.replay
          ∙ ap (with_node old) (replay_calls-append old.node first.calls next.calls);
    }
