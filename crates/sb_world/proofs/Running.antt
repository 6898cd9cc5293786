-- Runs of the machine: each state of one is true, and so is what follows from that.
use Rattle.std.proofs.Common.{◌≡◌, ℕ, ◌≤◌, List, [], ◌∷◌, length, Result, sym, ap, subst, ◌∙◌, arith}
use Rattle.std.proofs.lemmas.List.{append-nil}
use Rattle.sb_types.specs.declared.fault.Fault.{Fault}
use Rattle.sb_types.specs.Records.{Table}
use Rattle.sb_types.specs.Writes.{Written}
use Rattle.sb_holdings.specs.Contents.{content_table}
use Rattle.sb_holdings.specs.Nodes.{Node, opened_node, replay_node, AreNodeEvents, AllTrueAt, IsNode, NodeHolds}
use Rattle.sb_holdings.proofs.Opened.{opened-holds, IsHoldings-alone}
use Rattle.sb_holdings.proofs.Changed.{IsHolder-held}
use Rattle.sb_holdings.proofs.Content.{content_tells}
use Rattle.sb_types.specs.Runs.{Stands}
use Rattle.sb_log.specs.Records.{Committed}
use Rattle.sb_world.specs.declared.event.Event.{Event}
use Rattle.sb_world.specs.declared.event.Answer.{Answer}
use Rattle.sb_world.specs.Connections.{Connection}
use Rattle.sb_world.specs.Lines.{IsTrueConnection}
use Rattle.sb_world.specs.Places.{Place, Seen, place_at, IsClean, AreSure}
use Rattle.sb_world.specs.States.{Past, State, Moves, Run, last_of, IsFresh, IsStart, IsReached, FitsWorld}
use Rattle.sb_world.specs.Truth.{IsTrueFrame, IsTruePlace, IsTrueState}
use Rattle.sb_world.specs.Wires.{AreTrueWires}
use Rattle.sb_world.proofs.Wires.{none_wired}
use Rattle.sb_world.specs.Claims.{EachState, EachStep}
use Rattle.sb_node.proofs.Told.{Laws}
use Rattle.sb_world.proofs.Stepping.{some_map, clean_moved, sure_moved, true_moved}

-- a store that keeps its promise to the end of a run kept it before
pub clean_run : (old : State) (events : List Event) (answers : List (Result Answer Fault)) (states : List State) → Run old events answers states → IsClean (last_of old states).now.places → IsClean old.now.places
clean_run old [] [] [] run clean = clean
clean_run old [] [] (s ∷ ss) run clean = absurd run
clean_run old [] (a ∷ rs) states run clean = absurd run
clean_run old (e ∷ es) [] states run clean = absurd run
clean_run old (e ∷ es) (a ∷ rs) [] run clean = absurd run
clean_run old (e ∷ es) (a ∷ rs) (s ∷ ss) run clean = clean_moved old e a s run.0 (clean_run s es rs ss run.1 clean)

-- so in each state
pub clean_each : (old : State) (events : List Event) (answers : List (Result Answer Fault)) (states : List State) → Run old events answers states → IsClean (last_of old states).now.places → EachState (λ s. IsClean s.now.places) old states
clean_each old [] [] [] run clean = clean
clean_each old [] [] (s ∷ ss) run clean = absurd run
clean_each old [] (a ∷ rs) states run clean = absurd run
clean_each old (e ∷ es) [] states run clean = absurd run
clean_each old (e ∷ es) (a ∷ rs) [] run clean = absurd run
clean_each old (e ∷ es) (a ∷ rs) (s ∷ ss) run clean = (clean_run old (e ∷ es) (a ∷ rs) (s ∷ ss) run clean, clean_each s es rs ss run.1 clean)

-- and one that can't break it keeps it to the end
pub sure_run : (old : State) (events : List Event) (answers : List (Result Answer Fault)) (states : List State) → Run old events answers states → AreSure old.now.places → AreSure (last_of old states).now.places
sure_run old [] [] [] run sure = sure
sure_run old [] [] (s ∷ ss) run sure = absurd run
sure_run old [] (a ∷ rs) states run sure = absurd run
sure_run old (e ∷ es) [] states run sure = absurd run
sure_run old (e ∷ es) (a ∷ rs) [] run sure = absurd run
sure_run old (e ∷ es) (a ∷ rs) (s ∷ ss) run sure = sure_run s es rs ss run.1 (sure_moved old e a s run.0 sure)

pub sure_clean : (places : List Place) → AreSure places → IsClean places
sure_clean places sure name = some_map _ _ (place_at places name) (λ p is log. log.1) (sure name)

pub true_run : Laws → (old : State) (events : List Event) (answers : List (Result Answer Fault)) (states : List State) → Run old events answers states → IsClean (last_of old states).now.places → IsTrueState old → EachState IsTrueState old states
true_run laws old [] [] [] run clean t = t
true_run laws old [] [] (s ∷ ss) run clean t = absurd run
true_run laws old [] (a ∷ rs) states run clean t = absurd run
true_run laws old (e ∷ es) [] states run clean t = absurd run
true_run laws old (e ∷ es) (a ∷ rs) [] run clean t = absurd run
true_run laws old (e ∷ es) (a ∷ rs) (s ∷ ss) run clean t = (t, true_run laws s es rs ss run.1 clean (true_moved old e a s run.0 laws (clean_run s es rs ss run.1 clean) t))

pub last_state : (P : State → Type 0) (first : State) (states : List State) → EachState P first states → P (last_of first states)
last_state P first [] each = each
last_state P first (s ∷ ss) each = last_state P s ss each.1

pub each_state : (P Q : State → Type 0) → ((s : State) → P s → Q s) → (first : State) (states : List State) → EachState P first states → EachState Q first states
each_state P Q f first [] each = f first each
each_state P Q f first (s ∷ ss) each = (f first each.0, each_state P Q f s ss each.1)

pub first_state : (P : State → Type 0) (first : State) (states : List State) → EachState P first states → P first
first_state P first [] each = each
first_state P first (s ∷ ss) each = each.0

-- a property of each step between states of which all have another
pub each_step : (Q : State → Type 0) (P : State → Event → Result Answer Fault → State → Type 0) → ((old : State) (event : Event) (answer : Result Answer Fault) (new : State) → Moves old event answer new → Q old → Q new → P old event answer new) →
    (old : State) (events : List Event) (answers : List (Result Answer Fault)) (states : List State) → Run old events answers states → EachState Q old states → EachStep P old events answers states
each_step Q P f old [] [] [] run each = tt
each_step Q P f old [] [] (s ∷ ss) run each = absurd run
each_step Q P f old [] (a ∷ rs) states run each = absurd run
each_step Q P f old (e ∷ es) [] states run each = absurd run
each_step Q P f old (e ∷ es) (a ∷ rs) [] run each = absurd run
each_step Q P f old (e ∷ es) (a ∷ rs) (s ∷ ss) run each = (f old e a s run.0 each.0 (first_state Q s ss each.1), each_step Q P f s es rs ss run.1 each.1)

-- ---- starts

fresh_true : (s : State) (p : Place) → IsFresh s p → IsTruePlace s.writes (s.past p.me) s.now.settings p
fresh_true s p f =
    let floor = p.log.content.floor in
    let held : p.log.content.held ≡ length (s.writes p.me) = ap (λ (t : Table). t.held) f.content in
    let low : floor ≤ length (s.writes p.me) = omega (arith, f.kept.is.floor, held) in
    let node : opened_node p.me p.log.content ≡ opened_node p.me (content_table floor (s.writes p.me)) = ap (opened_node p.me) f.content in
    let is : IsNode p.core.node = subst IsNode (sym f.node) (IsHolder-held (opened_node p.me p.log.content).held (IsHoldings-alone p.me p.log.content f.kept)) in
    let opening : (s.past p.me).opening ≡ p.core.node = ap (λ (h : Past). h.opening) f.past in
    let since : (s.past p.me).since ≡ [] = ap (λ (h : Past). h.since) f.past in
    record {
      owner = f.owner;
      content = λ unshut. record { floor = low; content = f.content };
      settings = f.settings;
      me = ap (λ (n : Node). n.held.me) f.node;
      opening = record { front = s.writes p.me; rest = []; floor = floor; all = sym (append-nil (s.writes p.me)); low = low; node = opening ∙ f.node ∙ node; is = subst IsNode (sym opening) is };
      replay = sym (ap (λ (h : Past). replay_node h.opening h.since) f.past);
      events = subst AreNodeEvents (sym since) (λ event stands. absurd stands);
      honest = subst (AllTrueAt s.writes p.me) (sym since) (λ event stands. absurd stands);
      is = is;
      holds = subst (NodeHolds s.writes) (sym (f.node ∙ node)) (opened-holds s.writes p.me (content_table floor (s.writes p.me)) (content_tells (s.writes p.me) floor low));
      waiting = subst (λ (ws : List Committed). (c : Committed) → Stands ws c → (c.owner ≡ p.me) × Written (s.writes p.me) c.entry) (sym f.waiting) (λ c stands. absurd stands);
    }

start_true : (s : State) → IsStart s → IsTrueState s
start_true s start = record {
  places = λ name. some_map _ _ (place_at s.now.places name) (λ p is fresh. fresh_true s p fresh) (start.places name);
  frames = subst (λ (sent : List (List ℕ)). (bytes : List ℕ) → Stands sent bytes → IsTrueFrame s.writes s.now.settings.budget bytes) (sym start.sent) (λ bytes stands. absurd stands);
  connections = subst (λ (cs : List Connection). (c : Connection) → Stands cs c → IsTrueConnection s.now.sent c) (sym start.connections) (λ c stands. absurd stands);
  wires = subst (λ (cs : List Connection). AreTrueWires s.now.sent cs s.wires) (sym start.connections) (none_wired s.now.sent s.wires start.wires);
}

-- whatever is reached is true
pub reached_true : Laws → (s : State) → IsReached s → IsClean s.now.places → IsTrueState s
reached_true laws s r clean =
    let clean_last : IsClean (last_of r.start r.states).now.places = subst (λ (x : State). IsClean x.now.places) (sym r.last) clean in
    let first = start_true r.start r.is_start in
    subst IsTrueState r.last (last_state IsTrueState r.start r.states (true_run laws r.start r.events r.answers r.states r.run clean_last first))

-- each state of a run from a state that fits a world is true
pub all_true_states : Laws → (world : Seen) (events : List Event) (answers : List (Result Answer Fault)) (old : State) (states : List State) → FitsWorld old world → Run old events answers states →
    IsClean (last_of old states).now.places → EachState IsTrueState old states
all_true_states laws world events answers old states fits run clean =
    true_run laws old events answers states run clean (reached_true laws old fits.reached (clean_run old events answers states run clean))
