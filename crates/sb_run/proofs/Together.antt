-- What runs that tell each other take is true.
use Rattle.std.proofs.Common.{◌≡◌, ℕ, zero, suc, ◌<◌, ◌==◌, Bool, true, false, cond, inl, inr, ⊎_elim, List, [], ◌∷◌, ◌++◌, length, Ok, refl, sym, ap, subst, ◌∙◌, arith, append_assoc, length-append}
use Rattle.std.proofs.lemmas.Bool.{eqb-true}
use Rattle.std.proofs.lemmas.Grind.{flat_map-append}
use Rattle.std.specs.List.{flat_map}
use mathlib.Core.List.{IsPrefix}
use Rattle.sb_types.specs.declared.entry.Write.{Write}
use Rattle.sb_types.specs.Records.{Block, Settings}
use Rattle.sb_types.specs.Runs.{Stands, IsBlock}
use Rattle.sb_types.specs.Writes.{Honest}
use Rattle.sb_types.proofs.Standing.{either}
use Rattle.sb_holdings.specs.declared.ends.BlockEnd.{BlockEnd}
use Rattle.sb_holdings.specs.Nodes.{Node, NodeEvent, Took, IsNode, NodeHolds, replay_node, IsNodeEvent, TrueAt, AreNodeEvents, AllTrueAt}
use Rattle.sb_holdings.specs.Treats.{took_each}
use Rattle.sb_digest.specs.Digests.{Digest}
use Rattle.sb_session.specs.Handlers.{gives}
use Rattle.sb_node.specs.Answers.{IsAnswer}
use Rattle.sb_views.specs.declared.event.Event.{Event}
use Rattle.sb_views.specs.declared.event.Event.TheVariants.{TookOwn, Applied, Purged}
use Rattle.sb_views.specs.Histories.{node_events_of, node_after}
use Rattle.sb_views.proofs.Prefixes.{prefix_trans}
use Rattle.sb_directory.specs.Serving.{AnswersAfter}
use Rattle.sb_run.specs.Together.{RunEvent, in_run, history_of, AreOpened, CanGive, MayHappen, HappenInTurn}

-- what comes of a run whose events are true is true
abbrev pub GivesTruth : Type 0
GivesTruth = (writes : List ℕ → List Write) (opening : Node) (settings : Settings) (history : List Event) (digest : Digest) (blocks : List Block) (b : Block)
    → IsNode opening → NodeHolds writes opening → AreNodeEvents (flat_map node_events_of history) → AllTrueAt writes opening.held.me (flat_map node_events_of history)
    → AnswersAfter opening settings history (gives digest (Ok blocks)) → Stands blocks b → IsBlock b × Honest (writes b.owner) b

pub gives_truth :
    ((writes : List ℕ → List Write) (opening : Node) (settings : Settings) (history : List Event) (digest : Digest) (blocks : List Block) (b : Block)
    → IsNode opening → NodeHolds writes opening → AreNodeEvents (flat_map node_events_of history) → AllTrueAt writes opening.held.me (flat_map node_events_of history)
    → AnswersAfter opening settings history (gives digest (Ok blocks)) → Stands blocks b → Honest (writes b.owner) b)
    → ((node : Node) (events : List NodeEvent) → IsNode node → AreNodeEvents events → IsNode (replay_node node events))
    → ((node : Node) (budget : ℕ) (digest : Digest) (blocks : List Block) (b : Block) → IsNode node → IsAnswer budget node.held digest blocks → Stands blocks b → IsBlock b)
    → GivesTruth
gives_truth honest is blocks_are = λ writes opening settings history digest blocks b opens holds are true answer stands. (
  blocks_are (node_after opening history) settings.budget digest blocks b (is opening (flat_map node_events_of history) opens are) answer.1 stands,
  honest writes opening settings history digest blocks b opens holds are true answer stands,
)

abbrev IsTrue : (List ℕ → List Write) → List ℕ → NodeEvent → Type 0
IsTrue writes me event = IsNodeEvent event × TrueAt writes me event

abbrev AreTrue : (List ℕ → List Write) → Node → List Event → Type 0
AreTrue writes opening history = (event : NodeEvent) → Stands (flat_map node_events_of history) event → IsTrue writes opening.held.me event

abbrev GiveTruth : (List ℕ → List Write) → (ℕ → Node) → (ℕ → Settings) → List RunEvent → Type 0
GiveTruth writes opening settings all = (blocks : List Block) (b : Block) → CanGive opening settings all blocks → Stands blocks b → IsBlock b × Honest (writes b.owner) b

took_of : (blocks : List Block) (ends : List BlockEnd) (event : NodeEvent) → Stands (took_each blocks ends) event
    → (b : Block) × (end : BlockEnd) × Stands blocks b × (Took b end ≡ event)
took_of [] ends event s = absurd s
took_of (b ∷ bs) [] event s = absurd s
took_of (b ∷ bs) (end ∷ ends) event (inl same) = (b, end, inl refl, same)
took_of (b ∷ bs) (end ∷ ends) event (inr s) = (let r = took_of bs ends event s in (r.0, r.1, inr r.2, r.3))

-- a delta was given by a run that had taken nothing but the truth
pub given_true : GivesTruth → (writes : List ℕ → List Write) (opening : ℕ → Node) (settings : ℕ → Settings) (all : List RunEvent)
    → AreOpened writes opening → ((run : ℕ) → AreTrue writes (opening run) (history_of run all)) → GiveTruth writes opening settings all
given_true law writes opening settings all opened true_each blocks b given stands =
    let run = given.0 in
    law writes (opening run) (settings run) (history_of run all) given.1 blocks b (opened run).0 (opened run).1
    (λ event s. (true_each run event s).0) (λ event s. (true_each run event s).1) given.2 stands

step_true : (writes : List ℕ → List Write) (opening : ℕ → Node) (settings : ℕ → Settings) (all : List RunEvent) (run : ℕ) (event : Event)
    → ((earlier : List RunEvent) → IsPrefix earlier all → GiveTruth writes opening settings earlier)
    → MayHappen writes opening settings all run event → (step : NodeEvent) → Stands (node_events_of event) step → IsTrue writes (opening run).held.me step
step_true writes opening settings all run (TookOwn e) before may step (inl same) = subst (IsTrue writes (opening run).held.me) same (tt, may)
step_true writes opening settings all run (TookOwn e) before may step (inr s) = absurd s
step_true writes opening settings all run (Applied blocks ends) before may step s =
    let r = took_of blocks ends step s in
    let by = may r.0 r.2 in
    let given = before by.0 by.2 by.1 r.0 by.3 by.4 in
    subst (IsTrue writes (opening run).held.me) r.3 given
step_true writes opening settings all run (Purged floor) before may step (inl same) = subst (IsTrue writes (opening run).held.me) same (tt, tt)
step_true writes opening settings all run (Purged floor) before may step (inr s) = absurd s

one_true : (writes : List ℕ → List Write) (opening : ℕ → Node) (run : ℕ) (h : RunEvent) (is : Bool) → (h.run == run) ≡ is
    → ((step : NodeEvent) → Stands (node_events_of h.event) step → IsTrue writes (opening h.run).held.me step)
    → (step : NodeEvent) → Stands (flat_map node_events_of (cond is (h.event ∷ []) [])) step → IsTrue writes (opening run).held.me step
one_true writes opening run h true same steps step s =
    subst (λ (r : ℕ). IsTrue writes (opening r).held.me step) (eqb-true h.run run same)
    (⊎_elim (steps step) (λ none. absurd none) (either (node_events_of h.event) [] step s))
one_true writes opening run h false same steps step s = absurd s

-- the beginning of what happened in turn happened in turn
begin_in_turn : (writes : List ℕ → List Write) (opening : ℕ → Node) (settings : ℕ → Settings) (first all : List RunEvent)
    → IsPrefix first all → HappenInTurn writes opening settings all → HappenInTurn writes opening settings first
begin_in_turn writes opening settings first all begins turns earlier h later whole =
    turns earlier h (later ++ begins.0) (sym (append_assoc earlier (h ∷ later) begins.0) ∙ ap (λ (l : List RunEvent). l ++ begins.0) whole ∙ begins.1)

shorter : (earlier before : List RunEvent) (h : RunEvent) (hs all : List RunEvent) (n : ℕ) → IsPrefix earlier before → before ++ h ∷ hs ≡ all → length all < suc n → length earlier < n
shorter earlier before h hs all n begins whole short =
    omega (arith, short, ap (λ (l : List RunEvent). length l) whole, length-append before (h ∷ hs), ap (λ (l : List RunEvent). length l) begins.1, length-append earlier begins.0)

abbrev TrueBelow : (List ℕ → List Write) → (ℕ → Node) → (ℕ → Settings) → ℕ → Type 0
TrueBelow writes opening settings n = (all : List RunEvent) → length all < n → HappenInTurn writes opening settings all
    → (run : ℕ) → AreTrue writes (opening run) (history_of run all)

rest_true : GivesTruth → (writes : List ℕ → List Write) (opening : ℕ → Node) (settings : ℕ → Settings) → AreOpened writes opening
    → (n : ℕ) → TrueBelow writes opening settings n → (all before rest : List RunEvent) → before ++ rest ≡ all → length all < suc n
    → HappenInTurn writes opening settings all → (run : ℕ) → AreTrue writes (opening run) (history_of run rest)
rest_true law writes opening settings opened n below all before [] whole short turns run step s = absurd s
rest_true law writes opening settings opened n below all before (h ∷ hs) whole short turns run step s =
    let given : (earlier : List RunEvent) → IsPrefix earlier before → GiveTruth writes opening settings earlier =
    (λ earlier begins. given_true law writes opening settings earlier opened
    (below earlier (shorter earlier before h hs all n begins whole short)
    (begin_in_turn writes opening settings earlier all (prefix_trans earlier before all begins (h ∷ hs, whole)) turns))) in
    ⊎_elim
    (one_true writes opening run h (h.run == run) refl (step_true writes opening settings before h.run h.event given (turns before h hs whole)) step)
    (rest_true law writes opening settings opened n below all (before ++ h ∷ []) hs (append_assoc before (h ∷ []) hs ∙ whole) short turns run step)
    (either (flat_map node_events_of (in_run run h)) (flat_map node_events_of (history_of run hs)) step
    (subst (λ (l : List NodeEvent). Stands l step) (flat_map-append node_events_of (in_run run h) (history_of run hs)) s))

true_below : GivesTruth → (writes : List ℕ → List Write) (opening : ℕ → Node) (settings : ℕ → Settings) → AreOpened writes opening
    → (n : ℕ) → TrueBelow writes opening settings n
true_below law writes opening settings opened zero = λ all short turns run step s. absurd (omega (arith, short))
true_below law writes opening settings opened (suc n) = λ all short turns.
    rest_true law writes opening settings opened n (true_below law writes opening settings opened n) all [] all refl short turns

-- all that runs take of each other is true
pub together_true : GivesTruth → (writes : List ℕ → List Write) (opening : ℕ → Node) (settings : ℕ → Settings) (all : List RunEvent)
    → AreOpened writes opening → HappenInTurn writes opening settings all → (run : ℕ) → AreTrue writes (opening run) (history_of run all)
together_true law writes opening settings all opened turns =
    true_below law writes opening settings opened (suc (length all)) all (omega arith) turns

pub history_begins : (run : ℕ) (earlier all : List RunEvent) → IsPrefix earlier all → IsPrefix (history_of run earlier) (history_of run all)
history_begins run earlier all begins = (history_of run begins.0, sym (flat_map-append (in_run run) earlier begins.0) ∙ ap (history_of run) begins.1)
