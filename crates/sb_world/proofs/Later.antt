-- Within a node's run no version falls.
use Rattle.std.proofs.Common.{◌≡◌, ℕ, ◌<◌, Bool, true, false, cond, nat_eq, List, [], ◌∷◌, ◌++◌, ◌⊎◌, inl, inr, Option, Some, None, IfSome, Result, refl, sym, ap, subst, ◌∙◌, arith}
use Rattle.std.proofs.lemmas.List.{append-nil, append_assoc}
use Rattle.std.specs.Cmp.Lexicographic.{pointwise}
use Rattle.sb_types.specs.declared.entry.Write.{Write}
use Rattle.sb_types.specs.declared.fault.Fault.{Fault}
use Rattle.sb_types.specs.Runs.{Stands}
use Rattle.sb_types.specs.Writes.{IsHolder}
use Rattle.sb_holdings.specs.Nodes.{Node, NodeEvent, replay_node, AreNodeEvents, NodeLater, held_by}
use Rattle.sb_types.proofs.Standing.{right}
use Rattle.sb_types.proofs.Texts.{same_text}
use Rattle.sb_holdings.proofs.Nodes.{replay_node-append, replay_at_step}
use Rattle.sb_holdings.proofs.Steps.{later}
use Rattle.sb_world.specs.declared.event.Event.{Event}
use Rattle.sb_world.specs.declared.event.Answer.{Answer}
use Rattle.sb_world.specs.Places.{Place, place_at}
use Rattle.sb_world.specs.Turns.{Effect, rests, logs, goes, listens, opens}
use Rattle.sb_world.specs.Events.{place_for}
use Rattle.sb_world.specs.Hearing.{events_in}
use Rattle.sb_world.specs.States.{Past, State, past_after, state_after, Moves, Run}
use Rattle.sb_world.specs.Truth.{IsTruePlace, IsTrueState}
use Rattle.sb_world.specs.Claims.{EachState, FallsNowhere, NothingFalls, NothingFallsIn}
use Rattle.sb_world.proofs.Names.{found_me}
use Rattle.sb_world.proofs.Running.{first_state}

-- the node opened anew, or more happened to it
abbrev Follows : Past → Past → Type 0
Follows a b = (a.openings < b.openings) ⊎ ((b.openings ≡ a.openings) × (more : List NodeEvent) × (b.opening ≡ a.opening) × (b.since ≡ a.since ++ more))

stays : (a : Past) → Follows a a
stays a = inr (refl, [], refl, sym (append-nil a.since))

by_effect : (me : List ℕ) (writes : List Write) (a : Past) (effect : Effect) → Follows a (past_after me writes a effect)
by_effect me writes a rests = inr (refl, [], refl, sym (append-nil a.since))
by_effect me writes a (logs w) = inr (refl, [], refl, sym (append-nil a.since))
by_effect me writes a (goes events) = inr (refl, events, refl, refl)
by_effect me writes a (listens bytes heard) = inr (refl, events_in heard, refl, refl)
by_effect me writes a (opens floor) = inl (omega arith)

chained : (a b c : Past) → Follows a b → Follows b c → Follows a c
chained a b c (inl one) (inl two) = inl (omega (arith, one, two))
chained a b c (inl one) (inr two) = let same = two.0 in inl (omega (arith, one, same))
chained a b c (inr one) (inl two) = let same = one.0 in inl (omega (arith, same, two))
chained a b c (inr one) (inr two) =
    inr (two.0 ∙ one.0, one.1 ++ two.1, two.2 ∙ one.2, two.3 ∙ ap (λ (es : List NodeEvent). es ++ two.1) one.3 ∙ append_assoc a.since one.1 two.1)

moved_past : (old : State) (event : Event) (answer : Result Answer Fault) (new : State) → Moves old event answer new → (name : List ℕ) → Follows (old.past name) (new.past name)
moved_past old event answer new moves name =
    subst (λ (s : State). Follows (old.past name) (s.past name)) (sym moves.2) (at (place_for old.now event))
  where
    go : (me : List ℕ) (b : Bool) → pointwise nat_eq name me ≡ b → Follows (old.past name) (cond b (past_after me (old.writes me) (old.past me) moves.0) (old.past name))
    go me true is =
        subst (λ (n : List ℕ). Follows (old.past n) (past_after me (old.writes me) (old.past me) moves.0)) (sym (same_text name me is))
        (by_effect me (old.writes me) (old.past me) moves.0)
    go me false is = stays (old.past name)

    at : (found : Option Place) → Follows (old.past name) ((state_after old found event answer moves.0 new.now).past name)
    at None = stays (old.past name)
    at (Some p) = go p.me (pointwise nat_eq name p.me) refl

each_past : (old : State) (events : List Event) (answers : List (Result Answer Fault)) (states : List State) → Run old events answers states → (name : List ℕ) (s : State) → Stands states s → Follows (old.past name) (s.past name)
each_past old [] [] [] run name s stands = absurd stands
each_past old [] [] (x ∷ xs) run name s stands = absurd run
each_past old [] (a ∷ rs) states run name s stands = absurd run
each_past old (e ∷ es) [] states run name s stands = absurd run
each_past old (e ∷ es) (a ∷ rs) [] run name s stands = absurd run
each_past old (e ∷ es) (a ∷ rs) (x ∷ xs) run name s (inl same) = subst (λ (y : State). Follows (old.past name) (y.past name)) same (moved_past old e a x run.0 name)
each_past old (e ∷ es) (a ∷ rs) (x ∷ xs) run name s (inr stands) =
    chained (old.past name) (x.past name) (s.past name) (moved_past old e a x run.0 name) (each_past x es rs xs run.1 name s stands)

node_later : (node : Node) (more : List NodeEvent) → ((owner : List ℕ) → IsHolder (held_by node owner)) → AreNodeEvents more → NodeLater node (replay_node node more)
node_later node more is are owner = later _ _ (is owner).shown (replay_at_step (λ _. []) node more is are owner).onward

-- where the node did not open anew, what it holds is what it held and what happened since
falls_nowhere : (old new : State) → ((name : List ℕ) → Follows (old.past name) (new.past name)) → IsTrueState old → IsTrueState new → FallsNowhere old new
falls_nowhere old new follows one two name = go (place_at old.now.places name) refl (one.places name)
  where
    both : (p q : Place) → p.me ≡ name → q.me ≡ name → IsTruePlace old.writes (old.past p.me) old.now.settings p → IsTruePlace new.writes (new.past q.me) new.now.settings q →
        (old.past name).openings ≡ (new.past name).openings → Follows (old.past name) (new.past name) → NodeLater p.core.node q.core.node
    both p q pme qme s t same (inl less) = absurd (omega (arith, same, less))
    both p q pme qme s t same (inr on) =
        let more = on.1 in
        let before : p.core.node ≡ replay_node (old.past name).opening (old.past name).since = s.replay ∙ ap (λ n. replay_node (old.past n).opening (old.past n).since) pme in
        let now : q.core.node ≡ replay_node p.core.node more =
        t.replay ∙ ap (λ n. replay_node (new.past n).opening (new.past n).since) qme
        ∙ ap (λ (n : Node). replay_node n (new.past name).since) on.2 ∙ ap (replay_node (old.past name).opening) on.3
        ∙ replay_node-append (old.past name).opening (old.past name).since more ∙ ap (λ (n : Node). replay_node n more) (sym before) in
        let are : AreNodeEvents ((old.past name).since ++ more) = subst AreNodeEvents (ap (λ n. (new.past n).since) qme ∙ on.3) t.events in
        subst (NodeLater p.core.node) (sym now) (node_later p.core.node more s.is (λ event stands. are event (right (old.past name).since more event stands)))

    inner : (p : Place) → p.me ≡ name → IsTruePlace old.writes (old.past p.me) old.now.settings p → (o : Option Place) → place_at new.now.places name ≡ o → IfSome o (λ q. IsTruePlace new.writes (new.past q.me) new.now.settings q) →
        IfSome o (λ q. (old.past name).openings ≡ (new.past name).openings → NodeLater p.core.node q.core.node)
    inner p pme s None is t = tt
    inner p pme s (Some q) is t = λ same. both p q pme (found_me new.now.places name q is) s t same (follows name)

    go : (o : Option Place) → place_at old.now.places name ≡ o → IfSome o (λ p. IsTruePlace old.writes (old.past p.me) old.now.settings p) →
        IfSome o (λ p. IfSome (place_at new.now.places name) (λ q. (old.past name).openings ≡ (new.past name).openings → NodeLater p.core.node q.core.node))
    go None is s = tt
    go (Some p) is s = inner p (found_me old.now.places name p is) s (place_at new.now.places name) refl (two.places name)

-- of each of some states what is true of all of them
state_in : (P : State → Type 0) (first : State) (states : List State) → EachState P first states → (s : State) → Stands states s → P s
state_in P first [] each s stands = absurd stands
state_in P first (x ∷ xs) each s (inl same) = subst P same (first_state P x xs each.1)
state_in P first (x ∷ xs) each s (inr stands) = state_in P x xs each.1 s stands

from_first : (old : State) (events : List Event) (answers : List (Result Answer Fault)) (states : List State) → Run old events answers states → EachState IsTrueState old states → (s : State) → Stands states s → FallsNowhere old s
from_first old events answers states run each s stands =
    falls_nowhere old s (λ name. each_past old events answers states run name s stands) (first_state IsTrueState old states each) (state_in IsTrueState old states each s stands)

in_later : (old : State) (events : List Event) (answers : List (Result Answer Fault)) (states : List State) → Run old events answers states → EachState IsTrueState old states → NothingFallsIn states
in_later old [] [] [] run each = tt
in_later old [] [] (x ∷ xs) run each = absurd run
in_later old [] (a ∷ rs) states run each = absurd run
in_later old (e ∷ es) [] states run each = absurd run
in_later old (e ∷ es) (a ∷ rs) [] run each = absurd run
in_later old (e ∷ es) (a ∷ rs) (x ∷ xs) run each = (from_first x es rs xs run.1 each.1, in_later x es rs xs run.1 each.1)

pub nothing_falls : (old : State) (events : List Event) (answers : List (Result Answer Fault)) (states : List State) → Run old events answers states → EachState IsTrueState old states → NothingFalls old states
nothing_falls old events answers states run each = (from_first old events answers states run each, in_later old events answers states run each)
