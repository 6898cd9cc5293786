-- What stands among the events of calls.
use Rattle.std.proofs.Common.{◌≡◌, ℕ, Bool, true, List, [], ◌∷◌, ◌⊎◌, inl, inr, ⊎_elim, refl, sym, ap, subst, ◌∙◌}
use Rattle.std.proofs.lemmas.Bool.{and_parts}
use Rattle.std.specs.List.{flat_map, list_all}
use Rattle.sb_types.specs.declared.entry.Write.{Write}
use Rattle.sb_types.specs.Limits.{is_delta_block, is_delta}
use Rattle.sb_types.specs.Records.{Block}
use Rattle.sb_types.specs.Runs.{Stands}
use Rattle.sb_holdings.specs.declared.ends.BlockEnd.{BlockEnd}
use Rattle.sb_holdings.specs.Nodes.{NodeEvent, Took, IsNodeEvent, TrueAt, AreNodeEvents, AllTrueAt}
use Rattle.sb_types.proofs.Standing.{either}
use Rattle.sb_holdings.specs.Treats.{took_each}
use Rattle.sb_node.specs.Calls.{Call, TookOwn, Applied, events_of, AreBlocks, AreHonest, IsCall, TrueCall, AreCalls, AreTrue}

-- what holds of each block, however it ended, holds of each event of the delta
each_took : (P : NodeEvent → Type 0) (blocks : List Block) (ends : List BlockEnd) → ((b : Block) (end : BlockEnd) → Stands blocks b → P (Took b end)) →
    (event : NodeEvent) → Stands (took_each blocks ends) event → P event
each_took P [] ends of event s = absurd s
each_took P (b ∷ bs) [] of event s = absurd s
each_took P (b ∷ bs) (end ∷ ends) of event (inl e) = subst P e (of b end (inl refl))
each_took P (b ∷ bs) (end ∷ ends) of event (inr s) = each_took P bs ends (λ c other stands. of c other (inr stands)) event s

-- what holds of the events of each call holds of all
each_called : (P : NodeEvent → Type 0) (calls : List Call) → ((call : Call) → Stands calls call → (event : NodeEvent) → Stands (events_of call) event → P event) →
    (event : NodeEvent) → Stands (flat_map events_of calls) event → P event
each_called P [] of event s = absurd s
each_called P (call ∷ calls) of event s =
    ⊎_elim (of call (inl refl) event) (each_called P calls (λ other stands. of other (inr stands)) event) (either (events_of call) (flat_map events_of calls) event s)

pub are_events : (blocks : List Block) (ends : List BlockEnd) → AreBlocks blocks → AreNodeEvents (took_each blocks ends)
are_events blocks ends are = each_took IsNodeEvent blocks ends (λ b end s. are b s)

pub all_true : (writes : List ℕ → List Write) (me : List ℕ) (blocks : List Block) (ends : List BlockEnd) → AreHonest writes blocks → AllTrueAt writes me (took_each blocks ends)
all_true writes me blocks ends are = each_took (TrueAt writes me) blocks ends (λ b end s. are b s)

call_is : (call : Call) → IsCall call → AreNodeEvents (events_of call)
call_is (TookOwn e) is event (inl same) = subst IsNodeEvent same tt
call_is (TookOwn e) is event (inr s) = absurd s
call_is (Applied blocks ends) is event s = are_events blocks ends is event s

call_true : (writes : List ℕ → List Write) (me : List ℕ) (call : Call) → TrueCall writes me call → AllTrueAt writes me (events_of call)
call_true writes me (TookOwn e) t event (inl same) = subst (TrueAt writes me) same t
call_true writes me (TookOwn e) t event (inr s) = absurd s
call_true writes me (Applied blocks ends) t event s = all_true writes me blocks ends t event s

pub calls_are : (calls : List Call) → AreCalls calls → AreNodeEvents (flat_map events_of calls)
calls_are calls are = each_called IsNodeEvent calls (λ call s. call_is call (are call s))

pub calls_true : (writes : List ℕ → List Write) (me : List ℕ) (calls : List Call) → AreTrue writes me calls → AllTrueAt writes me (flat_map events_of calls)
calls_true writes me calls are = each_called (TrueAt writes me) calls (λ call s. call_true writes me call (are call s))

-- what is tested of each block stands of each
each_tested : (p : Block → Bool) (blocks : List Block) → list_all p blocks ≡ true → (b : Block) → Stands blocks b → p b ≡ true
each_tested p [] tested b s = absurd s
each_tested p (first ∷ blocks) tested b (inl same) = ap p (sym same) ∙ (and_parts _ _ tested).0
each_tested p (first ∷ blocks) tested b (inr s) = each_tested p blocks (and_parts _ _ tested).1 b s

pub delta_blocks : (blocks : List Block) → is_delta blocks ≡ true → (b : Block) → Stands blocks b → is_delta_block b ≡ true
delta_blocks blocks is = each_tested is_delta_block blocks (and_parts _ _ is).0
