-- Whole runs of events, on one owner.
use Rattle.std.proofs.Common.{List, [], ◌∷◌, inl, inr, refl}
use Rattle.sb_types.specs.declared.entry.Write.{Write}
use Rattle.sb_types.specs.Records.{Holder}
use Rattle.sb_types.specs.Writes.{IsHolder}
use Rattle.sb_holdings.specs.Events.{Event, Owned, Came, holder_after_event, replay_holder, IsEvent, TrueEvent, AreEvents, AllTrue}
use Rattle.sb_holdings.proofs.Steps.{Step, unchanged, two_steps}
use Rattle.sb_holdings.proofs.Joining.{own_step}
use Rattle.sb_holdings.proofs.Treating.{treat_step}

pub happens_step : (writes : List Write) (h : Holder) (event : Event) → IsHolder h → IsEvent event → Step writes (TrueEvent writes event) h (holder_after_event h event)
happens_step writes h (Owned e) i is = own_step writes h e i
happens_step writes h (Came b end) i is = treat_step writes h b i is end

pub replay_step : (writes : List Write) (h : Holder) (events : List Event) → IsHolder h → AreEvents events → Step writes (AllTrue writes events) h (replay_holder h events)
replay_step writes h [] i is = unchanged i
replay_step writes h (event ∷ events) i is =
    let one = happens_step writes h event i (is event (inl refl)) in
    let rest = replay_step writes (holder_after_event h event) events one.is (λ e s. is e (inr s)) in
    two_steps (λ each. each event (inl refl)) (λ each e s. each e (inr s)) one rest
