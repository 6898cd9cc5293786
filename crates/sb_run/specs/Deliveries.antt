-- How news is on its way to peers.
use Rattle.std.specs.List.{list_any}
use Rattle.std.specs.Prelude.{◌≡◌, ◌≢◌, ℕ, ◌-◌, Bool, true, false, not, ◌&&◌, ◌||◌, ◌==◌, if◌then◌else◌, nat_lt, nat_le, List, [], ◌∷◌, count_by, Option, Some, None, slice_get, IfSome}
use Rattle.sb_run.specs.declared.schedule.Cause.{Cause}
use Rattle.sb_run.specs.declared.schedule.Cause.TheVariants as causes
use Rattle.sb_run.specs.declared.schedule.Delivery.{Delivery}
use Rattle.sb_run.specs.declared.schedule.RoundCounts.{RoundCounts}
use Rattle.sb_run.specs.Turns.{one_more}

-- the peer was not dialed yet: it is due, and no session with it was short
abbrev pub at_first : Delivery
at_first = record { is_due = true; is_open = false; is_slow = true }

-- a session with a slow peer is under way
abbrev pub takes_slow_room : Delivery → Bool
takes_slow_room delivery = delivery.is_open && delivery.is_slow

-- one more session with a slow peer leaves room for another session, or there is never room for two
abbrev pub has_room : ℕ → List Delivery → Bool
has_room most all = nat_lt most 2 || nat_lt (count_by takes_slow_room all) (most - 1)

-- there is news for a peer that no session has begun to bring
abbrev pub is_any_due : List Delivery → Bool
is_any_due all = list_any (λ delivery. delivery.is_due) all

-- a session for news can begin: there is news, none is under way, and there is room for a slow peer or it is not one
abbrev pub can_begin : Bool → Delivery → Bool
can_begin room delivery = (delivery.is_due && not delivery.is_open) && (room || not delivery.is_slow)

-- there is news for the peer
abbrev pub with_news : Delivery → Delivery
with_news delivery = record { is_due = true; is_open = delivery.is_open; is_slow = delivery.is_slow }

-- the news for the peer, if there is any, need not be brought
abbrev pub without_news : Delivery → Delivery
without_news delivery = record { is_due = false; is_open = delivery.is_open; is_slow = delivery.is_slow }

-- a session has begun to bring the news to the peer
abbrev pub begun : Delivery → Delivery
begun delivery = record { is_due = false; is_open = true; is_slow = delivery.is_slow }

-- the session is over; what became news meanwhile is still to be brought
abbrev pub ended : Bool → Delivery → Delivery
ended slow delivery = record { is_due = delivery.is_due; is_open = false; is_slow = slow }

-- the peer was not dialed
abbrev pub left_out : Delivery → Delivery
left_out delivery = record { is_due = delivery.is_due; is_open = false; is_slow = delivery.is_slow }

-- a round in turn with the peer is over
abbrev pub paced : Bool → Delivery → Delivery
paced slow delivery = record { is_due = delivery.is_due; is_open = delivery.is_open; is_slow = slow }

-- a round is over that was made for this reason
abbrev pub after_round : Cause → Bool → Delivery → Delivery
after_round causes.Turn slow delivery = paced slow delivery
after_round causes.News slow delivery = ended slow delivery

-- the delivery to this peer changes so, and no other
abbrev pub Changes : ℕ → (Delivery → Delivery) → List Delivery → List Delivery → Type 0
Changes index change old new =
    IfSome (slice_get old index) (λ before. slice_get new index ≡ Some (change before))
    × ((other : ℕ) → other ≢ index → slice_get new other ≡ slice_get old other)

-- these peers became due one after another, the last first, and nothing else of the deliveries changed
abbrev pub ExpectInTurn : List ℕ → List Delivery → List Delivery → Type 0
ExpectInTurn [] old new = new ≡ old
ExpectInTurn (index ∷ earlier) old new = (before : List Delivery) × ExpectInTurn earlier old before × Changes index with_news before new

-- another round may begin: not so many have begun as are to be made, or they have no end
abbrev pub has_round_left : ℕ → ℕ → Bool
has_round_left most begun = nat_lt most 1 || nat_lt begun most

-- how many rounds had a fault, with one more that had one or not
abbrev pub faults_after : Bool → ℕ → ℕ
faults_after has_fault faults = if has_fault then one_more faults else faults

-- how many rounds had a fault, once as many have ended as are to be made; none if they have no end
abbrev pub faults_if_done : ℕ → RoundCounts → Option ℕ
faults_if_done most counts = if most == 0 then None else (if nat_le most counts.ended then Some counts.faults else None)

-- how many milliseconds after a burst begins news is gathered for the next: longer if the news of this burst was gathered
abbrev pub gathering_time : Bool → ℕ
gathering_time was_gathered = if was_gathered then 60 else 20
