-- What a peer was offered in vain, and which of it an answer defers.
use Rattle.std.proofs.Common.{◌≡◌, ◌⊎◌, inl, inr, ⊎_elim, ℕ, ◌+◌, ◌-◌, ◌^◌, ◌&&◌, ◌||◌, Bool, true, false, not, refl, sym, subst, List, [], ◌∷◌, ◌++◌, map, filter, nat_eq, nat_lt, if◌then◌else◌, Option, Some, None, Result, Ok, Err}
use Rattle.std.specs.Prelude.{IsPermutation, MatchBool}
use Rattle.std.specs.List.{list_any}
use Rattle.std.specs.Cmp.Lexicographic.{pointwise}
use Rattle.sb_types.specs.declared.fault.Fault.{Fault}
use Rattle.sb_types.specs.Records.{Block}
use Rattle.sb_digest.specs.Digests.{Digest, Pair, plain_pair, covers, number_in, floor_in}
use Rattle.sb_session.specs.Handlers.{Act, tells, gives, applies, may_enter}
use Rattle.sb_handlers.specs.declared.vain_offers.Standing.{Standing}
use Rattle.sb_handlers.specs.declared.vain_offers.Offer.{Offer}

-- the greatest number that a version can be
abbrev pub most : ℕ
most = 2 ^ 64 - 1

abbrev pub one_more : ℕ → ℕ
one_more n = if nat_lt n most then n + 1 else n

-- where a sender starts whose table has no floor, and where one starts whose floor is above that
abbrev pub standing_in : Digest → List ℕ → Standing
standing_in digest owner =
    let held = number_in digest owner 0 most in
    record { held = held; progress = number_in digest owner (one_more held) most; floor = floor_in digest owner (one_more held) most }

abbrev pub stands_so : Standing → Standing → Bool
stands_so a b = nat_eq a.held b.held && nat_eq a.progress b.progress && nat_eq a.floor b.floor

-- the sender of the digest holds the owner no further than when this was offered
abbrev pub is_in_vain : Digest → Offer → Bool
is_in_vain digest offer = covers digest offer.owner && stands_so (standing_in digest offer.owner) offer.standing

-- or it may, since the digest does not cover the owner
abbrev pub is_open : Digest → Offer → Bool
is_open digest offer = not (covers digest offer.owner) || stands_so (standing_in digest offer.owner) offer.standing

-- something was offered in vain that was not deferred since
abbrev pub is_any_new : List Offer → Digest → Bool
is_any_new offers digest = list_any (λ o. not o.was_deferred && is_in_vain digest o) offers

-- the owners that were offered in vain more often than so many times
abbrev pub owners_above : List Offer → Digest → ℕ → List (List ℕ)
owners_above offers digest times = map (λ o. o.owner) (filter (λ o. nat_lt times o.times && is_in_vain digest o) offers)

-- how often that one was offered in vain that was offered least often
abbrev pub least_from : ℕ → List Offer → Digest → ℕ
least_from least [] digest = least
least_from least (o ∷ os) digest = least_from (if nat_lt o.times least && is_in_vain digest o then o.times else least) os digest

abbrev pub least_times : List Offer → Digest → ℕ
least_times offers digest = least_from most offers digest

abbrev pub is_among : List (List ℕ) → List ℕ → Bool
is_among owners owner = list_any (λ among. pointwise nat_eq among owner) owners

-- the pairs of all others, and of these owners those that are held as far as can be
abbrev pub pairs_with_held : List (List ℕ) → List Pair → List Pair
pairs_with_held owners pairs = filter (λ p. not (is_among owners p.owner)) pairs ++ map (λ owner. plain_pair owner most) owners

-- the same digest, but these owners are held as far as can be
pub record IsWithHeld (owners : List (List ℕ)) (digest copy : Digest) : Type 0 where
  pub want : copy.want ≡ digest.want
  pub from : copy.from ≡ digest.from
  pub until : copy.until ≡ digest.until
  pub pairs : IsPermutation (pairs_with_held owners digest.pairs) copy.pairs

abbrev pub IsDeferral : List Offer → Digest → ℕ → Digest → Type 0
IsDeferral offers digest times copy = IsWithHeld (owners_above offers digest times) digest copy

-- how often a block of the owner was offered before
abbrev pub times_before : List Offer → List ℕ → ℕ
times_before [] owner = 0
times_before (o ∷ os) owner = if pointwise nat_eq o.owner owner then o.times else times_before os owner

abbrev pub has_block : List Block → List ℕ → Bool
has_block blocks owner = list_any (λ b. pointwise nat_eq b.owner owner) blocks

abbrev pub offer_after : List Offer → Digest → Block → Offer
offer_after offers digest b =
    record { owner = b.owner; standing = standing_in digest b.owner; times = one_more (times_before offers b.owner); was_deferred = false }

-- the offer after an answer to the digest without a block of the owner
abbrev pub deferred : Digest → Offer → Offer
deferred digest o = record { owner = o.owner; standing = o.standing; times = o.times; was_deferred = o.was_deferred || covers digest o.owner }

-- the open offers after blocks were offered in answer to the digest
abbrev pub offers_after : List Offer → Digest → List Block → List Offer
offers_after offers digest blocks = map (deferred digest) (filter (λ o. not (has_block blocks o.owner)) offers) ++ map (offer_after offers digest) blocks

abbrev pub open_offers : Digest → List Offer → List Offer
open_offers digest offers = filter (is_open digest) offers

-- so it is noted of all that is open, or all is forgotten
abbrev pub IsNoted : List Offer → Digest → List Block → List Offer → Type 0
IsNoted offers digest blocks new = (new ≡ offers_after (open_offers digest offers) digest blocks) ⊎ (new ≡ [])

-- an answer is noted, and nothing else is
abbrev pub Notes : List Offer → Act → List Offer → Type 0
Notes old (tells from want answer) new = new ≡ old
Notes old (gives digest (Ok blocks)) new = IsNoted old digest blocks new
Notes old (gives digest (Err fault)) new = new ≡ old
Notes old (applies blocks answer) new = new ≡ old

-- the delta, if it has a block
abbrev pub unless_empty : List Block → Option (List Block)
unless_empty [] = None
unless_empty (b ∷ bs) = Some (b ∷ bs)

-- the handler within answers a digest in which those are held that were offered in vain more often than so many times; or there is no such digest
abbrev pub Tries : {H : Type 0} → (H → Act → H → Type 0) → List Offer → Digest → ℕ → H → Result (Option (List Block)) Fault → H → Type 0
Tries step offers digest times old (Ok (Some [])) new = ⊥
Tries step offers digest times old (Ok (Some (b ∷ bs))) new = (copy : Digest) × IsDeferral offers digest times copy × step old (gives copy (Ok (b ∷ bs))) new
Tries step offers digest times old (Ok None) new = (new ≡ old) ⊎ ((copy : Digest) × IsDeferral offers digest times copy × step old (gives copy (Ok [])) new)
Tries step offers digest times old (Err fault) new = (copy : Digest) × IsDeferral offers digest times copy × step old (gives copy (Err fault)) new

-- the answer that such a try gave
abbrev pub tried : Result (List Block) Fault → Result (Option (List Block)) Fault
tried (Ok blocks) = Ok (Some blocks)
tried (Err fault) = Err fault

-- it is what a try gave; or that gave nothing, and it is what comes next
abbrev pub TriesOr : {H : Type 0} → (H → Act → H → Type 0) → List Offer → Digest → ℕ → (H → Result (List Block) Fault → H → Type 0) → H → Result (List Block) Fault → H → Type 0
TriesOr {H} step offers digest times next old answer new =
    Tries step offers digest times old (tried answer) new ⊎ ((mid : H) × Tries step offers digest times old (Ok None) mid × next mid answer new)

-- the handler within answers the digest itself
abbrev pub Gives : {H : Type 0} → (H → Act → H → Type 0) → Digest → H → Result (List Block) Fault → H → Type 0
Gives step digest old answer new = step old (gives digest answer) new

-- all that was offered in vain is deferred, if something of it was not deferred since; else, or if nothing is left then, all but what was offered
-- least often; and if nothing is left then, nothing is deferred
abbrev pub Defers : {H : Type 0} → List Offer → (H → Act → H → Type 0) → Digest → H → Result (List Block) Fault → H → Type 0
Defers offers step digest old answer new =
    MatchBool (is_any_new offers digest)
    (TriesOr step offers digest 0 (TriesOr step offers digest (least_times offers digest) (Gives step digest)) old answer new)
    (TriesOr step offers digest (least_times offers digest) (Gives step digest) old answer new)

-- a step of the handler within; a digest is answered by one or a few of them
abbrev pub DeferringStep : {H : Type 0} → List Offer → (H → Act → H → Type 0) → H → Act → H → Type 0
DeferringStep offers step old (tells from want answer) new = step old (tells from want answer) new
DeferringStep offers step old (gives digest answer) new = Defers offers step digest old answer new
DeferringStep offers step old (applies blocks answer) new = step old (applies blocks answer) new

match-keep : {A B P : Type 0} (b : Bool) → (A → P) → (B → P) → MatchBool b A B → P
match-keep true by_a by_b a = by_a a
match-keep false by_a by_b b = by_b b

module _ {H : Type 0} (offers : List Offer) (step : H → Act → H → Type 0) (keeps : H → H → Type 0)
    (still : (state : H) → keeps state state) (on : (old mid new : H) → keeps old mid → keeps mid new → keeps old new)
    (each : (old new : H) (digest : Digest) (answer : Result (List Block) Fault) → step old (gives digest answer) new → keeps old new)
    (digest : Digest) where
  -- what holds of each answer of the handler within, of none, and of several holds of a try,
  tries-keep : (times : ℕ) (old new : H) (answer : Result (Option (List Block)) Fault) → Tries step offers digest times old answer new → keeps old new
  tries-keep times old new (Ok (Some [])) took = absurd took
  tries-keep times old new (Ok (Some (b ∷ bs))) took = each old new took.0 (Ok (b ∷ bs)) took.2
  tries-keep times old new (Ok None) took = ⊎_elim (λ same. subst (keeps old) (sym same) (still old)) (λ asked. each old new asked.0 (Ok []) asked.2) took
  tries-keep times old new (Err fault) took = each old new took.0 (Err fault) took.2

  -- of one with what comes next,
  tries-or-keep : (times : ℕ) (next : H → Result (List Block) Fault → H → Type 0)
      → ((old new : H) (answer : Result (List Block) Fault) → next old answer new → keeps old new)
      → (old new : H) (answer : Result (List Block) Fault) → TriesOr step offers digest times next old answer new → keeps old new
  tries-or-keep times next next_keeps old new answer took =
      ⊎_elim (tries-keep times old new (tried answer))
      (λ nothing. on old nothing.0 new (tries-keep times old nothing.0 (Ok None) nothing.1) (next_keeps nothing.0 new answer nothing.2)) took

  -- and of the answer
  defers-keep : (old new : H) (answer : Result (List Block) Fault) → Defers offers step digest old answer new → keeps old new
  defers-keep old new answer took =
      let least = least_times offers digest in
      let later = tries-or-keep least (Gives step digest) (λ a b r s. each a b digest r s) in
      match-keep (is_any_new offers digest) (tries-or-keep 0 (TriesOr step offers digest least (Gives step digest)) later old new answer)
      (later old new answer) took

-- only a delta that was applied enters anything
pub deferring-nothing : {H : Type 0} (offers : List Offer) (step : H → Act → H → Type 0) (stays : H → H → Type 0)
    → ((old new : H) (act : Act) → may_enter act ≡ false → step old act new → stays old new)
    → ((state : H) → stays state state) → ((old mid new : H) → stays old mid → stays mid new → stays old new)
    → (old new : H) (act : Act) → may_enter act ≡ false → DeferringStep offers step old act new → stays old new
deferring-nothing offers step stays enters still on old new (tells from want answer) none took = enters old new (tells from want answer) none took
deferring-nothing offers step stays enters still on old new (gives digest answer) none took =
    defers-keep offers step stays still on (λ a b d r s. enters a b (gives d r) refl s) digest old new answer took
deferring-nothing offers step stays enters still on old new (applies blocks answer) none took = enters old new (applies blocks answer) none took

-- and what stays true over each call of the handler within stays true
pub deferring-later : {H : Type 0} (offers : List Offer) (step : H → Act → H → Type 0) (grows : H → H → Type 0)
    → ((old new : H) (act : Act) → step old act new → grows old new)
    → ((state : H) → grows state state) → ((old mid new : H) → grows old mid → grows mid new → grows old new)
    → (old new : H) (act : Act) → DeferringStep offers step old act new → grows old new
deferring-later offers step grows later still on old new (tells from want answer) took = later old new (tells from want answer) took
deferring-later offers step grows later still on old new (gives digest answer) took =
    defers-keep offers step grows still on (λ a b d r s. later a b (gives d r) s) digest old new answer took
deferring-later offers step grows later still on old new (applies blocks answer) took = later old new (applies blocks answer) took
