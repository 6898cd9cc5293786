-- What a node keeps of the offers to each asker.
use Rattle.std.proofs.Common.{◌≡◌, ◌⊎◌, ℕ, ◌-◌, ◌≤◌, Bool, false, List, [], ◌∷◌, take, length, nat_eq, nat_le, if◌then◌else◌, Option, Some, None}
use Rattle.std.specs.Prelude.{position, remove, sum_by, vec_len, slice_index_or}
use Rattle.std.specs.Cmp.Lexicographic.{pointwise}
use Rattle.sb_types.specs.declared.limits.TheConstants.{OWNERS_MOST}
use Rattle.sb_handlers.specs.declared.vain_offers.TheConstants.{OFFERS_MOST}
use Rattle.sb_handlers.specs.declared.vain_offers.Asker.{Asker}
use Rattle.sb_handlers.specs.declared.vain_offers.Asker.TheVariants.{Dialed, Named}
use Rattle.sb_handlers.specs.declared.vain_offers.AskerOffers.{AskerOffers}
use Rattle.sb_handlers.specs.declared.vain_offers.PeerOffers.{PeerOffers}

abbrev pub is_same : Asker → Asker → Bool
is_same (Dialed i) (Dialed j) = nat_eq i j
is_same (Named n) (Named m) = pointwise nat_eq n m
is_same (Dialed i) (Named m) = false
is_same (Named n) (Dialed j) = false

-- how much the asker was offered
abbrev pub offer_count : AskerOffers → ℕ
offer_count a = vec_len a.offers.all

-- the longest run from the first asker on of no more offers than so many
abbrev pub fitting : ℕ → List AskerOffers → List AskerOffers
fitting room [] = []
fitting room (a ∷ os) = if nat_le (offer_count a) room then a ∷ fitting (room - offer_count a) os else []

-- no more of the first askers than a node keeps
abbrev pub youngest : List AskerOffers → List AskerOffers
youngest kept = fitting OFFERS_MOST (take OWNERS_MOST kept)

-- a node keeps so many askers at most, and so many offers in all
abbrev pub AreFew : List AskerOffers → Type 0
AreFew kept = (length kept ≤ OWNERS_MOST) × (sum_by offer_count kept ≤ OFFERS_MOST)

abbrev pub place_of : List AskerOffers → Asker → Option ℕ
place_of kept asker = position (λ a. is_same a.asker asker) kept

abbrev pub without_place : List AskerOffers → Option ℕ → List AskerOffers
without_place kept None = kept
without_place kept (Some place) = remove kept place

-- what is kept of all others
abbrev pub without : List AskerOffers → Asker → List AskerOffers
without kept asker = without_place kept (place_of kept asker)

-- it is what is kept of the asker, if anything is
abbrev pub IsTaken : List AskerOffers → Asker → Option PeerOffers → Type 0
IsTaken kept asker None = place_of kept asker ≡ None
IsTaken kept asker (Some offers) =
    (place : ℕ) × (one : AskerOffers) × (place_of kept asker ≡ Some place) × (slice_index_or kept place one ≡ one) × (one.offers ≡ offers)

-- it comes first, before what is kept of others; or it is forgotten
abbrev pub IsKept : List AskerOffers → Asker → PeerOffers → List AskerOffers → Type 0
IsKept old asker offers new = (new ≡ youngest (record { asker = asker; offers = offers } ∷ without old asker)) ⊎ (new ≡ without old asker)
