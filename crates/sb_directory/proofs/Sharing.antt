-- Seats that get their parts of a ledger, and give them back.
use Rattle.std.proofs.Common.{◌≡◌, ℕ, zero, suc, ◌+◌, List, [], ◌∷◌, ◌++◌, length, map, replicate, refl, sym, ap, subst, ◌∙◌, arith, append_assoc, append-nil}
use Rattle.sb_views.specs.declared.event.Event.{Event}
use Rattle.sb_directory.specs.Seats.{Seat, Begins, new_seat, events_of_all, AllBegin}

-- ---- giving: so many parts and so much of the amount are left, and these seats and readers

pub record IsSeating (all : List (List Event)) (parts : ℕ) (left amount : ℕ) (seats : List Seat) (rest : List (List Event)) : Type 0 where
  pub seated : seats ++ map new_seat rest ≡ map new_seat all
  pub divided : left + length all ≡ parts + length rest
  pub nothing : amount ≡ 0

pub seating_goes_on : (all : List (List Event)) (parts left amount : ℕ) (seats : List Seat) (seen : List Event) (rest : List (List Event)) (fewer : ℕ) (less : ℕ) (new : List Seat)
    → IsSeating all parts left amount seats (seen ∷ rest) → fewer + 1 ≡ left → less + 0 ≡ amount → new ≡ seats ++ new_seat seen ∷ [] → IsSeating all parts fewer less new rest
seating_goes_on all parts left amount seats seen rest fewer less new is one none step = record {
  seated = ap (λ (s : List Seat). s ++ map new_seat rest) step ∙ append_assoc seats (new_seat seen ∷ []) (map new_seat rest) ∙ is.seated;
  divided = omega (arith, is.divided, one);
  nothing = omega (arith, is.nothing, none);
}

pub seating_ends : (all : List (List Event)) (parts left amount : ℕ) (seats : List Seat) (rest : List (List Event)) → IsSeating all parts left amount seats rest → rest ≡ [] → seats ≡ map new_seat all
seating_ends all parts left amount seats rest is done = sym (append-nil seats) ∙ sym (ap (λ (r : List (List Event)). seats ++ map new_seat r) done) ∙ is.seated

-- readers that have seen nothing get new seats
pub all-new : (n : ℕ) → map new_seat (replicate n []) ≡ replicate n (new_seat [])
all-new zero = refl
all-new (suc n) = ap (λ (seats : List Seat). new_seat [] ∷ seats) (all-new n)

-- ---- joining: so many parts and events are joined, and these seats are to come

pub record IsJoining (history : List Event) (all : List Seat) (parts amount : ℕ) (rest : List Seat) : Type 0 where
  pub joined : parts + length rest ≡ length all
  pub added : amount + events_of_all rest ≡ events_of_all all
  pub begin : AllBegin history rest → AllBegin history all

pub joining_goes_on : (history : List Event) (all : List Seat) (parts amount : ℕ) (seat : Seat) (rest : List Seat) (more sum : ℕ)
    → IsJoining history all parts amount (seat ∷ rest) → Begins history seat → more ≡ parts + 1 → sum ≡ amount + seat.events → IsJoining history all more sum rest
joining_goes_on history all parts amount seat rest more sum is begins one counted = record {
  joined = omega (arith, is.joined, one);
  added = omega (arith, is.added, counted);
  begin = λ others. is.begin (begins, others);
}

pub joining_ends : (history : List Event) (all : List Seat) (parts amount : ℕ) (rest : List Seat) → IsJoining history all parts amount rest → rest ≡ [] → AllBegin history all
joining_ends history all parts amount rest is done = is.begin (subst (AllBegin history) (sym done) tt)
