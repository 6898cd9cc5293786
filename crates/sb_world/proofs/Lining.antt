-- Nodes that are made of logs, one after the other.
use Rattle.std.proofs.Common.{◌≡◌, ℕ, zero, suc, ◌<◌, true, List, [], ◌∷◌, ◌++◌, get_or, take, length, map, Option, Some, None, Ok, Err, inl, inr, ⊎_elim, refl, sym, ap, subst, arith}
use Rattle.std.proofs.lemmas.Bool.{cases_Bool}
use Rattle.sb_types.specs.declared.fault.Fault.{Fault}
use Rattle.sb_types.specs.Runs.{Stands}
use Rattle.sb_types.specs.declared.fault.Fault.TheVariants.{Closed}
use Rattle.sb_types.specs.Records.{Table}
use Rattle.sb_log.specs.Records.{Log}
use Rattle.sb_log.specs.Puts.{Loads}
use Rattle.sb_world.specs.Places.{Place}
use Rattle.sb_world.specs.Making.{IsNodeOf, HaveNodes, AreSureLogs, IsOpeningFault, IsFirstFault}

pub map_more : {X Y : Type 0} (f : X → Y) (xs : List X) (x : X) → map f (xs ++ x ∷ []) ≡ map f xs ++ f x ∷ []
map_more f [] x = refl
map_more f (y ∷ ys) x = ap (λ rest. f y ∷ rest) (map_more f ys x)

pub map_same : {X : Type 0} (xs : List X) → map (λ x. x) xs ≡ xs
map_same [] = refl
map_same (x ∷ xs) = ap (λ rest. x ∷ rest) (map_same xs)

stands_before : {X : Type 0} (xs : List X) (x e : X) → Stands xs e → Stands (xs ++ x ∷ []) e
stands_before [] x e stands = absurd stands
stands_before (y ∷ ys) x e stands = ⊎_elim (λ same. inl same) (λ s. inr (stands_before ys x e s)) stands

stands_last : {X : Type 0} (xs : List X) (x : X) → Stands (xs ++ x ∷ []) x
stands_last [] x = inl refl
stands_last (y ∷ ys) x = inr (stands_last ys x)

-- what holds of each before the last, and of the last, holds of each
pub before_or_last : {X : Type 0} (P : X → Type 0) (xs : List X) (x : X) → ((e : X) → Stands xs e → P e) → P x → (e : X) → Stands (xs ++ x ∷ []) e → P e
before_or_last P [] x each here e stands = ⊎_elim (λ same. subst P same here) (λ s. absurd s) stands
before_or_last P (y ∷ ys) x each here e stands =
    ⊎_elim (λ same. subst P same (each y (inl refl))) (λ s. before_or_last P ys x (λ q t. each q (inr t)) here e s) stands

-- each of the logs has its node, and so has the next
pub nodes_more : {X : Type 0} (f : X → Log) (xs : List X) (x : X) (places : List Place) (p : Place) →
    HaveNodes (map f xs) places → IsNodeOf (f x) p → HaveNodes (map f (xs ++ x ∷ [])) (places ++ p ∷ [])
nodes_more f [] x [] p have is = (is, tt)
nodes_more f [] x (q ∷ places) p have is = absurd have
nodes_more f (y ∷ ys) x [] p have is = absurd have
nodes_more f (y ∷ ys) x (q ∷ places) p have is = (have.0, nodes_more f ys x places p have.1 is)

-- of sure logs those before the next are sure, and so is the next
pub sure_before : {X : Type 0} (f : X → Log) (xs : List X) (x : X) → AreSureLogs (map f (xs ++ x ∷ [])) → AreSureLogs (map f xs)
sure_before f xs x all = λ log stands. all log (subst (λ logs. Stands logs log) (sym (map_more f xs x)) (stands_before (map f xs) (f x) log stands))

pub last_of_them : {X : Type 0} (f : X → Log) (xs : List X) (x : X) → Stands (map f (xs ++ x ∷ [])) (f x)
last_of_them f xs x = subst (λ logs. Stands logs (f x)) (sym (map_more f xs x)) (stands_last (map f xs) (f x))

-- where no fault is given there is none
pub none_given : (o : Option Fault) → ((fault : Fault) → o ≡ Some fault → ⊥) → o ≡ None
none_given None none = refl
none_given (Some fault) none = absurd (none fault refl)

-- a log that was read stood
pub read_stood : (log : Log) (table : Table) (new : Log) → Loads log (Ok table) new → log.is_open ≡ true
read_stood log table new loads = ⊎_elim (λ e. e) (λ e. absurd (let shut : Ok table ≡ Err Closed = loads.closed.1 e in cc)) (cases_Bool log.is_open)

-- where those before it stood, the fault of a log is that of the first with one
pub first_fault : {X : Type 0} (f : X → Log) (xs : List X) (n : ℕ) (x : X) (fault : Fault) → n < length xs → x ≡ get_or xs n x →
    ((log : Log) → Stands (map f (take n xs)) log → log.is_open ≡ true) → IsOpeningFault (f x) fault → IsFirstFault (map f xs) fault
first_fault f [] n x fault few is before here = absurd (omega (arith, few))
first_fault f (y ∷ ys) zero x fault few is before here = inl (subst (λ z. IsOpeningFault (f z) fault) is here)
first_fault f (y ∷ ys) (suc n) x fault few is before here =
    inr (before (f y) (inl refl), first_fault f ys n x fault (omega (arith, few)) is (λ log stands. before log (inr stands)) here)
