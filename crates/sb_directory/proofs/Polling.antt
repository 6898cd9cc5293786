-- What a watch answers, where one stands and where none does.
use Rattle.std.proofs.Common.{◌≡◌, ◌≢◌, ℕ, Bool, true, false, cond, ◌||◌, List, [], ◌∷◌, find, Option, Some, None, is_some, Result, Ok, Err, IfErr, OnErr, refl, sym, subst, ◌∙◌}
use Rattle.std.proofs.lemmas.Bool.{false≢true}
use Rattle.std.specs.List.{list_any}
use Rattle.sb_types.specs.declared.fault.Fault.{Fault}
use Rattle.sb_types.specs.declared.fault.Fault.TheVariants.{NoMemory, NoWatch}
use Rattle.sb_types.specs.Faults.{Gives}
use Rattle.sb_watch.specs.declared.note.Polled.{Polled}
use Rattle.sb_watch.specs.Records.{Watch, Hub}
use Rattle.sb_watch.specs.Hubs.{is_id, has_watch, watch_at, answer_if_found, answer_at}

some-or : (b : Bool) (w : Watch) (found : Option Watch) (any : Bool) → is_some found ≡ any → is_some (cond b (Some w) found) ≡ (b || any)
some-or true w found any same = refl
some-or false w found any same = same

found-any : (p : Watch → Bool) (ws : List Watch) → is_some (find p ws) ≡ list_any p ws
found-any p [] = refl
found-any p (w ∷ ws) = some-or (p w) w (find p ws) (list_any p ws) (found-any p ws)

none-case : (found : Option Watch) → is_some found ≡ false → answer_if_found found ≡ Err NoWatch
none-case None e = refl
none-case (Some w) e = absurd (false≢true (sym e))

some-case : (found : Option Watch) → is_some found ≡ true → IfErr (answer_if_found found) (λ fault. ⊥)
some-case None e = absurd (false≢true e)
some-case (Some w) e = tt

pub answer-none : (hub : Hub) (id : ℕ) → has_watch hub id ≡ false → answer_at hub id ≡ Err NoWatch
answer-none hub id none = none-case (watch_at hub id) (found-any (is_id id) hub.watches ∙ none)

pub answer-some : (hub : Hub) (id : ℕ) → has_watch hub id ≡ true → IfErr (answer_at hub id) (λ fault. ⊥)
answer-some hub id some = some-case (watch_at hub id) (found-any (is_id id) hub.watches ∙ some)

pub no-fault : (answer : Result Polled Fault) (P : Fault → Type 0) → IfErr answer (λ fault. ⊥) → IfErr answer P
no-fault (Ok polled) P none = tt
no-fault (Err fault) P none = absurd none

pub not-refused : (answer : Result Polled Fault) (P : Type 0) → IfErr answer (λ fault. ⊥) → OnErr answer P
not-refused (Ok polled) P none = tt
not-refused (Err fault) P none = absurd none

pub gives-itself : (answer : Result Polled Fault) → Gives answer answer
gives-itself (Ok polled) = refl
gives-itself (Err fault) = λ other. refl

-- where a watch stands the answer is never that none does
pub stands : (hub : Hub) (id : ℕ) (answer : Result Polled Fault) (P : Type 0) → has_watch hub id ≡ true → Gives answer (answer_at hub id) → answer ≡ Err NoWatch → P
stands hub id answer P some gives none =
    let given : NoWatch ≢ NoMemory → answer_at hub id ≡ Err NoWatch = subst (λ (r : Result Polled Fault). Gives r (answer_at hub id)) none gives in
    let is : answer_at hub id ≡ Err NoWatch = given (λ same. absurd cc) in
    absurd (subst (λ (r : Result Polled Fault). IfErr r (λ other. ⊥)) is (answer-some hub id some))
