-- Where the node of a name is found.
use Rattle.std.proofs.Common.{◌≡◌, ℕ, zero, suc, Bool, true, false, not, nat_eq, List, [], ◌∷◌, ◌++◌, take, slice_get, Option, Some, None, Result, Ok, refl, sym, ap, subst, ◌∙◌}
use Rattle.std.specs.Prelude.{unwrap_or, slice_set, remove, option_and_then}
use Rattle.std.specs.List.{list_all}
use Rattle.std.specs.Cmp.Lexicographic.{pointwise}
use Rattle.std.proofs.lemmas.Bool.{and_parts, true≢false}
use Rattle.sb_types.specs.declared.fault.Fault.{Fault}
use Rattle.sb_world.specs.declared.event.Event.{Event}
use Rattle.sb_world.specs.declared.event.Answer.{Answer}
use Rattle.sb_world.specs.declared.event.Answer.TheVariants as answers
use Rattle.sb_world.specs.Connections.{Connection, connection_at, with_connection, without_connection}
use Rattle.sb_world.specs.Places.{Place, Seen, place_at, with_place}
use Rattle.sb_world.specs.Turns.{Effect, rests}
use Rattle.sb_world.specs.Events.{node_of, place_for, Does}
use Rattle.sb_world.proofs.Names.{found_me}
use Rattle.sb_world.specs.Steps.{StepAt, Step}

abbrev pub is_other : List ℕ → Place → Bool
is_other name p = not (pointwise nat_eq p.me name)

not_true : (b : Bool) → not b ≡ true → b ≡ false
not_true true e = absurd (true≢false (sym e))
not_true false e = refl

-- among nodes of other names there is none
pub none_there : (ps : List Place) (name : List ℕ) → list_all (is_other name) ps ≡ true → place_at ps name ≡ None
none_there [] name others = refl
none_there (p ∷ ps) name others =
    let parts = and_parts (is_other name p) (list_all (is_other name) ps) others in
    rw (not_true (pointwise nat_eq p.me name) parts.0) (none_there ps name parts.1)

module _ (name : List ℕ) (x : Place) (named : pointwise nat_eq x.me name ≡ true) where
  -- behind nodes of other names it is the one, and another takes its place there
  pub found_there : (ps : List Place) (i : ℕ) → list_all (is_other name) (take i ps) ≡ true → slice_get ps i ≡ Some x → place_at ps name ≡ slice_get ps i
  found_there [] i others at_i = absurd (cc)
  found_there (p ∷ ps) zero others at_i =
      let same : p ≡ x = ap (λ o. unwrap_or o p) at_i in
      rw (ap (λ (q : Place). pointwise nat_eq q.me name) same ∙ named) refl
  found_there (p ∷ ps) (suc i) others at_i =
      let parts = and_parts (is_other name p) (list_all (is_other name) (take i ps)) others in
      rw (not_true (pointwise nat_eq p.me name) parts.0) (found_there ps i parts.1 at_i)

  pub put_there : (ps : List Place) (i : ℕ) → list_all (is_other name) (take i ps) ≡ true → slice_get ps i ≡ Some x → (q : Place) → with_place ps name q ≡ slice_set ps i q
  put_there [] i others at_i q = absurd (cc)
  put_there (p ∷ ps) zero others at_i q =
      let same : p ≡ x = ap (λ o. unwrap_or o p) at_i in
      rw (ap (λ (r : Place). pointwise nat_eq r.me name) same ∙ named) refl
  put_there (p ∷ ps) (suc i) others at_i q =
      let parts = and_parts (is_other name p) (list_all (is_other name) (take i ps)) others in
      rw (not_true (pointwise nat_eq p.me name) parts.0) (ap (λ rest. p ∷ rest) (put_there ps i parts.1 at_i q))

-- an event whose node is not there
pub no_node : (old : Seen) (event : Event) (answer : Result Answer Fault) → node_of old.connections event ≡ None → answer ≡ Ok answers.Nothing → Step old event answer rests old
no_node old event answer none is =
    subst (λ (o : Option Place). StepAt o old event answer rests old) (sym (ap (option_and_then (place_at old.places)) none)) (is, refl, refl)

pub no_place : (old : Seen) (event : Event) (answer : Result Answer Fault) (name : List ℕ) → node_of old.connections event ≡ Some name → place_at old.places name ≡ None → answer ≡ Ok answers.Nothing → Step old event answer rests old
no_place old event answer name named none is =
    subst (λ (o : Option Place). StepAt o old event answer rests old) (sym (ap (option_and_then (place_at old.places)) named ∙ none)) (is, refl, refl)

-- a step at the node that was found, and changed where it stands
pub stepped : (old : Seen) (event : Event) (answer : Result Answer Fault) (effect : Effect) (name : List ℕ) (p q : Place) (i : ℕ) (conns : List Connection) (frames sent : List (List ℕ)) →
    node_of old.connections event ≡ Some name → place_at old.places name ≡ slice_get old.places i → slice_get old.places i ≡ Some p → with_place old.places name q ≡ slice_set old.places i q →
    Does event p old.connections old.sent (record { answer = answer; effect = effect; place = q; frames = frames }) conns → sent ≡ old.sent ++ frames →
    Step old event answer effect (record { settings = old.settings; places = slice_set old.places i q; connections = conns; sent = sent })
stepped old event answer effect name p q i conns frames sent named found there put does more =
    let at_name : place_for old event ≡ Some p = ap (option_and_then (place_at old.places)) named ∙ found ∙ there in
    let me : name ≡ p.me = sym (found_me old.places name p (found ∙ there)) in
    let places : slice_set old.places i q ≡ with_place old.places p.me q = sym put ∙ ap (λ n. with_place old.places n q) me in
    subst (λ (o : Option Place). StepAt o old event answer effect (record { settings = old.settings; places = slice_set old.places i q; connections = conns; sent = sent })) (sym at_name)
    (q, conns, frames, does, λ k. record { settings = old.settings; places = places k; connections = conns; sent = more k })

-- ---- connections

abbrev pub is_another : ℕ → Connection → Bool
is_another number c = not (nat_eq c.number number)

pub none_connected : (cs : List Connection) (number : ℕ) → list_all (is_another number) cs ≡ true → connection_at cs number ≡ None
none_connected [] number others = refl
none_connected (c ∷ cs) number others =
    let parts = and_parts (is_another number c) (list_all (is_another number) cs) others in
    rw (not_true (nat_eq c.number number) parts.0) (none_connected cs number parts.1)

module _ (number : ℕ) (x : Connection) (numbered : nat_eq x.number number ≡ true) where
  pub connected_there : (cs : List Connection) (i : ℕ) → list_all (is_another number) (take i cs) ≡ true → slice_get cs i ≡ Some x → connection_at cs number ≡ slice_get cs i
  connected_there [] i others at_i = absurd (cc)
  connected_there (c ∷ cs) zero others at_i =
      let same : c ≡ x = ap (λ o. unwrap_or o c) at_i in
      rw (ap (λ (d : Connection). nat_eq d.number number) same ∙ numbered) refl
  connected_there (c ∷ cs) (suc i) others at_i =
      let parts = and_parts (is_another number c) (list_all (is_another number) (take i cs)) others in
      rw (not_true (nat_eq c.number number) parts.0) (connected_there cs i parts.1 at_i)

  pub changed_there : (cs : List Connection) (i : ℕ) → list_all (is_another number) (take i cs) ≡ true → slice_get cs i ≡ Some x → (d : Connection) → with_connection cs number d ≡ slice_set cs i d
  changed_there [] i others at_i d = absurd (cc)
  changed_there (c ∷ cs) zero others at_i d =
      let same : c ≡ x = ap (λ o. unwrap_or o c) at_i in
      rw (ap (λ (e : Connection). nat_eq e.number number) same ∙ numbered) refl
  changed_there (c ∷ cs) (suc i) others at_i d =
      let parts = and_parts (is_another number c) (list_all (is_another number) (take i cs)) others in
      rw (not_true (nat_eq c.number number) parts.0) (ap (λ rest. c ∷ rest) (changed_there cs i parts.1 at_i d))

  pub gone_there : (cs : List Connection) (i : ℕ) → list_all (is_another number) (take i cs) ≡ true → slice_get cs i ≡ Some x → without_connection cs number ≡ remove cs i
  gone_there [] i others at_i = absurd (cc)
  gone_there (c ∷ cs) zero others at_i =
      let same : c ≡ x = ap (λ o. unwrap_or o c) at_i in
      rw (ap (λ (e : Connection). nat_eq e.number number) same ∙ numbered) refl
  gone_there (c ∷ cs) (suc i) others at_i =
      let parts = and_parts (is_another number c) (list_all (is_another number) (take i cs)) others in
      rw (not_true (nat_eq c.number number) parts.0) (ap (λ rest. c ∷ rest) (gone_there cs i parts.1 at_i))
