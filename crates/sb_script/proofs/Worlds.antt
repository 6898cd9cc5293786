-- A world of empty logs.
use Rattle.std.proofs.Common.{◌≡◌, ℕ, Bool, true, false, cond, nat_eq, nat_lt, ◌||◌, List, [], ◌∷◌, length, map, Some, None, Result, Ok, Err, IfSome, IfOk, IfErr, inl, inr, ⊎_elim, refl, sym, ap, subst, ◌∙◌}
use Rattle.std.specs.Cmp.Lexicographic.{pointwise}
use Rattle.std.proofs.lemmas.Bool.{true≢false}
use Rattle.sb_types.specs.declared.fault.Fault.{Fault}
use Rattle.sb_types.specs.declared.fault.Fault.TheVariants.{NoMemory, BadSetting, SameName, WrongCluster}
use Rattle.sb_types.specs.declared.limits.TheConstants.{OWNERS_MOST}
use Rattle.sb_types.specs.Records.{Settings}
use Rattle.sb_types.proofs.Texts.{text_same}
use Rattle.sb_log.specs.Records.{Log}
use Rattle.sb_world.specs.Places.{Place, Seen, place_at}
use Rattle.sb_world.specs.Making.{has_twins, are_of, refusal, IsFirstFault, IsMakingFault, IsNew, IsNodeOf, HaveNodes, IsMade}
use Rattle.sb_script.specs.declared.making.WorldLine.{WorldLine}
use Rattle.sb_script.specs.Faults.{is_world_fault}
use Rattle.sb_script.specs.Making.{settings_of, names_in, empty_log, IsWorldOf}

module _ (settings : Settings) where
  abbrev empty : List ℕ → Log
  empty name = empty_log settings name

  owners_are : (names : List (List ℕ)) → map (λ (log : Log). log.owner) (map empty names) ≡ names
  owners_are [] = refl
  owners_are (name ∷ names) = ap (λ rest. name ∷ rest) (owners_are names)

  -- ---- the nodes

  node_empty : (name : List ℕ) (p : Place) → IsNodeOf (empty name) p → IsNew settings p → p.log ≡ empty p.me
  node_empty name p is new =
      let sure = is.stays.sure (refl, refl) in
      λ i. record {
        owner = new.owner i;
        cluster = is.stays.cluster i;
        most = is.stays.most i;
        content = is.content sure.1 i;
        is_open = new.is_open i;
        is_clean = sure.1 i;
        is_sure = sure.0 i;
      }

  found_step : (n : List ℕ) (p : Place) (places : List Place) (name : List ℕ) → IsNodeOf (empty n) p →
      (IfSome (place_at places name) (IsNew settings) → IfSome (place_at places name) (λ q. q.log ≡ empty q.me)) → (b : Bool) →
      IfSome (cond b (Some p) (place_at places name)) (IsNew settings) → IfSome (cond b (Some p) (place_at places name)) (λ q. q.log ≡ empty q.me)
  found_step n p places name is rest true new = node_empty n p is new
  found_step n p places name is rest false new = rest new

  found_empty : (names : List (List ℕ)) (places : List Place) → HaveNodes (map empty names) places → (name : List ℕ) →
      IfSome (place_at places name) (IsNew settings) → IfSome (place_at places name) (λ p. p.log ≡ empty p.me)
  found_empty [] [] have name new = tt
  found_empty [] (p ∷ places) have name new = absurd have
  found_empty (n ∷ names) [] have name new = absurd have
  found_empty (n ∷ names) (p ∷ places) have name new =
      found_step n p places name have.0 (found_empty names places have.1 name) (pointwise nat_eq p.me name) new

  -- ---- the faults

  all_of : (names : List (List ℕ)) → are_of settings.cluster (map empty names) ≡ true
  all_of [] = refl
  all_of (name ∷ names) = rw (text_same settings.cluster settings.cluster refl, all_of names) refl

  first_memory : (names : List (List ℕ)) (fault : Fault) → IsFirstFault (map empty names) fault → fault ≡ NoMemory
  first_memory [] fault first = absurd first
  first_memory (name ∷ names) fault (inl (inl (new, loads))) =
      ⊎_elim (λ memory. memory) (λ closed. absurd (true≢false (loads.closed.0 (ap Err closed)))) (loads.failed.sure (refl, refl))
  first_memory (name ∷ names) fault (inl (inr (stood, memory))) = memory
  first_memory (name ∷ names) fault (inr (stood, first)) = first_memory names fault first

  by_cases : (a b c : Bool) → c ≡ true → (logs : List Log) (fault : Fault) → (IsFirstFault logs fault → fault ≡ NoMemory) →
      IsMakingFault (cond a (Some BadSetting) (cond b (Some SameName) (cond c None (Some WrongCluster)))) logs fault → is_world_fault fault ≡ true
  by_cases true b c all logs fault first why = ap is_world_fault why
  by_cases false true c all logs fault first why = ap is_world_fault why
  by_cases false false true all logs fault first why = ap is_world_fault (first why)
  by_cases false false false all logs fault first why = absurd (true≢false (sym all))

-- why no world is made of empty logs
pub world_fault : (settings : Settings) (names : List (List ℕ)) (logs : List Log) (fault : Fault) → logs ≡ map (empty_log settings) names →
    IsMakingFault (refusal settings logs) logs fault → is_world_fault fault ≡ true
world_fault settings names logs fault are why =
    let all = map (empty_log settings) names in
    by_cases settings (nat_eq (length all) 0 || nat_lt OWNERS_MOST (length all)) (has_twins all) (are_of settings.cluster all) (all_of settings names) all fault (first_memory settings names fault)
    (subst (λ (ls : List Log). IsMakingFault (refusal settings ls) ls fault) are why)

-- a world that is made of them
pub world_is : (line : WorldLine) (settings : Settings) (names : List (List ℕ)) (logs : List Log) (world : Seen) →
    settings ≡ settings_of line → names ≡ names_in line → logs ≡ map (empty_log settings) names →
    world.settings ≡ settings → map (λ (p : Place). p.me) world.places ≡ map (λ (log : Log). log.owner) logs → HaveNodes logs world.places → IsMade world →
    IsWorldOf line world
world_is line settings names logs world given named are same owners have made = record {
  settings = same ∙ given;
  names = owners ∙ ap (map (λ (log : Log). log.owner)) are ∙ owners_are settings names ∙ named;
  made = made;
  empty = subst (λ (s : Settings). (name : List ℕ) → IfSome (place_at world.places name) (λ p. p.log ≡ empty_log s p.me)) (sym same)
      (λ name. found_empty settings names world.places (subst (λ (ls : List Log). HaveNodes ls world.places) are have) name
      (subst (λ (s : Settings). IfSome (place_at world.places name) (IsNew s)) same (made.places name)));
}

-- ---- whatever comes of it

module _ (line : WorldLine) (settings : Settings) (names : List (List ℕ)) (logs : List Log) (given : settings ≡ settings_of line) (named : names ≡ names_in line) (are : logs ≡ map (empty_log settings) names) where
  pub world_made : (result : Result Seen Fault) → IfOk result (λ w. w.settings ≡ settings) → IfOk result (λ w. map (λ (p : Place). p.me) w.places ≡ map (λ (log : Log). log.owner) logs) → IfOk result (λ w. HaveNodes logs w.places) →
      IfOk result IsMade → IfOk result (IsWorldOf line)
  world_made (Ok world) same owners have made = world_is line settings names logs world given named are same owners have made
  world_made (Err fault) same owners have made = tt

  pub world_not_made : (result : Result Seen Fault) → IfErr result (λ fault. IsMakingFault (refusal settings logs) logs fault) → IfErr result (λ fault. is_world_fault fault ≡ true)
  world_not_made (Ok world) why = tt
  world_not_made (Err fault) why = world_fault settings names logs fault are why
