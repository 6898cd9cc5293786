-- A batch that is filled entry by entry, and owner by owner.
use Rattle.std.proofs.Common.{◌≡◌, ℕ, ◌≤◌, ◌<◌, nat_lt, List, [], ◌∷◌, ◌++◌, map, Some, None, Result, Ok, Err, OnOk, sym, ap, ◌∙◌, arith, append_assoc, append-nil, lt-ltb}
use Rattle.std.proofs.lemmas.Bool.{cond-true, cond-false, le-ltb}
use Rattle.std.proofs.lemmas.List.{map-append}
use Rattle.std.specs.FinMap.{get}
use Rattle.sb_types.specs.declared.fault.Fault.{Fault}
use Rattle.sb_types.specs.Records.{Entry, Table}
use Rattle.sb_types.specs.Runs.{last_version, newer_entries}
use Rattle.sb_holdings.specs.Held.{Held, shown_of}
use Rattle.sb_holdings.specs.Plain.{table_of}
use Rattle.sb_views.specs.declared.change.Change.{Change}
use Rattle.sb_views.specs.declared.change.Change.TheVariants.{Enter, Clear, Hold}
use Rattle.sb_views.specs.Changes.{changes_of_owner, held_beyond, changes_above, lacked_of}
use Rattle.sb_views.proofs.Changing.{nothing-lacked}
use Rattle.sb_directory.specs.Lacking.{lacked_since}
use Rattle.sb_directory.proofs.Noting.{held-table, no-table}

-- ---- the entries of an owner above a version

pub record IsPushing (owner : List ℕ) (from : List (List ℕ × Change)) (version : ℕ) (all : List Entry) (batch : List (List ℕ × Change)) (before : ℕ) (rest : List Entry) : Type 0 where
  pub left : batch ++ changes_of_owner owner (map Enter rest) ≡ from ++ changes_of_owner owner (map Enter all)
  pub last : last_version before rest ≡ last_version version all

pub pushing-begins : (owner : List ℕ) (from : List (List ℕ × Change)) (version : ℕ) (all rest : List Entry) → rest ≡ all → IsPushing owner from version all from version rest
pushing-begins owner from version all rest is = record { left = ap (λ (es : List Entry). from ++ changes_of_owner owner (map Enter es)) is; last = ap (last_version version) is }

pub pushing-goes_on : (owner : List ℕ) (from : List (List ℕ × Change)) (version : ℕ) (all : List Entry) (batch new : List (List ℕ × Change)) (before later : ℕ) (e : Entry) (rest : List Entry)
    → IsPushing owner from version all batch before (e ∷ rest) → new ≡ batch ++ (owner, Enter e) ∷ [] → later ≡ e.version → IsPushing owner from version all new later rest
pushing-goes_on owner from version all batch new before later e rest is step next =
    record {
      left = ap (λ (b : List (List ℕ × Change)). b ++ changes_of_owner owner (map Enter rest)) step ∙ append_assoc batch ((owner, Enter e) ∷ []) (changes_of_owner owner (map Enter rest)) ∙ is.left;
      last = ap (λ (n : ℕ). last_version n rest) next ∙ is.last;
    }

pub pushing-ends : (owner : List ℕ) (from : List (List ℕ × Change)) (version : ℕ) (all : List Entry) (batch : List (List ℕ × Change)) (before : ℕ) (rest : List Entry)
    → rest ≡ [] → IsPushing owner from version all batch before rest → batch ≡ from ++ changes_of_owner owner (map Enter all)
pushing-ends owner from version all batch before rest done is =
    sym (append-nil batch) ∙ sym (ap (λ (es : List Entry). batch ++ changes_of_owner owner (map Enter es)) done) ∙ is.left

pub pushed-last : (owner : List ℕ) (from : List (List ℕ × Change)) (version : ℕ) (all : List Entry) (batch : List (List ℕ × Change)) (before : ℕ) (rest : List Entry)
    → rest ≡ [] → IsPushing owner from version all batch before rest → before ≡ last_version version all
pushed-last owner from version all batch before rest done is = sym (ap (last_version before) done) ∙ is.last

-- ---- and then up to which version it is held

module _ (owner : List ℕ) (t : Table) (version : ℕ) (from batch : List (List ℕ × Change)) (last : ℕ) (pushed : batch ≡ from ++ changes_of_owner owner (map Enter (newer_entries version t.entries)))
    (is : last ≡ last_version version (newer_entries version t.entries)) where
  pushed-with : (cs : List Change) → held_beyond last t.held ≡ cs → batch ++ changes_of_owner owner cs ≡ from ++ changes_of_owner owner (changes_above version t)
  pushed-with cs beyond =
      let es = newer_entries version t.entries in
      let behind = held_beyond (last_version version es) t.held in
      ap (λ (xs : List Change). batch ++ changes_of_owner owner xs) (sym beyond ∙ ap (λ (n : ℕ). held_beyond n t.held) is)
      ∙ ap (λ (b : List (List ℕ × Change)). b ++ changes_of_owner owner behind) pushed
      ∙ append_assoc from (changes_of_owner owner (map Enter es)) (changes_of_owner owner behind)
      ∙ ap (λ (b : List (List ℕ × Change)). from ++ b) (sym (map-append (λ (c : Change). (owner, c)) (map Enter es) behind))

  pub pushed-upto : t.held ≤ last → batch ≡ from ++ changes_of_owner owner (changes_above version t)
  pushed-upto le = sym (append-nil batch) ∙ pushed-with [] (cond-false (nat_lt last t.held) (Hold t.held ∷ []) [] (le-ltb last t.held le))

  pub pushed-beyond : (new : List (List ℕ × Change)) (upto : ℕ) (r : Result (Unit {0}) Fault) → last < upto → upto ≡ t.held → OnOk r (new ≡ batch ++ (owner, Hold upto) ∷ [])
      → OnOk r (new ≡ from ++ changes_of_owner owner (changes_above version t))
  pushed-beyond new upto (Err fault) less same step = tt
  pushed-beyond new upto (Ok u) less same step =
      step ∙ ap (λ (n : ℕ). batch ++ (owner, Hold n) ∷ []) same
      ∙ pushed-with (Hold t.held ∷ []) (cond-true (nat_lt last t.held) (Hold t.held ∷ []) [] (lt-ltb last t.held (omega (arith, less, same))))

-- ---- all that is lacked of an owner

module _ (owner : List ℕ) (t : Table) (version floor : ℕ) (from new : List (List ℕ × Change)) where
  pub lacked-above : (r : Result (Unit {0}) Fault) → t.floor ≤ floor → OnOk r (new ≡ from ++ changes_of_owner owner (changes_above version t)) → OnOk r (new ≡ from ++ changes_of_owner owner (lacked_of version floor t))
  lacked-above (Err fault) le step = tt
  lacked-above (Ok u) le step =
      step ∙ ap (λ (cs : List Change). from ++ changes_of_owner owner cs) (sym (cond-false (nat_lt floor t.floor) (Clear ∷ changes_above 0 t) (changes_above version t) (le-ltb floor t.floor le)))

  pub lacked-anew : (cleared : List (List ℕ × Change)) (r : Result (Unit {0}) Fault) → floor < t.floor → cleared ≡ from ++ (owner, Clear) ∷ []
      → OnOk r (new ≡ cleared ++ changes_of_owner owner (changes_above 0 t)) → OnOk r (new ≡ from ++ changes_of_owner owner (lacked_of version floor t))
  lacked-anew cleared (Err fault) less clear step = tt
  lacked-anew cleared (Ok u) less clear step =
      step ∙ ap (λ (b : List (List ℕ × Change)). b ++ changes_of_owner owner (changes_above 0 t)) clear ∙ append_assoc from ((owner, Clear) ∷ []) (changes_of_owner owner (changes_above 0 t))
      ∙ ap (λ (cs : List Change). from ++ changes_of_owner owner cs) (sym (cond-true (nat_lt floor t.floor) (Clear ∷ changes_above 0 t) (changes_above version t) (lt-ltb floor t.floor less)))

-- ---- owner by owner

pub record IsGathering (held : Held) (all : List (List ℕ × (ℕ × ℕ))) (batch : List (List ℕ × Change)) (rest : List (List ℕ × (ℕ × ℕ))) : Type 0 where
  pub left : batch ++ lacked_since rest held ≡ lacked_since all held

pub gathering-begins : (held : Held) (all : List (List ℕ × (ℕ × ℕ))) (batch : List (List ℕ × Change)) (rest : List (List ℕ × (ℕ × ℕ)))
    → batch ≡ [] → rest ≡ all → IsGathering held all batch rest
gathering-begins held all batch rest none is =
    record { left = ap (λ (b : List (List ℕ × Change)). b ++ lacked_since rest held) none ∙ ap (λ (owners : List (List ℕ × (ℕ × ℕ))). lacked_since owners held) is }

pub gathering-goes_on : (held : Held) (all : List (List ℕ × (ℕ × ℕ))) (batch new : List (List ℕ × Change)) (p : List ℕ × (ℕ × ℕ)) (rest : List (List ℕ × (ℕ × ℕ))) (t : Table)
    → IsGathering held all batch (p ∷ rest) → Some t ≡ table_of held p.0 → new ≡ batch ++ changes_of_owner p.0 (lacked_of p.1.0 p.1.1 t) → IsGathering held all new rest
gathering-goes_on held all batch new p rest t is found step =
    let same : t ≡ shown_of held p.0 = held-table (get held.owners p.0) t found in
    record {
      left = ap (λ (b : List (List ℕ × Change)). b ++ lacked_since rest held) (step ∙ ap (λ (u : Table). batch ++ changes_of_owner p.0 (lacked_of p.1.0 p.1.1 u)) same)
          ∙ append_assoc batch (changes_of_owner p.0 (lacked_of p.1.0 p.1.1 (shown_of held p.0))) (lacked_since rest held) ∙ is.left;
    }

pub gathering-passes : (held : Held) (all : List (List ℕ × (ℕ × ℕ))) (batch : List (List ℕ × Change)) (p : List ℕ × (ℕ × ℕ)) (rest : List (List ℕ × (ℕ × ℕ)))
    → IsGathering held all batch (p ∷ rest) → None ≡ table_of held p.0 → IsGathering held all batch rest
gathering-passes held all batch p rest is none =
    let lacked : lacked_of p.1.0 p.1.1 (shown_of held p.0) ≡ [] =
    ap (lacked_of p.1.0 p.1.1) (no-table (get held.owners p.0) none) ∙ nothing-lacked p.1.0 p.1.1 in
    record { left = sym (ap (λ (cs : List Change). batch ++ (changes_of_owner p.0 cs ++ lacked_since rest held)) lacked) ∙ is.left }

pub gathering-ends : (held : Held) (all : List (List ℕ × (ℕ × ℕ))) (batch : List (List ℕ × Change)) (rest : List (List ℕ × (ℕ × ℕ)))
    → rest ≡ [] → IsGathering held all batch rest → batch ≡ lacked_since all held
gathering-ends held all batch rest done is =
    sym (append-nil batch) ∙ sym (ap (λ (owners : List (List ℕ × (ℕ × ℕ))). batch ++ lacked_since owners held) done) ∙ is.left
