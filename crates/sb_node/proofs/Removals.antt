-- The removals of a table, one after another, and the floor up to which it is purged.
use Rattle.std.proofs.Common.{◌≡◌, ◌≢◌, ℕ, zero, suc, ◌+◌, ◌-◌, ◌/◌, ◌≤◌, true, not, ◌&&◌, ◌||◌, nat_lt, nat_le, ⊎_elim, ltb-true, leb-true, List, [], ◌∷◌, length, inl, inr, Option, Some, None, Ok, refl, ap, ◌∙◌, arith}
use Rattle.std.proofs.lemmas.Bool.{and_parts, or_cases, cond_both, cond-true, cond-false, le-ltb}
use Rattle.std.specs.List.{slice_get}
use Rattle.std.specs.Option.{option_map}
use Rattle.sb_types.specs.declared.entry.Slot.TheVariants.{Removed}
use Rattle.sb_types.specs.declared.limits.TheConstants.{KEYS_MOST}
use Rattle.sb_types.specs.Records.{Entry, Table}
use Rattle.sb_types.specs.Runs.{Stands, is_set, IsRun}
use Rattle.sb_types.proofs.Standing.{of_kept}
use Rattle.sb_table.specs.Floors.{IsKeptTable}
use Rattle.sb_table.proofs.Merging.{length-filter_le}
use Rattle.sb_table.proofs.Order.{run_upto}
use Rattle.sb_holdings.specs.Held.{empty_holder, shown_of}
use Rattle.sb_holdings.specs.Nodes.{Node}
use Rattle.sb_node.specs.Purging.{removals, removals_in, FULL_REMOVALS, is_purge_due, due_floor, purge_answer}

pub first_removal : (e : Entry) (es : List Entry) (n : ℕ) → e.slot ≡ Removed → n ≢ 0 → slice_get (removals (e ∷ es)) n ≡ slice_get (removals es) (n - 1)
first_removal e es zero removed some = absurd (some refl)
first_removal e es (suc n) removed some =
    ap (λ (xs : List Entry). slice_get xs (suc n)) (cond-true (not (is_set e.slot)) (e ∷ removals es) (removals es) (ap (λ s. not (is_set s)) removed))
    ∙ ap (slice_get (removals es)) (omega arith)

pub first_value : (e : Entry) (es : List Entry) → is_set e.slot ≡ true → removals (e ∷ es) ≡ removals es
first_value e es set = cond-false (not (is_set e.slot)) (e ∷ removals es) (removals es) (ap not set)

-- a table has no more removals than keys
pub few_removals : (t : Table) → IsKeptTable t → removals_in t.entries ≤ KEYS_MOST
few_removals t kept = omega (arith, length-filter_le (λ (e : Entry). not (is_set e.slot)) t.entries, kept.limit)

-- where a purge is due, there is a removal
pub due_some : (least keys removed : ℕ) → is_purge_due least keys removed ≡ true → 1 ≤ removed
due_some least keys removed due =
    let parts = and_parts (nat_lt 0 least) (nat_le least removed || (nat_le KEYS_MOST keys && nat_le FULL_REMOVALS removed)) due in
    ⊎_elim
    (λ enough. omega (arith, ltb-true 0 least parts.0, leb-true least removed enough))
    (λ full. omega (arith, leb-true FULL_REMOVALS removed (and_parts (nat_le KEYS_MOST keys) (nat_le FULL_REMOVALS removed) full).1))
    (or_cases (nat_le least removed) (nat_le KEYS_MOST keys && nat_le FULL_REMOVALS removed) parts.1)

-- what is found in a list stands in it
found_stands : (xs : List Entry) (k : ℕ) (x : Entry) → slice_get xs k ≡ Some x → Stands xs x
found_stands [] zero x found = absurd (cc)
found_stands [] (suc k) x found = absurd (cc)
found_stands (y ∷ ys) zero x found = inl (let same : Some y ≡ Some x = found in cc)
found_stands (y ∷ ys) (suc k) x found = inr (found_stands ys k x found)

found_within : (t : Table) (o : Option Entry) (k floor : ℕ) → IsRun 0 t.held t.entries → slice_get (removals t.entries) k ≡ o → option_map (λ (e : Entry). e.version) o ≡ Some floor → floor ≤ t.held
found_within t None k floor run found version = absurd (cc)
found_within t (Some e) k floor run found version =
    let stands = (of_kept (λ (x : Entry). not (is_set x.slot)) t.entries e (found_stands (removals t.entries) k e found)).0 in
    let same : e.version ≡ floor = (let some : Some e.version ≡ Some floor = version in cc) in
    omega (arith, run_upto e run stands, same)

-- a floor that is due is held
pub due_within : (least : ℕ) (t : Table) (floor : ℕ) → IsRun 0 t.held t.entries → due_floor least t ≡ Some floor → floor ≤ t.held
due_within least t floor run =
    let removed = removals_in t.entries in
    let found = slice_get (removals t.entries) ((removed + 1) / 2 - 1) in
    cond_both (is_purge_due least (length t.entries) removed) (option_map (λ (e : Entry). e.version) found) None (λ (o : Option ℕ). o ≡ Some floor → floor ≤ t.held)
    (λ _ version. found_within t found ((removed + 1) / 2 - 1) floor run refl version)
    (λ _ none. absurd (cc))

-- and a node may purge its table up to it
pub due_allowed : (least : ℕ) (node : Node) (floor : ℕ) → IsRun 0 (shown_of node.held node.held.me).held (shown_of node.held node.held.me).entries
    → due_floor least (shown_of node.held node.held.me) ≡ Some floor → purge_answer node floor ≡ Ok tt
due_allowed least node floor run due =
    let t = shown_of node.held node.held.me in
    cond-false _ _ _ (le-ltb t.held floor (due_within least t floor run due))

-- of an owner that is not held nothing is due
pub due_nothing : (least : ℕ) → due_floor least empty_holder.shown ≡ None
due_nothing least = cond_both (is_purge_due least 0 0) _ None (λ (o : Option ℕ). o ≡ None) (λ _. refl) (λ _. refl)
