-- Notes pushed into watches one by one, and owner by owner.
use Rattle.std.proofs.Common.{◌≡◌, ℕ, ◌≤◌, Bool, true, false, cond, List, [], ◌∷◌, ◌++◌, map, Option, Some, None, unwrap_or, inl, inr, refl, sym, ap, ◌∙◌, append_assoc, append-nil, le-leb, arith}
use Rattle.std.specs.Prelude.{nat_lt}
use Rattle.std.proofs.lemmas.Bool.{le-ltb}
use Rattle.std.specs.List.{AllByRecursion}
use Rattle.std.specs.Option.{option_map}
use Rattle.std.specs.FinMap.{get}
use Rattle.sb_types.specs.Records.{Entry, Table, Block, Holder}
use Rattle.sb_types.specs.Runs.{Stands, newer_entries}
use Rattle.sb_types.proofs.Standing.{of_above}
use Rattle.sb_holdings.specs.Held.{Held, empty_holder, shown_of}
use Rattle.sb_holdings.specs.Plain.{IsHoldings, table_of}
use Rattle.sb_holdings.proofs.Changed.{IsHolder-held}
use Rattle.sb_table.proofs.Order.{run_upto}
use Rattle.sb_watch.specs.declared.note.Note.{Note}
use Rattle.sb_watch.specs.Records.{Hub}
use Rattle.sb_watch.specs.Hubs.{AllNotes, with_push}
use Rattle.sb_watch.proofs.KeptNotes.{pushed_keeps}
use Rattle.sb_directory.specs.Notes.{note_of, clear_of, with_notes, entry_notes, clear_notes, owner_notes, notes_since, is_held}

pub notes_append : (hub : Hub) (xs ys : List Note) → with_notes hub (xs ++ ys) ≡ with_notes (with_notes hub xs) ys
notes_append hub [] ys = refl
notes_append hub (x ∷ xs) ys = notes_append (with_push hub x) xs ys

-- ---- one owner

pub record IsTelling (owner : List ℕ) (from : Hub) (all : List Entry) (hub : Hub) (rest : List Entry) : Type 0 where
  pub left : with_notes hub (map (note_of owner) rest) ≡ with_notes from (map (note_of owner) all)

pub telling-begins : (owner : List ℕ) (from : Hub) (all rest : List Entry) → rest ≡ all → IsTelling owner from all from rest
telling-begins owner from all rest is = record { left = ap (λ (es : List Entry). with_notes from (map (note_of owner) es)) is }

pub telling-goes_on : (owner : List ℕ) (from : Hub) (all : List Entry) (hub new : Hub) (e : Entry) (rest : List Entry)
    → IsTelling owner from all hub (e ∷ rest) → new ≡ with_notes hub (note_of owner e ∷ []) → IsTelling owner from all new rest
telling-goes_on owner from all hub new e rest is step =
    record { left = ap (λ (h : Hub). with_notes h (map (note_of owner) rest)) step ∙ is.left }

pub telling-ends : (owner : List ℕ) (from : Hub) (all : List Entry) (hub : Hub) (rest : List Entry)
    → rest ≡ [] → IsTelling owner from all hub rest → hub ≡ with_notes from (map (note_of owner) all)
telling-ends owner from all hub rest done is = sym (ap (λ (es : List Entry). with_notes hub (map (note_of owner) es)) done) ∙ is.left

-- ---- all owners

pub record IsTellingAll (held : Held) (from : Hub) (all : List (List ℕ × ℕ)) (hub : Hub) (rest : List (List ℕ × ℕ)) : Type 0 where
  pub left : with_notes hub (notes_since rest held) ≡ with_notes from (notes_since all held)

pub telling_all-begins : (held : Held) (from : Hub) (all rest : List (List ℕ × ℕ)) → rest ≡ all → IsTellingAll held from all from rest
telling_all-begins held from all rest is = record { left = ap (λ (vs : List (List ℕ × ℕ)). with_notes from (notes_since vs held)) is }

pub held-table : (o : Option Holder) (t : Table) → Some t ≡ option_map (λ (h : Holder). h.shown) o → t ≡ (unwrap_or o empty_holder).shown
held-table None t is = absurd (cc)
held-table (Some h) t is = cc

pub no-table : (o : Option Holder) → None ≡ option_map (λ (h : Holder). h.shown) o → (unwrap_or o empty_holder).shown ≡ empty_holder.shown
no-table None is = refl
no-table (Some h) is = absurd (cc)

pub telling_all-goes_on : (held : Held) (from : Hub) (all : List (List ℕ × ℕ)) (hub new : Hub) (p : List ℕ × ℕ) (rest : List (List ℕ × ℕ)) (t : Table)
    → IsTellingAll held from all hub (p ∷ rest) → Some t ≡ table_of held p.0 → new ≡ with_notes hub (owner_notes p.1 p.0 t) → IsTellingAll held from all new rest
telling_all-goes_on held from all hub new p rest t is found step =
    let same : t ≡ shown_of held p.0 = held-table (get held.owners p.0) t found in
    record {
      left = ap (λ (h : Hub). with_notes h (notes_since rest held)) (step ∙ ap (λ (u : Table). with_notes hub (owner_notes p.1 p.0 u)) same)
          ∙ sym (notes_append hub (owner_notes p.1 p.0 (shown_of held p.0)) (notes_since rest held)) ∙ is.left;
    }

-- an owner that is not held has no floor
not-cleared : (version : ℕ) → nat_lt version 0 ≡ false
not-cleared version = le-ltb version 0 (omega arith)

pub telling_all-passes : (held : Held) (from : Hub) (all : List (List ℕ × ℕ)) (hub : Hub) (p : List ℕ × ℕ) (rest : List (List ℕ × ℕ))
    → IsTellingAll held from all hub (p ∷ rest) → None ≡ table_of held p.0 → IsTellingAll held from all hub rest
telling_all-passes held from all hub p rest is none =
    let nothing : owner_notes p.1 p.0 (shown_of held p.0) ≡ [] =
    ap (λ (t : Table). owner_notes p.1 p.0 t) (no-table (get held.owners p.0) none) ∙ ap (λ (b : Bool). cond b (clear_of p.0 empty_holder.shown ∷ []) [] ++ []) (not-cleared p.1) in
    record { left = sym (ap (λ (ns : List Note). with_notes hub (ns ++ notes_since rest held)) nothing) ∙ is.left }

pub telling_all-ends : (held : Held) (from : Hub) (all : List (List ℕ × ℕ)) (hub : Hub) (rest : List (List ℕ × ℕ))
    → rest ≡ [] → IsTellingAll held from all hub rest → hub ≡ with_notes from (notes_since all held)
telling_all-ends held from all hub rest done is = sym (ap (λ (vs : List (List ℕ × ℕ)). with_notes hub (notes_since vs held)) done) ∙ is.left

-- ---- the versions that stand before

abbrev pub mark_of : Held → Block → List ℕ × ℕ
mark_of held b = (b.owner, (shown_of held b.owner).held)

pub record IsListing (held : Held) (all : List Block) (versions : List (List ℕ × ℕ)) (rest : List Block) : Type 0 where
  pub left : versions ++ map (mark_of held) rest ≡ map (mark_of held) all

pub listing-begins : (held : Held) (all : List Block) (versions : List (List ℕ × ℕ)) (rest : List Block) → versions ≡ [] → rest ≡ all → IsListing held all versions rest
listing-begins held all versions rest none is =
    record { left = ap (λ (vs : List (List ℕ × ℕ)). vs ++ map (mark_of held) rest) none ∙ ap (map (mark_of held)) is }

pub listing-goes_on : (held : Held) (all : List Block) (versions new : List (List ℕ × ℕ)) (b : Block) (rest : List Block)
    → IsListing held all versions (b ∷ rest) → new ≡ versions ++ mark_of held b ∷ [] → IsListing held all new rest
listing-goes_on held all versions new b rest is step =
    record {
      left = ap (λ (vs : List (List ℕ × ℕ)). vs ++ map (mark_of held) rest) step ∙ append_assoc versions (mark_of held b ∷ []) (map (mark_of held) rest) ∙ is.left;
    }

pub listing-ends : (held : Held) (all : List Block) (versions : List (List ℕ × ℕ)) (rest : List Block) → rest ≡ [] → IsListing held all versions rest → versions ≡ map (mark_of held) all
listing-ends held all versions rest done is =
    sym (append-nil versions) ∙ sym (ap (λ (bs : List Block). versions ++ map (mark_of held) bs) done) ∙ is.left

-- ---- what is noted in watches is held

abbrev pub AreHeld : Held → List Note → Type 0
AreHeld held ns = AllByRecursion (λ n. is_held held n ≡ true) ns

pub noted-held : (held : Held) (hub : Hub) (ns : List Note) → AllNotes (is_held held) hub → AreHeld held ns → AllNotes (is_held held) (with_notes hub ns)
noted-held held hub [] notes all = notes
noted-held held hub (n ∷ ns) notes all =
    noted-held held (with_push hub n) ns (pushed_keeps (λ note. is_held held note ≡ true) hub n notes all.0) all.1

both-held : (held : Held) (xs ys : List Note) → AreHeld held xs → AreHeld held ys → AreHeld held (xs ++ ys)
both-held held [] ys xa ya = ya
both-held held (x ∷ xs) ys xa ya = (xa.0, both-held held xs ys xa.1 ya)

owned-held : (held : Held) (o : List ℕ) (es : List Entry) → ((e : Entry) → Stands es e → e.version ≤ (shown_of held o).held) → AreHeld held (map (note_of o) es)
owned-held held o [] each = tt
owned-held held o (e ∷ es) each =
    (le-leb e.version (shown_of held o).held (each e (inl refl)), owned-held held o es (λ x s. each x (inr s)))

cleared-held : (held : Held) (o : List ℕ) (b : Bool) → AreHeld held (cond b (clear_of o (shown_of held o) ∷ []) [])
cleared-held held o true = (le-leb (shown_of held o).held (shown_of held o).held (omega arith), tt)
cleared-held held o false = tt

pub since-held : (held : Held) (versions : List (List ℕ × ℕ)) → IsHoldings held → AreHeld held (notes_since versions held)
since-held held [] is = tt
since-held held (p ∷ ps) is =
    let t = shown_of held p.0 in
    let entries = owned-held held p.0 (newer_entries p.1 t.entries) (λ e s. run_upto e (IsHolder-held held is p.0).shown.run (of_above p.1 t.entries e s).0) in
    both-held held (owner_notes p.1 p.0 t) (notes_since ps held)
    (both-held held (clear_notes p.1 p.0 t) (entry_notes p.1 p.0 t) (cleared-held held p.0 (nat_lt p.1 t.floor)) entries)
    (since-held held ps is)
