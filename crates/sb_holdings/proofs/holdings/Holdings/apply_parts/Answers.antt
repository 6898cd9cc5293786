use Rattle.std.proofs.Common.{◌≡◌, ◌≤◌, ◌<◌, ℕ, List, Bool, false, is_some, length, nat_eq, nat_lt, sym, ap, subst, ◌∙◌, arith, lt-ltb}
use Rattle.std.proofs.lemmas.Bool.{or_from, or_right, le-ltb}
use Rattle.std.specs.FinMap.{get, contains_key, len}
use Rattle.std.specs.Cmp.Lexicographic.{pointwise}
use Rattle.sb_types.specs.declared.limits.TheConstants.{OWNERS_MOST}
use Rattle.sb_types.specs.Records.{Holder}
use Rattle.sb_holdings.specs.declared.ends.BlockEnd.TheVariants.{OwnersFull}
use Rattle.sb_types.specs.Runs.{IsRun}
use Rattle.sb_holdings.specs.Held.{Held, held_after_block}
use Rattle.sb_holdings.specs.Plain.{held_of, IsHoldings}
use Rattle.sb_holdings.specs.Ends.{has_place, Fits}
use Rattle.sb_holdings.specs.Holders.{owner_block}
use Rattle.sb_holdings.proofs.ByOwner.{Rise, found, get-from, len-from, has_place-known}
use Rattle.sb_holdings.proofs.Naming.{none-from, after-known, fits-known, gap-new, full-new, fits-new, after-new}
use Rattle.sb_holdings.proofs.holdings.Holdings.apply_parts.Goals as goal

-- whether the owner stands in the map
stands : (held : Held) (me owner : List ℕ) (holders : List (List ℕ × Holder)) → Rise holders → held_of me holders ≡ held → (r : Bool) → r ≡ is_some (found holders owner) → contains_key held.owners owner ≡ r
stands held me owner holders up view r is = ap (λ (h : Held). contains_key h.owners owner) (sym view) ∙ ap is_some (get-from me holders up owner) ∙ sym is

apart : (held : Held) (me owner : List ℕ) (holders : List (List ℕ × Holder)) → held_of me holders ≡ held → (r : Bool) → r ≡ pointwise nat_eq owner me → r ≡ false → pointwise nat_eq owner held.me ≡ false
apart held me owner holders view r is no_one = ap (λ (h : Held). pointwise nat_eq owner h.me) (sym view) ∙ sym is ∙ no_one

count : (held : Held) (me : List ℕ) (holders : List (List ℕ × Holder)) → Rise holders → held_of me holders ≡ held → len held.owners ≡ length holders
count held me holders up view = ap (λ (h : Held). len h.owners) (sym view) ∙ len-from me holders up

full : (held : Held) (owner : List ℕ) → contains_key held.owners owner ≡ false → OWNERS_MOST ≤ len held.owners → has_place held owner ≡ false
full held owner unknown most = or_from (contains_key held.owners owner) (nat_lt (len held.owners) OWNERS_MOST) unknown (le-ltb (len held.owners) OWNERS_MOST most)

pub take_known-requires-clause-known : goal.take_known-requires-clause-known
take_known-requires-clause-known c = (stands c.args.self.now c.self.inside.me c.args.owner.now c.self.inside.holders.entries c.self.invariant.0 c.self.view_is c.contains_key.result c.contains_key.ensures ∙ c.if-contains_key.true)

pub returns-then-contains_key-clause-effect : goal.returns-then-contains_key-clause-effect
returns-then-contains_key-clause-effect c =
    c.take_known.ensures.effect ∙ after-known c.args.owner.now c.args.floor c.args.after c.args.upto c.args.entries.now c.args.self.now (apart c.args.self.now c.self.inside.me c.args.owner.now c.self.inside.holders.entries c.self.view_is c.eq.result c.eq.ensures c.if-eq.false) (subst IsHoldings c.self.view_is c.self.invariant.1) c.take_known.result c.take_known.ensures.end

pub returns-then-contains_key-clause-end : goal.returns-then-contains_key-clause-end
returns-then-contains_key-clause-end c =
    fits-known c.args.owner.now c.args.floor c.args.after c.args.upto c.args.entries.now c.args.self.now (apart c.args.self.now c.self.inside.me c.args.owner.now c.self.inside.holders.entries c.self.view_is c.eq.result c.eq.ensures c.if-eq.false)
    (has_place-known c.args.self.now c.args.owner.now (stands c.args.self.now c.self.inside.me c.args.owner.now c.self.inside.holders.entries c.self.invariant.0 c.self.view_is c.contains_key.result c.contains_key.ensures ∙ c.if-contains_key.true)) c.take_known.result c.take_known.ensures.end

pub returns-then-after-gt0-clause-end : goal.returns-then-after-gt0-clause-end
returns-then-after-gt0-clause-end c =
    gap-new c.args.self.now c.args.owner.now c.args.floor c.args.upto c.args.entries.now (none-from (get c.args.self.now.owners c.args.owner.now) (stands c.args.self.now c.self.inside.me c.args.owner.now c.self.inside.holders.entries c.self.invariant.0 c.self.view_is c.contains_key.result c.contains_key.ensures ∙ c.if-contains_key.false)) c.args.after (apart c.args.self.now c.self.inside.me c.args.owner.now c.self.inside.holders.entries c.self.view_is c.eq.result c.eq.ensures c.if-eq.false) c.if-after-gt0.true c.requires.order

pub returns-then-len-ge-OWNERS_MOST-clause-end : goal.returns-then-len-ge-OWNERS_MOST-clause-end
returns-then-len-ge-OWNERS_MOST-clause-end c =
    let begins : c.args.after ≡ 0 = omega (arith, c.if-after-gt0.false) in
    let most : OWNERS_MOST ≤ len c.args.self.now.owners = omega (arith, count c.args.self.now c.self.inside.me c.self.inside.holders.entries c.self.invariant.0 c.self.view_is, c.len.ensures.len, c.if-len-ge-OWNERS_MOST.true) in
    let none = stands c.args.self.now c.self.inside.me c.args.owner.now c.self.inside.holders.entries c.self.invariant.0 c.self.view_is c.contains_key.result c.contains_key.ensures ∙ c.if-contains_key.false in
    subst (λ (n : ℕ). Fits c.args.self.now (owner_block c.args.owner.now c.args.floor n c.args.upto c.args.entries.now) OwnersFull) (sym begins)
    (full-new c.args.self.now c.args.owner.now c.args.floor c.args.upto c.args.entries.now (none-from (get c.args.self.now.owners c.args.owner.now) (stands c.args.self.now c.self.inside.me c.args.owner.now c.self.inside.holders.entries c.self.invariant.0 c.self.view_is c.contains_key.result c.contains_key.ensures ∙ c.if-contains_key.false)) (apart c.args.self.now c.self.inside.me c.args.owner.now c.self.inside.holders.entries c.self.view_is c.eq.result c.eq.ensures c.if-eq.false) (omega (arith, c.requires.order)) (full c.args.self.now c.args.owner.now none most))

pub add-requires-clause-unknown : goal.add-requires-clause-unknown
add-requires-clause-unknown c = (none-from (get c.args.self.now.owners c.args.owner.now) (stands c.args.self.now c.self.inside.me c.args.owner.now c.self.inside.holders.entries c.self.invariant.0 c.self.view_is c.contains_key.result c.contains_key.ensures ∙ c.if-contains_key.false))

pub add-requires-clause-place : goal.add-requires-clause-place
add-requires-clause-place c = omega (arith, count c.args.self.now c.self.inside.me c.self.inside.holders.entries c.self.invariant.0 c.self.view_is, c.len.ensures.len, c.if-len-ge-OWNERS_MOST.false)

pub returns-clause-effect : goal.returns-clause-effect
returns-clause-effect c =
    let begins : c.args.after ≡ 0 = omega (arith, c.if-after-gt0.false) in
    c.add.ensures.effect
    ∙ after-new c.args.self.now c.args.owner.now c.args.floor c.args.upto c.args.entries.now (none-from (get c.args.self.now.owners c.args.owner.now) (stands c.args.self.now c.self.inside.me c.args.owner.now c.self.inside.holders.entries c.self.invariant.0 c.self.view_is c.contains_key.result c.contains_key.ensures ∙ c.if-contains_key.false)) (apart c.args.self.now c.self.inside.me c.args.owner.now c.self.inside.holders.entries c.self.view_is c.eq.result c.eq.ensures c.if-eq.false) (omega (arith, c.requires.order)) (subst IsHoldings c.self.view_is c.self.invariant.1) c.add.result c.add.ensures.end
    ∙ ap (λ (n : ℕ). held_after_block c.args.self.now (owner_block c.args.owner.now c.args.floor n c.args.upto c.args.entries.now) c.add.result) (sym begins)

pub returns-clause-end : goal.returns-clause-end
returns-clause-end c =
    let begins : c.args.after ≡ 0 = omega (arith, c.if-after-gt0.false) in
    let most : len c.args.self.now.owners < OWNERS_MOST = omega (arith, count c.args.self.now c.self.inside.me c.self.inside.holders.entries c.self.invariant.0 c.self.view_is, c.len.ensures.len, c.if-len-ge-OWNERS_MOST.false) in
    subst (λ (n : ℕ). Fits c.args.self.now (owner_block c.args.owner.now c.args.floor n c.args.upto c.args.entries.now) c.add.result) (sym begins)
    (fits-new c.args.self.now c.args.owner.now c.args.floor c.args.upto c.args.entries.now (none-from (get c.args.self.now.owners c.args.owner.now) (stands c.args.self.now c.self.inside.me c.args.owner.now c.self.inside.holders.entries c.self.invariant.0 c.self.view_is c.contains_key.result c.contains_key.ensures ∙ c.if-contains_key.false)) (apart c.args.self.now c.self.inside.me c.args.owner.now c.self.inside.holders.entries c.self.view_is c.eq.result c.eq.ensures c.if-eq.false) (omega (arith, c.requires.order))
    (subst (λ (n : ℕ). IsRun n c.args.upto c.args.entries.now) begins c.requires.run)
    (or_right (contains_key c.args.self.now.owners c.args.owner.now) (nat_lt (len c.args.self.now.owners) OWNERS_MOST) (lt-ltb (len c.args.self.now.owners) OWNERS_MOST most)) c.add.result c.add.ensures.end)
