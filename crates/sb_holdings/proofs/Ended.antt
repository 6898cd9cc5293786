-- What the tests of a block promise.
use Rattle.std.proofs.Common.{◌≡◌, ℕ, Bool, true, ◌&&◌, nat_lt, nat_le, List, [], ◌∷◌, length, inl, inr, sym, ap, ◌∙◌}
use Rattle.std.proofs.lemmas.Bool.{and_parts, leb-true, ltb-true}
use Rattle.std.specs.List.{list_all}
use Rattle.sb_types.specs.declared.limits.TheConstants.{ENTRIES_MOST}
use Rattle.sb_types.specs.Records.{Entry, Block}
use Rattle.sb_types.specs.Limits.{are_block_parts, is_delta, is_delta_block}
use Rattle.sb_types.specs.Runs.{Stands, IsBlock, are_ascending, are_distinct, last_version}
use Rattle.sb_holdings.specs.Holders.{owner_block}

pub IsBlock-parts : (b : Block) → are_block_parts b.after b.upto b.entries ≡ true → IsBlock b
IsBlock-parts b is =
    let few = nat_le (length b.entries) ENTRIES_MOST in
    let apart = and_parts (few && nat_lt b.after b.upto && are_ascending b.after b.entries && nat_le (last_version b.after b.entries) b.upto) (are_distinct b.entries) is in
    let most = and_parts (few && nat_lt b.after b.upto && are_ascending b.after b.entries) (nat_le (last_version b.after b.entries) b.upto) apart.0 in
    let rising = and_parts (few && nat_lt b.after b.upto) (are_ascending b.after b.entries) most.0 in
    let order = and_parts few (nat_lt b.after b.upto) rising.0 in
    record {
      run = record { ascending = rising.1; most = leb-true (last_version b.after b.entries) b.upto most.1; distinct = apart.1 };
      order = ltb-true b.after b.upto order.1;
    }

pub IsBlock-delta : (b : Block) → is_delta_block b ≡ true → IsBlock b
IsBlock-delta b is = IsBlock-parts b (and_parts _ (are_block_parts b.after b.upto b.entries) is).1

-- a block in parts
pub in_parts : (b : Block) (owner : List ℕ) (floor after upto : ℕ) (entries : List Entry) → owner ≡ b.owner → floor ≡ b.floor → after ≡ b.after → upto ≡ b.upto → entries ≡ b.entries →
    owner_block owner floor after upto entries ≡ b
in_parts b owner floor after upto entries owner_is floor_is after_is upto_is entries_is =
    λ i. record { owner = owner_is i; floor = floor_is i; after = after_is i; upto = upto_is i; entries = entries_is i }

all-each : {X : Type 0} (test : X → Bool) (xs : List X) (x : X) → list_all test xs ≡ true → Stands xs x → test x ≡ true
all-each test [] x all s = absurd s
all-each test (y ∷ ys) x all (inl same) = sym (ap test same) ∙ (and_parts _ _ all).0
all-each test (y ∷ ys) x all (inr s) = all-each test ys x (and_parts _ _ all).1 s

pub block-of_delta : (blocks : List Block) (b : Block) → is_delta blocks ≡ true → Stands blocks b → is_delta_block b ≡ true
block-of_delta blocks b is s = all-each is_delta_block blocks b (and_parts _ _ is).0 s
