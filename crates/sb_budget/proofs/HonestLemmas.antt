-- The blocks of a cut, owner by owner.
use Rattle.std.proofs.Common.{◌≡◌, ℕ, List, [], ◌∷◌, ◌++◌, map, take, drop, inl, inr, refl, sym, ap, subst, ◌∙◌, take-append-drop}
use Rattle.sb_types.specs.declared.entry.Write.{Write}
use Rattle.sb_types.specs.Records.{Table, Block}
use Rattle.sb_types.specs.Runs.{Stands, IsTable, IsBlock}
use Rattle.sb_types.specs.Writes.{Holds, Honest}
use Rattle.sb_budget.specs.Offers.{Item, of_owner, items_of, block_of}
use Rattle.sb_budget.specs.Cut.{owners_of, blocks_of, IsCut}
use Rattle.sb_budget.proofs.OfferLemmas.{offer_is, offer_honest}
use Rattle.sb_budget.proofs.NameLemmas.{named_some}
use Rattle.sb_budget.proofs.GatherLemmas.{owner_is}

pub mapped_from : {A B : Type 0} (f : A → B) (xs : List A) (b : B) → Stands (map f xs) b → (x : A) × Stands xs x × (f x ≡ b)
mapped_from f [] b s = absurd s
mapped_from f (x ∷ xs) b (inl p) = (x, inl refl, p)
mapped_from f (x ∷ xs) b (inr s) = let m = mapped_from f xs b s in (m.0, inr m.1, m.2)

-- a block of a front is its owner's, and has an item
record IsBlockOf (front rest : List Item) (b : Block) : Type 0 where
  first : Item
  stands : Stands (of_owner b.owner front) first
  is : b ≡ block_of b.owner front rest

block_is : (front rest : List Item) (b : Block) → Stands (blocks_of front rest) b → IsBlockOf front rest b
block_is front rest b s =
    let m = mapped_from (λ owner. block_of owner front rest) (owners_of front) b s in
    let some = named_some (λ (i : Item). i.owner) front m.0 m.1 in
    let same : m.0 ≡ b.owner = sym (owner_is m.0 (of_owner m.0 front) (of_owner m.0 rest)) ∙ ap (λ (c : Block). c.owner) m.2 in
    record {
      first = some.0;
      stands = subst (λ owner. Stands (of_owner owner front) some.0) same some.1;
      is = sym m.2 ∙ ap (λ owner. block_of owner front rest) same;
    }

module _ (t : Table) (number budget : ℕ) (items : List Item) (delta : List Block) (b : Block) (is : IsTable t) (cut : IsCut budget items delta) (s : Stands delta b) (offered : of_owner b.owner items ≡ items_of b.owner t number) where
  of_cut : IsBlockOf (take cut.count items) (drop cut.count items) b
  of_cut = block_is (take cut.count items) (drop cut.count items) b (subst (λ bs. Stands bs b) cut.blocks s)

  whole : of_owner b.owner (take cut.count items ++ drop cut.count items) ≡ items_of b.owner t number
  whole = ap (of_owner b.owner) (take-append-drop cut.count items) ∙ offered

  pub cut_is : IsBlock b
  cut_is = subst IsBlock (sym of_cut.is) (offer_is b.owner t number (take cut.count items) (drop cut.count items) of_cut.first is whole of_cut.stands)

  pub cut_honest : (writes : List Write) → Holds writes t → Honest writes b
  cut_honest writes h = subst (Honest writes) (sym of_cut.is) (offer_honest b.owner t number (take cut.count items) (drop cut.count items) of_cut.first is whole of_cut.stands writes h)
