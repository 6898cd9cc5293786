-- Where a cursor stands among what is offered of an owner.
use Rattle.std.proofs.Common.{◌≡◌, ℕ, suc, ◌+◌, ◌<◌, ◌≤◌, max, Bool, true, false, List, [], ◌∷◌, length, Option, Some, None, inl, refl, sym, ap, subst, arith, nat_lt, if◌then◌else◌}
use Rattle.std.specs.Prelude.{All}
use Rattle.sb_types.specs.Records.{Entry, Table}
use Rattle.sb_types.specs.Runs.{Stands, newer_entries, IsRun}
use Rattle.sb_budget.specs.Available.{ranked_of}
use Rattle.sb_budget.specs.Parts.{Part, part_of}
use Rattle.sb_budget.specs.Cursors.{Place, first_part, part_at, IsPlace}
use Rattle.sb_budget.proofs.RankLemmas.{of_three, held_further, owners-ranked}

pub above_shorter : (v : ℕ) (es : List Entry) → length (newer_entries v es) ≤ length es
above_shorter v [] = omega arith
above_shorter v (e ∷ es) = go (nat_lt v e.version) (above_shorter v es)
  where
    go : (b : Bool) → length (newer_entries v es) ≤ length es → length (if b then e ∷ newer_entries v es else newer_entries v es) ≤ suc (length es)
    go true rest = omega (arith, rest)
    go false rest = omega (arith, rest)

-- whose items they are, what their block tells, and how many they are
pub record IsNextOf (name : List ℕ) (table : Table) (number : ℕ) (part : Part) : Type 0 where
  pub owner : part.next.owner ≡ name
  pub floor : part.next.floor ≡ table.floor
  pub after : part.next.after ≡ number
  pub upto : part.next.upto ≡ table.held
  pub count : part.next.count ≡ max (length (newer_entries number table.entries)) 1
  pub later : All (λ item. item.owner ≡ name) part.later

module _ (owner : List ℕ) (table : Table) (after : ℕ) where
  -- something is offered where the table is held above the version
  pub ranked_some : after < table.held → part_of (ranked_of owner table after) ≡ Some (first_part (ranked_of owner table after))
  ranked_some further = of_three owner table after (λ os. part_of os ≡ Some (first_part os)) (λ e es h. refl) (λ h l. refl) (λ h l. absurd (omega (arith, further, l)))

  -- and nothing where it is not
  pub ranked_none : IsRun 0 table.held table.entries → table.held ≤ after → part_of (ranked_of owner table after) ≡ None
  ranked_none run within = of_three owner table after (λ os. part_of os ≡ None)
      (λ e es h. absurd (omega (arith, within, held_further table run after e (subst (λ (l : List Entry). Stands l e) (sym h) (inl refl)))))
      (λ h l. absurd (omega (arith, within, l)))
      (λ h l. refl)

  first_of : after < table.held → IsNextOf owner table after (first_part (ranked_of owner table after))
  first_of further = of_three owner table after (λ os. IsNextOf owner table after (first_part os))
      (λ e es h. record {
        owner = refl;
        floor = refl;
        after = refl;
        upto = refl;
        count = omega (arith, ap (λ (l : List Entry). length l) h);
        later = owners-ranked owner table after (length (e ∷ es)) 1 es;
      })
      (λ h l. record { owner = refl; floor = refl; after = refl; upto = refl; count = omega (arith, ap (λ (l : List Entry). length l) h); later = λ k d m. absurd (omega (arith, m)) })
      (λ h l. absurd (omega (arith, further, l)))

  pub next_of : (place : Option Place) → IsPlace table after place → IsNextOf owner table after (part_at owner table after place)
  next_of (Some p) is = record {
    owner = refl;
    floor = refl;
    after = refl;
    upto = refl;
    count = omega (arith, is);
    later = owners-ranked owner table after (length (newer_entries after table.entries)) (p.rank + 1) p.later;
  }
  next_of None further = first_of further
