-- What is new of grown tables leads on.
use Rattle.std.proofs.Common.{ℕ, List, sym, subst}
use Rattle.sb_types.specs.Records.{Table}
use Rattle.sb_holdings.specs.Held.{Held, shown_of}
use Rattle.sb_holdings.specs.Plain.{IsHoldings}
use Rattle.sb_holdings.proofs.Changed.{IsHolder-held}
use Rattle.sb_views.specs.declared.change.Change.{Change}
use Rattle.sb_views.specs.Changes.{table_with_all, IsAlike, Leads, lacked_of}
use Rattle.sb_views.specs.Growing.{AreGrown, new_changes}
use Rattle.sb_views.proofs.Beginning.{of_owner-each}
use Rattle.sb_views.proofs.Changing.{lacked-alike, nothing-lacked}

pub new-leads : (old new : Held) → IsHoldings new → AreGrown old new → Leads old new (new_changes old new)
new-leads old new is grown =
    λ o.
    let t = shown_of old o in
    let lacked : List ℕ → Table → List Change = λ owner u. lacked_of (shown_of old owner).held (shown_of old owner).floor u in
    subst (λ (cs : List Change). IsAlike (table_with_all t cs) (shown_of new o))
    (sym (of_owner-each new lacked (λ owner. nothing-lacked (shown_of old owner).held (shown_of old owner).floor) o))
    (lacked-alike t (shown_of new o) (IsHolder-held new is o).shown (grown o))
