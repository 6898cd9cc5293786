-- A delta by an order is a delta by the settings that name this order.
use Rattle.std.proofs.Common.{◌≡◌, ℕ, List, subst}
use Rattle.sb_types.specs.declared.settings.Order.{Order}
use Rattle.sb_types.specs.Records.{Block, Settings}
use Rattle.sb_holdings.specs.Held.{Held}
use Rattle.sb_digest.specs.Digests.{Digest}
use Rattle.sb_budget.specs.declared.offered.Offered.{Offered}
use Rattle.sb_budget.specs.Cut.{items_of_all, IsCut}
use Rattle.sb_budget.specs.Parts.{IsDeltaBy}
use Rattle.sb_node.specs.Answers.{IsListedBy, IsDelta}

pub delta_by : (settings : Settings) (budget : ℕ) (order : Order) (IsListing : List Offered → Type 0) (held : Held) (digest : Digest) (blocks : List Block)
    → budget ≡ settings.budget → order ≡ settings.order → ((listed : List Offered) → IsListing listed → IsListedBy order listed)
    → IsDeltaBy IsListing budget held digest blocks → IsDelta settings held digest blocks
delta_by settings budget order IsListing held digest blocks same at gives d = record {
  offered = d.offered;
  available = d.available;
  ranks = d.ranks;
  listed = d.listed;
  each_once = d.each_once;
  order = subst (λ (o : Order). IsListedBy o d.listed) at (gives d.listed d.order);
  cut = subst (λ (n : ℕ). IsCut n (items_of_all d.listed) blocks) same d.cut;
}
