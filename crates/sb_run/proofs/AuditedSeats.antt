-- What an audit leaves of the seat.
use Rattle.std.proofs.Common.{◌≡◌, Option, sym, arith}
use mathlib.Core.List.{IsPrefix}
use Rattle.sb_types.specs.Records.{Block}
use Rattle.sb_holdings.specs.Nodes.{Node}
use Rattle.sb_views.specs.Histories.{node_after}
use Rattle.sb_views.proofs.Prefixes.{prefix_trans}
use Rattle.sb_directory.specs.declared.difference.Difference.{Difference}
use Rattle.sb_directory.specs.Audits.{Audits, audit_events}
use Rattle.sb_directory.specs.Seats.{Seat}
use Rattle.sb_directory.specs.Serving.{IsLater}

pub audit_later : (opening : Node) (b : Block) (old : Seat) (found : Option Difference) (new : Seat) → Audits opening b old found new → IsPrefix old.seen new.seen → IsLater old new
audit_later opening b old found new audits grows = record {
  seen = grows;
  last_call = prefix_trans old.last_call audits.history new.last_call audits.begins.last_call (audit_events (node_after opening audits.history) found, sym audits.last_call);
  events = omega (arith, audits.events);
}
