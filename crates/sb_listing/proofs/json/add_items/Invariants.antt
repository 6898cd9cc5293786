use Rattle.std.proofs.Common.{◌≡◌, ◌++◌, false, drop, map}
use Rattle.serde_json.specs.Written.{items_text}
use Rattle.sb_listing.specs.Json.{row_data, items_of}
use Rattle.sb_listing.proofs.json.add_items.Given as goal

abbrev pub invariant-loop-row : goal.invariant-loop-row
invariant-loop-row l =
    l.out.items ++ items_text l.is_later (items_of (map row_data (drop l.row-index l.rows))) ≡ l.fn.out.items ++ items_text false (items_of (map row_data l.rows))
