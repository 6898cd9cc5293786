use Rattle.std.proofs.Common.{◌≡◌, ◌++◌, false, drop, map}
use Rattle.serde_json.specs.Written.{items_text}
use Rattle.sb_listing.specs.Json.{items_of}
use Rattle.sb_http.specs.Texts.{owner_data}
use Rattle.sb_http.proofs.bodies.add_owners.Given as goal

abbrev pub invariant-loop-held : goal.invariant-loop-held
invariant-loop-held l =
    l.out.items ++ items_text l.is_later (items_of (map owner_data (drop l.held-index l.owners))) ≡ l.fn.out.items ++ items_text false (items_of (map owner_data l.owners))
