use Rattle.std.proofs.Common.{◌≡◌, List, length}
use Rattle.sb_codec.specs.Records.{Rows}
use Rattle.sb_query.specs.Paging.{Leads}
use Rattle.sb_query.proofs.paging.ask_all.Given as goal

abbrev pub invariant-loop : goal.invariant-loop
invariant-loop g l = (pages : List Rows) × Leads g.P.Pager.step l.fn.pager l.fn.asked pages l.pager l.ask × (length pages ≡ l.counter)
