use Rattle.std.proofs.Common.{List, map, ap, ◌∙◌}
use Rattle.sb_views.specs.declared.event.Event.{Event}
use Rattle.sb_directory.specs.Seats.{new_seat}
use Rattle.sb_directory.proofs.Sharing.{all-new}
use Rattle.sb_directory.proofs.directory.Directory.make.Goals as goal

pub returns-clause-seats : goal.returns-clause-seats
returns-clause-seats g c = c.in_ok-made.ensures.seats ∙ ap (λ (seen : List (List Event)). map new_seat seen) c.in_ok-writer.ensures.readers ∙ all-new c.args.seats
