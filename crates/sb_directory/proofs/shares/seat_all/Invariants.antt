use Rattle.std.specs.Vec.Iter.{into_iter_items}
use Rattle.sb_directory.proofs.Sharing.{IsSeating}
use Rattle.sb_directory.proofs.shares.seat_all.Given as goal

abbrev pub invariant-loop-reader : goal.invariant-loop-reader
invariant-loop-reader g l = IsSeating l.fn.readers.items l.initial.rest.parts l.rest.parts l.rest.amount l.seats.items (into_iter_items l.reader-iterator)
