use Rattle.std.proofs.Common.{◌≡◌, ◌<◌, List, length, Some, slice_get, sym, ap, subst, ◌∙◌}
use Rattle.std.specs.Prelude.{slice_set}
use Rattle.std.proofs.lemmas.Option.{slice_get-get_or}
use Rattle.sb_world.specs.Connections.{Connection, connection_at}
use Rattle.sb_world.proofs.Connected.{set_same, lined_not}
use Rattle.sb_world.proofs.place.Place.line.Goals as goal

pub returns-in-Err : goal.returns-in-Err
returns-in-Err g c =
    let conns = c.args.connections.now.items in
    let i = c.in-Some.index in
    let x = c.index_mut.result.now in
    let within = subst (λ (cs : List Connection). i < length cs) c.deref.ensures.value c.in-Some.ensures.within in
    let found = subst (λ (cs : List Connection). connection_at cs c.args.number ≡ slice_get cs i) c.deref.ensures.value c.in-Some.ensures.found in
    let here = slice_get-get_or conns i x within ∙ ap (λ (d : Connection). Some d) (sym c.index_mut.ensures.value) in
    lined_not c.args.self.now c.args.number conns c.args.sent.now x (found ∙ here) c.args.frame c.in-Some-frame_in.bytes.now (sym c.in-Some-frame_in.ensures) c.in-Err.fault c.in-Err.ensures.memory
    (slice_set conns i c.line.new.self) (ap (slice_set conns i) c.in-Err.ensures.unchanged ∙ set_same conns i x here)
