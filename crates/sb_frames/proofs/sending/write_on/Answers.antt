use Rattle.std.proofs.Common.{arith, length-drop, ap}
use Rattle.std.proofs.Math.Seq.{take-add}
use Rattle.std.proofs.lemmas.List.{take_rest}
use Rattle.std.proofs.KnownBytes.{Appends-trans}
use Rattle.sb_frames.specs.Sending.{has_failed}
use Rattle.sb_frames.proofs.Outcomes.{some_took}
use Rattle.sb_frames.proofs.sending.write_on.Goals as goal

pub loop-count-preserved-in-Ok : goal.loop-count-preserved-in-Ok
loop-count-preserved-in-Ok g c =
    let bytes = c.args.bytes.now in
    let written = rw take_rest at c.in-Ok.ensures.bytes in
    let within = rw take_rest at c.in-Ok.ensures.bound in
    record {
      within = omega (arith, length-drop c.loop-count.count bytes);
      goes_on = ap has_failed (some_took _ _ c.in-Ok.ensures.told c.in-Ok.written-test.1);
      written = rw take-add (Appends-trans _ _ _ _ _ c.loop-count.invariant.written written);
    }
