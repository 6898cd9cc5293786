use Rattle.std.proofs.Common.{ap, ◌∙◌, sym, length, drop}
use Rattle.std.proofs.Math.Seq.{take-append_seam}
use Rattle.sb_watch.specs.Watches.{watch_after_note}
use Rattle.sb_watch.proofs.Ids.{hub_of, hub_pushed, same_length}
use Rattle.sb_watch.proofs.hub.Hub.push.Goals as goal

pub invariant_of-self : goal.invariant_of-self
invariant_of-self c =
    let watches = c.tell_all.new.watches in
    let long = sym c.deref_mut.ensures.len ∙ sym (ap length c.tell_all.ensures ∙ same_length (watch_after_note c.args.note.now) c.deref_mut.result.now) in
    rw (long, take-append_seam watches (drop (length watches) c.self.inside.watches.items), c.tell_all.ensures, c.deref_mut.ensures.value)
    (hub_pushed (hub_of c.self.inside.watches.items c.self.inside.next) c.args.note.now c.self.invariant)
