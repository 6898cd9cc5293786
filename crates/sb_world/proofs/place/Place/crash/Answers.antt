use Rattle.std.proofs.Common.{rules, ◌≡◌, true, false, [], Ok, inr, subst}
use Rattle.sb_log.specs.Puts.{Puts}
use Rattle.sb_world.specs.declared.event.Answer.TheVariants as answers
use Rattle.sb_world.specs.Places.{Place}
use Rattle.sb_world.proofs.Choosing.{logged}
use Rattle.sb_world.proofs.place.Place.crash.Goals as goal

pub returns : goal.returns
returns g c =
    let log = g.L.WriteLog.seen c.put.new.self in
    let key = c.args.key.now in
    let slot = c.args.slot.now in
    let kept : c.args.is_kept ≡ true = search rules in
    let chosen = logged key slot c.put.result in
    rw kept (
      chosen.0,
      inr (
        c.put.result,
        chosen.0,
        log,
        subst (λ (p : Place). Puts p.log key slot c.put.result log) c.self.view_is c.put.ensures.puts,
        c.in_ok-lose.ensures.lost,
        chosen.1,
        λ i. record {
          answer = Ok answers.Crashed;
          effect = chosen.0;
          place = record {
            me = (c.self.view_is i).me;
            log = log;
            core = (c.self.view_is i).core;
            waiting = (c.self.view_is i).waiting;
            is_up = false;
          };
          frames = [];
        },
      ),
    )
