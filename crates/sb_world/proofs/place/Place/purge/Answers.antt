use Rattle.std.proofs.Common.{false, [], Ok, Err, subst}
use Rattle.sb_log.specs.Puts.{Purges}
use Rattle.sb_world.specs.declared.event.Answer.TheVariants as answers
use Rattle.sb_world.specs.Places.{Place}
use Rattle.sb_world.specs.Turns.{rests}
use Rattle.sb_world.proofs.place.Place.purge.Goals as goal

pub returns-in-Ok : goal.returns-in-Ok
returns-in-Ok g c =
    let log = g.L.WriteLog.seen c.purge.new.self in
    let floor = c.args.floor in
    let done = c.in-Ok.field-0 in (
      Ok done,
      log,
      subst (λ (p : Place). Purges p.log floor (Ok done) log) c.self.view_is c.in-Ok.ensures.purges,
      λ i. record {
        answer = Ok (answers.Purged floor);
        effect = rests;
        place = record {
          me = (c.self.view_is i).me;
          log = log;
          core = (c.self.view_is i).core;
          waiting = (c.self.view_is i).waiting;
          is_up = false;
        };
        frames = [];
      },
    )

pub returns-in-Err : goal.returns-in-Err
returns-in-Err g c =
    let log = g.L.WriteLog.seen c.purge.new.self in
    let floor = c.args.floor in
    let fault = c.in-Err.fault in (
      Err fault,
      log,
      subst (λ (p : Place). Purges p.log floor (Err fault) log) c.self.view_is c.in-Err.ensures.purges,
      λ i. record {
        answer = Err fault;
        effect = rests;
        place = record {
          me = (c.self.view_is i).me;
          log = log;
          core = (c.self.view_is i).core;
          waiting = (c.self.view_is i).waiting;
          is_up = (c.self.view_is i).is_up;
        };
        frames = [];
      },
    )
