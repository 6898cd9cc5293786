use Rattle.std.proofs.Common.{◌≡◌, true, false, [], Ok, Err, inl, ap, subst, ◌∙◌}
use Rattle.sb_holdings.specs.Nodes.{opened_node}
use Rattle.sb_log.specs.Puts.{Loads}
use Rattle.sb_world.specs.declared.event.Answer.TheVariants as answers
use Rattle.sb_world.specs.Places.{Place}
use Rattle.sb_world.specs.Turns.{rests, opens}
use Rattle.sb_world.proofs.place.Place.restart.Goals as goal

pub returns-in-Err : goal.returns-in-Err
returns-in-Err g c =
    let log = g.L.WriteLog.seen c.load.new.self in (
      rests,
      (
        Err c.in-Err.fault,
        log,
        subst (λ (p : Place). Loads p.log (Err c.in-Err.fault) log) c.self.view_is c.in-Err.ensures.loads,
        λ i. record {
          answer = Err c.in-Err.fault;
          effect = rests;
          place = record {
            me = (c.self.view_is i).me;
            log = log;
            core = (c.self.view_is i).core;
            waiting = c.clear.ensures.items i;
            is_up = false;
          };
          frames = [];
        },
      ),
    )

pub returns : goal.returns
returns g c =
    let log = g.L.WriteLog.seen c.load.new.self in
    let table = c.in-Ok.table in
    let settings : c.in-Ok-open.core.settings ≡ c.args.self.now.core.settings = c.in-Ok-open.ensures.settings ∙ c.settings.ensures.settings ∙ ap (λ (p : Place). p.core.settings) c.self.view_is in
    let node : c.in-Ok-open.core.node ≡ opened_node c.args.self.now.me table = c.in-Ok-open.ensures.node ∙ ap (λ (p : Place). opened_node p.me table) c.self.view_is in (
      opens table.floor,
      (
        Ok table,
        log,
        subst (λ (p : Place). Loads p.log (Ok table) log) c.self.view_is c.in-Ok.ensures.loads,
        inl (λ i. record {
          answer = Ok (answers.Restarted (c.upto-held.ensures.version i));
          effect = opens table.floor;
          place = record {
            me = (c.self.view_is i).me;
            log = log;
            core = record { settings = settings i; node = node i };
            waiting = c.clear.ensures.items i;
            is_up = true;
          };
          frames = [];
        }),
      ),
    )
