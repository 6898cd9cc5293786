use Rattle.std.proofs.Common.{◌≡◌, List, [], ◌∷◌, ◌++◌, Ok, Err, inl, inr, refl, ap, subst, ◌∙◌}
use Rattle.sb_types.specs.Records.{Entry}
use Rattle.sb_log.specs.Records.{Committed}
use Rattle.sb_log.specs.Puts.{Puts}
use Rattle.sb_world.specs.declared.event.Answer.TheVariants as answers
use Rattle.sb_world.specs.Places.{Place}
use Rattle.sb_world.specs.Turns.{rests, logs, write_of}
use Rattle.sb_world.proofs.place.Place.commit.Goals as goal

pub returns-in-Ok : goal.returns-in-Ok
returns-in-Ok g c =
    let committed = c.in-Ok.committed in
    let log = g.L.WriteLog.seen c.put.new.self in
    let key = c.args.key.now in
    let slot = c.args.slot.now in
    let effect = logs (write_of key slot) in
    let version : c.version-version.result ≡ committed.entry.version = c.version-version.ensures.version ∙ ap (λ (e : Entry). e.version) c.entry.ensures.entry in
    let waits : c.push_back_reserved.new.self.items ≡ c.self.inside.waiting.items ++ committed ∷ [] = c.push_back_reserved.ensures.items ∙ ap (λ (cs : List Committed). cs ++ committed ∷ []) c.in_ok-reserve.ensures.items in (
      effect,
      inr (
        Ok committed,
        effect,
        log,
        subst (λ (p : Place). Puts p.log key slot (Ok committed) log) c.self.view_is c.in-Ok.ensures.puts,
        refl,
        λ i. record {
          answer = Ok (answers.Committed (version i));
          effect = effect;
          place = record {
            me = (c.self.view_is i).me;
            log = log;
            core = (c.self.view_is i).core;
            waiting = (waits ∙ ap (λ (p : Place). p.waiting ++ committed ∷ []) c.self.view_is) i;
            is_up = (c.self.view_is i).is_up;
          };
          frames = [];
        },
      ),
    )

pub returns-in-Err : goal.returns-in-Err
returns-in-Err g c =
    let log = g.L.WriteLog.seen c.put.new.self in
    let key = c.args.key.now in
    let slot = c.args.slot.now in (
      rests,
      inr (
        Err c.in-Err.fault,
        rests,
        log,
        subst (λ (p : Place). Puts p.log key slot (Err c.in-Err.fault) log) c.self.view_is c.in-Err.ensures.puts,
        inl refl,
        λ i. record {
          answer = Err c.in-Err.fault;
          effect = rests;
          place = record {
            me = (c.self.view_is i).me;
            log = log;
            core = (c.self.view_is i).core;
            waiting = (c.in_ok-reserve.ensures.items ∙ ap (λ (p : Place). p.waiting) c.self.view_is) i;
            is_up = (c.self.view_is i).is_up;
          };
          frames = [];
        },
      ),
    )
