use Rattle.std.proofs.Common.{◌≡◌, true, map}
use Rattle.sb_types.specs.Runs.{Stands}
use Rattle.sb_log.specs.Records as records
use Rattle.sb_world.specs.Places as world
use Rattle.sb_log.specs.Puts.{IsSure}
use Rattle.sb_world.specs.Making.{IsNew, HaveNodes, AreSureLogs}
use Rattle.sb_world.proofs.making.places_of.Given as goal

abbrev pub invariant-loop-log : goal.invariant-loop-log
invariant-loop-log g l = record {
  names : map (λ (p : world.Place). p.me) l.places.items ≡ map (λ (log : records.Log). log.owner) (map g.L.WriteLog.seen l.yielded);
  new : (p : world.Place) → Stands l.places.items p → IsNew l.fn.settings p;
  logs : HaveNodes (map g.L.WriteLog.seen l.yielded) l.places.items;
  sure : AreSureLogs (map g.L.WriteLog.seen l.yielded) → (p : world.Place) → Stands l.places.items p → IsSure p.log;
  stood : (log : records.Log) → Stands (map g.L.WriteLog.seen l.yielded) log → log.is_open ≡ true;
  settings : l.settings ≡ l.fn.settings;
}
