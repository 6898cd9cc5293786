use Rattle.std.proofs.Common.{◌≡◌, true, List, [], ◌∷◌, ◌++◌, length, take, map, Option, None, inr, refl, sym, ap, subst, ◌∙◌}
use Rattle.sb_types.specs.declared.fault.Fault.{Fault}
use Rattle.std.proofs.lemmas.Iterator.Adapters.{YieldsList-from_vec}
use Rattle.std.proofs.lemmas.Iterator.Consumers.{YieldsList-end, YieldsList-turn, YieldsList-so_far}
use Rattle.std.proofs.lemmas.Result.{err_from_is_err_and}
use Rattle.sb_types.specs.Runs.{Stands}
use Rattle.sb_log.specs.Records as records
use Rattle.sb_world.specs.Places as world
use Rattle.sb_log.specs.Puts.{IsSure}
use Rattle.sb_world.specs.Making.{IsNew, HaveNodes, AreSureLogs, refusal, IsOpeningFault, IsMakingFault}
use Rattle.sb_world.proofs.Lining.{before_or_last, map_same, map_more, nodes_more, sure_before, last_of_them, first_fault, none_given}
use Rattle.sb_world.proofs.making.places_of.Goals as goal

pub loop-log-preserved : goal.loop-log-preserved
loop-log-preserved g c =
    let seen = g.L.WriteLog.seen in
    let done = c.loop-log.yielded in
    let log = c.in-Some-log.log in
    let p = c.in_ok-opened.field-0 in
    let places = c.loop-log.places.items in
    let was = c.loop-log.invariant in
    let owners : List records.Log → List (List _) = map (λ (l : records.Log). l.owner) in
    let more : c.push.new.self.items ≡ places ++ p ∷ [] = c.in_ok-push.ensures.items in
    record {
      names = ap (map (λ (q : world.Place). q.me)) more ∙ map_more (λ (q : world.Place). q.me) places p ∙ ap (λ names. names ++ p.me ∷ []) was.names
          ∙ ap (λ name. owners (map seen done) ++ name ∷ []) c.in_ok-opened.ensures.name ∙ sym (map_more (λ (l : records.Log). l.owner) (map seen done) (seen log)) ∙ ap owners (sym (map_more seen done log));
      new = subst (λ (ps : List world.Place). (q : world.Place) → Stands ps q → IsNew c.args.settings q) (sym more) (before_or_last (IsNew c.args.settings) places p was.new c.in_ok-opened.ensures.new);
      logs = subst (HaveNodes (map seen (done ++ log ∷ []))) (sym more) (nodes_more seen done log places p was.logs c.in_ok-opened.ensures.log);
      sure = λ all. subst (λ (ps : List world.Place). (q : world.Place) → Stands ps q → IsSure q.log) (sym more)
          (before_or_last (λ (q : world.Place). IsSure q.log) places p (was.sure (sure_before seen done log all)) (c.in_ok-opened.ensures.sure (all (seen log) (last_of_them seen done log))));
      stood = subst (λ (ls : List records.Log). (l : records.Log) → Stands ls l → l.is_open ≡ true) (sym (map_more seen done log))
          (before_or_last (λ (l : records.Log). l.is_open ≡ true) (map seen done) (seen log) was.stood c.in_ok-opened.ensures.stood);
      settings = refl;
    }

pub returns-clause-names : goal.returns-clause-names
returns-clause-names g c =
    let done : c.loop-log.yielded ≡ c.args.logs.items =
    sym (map_same c.loop-log.yielded)
    ∙ (YieldsList-end (YieldsList-from_vec c.args.logs.items c.into_iter-log-iterator.ensures.into_iter_gives.0 (c.into_iter-log-iterator.ensures.into_iter_gives.1 ∙ c.args.logs.ok.0)) c.loop-log.yielded _ c.loop-log.yielded_by _ c.next.new.self c.in-None.is c.next.ensures.steps).0 in
    c.loop-log.invariant.names ∙ ap (λ ls. map (λ (l : records.Log). l.owner) (map g.L.WriteLog.seen ls)) done

pub returns-clause-new : goal.returns-clause-new
returns-clause-new g c = c.loop-log.invariant.new

pub returns-clause-logs : goal.returns-clause-logs
returns-clause-logs g c =
    let done : c.loop-log.yielded ≡ c.args.logs.items =
    sym (map_same c.loop-log.yielded)
    ∙ (YieldsList-end (YieldsList-from_vec c.args.logs.items c.into_iter-log-iterator.ensures.into_iter_gives.0 (c.into_iter-log-iterator.ensures.into_iter_gives.1 ∙ c.args.logs.ok.0)) c.loop-log.yielded _ c.loop-log.yielded_by _ c.next.new.self c.in-None.is c.next.ensures.steps).0 in
    subst (λ ls. HaveNodes (map g.L.WriteLog.seen ls) c.loop-log.places.items) done c.loop-log.invariant.logs

pub returns-clause-sure : goal.returns-clause-sure
returns-clause-sure g c =
    let done : c.loop-log.yielded ≡ c.args.logs.items =
    sym (map_same c.loop-log.yielded)
    ∙ (YieldsList-end (YieldsList-from_vec c.args.logs.items c.into_iter-log-iterator.ensures.into_iter_gives.0 (c.into_iter-log-iterator.ensures.into_iter_gives.1 ∙ c.args.logs.ok.0)) c.loop-log.yielded _ c.loop-log.yielded_by _ c.next.new.self c.in-None.is c.next.ensures.steps).0 in
    λ all. c.loop-log.invariant.sure (subst (λ ls. AreSureLogs (map g.L.WriteLog.seen ls)) (sym done) all)

pub returns-in_err-opened-clause-why : goal.returns-in_err-opened-clause-why
returns-in_err-opened-clause-why g c =
    let seen = g.L.WriteLog.seen in
    let logs = c.args.logs.items in
    let log = c.in-Some-log.log in
    let done = c.loop-log.yielded in
    let source = YieldsList-from_vec logs c.into_iter-log-iterator.ensures.into_iter_gives.0 (c.into_iter-log-iterator.ensures.into_iter_gives.1 ∙ c.args.logs.ok.0) in
    let turn = YieldsList-turn source done _ c.loop-log.yielded_by _ c.next.new.self log c.in-Some-log.is c.next.ensures.steps in
    let so_far : done ≡ take (length done) logs = sym (map_same done) ∙ YieldsList-so_far source done _ c.loop-log.yielded_by in
    let before : (l : records.Log) → Stands (map seen (take (length done) logs)) l → l.is_open ≡ true =
    subst (λ ls. (l : records.Log) → Stands (map seen ls) l → l.is_open ≡ true) so_far c.loop-log.invariant.stood in
    let given : c.refusal.result ≡ refusal c.args.settings (map seen logs) = c.refusal.ensures ∙ ap (λ ls. refusal c.args.settings (map seen ls)) c.deref.ensures.value in
    let none : refusal c.args.settings (map seen logs) ≡ None = sym given ∙ none_given c.refusal.result c.in_default.not-Some in
    let p = err_from_is_err_and c.from_residual.result c.from_residual.ensures.1 in
    let why : IsOpeningFault (seen log) p.0 = subst (IsOpeningFault (seen log)) (sym p.2) c.in_err-opened.ensures.why in
    rw p.1 (subst (λ (o : Option Fault). IsMakingFault o (map seen logs) p.0) (sym none) (first_fault seen logs (length done) log p.0 turn.0 turn.1 before why))

pub returns-in_err-push-clause-why : goal.returns-in_err-push-clause-why
returns-in_err-push-clause-why g c =
    let seen = g.L.WriteLog.seen in
    let logs = c.args.logs.items in
    let log = c.in-Some-log.log in
    let done = c.loop-log.yielded in
    let source = YieldsList-from_vec logs c.into_iter-log-iterator.ensures.into_iter_gives.0 (c.into_iter-log-iterator.ensures.into_iter_gives.1 ∙ c.args.logs.ok.0) in
    let turn = YieldsList-turn source done _ c.loop-log.yielded_by _ c.next.new.self log c.in-Some-log.is c.next.ensures.steps in
    let so_far : done ≡ take (length done) logs = sym (map_same done) ∙ YieldsList-so_far source done _ c.loop-log.yielded_by in
    let before : (l : records.Log) → Stands (map seen (take (length done) logs)) l → l.is_open ≡ true =
    subst (λ ls. (l : records.Log) → Stands (map seen ls) l → l.is_open ≡ true) so_far c.loop-log.invariant.stood in
    let given : c.refusal.result ≡ refusal c.args.settings (map seen logs) = c.refusal.ensures ∙ ap (λ ls. refusal c.args.settings (map seen ls)) c.deref.ensures.value in
    let none : refusal c.args.settings (map seen logs) ≡ None = sym given ∙ none_given c.refusal.result c.in_default.not-Some in
    let p = err_from_is_err_and c.from_residual-in_err-push.result c.from_residual-in_err-push.ensures.1 in
    let why : IsOpeningFault (seen log) p.0 = inr (c.in_ok-opened.ensures.stood, p.2) in
    rw p.1 (subst (λ (o : Option Fault). IsMakingFault o (map seen logs) p.0) (sym none) (first_fault seen logs (length done) log p.0 turn.0 turn.1 before why))
