-- `record` opens what both hold, and takes one step of the book.
use Rattle.std.proofs.Common.{◌+◌, List, [], ◌∷◌, ◌++◌, length, sym, refl}
use mir.Syntax.{a_type, dcons, dnil, named}
use mir.Val.{Val, vunit, vptr}
use mir.MapTy.{inst_fn}
use base.Logic.{SProp, emp}
use base.Fml.{Fml, ftrue, fsep, flft}
use types.Kit.{‵, raw, ◌⊛◌, given, later, ◌$◌, ◌∵◌, !, qed, by, move, keep, drop, split, fsplit, fsplit3, fjoin, fjoin3, learn, use2, await, rewrite, feq_i}
use types.Run.{unit_lit, of_opd, returns, enter}
use types.ByLocal.{alloc_all, pass_all, free_all, look_at, sets}
use contract.Monad.{fact, fact_i}
use contract.Running.{tables}
use denote.Exit.{yes}
use denote.RattleType.{RattleType, owns}
use denote.Signature.{types_at, plain}
use denote.Builtin.{RefOf}
use denote.Ref.{mut_vals, mut_Tells, shr_vals, shr_Tells}
use denote.Steps.{nothing, opens, closes}
use denote.Param.{param, bounded}
use denote.Triple.Walked.{Stays, stay_dropped, stay_ref, walk_of, Goes-dropped, Goes-ref}
use Rattle.atomic_table.proofs.Walks.{proved}
use Rattle.logbook.specs.Pages.{Book, nib, may_make_home}
use Rattle.logbook.specs.Kept.{rules, seen_owns, pen_owns}
use Rattle.logbook.specs.contracts.tokens.Seen as Seen
use Rattle.logbook.specs.contracts.tokens.Pen as Pen
use Rattle.logbook.proofs.Fields.{ends}
use Rattle.sb_views.specs.Recording.{StandsAt}
use Rattle.sb_views.proofs.Recorded.{records}
use Rattle.sb_views.specs.contracts.recording.record.{ended, clauses}
use Rattle.sb_views.specs.contracts.recording.record.Key.{name as #self}
use Rattle.sb_views.proofs.recording.record.Statement.{statement}
use Rattle.sb_views.proofs.recording.record.Code as code

pub record_spec : {M : Type 1} → statement M
record_spec 𝓤 𝓛 𝓜 𝓡 wired E A P X N _ _ _ _ _ g d gn dn _ _ =
    let H = 𝓛.H in let 𝓣 = tables 𝓤 H 𝓜 𝓡 𝓡.env in let E' : RattleType = param 0 E in let A' : RattleType = param 1 A in let P' : RattleType = param 2 P in let X' : RattleType = param 3 X in let En = ended E A P X N g d gn dn in
    let inst = bounded (a_type ∷ a_type ∷ a_type ∷ a_type ∷ a_type ∷ []) (E, (A, (P, (X, (N, tt))))) (dcons d (dcons dn dnil)) in let fn = inst_fn inst code.function in let c = clauses E A P X N g d gn dn 𝓛 𝓜.mem 𝓡.returns in
    let rule = rules g.holds g.shows g.keeps in let cv = E'.coded in
    let hs : Stays En.signature.params En.kept = (stay_ref (0 ∷ []) tt (plain (λ _. Pen.the_row)), (stay_ref (1 ∷ []) tt (plain (λ _. Seen.the_row E' A' P' g)), (stay_dropped (RefOf (2 ∷ []) tt (plain (λ _. X')) (λ _. tt)) yes, tt))) in
    proved 𝓛 En hs c 𝓜 𝓡 (Goes-ref 𝓛 8 0 tt (plain (λ _. Pen.the_row)), (Goes-ref 𝓛 8 1 tt (plain (λ _. Seen.the_row E' A' P' g)), (Goes-dropped 𝓛 8 (RefOf (2 ∷ []) tt (plain (λ _. X')) (λ _. tt)) yes (λ κs x f. refl), tt))) (#self inst) fn (code.unfolded 𝓤 H 𝓜 𝓡 wired (E, (A, (P, (X, (N, tt))))) d dn)
    (λ κs. (mut_vals, (mut_vals, (shr_vals, tt)))) (λ κs. (mut_Tells (named 0) κs.0 (Pen.the_row), (mut_Tells (named 1) κs.1.0 (Seen.the_row E' A' P' g), (shr_Tells (named 2) κs.1.1.0 (X'), tt)))) (λ κs qs bounds a gh are.
    let pen = a.0.now in let seen = a.1.0.now in let more : List E.Denot = gn.entries a.1.1.0.now in let p = a.0.ref_ptr in let s = a.1.0.ref_ptr in let x = a.1.1.0.ref_ptr in
    let pen' : Pen.the_row.Denot = record { marker = record {}; book = seen.book; nib = nib may_make_home pen.nib.key (pen.nib.value + length more) } in
    let seen' : (Seen.the_row E' A' P' g).Denot = record { marker = record {}; book = seen.book; names = seen.names; log = seen.log ++ more } in
    let y : (walk_of 𝓛 En hs c).Ghost = ((κs, qs, bounds, a, (vptr p.0 p.1 ∷ [], (vptr s.0 s.1 ∷ [], (vptr x.0 x.1 ∷ [], tt)))), gh) in let Post : Val → SProp 𝓤 = (walk_of 𝓛 En hs c).post y in
    let toks : Fml = fsep (flft κs.0 qs.0) (fsep (flft κs.1.0 qs.1.0) (fsep (flft κs.1.1.0 qs.1.1.0) (fsep (flft κs.1.1.1.0 qs.1.1.1.0) (fsep (flft κs.1.1.1.1.0 qs.1.1.1.1.0) (fsep (flft κs.1.1.1.1.1.0 qs.1.1.1.1.1.0) (fsep (flft κs.1.1.1.1.1.1.0 qs.1.1.1.1.1.1.0) (fsep (flft κs.1.1.1.1.1.1.1.0 qs.1.1.1.1.1.1.1.0) ftrue))))))) in
    qed 𝓛 ((‵ toks ⊛ ‵ (owns (types_at En.signature.params κs) a y.0.4)) ∷ raw (fact 𝓤 _) ∷ raw (fact 𝓤 _) ∷ raw (fact 𝓤 _) ∷ raw (fact 𝓤 _) ∷ raw (fact 𝓤 _) ∷ given _ (‵ ftrue) ∷ []) ∵ keep ! (6 ∷ 0 ∷ []) $ learn ! (λ asked. drop ! $ split ! $
    fsplit ! $ move ! (1 ∷ []) $ fsplit ! $ move ! (3 ∷ []) $ fsplit ! $ fsplit3 ! $ move ! (3 ∷ []) $ fsplit ! $ fsplit3 ! $ keep ! (5 ∷ 6 ∷ 9 ∷ 1 ∷ 2 ∷ 7 ∷ 8 ∷ []) $
    enter ! 𝓣.C 𝓣.Λ fn (vptr p.0 p.1 ∷ vptr s.0 s.1 ∷ vptr x.0 x.1 ∷ []) Post $ alloc_all ! (λ l. pass_all ! refl ((tt, tt), ((tt, tt), ((tt, tt), tt))) $
    opens ! tt (Pen.the_row) p.0 p.1 (λ vs0. move ! (1 ∷ []) $ fsplit ! $ move ! (6 ∷ 7 ∷ 8 ∷ []) $ opens ! tt (Seen.the_row E' A' P' g) s.0 s.1 (λ vs1. move ! (1 ∷ []) $ fsplit ! $
    rewrite ! 7 (λ (z : Book). ‵ (pen_owns z pen.nib)) asked.0 refl $ move ! (1 ∷ 7 ∷ []) $
    use2 𝓛 (later (given (StandsAt rule.holds pen.nib.key pen.nib.value seen.log) (‵ (seen_owns cv.code rule seen.book seen.names (seen.log ++ more)) ⊛ ‵ (pen_owns seen.book (nib may_make_home pen.nib.key (pen.nib.value + length more))))))
    (records 𝓛 cv rule seen.book seen.names pen.nib.right pen.nib.key pen.nib.value seen.log more asked.1 asked.2) $ await ! tt $ learn ! (λ stands. split ! $
    move ! (2 ∷ 0 ∷ []) $ fjoin ! $ move ! (2 ∷ 0 ∷ 3 ∷ 4 ∷ 5 ∷ []) $ closes ! tt (Seen.the_row E' A' P' g) seen' vs1 s.0 s.1 $
    move ! (4 ∷ 3 ∷ []) $ fjoin ! $ move ! (4 ∷ 0 ∷ 5 ∷ 6 ∷ 7 ∷ []) $ closes ! tt (Pen.the_row) pen' vs0 p.0 p.1 $
    sets ! (of_opd ! (unit_lit !)) refl (tt, tt) $ feq_i ! (List Val) (vunit ∷ []) (vunit ∷ []) refl $
    move ! (6 ∷ 7 ∷ []) $ fjoin ! $ move ! (4 ∷ 0 ∷ []) $ fjoin ! $ nothing ! $ nothing ! $ fjoin ! $ feq_i ! (List Val) (vptr s.0 s.1 ∷ []) (vptr s.0 s.1 ∷ []) refl $ move ! (0 ∷ 6 ∷ 7 ∷ []) $ fjoin3 ! $ fjoin ! $
    feq_i ! (List Val) (vptr p.0 p.1 ∷ []) (vptr p.0 p.1 ∷ []) refl $ move ! (0 ∷ 4 ∷ 5 ∷ []) $ fjoin3 ! $ fjoin ! $
    returns ! (look_at ! 0 refl) $ free_all ! refl $ keep ! (1 ∷ 0 ∷ 2 ∷ []) $ by ! (ends 𝓛 En hs c y (vunit) (tt) (pen', (seen', (tt, tt))) (tt, (tt, (tt, tt))) (fact_i 𝓤 _ (emp 𝓤) (sym asked.0, refl, refl, refl, refl, stands)))))))))
