-- By the right to make a word at home its cell is set under a book's invariant, and the log grows. Assumes `Logic`.
use Rattle.std.proofs.Common.{◌≡◌, ℕ, ◌+◌, true, List, [], ◌∷◌, ◌++◌, map, length, set, sym, refl, subst, arith}
use mathlib.Core.List.{IsPrefix}
use seplogic.Ra.Ura.{Ura}
use base.Fraction.{full_share}
use base.Share.{quarter, three_quarters}
use base.Stored.{Coded}
use base.Logic.{SProp, ent, sep, ex, all, guard, upd, id⊢, apply∗, all_e, upd_i, guard_i}
use base.Fml.{Fml, ftrue, finv, fnamed}
use base.Growing.{latest}
use types.Logic.{Logic, sem}
use types.Growing.{latest_grows, latest_shows, latest_bounds}
use types.Kit.{‵, raw, ◌⊛◌, some, given, later, ◌$◌, ◌∵◌, !, qed, by, move, keep, drop, split, split3, join, fsplit, fsplit3, fjoin, fjoin3, fpick, fpack, pick, learn, show, check, frame, assume, suffices, settle, done, use1, use2, use3, rewrite}
use denote.Steps.{nothing}
use Rattle.logbook.specs.Pages.{Cell, cell, Book, Calm, Right, may_make_home, nib}
use Rattle.logbook.specs.Kept.{part, roster, nib_holds, pen_owns, logs, Rules, reached, standing, contents, seen_owns}
use Rattle.logbook.proofs.Roster.{prefix_out, prefix_in, resets, joined, Reset, at_home}
use Rattle.sb_views.specs.Recording.{Lengthens, StandsAt}

module _ {M : Type 1} {𝓤 : Ura M} (𝓛 : Logic 𝓤) where
  open 𝓛 use {H}

  abbrev Pr : Type 2
  Pr = SProp 𝓤

  abbrev ◌⊢◌ : Pr → Pr → Type 1
  P ⊢ Q = ent 𝓤 P Q

  abbrev ◌∗◌ : Pr → Pr → Pr
  P ∗ Q = sep 𝓤 P Q

  abbrev ⟦◌⟧ : Fml → Pr
  ⟦ P ⟧ = sem 𝓛 P

  infix 26 ◌⊢◌
  infixr 35 ◌∗◌
  module _ {E : Type 0} (cv : Coded E) (rule : Rules E) (bk : Book) (names : List ℕ) where
    abbrev J : Fml
    J = contents cv.code rule bk.log_name bk.cells_name names

    abbrev N : Fml
    N = fnamed bk.number J

    abbrev had : List E → Fml
    had = reached cv.code bk.log_name

    abbrev top : List E → Fml
    top log = latest logs full_share bk.log_name (map cv.code log)

    abbrev K : List E → Fml
    K = seen_owns cv.code rule bk names

    abbrev Q : Type 0
    Q = Calm (rule.keeps names)

    opened : (log : List E) → ⟦ K log ⟧ ⊢ guard 𝓤 Q (⟦ N ⟧ ∗ ⟦ had log ⟧)
    unfolding Rattle.logbook.specs.Kept.seal
    opened log = id⊢ 𝓤 _

    closed : (log : List E) → Q → ⟦ N ⟧ ∗ ⟦ had log ⟧ ⊢ ⟦ K log ⟧
    unfolding Rattle.logbook.specs.Kept.seal
    closed log q = guard_i 𝓤 Q (⟦ N ⟧ ∗ ⟦ had log ⟧) q

    under : (log l : List E) → ⟦ top log ⟧ ∗ ⟦ had l ⟧ ⊢ guard 𝓤 (IsPrefix l log) (⟦ top log ⟧ ∗ ⟦ had l ⟧)
    under log l = qed 𝓛 (‵ (top log) ∷ ‵ (had l) ∷ []) ∵ use2 𝓛 (given (IsPrefix (map cv.code l) (map cv.code log)) (‵ (top log) ⊛ ‵ (had l))) (latest_bounds logs 𝓛 full_share bk.log_name (map cv.code log) (map cv.code l)) $
        learn ! (λ p. check ! (prefix_out cv l log p) $ done !)

    shown : (log : List E) → ⟦ top log ⟧ ⊢ ⟦ top log ⟧ ∗ ⟦ had log ⟧
    shown log = latest_shows logs 𝓛 full_share bk.log_name (map cv.code log) (map cv.code log) (logs.same (map cv.code log))

    shut : (cs : List Cell) (log : List E) → rule.holds cs log → ⟦ roster bk.cells_name 0 cs ⟧ ∗ ⟦ top log ⟧ ∗ ⟦ rule.keeps names (rule.shows log) ⟧ ⊢ ⟦ J ⟧
    shut cs log so = qed 𝓛 (‵ (roster bk.cells_name 0 cs) ∷ ‵ (top log) ∷ ‵ (rule.keeps names (rule.shows log)) ∷ []) ∵ nothing ! $ fpack ! (rule.holds cs log) (λ _. ftrue) so $ move ! (3 ∷ 0 ∷ []) $ fjoin ! $
        move ! (1 ∷ 2 ∷ 0 ∷ []) $ fjoin3 ! $ fpack ! (List Cell × List E) (standing cv.code rule bk.log_name bk.cells_name names) (cs, log) $ done !

    abbrev Open : List E → List Cell × List E → Pr
    Open l s = guard 𝓤 (rule.holds s.0 s.1 × IsPrefix l s.1) (⟦ roster bk.cells_name 0 s.0 ⟧ ∗ ⟦ top s.1 ⟧ ∗ ⟦ rule.keeps names (rule.shows s.1) ⟧)

    looked : (l : List E) → ⟦ J ⟧ ∗ ⟦ had l ⟧ ⊢ ex 𝓤 (Open l)
    looked l = qed 𝓛 (‵ J ∷ ‵ (had l) ∷ []) ∵ fpick ! (λ s. fsplit3 ! $ move ! (2 ∷ []) $ fsplit ! $ move ! (1 ∷ []) $ fpick ! (λ so. drop ! $ move ! (2 ∷ 3 ∷ []) $
        use2 𝓛 (given (IsPrefix l s.1) (‵ (top s.1) ⊛ ‵ (had l))) (under s.1 l) $ learn ! (λ p. split ! $ show ! (Open l) s $ check ! (so, p) $ keep ! (3 ∷ 0 ∷ 2 ∷ []) $ done !)))

    abbrev seeing : List E → types.Kit.Item 𝓤
    seeing l = some (λ (s : List Cell × List E). given (rule.holds s.0 s.1 × IsPrefix l s.1) (‵ (roster bk.cells_name 0 s.0) ⊛ ‵ (top s.1) ⊛ ‵ (rule.keeps names (rule.shows s.1))))

    abbrev pub Recorded : ℕ → ℕ → List E → List E → Pr
    Recorded k n x more = guard 𝓤 (StandsAt rule.holds k n x) (⟦ K (x ++ more) ⟧ ∗ ⟦ pen_owns bk (nib may_make_home k (n + length more)) ⟧)

    pub records : (s : Right) (k n : ℕ) (x more : List E) → s ≡ may_make_home → Lengthens rule.holds rule.shows k n x more → ⟦ K x ⟧ ∗ ⟦ pen_owns bk (nib s k n) ⟧ ⊢ H.⇛ (Recorded k n x more)
    unfolding pen_owns
    records s k n x more is law = let Z : Pr = Recorded k n x more in let δ : ℕ = bk.cells_name in let m : ℕ = n + length more in
        qed 𝓛 (‵ (K x) ∷ ‵ (nib_holds δ s k n) ∷ []) ∵ rewrite ! 1 (λ (r : Right). ‵ (nib_holds δ r k n)) is refl $ use1 𝓛 (given Q (‵ N ⊛ ‵ (had x))) (opened x) $ learn ! (λ calm. split ! $
        use1 𝓛 (‵ N ⊛ ‵ N) (𝓛.invs.named_dup bk.number J) $ split ! $ use1 𝓛 (‵ (finv J)) (𝓛.invs.named_inv bk.number J) $
        suffices ! _ (𝓛.invs.inv_acc J Z) $ frame ! $ assume ! (‵ J) $ move ! (0 ∷ 2 ∷ []) $ use2 𝓛 (seeing x) (looked x) $ pick ! (λ t. learn ! (λ so. split3 ! $
        let cs : List Cell = t.0 in let log : List E = t.1 in let v : ℕ = (cell cs k).0 in let ds : List Cell = set cs k (m, true) in let after : List E = log ++ more in let r = law cs log so.0 so.1 in
        use1 𝓛 (‵ (part δ k three_quarters v) ⊛ raw (all 𝓤 (Reset 𝓛 δ 0 cs k k))) (at_home 𝓛 δ cs 0 k k (omega arith) r.0 r.1) $ split ! $ move ! (5 ∷ 0 ∷ []) $
        use2 𝓛 (given (n ≡ v) (‵ (part δ k full_share n))) (joined 𝓛 δ k n v) $ learn ! (λ same. let go = r.2 (sym same) in
        use1 𝓛 (raw (upd 𝓤 (⟦ part δ k quarter m ⟧ ∗ ⟦ part δ k three_quarters m ⟧))) (resets 𝓛 δ k n m) $ settle 𝓛 (⟦ J ⟧ ∗ Z) (‵ (part δ k quarter m) ⊛ ‵ (part δ k three_quarters m)) $ split ! $ move ! (2 ∷ []) $
        use1 𝓛 (raw (Reset 𝓛 δ 0 cs k k m)) (all_e 𝓤 (Reset 𝓛 δ 0 cs k k) m) $ move ! (2 ∷ 0 ∷ []) $ use2 𝓛 (‵ (roster δ 0 ds)) (apply∗ 𝓤 ⟦ part δ k three_quarters m ⟧ ⟦ roster δ 0 ds ⟧) $ move ! (2 ∷ []) $
        use1 𝓛 (raw (upd 𝓤 ⟦ top after ⟧)) (latest_grows logs 𝓛 bk.log_name (map cv.code log) (map cv.code after) (prefix_in cv log more)) $ settle 𝓛 (⟦ J ⟧ ∗ Z) (‵ (top after)) $ use1 𝓛 (‵ (top after) ⊛ ‵ (had after)) (shown after) $ split ! $
        suffices ! _ (upd_i 𝓤 (⟦ J ⟧ ∗ Z)) $ rewrite ! 4 (λ (l : List E). ‵ (rule.keeps names l)) (sym go.2) refl $ move ! (2 ∷ 0 ∷ 4 ∷ []) $ use3 𝓛 (‵ J) (shut ds after go.1) $ frame ! $
        check ! (cs, subst (λ (l : List E). rule.holds cs l) go.0 so.0, sym same) $ rewrite ! 0 (λ (l : List E). ‵ (had (l ++ more))) go.0 refl $ move ! (2 ∷ 0 ∷ []) $ use2 𝓛 (‵ (K (x ++ more))) (closed (x ++ more) calm) $ frame ! $ done !))))
