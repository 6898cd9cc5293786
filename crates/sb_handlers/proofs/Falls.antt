-- Of digests of one log each none is a fall, and what was reported long before is found.
use Rattle.std.proofs.Common.{◌≡◌, ◌⊎◌, inl, inr, ⊎_elim, ℕ, ◌+◌, ◌-◌, ◌≤◌, ◌<◌, Bool, true, false, ◌&&◌, ◌||◌, nat_lt, max, refl, sym, subst, ap, ◌∙◌, List, [], ◌∷◌, ◌++◌, map, Option, Some, None, is_some, position, slice_set, slice_index_or, arith}
use Rattle.std.specs.List.{list_any}
use Rattle.std.proofs.lemmas.Bool.{true≢false, false≢true, cases_lt, and_parts, and_from, and_left, or_from, ltb-true, ltb-false, lt-ltb, cond-true, cond-false, cond_both, false_from_ne_true}
use Rattle.std.proofs.lemmas.List.Quantifiers.{position-Some}
use Rattle.sb_types.specs.Runs.{Stands}
use Rattle.sb_types.proofs.Standing.{either}
use Rattle.sb_types.proofs.Texts.{same_text}
use Rattle.sb_handlers.specs.declared.reported_versions.TheConstants.{LATE_MOST}
use Rattle.sb_handlers.specs.declared.reported_versions.VersionFall.{VersionFall}
use Rattle.sb_handlers.specs.declared.reported_versions.Reading.{Reading}
use Rattle.sb_handlers.specs.declared.reported_versions.DatedVersion.{DatedVersion}
use Rattle.sb_handlers.specs.declared.reported_versions.Reporter.{Reporter}
use Rattle.sb_handlers.specs.ReportedVersions.{is_long_before, is_above, is_due, fall_in, fall_of, with_version, with_fall, takes, is_of, hears, new_reporter, is_fall, falls_after, IsHeard, Reads, AreInOrder, Made, AreOfOneLogEach, takes_all, AreReadBy, has_fall, without_fall, IsFallTaken}

not_more : (a b : ℕ) → b ≤ a → max a b ≡ a
not_more a b le = grind (arith, le)

more : (a b : ℕ) → a < b → max a b ≡ b
more a b le = grind (arith, le)

module _ (digests : List Made) (each : AreOfOneLogEach digests) where
  -- a node of this name reported the version until this moment
  abbrev WasReported : List ℕ → ℕ → ℕ → Type 0
  WasReported name version moment = (d : Made) × Stands digests d × (d.reading.name ≡ name) × (d.reading.version ≡ version) × (d.reading.at ≤ moment)

  later : (name : List ℕ) (version m n : ℕ) → WasReported name version m → m ≤ n → WasReported name version n
  later name version m n report up = (report.0, report.1, report.2, report.3, omega (arith, report.4, up))

  most_reported : (name : List ℕ) (a b n : ℕ) → WasReported name a n → WasReported name b n → WasReported name (max a b) n
  most_reported name a b n one other =
      ⊎_elim (λ less. subst (λ v. WasReported name v n) (sym (more a b less)) other) (λ le. subst (λ v. WasReported name v n) (sym (not_more a b le)) one) (cases_lt a b)

  record IsTrue (now : ℕ) (t : Reporter) : Type 0 where
    most : WasReported t.name t.most now
    older : WasReported t.name t.older.version t.older.at
    newer : WasReported t.name t.newer.version t.newer.at
    none : t.fall ≡ None

  true_later : (now moment : ℕ) (t : Reporter) → IsTrue now t → now ≤ moment → IsTrue moment t
  true_later now moment t is up = record { most = later t.name t.most now moment is.most up; older = is.older; newer = is.newer; none = is.none }

  module _ (d : Made) (there : Stands digests d) where
    reported_now : WasReported d.reading.name d.reading.version d.reading.at
    reported_now = (d, there, refl, refl, omega arith)

    not_above : (t : DatedVersion) (name : List ℕ) → d.reading.name ≡ name → WasReported name t.version t.at → is_above t d.reading ≡ false
    not_above t name same report = false_from_ne_true (is_above t d.reading) (λ above.
        let parts = and_parts (is_long_before t d.reading.since) (nat_lt d.reading.version t.version) above in
        let far = ltb-true LATE_MOST (d.reading.since - t.at) parts.0 in
        let less = ltb-true d.reading.version t.version parts.1 in
        let read = each.read report.0 report.1 in
        let late = each.late d there in
        let before : report.0.made < d.made = omega (arith, far, read, late, report.4) in
        let rises = each.rises report.0 d report.1 there (report.2 ∙ sym same) before in
        absurd (omega (arith, rises, less, report.3)))

    no_fall : (now : ℕ) (t : Reporter) → d.reading.name ≡ t.name → IsTrue now t → fall_in t d.reading ≡ None
    no_fall now t same is =
        cond-false (is_above t.newer d.reading) _ _ (not_above t.newer t.name same is.newer)
        ∙ cond-false (is_above t.older d.reading) _ _ (not_above t.older t.name same is.older)

    unchanged : (now : ℕ) (t : Reporter) → d.reading.name ≡ t.name → IsTrue now t → with_fall d.reading t ≡ t
    unchanged now t same is = cond-false (is_some (fall_in t d.reading) && is_due t.last_fall_at d.reading.at) _ _ (and_left _ _ (ap is_some (no_fall now t same is)))

    versioned : (now : ℕ) (t : Reporter) → d.reading.name ≡ t.name → now ≤ d.reading.at → IsTrue now t → IsTrue d.reading.at (with_version d.reading t)
    versioned now t same up is =
        let own = subst (λ name. WasReported name d.reading.version d.reading.at) same reported_now in
        let most = most_reported t.name t.most d.reading.version d.reading.at (later t.name t.most now d.reading.at is.most up) own in
        cond_both (is_long_before t.newer d.reading.at) _ _ (IsTrue d.reading.at)
        (λ long. record { most = most; older = is.newer; newer = most; none = is.none })
        (λ short. record { most = most; older = is.older; newer = is.newer; none = is.none })

    heard : (now : ℕ) (t : Reporter) → now ≤ d.reading.at → IsTrue now t → IsTrue d.reading.at (hears d.reading t)
    heard now t up is =
        cond_both (is_of d.reading.name t) (takes d.reading t) t (IsTrue d.reading.at)
        (λ own. let same = sym (same_text t.name d.reading.name own) in
        subst (λ u. IsTrue d.reading.at (with_version d.reading u)) (sym (unchanged now t same is)) (versioned now t same up is))
        (λ other. true_later now d.reading.at t is up)

    all_heard : (now : ℕ) (all : List Reporter) → now ≤ d.reading.at → ((t : Reporter) → Stands all t → IsTrue now t)
        → (t : Reporter) → Stands (map (hears d.reading) all) t → IsTrue d.reading.at t
    all_heard now [] up is t stands = absurd stands
    all_heard now (x ∷ xs) up is t stands =
        ⊎_elim (λ same. subst (IsTrue d.reading.at) same (heard now x up (is x (inl refl)))) (all_heard now xs up (λ y s. is y (inr s)) t) stands

    none_falls : (now : ℕ) (all : List Reporter) → ((t : Reporter) → Stands all t → IsTrue now t) → is_fall all d.reading ≡ false
    none_falls now [] is = refl
    none_falls now (x ∷ xs) is =
        or_from (is_of d.reading.name x && is_some (fall_in x d.reading)) (is_fall xs d.reading)
        (false_from_ne_true _ (λ h.
        let parts = and_parts (is_of d.reading.name x) (is_some (fall_in x d.reading)) h in
        false≢true (sym (ap is_some (no_fall now x (sym (same_text x.name d.reading.name parts.0)) (is x (inl refl)))) ∙ parts.1)))
        (none_falls now xs (λ y s. is y (inr s)))

    new_heard : (now : ℕ) (all new : List Reporter) → now ≤ d.reading.at → ((t : Reporter) → Stands all t → IsTrue now t)
        → IsHeard all d.reading new → (t : Reporter) → Stands new t → IsTrue d.reading.at t
    new_heard now all new up is heard_so t stands =
        ⊎_elim (λ same. all_heard now all up is t (subst (λ l. Stands l t) same stands))
        (λ added. ⊎_elim (all_heard now all up is t)
        (⊎_elim (λ (same : new_reporter d.reading ≡ t). subst (IsTrue d.reading.at) same (record { most = reported_now; older = reported_now; newer = reported_now; none = refl })) (λ none. absurd none))
        (either (map (hears d.reading) all) (new_reporter d.reading ∷ []) t (subst (λ l. Stands l t) added.1 stands)))
        heard_so

  abbrev Nothing : List Reporter → ℕ → ℕ → Type 0
  Nothing end falls end_falls = (end_falls ≡ falls) × ((t : Reporter) → Stands end t → t.fall ≡ None)

  reads_true : (rest : List Made) (now : ℕ) (all end : List Reporter) (falls end_falls : ℕ) → ((d : Made) → Stands rest d → Stands digests d)
      → AreInOrder now (map (λ d. d.reading) rest) → ((t : Reporter) → Stands all t → IsTrue now t)
      → Reads (map (λ d. d.reading) rest) all falls end end_falls → Nothing end falls end_falls
  reads_true [] now all end falls end_falls there order is reads = (reads.1, λ t stands. (is t (subst (λ l. Stands l t) reads.0 stands)).none)
  reads_true (d ∷ ds) now all end falls end_falls there order is reads =
      let own = there d (inl refl) in
      let on = reads_true ds d.reading.at reads.0 end (falls_after falls all d.reading) end_falls (λ e s. there e (inr s)) order.1
      (new_heard d own now all reads.0 order.0 is reads.1) reads.2 in
      (on.0 ∙ cond-false (is_fall all d.reading) _ _ (none_falls d own now all is), on.1)

pub nothing_is_reported : (digests : List Made) (all : List Reporter) (falls : ℕ) → AreOfOneLogEach digests → Reads (map (λ d. d.reading) digests) [] 0 all falls
    → (falls ≡ 0) × ((t : Reporter) → Stands all t → t.fall ≡ None)
nothing_is_reported digests all falls each reads =
    reads_true digests each digests 0 [] all 0 falls (λ d s. s) each.order (λ t none. absurd none) reads

not_less : (v a b : ℕ) → v ≤ a → v ≤ max a b
not_less v a b le = grind (arith, le)

-- the version was reported by the moment, and what is known now is not later than this
record Has (v moment now : ℕ) (t : Reporter) : Type 0 where
  most : v ≤ t.most
  newer : (t.newer.at ≤ moment) ⊎ (v ≤ t.newer.version)
  at : t.newer.at ≤ now

-- it is known long before another moment
record Knows (v since : ℕ) (t : Reporter) : Type 0 where
  most : v ≤ t.most
  newer : v ≤ t.newer.version
  long : (t.newer.at + LATE_MOST < since) ⊎ ((v ≤ t.older.version) × (t.older.at + LATE_MOST < since))

has_fallen : (v moment now : ℕ) (r : Reading) (t : Reporter) → Has v moment now t → Has v moment now (with_fall r t)
has_fallen v moment now r t has =
    cond_both (is_some (fall_in t r) && is_due t.last_fall_at r.at) _ _ (Has v moment now)
    (λ fell. record { most = has.most; newer = has.newer; at = has.at }) (λ none. has)

has_taken : (v moment now : ℕ) (r : Reading) (t : Reporter) → now ≤ r.at → Has v moment now t → Has v moment r.at (takes r t)
has_taken v moment now r t up had =
    let has = has_fallen v moment now r t had in
    let u = with_fall r t in
    let most = not_less v u.most r.version has.most in
    cond_both (is_long_before u.newer r.at) _ _ (Has v moment r.at)
    (λ long. record { most = most; newer = inr most; at = omega arith })
    (λ short. record { most = most; newer = has.newer; at = omega (arith, has.at, up) })

long_before : (t : DatedVersion) (moment : ℕ) → t.at + LATE_MOST < moment → is_long_before t moment ≡ true
long_before t moment far = lt-ltb LATE_MOST (moment - t.at) (omega (arith, far))

-- reported again long after, it is known
known : (v moment now since : ℕ) (r : Reading) (t : Reporter) → now ≤ r.at → moment + LATE_MOST < r.at → r.at + LATE_MOST < since
    → Has v moment now t → Knows v since (takes r t)
known v moment now since r t up far long had =
    let has = has_fallen v moment now r t had in
    let u = with_fall r t in
    let most = not_less v u.most r.version has.most in
    cond_both (is_long_before u.newer r.at) _ _ (Knows v since)
    (λ rolls. record { most = most; newer = most; long = inl long })
    (λ short. record {
      most = most;
      newer = ⊎_elim (λ before. absurd (false≢true (sym short ∙ long_before u.newer r.at (omega (arith, before, far))))) (λ reported. reported) has.newer;
      long = inl (omega (arith, has.at, up, long));
    })

knows_fallen : (v since : ℕ) (r : Reading) (t : Reporter) → Knows v since t → Knows v since (with_fall r t)
knows_fallen v since r t knows =
    cond_both (is_some (fall_in t r) && is_due t.last_fall_at r.at) _ _ (Knows v since)
    (λ fell. record { most = knows.most; newer = knows.newer; long = knows.long }) (λ none. knows)

knows_on : (v since : ℕ) (r : Reading) (t : Reporter) → r.at ≤ since → Knows v since t → Knows v since (takes r t)
knows_on v since r t up knew =
    let knows = knows_fallen v since r t knew in
    let u = with_fall r t in
    let most = not_less v u.most r.version knows.most in
    cond_both (is_long_before u.newer r.at) _ _ (Knows v since)
    (λ rolls. let far = ltb-true LATE_MOST (r.at - u.newer.at) rolls in
    record { most = most; newer = most; long = inr (knows.newer, omega (arith, far, up)) })
    (λ short. record { most = most; newer = knows.newer; long = knows.long })

knows_all : (v since : ℕ) (rs : List Reading) (t : Reporter) → AreReadBy since rs → Knows v since t → Knows v since (takes_all rs t)
knows_all v since [] t by knows = knows
knows_all v since (r ∷ rs) t by knows = knows_all v since rs (takes r t) by.1 (knows_on v since r t by.0 knows)

above : (t : DatedVersion) (v : ℕ) (r : Reading) → r.version < v → v ≤ t.version → t.at + LATE_MOST < r.since → is_above t r ≡ true
above t v r less le far = and_from _ _ (long_before t r.since far) (lt-ltb r.version t.version (omega (arith, less, le)))

is_found : (v : ℕ) (t : Reporter) (r : Reading) → r.version < v → Knows v r.since t → is_some (fall_in t r) ≡ true
is_found v t r less knows =
    cond_both (is_above t.newer r) _ _ (λ (f : Option VersionFall). is_some f ≡ true) (λ newer. refl)
    (λ not_newer. ⊎_elim (λ far. absurd (false≢true (sym not_newer ∙ above t.newer v r less knows.newer far)))
    (λ older. ap is_some (cond-true (is_above t.older r) _ _ (above t.older v r less older.0 older.1))) knows.long)

found_from : (v moment now : ℕ) (between after : List Reading) (again r : Reading) (t : Reporter) → Has v moment now t → AreInOrder now (between ++ again ∷ after)
    → moment + LATE_MOST < again.at → again.at + LATE_MOST < r.since → AreReadBy r.since after → r.version < v
    → is_some (fall_in (takes_all after (takes again (takes_all between t))) r) ≡ true
found_from v moment now [] after again r t has order far long by less =
    is_found v (takes_all after (takes again t)) r less (knows_all v r.since after (takes again t) by (known v moment now r.since again t order.0 far long has))
found_from v moment now (x ∷ xs) after again r t has order far long by less =
    found_from v moment x.at xs after again r (takes x t) (has_taken v moment now x t order.0 has) order.1 far long by less

pub reported_is_found : (t : Reporter) (version moment : ℕ) (between after : List Reading) (again r : Reading)
    → version ≤ t.most → t.newer.at ≤ moment → AreInOrder moment (between ++ again ∷ after)
    → moment + LATE_MOST < again.at → again.at + LATE_MOST < r.since → AreReadBy r.since after → r.version < version
    → is_some (fall_in (takes_all after (takes again (takes_all between t))) r) ≡ true
reported_is_found t version moment between after again r most at order far long by less =
    found_from version moment moment between after again r t (record { most = most; newer = inl at; at = at }) order far long by less

-- the first fall that is to be reported is that of the one at its place
pub first_taken : (old : List Reporter) (place : ℕ) (one : Reporter) → position has_fall old ≡ Some place → slice_index_or old place one ≡ one
    → IsFallTaken old one.fall (slice_set old place (without_fall one))
first_taken old place one at same =
    let there = position-Some has_fall old place one at in
    let has = sym (ap has_fall same) ∙ there.1 in
    by_fall one.fall refl has
  where
    by_fall : (fall : Option VersionFall) → one.fall ≡ fall → is_some fall ≡ true → IsFallTaken old fall (slice_set old place (without_fall one))
    by_fall None none is = absurd (false≢true is)
    by_fall (Some fall) some is = (place, one, at, same, some, refl)
