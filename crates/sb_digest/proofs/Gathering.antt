-- The pairs of what is held, one after another.
use Rattle.std.proofs.Common.{◌≡◌, ℕ, ◌+◌, ◌-◌, ◌<◌, ◌≤◌, Bool, true, false, List, [], ◌∷◌, ◌++◌, map, length, Option, None, refl, sym, ap, ◌∙◌, subst, arith, nat_cmp, Less, is_lt}
use Rattle.std.specs.Prelude.{filter, cond}
use Rattle.std.specs.List.{list_all, AllByRecursion}
use Rattle.std.specs.List.Sorted.{IsStrictlySortedBy}
use Rattle.std.specs.Cmp.Lexicographic.{slice_cmp}
use Rattle.std.specs.FinMap.{entries}
use Rattle.std.specs.Map.{keys_of}
use Rattle.std.proofs.lemmas.Bool.{and_parts, and_from, le-leb, leb-true, leb-false, true≢false}
use Rattle.std.proofs.lemmas.List.Folds.{list_all-append}
use Rattle.std.proofs.lemmas.List.Sums.{sum_by_push}
use Rattle.std.proofs.lemmas.Map.Keys.{sorted_head, sorted_tail}
use Rattle.sb_types.specs.Records.{Holder}
use Rattle.sb_types.specs.Text.{is_name}
use Rattle.sb_types.specs.Limits.{text_lt}
use Rattle.sb_holdings.specs.Held.{Held}
use Rattle.sb_holdings.specs.Plain.{is_from, holders_from}
use Rattle.sb_digest.specs.Digests.{Pair, digest_of}
use Rattle.sb_digest.specs.Lengths.{pair_length, digest_frame_length}
use Rattle.sb_digest.specs.Limits.{are_pairs_above, is_pair}
use Rattle.sb_digest.specs.Builders.{DigestBuilder, IsDigestBuilder, IsLongestFront, cut_saves, digest_of_first, with_pair, has_room, comes_next}
use Rattle.sb_digest.specs.Pairs.{pair_of, pairs_from}
use Rattle.sb_digest.proofs.Longest.{longest-cut}

-- a pair behind all so far, and behind the last name
above-push : (last : List ℕ) (ps : List Pair) (x : Pair) → text_lt last x.owner ≡ true → are_pairs_above last ps ≡ true → list_all (λ (p : Pair). text_lt p.owner x.owner) ps ≡ true → are_pairs_above last (ps ++ x ∷ []) ≡ true
above-push last [] x before up all = and_from _ _ before refl
above-push last (p ∷ ps) x before up all =
    let parts = and_parts (text_lt last p.owner) _ up in
    let each = and_parts (text_lt p.owner x.owner) _ all in
    and_from _ _ parts.0 (above-push p.owner ps x each.0 parts.1 each.1)

-- the pairs of owners that a test lets pass
all_reached : (test : List ℕ → Bool) (es : List (List ℕ × Holder)) → list_all (λ (p : Pair). test p.owner) (map pair_of (filter (λ e. test e.0) es)) ≡ true
all_reached test [] = refl
all_reached test (e ∷ es) = go (test e.0) refl (all_reached test es)
  where
    go : (b : Bool) → test e.0 ≡ b → list_all (λ (p : Pair). test p.owner) (map pair_of (filter (λ e. test e.0) es)) ≡ true → list_all (λ (p : Pair). test p.owner) (map pair_of (cond b (e ∷ filter (λ e. test e.0) es) (filter (λ e. test e.0) es))) ≡ true
    go true is rest = and_from _ _ is rest
    go false is rest = rest

at_last : (name : List ℕ) (ps : List Pair) (x : List ℕ × Holder) (more : List (List ℕ × Holder)) → AllByRecursion (λ other. slice_cmp nat_cmp name other ≡ Less) (map (λ (p : Pair). p.owner) (ps ++ map pair_of (x ∷ more))) → text_lt name x.0 ≡ true
at_last name [] x more behind = ap is_lt behind.0
at_last name (p ∷ ps) x more behind = at_last name ps x more behind.1

each_before : (ps : List Pair) (x : List ℕ × Holder) (more : List (List ℕ × Holder)) → IsStrictlySortedBy (slice_cmp nat_cmp) (map (λ (p : Pair). p.owner) (ps ++ map pair_of (x ∷ more))) → list_all (λ (p : Pair). text_lt p.owner x.0) ps ≡ true
each_before [] x more rises = refl
each_before (p ∷ ps) x more rises = and_from _ _ (at_last p.owner ps x more (sorted_head (slice_cmp nat_cmp) p.owner _ rises)) (each_before ps x more (sorted_tail (slice_cmp nat_cmp) p.owner _ rises))

owners-pair_of : (ts : List (List ℕ × Holder)) → map (λ (p : Pair). p.owner) (map pair_of ts) ≡ keys_of ts
owners-pair_of [] = refl
owners-pair_of (t ∷ ts) = ap (λ names. t.0 ∷ names) (owners-pair_of ts)

module _ (from : Option (List ℕ)) (held : Held) (f : DigestBuilder) (x : List ℕ × Holder) (more : List (List ℕ × Holder)) (same : f.from ≡ from) (parted : f.pairs ++ map pair_of (x ∷ more) ≡ pairs_from from held) where
  pub next-comes : IsStrictlySortedBy (slice_cmp nat_cmp) (keys_of (holders_from from held)) → comes_next f (pair_of x) ≡ true
  next-comes rises =
      let reached : list_all (λ (p : Pair). is_from from p.owner) (f.pairs ++ map pair_of (x ∷ more)) ≡ true = rw parted (all_reached (is_from from) (entries held.owners)) in
      let last = and_parts (is_from from x.0) _ (and_parts _ _ (sym (list_all-append (λ (p : Pair). is_from from p.owner) f.pairs (map pair_of (x ∷ more))) ∙ reached)).1 in
      let names : map (λ (p : Pair). p.owner) (f.pairs ++ map pair_of (x ∷ more)) ≡ keys_of (holders_from from held) = ap (map (λ (p : Pair). p.owner)) parted ∙ owners-pair_of (holders_from from held) in
      and_from _ _ (rw same last.0) (each_before f.pairs x more (rw names rises))

  pub cut-longest : (want : Bool) (budget : ℕ) → f.budget ≡ budget → IsDigestBuilder f → 0 < length f.pairs → has_room (with_pair f (pair_of x)) ≡ false → IsLongestFront budget want from (pairs_from from held) (digest_of_first want f.from f.pairs (length f.pairs - 1))
  cut-longest want budget bound is some full =
      let room : digest_frame_length (digest_of want f.from None f.pairs) ≤ f.budget + cut_saves = leb-true _ _ is.room in
      let over : f.budget + cut_saves < digest_frame_length (digest_of want f.from None (f.pairs ++ pair_of x ∷ [])) = leb-false _ _ full in
      let longest : IsLongestFront f.budget want f.from (f.pairs ++ map pair_of (x ∷ more)) (digest_of_first want f.from f.pairs (length f.pairs - 1)) = longest-cut want f.from f.budget f.pairs (pair_of x) (map pair_of more) some room over in
      let family : ℕ × Option (List ℕ) → List Pair → Type 0 = λ p ps. IsLongestFront p.0 want p.1 ps (digest_of_first want f.from f.pairs (length f.pairs - 1)) in
      subst (λ ps. family (budget, from) ps) parted (subst (λ o. family (budget, o) (f.pairs ++ map pair_of (x ∷ more))) same (subst (λ n. family (n, f.from) (f.pairs ++ map pair_of (x ∷ more))) bound longest))

behind_nothing : (name : List ℕ) → is_name name ≡ true → text_lt [] name ≡ true
behind_nothing [] is = absurd (true≢false (sym is))
behind_nothing (b ∷ bs) is = refl

-- a pair that comes next and has room, laid behind the others
pub pushed-is : (f : DigestBuilder) (pair : Pair) (items : List Pair) → IsDigestBuilder f → is_pair pair ≡ true → comes_next f pair ≡ true → digest_frame_length (digest_of true f.from None f.pairs) + pair_length pair ≤ f.budget + cut_saves → items ≡ f.pairs ++ pair ∷ [] → IsDigestBuilder (record { budget = f.budget; from = f.from; pairs = items })
pushed-is f pair items is one next room laid =
    let parts = and_parts (is_from f.from pair.owner) _ next in
    let name : is_name pair.owner ≡ true = (and_parts _ _ (and_parts _ _ (and_parts _ _ one).0).0).0 in rw laid record {
      least = is.least;
      most = is.most;
      bound = is.bound;
      pairs = list_all-append is_pair f.pairs (pair ∷ []) ∙ and_from _ _ is.pairs (and_from _ _ one refl);
      reached = list_all-append (λ (p : Pair). is_from f.from p.owner) f.pairs (pair ∷ []) ∙ and_from _ _ is.reached (and_from _ _ parts.0 refl);
      ascending = above-push [] f.pairs pair (behind_nothing pair.owner name) is.ascending parts.1;
      room = le-leb _ _ (omega (arith, sum_by_push pair_length f.pairs pair));
    }
