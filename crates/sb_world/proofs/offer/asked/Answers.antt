use Rattle.std.proofs.Common.{◌≡◌, ℕ, true, false, List, [], ◌++◌, map, None, Result, IfErr, sym, ap, subst, ◌∙◌, nat_cmp}
use Rattle.std.proofs.lemmas.List.{append-nil}
use Rattle.std.specs.List.{list_all}
use Rattle.std.specs.List.Sorted.{IsStrictlySortedBy}
use Rattle.std.specs.Cmp.Lexicographic.{slice_cmp}
use Rattle.std.specs.Map.{keys_of}
use Rattle.sb_types.specs.declared.fault.Fault.{Fault}
use Rattle.sb_types.specs.declared.fault.Fault.TheVariants.{NoMemory}
use Rattle.sb_types.specs.Records.{Table}
use Rattle.sb_types.specs.Text.{is_name}
use Rattle.sb_digest.specs.Digests.{Pair, Digest, digest_of}
use Rattle.sb_world.specs.Turns.{numbered_pair, offer_digest}
use Rattle.sb_world.proofs.Asking.{asked_fits, asked_made}
use Rattle.sb_world.proofs.offer.asked.Goals as goal

pub returns-clause-memory : goal.returns-clause-memory
returns-clause-memory c =
    let held = c.args.holdings.now in
    let owner = c.args.owner.now in
    let after = c.args.after in
    let spelled = numbered_pair owner after in
    let parted : c.loop-name.pairs.items ++ map spelled [] ≡ (offer_digest held owner after).pairs =
    subst (λ (ts : List (List ℕ × Table)). c.loop-name.pairs.items ++ map spelled ts ≡ (offer_digest held owner after).pairs) c.in-None.ensures.steps.0 c.loop-name.invariant.pairs in
    let pairs : c.loop-name.pairs.items ≡ (offer_digest held owner after).pairs = sym (append-nil c.loop-name.pairs.items) ∙ parted in
    let rises = subst (λ (ts : List (List ℕ × Table)). IsStrictlySortedBy (slice_cmp nat_cmp) (keys_of ts)) c.tables_from-name-items.ensures.tables c.tables_from-name-items.ensures.ascending in
    let named = subst (λ (ps : List Pair). list_all (λ (pair : Pair). is_name pair.owner) ps ≡ true) pairs c.loop-name.invariant.names in
    let fits = asked_fits held owner after c.tables_from-name-items.ensures.holdings rises named in
    let made = asked_made c.loop-name.pairs.items (offer_digest held owner after) c.new-2.result _ c.new-2.ensures (ap (digest_of false None None) pairs) fits in
    subst (λ (r : Result Digest Fault). IfErr r (λ fault. fault ≡ NoMemory)) (sym made) tt
