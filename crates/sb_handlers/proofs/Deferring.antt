-- What the answers of the handler within make of an answer.
use Rattle.std.proofs.Common.{◌≡◌, ℕ, true, false, sym, subst, List, [], ◌∷◌, inl, inr, Option, None, Result, Ok}
use Rattle.std.specs.Prelude.{MatchBool}
use Rattle.sb_types.specs.declared.fault.Fault.{Fault}
use Rattle.sb_types.specs.Records.{Block}
use Rattle.sb_digest.specs.Digests.{Digest}
use Rattle.sb_session.specs.Handlers.{Act, gives}
use Rattle.sb_handlers.specs.declared.vain_offers.Offer.{Offer}
use Rattle.sb_handlers.specs.Deferring.{Tries, TriesOr, Gives, Defers, IsDeferral, unless_empty, is_any_new, least_times}

module _ {H : Type 0} (step : H → Act → H → Type 0) (offers : List Offer) (digest : Digest) where
  tries : (times : ℕ) (old new : H) (copy : Digest) (blocks : List Block) → IsDeferral offers digest times copy → step old (gives copy (Ok blocks)) new
      → Tries step offers digest times old (Ok (unless_empty blocks)) new
  tries times old new copy [] is took = inr (copy, is, took)
  tries times old new copy (b ∷ bs) is took = (copy, is, took)

  -- a try gives the delta, if it has a block
  pub tried : (times : ℕ) (old new : H) (copy : Digest) (blocks : List Block) (given : Option (List Block)) → IsDeferral offers digest times copy
      → step old (gives copy (Ok blocks)) new → given ≡ unless_empty blocks → Tries step offers digest times old (Ok given) new
  tried times old new copy blocks given is took same =
      subst (λ it. Tries step offers digest times old (Ok it) new) (sym same) (tries times old new copy blocks is took)

  -- if nothing was offered in vain that was not deferred since
  pub defers_rest : (times : ℕ) (old new : H) (answer : Result (List Block) Fault) → is_any_new offers digest ≡ false → times ≡ least_times offers digest
      → TriesOr step offers digest times (Gives step digest) old answer new → Defers offers step digest old answer new
  defers_rest times old new answer none least took =
      subst (λ b. MatchBool b (TriesOr step offers digest 0 (TriesOr step offers digest (least_times offers digest) (Gives step digest)) old answer new)
      (TriesOr step offers digest (least_times offers digest) (Gives step digest) old answer new)) (sym none)
      (subst (λ t. TriesOr step offers digest t (Gives step digest) old answer new) least took)

  -- if something was, and nothing is left without all of it
  pub defers_later : (times : ℕ) (old mid new : H) (answer : Result (List Block) Fault) (kept : List Offer) → is_any_new offers digest ≡ true
      → times ≡ least_times offers digest → kept ≡ offers → Tries step offers digest 0 old (Ok None) mid
      → TriesOr step kept digest times (Gives step digest) mid answer new → Defers offers step digest old answer new
  defers_later times old mid new answer kept some least same first took =
      subst (λ b. MatchBool b (TriesOr step offers digest 0 (TriesOr step offers digest (least_times offers digest) (Gives step digest)) old answer new)
      (TriesOr step offers digest (least_times offers digest) (Gives step digest) old answer new)) (sym some)
      (inr (
        mid,
        first,
        subst (λ t. TriesOr step offers digest t (Gives step digest) mid answer new) least
            (subst (λ os. TriesOr step os digest times (Gives step digest) mid answer new) same took),
      ))
