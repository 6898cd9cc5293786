use Rattle.std.proofs.Common.{◌≡◌, ◌∷◌, ◌∙◌, arith}
use Rattle.sb_types.specs.declared.format.TheConstants.{FRAME_MARK, FRAME_VERSION}
use Rattle.sb_frames.proofs.Fronts.{before_mark, wrong_mark, before_version, wrong_version, before_length, HasLength, has_length, wrong_length, before_payload, has_payload}
use Rattle.sb_frames.proofs.first_payload.payload_in.Goals as goal
use Rattle.sb_frames.proofs.first_payload.payload_in.Goals.{In-Some-split_first_chunk}

pub returns-in_default-clause-none : goal.returns-in_default-clause-none
returns-in_default-clause-none c = before_mark c.args.bytes.now c.in_default.ensures.cases

pub returns-then-mark-clause-fault : goal.returns-then-mark-clause-fault
returns-then-mark-clause-fault c = wrong_mark c.args.bytes.now c.in-Some.bytes.now c.in-Some.mark.now c.in-Some.ensures.cases.0 c.if-mark.true

pub returns-in_default-split_first-clause-none : goal.returns-in_default-split_first-clause-none
returns-in_default-split_first-clause-none c = before_version c.args.bytes.now c.in-Some.bytes.now (rw c.if-mark.false at c.in-Some.ensures.cases.0) c.in_default-split_first.ensures.cases

pub returns-then-version-ne-FRAME_VERSION-clause-fault : goal.returns-then-version-ne-FRAME_VERSION-clause-fault
returns-then-version-ne-FRAME_VERSION-clause-fault c =
    let e : c.args.bytes.now ≡ FRAME_MARK ∷ c.in-Some-split_first.version.now ∷ c.in-Some-split_first.bytes.now = cc (c.in-Some.ensures.cases.0, c.in-Some-split_first.ensures.cases.0) in
    wrong_version c.args.bytes.now c.in-Some-split_first.bytes.now c.in-Some-split_first.version.now e c.if-version-ne-FRAME_VERSION.true

pub returns-in_default-split_first_chunk-clause-none : goal.returns-in_default-split_first_chunk-clause-none
returns-in_default-split_first_chunk-clause-none c =
    let e : c.args.bytes.now ≡ FRAME_MARK ∷ FRAME_VERSION ∷ c.in-Some-split_first.bytes.now = cc (c.in-Some.ensures.cases.0, c.in-Some-split_first.ensures.cases.0) in
    before_length c.args.bytes.now c.in-Some-split_first.bytes.now e c.in_default-split_first_chunk.ensures.cases

cut : (c : In-Some-split_first_chunk) → HasLength c.args.bytes.now c.in-Some-split_first_chunk.length.now c.in-Some-split_first_chunk.bytes.now
cut c =
    let e : c.args.bytes.now ≡ FRAME_MARK ∷ FRAME_VERSION ∷ c.in-Some-split_first.bytes.now = cc (c.in-Some.ensures.cases.0, c.in-Some-split_first.ensures.cases.0) in
    let s = c.in-Some-split_first_chunk.ensures.cases in
    has_length c.args.bytes.now c.in-Some-split_first.bytes.now c.in-Some-split_first_chunk.length.now c.in-Some-split_first_chunk.bytes.now e s.0 s.1 s.2

pub returns-then-length-eq0-clause-fault : goal.returns-then-length-eq0-clause-fault
returns-then-length-eq0-clause-fault c =
    let has = cut (goal.at.returns-then-length-eq0-clause-fault c).In-Some-split_first_chunk in
    wrong_length c.args.bytes.now c.in-Some-split_first_chunk.length.now c.in-Some-split_first_chunk.bytes.now c.from-length.result has (c.from-length.ensures ∙ c.from_be_bytes.ensures) c.then-length-eq0.either

pub returns-in_default-split_at_checked-clause-none : goal.returns-in_default-split_at_checked-clause-none
returns-in_default-split_at_checked-clause-none c =
    let has = cut (goal.at.returns-in_default-split_at_checked-clause-none c).In-Some-split_first_chunk in
    before_payload c.args.bytes.now c.in-Some-split_first_chunk.length.now c.in-Some-split_first_chunk.bytes.now c.from-length.result has (c.from-length.ensures ∙ c.from_be_bytes.ensures) (omega arith) (omega arith) c.in_default-split_at_checked.ensures.cases

pub returns-clause-payload : goal.returns-clause-payload
returns-clause-payload c =
    let has = cut (goal.at.returns-clause-payload c).In-Some-split_first_chunk in
    let parts = c.in-Some-split_at_checked.ensures.cases in
    has_payload c.args.bytes.now c.in-Some-split_first_chunk.length.now c.in-Some-split_first_chunk.bytes.now c.in-Some-split_at_checked.payload.now c.from-length.result (λ i. omega (arith, c.type_inv.bytes i)) has
    (c.from-length.ensures ∙ c.from_be_bytes.ensures) parts.1 parts.3 (omega arith) (omega arith)
