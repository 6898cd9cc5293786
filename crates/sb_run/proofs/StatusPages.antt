-- A page of a status is within its limits.
use Rattle.std.proofs.Common.{◌≡◌, ◌≢◌, ◌⊎◌, inl, inr, ℕ, ◌+◌, ◌-◌, ◌*◌, ◌≤◌, Bool, true, false, ◌&&◌, if◌then◌else◌, List, [], ◌∷◌, length, drop, Ok, Err, Result, refl, sym, ap, subst, ◌∙◌, arith}
use Rattle.std.specs.Prelude.{nat_le, sum_by, IfErr}
use Rattle.std.specs.List.{list_all}
use Rattle.std.proofs.lemmas.Bool.{and_parts, and_from, le-leb, leb-true}
use Rattle.std.proofs.lemmas.List.Sums.{sum_by-cons}
use Rattle.sb_types.specs.declared.fault.Fault.{Fault}
use Rattle.sb_types.specs.declared.fault.Fault.TheVariants.{NoMemory, Malformed}
use Rattle.sb_types.specs.declared.format.TheConstants.{HEADER_LENGTH, KIND_NODE_STATUS}
use Rattle.sb_types.specs.declared.limits.TheConstants.{NAME_MOST, BUDGET_LEAST, BUDGET_MOST, SHORT_TEXT_MOST, PAYLOAD_MOST}
use Rattle.sb_types.specs.Faults.{Gives}
use Rattle.sb_types.specs.Limits.{are_settings}
use Rattle.sb_types.specs.Records.{Settings}
use Rattle.sb_types.specs.Text.{is_between, is_name_byte, is_name, is_short_text}
use Rattle.std.specs.Str.{is_utf8}
use Rattle.sb_codec.specs.declared.message.node_identity.NodeIdentity.{NodeIdentity}
use Rattle.sb_codec.specs.Records.{Figure, Peer, NodeStatus, status_of}
use Rattle.sb_codec.specs.Lengths.{figure_length, figures_length, peer_length, status_length}
use Rattle.sb_codec.specs.Limits.{is_identity, are_figures_above, are_status_parts}
use Rattle.sb_query.specs.Statuses.{fitting, room_behind, room_for_peers, status_page, if_status}
use Rattle.sb_run.specs.declared.facts.Facts.{Facts}
use Rattle.sb_run.specs.Facts.{figures_of}
use Rattle.sb_run.specs.StatusReplies.{dash, short_text, identity_of}
use Rattle.sb_run.proofs.StatusTexts.{dash_fits}

within_if : (b : Bool) (p : Peer) (run : List Peer) (room : ℕ) → nat_le (peer_length p) room ≡ b → sum_by peer_length run ≤ room - peer_length p
    → sum_by peer_length (if b then p ∷ run else []) ≤ room
within_if true p run room fits within = let most = leb-true (peer_length p) room fits in omega (arith, most, within, sum_by-cons peer_length p run)
within_if false p run room fits within = omega arith

-- a run of peers takes no more than its room
pub fitting_within : (room : ℕ) (ps : List Peer) → sum_by peer_length (fitting room ps) ≤ room
fitting_within room [] = omega arith
fitting_within room (p ∷ ps) =
    within_if (nat_le (peer_length p) room) p (fitting (room - peer_length p) ps) room refl (fitting_within (room - peer_length p) ps)

room_if : (b : Bool) → b ≡ true → (budget head : ℕ) → head ≤ PAYLOAD_MOST → budget ≤ BUDGET_MOST → head + (if b then budget - (HEADER_LENGTH + head) else 0) ≤ PAYLOAD_MOST
room_if true is budget head short most = omega arith
room_if false is budget head short most = absurd (cc)

room_within : (budget head : ℕ) → head ≤ PAYLOAD_MOST → budget ≤ BUDGET_MOST → head + room_behind budget head ≤ PAYLOAD_MOST
room_within budget head short most = room_if (nat_le head PAYLOAD_MOST) (le-leb head PAYLOAD_MOST short) budget head short most

-- figures that ascend, and few of them, are those of a page
pub page_fits : (i : NodeIdentity) (figures : List Figure) (peers : List Peer) (after budget : ℕ) → are_figures_above 0 figures ≡ true
    → status_length (status_of true i figures []) ≤ PAYLOAD_MOST → budget ≤ BUDGET_MOST → are_status_parts (status_page i figures peers after budget) ≡ true
page_fits i figures peers after budget above short most =
    let within = fitting_within (room_for_peers budget i figures) (drop after peers) in
    let room = room_within budget (status_length (status_of true i figures [])) short most in
    and_from _ _ above (le-leb _ _ (omega (arith, within, room)))

figures_take : (figures : List Figure) → figures_length figures ≡ 9 * length figures
figures_take [] = refl
figures_take (f ∷ figures) = let more = figures_take figures in omega (arith, more, sum_by-cons figure_length f figures)

pub figures_ascend : (facts : Facts) → are_figures_above 0 (figures_of facts) ≡ true
figures_ascend facts = refl

name_most : (t : List ℕ) → is_name t ≡ true → length t ≤ 32
name_most t fits =
    let between = (and_parts (is_between 1 NAME_MOST (length t)) (list_all is_name_byte t) fits).0 in
    leb-true (length t) NAME_MOST (and_parts (nat_le 1 (length t)) (nat_le (length t) NAME_MOST) between).1

short_most : (t : List ℕ) → is_short_text t ≡ true → length t ≤ 128
short_most t fits =
    let between = (and_parts (is_between 1 SHORT_TEXT_MOST (length t)) (is_utf8 t) fits).0 in
    leb-true (length t) SHORT_TEXT_MOST (and_parts (nat_le 1 (length t)) (nat_le (length t) SHORT_TEXT_MOST) between).1

-- what comes before the peers of a status takes no more than 381 bytes
pub head_most : (i : NodeIdentity) (facts : Facts) → is_identity i ≡ true → status_length (status_of true i (figures_of facts) []) ≤ PAYLOAD_MOST
head_most i facts fits =
    let release = and_parts (is_name i.node && is_name i.cluster) (is_short_text i.release) fits in
    let names = and_parts (is_name i.node) (is_name i.cluster) release.0 in
    let take = figures_take (figures_of facts) in
    omega (arith, take, name_most i.node names.0, name_most i.cluster names.1, short_most i.release release.1)

-- the budget of settings is no more than the greatest
budget_most : (s : Settings) → are_settings s ≡ true → s.budget ≤ BUDGET_MOST
budget_most s is =
    let within = and_parts (is_name s.cluster) (is_between BUDGET_LEAST BUDGET_MOST s.budget) (and_parts _ _ (and_parts _ _ (and_parts _ _ is).0).0).0 in
    leb-true s.budget BUDGET_MOST (and_parts (nat_le BUDGET_LEAST s.budget) (nat_le s.budget BUDGET_MOST) within.1).1

cluster_named : (s : Settings) → are_settings s ≡ true → is_name s.cluster ≡ true
cluster_named s is =
    (and_parts (is_name s.cluster) (is_between BUDGET_LEAST BUDGET_MOST s.budget) (and_parts _ _ (and_parts _ _ (and_parts _ _ is).0).0).0).0

short_if : (b : Bool) (text : List ℕ) → is_short_text text ≡ b → is_short_text (if b then text else dash) ≡ true
short_if true text is = is
short_if false text is = dash_fits

-- a text, or a dash in its place, is a short one
short_fits : (text : List ℕ) → is_short_text (short_text text) ≡ true
short_fits text = short_if (is_short_text text) text refl

identity_fits : (i : NodeIdentity) → is_name i.node ≡ true → is_name i.cluster ≡ true → is_short_text i.release ≡ true → is_identity i ≡ true
identity_fits i node cluster release = and_from (is_name i.node && is_name i.cluster) (is_short_text i.release) (and_from (is_name i.node) (is_name i.cluster) node cluster) release

-- a name, the cluster of settings and a short text are an identity
pub identity_limits : (node cluster release text : List ℕ) (s : Settings) → cluster ≡ s.cluster → release ≡ short_text text → is_name node ≡ true → are_settings s ≡ true
    → is_identity (identity_of node cluster release) ≡ true
identity_limits node cluster release text s of_settings short named are =
    identity_fits (identity_of node cluster release) named (ap is_name of_settings ∙ cluster_named s are) (ap is_short_text short ∙ short_fits text)

ok_or_err : {page : NodeStatus} {fault : Fault} → Ok page ≡ Err fault → ⊥
ok_or_err same = absurd (cc)

memory_or_not : (fault : Fault) → (fault ≡ NoMemory) ⊎ (fault ≢ NoMemory)
memory_or_not NoMemory = inl refl
memory_or_not fault = inr (λ same. cc)

only_memory : (b : Bool) (page : NodeStatus) (kind : ℕ) (fault : Fault) → b ≡ true
    → (fault ≢ NoMemory → (if b then Ok page else Err (Malformed kind)) ≡ Err fault) → fault ≢ NoMemory → ⊥
only_memory true page kind fault are gives other = ok_or_err (gives other)
only_memory false page kind fault are gives other = absurd (cc)

-- a page within its limits is not given for want of memory only
given_fault : (page : NodeStatus) (result : Result NodeStatus Fault) → are_status_parts page ≡ true → Gives result (if_status page) → IfErr result (λ fault. fault ≡ NoMemory)
given_fault page (Ok p) are gives = tt
given_fault page (Err fault) are gives = elim (memory_or_not fault) [
  | inl same ↦ same
  | inr other ↦ absurd (only_memory (are_status_parts page) page KIND_NODE_STATUS fault are gives other)
]

-- a page of the figures of a node is not given for want of memory only
pub page_memory : (i : NodeIdentity) (figures : List Figure) (facts : Facts) (peers : List Peer) (after budget : ℕ) (s : Settings) (result : Result NodeStatus Fault)
    → is_identity i ≡ true → figures ≡ figures_of facts → budget ≡ s.budget → are_settings s ≡ true
    → Gives result (if_status (status_page i figures peers after budget)) → IfErr result (λ fault. fault ≡ NoMemory)
page_memory i figures facts peers after budget s result fits same of_settings are gives =
    let short : status_length (status_of true i figures []) ≤ PAYLOAD_MOST = subst (λ (fs : List Figure). status_length (status_of true i fs []) ≤ PAYLOAD_MOST) (sym same) (head_most i facts fits) in
    let above : are_figures_above 0 figures ≡ true = subst (λ (fs : List Figure). are_figures_above 0 fs ≡ true) (sym same) (figures_ascend facts) in
    let most : budget ≤ BUDGET_MOST = subst (λ (n : ℕ). n ≤ BUDGET_MOST) (sym of_settings) (budget_most s are) in
    given_fault (status_page i figures peers after budget) result (page_fits i figures peers after budget above short most) gives
