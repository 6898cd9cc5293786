-- The two laws for the body of each kind but deltas.
use Rattle.std.proofs.Common.{◌≡◌, ℕ, ◌-◌, ◌^◌, ◌<◌, ◌≤◌, Bool, true, false, ◌&&◌, List, [], ◌∷◌, ◌++◌, length, Option, Some, None, refl, arith}
use Rattle.std.specs.Prelude.{nat_le, nat_lt}
use Rattle.std.specs.List.{list_all}
use Rattle.std.specs.Int.{w64}
use Rattle.std.proofs.lemmas.Bool.{and_parts, and_from, lt-ltb, ltb-true, leb-true}
use Rattle.sb_types.specs.declared.entry.Write.{Write}
use Rattle.sb_types.specs.declared.limits.TheConstants.{PAYLOAD_MOST}
use Rattle.sb_types.specs.Text.{is_name, is_key, is_prefix, is_short_text}
use Rattle.sb_types.specs.Value.{is_value}
use Rattle.sb_types.specs.Limits.{is_slot}
use Rattle.sb_digest.specs.Digests.{Pair, Digest, covers}
use Rattle.sb_digest.specs.Lengths.{pair_length, digest_length}
use Rattle.sb_digest.specs.Limits.{is_bound, is_pair, is_range, are_pairs_above, are_digest_parts, is_digest}
use Rattle.sb_codec.specs.declared.message.ask.Ask.{Ask}
use Rattle.sb_codec.specs.declared.message.ask_change.AskChange.{AskChange}
use Rattle.sb_codec.specs.declared.message.notice.Notice.{Notice}
use Rattle.sb_codec.specs.declared.message.notice.Notice.TheVariants.{Watching, Changed, Same}
use Rattle.sb_codec.specs.declared.message.ages.OwnerAge.{OwnerAge}
use Rattle.sb_codec.specs.Records.{Row, Rows, Figure, Peer, NodeStatus}
use Rattle.sb_codec.specs.Lengths.{row_length, rows_length, figure_length, peer_length, status_length, age_length, ages_length}
use Rattle.sb_codec.specs.declared.message.node_identity.NodeIdentity.{NodeIdentity}
use Rattle.sb_codec.specs.declared.message.hello.Hello.{Hello}
use Rattle.sb_codec.specs.Limits.{is_hello, is_reason, is_optional, is_place, is_ask, is_row, are_rows_above, are_page_rows, is_page, is_write, is_version, is_fault_number, is_count, is_identity, is_figure, is_peer, are_figures_above, are_status_parts, is_status, is_ask_change, is_age, are_ages_above, are_owner_ages, are_ages}
use Rattle.sb_codec.specs.Fields.{number_field}
use Rattle.sb_codec.specs.Spelling.{number, text, list, optional_text, hello, pair, digest, place, ask, row, page, write, identity, figure, peer, status, ask_change, number_of_notice, owner_age}
use Rattle.sb_codec.specs.Reading.{hello_of_parts, hello_field, bye_field, write_of_parts, write_field, done_field, refused_field, unless_empty, is_empty_or, optional_field, pair_of_parts, pair_field, digest_of_parts, digest_field, prefix_field, are_alike, place_of, place_field, ask_of, ask_field, is_written, row_of_parts, row_field, are_page_parts, page_of, page_field, ask_status_field, short_text_field, identity_of_parts, identity_field, figure_of_parts, figure_field, peer_of_parts, peer_field, status_of_parts, status_field, ask_change_of, ask_change_field, notice_cases, notice_field, age_of_parts, age_field, ages_field}
use Rattle.sb_codec.proofs.Taken.{Takes, wide64, fits_takes, made_takes, then_takes, where_takes, byte_takes, number_takes, text_takes, list_takes, tagged_takes, given_case}
use Rattle.sb_codec.proofs.Again.{Again, given_again, made_again, then_again, where_again, byte_again, number_again, text_again, list_again, tagged_again}
use Rattle.sb_codec.proofs.Parts.{name_takes, name_again, key_takes, key_again, flag_takes, flag_again, value_takes, value_reads, slot_takes, slot_again, between_parts, all_from, all_parts, count_below}

pub hello_takes : Takes (λ h. is_hello h ≡ true) hello hello_field
unfolding hello_field hello
hello_takes = made_takes hello_of_parts (then_takes name_takes name_takes) (λ h fits. (and_from _ _ fits.0 fits.1, refl))

pub hello_again : (h : Hello) → is_hello h ≡ true → Again hello_field (hello h) h
unfolding hello_field hello
hello_again h fits =
    let parts = and_parts (is_name h.cluster) (is_name h.node) fits in
    made_again hello_of_parts (then_again (name_again h.cluster parts.0) (name_again h.node parts.1))

pub bye_takes : Takes (λ reason. is_reason reason ≡ true) (λ reason. reason ∷ []) bye_field
unfolding bye_field
bye_takes = fits_takes (where_takes byte_takes) (λ reason fits. fits.1)

pub bye_again : (reason : ℕ) → is_reason reason ≡ true → Again bye_field (reason ∷ []) reason
unfolding bye_field
bye_again reason fits = where_again is_reason fits (byte_again reason)

pub write_takes : Takes (λ w. is_write w ≡ true) write write_field
unfolding write_field write
write_takes = made_takes write_of_parts (then_takes key_takes slot_takes) (λ w fits. (and_from _ _ fits.0 fits.1, refl))

pub write_again : (w : Write) → is_write w ≡ true → Again write_field (write w) w
unfolding write_field write
write_again w fits =
    let parts = and_parts (is_key w.key) (is_slot w.slot) fits in
    made_again write_of_parts (then_again (key_again w.key parts.0) (slot_again w.slot parts.1))

version_below : (version : ℕ) → is_version version ≡ true → version < 2 ^ 64
version_below version fits = let parts = between_parts 1 (2 ^ 64 - 1) version fits in omega arith

pub done_takes : Takes (λ version. is_version version ≡ true) (number w64) done_field
unfolding done_field
done_takes = fits_takes (where_takes (number_takes wide64)) (λ version fits. fits.1)

pub done_again : (version : ℕ) → is_version version ≡ true → Again done_field (number w64 version) version
unfolding done_field
done_again version fits = where_again is_version fits (number_again wide64 version (version_below version fits))

pub refused_takes : Takes (λ fault. is_fault_number fault ≡ true) (λ fault. fault ∷ []) refused_field
unfolding refused_field
refused_takes = fits_takes (where_takes byte_takes) (λ fault fits. fits.1)

pub refused_again : (fault : ℕ) → is_fault_number fault ≡ true → Again refused_field (fault ∷ []) fault
unfolding refused_field
refused_again fault fits = where_again is_fault_number fits (byte_again fault)

-- ---- what may be none

optional_fits : (test : List ℕ → Bool) (t : List ℕ) → is_empty_or test t ≡ true → (is_optional test (unless_empty t) ≡ true) × (optional_text (unless_empty t) ≡ text t)
optional_fits test [] fits = (refl, refl)
optional_fits test (byte ∷ bytes) fits = (fits, refl)

pub optional_takes : (test : List ℕ → Bool) → Takes (λ t. is_optional test t ≡ true) optional_text (optional_field test)
unfolding optional_field
optional_takes test = made_takes unless_empty (where_takes text_takes) (λ t fits. optional_fits test t fits.1)

pub optional_again : (test : List ℕ → Bool) → test [] ≡ false → (t : Option (List ℕ)) → is_optional test t ≡ true → Again (optional_field test) (optional_text t) t
unfolding optional_field
optional_again test some None fits = made_again unless_empty (where_again (is_empty_or test) refl (text_again []))
optional_again test some (Some []) fits = absurd cc
optional_again test some (Some (byte ∷ bytes)) fits = made_again unless_empty (where_again (is_empty_or test) fits (text_again (byte ∷ bytes)))

-- ---- digests

pair_takes : Takes (λ p. is_pair p ≡ true) pair pair_field
unfolding pair_field pair
pair_takes =
    made_takes pair_of_parts (then_takes name_takes (then_takes (number_takes wide64) (then_takes (number_takes wide64) (number_takes wide64))))
    (λ p fits.
    let held = lt-ltb p.1.0 (2 ^ 64) fits.1.0 in
    let floor = lt-ltb p.1.1.0 (2 ^ 64) fits.1.1.0 in
    (and_from _ _ (and_from _ _ (and_from _ _ fits.0 held) floor) (lt-ltb p.1.1.1 (2 ^ 64) fits.1.1.1), refl))

pair_again : (p : Pair) → is_pair p ≡ true → Again pair_field (pair p) p
unfolding pair_field pair
pair_again p fits =
    let progress = and_parts (is_name p.owner && nat_lt p.held (2 ^ 64) && nat_lt p.floor (2 ^ 64)) (nat_lt p.progress (2 ^ 64)) fits in
    let floor = and_parts (is_name p.owner && nat_lt p.held (2 ^ 64)) (nat_lt p.floor (2 ^ 64)) progress.0 in
    let parts = and_parts (is_name p.owner) (nat_lt p.held (2 ^ 64)) floor.0 in
    let again : (n : ℕ) → nat_lt n (2 ^ 64) ≡ true → Again (number_field w64) (number w64 n) n = λ n lt. number_again wide64 n (ltb-true n (2 ^ 64) lt) in
    made_again pair_of_parts (then_again (name_again p.owner parts.0) (then_again (again p.held parts.1) (then_again (again p.floor floor.1) (again p.progress progress.1))))

bound_from : (b : Option (List ℕ)) → is_optional is_name b ≡ true → is_bound b ≡ true
bound_from None fits = refl
bound_from (Some t) fits = fits

bound_again : (b : Option (List ℕ)) → is_bound b ≡ true → Again (optional_field is_name) (optional_text b) b
bound_again None fits = optional_again is_name refl None refl
bound_again (Some t) fits = optional_again is_name refl (Some t) fits

pub digest_takes : Takes (λ d. is_digest d ≡ true) digest digest_field
unfolding digest_field digest
digest_takes =
    fits_takes
    (where_takes
    (made_takes {Q = λ d. (is_bound d.from && is_bound d.until && list_all is_pair d.pairs) ≡ true} digest_of_parts
    (then_takes flag_takes (then_takes (optional_takes is_name) (then_takes (optional_takes is_name) (list_takes pair_takes))))
    (λ d fits. (and_from _ _ (and_from _ _ (bound_from d.1.0 fits.1.0) (bound_from d.1.1.0 fits.1.1.0)) (all_from is_pair d.1.1.1 fits.1.1.1.1), refl))))
    (λ d fits. and_from _ _ fits.0 fits.1)

pub digest_within : (d : Digest) → is_digest d ≡ true → digest_length d ≤ PAYLOAD_MOST
digest_within d fits =
    let made = and_parts (is_bound d.from && is_bound d.until && list_all is_pair d.pairs) (are_digest_parts d) fits in
    leb-true (digest_length d) PAYLOAD_MOST (and_parts (is_range d.from d.until && are_pairs_above [] d.pairs && list_all (λ p. covers d p.owner) d.pairs) (nat_le (digest_length d) PAYLOAD_MOST) made.1).1

pub few_pairs : (d : Digest) → is_digest d ≡ true → length d.pairs < 2 ^ 16
few_pairs d fits = let within = digest_within d fits in omega (arith, count_below pair_length (λ p. omega arith) d.pairs)

pub digest_again : (d : Digest) → is_digest d ≡ true → Again digest_field (digest d) d
unfolding digest_field digest
digest_again d fits =
    let made = and_parts (is_bound d.from && is_bound d.until && list_all is_pair d.pairs) (are_digest_parts d) fits in
    let parts = and_parts (is_bound d.from && is_bound d.until) (list_all is_pair d.pairs) made.0 in
    let bounds = and_parts (is_bound d.from) (is_bound d.until) parts.0 in
    let pairs = list_again pair_again d.pairs (few_pairs d fits) (all_parts is_pair d.pairs parts.1) in
    where_again are_digest_parts made.1 (made_again digest_of_parts (then_again (flag_again d.want) (then_again (bound_again d.from bounds.0) (then_again (bound_again d.until bounds.1) pairs))))

-- ---- questions for rows

prefix_takes : Takes (λ t. is_prefix t ≡ true) text prefix_field
unfolding prefix_field
prefix_takes = fits_takes (where_takes text_takes) (λ t fits. fits.1)

prefix_again : (t : List ℕ) → is_prefix t ≡ true → Again prefix_field (text t) t
unfolding prefix_field
prefix_again t fits = where_again is_prefix fits (text_again t)

place_fits : (owner key : Option (List ℕ)) → is_optional is_name owner ≡ true → is_optional is_key key ≡ true → are_alike (owner, key) ≡ true
    → (is_optional is_place (place_of (owner, key)) ≡ true) × (place (place_of (owner, key)) ≡ optional_text owner ++ optional_text key)
place_fits None None name key alike = (refl, refl)
place_fits None (Some k) name key alike = absurd cc
place_fits (Some o) None name key alike = absurd cc
place_fits (Some o) (Some k) name key alike = (and_from _ _ name key, refl)

place_takes : Takes (λ p. is_optional is_place p ≡ true) place place_field
unfolding place_field
place_takes = made_takes place_of (where_takes (then_takes (optional_takes is_name) (optional_takes is_key))) (λ p fits. place_fits p.0 p.1 fits.0.0 fits.0.1 fits.1)

place_again : (p : Option (List ℕ × List ℕ)) → is_optional is_place p ≡ true → Again place_field (place p) p
unfolding place_field
place_again None fits = made_again place_of (where_again are_alike refl (then_again (optional_again is_name refl None refl) (optional_again is_key refl None refl)))
place_again (Some p) fits =
    let parts = and_parts (is_name p.0) (is_key p.1) fits in
    made_again place_of (where_again are_alike refl (then_again (optional_again is_name refl (Some p.0) parts.0) (optional_again is_key refl (Some p.1) parts.1)))

pub ask_takes : Takes (λ a. is_ask a ≡ true) ask ask_field
unfolding ask_field ask
ask_takes =
    made_takes ask_of (then_takes (optional_takes is_name) (then_takes prefix_takes place_takes))
    (λ a fits. (and_from _ _ (and_from _ _ fits.0 fits.1.0) fits.1.1, refl))

pub ask_again : (a : Ask) → is_ask a ≡ true → Again ask_field (ask a) a
unfolding ask_field ask
ask_again a fits =
    let after = and_parts (is_optional is_name a.owner && is_prefix a.prefix) (is_optional is_place a.after) fits in
    let parts = and_parts (is_optional is_name a.owner) (is_prefix a.prefix) after.0 in
    made_again ask_of (then_again (optional_again is_name refl a.owner parts.0) (then_again (prefix_again a.prefix parts.1) (place_again a.after after.1)))

-- ---- rows

row_takes : Takes (λ r. is_row r ≡ true) row row_field
unfolding row_field row
row_takes =
    made_takes row_of_parts (where_takes (then_takes name_takes (then_takes key_takes (then_takes (number_takes wide64) value_takes))))
    (λ r fits. (and_from _ _ (and_from _ _ (and_from _ _ fits.0.0 fits.0.1.0) fits.1) fits.0.1.1.1, refl))

row_again : (r : Row) → is_row r ≡ true → Again row_field (row r) r
unfolding row_field row
row_again r fits =
    let value = and_parts (is_name r.owner && is_key r.key && is_version r.version) (is_value r.value) fits in
    let version = and_parts (is_name r.owner && is_key r.key) (is_version r.version) value.0 in
    let place = and_parts (is_name r.owner) (is_key r.key) version.0 in
    let number = number_again wide64 r.version (version_below r.version version.1) in
    made_again row_of_parts (where_again is_written version.1 (then_again (name_again r.owner place.0) (then_again (key_again r.key place.1) (then_again number (value_reads r.value value.1)))))

pub page_takes : Takes (λ p. is_page p ≡ true) page page_field
unfolding page_field page
page_takes = made_takes page_of (where_takes (then_takes flag_takes (list_takes row_takes))) (λ p fits. (and_from _ _ (all_from is_row p.1 fits.0.1.1) fits.1, refl))

pub page_within : (p : Rows) → is_page p ≡ true → rows_length p.rows ≤ PAYLOAD_MOST
page_within p fits =
    let made = and_parts (list_all is_row p.rows) (are_page_rows p.rows) fits in
    leb-true (rows_length p.rows) PAYLOAD_MOST (and_parts (are_rows_above [] [] p.rows) (nat_le (rows_length p.rows) PAYLOAD_MOST) made.1).1

pub few_rows : (p : Rows) → is_page p ≡ true → length p.rows < 2 ^ 16
few_rows p fits = let within = page_within p fits in omega (arith, count_below row_length (λ r. omega arith) p.rows)

pub page_again : (p : Rows) → is_page p ≡ true → Again page_field (page p) p
unfolding page_field page
page_again p fits =
    let made = and_parts (list_all is_row p.rows) (are_page_rows p.rows) fits in
    let rows = list_again row_again p.rows (few_rows p fits) (all_parts is_row p.rows made.0) in
    made_again page_of (where_again are_page_parts made.1 (then_again (flag_again p.more) rows))

-- ---- the status of a node

count_again : (n : ℕ) → is_count n ≡ true → Again (number_field w64) (number w64 n) n
count_again n fits = number_again wide64 n (ltb-true n (2 ^ 64) fits)

pub ask_status_takes : Takes (λ after. is_count after ≡ true) (number w64) ask_status_field
unfolding ask_status_field
ask_status_takes = fits_takes (number_takes wide64) (λ after lt. lt-ltb after (2 ^ 64) lt)

pub ask_status_again : (after : ℕ) → is_count after ≡ true → Again ask_status_field (number w64 after) after
unfolding ask_status_field
ask_status_again after fits = count_again after fits

short_takes : Takes (λ t. is_short_text t ≡ true) text short_text_field
unfolding short_text_field
short_takes = fits_takes (where_takes text_takes) (λ t fits. fits.1)

short_again : (t : List ℕ) → is_short_text t ≡ true → Again short_text_field (text t) t
unfolding short_text_field
short_again t fits = where_again is_short_text fits (text_again t)

identity_takes : Takes (λ i. is_identity i ≡ true) identity identity_field
unfolding identity_field identity
identity_takes = made_takes identity_of_parts (then_takes name_takes (then_takes name_takes short_takes)) (λ i fits. (and_from _ _ (and_from _ _ fits.0 fits.1.0) fits.1.1, refl))

identity_again : (i : NodeIdentity) → is_identity i ≡ true → Again identity_field (identity i) i
unfolding identity_field identity
identity_again i fits =
    let release = and_parts (is_name i.node && is_name i.cluster) (is_short_text i.release) fits in
    let names = and_parts (is_name i.node) (is_name i.cluster) release.0 in
    made_again identity_of_parts (then_again (name_again i.node names.0) (then_again (name_again i.cluster names.1) (short_again i.release release.1)))

figure_takes : Takes (λ f. is_figure f ≡ true) figure figure_field
unfolding figure_field figure
figure_takes = made_takes figure_of_parts (then_takes byte_takes (number_takes wide64)) (λ f fits. (and_from _ _ (lt-ltb f.0 256 fits.0) (lt-ltb f.1 (2 ^ 64) fits.1), refl))

figure_again : (f : Figure) → is_figure f ≡ true → Again figure_field (figure f) f
unfolding figure_field figure
figure_again f fits =
    let parts = and_parts (nat_lt f.number 256) (is_count f.value) fits in
    made_again figure_of_parts (then_again (byte_again f.number) (count_again f.value parts.1))

peer_takes : Takes (λ p. is_peer p ≡ true) peer peer_field
unfolding peer_field peer
peer_takes =
    made_takes peer_of_parts (then_takes short_takes (then_takes byte_takes (number_takes wide64)))
    (λ p fits. (and_from _ _ (and_from _ _ fits.0 (lt-ltb p.1.0 256 fits.1.0)) (lt-ltb p.1.1 (2 ^ 64) fits.1.1), refl))

peer_again : (p : Peer) → is_peer p ≡ true → Again peer_field (peer p) p
unfolding peer_field peer
peer_again p fits =
    let round = and_parts (is_short_text p.path && nat_lt p.state 256) (is_count p.round) fits in
    let path = and_parts (is_short_text p.path) (nat_lt p.state 256) round.0 in
    made_again peer_of_parts (then_again (short_again p.path path.0) (then_again (byte_again p.state) (count_again p.round round.1)))

pub status_takes : Takes (λ s. is_status s ≡ true) status status_field
unfolding status_field status
status_takes =
    fits_takes
    (where_takes
    (made_takes {Q = λ s. (is_identity s.identity && list_all is_figure s.figures && list_all is_peer s.peers) ≡ true} status_of_parts
    (then_takes flag_takes (then_takes identity_takes (then_takes (list_takes figure_takes) (list_takes peer_takes))))
    (λ s fits. (and_from _ _ (and_from _ _ fits.1.0 (all_from is_figure s.1.1.0 fits.1.1.0.1)) (all_from is_peer s.1.1.1 fits.1.1.1.1), refl))))
    (λ s fits. and_from _ _ fits.0 fits.1)

pub status_within : (s : NodeStatus) → is_status s ≡ true → status_length s ≤ PAYLOAD_MOST
status_within s fits =
    let made = and_parts (is_identity s.identity && list_all is_figure s.figures && list_all is_peer s.peers) (are_status_parts s) fits in
    leb-true (status_length s) PAYLOAD_MOST (and_parts (are_figures_above 0 s.figures) (nat_le (status_length s) PAYLOAD_MOST) made.1).1

pub few_figures : (s : NodeStatus) → is_status s ≡ true → length s.figures < 2 ^ 16
few_figures s fits = let within = status_within s fits in omega (arith, count_below figure_length (λ f. omega arith) s.figures)

pub few_peers : (s : NodeStatus) → is_status s ≡ true → length s.peers < 2 ^ 16
few_peers s fits = let within = status_within s fits in omega (arith, count_below peer_length (λ p. omega arith) s.peers)

pub status_again : (s : NodeStatus) → is_status s ≡ true → Again status_field (status s) s
unfolding status_field status
status_again s fits =
    let made = and_parts (is_identity s.identity && list_all is_figure s.figures && list_all is_peer s.peers) (are_status_parts s) fits in
    let all = and_parts (is_identity s.identity && list_all is_figure s.figures) (list_all is_peer s.peers) made.0 in
    let parts = and_parts (is_identity s.identity) (list_all is_figure s.figures) all.0 in
    let figures = list_again figure_again s.figures (few_figures s fits) (all_parts is_figure s.figures parts.1) in
    let peers = list_again peer_again s.peers (few_peers s fits) (all_parts is_peer s.peers all.1) in
    where_again are_status_parts made.1 (made_again status_of_parts (then_again (flag_again s.more) (then_again (identity_again s.identity parts.0) (then_again figures peers))))

-- ---- the question to tell of the next change, and its answers

pub ask_change_takes : Takes (λ a. is_ask_change a ≡ true) ask_change ask_change_field
unfolding ask_change_field ask_change
ask_change_takes =
    made_takes ask_change_of (then_takes (optional_takes is_name) (then_takes prefix_takes (number_takes wide64)))
    (λ a fits. (and_from _ _ (and_from _ _ fits.0 fits.1.0) (lt-ltb a.1.1 (2 ^ 64) fits.1.1), refl))

pub ask_change_again : (a : AskChange) → is_ask_change a ≡ true → Again ask_change_field (ask_change a) a
unfolding ask_change_field ask_change
ask_change_again a fits =
    let wait = and_parts (is_optional is_name a.owner && is_prefix a.prefix) (is_count a.wait) fits in
    let parts = and_parts (is_optional is_name a.owner) (is_prefix a.prefix) wait.0 in
    made_again ask_change_of (then_again (optional_again is_name refl a.owner parts.0) (then_again (prefix_again a.prefix parts.1) (count_again a.wait wait.1)))

pub notice_takes : Takes (λ notice. Unit {0}) (λ notice. number_of_notice notice ∷ []) notice_field
unfolding notice_field
notice_takes = tagged_takes notice_cases (given_case 1 Watching tt refl, (given_case 2 Changed tt refl, (given_case 3 Same tt refl, tt)))

pub notice_again : (notice : Notice) → Again notice_field (number_of_notice notice ∷ []) notice
unfolding notice_field
notice_again Watching = tagged_again notice_cases 1 (given_again Watching)
notice_again Changed = tagged_again notice_cases 2 (given_again Changed)
notice_again Same = tagged_again notice_cases 3 (given_again Same)

-- ---- ages of owners

age_takes : Takes (λ a. is_age a ≡ true) owner_age age_field
unfolding age_field owner_age
age_takes = made_takes age_of_parts (then_takes name_takes (number_takes wide64)) (λ a fits. (and_from _ _ fits.0 (lt-ltb a.1 (2 ^ 64) fits.1), refl))

age_again : (a : OwnerAge) → is_age a ≡ true → Again age_field (owner_age a) a
unfolding age_field owner_age
age_again a fits =
    let parts = and_parts (is_name a.owner) (is_count a.age) fits in
    made_again age_of_parts (then_again (name_again a.owner parts.0) (count_again a.age parts.1))

pub ages_takes : Takes (λ ages. are_ages ages ≡ true) (list owner_age) ages_field
unfolding ages_field
ages_takes = fits_takes (where_takes (list_takes age_takes)) (λ ages fits. and_from _ _ (all_from is_age ages fits.0.1) fits.1)

pub ages_within : (ages : List OwnerAge) → are_ages ages ≡ true → ages_length ages ≤ PAYLOAD_MOST
ages_within ages fits =
    let made = and_parts (list_all is_age ages) (are_owner_ages ages) fits in
    leb-true (ages_length ages) PAYLOAD_MOST (and_parts (are_ages_above [] ages) (nat_le (ages_length ages) PAYLOAD_MOST) made.1).1

pub few_ages : (ages : List OwnerAge) → are_ages ages ≡ true → length ages < 2 ^ 16
few_ages ages fits = let within = ages_within ages fits in omega (arith, count_below age_length (λ a. omega arith) ages)

pub ages_again : (ages : List OwnerAge) → are_ages ages ≡ true → Again ages_field (list owner_age ages) ages
unfolding ages_field
ages_again ages fits =
    let made = and_parts (list_all is_age ages) (are_owner_ages ages) fits in
    where_again are_owner_ages made.1 (list_again age_again ages (few_ages ages fits) (all_parts is_age ages made.0))
