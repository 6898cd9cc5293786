-- How long spellings are.
use Rattle.std.proofs.Common.{◌≡◌, ℕ, ◌+◌, ◌≤◌, true, ◌&&◌, List, [], ◌∷◌, ◌++◌, length, Option, Some, None, refl, arith, length-append}
use Rattle.std.specs.Prelude.{nat_le, sum_by}
use Rattle.std.specs.List.{flat_map, list_all}
use Rattle.std.specs.Int.{w16, w64}
use Rattle.std.proofs.lemmas.Bool.{and_parts, leb-true}
use Rattle.std.proofs.lemmas.List.Sums.{sum_by-cons}
use Rattle.sb_types.specs.declared.entry.Slot.{Slot}
use Rattle.sb_types.specs.declared.entry.Slot.TheVariants.{Set, Removed}
use Rattle.sb_types.specs.declared.limits.TheConstants.{NAME_MOST, KEY_MOST, PAYLOAD_MOST}
use Rattle.sb_types.specs.Text.{is_between, is_name_byte, is_key_byte, is_name, is_key, is_prefix}
use Rattle.sb_types.specs.Value.{Value}
use Rattle.sb_types.specs.Kinds.{Content, Word, Text, Number, Truth, content_of, content_length}
use Rattle.sb_types.proofs.KindTable.{length_by_table, length_most}
use Rattle.sb_types.specs.Records.{Entry, Block}
use Rattle.sb_types.specs.declared.entry.Write.{Write}
use Rattle.sb_types.specs.Lengths.{value_length, slot_length, entry_length, block_length, delta_length}
use Rattle.sb_digest.specs.Digests as digests
use Rattle.sb_digest.specs.Lengths.{bound_length, pair_length, digest_length}
use Rattle.sb_codec.specs.declared.message.hello.Hello as messages
use Rattle.sb_codec.specs.declared.message.ask.Ask as asks
use Rattle.sb_codec.specs.declared.message.ask_change.AskChange as changes
use Rattle.sb_codec.specs.declared.message.ages.OwnerAge.{OwnerAge}
use Rattle.sb_codec.specs.declared.message.node_identity.NodeIdentity.{NodeIdentity}
use Rattle.sb_codec.specs.Records as records
use Rattle.sb_codec.specs.Lengths.{row_length, rows_length, identity_length, figure_length, peer_length, status_length, age_length, ages_length}
use Rattle.sb_codec.specs.Limits.{is_optional, is_place, is_count}
use Rattle.sb_types.specs.Limits.{is_slot}
use Rattle.sb_codec.specs.declared.message.Message.{Message}
use Rattle.sb_codec.specs.declared.message.Message.TheVariants.{Hello, Digest, Delta, Bye, Ask, Rows, Put, Done, Refused, AskStatus, NodeStatus, AskChange, Notice, AskAges, Ages}
use Rattle.sb_codec.specs.Spelling.{number, text, list, content, value, slot, entry, block, optional_text, hello, pair, digest, place, ask, row, page, write, identity, figure, peer, status, ask_change, owner_age}
use Rattle.sb_codec.specs.Messages.{spelling, is_message}
use Rattle.sb_codec.proofs.Parts.{between_parts, delta_parts}
use Rattle.sb_codec.proofs.Bodies.{digest_within, page_within, status_within, ages_within}

length-number16 : (n : ℕ) → length (number w16 n) ≡ 2
unfolding number
length-number16 n = refl

length-number64 : (n : ℕ) → length (number w64 n) ≡ 8
unfolding number
length-number64 n = refl

content-length : (c : Content) → length (content c) ≡ content_length c
unfolding content number
content-length (Word t) = omega arith
content-length (Text t) = omega (arith, length-append (number w16 (length t)) t, length-number16 (length t))
content-length (Number n) = refl
content-length (Truth b) = refl

value-length : (v : Value) → length (value v) ≡ 1 + value_length v
value-length v = omega (arith, content-length (content_of v), length_by_table v)

slot-length : (s : Slot) → length (slot s) ≡ 1 + slot_length s
unfolding slot
slot-length Removed = refl
slot-length (Set v) = value-length v

entry-length : (e : Entry) → length (entry e) ≡ entry_length e
unfolding entry
entry-length e = omega (arith, length-append (text e.key) (number w64 e.version ++ slot e.slot), length-append (number w64 e.version) (slot e.slot), length-number64 e.version, slot-length e.slot)

length-all : {A : Type 0} (f : A → List ℕ) (size : A → ℕ) → ((x : A) → length (f x) ≡ size x) → (xs : List A) → length (flat_map f xs) ≡ sum_by size xs
length-all f size each [] = refl
length-all f size each (x ∷ xs) = rw sum_by-cons (omega (arith, length-append (f x) (flat_map f xs), each x, length-all f size each xs))

length-list : {A : Type 0} (f : A → List ℕ) (size : A → ℕ) → ((x : A) → length (f x) ≡ size x) → (xs : List A) → length (list f xs) ≡ 2 + sum_by size xs
length-list f size each xs = omega (arith, length-append (number w16 (length xs)) (flat_map f xs), length-number16 (length xs), length-all f size each xs)

block-length : (b : Block) → length (block b) ≡ block_length b
unfolding block
block-length b =
    omega (
      arith,
      length-append (text b.owner) (number w64 b.floor ++ (number w64 b.after ++ (number w64 b.upto ++ list entry b.entries))),
      length-append (number w64 b.floor) (number w64 b.after ++ (number w64 b.upto ++ list entry b.entries)),
      length-append (number w64 b.after) (number w64 b.upto ++ list entry b.entries),
      length-append (number w64 b.upto) (list entry b.entries),
      length-number64 b.floor,
      length-number64 b.after,
      length-number64 b.upto,
      length-list entry entry_length entry-length b.entries,
    )

optional-length : (t : Option (List ℕ)) → length (optional_text t) ≡ bound_length t
optional-length None = refl
optional-length (Some t) = omega arith

pair-length : (p : digests.Pair) → length (pair p) ≡ pair_length p
unfolding pair
pair-length p =
    omega (
      arith,
      length-append (text p.owner) (number w64 p.held ++ (number w64 p.floor ++ number w64 p.progress)),
      length-append (number w64 p.held) (number w64 p.floor ++ number w64 p.progress),
      length-append (number w64 p.floor) (number w64 p.progress),
      length-number64 p.held,
      length-number64 p.floor,
      length-number64 p.progress,
    )

digest-length : (d : digests.Digest) → 1 + length (digest d) ≡ digest_length d
unfolding digest
digest-length d =
    omega
    (arith, length-append (optional_text d.from) (optional_text d.until ++ list pair d.pairs), length-append (optional_text d.until) (list pair d.pairs), optional-length d.from, optional-length d.until, length-list pair pair_length pair-length d.pairs)

row-length : (r : records.Row) → length (row r) ≡ row_length r
unfolding row
row-length r =
    omega
    (arith, length-append (text r.owner) (text r.key ++ (number w64 r.version ++ value r.value)), length-append (text r.key) (number w64 r.version ++ value r.value), length-append (number w64 r.version) (value r.value), length-number64 r.version, value-length r.value)

page-length : (p : records.Rows) → 1 + length (page p) ≡ rows_length p.rows
unfolding page
page-length p = omega (arith, length-list row row_length row-length p.rows)

identity-length : (i : NodeIdentity) → length (identity i) ≡ identity_length i
unfolding identity
identity-length i = omega (arith, length-append (text i.node) (text i.cluster ++ text i.release), length-append (text i.cluster) (text i.release))

figure-length : (f : records.Figure) → length (figure f) ≡ figure_length f
unfolding figure
figure-length f = omega (arith, length-number64 f.value)

peer-length : (p : records.Peer) → length (peer p) ≡ peer_length p
unfolding peer
peer-length p = omega (arith, length-append (text p.path) (p.state ∷ number w64 p.round), length-number64 p.round)

status-length : (s : records.NodeStatus) → 1 + length (status s) ≡ status_length s
unfolding status
status-length s =
    omega (
      arith,
      length-append (identity s.identity) (list figure s.figures ++ list peer s.peers),
      length-append (list figure s.figures) (list peer s.peers),
      identity-length s.identity,
      length-list figure figure_length figure-length s.figures,
      length-list peer peer_length peer-length s.peers,
    )

-- ---- the length of each kind

pub hello-spelled : (h : messages.Hello) → length (spelling (Hello h)) ≡ 3 + length h.cluster + length h.node
unfolding spelling hello
hello-spelled h = omega (arith, length-append (text h.cluster) (text h.node))

pub digest-spelled : (d : digests.Digest) → length (spelling (Digest d)) ≡ digest_length d
unfolding spelling
digest-spelled d = omega (arith, digest-length d)

pub delta-spelled : (blocks : List Block) → length (spelling (Delta blocks)) ≡ delta_length blocks
unfolding spelling
delta-spelled blocks = omega (arith, length-list block block_length block-length blocks)

pub ask-spelled : (a : asks.Ask) → length (spelling (Ask a)) ≡ 2 + length (optional_text a.owner) + length a.prefix + length (place a.after)
unfolding spelling ask
ask-spelled a = omega (arith, length-append (optional_text a.owner) (text a.prefix ++ place a.after), length-append (text a.prefix) (place a.after))

pub page-spelled : (p : records.Rows) → length (spelling (Rows p)) ≡ rows_length p.rows
unfolding spelling
page-spelled p = omega (arith, page-length p)

pub put-spelled : (w : Write) → length (spelling (Put w)) ≡ 3 + length w.key + slot_length w.slot
unfolding spelling write
put-spelled w = omega (arith, length-append (text w.key) (slot w.slot), slot-length w.slot)

pub status-spelled : (s : records.NodeStatus) → length (spelling (NodeStatus s)) ≡ status_length s
unfolding spelling
status-spelled s = omega (arith, status-length s)

age-length : (a : OwnerAge) → length (owner_age a) ≡ age_length a
unfolding owner_age
age-length a = omega (arith, length-append (text a.owner) (number w64 a.age), length-number64 a.age)

pub ask_change-spelled : (a : changes.AskChange) → length (spelling (AskChange a)) ≡ 10 + length (optional_text a.owner) + length a.prefix
unfolding spelling ask_change
ask_change-spelled a = omega (arith, length-append (optional_text a.owner) (text a.prefix ++ number w64 a.wait), length-append (text a.prefix) (number w64 a.wait), length-number64 a.wait)

pub ages-spelled : (ages : List OwnerAge) → length (spelling (Ages ages)) ≡ ages_length ages
unfolding spelling
ages-spelled ages = omega (arith, length-list owner_age age_length age-length ages)

-- ---- the longest of each

pub name-most : (t : List ℕ) → is_name t ≡ true → length t ≤ 32
name-most t fits = (between_parts 1 NAME_MOST (length t) (and_parts (is_between 1 NAME_MOST (length t)) (list_all is_name_byte t) fits).0).1

key-most : (t : List ℕ) → is_key t ≡ true → length t ≤ 64
key-most t fits = (between_parts 1 KEY_MOST (length t) (and_parts (is_between 1 KEY_MOST (length t)) (list_all is_key_byte t) fits).0).1

slot-most : (s : Slot) → is_slot s ≡ true → slot_length s ≤ 514
slot-most Removed fits = omega arith
slot-most (Set v) fits = omega (arith, length_most v fits)

prefix-most : (t : List ℕ) → is_prefix t ≡ true → length t ≤ 64
prefix-most t fits = leb-true (length t) KEY_MOST (and_parts (nat_le (length t) KEY_MOST) (list_all is_key_byte t) fits).0

optional-most : (t : Option (List ℕ)) → is_optional is_name t ≡ true → length (optional_text t) ≤ 33
optional-most None fits = omega arith
optional-most (Some t) fits = omega (arith, name-most t fits)

place-most : (p : Option (List ℕ × List ℕ)) → is_optional is_place p ≡ true → length (place p) ≤ 98
place-most None fits = omega arith
place-most (Some p) fits =
    let parts = and_parts (is_name p.0) (is_key p.1) fits in
    omega (arith, length-append (text p.0) (text p.1), name-most p.0 parts.0, key-most p.1 parts.1)

pub spelling-most : (m : Message) → is_message m ≡ true → length (spelling m) ≤ PAYLOAD_MOST
unfolding spelling
spelling-most (Hello h) fits =
    let parts = and_parts (is_name h.cluster) (is_name h.node) fits in
    omega (arith, hello-spelled h, name-most h.cluster parts.0, name-most h.node parts.1)
spelling-most (Digest d) fits = omega (arith, digest-length d, digest_within d fits)
spelling-most (Delta blocks) fits =
    let within = (delta_parts blocks fits).2 in
    omega (arith, delta-spelled blocks)
spelling-most (Bye reason) fits = omega arith
spelling-most (Ask a) fits =
    let after = and_parts (is_optional is_name a.owner && is_prefix a.prefix) (is_optional is_place a.after) fits in
    let parts = and_parts (is_optional is_name a.owner) (is_prefix a.prefix) after.0 in
    omega (arith, ask-spelled a, optional-most a.owner parts.0, prefix-most a.prefix parts.1, place-most a.after after.1)
spelling-most (Rows p) fits = omega (arith, page-length p, page_within p fits)
spelling-most (Put w) fits =
    let parts = and_parts (is_key w.key) (is_slot w.slot) fits in
    omega (arith, put-spelled w, key-most w.key parts.0, slot-most w.slot parts.1)
spelling-most (Done version) fits = omega (arith, length-number64 version)
spelling-most (Refused fault) fits = omega arith
spelling-most (AskStatus after) fits = omega (arith, length-number64 after)
spelling-most (NodeStatus s) fits = omega (arith, status-length s, status_within s fits)
spelling-most (AskChange a) fits =
    let wait = and_parts (is_optional is_name a.owner && is_prefix a.prefix) (is_count a.wait) fits in
    let parts = and_parts (is_optional is_name a.owner) (is_prefix a.prefix) wait.0 in
    omega (arith, ask_change-spelled a, optional-most a.owner parts.0, prefix-most a.prefix parts.1)
spelling-most (Notice notice) fits = omega arith
spelling-most AskAges fits = omega arith
spelling-most (Ages ages) fits = omega (arith, ages-spelled ages, ages_within ages fits)
