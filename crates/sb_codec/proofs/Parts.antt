-- The two laws for each part of a message.
use Rattle.std.proofs.Common.{◌≡◌, ℕ, ◌-◌, ◌^◌, ◌<◌, ◌≤◌, Bool, true, false, cond, ◌&&◌, List, [], ◌∷◌, length, drop, ◌==◌, Option, Some, None, Result, Ok, Err, refl, sym, ap, subst, ◌∙◌, append-nil, arith}
use Rattle.std.specs.Prelude.{nat_le, nat_lt, sum_by}
use Rattle.std.specs.Option.{option_and_then}
use Rattle.std.specs.List.{list_all, AllByRecursion}
use Rattle.std.proofs.lemmas.Bool.{and_parts, and_from, le-leb, lt-ltb, leb-true, ltb-true, eqb-true}
use Rattle.std.proofs.lemmas.List.Sums.{sum_by-cons}
use Rattle.sb_types.specs.declared.entry.Slot.{Slot}
use Rattle.sb_types.specs.declared.entry.Slot.TheVariants.{Set, Removed}
use Rattle.sb_types.specs.declared.limits.TheConstants.{ENTRIES_MOST, PAYLOAD_MOST}
use Rattle.sb_types.specs.Text.{is_between, is_name, is_key}
use Rattle.sb_types.specs.Value.{Value, is_value}
use Rattle.sb_types.specs.Kinds.{Content, Word, Text, Number, Truth, Fits, tag_of, form_of, kind_of, content_of, kind_of_tag, form_in, value_of}
use Rattle.sb_types.specs.declared.kind.Kind.{Kind}
use Rattle.sb_types.specs.declared.kind.Form.{Form}
use Rattle.sb_types.specs.declared.kind.Form.TheVariants as forms
use Rattle.sb_types.specs.declared.fault.Fault.{Fault}
use Rattle.sb_types.proofs.KindTable.{tag_again, tag_found, tag_not_removed, form_again, content_fits, value_again, value_parts}
use Rattle.sb_types.specs.Records.{Entry, Block}
use Rattle.sb_types.specs.Runs.{are_ascending, are_distinct, last_version}
use Rattle.sb_types.specs.Lengths.{block_length, delta_length}
use Rattle.sb_types.specs.Limits.{is_slot, is_entry, are_block_parts, is_delta_block, are_owners_above, are_delta_blocks, is_delta}
use Rattle.sb_types.specs.declared.format.TheConstants.{TAG_REMOVED}
use Rattle.sb_codec.specs.Spelling.{text, list, flag, content, value, slot, entry, block}
use Rattle.sb_codec.specs.Reading.{name_field, key_field, flag_cases, flag_field, content_field, result_field, kind_field, optional_kind_field, tag_field, value_field, tagged_slot, slot_field, entry_of_parts, entry_field, are_block_fields, block_of_fields, block_field, delta_field}
use Rattle.sb_codec.specs.Fields.{given_field, made_field}
use Rattle.sb_codec.proofs.Taken.{Takes, wide64, given_takes, none_takes, lead_takes, fits_takes, made_takes, then_takes, chosen_takes, where_takes, byte_takes, number_takes, text_takes, long_text_takes, list_takes, tagged_takes, given_case}
use Rattle.sb_codec.proofs.Again.{Again, given_again, lead_again, made_again, then_again, where_again, byte_again, number_again, text_again, long_text_again, list_again, tagged_again}

-- ---- texts

pub name_takes : Takes (λ t. is_name t ≡ true) text name_field
unfolding name_field
name_takes = fits_takes (where_takes text_takes) (λ t fits. fits.1)

pub name_again : (t : List ℕ) → is_name t ≡ true → Again name_field (text t) t
unfolding name_field
name_again t fits = where_again is_name fits (text_again t)

pub key_takes : Takes (λ t. is_key t ≡ true) text key_field
unfolding key_field
key_takes = fits_takes (where_takes text_takes) (λ t fits. fits.1)

pub key_again : (t : List ℕ) → is_key t ≡ true → Again key_field (text t) t
unfolding key_field
key_again t fits = where_again is_key fits (text_again t)

-- ---- values

pub flag_takes : Takes (λ set. Unit {0}) flag flag_field
unfolding flag_field
flag_takes = tagged_takes flag_cases (given_case 0 false tt refl, (given_case 1 true tt refl, tt))

pub flag_again : (set : Bool) → Again flag_field (flag set) set
unfolding flag_field
flag_again false = tagged_again flag_cases 0 (given_again false)
flag_again true = tagged_again flag_cases 1 (given_again true)

content_takes : (form : Form) → Takes (λ c. Unit {0}) content (content_field form)
unfolding content_field content
content_takes forms.Word = made_takes Word text_takes (λ t lt. (tt, refl))
content_takes forms.Text = made_takes Text long_text_takes (λ t lt. (tt, refl))
content_takes forms.Number = made_takes Number (number_takes wide64) (λ n lt. (tt, refl))
content_takes forms.Truth = made_takes Truth flag_takes (λ set any. (tt, refl))

pub content_again : (c : Content) → Fits c → Again (content_field (form_in c)) (content c) c
unfolding content_field content
content_again (Word t) fits = made_again Word (text_again t)
content_again (Text t) fits = made_again Text (long_text_again t fits.0)
content_again (Number n) fits = made_again Number (number_again wide64 n (omega (arith, fits)))
content_again (Truth set) fits = made_again Truth (flag_again set)

result_takes : {A : Type 0} {P : A → Type 0} {s : A → List ℕ} (result : Result A Fault) → ((x : A) → result ≡ Ok x → P x × (s x ≡ [])) → Takes P s (result_field result)
result_takes (Ok x) is = given_takes x (is x refl).0 (is x refl).1
result_takes (Err fault) is = none_takes

kind_takes : (kind : Kind) → Takes (λ v. (is_value v ≡ true) × (kind_of v ≡ kind)) (λ v. content (content_of v)) (kind_field kind)
kind_takes kind =
    lead_takes {t = λ v. []} (λ v. content (content_of v)) (content_takes (form_of kind))
    (λ c any. result_takes (value_of kind c)
    (λ v is. let parts = value_parts kind c v is in (((parts.1, parts.0.0), ap content parts.0.1 ∙ sym (append-nil (content c))), refl)))

-- a value with this tag
abbrev pub IsTagged : ℕ → Value → Type 0
IsTagged tag v = (is_value v ≡ true) × (value v ≡ tag ∷ content (content_of v))

optional_kind_takes : (tag : ℕ) (kind : Option Kind) → kind_of_tag tag ≡ kind → Takes (IsTagged tag) (λ v. content (content_of v)) (optional_kind_field kind)
optional_kind_takes tag None is = none_takes
optional_kind_takes tag (Some kind) is =
    fits_takes (kind_takes kind) (λ v fits. (fits.0, ap (λ (n : ℕ). n ∷ content (content_of v)) (ap tag_of fits.1 ∙ tag_found tag kind is)))

tag_takes : (tag : ℕ) → Takes (IsTagged tag) (λ v. content (content_of v)) (tag_field tag)
unfolding tag_field
tag_takes tag = optional_kind_takes tag (kind_of_tag tag) refl

kind_reads : (v : Value) → is_value v ≡ true → Again (kind_field (kind_of v)) (content (content_of v)) v
kind_reads v fits =
    let one = subst (λ (form : Form). Again (content_field form) (content (content_of v)) (content_of v)) (form_again v) (content_again (content_of v) (content_fits v fits)) in
    record {
      read = λ rest.
          ap (λ (read : Option (Content × List ℕ)). option_and_then (λ x. result_field (value_of (kind_of v) x.0) x.1) read) (one.read rest)
          ∙ ap (λ (result : Result Value Fault). result_field result rest) (value_again v fits);
    }

tag_reads : (v : Value) → is_value v ≡ true → Again (tag_field (tag_of (kind_of v))) (content (content_of v)) v
unfolding tag_field
tag_reads v fits = subst (λ (kind : Option Kind). Again (optional_kind_field kind) (content (content_of v)) v) (sym (tag_again (kind_of v))) (kind_reads v fits)

pub value_takes : Takes (λ v. is_value v ≡ true) value value_field
unfolding value_field
value_takes = lead_takes {t = λ v. content (content_of v)} value byte_takes (λ tag lt. tag_takes tag)

pub value_reads : (v : Value) → is_value v ≡ true → Again value_field (value v) v
unfolding value_field
value_reads v fits = lead_again tag_field (byte_again (tag_of (kind_of v))) (tag_reads v fits)

pub slot_takes : Takes (λ s. is_slot s ≡ true) slot slot_field
unfolding slot_field slot
slot_takes =
    lead_takes {t = λ s. drop 1 (slot s)} slot byte_takes
    (λ tag lt. chosen_takes (tag == TAG_REMOVED)
    (λ removed. given_takes Removed (refl, ap (λ (n : ℕ). n ∷ []) (sym (eqb-true tag TAG_REMOVED removed))) refl)
    (λ other. made_takes Set (tag_takes tag) (λ v fits. (fits, refl))))

pub slot_again : (s : Slot) → is_slot s ≡ true → Again slot_field (slot s) s
unfolding slot_field slot
slot_again Removed fits = lead_again tagged_slot (byte_again TAG_REMOVED) (given_again Removed)
slot_again (Set v) fits =
    let tag = tag_of (kind_of v) in
    let set = made_again Set (tag_reads v fits) in
    lead_again tagged_slot (byte_again tag)
    (subst (λ (b : Bool). Again (cond b (given_field Removed) (made_field Set (tag_field tag))) (content (content_of v)) (Set v)) (sym (tag_not_removed (kind_of v))) set)

-- ---- entries

pub between_parts : (least most n : ℕ) → is_between least most n ≡ true → (least ≤ n) × (n ≤ most)
between_parts least most n fits = let parts = and_parts (nat_le least n) (nat_le n most) fits in (leb-true least n parts.0, leb-true n most parts.1)

entry_parts : (e : Entry) → is_entry e ≡ true → (is_key e.key ≡ true) × (1 ≤ e.version) × (e.version < 2 ^ 64) × (is_slot e.slot ≡ true)
entry_parts e fits =
    let slot = and_parts (is_key e.key && is_between 1 (2 ^ 64 - 1) e.version) (is_slot e.slot) fits in
    let key = and_parts (is_key e.key) (is_between 1 (2 ^ 64 - 1) e.version) slot.0 in
    let version = between_parts 1 (2 ^ 64 - 1) e.version key.1 in
    (key.0, version.0, omega arith, slot.1)

pub entry_takes : Takes (λ e. is_entry e ≡ true) entry entry_field
unfolding entry_field entry
entry_takes =
    made_takes entry_of_parts (then_takes key_takes (then_takes (where_takes (number_takes wide64)) slot_takes))
    (λ e fits. (and_from _ _ (and_from _ _ fits.0 (and_from _ _ fits.1.0.1 (le-leb _ _ (omega (arith, fits.1.0.0))))) fits.1.1, refl))

pub entry_again : (e : Entry) → is_entry e ≡ true → Again entry_field (entry e) e
unfolding entry_field entry
entry_again e fits =
    let parts = entry_parts e fits in
    let version = where_again (nat_le 1) (le-leb 1 e.version parts.1) (number_again wide64 e.version parts.2) in
    made_again entry_of_parts (then_again (key_again e.key parts.0) (then_again version (slot_again e.slot parts.3)))

-- ---- blocks

pub all_from : {A : Type 0} (test : A → Bool) (xs : List A) → AllByRecursion (λ x. test x ≡ true) xs → list_all test xs ≡ true
all_from test [] all = refl
all_from test (x ∷ xs) all = and_from _ _ all.0 (all_from test xs all.1)

pub all_parts : {A : Type 0} (test : A → Bool) (xs : List A) → list_all test xs ≡ true → AllByRecursion (λ x. test x ≡ true) xs
all_parts test [] all = tt
all_parts test (x ∷ xs) all = let p = and_parts _ _ all in (p.0, all_parts test xs p.1)

pub block_takes : Takes (λ b. is_delta_block b ≡ true) block block_field
unfolding block_field block
block_takes =
    made_takes block_of_fields
    (where_takes (then_takes name_takes (then_takes (number_takes wide64) (then_takes (number_takes wide64) (then_takes (number_takes wide64) (list_takes entry_takes))))))
    (λ b fits.
    let floor = lt-ltb b.1.0 (2 ^ 64) fits.0.1.0 in
    let upto = lt-ltb b.1.1.1.0 (2 ^ 64) fits.0.1.1.1.0 in
    (and_from _ _ (and_from _ _ (and_from _ _ (and_from _ _ fits.0.0 floor) upto) (all_from is_entry b.1.1.1.1 fits.0.1.1.1.1.1)) fits.1, refl))

-- few entries, and a reach above where it begins
parts_within : (after upto : ℕ) (entries : List Entry) → are_block_parts after upto entries ≡ true → (length entries ≤ ENTRIES_MOST) × (after < upto)
parts_within after upto entries run =
    let most = and_parts (nat_le (length entries) ENTRIES_MOST && nat_lt after upto && are_ascending after entries && nat_le (last_version after entries) upto) (are_distinct entries) run in
    let rising = and_parts (nat_le (length entries) ENTRIES_MOST && nat_lt after upto && are_ascending after entries) (nat_le (last_version after entries) upto) most.0 in
    let order = and_parts (nat_le (length entries) ENTRIES_MOST && nat_lt after upto) (are_ascending after entries) rising.0 in
    let few = and_parts (nat_le (length entries) ENTRIES_MOST) (nat_lt after upto) order.0 in
    (leb-true (length entries) ENTRIES_MOST few.0, ltb-true after upto few.1)

pub block_again : (b : Block) → is_delta_block b ≡ true → Again block_field (block b) b
unfolding block_field block
block_again b fits =
    let run = and_parts (is_name b.owner && nat_lt b.floor (2 ^ 64) && nat_lt b.upto (2 ^ 64) && list_all is_entry b.entries) (are_block_parts b.after b.upto b.entries) fits in
    let each = and_parts (is_name b.owner && nat_lt b.floor (2 ^ 64) && nat_lt b.upto (2 ^ 64)) (list_all is_entry b.entries) run.0 in
    let upto = and_parts (is_name b.owner && nat_lt b.floor (2 ^ 64)) (nat_lt b.upto (2 ^ 64)) each.0 in
    let floor = and_parts (is_name b.owner) (nat_lt b.floor (2 ^ 64)) upto.0 in
    let within = parts_within b.after b.upto b.entries run.1 in
    let below = ltb-true b.upto (2 ^ 64) upto.1 in
    let entries = list_again entry_again b.entries (omega arith) (all_parts is_entry b.entries each.1) in
    let after = number_again wide64 b.after (omega arith) in
    let numbers = then_again (number_again wide64 b.floor (ltb-true b.floor (2 ^ 64) floor.1)) (then_again after (then_again (number_again wide64 b.upto below) entries)) in
    made_again block_of_fields (where_again are_block_fields run.1 (then_again (name_again b.owner floor.0) numbers))

-- ---- deltas

pub delta_takes : Takes (λ blocks. is_delta blocks ≡ true) (list block) delta_field
unfolding delta_field
delta_takes = fits_takes (where_takes (list_takes block_takes)) (λ blocks fits. and_from _ _ (all_from is_delta_block blocks fits.0.1) fits.1)

-- what takes a byte at least each is no more than the bytes
pub count_below : {A : Type 0} (size : A → ℕ) → ((x : A) → 1 ≤ size x) → (xs : List A) → length xs ≤ sum_by size xs
count_below size each [] = omega arith
count_below size each (x ∷ xs) = rw sum_by-cons (omega (arith, each x, count_below size each xs))

pub delta_parts : (blocks : List Block) → is_delta blocks ≡ true → (list_all is_delta_block blocks ≡ true) × (are_delta_blocks blocks ≡ true) × (delta_length blocks ≤ PAYLOAD_MOST)
delta_parts blocks fits =
    let parts = and_parts (list_all is_delta_block blocks) (are_delta_blocks blocks) fits in
    (parts.0, parts.1, leb-true (delta_length blocks) PAYLOAD_MOST (and_parts (are_owners_above [] blocks) (nat_le (delta_length blocks) PAYLOAD_MOST) parts.1).1)

pub few_blocks : (blocks : List Block) → is_delta blocks ≡ true → length blocks < 2 ^ 16
few_blocks blocks fits = let within = (delta_parts blocks fits).2 in omega (arith, count_below block_length (λ b. omega arith) blocks)

pub delta_again : (blocks : List Block) → is_delta blocks ≡ true → Again delta_field (list block blocks) blocks
unfolding delta_field
delta_again blocks fits =
    let parts = delta_parts blocks fits in
    where_again are_delta_blocks parts.1 (list_again block_again blocks (few_blocks blocks fits) (all_parts is_delta_block blocks parts.0))
