-- The shortest items of counted lists: each is read back from as few bytes.
use Rattle.std.specs.Prelude.{◌≡◌, refl, false, [], ◌∷◌, length, Some}
use Rattle.std.specs.Char.{encode_utf8}
use Rattle.std.specs.Str.{chars, is_utf8}
use Rattle.sb_types.specs.declared.entry.Slot.TheVariants.{Removed}
use Rattle.sb_types.specs.Value.{Flag}
use Rattle.sb_types.specs.Records.{Entry, Block}
use Rattle.sb_digest.specs.Digests.{Pair, plain_pair}
use Rattle.sb_codec.specs.declared.message.ages.OwnerAge.{OwnerAge}
use Rattle.sb_codec.specs.Records.{Row, row_of, Figure, figure_of, Peer}
use Rattle.sb_codec.specs.Fields.{byte_field, bytes_field, number_field, text_field, list_field, times_field}
use Rattle.sb_codec.specs.Spelling.{number, slot, content, entry, block, pair, row, figure, peer, owner_age}
use Rattle.sb_codec.specs.Reading.{name_field, key_field, flag_field, slot_field, value_field, tag_field, content_field, entry_field, block_field, pair_field, row_field, short_text_field, figure_field, peer_field, age_field}

abbrev pub first_removal : Entry
first_removal = record { key = 97 ∷ []; version = 1; slot = Removed }

pub entry_reached : (item : Entry) × (entry_field (entry item) ≡ Some (item, [])) × (length (entry item) ≡ 11)
unfolding entry slot number entry_field key_field slot_field number_field text_field byte_field bytes_field
entry_reached = (first_removal, refl, refl)

pub block_reached : (item : Block) × (block_field (block item) ≡ Some (item, [])) × (length (block item) ≡ 28)
unfolding block number block_field name_field list_field times_field number_field text_field byte_field bytes_field
block_reached = (record { owner = 97 ∷ []; floor = 0; after = 0; upto = 1; entries = [] }, refl, refl)

pub pair_reached : (item : Pair) × (pair_field (pair item) ≡ Some (item, [])) × (length (pair item) ≡ 26)
unfolding pair number pair_field name_field number_field text_field byte_field bytes_field
pair_reached = (plain_pair (97 ∷ []) 0, refl, refl)

pub row_reached : (item : Row) × (row_field (row item) ≡ Some (item, [])) × (length (row item) ≡ 14)
unfolding row content number row_field name_field key_field value_field tag_field content_field flag_field number_field text_field byte_field bytes_field
row_reached = (row_of (97 ∷ []) (97 ∷ []) 1 (Flag false), refl, refl)

pub figure_reached : (item : Figure) × (figure_field (figure item) ≡ Some (item, [])) × (length (figure item) ≡ 9)
unfolding figure number figure_field number_field byte_field bytes_field
figure_reached = (figure_of 1 0, refl, refl)

abbrev pub first_peer : Peer
first_peer = record { path = 97 ∷ []; state = 0; round = 0 }

pub peer_reached : (item : Peer) × (peer_field (peer item) ≡ Some (item, [])) × (length (peer item) ≡ 11)
unfolding peer number peer_field short_text_field number_field text_field byte_field bytes_field is_utf8 chars encode_utf8
peer_reached = (first_peer, refl, refl)

abbrev pub first_age : OwnerAge
first_age = record { owner = 97 ∷ []; age = 0 }

pub age_reached : (item : OwnerAge) × (age_field (owner_age item) ≡ Some (item, [])) × (length (owner_age item) ≡ 10)
unfolding owner_age number age_field name_field number_field text_field byte_field bytes_field
age_reached = (first_age, refl, refl)
