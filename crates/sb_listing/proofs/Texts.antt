-- Names and keys are ASCII, and no value is a float.
use Rattle.std.proofs.Common.{◌≡◌, ℕ, ◌<◌, ◌≤◌, Bool, true, false, ◌||◌, ◌&&◌, List, refl, arith, eqb, ⊎_elim}
use Rattle.std.specs.Prelude.{nat_le, ◌==◌}
use Rattle.std.specs.Str.{IsUtf8}
use Rattle.std.specs.List.{list_all}
use Rattle.std.proofs.lemmas.Bool.{and_parts, or_cases, leb-true, eqb-true}
use Rattle.std.proofs.lemmas.List.Sums.{AllPass-from_list_all}
use Rattle.std.proofs.lemmas.Str.{IsUtf8-from_ascii}
use Rattle.std.proofs.lemmas.Str.Ascii.{IsAscii-from_all}
use Rattle.sb_types.specs.Text.{is_between, is_plain_byte, is_name_byte, is_key_byte, is_name, is_key}
use Rattle.sb_types.specs.Kinds.{Content, Word, Text, Number, Truth, word_of, kind_of, content_of}
use Rattle.serde_json.specs.Written.{has_float}
use Rattle.sb_codec.specs.Records.{Row}
use Rattle.serde_json.specs.Data.{Data}
use Rattle.sb_listing.specs.Json.{content_data, object_data, row_data}

between : (least most b : ℕ) → is_between least most b ≡ true → most < 128 → b < 128
between least most b is low = let upto : b ≤ most = leb-true b most (and_parts (nat_le least b) (nat_le b most) is).1 in omega arith

one : (n b : ℕ) → (b == n) ≡ true → n < 128 → b < 128
one n b is low = let same : b ≡ n = eqb-true b n is in omega arith

either : (x y : Bool) (b : ℕ) → (x || y) ≡ true → (x ≡ true → b < 128) → (y ≡ true → b < 128) → b < 128
either x y b is first second = ⊎_elim first second (or_cases x y is)

plain : (b : ℕ) → is_plain_byte b ≡ true → b < 128
plain b is = either (is_between 97 122 b) (is_between 48 57 b) b is (λ h. between 97 122 b h (omega arith)) (λ h. between 48 57 b h (omega arith))

name-byte : (b : ℕ) → is_name_byte b ≡ true → b < 128
name-byte b is = either (is_plain_byte b) (b == 45) b is (plain b) (λ h. one 45 b h (omega arith))

key-byte : (b : ℕ) → is_key_byte b ≡ true → b < 128
key-byte b is =
    either (is_plain_byte b || b == 46 || b == 95 || b == 47) (b == 45) b is
    (λ h. either (is_plain_byte b || b == 46 || b == 95) (b == 47) b h
    (λ g. either (is_plain_byte b || b == 46) (b == 95) b g
    (λ f. either (is_plain_byte b) (b == 46) b f (plain b) (λ e. one 46 b e (omega arith)))
    (λ e. one 95 b e (omega arith)))
    (λ e. one 47 b e (omega arith)))
    (λ e. one 45 b e (omega arith))

ascii : (test : ℕ → Bool) (text : List ℕ) → ((b : ℕ) → test b ≡ true → b < 128) → list_all test text ≡ true → IsUtf8 text
ascii test text low all = let each = AllPass-from_list_all test text all in IsUtf8-from_ascii text (IsAscii-from_all text (λ k d l. low _ (each k d l)))

pub name-utf8 : (text : List ℕ) → is_name text ≡ true → IsUtf8 text
name-utf8 text is = ascii is_name_byte text name-byte (and_parts _ _ is).1

pub key-utf8 : (text : List ℕ) → is_key text ≡ true → IsUtf8 text
key-utf8 text is = ascii is_key_byte text key-byte (and_parts _ _ is).1

pub content-plain : (content : Content) → has_float (content_data content) ≡ false
content-plain (Word text) = refl
content-plain (Text text) = refl
content-plain (Number n) = refl
content-plain (Truth truth) = refl

pub row-plain : (row : Row) → has_float (row_data row) ≡ false
unfolding row_data
row-plain row = let plain = content-plain (content_of row.value) in rw plain refl

pub object-row : (row : Row) (key kind owner : List ℕ) (value : Data) (version : ℕ) → key ≡ row.key → kind ≡ word_of (kind_of row.value) → owner ≡ row.owner → value ≡ content_data (content_of row.value) → version ≡ row.version
    → object_data key kind owner value version ≡ row_data row
unfolding row_data
object-row row key kind owner value version k d o v n = cc
