-- The kind of a word by the table, how many members an object has, and the JSON that a body is.
use Rattle.std.proofs.Common.{◌≡◌, ◌≢◌, ℕ, suc, Bool, true, false, ◌==◌, List, [], ◌∷◌, length, IfSome, IfNone, Option, Some, None, option_map, Decides, String, if◌then◌else◌, refl, sym, ap, subst}
use Rattle.std.specs.Prelude.{unwrap_or}
use Rattle.std.specs.Str.{bytes_eq, IsUtf8, is_utf8}
use Rattle.std.specs.declared.alloc.Global.{Global}
use Rattle.std.proofs.lemmas.Slice.Eq.{bytes_eq-Decides}
use Rattle.std.proofs.lemmas.Str.{IsUtf8-from_is_utf8, is_utf8-from_IsUtf8}
use Rattle.serde_json.specs.Data.{Data, Members}
use Rattle.serde_json.specs.Read.{read}
use Rattle.serde_json.specs.View.{members_view}
use Rattle.serde_json.specs.declared.value.Value.{Value}
use Rattle.sb_types.specs.declared.kind.Kind.{Kind}
use Rattle.sb_types.specs.declared.kind.Kind.TheVariants as kinds
use Rattle.sb_types.specs.Kinds.{word_of}
use Rattle.sb_http.specs.WriteBodies.{kind_of_word, count_members, json_in}

refuted : {P : Type 0} (r : Bool) → Decides r P → (P → ⊥) → r ≡ false
refuted true d apart = absurd (apart (d.0 refl))
refuted false d apart = refl

other_word : (kind : Kind) (word : List ℕ) → word_of kind ≢ word → bytes_eq (word_of kind) word ≡ false
other_word kind word apart = refuted (bytes_eq (word_of kind) word) (bytes_eq-Decides (word_of kind) word) apart

known : (kind : Kind) → Some kind ≡ kind_of_word (word_of kind)
known kinds.Addr = refl
known kinds.Weight = refl
known kinds.Flag = refl
known kinds.Text = refl

abbrev chosen : Bool → Bool → Bool → Bool → Option Kind
chosen addr weight flag text = if addr then Some kinds.Addr else if weight then Some kinds.Weight else if flag then Some kinds.Flag else if text then Some kinds.Text else None

none_chosen : (addr weight flag text : Bool) → addr ≡ false → weight ≡ false → flag ≡ false → text ≡ false → None ≡ chosen addr weight flag text
none_chosen addr weight flag text a w f t =
    subst (λ (b : Bool). None ≡ chosen b weight flag text) (sym a)
    (subst (λ (b : Bool). None ≡ chosen false b flag text) (sym w)
    (subst (λ (b : Bool). None ≡ chosen false false b text) (sym f)
    (subst (λ (b : Bool). None ≡ chosen false false false b) (sym t) refl)))

unknown : (word : List ℕ) → ((kind : Kind) → word_of kind ≢ word) → None ≡ kind_of_word word
unknown word apart =
    none_chosen (bytes_eq (word_of kinds.Addr) word) (bytes_eq (word_of kinds.Weight) word) (bytes_eq (word_of kinds.Flag) word) (bytes_eq (word_of kinds.Text) word)
    (other_word kinds.Addr word (apart kinds.Addr)) (other_word kinds.Weight word (apart kinds.Weight)) (other_word kinds.Flag word (apart kinds.Flag)) (other_word kinds.Text word (apart kinds.Text))

pub found : (kind : Option Kind) (word : List ℕ) → IfSome kind (λ it. word_of it ≡ word) → IfNone kind ((it : Kind) → word_of it ≢ word) → kind ≡ kind_of_word word
found (Some kind) word some none = subst (λ (w : List ℕ). Some kind ≡ kind_of_word w) some (known kind)
found None word some none = unknown word none

counted : (entries : List (String Global × Value)) → count_members (members_view entries) ≡ length entries
counted [] = refl
counted (m ∷ ms) = ap suc (counted ms)

pub two : (entries : List (String Global × Value)) (object : Option Members) → Some (members_view entries) ≡ object
    → (length entries == 2) ≡ unwrap_or (option_map (λ (members : Members). count_members members == 2) object) false
two entries object is =
    subst (λ (o : Option Members). (length entries == 2) ≡ unwrap_or (option_map (λ (members : Members). count_members members == 2) o) false) is
    (ap (λ (n : ℕ). n == 2) (sym (counted entries)))

kept : (is : Bool) (json want : Option Data) → is ≡ true → json ≡ want → (if is then json else None) ≡ want
kept is json want so same = subst (λ (b : Bool). (if b then json else None) ≡ want) (sym so) same

nothing : (is : Bool) (json : Option Data) → (is ≡ true → json ≡ None) → (if is then json else None) ≡ None
nothing true json none = none refl
nothing false json none = refl

pub read_so : (body : List ℕ) (json : Data) → IsUtf8 body → read body ≡ Some json → json_in body ≡ Some json
read_so body json utf8 is = kept (is_utf8 body) (read body) (Some json) (is_utf8-from_IsUtf8 body utf8) is

pub not_read : (body : List ℕ) → (IsUtf8 body → read body ≡ None) → json_in body ≡ None
not_read body none = nothing (is_utf8 body) (read body) (λ (is : is_utf8 body ≡ true). none (IsUtf8-from_is_utf8 body is))
