-- The bytes of the parts of a message, one spelling for each.
use Rattle.std.specs.Prelude.{ℕ, Bool, List, [], ◌∷◌, ◌++◌, length, Option, Some, None}
use Rattle.std.specs.List.{flat_map}
use Rattle.std.specs.Int.{Width, w16, w64, to_be_bytes, from_bool}
use Rattle.sb_types.specs.declared.entry.Write.{Write}
use Rattle.sb_types.specs.declared.entry.Slot.{Slot}
use Rattle.sb_types.specs.declared.entry.Slot.TheVariants.{Set, Removed}
use Rattle.sb_types.specs.Value.{Value}
use Rattle.sb_types.specs.Kinds.{Content, Word, Text, Number, Truth, tag_of, kind_of, content_of}
use Rattle.sb_types.specs.Records.{Entry, Block}
use Rattle.sb_types.specs.declared.format.TheConstants.{TAG_REMOVED}
use Rattle.sb_digest.specs.Digests.{Pair, Digest}
use Rattle.sb_codec.specs.declared.message.hello.Hello.{Hello}
use Rattle.sb_codec.specs.declared.message.ask.Ask.{Ask}
use Rattle.sb_codec.specs.declared.message.ask_change.AskChange.{AskChange}
use Rattle.sb_codec.specs.declared.message.notice.Notice.{Notice}
use Rattle.sb_codec.specs.declared.message.notice.Notice.TheVariants.{Watching, Changed, Same}
use Rattle.sb_codec.specs.declared.message.ages.OwnerAge.{OwnerAge}
use Rattle.sb_codec.specs.declared.message.node_identity.NodeIdentity.{NodeIdentity}
use Rattle.sb_codec.specs.Records.{Row, Rows, Figure, Peer, NodeStatus}

-- a number of the width, high byte first
unfoldable pub number : Width → ℕ → List ℕ
number w n = to_be_bytes w n

-- a length byte, and the bytes
abbrev pub text : List ℕ → List ℕ
text bytes = length bytes ∷ bytes

-- a length of two bytes, and the bytes
abbrev pub long_text : List ℕ → List ℕ
long_text bytes = number w16 (length bytes) ++ bytes

-- the number of items, and each of them
abbrev pub list : {A : Type 0} → (A → List ℕ) → List A → List ℕ
list each items = number w16 (length items) ++ flat_map each items

-- 0 for false, 1 for true
abbrev pub flag : Bool → List ℕ
flag set = from_bool set ∷ []

-- a content, by its form
unfoldable pub content : Content → List ℕ
content (Word bytes) = text bytes
content (Text bytes) = long_text bytes
content (Number n) = number w64 n
content (Truth truth) = flag truth

-- the tag of the kind, and the content of the value
abbrev pub value : Value → List ℕ
value v = tag_of (kind_of v) ∷ content (content_of v)

unfoldable pub slot : Slot → List ℕ
slot Removed = TAG_REMOVED ∷ []
slot (Set v) = value v

unfoldable pub entry : Entry → List ℕ
entry e = text e.key ++ (number w64 e.version ++ slot e.slot)

unfoldable pub block : Block → List ℕ
block b = text b.owner ++ (number w64 b.floor ++ (number w64 b.after ++ (number w64 b.upto ++ list entry b.entries)))

unfoldable pub hello : Hello → List ℕ
hello h = text h.cluster ++ text h.node

unfoldable pub write : Write → List ℕ
write w = text w.key ++ slot w.slot

-- a text; or the empty text, if there is none
abbrev pub optional_text : Option (List ℕ) → List ℕ
optional_text None = text []
optional_text (Some bytes) = text bytes

unfoldable pub pair : Pair → List ℕ
pair p = text p.owner ++ (number w64 p.held ++ (number w64 p.floor ++ number w64 p.progress))

unfoldable pub digest : Digest → List ℕ
digest d = flag d.want ++ (optional_text d.from ++ (optional_text d.until ++ list pair d.pairs))

-- an owner and a key; or two empty texts, if there are none
abbrev pub place : Option (List ℕ × List ℕ) → List ℕ
place None = text [] ++ text []
place (Some p) = text p.0 ++ text p.1

unfoldable pub ask : Ask → List ℕ
ask a = optional_text a.owner ++ (text a.prefix ++ place a.after)

unfoldable pub row : Row → List ℕ
row r = text r.owner ++ (text r.key ++ (number w64 r.version ++ value r.value))

unfoldable pub page : Rows → List ℕ
page r = flag r.more ++ list row r.rows

unfoldable pub identity : NodeIdentity → List ℕ
identity i = text i.node ++ (text i.cluster ++ text i.release)

unfoldable pub figure : Figure → List ℕ
figure f = f.number ∷ number w64 f.value

unfoldable pub peer : Peer → List ℕ
peer p = text p.path ++ (p.state ∷ number w64 p.round)

unfoldable pub status : NodeStatus → List ℕ
status s = flag s.more ++ (identity s.identity ++ (list figure s.figures ++ list peer s.peers))

unfoldable pub ask_change : AskChange → List ℕ
ask_change a = optional_text a.owner ++ (text a.prefix ++ number w64 a.wait)

abbrev pub number_of_notice : Notice → ℕ
number_of_notice Watching = 1
number_of_notice Changed = 2
number_of_notice Same = 3

unfoldable pub owner_age : OwnerAge → List ℕ
owner_age a = text a.owner ++ number w64 a.age
