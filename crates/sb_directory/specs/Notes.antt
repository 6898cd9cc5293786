-- What is noted in watches.
use Rattle.std.specs.Prelude.{ℕ, Bool, nat_le, nat_lt, if◌then◌else◌, List, [], ◌∷◌, ◌++◌, map, flat_map, Some, None}
use Rattle.sb_types.specs.Records.{Entry, Table, Block}
use Rattle.sb_types.specs.Runs.{newer_entries}
use Rattle.sb_holdings.specs.Held.{Held, shown_of}
use Rattle.sb_watch.specs.declared.note.Note.{Note}
use Rattle.sb_watch.specs.Records.{Hub}
use Rattle.sb_watch.specs.Hubs.{with_push}

-- of a write: whose it is, under which key, and its version
abbrev pub note_of : List ℕ → Entry → Note
note_of owner e = record { owner = owner; key = Some e.key; version = e.version }

-- of a table that was replaced: whose it is, and up to which version it is held
abbrev pub clear_of : List ℕ → Table → Note
clear_of owner t = record { owner = owner; key = None; version = t.held }

-- each note is pushed once, in their order
abbrev pub with_notes : Hub → List Note → Hub
with_notes hub [] = hub
with_notes hub (n ∷ ns) = with_notes (with_push hub n) ns

-- of an owner's entries above a version
abbrev pub entry_notes : ℕ → List ℕ → Table → List Note
entry_notes version owner t = map (note_of owner) (newer_entries version t.entries)

-- of an owner whose table was replaced: its floor is above the version up to which it was held
abbrev pub clear_notes : ℕ → List ℕ → Table → List Note
clear_notes version owner t = if nat_lt version t.floor then clear_of owner t ∷ [] else []

-- of what changed of an owner that was held up to a version
abbrev pub owner_notes : ℕ → List ℕ → Table → List Note
owner_notes version owner t = clear_notes version owner t ++ entry_notes version owner t

-- of what changed of these owners, which were held up to these versions
abbrev pub notes_since : List (List ℕ × ℕ) → Held → List Note
notes_since versions held = flat_map (λ p. owner_notes p.1 p.0 (shown_of held p.0)) versions

-- the owners of these blocks, each with the version up to which it is held
abbrev pub versions_of : Held → List Block → List (List ℕ × ℕ)
versions_of held blocks = map (λ b. (b.owner, (shown_of held b.owner).held)) blocks

-- of what these blocks changed: of the owner of each what is held now and was not before, and whether its table was replaced
abbrev pub notes_of_blocks : List Block → Held → Held → List Note
notes_of_blocks blocks old new = notes_since (versions_of old blocks) new

-- the version of the note is held
abbrev pub is_held : Held → Note → Bool
is_held held note = nat_le note.version (shown_of held note.owner).held
