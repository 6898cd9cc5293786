-- Which parts make a message.
use Rattle.std.specs.Prelude.{ℕ, ◌-◌, ◌^◌, Bool, true, ◌&&◌, nat_le, nat_lt, List, [], ◌∷◌, Option, Some, None}
use Rattle.std.specs.List.{list_all}
use Rattle.std.specs.Ordering.{nat_cmp, is_lt, ordering_then}
use Rattle.std.specs.Cmp.Lexicographic.{slice_cmp}
use Rattle.sb_types.specs.declared.entry.Write.{Write}
use Rattle.sb_types.specs.declared.limits.TheConstants.{PAYLOAD_MOST}
use Rattle.sb_types.specs.Text.{is_between, is_name, is_key, is_prefix, is_short_text}
use Rattle.sb_types.specs.Value.{is_value}
use Rattle.sb_types.specs.Limits.{is_slot, text_lt}
use Rattle.sb_types.specs.declared.limits.TheConstants.{FAULT_NUMBER_MOST}
use Rattle.sb_types.specs.declared.format.TheConstants.{REASON_MOST}
use Rattle.sb_codec.specs.declared.message.hello.Hello.{Hello}
use Rattle.sb_codec.specs.declared.message.ask.Ask.{Ask}
use Rattle.sb_codec.specs.declared.message.ask_change.AskChange.{AskChange}
use Rattle.sb_codec.specs.declared.message.ages.OwnerAge.{OwnerAge}
use Rattle.sb_codec.specs.declared.message.node_identity.NodeIdentity.{NodeIdentity}
use Rattle.sb_codec.specs.Records.{Row, Rows, Figure, Peer, NodeStatus}
use Rattle.sb_codec.specs.Lengths.{rows_length, status_length, ages_length}

abbrev pub is_hello : Hello → Bool
is_hello hello = is_name hello.cluster && is_name hello.node

abbrev pub is_reason : ℕ → Bool
is_reason reason = is_between 1 REASON_MOST reason

abbrev pub is_write : Write → Bool
is_write write = is_key write.key && is_slot write.slot

abbrev pub is_version : ℕ → Bool
is_version version = is_between 1 (2 ^ 64 - 1) version

abbrev pub is_fault_number : ℕ → Bool
is_fault_number number = is_between 1 FAULT_NUMBER_MOST number

-- nothing, or something that passes the test
abbrev pub is_optional : {A : Type 0} → (A → Bool) → Option A → Bool
is_optional test None = true
is_optional test (Some x) = test x

-- an owner and a key
abbrev pub is_place : List ℕ × List ℕ → Bool
is_place place = is_name place.0 && is_key place.1

abbrev pub is_ask : Ask → Bool
is_ask ask = is_optional is_name ask.owner && is_prefix ask.prefix && is_optional is_place ask.after

abbrev pub is_row : Row → Bool
is_row row = is_name row.owner && is_key row.key && is_version row.version && is_value row.value

-- each row is after the one before it, by owner and then by key, and the first is after this owner and key
abbrev pub are_rows_above : List ℕ → List ℕ → List Row → Bool
are_rows_above owner key [] = true
are_rows_above owner key (r ∷ rs) = is_lt (ordering_then (slice_cmp nat_cmp owner r.owner) (slice_cmp nat_cmp key r.key)) && are_rows_above r.owner r.key rs

-- rows ascend, and the payload is within its limit (no name is empty, so each is after the empty text)
abbrev pub are_page_rows : List Row → Bool
are_page_rows rows = are_rows_above [] [] rows && nat_le (rows_length rows) PAYLOAD_MOST

abbrev pub is_page : Rows → Bool
is_page page = list_all is_row page.rows && are_page_rows page.rows

-- any number of eight bytes
abbrev pub is_count : ℕ → Bool
is_count count = nat_lt count (2 ^ 64)

abbrev pub is_identity : NodeIdentity → Bool
is_identity i = is_name i.node && is_name i.cluster && is_short_text i.release

abbrev pub is_figure : Figure → Bool
is_figure f = nat_lt f.number 256 && is_count f.value

abbrev pub is_peer : Peer → Bool
is_peer p = is_short_text p.path && nat_lt p.state 256 && is_count p.round

-- each number is above the one before it, and the first is above this one
abbrev pub are_figures_above : ℕ → List Figure → Bool
are_figures_above last [] = true
are_figures_above last (f ∷ fs) = nat_lt last f.number && are_figures_above f.number fs

-- the numbers of the figures ascend from 1 on, and the payload is within its limit
abbrev pub are_status_parts : NodeStatus → Bool
are_status_parts s = are_figures_above 0 s.figures && nat_le (status_length s) PAYLOAD_MOST

abbrev pub is_status : NodeStatus → Bool
is_status s = is_identity s.identity && list_all is_figure s.figures && list_all is_peer s.peers && are_status_parts s

abbrev pub is_ask_change : AskChange → Bool
is_ask_change a = is_optional is_name a.owner && is_prefix a.prefix && is_count a.wait

abbrev pub is_age : OwnerAge → Bool
is_age a = is_name a.owner && is_count a.age

-- each owner is after the one before it, and the first is after this text
abbrev pub are_ages_above : List ℕ → List OwnerAge → Bool
are_ages_above last [] = true
are_ages_above last (a ∷ rest) = text_lt last a.owner && are_ages_above a.owner rest

-- owners ascend, and the payload is within its limit (no name is empty, so each is after the empty text)
abbrev pub are_owner_ages : List OwnerAge → Bool
are_owner_ages ages = are_ages_above [] ages && nat_le (ages_length ages) PAYLOAD_MOST

abbrev pub are_ages : List OwnerAge → Bool
are_ages ages = list_all is_age ages && are_owner_ages ages
