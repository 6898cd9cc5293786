-- What version a node reports of itself, and whether that falls. Moments are numbers of milliseconds.
use Rattle.std.specs.Prelude.{◌≡◌, ◌⊎◌, ℕ, ◌+◌, ◌-◌, ◌≤◌, ◌<◌, ◌^◌, Bool, true, false, ◌&&◌, ◌||◌, if◌then◌else◌, List, [], ◌∷◌, ◌++◌, map, length, position, slice_set, slice_index_or, nat_eq, nat_le, nat_lt, max, min, Option, Some, None, is_some}
use Rattle.std.specs.List.{list_any}
use Rattle.std.specs.Cmp.Lexicographic.{pointwise}
use Rattle.sb_types.specs.declared.limits.TheConstants.{OWNERS_MOST}
use Rattle.sb_types.specs.Runs.{Stands}
use Rattle.sb_digest.specs.Digests.{Digest, held_in}
use Rattle.sb_handlers.specs.declared.reported_versions.TheConstants.{LATE_MOST, REPORT_INTERVAL}
use Rattle.sb_handlers.specs.declared.reported_versions.Arrival.{Arrival}
use Rattle.sb_handlers.specs.declared.reported_versions.VersionFall.{VersionFall}
use Rattle.sb_handlers.specs.declared.reported_versions.Reading.{Reading}
use Rattle.sb_handlers.specs.declared.reported_versions.DatedVersion.{DatedVersion}
use Rattle.sb_handlers.specs.declared.reported_versions.Reporter.{Reporter}

abbrev pub unknown_arrival : Arrival
unknown_arrival = record { name = None; since = None }

abbrev pub begins_with : Option (List ℕ) → List ℕ → Bool
begins_with None name = false
begins_with (Some from) name = pointwise nat_eq from name

-- the digest of an audit, which asks for the sender's name alone
abbrev pub is_of_one : Digest → List ℕ → Bool
is_of_one digest name = begins_with digest.from name && nat_le (length digest.pairs) 1

-- the version that the digest reports of the node of this name that sent it
abbrev pub sender_version : Digest → List ℕ → Option ℕ
sender_version digest name = if nat_eq (held_in digest name) 0 || is_of_one digest name then None else Some (held_in digest name)

abbrev pub is_long_before : DatedVersion → ℕ → Bool
is_long_before t moment = nat_lt LATE_MOST (moment - t.at)

-- the digest reports less than was reported long before its connection came
abbrev pub is_above : DatedVersion → Reading → Bool
is_above t r = is_long_before t r.since && nat_lt r.version t.version

abbrev pub dated_version_of : Reading → DatedVersion
dated_version_of r = record { version = r.version; at = r.at }

abbrev pub new_reporter : Reading → Reporter
new_reporter r = record { name = r.name; most = r.version; older = dated_version_of r; newer = dated_version_of r; fall = None; last_fall_at = None }

abbrev pub fall_of : Reporter → Reading → ℕ → VersionFall
fall_of t r before = record { name = t.name; version = r.version; before = before }

-- the fall in what the digest reports of the node
abbrev pub fall_in : Reporter → Reading → Option VersionFall
fall_in t r =
    if is_above t.newer r then Some (fall_of t r t.newer.version) else
    (if is_above t.older r then Some (fall_of t r t.older.version) else None)

abbrev pub is_due : Option ℕ → ℕ → Bool
is_due None now = true
is_due (Some found) now = nat_le REPORT_INTERVAL (now - found)

-- the greatest version is known, and at most each LATE_MOST milliseconds it becomes the newer of two
abbrev pub with_version : Reading → Reporter → Reporter
with_version r t =
    let most = max t.most r.version in
    if is_long_before t.newer r.at
    then record { name = t.name; most = most; older = t.newer; newer = record { version = most; at = r.at }; fall = t.fall; last_fall_at = t.last_fall_at }
    else record { name = t.name; most = most; older = t.older; newer = t.newer; fall = t.fall; last_fall_at = t.last_fall_at }

abbrev pub with_fall : Reading → Reporter → Reporter
with_fall r t =
    if is_some (fall_in t r) && is_due t.last_fall_at r.at
    then record { name = t.name; most = t.most; older = t.older; newer = t.newer; fall = fall_in t r; last_fall_at = Some r.at }
    else t

abbrev pub is_of : List ℕ → Reporter → Bool
is_of name t = pointwise nat_eq t.name name

abbrev pub takes : Reading → Reporter → Reporter
takes r t = with_version r (with_fall r t)

-- the digest changes what is known of its sender alone
abbrev pub hears : Reading → Reporter → Reporter
hears r t = if is_of r.name t then takes r t else t

abbrev pub is_known : List Reporter → List ℕ → Bool
is_known all name = list_any (is_of name) all

abbrev pub is_fall : List Reporter → Reading → Bool
is_fall all r = list_any (λ t. is_of r.name t && is_some (fall_in t r)) all

abbrev pub has_fall : Reporter → Bool
has_fall t = is_some t.fall

abbrev pub falls_after : ℕ → List Reporter → Reading → ℕ
falls_after falls all r = if is_fall all r then min (falls + 1) (2 ^ 64 - 1) else falls

-- what nodes reported once the digest was read; a new name is added, or there is no room or no memory for it
abbrev pub IsHeard : List Reporter → Reading → List Reporter → Type 0
IsHeard old r new = (new ≡ map (hears r) old)
    ⊎ ((is_known old r.name ≡ false) × (new ≡ map (hears r) old ++ new_reporter r ∷ []))

abbrev pub without_fall : Reporter → Reporter
without_fall t = record { name = t.name; most = t.most; older = t.older; newer = t.newer; fall = None; last_fall_at = t.last_fall_at }

-- the first fall that is due is due no more
abbrev pub IsFallTaken : List Reporter → Option VersionFall → List Reporter → Type 0
IsFallTaken old None new = (position has_fall old ≡ None) × (new ≡ old)
IsFallTaken old (Some fall) new = (place : ℕ) × (one : Reporter)
    × (position has_fall old ≡ Some place) × (slice_index_or old place one ≡ one) × (one.fall ≡ Some fall) × (new ≡ slice_set old place (without_fall one))

-- digests are read one after another
abbrev pub Reads : List Reading → List Reporter → ℕ → List Reporter → ℕ → Type 0
Reads [] all falls end end_falls = (end ≡ all) × (end_falls ≡ falls)
Reads (r ∷ rs) all falls end end_falls = (mid : List Reporter) × IsHeard all r mid × Reads rs mid (falls_after falls all r) end end_falls

-- they are read at these moments or later, in their order
abbrev pub AreInOrder : ℕ → List Reading → Type 0
AreInOrder now [] = Unit {0}
AreInOrder now (r ∷ rs) = (now ≤ r.at) × AreInOrder r.at rs

-- a digest, and when its sender made it
pub record Made : Type 0 where
  pub reading : Reading
  pub made : ℕ

-- digests that were read as they were made by nodes of one log each: read after they were made; made no longer before their connection came than
-- a connection may be late; and of two with one name, the one that was made later reports no less
pub record AreOfOneLogEach (digests : List Made) : Type 0 where
  pub order : AreInOrder 0 (map (λ d. d.reading) digests)
  pub read : (d : Made) → Stands digests d → d.made ≤ d.reading.at
  pub late : (d : Made) → Stands digests d → d.reading.since ≤ d.made + LATE_MOST
  pub rises : (d e : Made) → Stands digests d → Stands digests e → d.reading.name ≡ e.reading.name → d.made < e.made → d.reading.version ≤ e.reading.version

-- all of these are of the one node
abbrev pub takes_all : List Reading → Reporter → Reporter
takes_all [] t = t
takes_all (r ∷ rs) t = takes_all rs (takes r t)

-- each was read at this moment or before
abbrev pub AreReadBy : ℕ → List Reading → Type 0
AreReadBy moment [] = Unit {0}
AreReadBy moment (r ∷ rs) = (r.at ≤ moment) × AreReadBy moment rs
