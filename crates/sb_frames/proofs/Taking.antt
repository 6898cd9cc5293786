-- What comes of a look at the first frame, and of a call for the next message.
use Rattle.std.proofs.Common.{◌≡◌, ◌≢◌, ℕ, ◌+◌, List, [], ◌∷◌, ◌++◌, length, take, drop, Option, Some, None, Ok, Err, refl, sym, ap, subst, ◌∙◌, ◌⊎◌, inl, inr, append_assoc}
use Rattle.std.specs.Int.{w32}
use Rattle.std.proofs.lemmas.List.{append-nil, take-append-drop, drop_at}
use Rattle.std.proofs.Math.Seq.{take-append_seam}
use Rattle.sb_types.specs.declared.fault.Fault.{Fault}
use Rattle.sb_types.specs.declared.fault.Fault.TheVariants.{NoMemory}
use Rattle.sb_types.specs.declared.format.TheConstants.{FRAME_MARK, FRAME_VERSION}
use Rattle.sb_codec.specs.declared.message.Message.{Message}
use Rattle.sb_codec.specs.Spelling.{number}
use Rattle.sb_codec.specs.Messages.{TakesMemory}
use Rattle.sb_frames.specs.Frames.{frame_of_payload, IsFramed, IsLoneFrame, Leads, HasPayload, Extends, bad, front_of}
use Rattle.sb_frames.specs.Streams.{open_with, shut, Takes, TakesFirst}
use Rattle.sb_frames.proofs.Fronts.{front_frame, not_for_memory, front_extends, length-framed}

abbrev pub IsRefused : List ℕ → Fault → Type 0
IsRefused held fault = (front_of held ≡ bad fault) ⊎ ((fault ≡ NoMemory) × HasPayload held)

-- ---- one whole frame, and what stands behind it

pub lone_payload : (bytes payload : List ℕ) → IsFramed bytes payload [] → drop 6 bytes ≡ payload
unfolding frame_of_payload number
lone_payload bytes payload is =
    ap (drop 6) (is.laid ∙ append-nil (frame_of_payload payload)) ∙ drop_at (FRAME_MARK ∷ FRAME_VERSION ∷ number w32 (length payload)) payload 6 refl

-- what was split off is the frame, and no byte more
pub is_lone : (bytes payload rest : List ℕ) → IsFramed bytes payload rest → TakesMemory payload → IsLoneFrame (take (6 + length payload) bytes)
is_lone bytes payload rest is takes =
    let front : take (6 + length payload) bytes ≡ frame_of_payload payload =
    ap (take (6 + length payload)) is.laid ∙ ap (λ n. take n (frame_of_payload payload ++ rest)) (sym (length-framed payload)) ∙ take-append_seam (frame_of_payload payload) rest in
    (payload, record { limits = is.limits; laid = front ∙ sym (append-nil (frame_of_payload payload)) }, takes)

pub leads_before : (bytes rest : List ℕ) (m : Message) → Leads bytes m [] → Leads (bytes ++ rest) m rest
leads_before bytes rest m leads = record { limits = leads.limits; laid = ap (λ (x : List ℕ). x ++ rest) leads.laid ∙ append_assoc _ [] rest }

pub refused_before : (bytes rest : List ℕ) (fault : Fault) → IsRefused bytes fault → IsRefused (bytes ++ rest) fault
refused_before bytes rest fault refused =
    elim refused [
      | inl front ↦ inl (subst (λ f. Extends f rest (front_of (bytes ++ rest))) front (front_extends bytes rest))
      | inr payload ↦
          let at = payload.1 in
          inr (payload.0, (at.0, at.1 ++ rest, record { limits = at.2.limits; laid = ap (λ (x : List ℕ). x ++ rest) at.2.laid ∙ append_assoc _ at.1 rest }, at.3))
    ]

-- ---- the next message

pub takes_ok : (held left : List ℕ) (found : Option Message) → TakesFirst held (Ok found) left → Takes held (Ok found) (open_with left)
takes_ok held left (Some m) leads = record { rest = left; leads = leads; front = ap front_of leads.laid ∙ front_frame m left leads.limits; left = refl }
takes_ok held left None waits = (waits.0, ap open_with waits.1)

pub takes_memory : (held left : List ℕ) (fault : Fault) → TakesFirst held (Err fault) left → fault ≡ NoMemory → Takes held (Err fault) (open_with left)
takes_memory held left fault refused same =
    elim refused.0 [
      | inl front ↦ absurd (not_for_memory held fault front same)
      | inr payload ↦ inr (same, payload.1, ap open_with refused.1)
    ]

pub takes_fault : (held left : List ℕ) (fault : Fault) → TakesFirst held (Err fault) left → fault ≢ NoMemory → Takes held (Err fault) shut
takes_fault held left fault refused other =
    elim refused.0 [
      | inl front ↦ inl (front, refl)
      | inr payload ↦ absurd (other payload.0)
    ]

-- ---- a look at the first frame

pub first_read : (frame behind left : List ℕ) (m : Message) → Leads frame m [] → left ≡ [] → TakesFirst (frame ++ behind) (Ok (Some m)) (left ++ behind)
first_read frame behind left m leads none = rw none (leads_before frame behind m leads)

pub first_refused : (frame behind left : List ℕ) (fault : Fault) → IsRefused frame fault → left ≡ frame → TakesFirst (frame ++ behind) (Err fault) (left ++ behind)
first_refused frame behind left fault refused same = (refused_before frame behind fault refused, ap (λ (x : List ℕ). x ++ behind) same)

-- what was split off was refused, and waits
pub split_refused : (bytes left : List ℕ) (count : ℕ) (fault : Fault) → IsRefused (take count bytes) fault → left ≡ take count bytes → TakesFirst bytes (Err fault) (left ++ drop count bytes)
split_refused bytes left count fault refused same =
    subst (λ held. TakesFirst held (Err fault) (left ++ drop count bytes)) (take-append-drop count bytes) (first_refused (take count bytes) (drop count bytes) left fault refused same)
