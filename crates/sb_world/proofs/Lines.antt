-- Lines of frames that were sent.
use Rattle.std.proofs.Common.{◌≡◌, ℕ, List, [], ◌∷◌, ◌++◌, inl, inr, refl, sym, ap, subst, ◌∙◌}
use Rattle.std.proofs.lemmas.List.{append-nil, append_assoc}
use Rattle.sb_types.specs.declared.entry.Write.{Write}
use Rattle.sb_types.specs.Runs.{Stands}
use Rattle.sb_types.proofs.Standing.{left as stands_left}
use Rattle.sb_codec.specs.declared.message.Message.{Message}
use Rattle.sb_frames.specs.Frames.{Front, short, whole, bad, front_of, Extends}
use Rattle.sb_frames.proofs.Fronts.{front_frame, front_extends, before_mark}
use Rattle.sb_node.specs.Talks.{TrueMessage}
use Rattle.sb_world.specs.Connections.{Connection}
use Rattle.sb_world.specs.Lines.{bytes_of_lines, IsLine, IsTrueConnection}
use Rattle.sb_world.specs.Truth.{IsTrueFrame}
use Rattle.sb_world.proofs.Keeping.{joined}

pub laid_more : (frames : List (List ℕ)) (f : List ℕ) → bytes_of_lines (frames ++ f ∷ []) ≡ bytes_of_lines frames ++ f
laid_more [] f = append-nil f
laid_more (x ∷ xs) f = ap (λ ys. x ++ ys) (laid_more xs f) ∙ sym (append_assoc x (bytes_of_lines xs) f)

abbrev message_or : Message → Front → Message
message_or other short = other
message_or other (whole message rest) = message
message_or other (bad fault) = other

abbrev rest_or : List ℕ → Front → List ℕ
rest_or other short = other
rest_or other (whole message rest) = rest
rest_or other (bad fault) = other

pub line_empty : (sent : List (List ℕ)) → IsLine sent [] []
line_empty sent = record { frames = []; each = λ bytes stands. absurd stands; laid = refl }

pub line_joined : (sent : List (List ℕ)) (held left f : List ℕ) → IsLine sent held left → Stands sent f → IsLine sent held (left ++ f)
line_joined sent held left f line is = record {
  frames = line.frames ++ f ∷ [];
  each = joined (Stands sent) line.frames (f ∷ []) line.each (λ bytes stands. one bytes stands);
  laid = sym (append_assoc held left f) ∙ ap (λ xs. xs ++ f) line.laid ∙ sym (laid_more line.frames f);
}
  where
    one : (bytes : List ℕ) → Stands (f ∷ []) bytes → Stands sent bytes
    one bytes (inl same) = subst (Stands sent) same is
    one bytes (inr stands) = absurd stands

pub line_fed : (sent : List (List ℕ)) (held piece left : List ℕ) → IsLine sent held (piece ++ left) → IsLine sent (held ++ piece) left
line_fed sent held piece left line = record { frames = line.frames; each = line.each; laid = append_assoc held piece left ∙ line.laid }

-- more was sent
pub line_later : (sent more : List (List ℕ)) (held left : List ℕ) → IsLine sent held left → IsLine (sent ++ more) held left
line_later sent more held left line = record { frames = line.frames; each = λ bytes stands. stands_left sent more bytes (line.each bytes stands); laid = line.laid }

pub connection_later : (sent more : List (List ℕ)) (c : Connection) → IsTrueConnection sent c → IsTrueConnection (sent ++ more) c
connection_later sent more c t = record { held = t.held; stands = t.stands; line = line_later sent more t.held c.left t.line }

-- the first message that is held is that of a frame that was sent, and the rest is frames laid end to end
pub line_taken : (writes : List ℕ → List Write) (budget : ℕ) (sent : List (List ℕ)) → ((bytes : List ℕ) → Stands sent bytes → IsTrueFrame writes budget bytes) →
    (held left rest : List ℕ) (m : Message) → IsLine sent held left → front_of held ≡ whole m rest → TrueMessage writes m × IsLine sent rest left
line_taken writes budget sent true_sent held left rest m line front = go line.frames line.each line.laid
  where
    all : front_of (held ++ left) ≡ whole m (rest ++ left)
    all = subst (λ (x : Front). Extends x left (front_of (held ++ left))) front (front_extends held left)

    go : (frames : List (List ℕ)) → ((bytes : List ℕ) → Stands frames bytes → Stands sent bytes) → held ++ left ≡ bytes_of_lines frames → TrueMessage writes m × IsLine sent rest left
    go [] each laid = let none : whole m (rest ++ left) ≡ short = sym all ∙ ap front_of laid ∙ before_mark [] refl in absurd (cc)
    go (f ∷ fs) each laid =
        let is = true_sent f (each f (inl refl)) in
        let first : front_of (f ++ bytes_of_lines fs) ≡ whole is.message (bytes_of_lines fs) = ap (λ xs. front_of (xs ++ bytes_of_lines fs)) is.laid ∙ front_frame is.message (bytes_of_lines fs) is.limits in
        let both : whole m (rest ++ left) ≡ whole is.message (bytes_of_lines fs) = sym all ∙ ap front_of laid ∙ first in
        let same : m ≡ is.message = ap (message_or m) both in
        (subst (TrueMessage writes) (sym same) is.honest, record { frames = fs; each = λ bytes stands. each bytes (inr stands); laid = ap (rest_or rest) both })
