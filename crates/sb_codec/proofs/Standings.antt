-- That what was written stands, over one write after another.
use Rattle.std.proofs.Common.{◌≡◌, ℕ, List, [], ◌++◌, length, take, sym, ap, ◌∙◌, append_assoc, append-nil}
use lib.Seq.{take-append_seam}
use Rattle.sb_codec.specs.Standing.{StandsFirst}

pub stands_on : (bytes mid all : List ℕ) → StandsFirst bytes mid → StandsFirst mid all → StandsFirst bytes all
stands_on bytes mid all first second = record {
  behind = first.behind ++ second.behind;
  laid = second.laid ∙ ap (λ (front : List ℕ). front ++ second.behind) first.laid ∙ append_assoc bytes first.behind second.behind;
}

pub stands_behind : (bytes more all : List ℕ) → all ≡ bytes ++ more → StandsFirst bytes all
stands_behind bytes more all e = record { behind = more; laid = e }

pub stands_still : (bytes all : List ℕ) → all ≡ bytes → StandsFirst bytes all
stands_still bytes all e = record { behind = []; laid = e ∙ sym (append-nil bytes) }

pub what_stood : (bytes all : List ℕ) → StandsFirst bytes all → take (length bytes) all ≡ bytes
what_stood bytes all s = ap (take (length bytes)) s.laid ∙ take-append_seam bytes s.behind
