-- Where the keys start that do not come before a prefix.
use Rattle.std.proofs.Common.{◌≡◌, ℕ, Bool, true, List, [], ◌∷◌, length, nat_le, if◌then◌else◌, Ok, Err, refl, ap, ◌∙◌, arith}
use Rattle.std.proofs.lemmas.Bool.{and_parts, and_from, le-leb}
use Rattle.std.specs.List.{list_all}
use Rattle.std.specs.Ordering.{nat_cmp, is_le}
use Rattle.std.specs.Cmp.Lexicographic.{slice_cmp}
use Rattle.sb_types.specs.declared.fault.Fault.{Fault}
use Rattle.sb_types.specs.declared.fault.Fault.TheVariants.{BadKey}
use Rattle.sb_types.specs.declared.limits.TheConstants.{KEY_MOST}
use Rattle.sb_types.specs.Text.{is_between, is_key, is_key_byte, is_prefix}

pub start-read : (text key : List ℕ) → Ok key ≡ (if is_key text then Ok text else Err BadKey) → key ≡ text
start-read text key is = grind arith

pub start-empty : (text : List ℕ) (fault : Fault) → is_prefix text ≡ true → Err fault ≡ (if is_key text then Ok text else Err BadKey) → text ≡ []
start-empty [] fault whole is = refl
start-empty (b ∷ bs) fault whole is =
    let parts = and_parts (nat_le (length (b ∷ bs)) KEY_MOST) (list_all is_key_byte (b ∷ bs)) whole in
    let key : is_key (b ∷ bs) ≡ true = and_from (is_between 1 KEY_MOST (length (b ∷ bs))) (list_all is_key_byte (b ∷ bs)) (and_from (nat_le 1 (length (b ∷ bs))) (nat_le (length (b ∷ bs)) KEY_MOST) (le-leb 1 (length (b ∷ bs)) (omega arith)) parts.0) parts.1 in
    let both : Err fault ≡ Ok (b ∷ bs) = is ∙ ap (λ (t : Bool). if t then Ok (b ∷ bs) else Err BadKey) key in
    absurd (cc)

pub from-empty : (q : List ℕ) → true ≡ is_le (slice_cmp nat_cmp [] q)
from-empty [] = refl
from-empty (b ∷ bs) = refl
