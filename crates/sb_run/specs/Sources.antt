-- What a worker takes from a source.
use Rattle.std.specs.Prelude.{ℕ, ◌<◌, List, Option}
use Rattle.sb_run.specs.declared.pool.Taken.{Taken}
use Rattle.sb_run.specs.declared.pool.Taken.TheVariants.{Session, Question}

-- sessions have numbers from 1
abbrev pub IsNumbered : {I O : Type 0} → Taken I O → Type 0
IsNumbered (Session number arrival input output) = 0 < number
IsNumbered (Question ask output) = Unit {0}

abbrev pub IsQuestion : {I O : Type 0} → Taken I O → Type 0
IsQuestion (Session number arrival input output) = ⊥
IsQuestion (Question ask output) = Unit {0}

-- of the bytes of a connection that is given that holds
abbrev pub IsGivenBy : {I O : Type 0} → (I → Option (List ℕ)) → (Option (List ℕ) → Type 0) → Taken I O → Type 0
IsGivenBy remaining gives (Session number name input output) = gives (remaining input)
IsGivenBy remaining gives (Question ask output) = Unit {0}
