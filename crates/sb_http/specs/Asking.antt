-- What a reader of requests returns if it may lack memory.
use Rattle.std.specs.Prelude.{◌≡◌, ◌≢◌, Result, Ok, Err}
use Rattle.sb_http.specs.declared.operation.Refusal.{Refusal}
use Rattle.sb_http.specs.declared.operation.Refusal.TheVariants.{NoMemory}

-- the result is the wanted one, unless there was no memory
abbrev pub GivesUnless : {X : Type 0} → Result X Refusal → Result X Refusal → Type 0
GivesUnless (Ok x) want = want ≡ Ok x
GivesUnless (Err why) want = why ≢ NoMemory → want ≡ Err why
