-- What a message means to the caller that sent a request.
use Rattle.std.specs.Prelude.{◌≡◌, ℕ, List, [], ◌∷◌, take, Result, Ok, Err}
use Rattle.sb_types.specs.declared.fault.Fault.{Fault}
use Rattle.sb_types.specs.Faults.{number_of, carried_by}
use Rattle.sb_codec.specs.declared.message.Message.{Message}
use Rattle.sb_codec.specs.declared.message.Message.TheVariants.{Rows, Done, Refused, NodeStatus, Notice, Ages}
use Rattle.sb_codec.specs.declared.message.notice.Notice as notices
use Rattle.sb_codec.specs.declared.message.ages.OwnerAge.{OwnerAge}
use Rattle.sb_codec.specs.Messages.{spelling}
use Rattle.sb_codec.specs.Records as records
use Rattle.sb_query.specs.declared.answers.NoAnswer.{NoAnswer}
use Rattle.sb_query.specs.declared.answers.NoAnswer.TheVariants as reasons

-- the fault whose number a refusal gives, carrying nothing else; or the kind of another message
abbrev pub IsNoAnswer : Message → NoAnswer → Type 0
IsNoAnswer (Refused number) reason = (fault : Fault) × (reason ≡ reasons.Refused fault) × (number_of fault ≡ number) × (carried_by fault ≡ 0)
IsNoAnswer other reason = (kind : ℕ) × (reason ≡ reasons.OtherKind kind) × (take 1 (spelling other) ≡ kind ∷ [])

abbrev pub TellsVersion : Message → Result ℕ NoAnswer → Type 0
TellsVersion (Done version) result = result ≡ Ok version
TellsVersion other result = (reason : NoAnswer) × (result ≡ Err reason) × IsNoAnswer other reason

abbrev pub TellsPage : Message → Result records.Rows NoAnswer → Type 0
TellsPage (Rows page) result = result ≡ Ok page
TellsPage other result = (reason : NoAnswer) × (result ≡ Err reason) × IsNoAnswer other reason

abbrev pub TellsStatus : Message → Result records.NodeStatus NoAnswer → Type 0
TellsStatus (NodeStatus status) result = result ≡ Ok status
TellsStatus other result = (reason : NoAnswer) × (result ≡ Err reason) × IsNoAnswer other reason

abbrev pub TellsNotice : Message → Result notices.Notice NoAnswer → Type 0
TellsNotice (Notice notice) result = result ≡ Ok notice
TellsNotice other result = (reason : NoAnswer) × (result ≡ Err reason) × IsNoAnswer other reason

abbrev pub TellsAges : Message → Result (List OwnerAge) NoAnswer → Type 0
TellsAges (Ages ages) result = result ≡ Ok ages
TellsAges other result = (reason : NoAnswer) × (result ≡ Err reason) × IsNoAnswer other reason
