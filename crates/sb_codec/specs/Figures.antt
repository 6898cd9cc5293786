-- The kinds of figures, and what figures tell.
use Rattle.std.specs.Prelude.{ℕ, List, codes, find, nat_eq, Option, option_map}
use Rattle.sb_codec.specs.declared.message.figure.FigureKind.{FigureKind}
use Rattle.sb_codec.specs.declared.message.figure.FigureKind.TheVariants.{Uptime, CaughtUp, LogFault, Conflict, Version, Keys, Removals, Owners, Peers, Rounds, RoundFaults, Sessions, Workers, WorkersBusy, AllWorkersBusy, SessionFaults, LastSessionFault, OtherVersions, TurnedAway, FullWrites}
use Rattle.sb_codec.specs.Records.{Figure}

abbrev pub number_of : FigureKind → ℕ
number_of Uptime = 1
number_of CaughtUp = 2
number_of LogFault = 3
number_of Conflict = 4
number_of Version = 5
number_of Keys = 6
number_of Removals = 7
number_of Owners = 8
number_of Peers = 9
number_of Rounds = 10
number_of RoundFaults = 11
number_of Sessions = 12
number_of Workers = 13
number_of WorkersBusy = 14
number_of AllWorkersBusy = 15
number_of SessionFaults = 16
number_of LastSessionFault = 17
number_of OtherVersions = 18
number_of TurnedAway = 19
number_of FullWrites = 20

abbrev pub word_of : FigureKind → List ℕ
word_of Uptime = codes "uptime"
word_of CaughtUp = codes "caught_up"
word_of LogFault = codes "log_fault"
word_of Conflict = codes "conflict"
word_of Version = codes "version"
word_of Keys = codes "keys"
word_of Removals = codes "removals"
word_of Owners = codes "owners"
word_of Peers = codes "peers"
word_of Rounds = codes "rounds"
word_of RoundFaults = codes "round_faults"
word_of Sessions = codes "sessions"
word_of Workers = codes "workers"
word_of WorkersBusy = codes "workers_busy"
word_of AllWorkersBusy = codes "all_workers_busy"
word_of SessionFaults = codes "session_faults"
word_of LastSessionFault = codes "last_session_fault"
word_of OtherVersions = codes "other_versions"
word_of TurnedAway = codes "turned_away"
word_of FullWrites = codes "full_writes"

-- the value of the first figure of this number, if there is one
abbrev pub value_at : ℕ → List Figure → Option ℕ
value_at number figures = option_map (λ f. f.value) (find (λ f. nat_eq f.number number) figures)
