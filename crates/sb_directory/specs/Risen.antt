-- Of whom more is held than before.
use Rattle.std.specs.Prelude.{ℕ, nat_lt, if◌then◌else◌, List, [], ◌∷◌}
use Rattle.sb_holdings.specs.Held.{Held, shown_of}
use Rattle.sb_budget.specs.Backlogs.{Backlog, with_version}

-- with an owner added that is held above this version
abbrev pub with_one_risen : Backlog → Held → List ℕ × ℕ → Backlog
with_one_risen news held p = if nat_lt p.1 (shown_of held p.0).held then with_version news p.0 p.1 else news

-- with each of these owners
abbrev pub with_risen : Backlog → Held → List (List ℕ × ℕ) → Backlog
with_risen news held [] = news
with_risen news held (p ∷ ps) = with_risen (with_one_risen news held p) held ps
