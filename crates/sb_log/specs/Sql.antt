-- A log in a database, as plain data.
use Rattle.std.specs.Prelude.{ℕ, Bool, false, List, Option, refl}
use Rattle.std.specs.Coded.{Coded, code_by, coded×, coded_ℕ, coded_bool, coded_list, coded_option}
use Rattle.sqlite_trees.specs.declared.store.Store.{Ghosts}
use Rattle.sqlite.specs.Held.{Held, held_code, state}
use Rattle.sb_log.specs.declared.cause.StoreCause.{StoreCause}
use Rattle.sb_log.specs.Cause.{cause_code}
use Rattle.sb_log.specs.Records.{Log}
use Rattle.sb_log.specs.Rows.{content_of}

pub record SqlView (S : Type 0) : Type 0 where
  pub owner : List ℕ
  pub cluster : List ℕ
  pub most : ℕ
  pub is_open : Bool
  pub cause : Option StoreCause
  pub conn : Held S

abbrev pub sql_code : {S : Type 0} → Coded S → Coded (SqlView S)
sql_code {S} store =
    code_by (List ℕ × (List ℕ × (ℕ × (Bool × (Option StoreCause × Held S)))))
    (coded× (coded_list coded_ℕ) (coded× (coded_list coded_ℕ) (coded× coded_ℕ (coded× coded_bool (coded× (coded_option cause_code) (held_code store))))))
    (λ v. (v.owner, (v.cluster, (v.most, (v.is_open, (v.cause, v.conn))))))
    (λ p. record { owner = p.0; cluster = p.1.0; most = p.1.1.0; is_open = p.1.1.1.0; cause = p.1.1.1.1.0; conn = p.1.1.1.1.1 })
    (λ _. refl)

-- its content is what the rows of both tables hold
abbrev pub log_in : {S : Type 0} → Ghosts S → SqlView S → Log
log_in g v = record {
  owner = v.owner;
  cluster = v.cluster;
  most = v.most;
  content = content_of ((state g v.conn).now.trees 0) ((state g v.conn).now.trees 1);
  is_open = v.is_open;
  is_clean = (state g v.conn).is_clean;
  is_sure = false;
}
