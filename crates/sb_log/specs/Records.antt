-- A log, and a write that it took, as plain data.
use Rattle.std.specs.Prelude.{ℕ, Bool, List}
use Rattle.sb_types.specs.Records.{Entry, Table}

pub record Committed : Type 0 where
  pub owner : List ℕ
  pub entry : Entry

-- an owner's log
pub record Log : Type 0 where
  pub owner : List ℕ
  pub cluster : List ℕ
  -- the greatest version that it gives
  pub most : ℕ
  -- the last write of each key, but no removal up to the floor, and the version of the last of all
  pub content : Table
  -- no fault of its store has closed it
  pub is_open : Bool
  -- so far its store has done what it promises; what is said of the content is said while this holds
  pub is_clean : Bool
  -- nothing can make its store break its promise: it has none but memory
  pub is_sure : Bool
