-- A watch, and all watches of a node, as plain data.
use Rattle.std.specs.Prelude.{ℕ, List}
use Rattle.sb_watch.specs.declared.note.Filter.{Filter}
use Rattle.sb_watch.specs.declared.note.Note.{Note}

pub record Watch : Type 0 where
  pub id : ℕ
  -- which notes it is for
  pub filter : Filter
  -- how many notes it has room for
  pub capacity : ℕ
  -- the notes that were neither handed out nor pushed out, oldest first
  pub notes : List Note
  -- how many were pushed out since that was last reported; 2^64 - 1 if there were more
  pub lost : ℕ

pub record Hub : Type 0 where
  -- in the order in which they were added
  pub watches : List Watch
  -- the id of the next watch
  pub next : ℕ
