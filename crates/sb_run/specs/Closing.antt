-- What a log is that its node can close.
use Rattle.std.specs.Prelude.{◌&&◌, Option, Some, None, is_none}
use Rattle.sb_log.specs.Records.{Log}
use Rattle.sb_log.specs.declared.cause.StoreCause.{StoreCause}

-- the log, which is closed if its node closed it
abbrev pub seen_by : Log → Option StoreCause → Log
seen_by log closed_by = record {
  owner = log.owner;
  cluster = log.cluster;
  most = log.most;
  content = log.content;
  is_open = is_none closed_by && log.is_open;
  is_clean = log.is_clean;
  is_sure = log.is_sure;
}

-- why it is closed: as its node said, or else by its store
abbrev pub why_of : Option StoreCause → Option StoreCause → Option StoreCause
why_of of_store None = of_store
why_of of_store (Some cause) = Some cause
