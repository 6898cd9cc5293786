-- Settings as they were given, as the settings that they would make.
use Rattle.sb_types.specs.declared.settings.RawSettings.{RawSettings}
use Rattle.sb_types.specs.Records.{Settings}

abbrev pub settings_from : RawSettings → Settings
settings_from raw = record { cluster = raw.cluster.now; budget = raw.budget; order = raw.order; max_version = raw.max_version; seats = raw.seats; workers = raw.workers }
