use Rattle.std.proofs.Common.{◌≡◌, ◌-◌, length, get_or, sym, ap, ◌∙◌}
use Rattle.sb_types.specs.Records.{Entry}
use Rattle.sb_types.proofs.RunLemmas.{last_version-get_or}
use Rattle.sb_table.proofs.places.last_version_of.Goals as goal

pub returns-in-len1-up : goal.returns-in-len1-up
returns-in-len1-up c =
    let last : c.version.result ≡ (get_or c.args.entries.now (length c.args.entries.now - 1) c.last-item.result).version =
    c.version.ensures.version ∙ ap (λ (e : Entry). e.version) (c.entry.ensures.entry ∙ c.last-item.is) in
    last ∙ sym (last_version-get_or 0 c.args.entries.now c.last-item.result c.in-len1-up.len_at_least)
