use Rattle.std.proofs.Common.{sym, ap, ◌∙◌}
use Rattle.sb_types.specs.Records.{Entry}
use Rattle.sb_types.proofs.RunLemmas.{last_version-get_or}
use Rattle.sb_types.proofs.block.last_version.Goals as goal

pub returns-in-len1-up : goal.returns-in-len1-up
returns-in-len1-up c =
    c.version.ensures.version ∙ ap (λ (e : Entry). e.version) c.last-item.is
    ∙ sym (last_version-get_or c.args.after c.args.entries.now c.last-item.result c.in-len1-up.len_at_least)
