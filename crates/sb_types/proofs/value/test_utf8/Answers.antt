use Rattle.std.proofs.Common.{◌∙◌}
use Rattle.sb_types.proofs.Utf8.{tested}
use Rattle.sb_types.proofs.value.test_utf8.Goals as goal

pub returns : goal.returns
returns c = c.is_ok.ensures.value ∙ tested _ c.from_utf8.result c.args.text.now c.from_utf8.ensures.cases
