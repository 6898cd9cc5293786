-- A dash is a short text.
use Rattle.std.proofs.Common.{◌≡◌, true, refl}
use Rattle.std.specs.Char.{encode_utf8}
use Rattle.std.specs.Str.{chars, is_utf8}
use Rattle.sb_types.specs.Text.{is_short_text}
use Rattle.sb_run.specs.StatusReplies.{dash}

pub dash_fits : is_short_text dash ≡ true
unfolding is_utf8 chars encode_utf8
dash_fits = refl
