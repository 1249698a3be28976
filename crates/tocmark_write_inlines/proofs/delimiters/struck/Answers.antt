use Rattle.std.proofs.Common.{refl}
use Rattle.tocmark_write_renderer.specs.JobOf.{manner_view, setting_in}
use Rattle.tocmark_write_inlines.proofs.delimiters.struck.Goals as goal

pub returns-clause-before : goal.returns-clause-before
returns-clause-before c =
    λ reading path is. c.strikethrough_token-token.ensures (setting_in c.args.job reading) (manner_view c.args.manner) path (record { layout_is = refl; flags_are = refl; outside = is })
