use Rattle.tocmark_event.specs.Options.{options_view}
use Rattle.tocmark_event.proofs.SameFields.{options_Decides}
use Rattle.tocmark_event.proofs.option_laws.equal_options_have_equal_fields.Goals as goal

-- src/laws.rt:14:1
pub returns : goal.returns
returns c = options_Decides (options_view c.args.a.now) (options_view c.args.b.now)
