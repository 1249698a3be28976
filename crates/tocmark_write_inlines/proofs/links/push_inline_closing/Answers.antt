use Rattle.tocmark_write_texts.specs.Destination.{inline_closing}
use Rattle.tocmark_write_inlines.proofs.Written.{written-text}
use Rattle.tocmark_write_inlines.proofs.links.push_inline_closing.Goals as goal

pub returns-in-Ok : goal.returns-in-Ok
returns-in-Ok c = written-text c.args.text.now c.close_link.new.f (inline_closing c.args.destination.now c.args.title.now) c.in-Ok.ensures
