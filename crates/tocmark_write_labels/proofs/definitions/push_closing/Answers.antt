use Rattle.tocmark_write_texts.specs.Destination.{definition_closing}
use Rattle.tocmark_write_labels.proofs.DefinitionTexts.{written-text}
use Rattle.tocmark_write_labels.proofs.definitions.push_closing.Goals as goal

pub returns-in-Ok : goal.returns-in-Ok
returns-in-Ok c = written-text c.args.text.now c.close_link.new.f (definition_closing c.args.destination.now c.args.title.now) c.in-Ok.ensures
