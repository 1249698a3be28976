use Rattle.tocmark_write_labels.proofs.FreeLabels.{reserved-least, reserved-free}
use Rattle.tocmark_write_labels.proofs.label_set_laws.the_reserved_label_is_free_and_least.Goals as goal

pub returns-clause-least : goal.returns-clause-least
returns-clause-least c = reserved-least

pub returns-clause-free : goal.returns-clause-free
returns-clause-free c = reserved-free
