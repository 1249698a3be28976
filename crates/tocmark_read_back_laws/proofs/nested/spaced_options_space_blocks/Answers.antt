use Rattle.tocmark_read_back_laws.proofs.NestedOptions.{spaced_options}
use Rattle.tocmark_read_back_laws.proofs.nested.spaced_options_space_blocks.Goals as goal

pub returns : goal.returns
returns c = spaced_options
