use Rattle.tocmark_layout_laws.proofs.PlainBlocks.{layouts_declared}
use Rattle.tocmark_layout_laws.proofs.layouts.layouts_are_declared.Goals as goal

pub returns : goal.returns
returns c options flags f tokens plain listless small = layouts_declared options flags f tokens plain listless small
