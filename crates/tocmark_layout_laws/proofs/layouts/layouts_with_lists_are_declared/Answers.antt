use Rattle.tocmark_layout_laws.proofs.ListedLayouts.{layouts_with_lists_declared}
use Rattle.tocmark_layout_laws.proofs.layouts.layouts_with_lists_are_declared.Goals as goal

pub returns : goal.returns
returns c options flags f tokens bullet plain safe small = layouts_with_lists_declared options flags f tokens bullet plain safe small
