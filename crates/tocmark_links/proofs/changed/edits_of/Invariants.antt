use Rattle.std.proofs.Common.{◌≡◌, All, length}
use Rattle.tocmark_links.specs.Places.{IsAsked}
use Rattle.tocmark_links.proofs.changed.edits_of.Given as goal

abbrev pub invariant-loop-change : goal.invariant-loop-change
invariant-loop-change l = record {
  asked : All (IsAsked l.page.links.items l.changes) l.edits.items;
  count : length l.edits.items ≡ l.change-index;
}
