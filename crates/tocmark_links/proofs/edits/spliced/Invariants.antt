use Rattle.std.proofs.Common.{drop, string_bytes}
use Rattle.tocmark_links.proofs.Splicing.{Splices}
use Rattle.tocmark_links.proofs.edits.spliced.Given as goal

abbrev pub invariant-loop-edit : goal.invariant-loop-edit
invariant-loop-edit l = Splices l.text l.edits (drop l.edit-index l.edits) l.at (string_bytes l.new)
