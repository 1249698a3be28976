use Rattle.std.proofs.Common.{◌≡◌, ◌++◌, drop}
use Rattle.tocmark_lsp_text.specs.Edits.{edited_from, edited}
use Rattle.tocmark_lsp_text.proofs.edits.edited.Given as goal

abbrev pub invariant-loop-edit : goal.invariant-loop-edit
invariant-loop-edit l =
    l.whole.items ++ edited_from l.encoding l.starts.items l.text l.at (drop l.edit-index l.edits) ≡ edited l.encoding l.text l.edits
