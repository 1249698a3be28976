use Rattle.std.proofs.Common.{◌++◌, map, string_bytes}
use Rattle.tocmark_write_labels.specs.Definitions.{lines_of}
use Rattle.tocmark_write_labels.specs.DefinitionsOf.{key_view}
use Rattle.tocmark_write_labels.proofs.DefinitionTexts.{line-more}
use Rattle.tocmark_write_labels.proofs.definitions.push_lines.Goals as goal

pub loop-key-preserved : goal.loop-key-preserved
loop-key-preserved c =
    line-more c.args.keys.now c.loop-key.key-index _ (string_bytes c.loop-key.text) (string_bytes c.push_line.new.text) (string_bytes c.args.text.now ++ lines_of (map key_view c.args.keys.now)) c.loop-key.is_first
    c.loop-key-test.true c.in_ok-push_line.ensures c.loop-key.invariant
