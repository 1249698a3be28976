use Rattle.std.proofs.Common.{◌≡◌, ◌++◌, drop, map, string_bytes}
use Rattle.tocmark_write_labels.specs.Definitions.{lines_of}
use Rattle.tocmark_write_labels.specs.DefinitionsOf.{key_view}
use Rattle.tocmark_write_labels.proofs.DefinitionTexts.{lines_left}
use Rattle.tocmark_write_labels.proofs.definitions.push_lines.Given as goal

abbrev pub invariant-loop-key : goal.invariant-loop-key
invariant-loop-key l =
    string_bytes l.text ++ lines_left l.is_first (map key_view (drop l.key-index l.keys))
    ≡ string_bytes l.initial.text ++ lines_of (map key_view l.keys)
