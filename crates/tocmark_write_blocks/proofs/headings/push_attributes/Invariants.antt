use Rattle.std.proofs.Common.{◌≡◌, ◌++◌, map, drop, string_bytes}
use Rattle.std.specs.List.{flat_map}
use Rattle.tocmark_event.specs.View.{attribute_view}
use Rattle.tocmark_spelling.specs.Closing.{attribute_text}
use Rattle.tocmark_write_blocks.proofs.headings.push_attributes.Given as goal

abbrev pub invariant-loop-attribute : goal.invariant-loop-attribute
invariant-loop-attribute l =
    string_bytes l.text ++ flat_map attribute_text (map (attribute_view string_bytes) (drop l.attribute-index l.attributes))
    ≡ string_bytes l.initial.text ++ flat_map attribute_text (map (attribute_view string_bytes) l.attributes)
