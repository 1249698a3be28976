-- Which extensions flags name.
use Rattle.std.specs.Prelude.{◌==◌, Bool, false, true, bit_and}
use Rattle.tocmark_read_scan.specs.declared.syntax.Syntax.{Syntax}
use Rattle.tocmark_read_scan.specs.declared.syntax.Names.{Names}
use Rattle.tocmark_event.specs.declared.event.flags.ParserOptions.{ParserOptions}
use Rattle.tocmark_event.specs.declared.event.flags.TheConstants.ParserOptions.{ENABLE_TABLES, ENABLE_FOOTNOTES, ENABLE_STRIKETHROUGH, ENABLE_SUBSCRIPT, ENABLE_SUPERSCRIPT, ENABLE_MATH, ENABLE_TASKLISTS, ENABLE_YAML_STYLE_METADATA_BLOCKS, ENABLE_PLUSES_DELIMITED_METADATA_BLOCKS, ENABLE_GFM, ENABLE_HEADING_ATTRIBUTES, ENABLE_DEFINITION_LIST}

-- a flag is among these
abbrev pub has : ParserOptions → ParserOptions → Bool
has flags flag = bit_and flags.0 flag.0 == flag.0

-- the extensions that flags name, with the names of character references that are known
unfoldable pub syntax_of : Names → ParserOptions → Syntax
syntax_of names flags = record {
  tables = has flags ENABLE_TABLES;
  footnotes = has flags ENABLE_FOOTNOTES;
  strikethrough = has flags ENABLE_STRIKETHROUGH;
  subscript = has flags ENABLE_SUBSCRIPT;
  superscript = has flags ENABLE_SUPERSCRIPT;
  math = has flags ENABLE_MATH;
  task_lists = has flags ENABLE_TASKLISTS;
  yaml_metadata = has flags ENABLE_YAML_STYLE_METADATA_BLOCKS;
  pluses_metadata = has flags ENABLE_PLUSES_DELIMITED_METADATA_BLOCKS;
  quote_kinds = has flags ENABLE_GFM;
  heading_attributes = has flags ENABLE_HEADING_ATTRIBUTES;
  definition_lists = has flags ENABLE_DEFINITION_LIST;
  undefined_notes = false;
  names = names;
}

-- the same extensions, where a reference to a footnote counts without a definition of the footnote
abbrev pub unit_syntax_of : Names → ParserOptions → Syntax
unit_syntax_of names flags = record (syntax_of names flags) { undefined_notes = true }
