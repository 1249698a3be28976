-- The flags of a parser as bits.
use Rattle.std.specs.Prelude.{ℕ, ◌-◌, ◌^◌, List, [], ◌∷◌, bit_and, bit_or}
use Rattle.tocmark_event.specs.declared.event.flags.ParserOptions.{ParserOptions}
use Rattle.tocmark_event.specs.declared.event.flags.TheConstants.ParserOptions.{ENABLE_TABLES, ENABLE_FOOTNOTES, ENABLE_STRIKETHROUGH, ENABLE_TASKLISTS, ENABLE_SMART_PUNCTUATION, ENABLE_HEADING_ATTRIBUTES, ENABLE_YAML_STYLE_METADATA_BLOCKS, ENABLE_PLUSES_DELIMITED_METADATA_BLOCKS, ENABLE_OLD_FOOTNOTES, ENABLE_MATH, ENABLE_GFM, ENABLE_DEFINITION_LIST, ENABLE_SUPERSCRIPT, ENABLE_SUBSCRIPT, ENABLE_WIKILINKS}

-- the bits that some of these flags has
abbrev pub union_of : List ParserOptions → ℕ
union_of [] = 0
union_of (flag ∷ flags) = bit_or flag.0 (union_of flags)

-- the flags without those that have one of these bits
abbrev pub without : ParserOptions → ℕ → ParserOptions
without flags bits = record { 0 = bit_and flags.0 (2 ^ 32 - 1 - bits) }

-- superscripts and subscripts, written as symbols
abbrev pub script_flags : List ParserOptions
script_flags = ENABLE_SUPERSCRIPT ∷ ENABLE_SUBSCRIPT ∷ []

-- both kinds of metadata blocks
abbrev pub metadata_flags : List ParserOptions
metadata_flags = ENABLE_YAML_STYLE_METADATA_BLOCKS ∷ ENABLE_PLUSES_DELIMITED_METADATA_BLOCKS ∷ []

-- the flags under which events can be written back
abbrev pub supported_flags : List ParserOptions
supported_flags =
    ENABLE_TABLES
    ∷ ENABLE_FOOTNOTES
    ∷ ENABLE_STRIKETHROUGH
    ∷ ENABLE_TASKLISTS
    ∷ ENABLE_HEADING_ATTRIBUTES
    ∷ ENABLE_YAML_STYLE_METADATA_BLOCKS
    ∷ ENABLE_PLUSES_DELIMITED_METADATA_BLOCKS
    ∷ ENABLE_MATH
    ∷ ENABLE_GFM
    ∷ ENABLE_DEFINITION_LIST
    ∷ ENABLE_SUPERSCRIPT
    ∷ ENABLE_SUBSCRIPT
    ∷ []

-- the flags that have a name
abbrev pub named_flags : List ParserOptions
named_flags =
    ENABLE_SMART_PUNCTUATION ∷ ENABLE_OLD_FOOTNOTES ∷ ENABLE_WIKILINKS ∷ supported_flags
