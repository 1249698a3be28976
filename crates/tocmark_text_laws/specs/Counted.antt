-- How deep blocks are, and how long their texts.
use Rattle.std.specs.Prelude.{ℕ, ◌^◌, ◌<◌, List, [], length, map}
use Rattle.std.specs.List.{AllByRecursion}
use Rattle.tocmark_read_scan.specs.declared.syntax.TheConstants.{CORE}
use Rattle.tocmark_read_blocks.specs.Blocks.{blocks_in}
use Rattle.tocmark_reader.specs.Reading.{core_reading}
use Rattle.tocmark_text_laws.specs.Proper.{IsCounted, NoneIsMisplaced}

-- in each text of less than a gibibyte, the depth of each CommonMark block and the length of its text are numbers of 64 bits, also together
abbrev pub ShortTextsAreCounted : Type 0
ShortTextsAreCounted = (text : List ℕ) → length text < 2 ^ 30 → AllByRecursion (IsCounted text (blocks_in CORE text).pieces) (blocks_in CORE text).blocks

-- so no container of what `CoreReader` reads of such a text begins where the writer refuses it
abbrev pub ShortReadingsAreProper : Type 0
ShortReadingsAreProper = (text : List ℕ) → length text < 2 ^ 30 → NoneIsMisplaced [] (map (λ e. e.0) (core_reading text).events)
