-- The parts of a declared definition fit where a reader keeps places.
use Rattle.std.specs.Prelude.{ℕ, ◌+◌, ◌^◌, ◌<◌, List, length}
use Rattle.std.specs.List.{AllByRecursion}
use Rattle.tocmark_read_page.specs.Definitions.{DefinitionView}
use Rattle.tocmark_commonmark.specs.Tree.{defined}
use Rattle.tocmark_commonmark.specs.Blocks.{blocks_of}

-- a destination and a title of fewer than 2 ^ 64 - 2 bytes
abbrev pub IsShort : DefinitionView → Type 0
IsShort d = (length d.destination + 2 < 2 ^ 64) × (length d.title + 2 < 2 ^ 64)

-- of every text the declared definitions have such parts
abbrev pub DefinitionsAreShort : Type 0
DefinitionsAreShort = (text : List ℕ) → AllByRecursion IsShort (defined (blocks_of text))
