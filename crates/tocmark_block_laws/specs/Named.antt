-- Blocks don't depend on which names of character references are known.
use Rattle.std.specs.Prelude.{ℕ, ◌≡◌, List}
use Rattle.tocmark_read_scan.specs.declared.syntax.Names.{Names}
use Rattle.tocmark_read_scan.specs.declared.syntax.Syntax.{Syntax}
use Rattle.tocmark_read_scan.specs.declared.syntax.TheConstants.{CORE}
use Rattle.tocmark_read_blocks.specs.Blocks.{blocks_in}

-- CommonMark alone, with these names of character references
abbrev pub named : Names → Syntax
named names = record CORE { names = names }

-- with all names the reader finds the same blocks, and the same definitions of links, as with four
abbrev pub NamesChangeNoBlock : Type 0
NamesChangeNoBlock = (names : Names) (text : List ℕ) → blocks_in (named names) text ≡ blocks_in CORE text
