-- The labels that the reader collects of a text are those that are declared.
use Rattle.std.specs.Prelude.{ℕ, ◌+◌, ◌^◌, ◌<◌, ◌≡◌, true, List, length, Option}
use Rattle.tocmark_read_blocks.specs.Blocks.{blocks_in}
use Rattle.tocmark_read_page.specs.Definitions.{DefinitionView}
use Rattle.tocmark_read_scan.specs.declared.syntax.Names.TheVariants.{All}
use Rattle.tocmark_read_spans.specs.Definitions.{State, distinct_labels}
use Rattle.tocmark_read_spans.specs.declared.definitions.Entry.{Entry}
use Rattle.tocmark_reader.specs.Reading.{collected_in, collected_from, first_entry, reading_of}
use Rattle.tocmark_commonmark.specs.Blocks.{blocks_of}
use Rattle.tocmark_commonmark.specs.Links.{Destination, destinations}
use Rattle.tocmark_commonmark.specs.Tree.{defined}
use Rattle.tocmark_block_laws.specs.Quotes.{is_covered}
use Rattle.tocmark_inline_laws.specs.Said.{commonmark}
use Rattle.tocmark_inline_laws.specs.Statement.{LeadAlike}

-- what the reader collects of the definitions in a text
abbrev pub collected_of : List ℕ → State
collected_of text = collected_from commonmark text (blocks_in commonmark text)

-- what a label leads to in it
abbrev pub entry_in : List ℕ → List ℕ → Option Entry
entry_in text = first_entry commonmark.undefined_notes (collected_of text).keys (collected_of text).entries

-- the definitions that a text is declared to have
abbrev pub definitions_of : List ℕ → List DefinitionView
definitions_of text = defined (blocks_of text)

-- what its labels are declared to lead to
abbrev pub destinations_of : List ℕ → List Destination
destinations_of text = destinations (definitions_of text)

-- a text of which the laws speak: leaf blocks and block quotes, in fewer than 2 ^ 64 - 3 bytes
pub record IsOfLeaves (text : List ℕ) : Type 0 where
  pub fits : length text + 3 < 2 ^ 64
  pub covered : is_covered text ≡ true

-- 4.7: in such a text each label leads to what is declared
abbrev pub LabelsAreDeclared : Type 0
LabelsAreDeclared = (text : List ℕ) → IsOfLeaves text → LeadAlike (collected_of text).texts (entry_in text) (destinations_of text)

-- each label of these definitions once, as it is written first, with one space for each stretch of white space
abbrev pub labels_of : List DefinitionView → List (List ℕ)
labels_of all = distinct_labels (collected_in All all).texts (collected_in All all).labels

-- in such a text the labels that are defined are those of the declared definitions
abbrev pub DefinedLabelsAreDeclared : Type 0
DefinedLabelsAreDeclared = (text : List ℕ) → IsOfLeaves text → (reading_of commonmark text).defined ≡ labels_of (definitions_of text)
