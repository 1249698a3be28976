-- The reading of a text.
use Rattle.std.specs.Prelude.{ℕ, Bool, if◌then◌else◌, List, Option}
use Rattle.std.specs.List.{flat_map, fold}
use Rattle.tocmark_event.specs.Reading.{ReadingView}
use Rattle.tocmark_read_tokens.specs.Label.{first_place}
use Rattle.tocmark_read_blocks.specs.Blocks.{BlocksView, blocks_in}
use Rattle.tocmark_read_scan.specs.Basic.{bytes_between}
use Rattle.tocmark_read_page.specs.declared.page.Block.{Block}
use Rattle.tocmark_read_page.specs.declared.page.BlockKind.{BlockKind}
use Rattle.tocmark_read_page.specs.declared.page.BlockKind.TheVariants as kind
use Rattle.tocmark_read_scan.specs.declared.syntax.TheConstants.{CORE}
use Rattle.tocmark_read_scan.specs.declared.syntax.Syntax.{Syntax}
use Rattle.tocmark_read_scan.specs.declared.syntax.Names.{Names}
use Rattle.tocmark_read_page.specs.Definitions.{DefinitionView, replaced}
use Rattle.tocmark_read_spans.specs.Definitions as defs
use Rattle.tocmark_read_spans.specs.declared.definitions.Entry.{Entry}
use Rattle.tocmark_reader.specs.Emitted.{NodeView, emitted}
use Rattle.tocmark_reader.specs.Pages.{assembled_in}

-- one more definition
unfoldable pub define_step_in : Names → defs.State → DefinitionView → defs.State
define_step_in names s d = defs.defined_with_in names d.label d.destination d.title s

-- all definitions, in order
abbrev pub collected_in : Names → List DefinitionView → defs.State
collected_in names all = fold (define_step_in names) defs.collected_none all

-- one more footnote, if a block is the definition of one
unfoldable pub noted_as : List ℕ → defs.State → BlockKind → defs.State
noted_as text s (kind.Quote k) = s
noted_as text s (kind.List first) = s
noted_as text s kind.Item = s
noted_as text s kind.Paragraph = s
noted_as text s (kind.Heading level braces) = s
noted_as text s kind.Indented = s
noted_as text s (kind.Fenced from to) = s
noted_as text s kind.Html = s
noted_as text s kind.Rule = s
noted_as text s (kind.Metadata k) = s
noted_as text s (kind.Footnote from to) = defs.noted_with (flat_map replaced (bytes_between text from to)) s
noted_as text s (kind.Table from to) = s
noted_as text s kind.TableHead = s
noted_as text s kind.TableRow = s
noted_as text s kind.TableCell = s
noted_as text s kind.DefinitionList = s
noted_as text s kind.DefinitionListTitle = s
noted_as text s kind.DefinitionListDefinition = s

-- the footnotes that blocks are the definitions of
abbrev pub noted : List ℕ → List Block → defs.State → defs.State
noted text blocks s = fold (λ t (b : Block). noted_as text t b.kind) s blocks

-- the definitions of links, and where they are read the footnotes
unfoldable pub collected_from : Syntax → List ℕ → BlocksView → defs.State
collected_from syntax text blocks =
    if syntax.footnotes then noted text blocks.blocks (collected_in syntax.names blocks.definitions)
    else collected_in syntax.names blocks.definitions

-- of two definitions of a label the first counts; a footnote needs none if all notes are known
abbrev pub first_entry : Bool → List (List ℕ) → List Entry → List ℕ → Option Entry
first_entry has_all_notes keys entries q = defs.leads_to has_all_notes (defs.entry_at entries (first_place 0 keys q)) q

-- the nodes of a text, and its labels
pub record FoundView : Type 0 where
  pub nodes : List NodeView
  pub defined : List (List ℕ)
  pub unresolved : List (List ℕ)

-- blocks, then definitions, then inlines
unfoldable pub found_under : Syntax → List ℕ → FoundView
found_under syntax text =
    let blocks = blocks_in syntax text in
    let c = collected_from syntax text blocks in
    let page = assembled_in syntax text (first_entry syntax.undefined_notes c.keys c.entries) blocks.blocks blocks.pieces c.texts in
    record {
      nodes = page.nodes;
      defined = defs.distinct_labels c.texts c.labels;
      unresolved = defs.distinct_labels page.inlines.texts page.inlines.missed;
    }

-- the events of the nodes, and the labels
unfoldable pub reading_of : Syntax → List ℕ → ReadingView
reading_of syntax text =
    let found = found_under syntax text in
    record { events = emitted text found.nodes; defined = found.defined; unresolved = found.unresolved }

-- the same of CommonMark alone
abbrev pub collected : List DefinitionView → defs.State
collected = collected_in CORE.names

abbrev pub found_in : List ℕ → FoundView
found_in = found_under CORE

abbrev pub core_reading : List ℕ → ReadingView
core_reading = reading_of CORE
