-- What the reader makes of a content is what CommonMark declares.
use Rattle.std.specs.Prelude.{◌≡◌, ℕ, ◌+◌, ◌^◌, ◌<◌, false, List, ◌++◌, length, Option, Some, None, ⊤}
use Rattle.std.specs.List.{AllByRecursion}
use Rattle.tocmark_read_spans.specs.declared.definitions.Entry.{Entry}
use Rattle.tocmark_read_spans.specs.declared.role.Stretch.{Stretch}
use Rattle.tocmark_read_spans.specs.declared.role.Target.{Target}
use Rattle.tocmark_commonmark.specs.Inlines.{inlines}
use Rattle.tocmark_read_page.specs.Definitions.{DefinitionView}
use Rattle.tocmark_read_scan.specs.declared.syntax.Names.TheVariants.{All}
use Rattle.tocmark_reader.specs.Reading.{collected_in, first_entry}
use Rattle.tocmark_commonmark.specs.Links.{Destination, destinations, first_of}
use Rattle.tocmark_inline_laws.specs.Said.{words, said, declared}

-- an entry among texts, also when more are added, says what a label leads to
abbrev pub SaysWhat : List ℕ → Option Entry → Option Destination → Type 0
SaysWhat texts None None = ⊤
SaysWhat texts (Some e) None = ⊥
SaysWhat texts None (Some d) = ⊥
SaysWhat texts (Some e) (Some d) =
    (further : List ℕ) → (words (texts ++ further) e.destination ≡ d.destination) × (words (texts ++ further) e.title ≡ d.title)

-- entries among texts say what labels lead to
abbrev pub LeadAlike : List ℕ → (List ℕ → Option Entry) → List Destination → Type 0
LeadAlike texts definitions labels = (key : List ℕ) → SaysWhat texts (definitions key) (first_of labels key)

-- a content is read as declared, where labels lead to the same, whatever texts, targets and missed labels there are beside it
abbrev pub IsReadAsDeclared : List ℕ → Type 0
IsReadAsDeclared bytes =
    (labels : List Destination) (definitions : List ℕ → Option Entry) (targets : List Target) (texts : List ℕ) (missed : List Stretch)
    → LeadAlike texts definitions labels → said bytes definitions targets texts missed ≡ declared 0 (inlines labels bytes)

-- chapter 6: contents are read as declared
abbrev pub ContentsAreReadAsDeclared : Type 0
ContentsAreReadAsDeclared = (bytes : List ℕ) → length bytes + 2 < 2 ^ 64 → IsReadAsDeclared bytes

-- 3.1: a content is read the same, wherever its leaf is: with whatever entries, if these lead to the same, and whatever is beside it
abbrev pub InlinesAreLocal : Type 0
InlinesAreLocal =
    (bytes : List ℕ) → length bytes + 2 < 2 ^ 64 → (labels : List Destination) (definitions others : List ℕ → Option Entry)
    (targets other_targets : List Target) (texts other_texts : List ℕ) (missed other_missed : List Stretch)
    → LeadAlike texts definitions labels → LeadAlike other_texts others labels
    → said bytes definitions targets texts missed ≡ said bytes others other_targets other_texts other_missed

-- a destination and a title of fewer than 2 ^ 64 - 2 bytes
abbrev pub IsShort : DefinitionView → Type 0
IsShort d = (length d.destination + 2 < 2 ^ 64) × (length d.title + 2 < 2 ^ 64)

-- 4.7: what the reader collects of definitions leads to what they are declared to say
abbrev pub DefinitionsLeadAsDeclared : Type 0
DefinitionsLeadAsDeclared =
    (all : List DefinitionView) → AllByRecursion IsShort all
    → LeadAlike (collected_in All all).texts (first_entry false (collected_in All all).keys (collected_in All all).entries) (destinations all)
