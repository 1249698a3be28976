-- That the layout of blocks without lists is read as these blocks, in their quotes.
use Rattle.std.specs.Prelude.{ℕ, ◌+◌, ◌*◌, ◌^◌, ◌<◌, ◌≡◌, Bool, true, false, ◌==◌, List, [], ◌∷◌, ◌++◌, codes, length, map}
use Rattle.std.specs.List.{AllByRecursion, concat}
use Rattle.tocmark_event.specs.Options.{OptionsView}
use Rattle.tocmark_event.specs.declared.event.flags.ParserOptions.{ParserOptions}
use Rattle.tocmark_read_scan.specs.declared.syntax.TheConstants.{CORE}
use Rattle.tocmark_read_blocks.specs.Blocks.{blocks_in}
use Rattle.tocmark_write_texts.specs.Escape.{escaped}
use Rattle.tocmark_text_laws.specs.Quoted.{Sort, LineTold, Trees, Node, none, more, read_trees}
use Rattle.tocmark_text_laws.specs.Quoted as read
use Rattle.tocmark_laws.specs.TextBlocks.{HeadingKind, place_in}
use Rattle.tocmark_laws.specs.Documents.{PlainBlock, PlainParagraph, PlainHeading, PlainRule, PlainCode, ArePlainTokens}
use Rattle.tocmark_document_laws.specs.Blocks.{Blocks, Nothing, PlainThen, QuoteThen, BulletsThen, ItemThen, ArePlain}
use Rattle.tocmark_document_laws.specs.DocumentLines.{Line, paragraph_lines, layout}

-- a line feed, or nothing
abbrev pub feed_if : Bool → List ℕ
feed_if true = codes "\n"
feed_if false = []

-- a line of a leaf as it is read, with what ends it
abbrev pub line_read : Line → List ℕ → LineTold
line_read l feed = record { spaces = 0; words = l; whole = l ++ feed }

-- lines as they are read: a line feed ends each of them, and the last one or not
abbrev pub lines_read : Bool → List Line → List LineTold
lines_read fed [] = []
lines_read fed (l ∷ []) = line_read l (feed_if fed) ∷ []
lines_read fed (l ∷ m ∷ ms) = line_read l (codes "\n") ∷ lines_read fed (m ∷ ms)

-- what a plain block is read as
abbrev pub sort_read : PlainBlock → Sort
sort_read (PlainParagraph l ms) = read.Paragraph
sort_read (PlainHeading level ts) = read.Heading level
sort_read PlainRule = read.Rule
sort_read (PlainCode info lines) = read.Fenced info

-- the lines that a plain block is read with: those of a paragraph, escaped; the text of a heading, escaped; and those of code
abbrev pub block_read : OptionsView → ParserOptions → Bool → PlainBlock → List LineTold
block_read o flags fed (PlainParagraph l ms) = lines_read fed (paragraph_lines o flags l ms)
block_read o flags fed (PlainHeading level ts) = line_read (escaped (place_in o flags (HeadingKind level)) (concat ts)) [] ∷ []
block_read o flags fed PlainRule = []
block_read o flags fed (PlainCode info lines) = map (λ l. line_read l (codes "\n")) lines

-- a line feed ends a block if others are after it
abbrev pub fed_before : Bool → Blocks → Bool
fed_before fed Nothing = fed
fed_before fed (PlainThen b f) = true
fed_before fed (QuoteThen kids f) = true
fed_before fed (BulletsThen items f) = true
fed_before fed (ItemThen kids f) = true

-- the trees that blocks without lists are read as, with a line feed at their end or not; of lists this says nothing
abbrev pub trees_of : OptionsView → ParserOptions → Bool → Blocks → Trees
trees_of o flags fed Nothing = none
trees_of o flags fed (PlainThen b f) = more (Node (sort_read b) false (block_read o flags (fed_before fed f) b) none) (trees_of o flags fed f)
trees_of o flags fed (QuoteThen kids f) = more (Node read.Quote false [] (trees_of o flags (fed_before fed f) kids)) (trees_of o flags fed f)
trees_of o flags fed (BulletsThen items f) = none
trees_of o flags fed (ItemThen kids f) = none

-- no byte of a line is a tab
abbrev pub AreTabless : Line → Type 0
AreTabless l = AllByRecursion (λ b. (b == 9) ≡ false) l

-- no line of code has a tab
abbrev pub IsTabless : PlainBlock → Type 0
IsTabless (PlainParagraph l ms) = Unit {0}
IsTabless (PlainHeading level ts) = Unit {0}
IsTabless PlainRule = Unit {0}
IsTabless (PlainCode info lines) = AllByRecursion AreTabless lines

abbrev pub BlocksTabless : Blocks → Type 0
BlocksTabless Nothing = Unit {0}
BlocksTabless (PlainThen b f) = IsTabless b × BlocksTabless f
BlocksTabless (QuoteThen kids f) = BlocksTabless kids × BlocksTabless f
BlocksTabless (BulletsThen items f) = BlocksTabless items × BlocksTabless f
BlocksTabless (ItemThen kids f) = BlocksTabless kids × BlocksTabless f

-- no block is a list or an item
abbrev pub HasNoList : Blocks → Type 0
HasNoList Nothing = Unit {0}
HasNoList (PlainThen b f) = HasNoList f
HasNoList (QuoteThen kids f) = HasNoList kids × HasNoList f
HasNoList (BulletsThen items f) = ⊥
HasNoList (ItemThen kids f) = ⊥

-- a text has these blocks, and no definitions of links
pub record HasTrees (text : List ℕ) (trees : Trees) : Type 0 where
  pub trees_are : read_trees text ≡ trees
  pub undefined : (blocks_in CORE text).definitions ≡ []

-- the core reader finds in the layout of such blocks without lists just these blocks, each with its lines and in its quotes
abbrev pub LayoutsHaveTheirTrees : Type 0
LayoutsHaveTheirTrees =
    (options : OptionsView) (flags : ParserOptions) (f : Blocks) →
    ArePlainTokens options → ArePlain f → HasNoList f → BlocksTabless f → 8 * length (layout options flags f) + 28 < 2 ^ 64 →
    HasTrees (layout options flags f) (trees_of options flags false f)
