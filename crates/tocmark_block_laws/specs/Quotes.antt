-- The reader and the declaration say the same of texts without items.
use Rattle.std.specs.Prelude.{ℕ, zero, suc, ◌+◌, ◌^◌, ◌<◌, ◌≡◌, Bool, true, false, not, ◌==◌, ◌&&◌, ◌||◌, List, length, reverse}
use Rattle.std.specs.List.{list_any, list_all}
use Rattle.tocmark_read_scan.specs.declared.syntax.TheConstants.{CORE}
use Rattle.tocmark_read_blocks.specs.Blocks.{BlocksView, blocks_in}
use Rattle.tocmark_commonmark.specs.Lines.{Line, line_bytes, lines_of}
use Rattle.tocmark_commonmark.specs.Tree.{Blocks, defined}
use Rattle.tocmark_commonmark.specs.Beginnings.{Beginning, BlankLine, CodeLine, QuoteLine, HeadingLine, FenceLine, HtmlLine, RuleLine, TextLine, beginning, begins_with}
use Rattle.tocmark_commonmark.specs.Containers.{unquoted}
use Rattle.tocmark_commonmark.specs.Blocks.{blocks_of}
use Rattle.tocmark_block_laws.specs.Trees.{told, read_tree}

-- the reader finds these blocks and definitions in a text
pub record IsRead (text : List ℕ) (read : BlocksView) (declared : Blocks) : Type 0 where
  pub blocks : read_tree text read ≡ told declared
  pub definitions : read.definitions ≡ defined declared

-- the reader finds what is declared
abbrev pub Agrees : List ℕ → Type 0
Agrees text = IsRead text (blocks_in CORE text) (blocks_of text)

-- a tab, a carriage return or U+0000
abbrev pub is_special : ℕ → Bool
is_special b = (b == 9) || (b == 13) || (b == 0)

-- no tab, no carriage return, no U+0000
abbrev pub IsPlain : List ℕ → Type 0
IsPlain text = list_any is_special text ≡ false

-- the last byte is a line feed
abbrev pub ends_with_feed : List ℕ → Bool
ends_with_feed text = begins_with 10 (reverse text)

-- a line that begins a leaf; code and HTML only if the text ends with a line feed
abbrev pub is_leaf : Bool → Beginning → Bool
is_leaf fed BlankLine = true
is_leaf fed CodeLine = fed
is_leaf fed (HeadingLine h) = true
is_leaf fed (FenceLine f) = fed
is_leaf fed (HtmlLine k) = fed
is_leaf fed RuleLine = true
is_leaf fed TextLine = true
is_leaf fed b = false

-- the next step, if a line has a block quote marker
abbrev pub content_after : (Line → Line) → Line → Beginning → Line
content_after next l QuoteLine = next (unquoted l)
content_after next l b = l

-- a line without its block quote markers, or without so many of them
abbrev pub content_in : ℕ → Line → Line
content_in zero l = l
content_in (suc n) l = content_after (λ x. content_in n x) l (beginning l)

-- a line without its block quote markers, which are no more than its bytes
abbrev pub content_of : Line → Line
content_of l = content_in (length (line_bytes l)) l

-- a text without tabs, in which all lines begin such leaves after their block quote markers
unfoldable pub is_covered : List ℕ → Bool
is_covered text = not (list_any is_special text) && list_all (λ l. is_leaf (ends_with_feed text) (beginning (content_of l))) (lines_of text)

-- of these texts the reader and the declaration say the same
abbrev pub QuotesAreDeclared : Type 0
QuotesAreDeclared = (text : List ℕ) → length text + 3 < 2 ^ 64 → is_covered text ≡ true → Agrees text
