-- The tree of blocks that CommonMark declares of a layout, and that it does.
use Rattle.std.specs.Prelude.{◌≡◌, ◌^◌, ◌<◌, Bool, true, false, not, ◌&&◌, ◌||◌, List, [], ◌∷◌, Some, None, codes, length}
use Rattle.std.specs.Char.{char_set_contains}
use Rattle.std.specs.List.{concat}
use Rattle.tocmark_event.specs.Options.{OptionsView}
use Rattle.tocmark_event.specs.declared.event.flags.ParserOptions.{ParserOptions}
use Rattle.tocmark_commonmark.specs.Blocks.{blocks_of}
use Rattle.tocmark_commonmark.specs.Leaves.{joined}
use Rattle.tocmark_commonmark.specs.Tree as read
use Rattle.tocmark_write_texts.specs.Escape.{escaped}
use Rattle.tocmark_laws.specs.TextBlocks.{HeadingKind, place_in}
use Rattle.tocmark_laws.specs.Documents.{PlainBlock, PlainParagraph, PlainHeading, PlainRule, PlainCode, ArePlainTokens}
use Rattle.tocmark_document_laws.specs.Blocks.{Blocks, Nothing, PlainThen, QuoteThen, BulletsThen, ItemThen, ArePlain, is_nothing}
use Rattle.tocmark_document_laws.specs.DocumentLines.{Line, How, Beside, Marked, Below, Outside, no_lists, in_bullets, is_bullet, bullet_for, code_text, feeds_below, feeds_below_item, feeds_below_list, feeds_below_quote, layout, list_gap, paragraph_lines, plain_gap, new_line}
use Rattle.tocmark_document_laws.specs.ReadBack.{HasNoList}

-- what a plain block is declared as: the lines of a paragraph, escaped, with a line feed between each two; the text of a heading,
-- escaped; a thematic break; or the text of code
abbrev pub declared_block : OptionsView → ParserOptions → PlainBlock → read.Block
declared_block o flags (PlainParagraph l ms) = read.Paragraph (joined (paragraph_lines o flags l ms))
declared_block o flags (PlainHeading level ts) = read.Heading level (escaped (place_in o flags (HeadingKind level)) (concat ts))
declared_block o flags PlainRule = read.Rule
declared_block o flags (PlainCode info lines) = read.FencedCode info (code_text lines)

-- whether there are lines in a gap
abbrev pub is_gap : List Line → Bool
is_gap [] = false
is_gap (l ∷ ls) = true

-- whether an empty line is before one of these blocks
abbrev pub has_gap : OptionsView → Outside → How → Blocks → Bool
has_gap o c how Nothing = false
has_gap o c how (PlainThen b f) = is_gap (plain_gap how b) || has_gap o c (Below (feeds_below o b) None) f
has_gap o c how (QuoteThen kids f) = is_gap (new_line how) || has_gap o c (Below (feeds_below_quote o) None) f
has_gap o c how (BulletsThen items f) =
    is_gap (list_gap c how) || has_gap o c (Below (feeds_below_list o c.listed items) (Some (bullet_for o c how))) f
has_gap o c how (ItemThen kids f) = false

-- a list is tight if it has one item alone, and no empty line is between two blocks of that (CommonMark, section 5.3)
abbrev pub is_tight : OptionsView → Outside → Blocks → Bool
is_tight o c (ItemThen kids f) = is_nothing f && not (has_gap o c Marked kids)
is_tight o c f = false

-- what blocks are declared as: a quote, a list and an item have those of their blocks
abbrev pub declared : OptionsView → ParserOptions → Outside → How → Blocks → read.Blocks
declared o flags c how Nothing = read.none
declared o flags c how (PlainThen b f) = read.more (declared_block o flags b) (declared o flags c (Below (feeds_below o b) None) f)
declared o flags c how (QuoteThen kids f) =
    read.more (read.Quote (declared o flags c Beside kids)) (declared o flags c (Below (feeds_below_quote o) None) f)
declared o flags c how (BulletsThen items f) =
    read.more
    (read.BulletList (bullet_for o c how) (is_tight o (in_bullets (bullet_for o c how) c) items) (declared o flags (in_bullets (bullet_for o c how) c) Beside items))
    (declared o flags c (Below (feeds_below_list o c.listed items) (Some (bullet_for o c how))) f)
declared o flags c how (ItemThen kids f) =
    read.more (read.Item (declared o flags c Marked kids)) (declared o flags c (Below (feeds_below_item o kids) None) f)

-- the same of a document's blocks
abbrev pub declared_tree : OptionsView → ParserOptions → Blocks → read.Blocks
declared_tree o flags f = declared o flags no_lists Beside f

-- the blocks that CommonMark declares of the layout of blocks without lists are these blocks, if it has fewer than 2^64 bytes
abbrev pub LayoutsAreDeclared : Type 0
LayoutsAreDeclared =
    (options : OptionsView) (flags : ParserOptions) (f : Blocks) →
    ArePlainTokens options → ArePlain f → HasNoList f → length (layout options flags f) < 2 ^ 64 →
    blocks_of (layout options flags f) ≡ declared_tree options flags f

-- whether a thematic break right after a marker would be one with that marker: if the innermost list has asterisks as bullets,
-- and another one round it has hyphens, so that the thematic break has asterisks, too
abbrev pub is_amid_both : Outside → How → Bool
is_amid_both c Marked = c.hyphens && is_bullet c.bullet 42
is_amid_both c how = false

-- a plain block is no such thematic break
abbrev pub IsSafeRule : Outside → How → PlainBlock → Type 0
IsSafeRule c how (PlainParagraph l ms) = Unit {0}
IsSafeRule c how (PlainHeading level ts) = Unit {0}
IsSafeRule c how PlainRule = is_amid_both c how ≡ false
IsSafeRule c how (PlainCode info lines) = Unit {0}

-- no thematic break of these blocks is there
abbrev pub HasSafeRules : OptionsView → Outside → How → Blocks → Type 0
HasSafeRules o c how Nothing = Unit {0}
HasSafeRules o c how (PlainThen b f) = IsSafeRule c how b × HasSafeRules o c (Below (feeds_below o b) None) f
HasSafeRules o c how (QuoteThen kids f) = HasSafeRules o c Beside kids × HasSafeRules o c (Below (feeds_below_quote o) None) f
HasSafeRules o c how (BulletsThen items f) =
    HasSafeRules o (in_bullets (bullet_for o c how) c) Beside items
    × HasSafeRules o c (Below (feeds_below_list o c.listed items) (Some (bullet_for o c how))) f
HasSafeRules o c how (ItemThen kids f) =
    HasSafeRules o c Marked kids × HasSafeRules o c (Below (feeds_below_item o kids) None) f

-- the same of all trees of blocks with no such thematic break, if the options name a bullet that Markdown reads
abbrev pub LayoutsWithListsAreDeclared : Type 0
LayoutsWithListsAreDeclared =
    (options : OptionsView) (flags : ParserOptions) (f : Blocks) →
    ArePlainTokens options → char_set_contains (codes "*-+") options.list_token ≡ true → ArePlain f →
    HasSafeRules options no_lists Beside f → length (layout options flags f) < 2 ^ 64 →
    blocks_of (layout options flags f) ≡ declared_tree options flags f
