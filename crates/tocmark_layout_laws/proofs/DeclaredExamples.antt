-- Examples: documents, what is declared of their layouts, and the trees that are.
use Rattle.std.proofs.Common.{◌≡◌, true, false, [], ◌∷◌, codes, refl, true≢false}
use Rattle.std.specs.Char.{encode_utf8}
use Rattle.std.specs.Str.{chars}
use Rattle.tocmark_event.specs.Options.{default_options}
use Rattle.tocmark_event.specs.declared.event.HeadingLevel.TheVariants as level
use Rattle.tocmark_event.specs.declared.event.flags.ParserOptions.{ParserOptions}
use Rattle.tocmark_write_texts.specs.Escape.{coded, doubles_backslash, ends_line, escaped, is_marker, is_read_as_marker, needs_backslash, opens_label, reference, with_backslash, written}
use Rattle.tocmark_read_scan.specs.Basic.{starts_at}
use Rattle.tocmark_read_scan.specs.Class.{is_unquoted, is_bracket, is_separator, is_mailbox, is_in, run_end}
use Rattle.tocmark_read_scan.specs.Repeat.{repeated, iterated}
use Rattle.tocmark_read_tokens.specs.Word.{stops, closing_of, ends_enclosed, escapes, enclosed, ends_bare, depth_after, bare_word, enclosed_word, destination, enclosure_of, title, is_label_text, label_from, label, line_end, title_on_line, untitled, titled, defined_destination, defined_label, definition_at}
use Rattle.tocmark_read_tokens.specs.Html.{name_end, closing_tag, quoted_end, value, value_end, attribute, tag_close, open_tag}
use Rattle.tocmark_read_lines.specs.Cells.{filled, trimmed, first_cursor}
use Rattle.tocmark_read_lines.specs.Marks.{level_of, is_behind, heading_end_before, heading_at, is_fence_byte, fence_at, closes_fence, tail_of, is_rule_byte, is_rule, is_underline_byte, underline_at, number_step, bullet_at, ordered_at, marker_at}
use Rattle.tocmark_read_lines.specs.Html.{same_word, is_raw_name, is_block_name, ends_name, is_raw, block_tag, is_block_tag, tag_end, is_tag_line, html_kind, holds_raw_end, html_ends}
use Rattle.tocmark_read_page.specs.Definitions.{define_once}
use Rattle.tocmark_commonmark.specs.Beginnings.{beginning, interrupts, may_be_lazy}
use Rattle.tocmark_commonmark.specs.Blocks.{blocks_from, blocks, blocks_of}
use Rattle.tocmark_commonmark.specs.Tree as read
use Rattle.tocmark_laws.specs.Documents.{PlainHeading, PlainParagraph, PlainRule, PlainCode}
use Rattle.tocmark_document_laws.specs.Blocks.{Blocks, Nothing, PlainThen, QuoteThen, BulletsThen, ItemThen}
use Rattle.tocmark_document_laws.specs.DocumentLines.{Beside, no_lists}
use Rattle.tocmark_layout_laws.specs.Declared.{declared_tree, HasSafeRules}

-- a paragraph, and a quote of a paragraph of two lines, a quote of a heading, and a thematic break
abbrev mixed : Blocks
mixed =
    PlainThen (PlainParagraph (codes "1. a") [])
    (QuoteThen (PlainThen (PlainParagraph (codes "b") (codes "c" ∷ [])) (QuoteThen (PlainThen (PlainHeading level.H2 (codes "d" ∷ [])) Nothing) (PlainThen PlainRule Nothing)))
    (PlainThen PlainRule Nothing))

abbrev mixed_tree : read.Blocks
mixed_tree =
    read.more (read.Paragraph (codes "1\\. a"))
    (read.more (read.Quote (read.more (read.Paragraph (codes "b\nc")) (read.more (read.Quote (read.more (read.Heading level.H2 (codes "d")) read.none)) (read.more read.Rule read.none))))
    (read.more read.Rule read.none))

mixed_declared : (flags : ParserOptions) → declared_tree default_options flags mixed ≡ mixed_tree
unfolding chars coded doubles_backslash encode_utf8 ends_line escaped is_marker is_read_as_marker needs_backslash opens_label reference with_backslash written
mixed_declared flags = refl

mixed_read : blocks_of (codes "1\\. a\n\n > \n > b\n > c\n > \n >  > \n >  > ## d\n > \n > ---\n\n---") ≡ mixed_tree
unfolding starts_at is_unquoted is_bracket is_separator is_mailbox is_in run_end repeated iterated stops closing_of ends_enclosed escapes enclosed ends_bare depth_after bare_word enclosed_word destination enclosure_of title is_label_text label_from label line_end title_on_line untitled titled defined_destination defined_label definition_at name_end closing_tag quoted_end value value_end attribute tag_close open_tag filled trimmed first_cursor level_of is_behind heading_end_before heading_at is_fence_byte fence_at closes_fence tail_of is_rule_byte is_rule is_underline_byte underline_at number_step bullet_at ordered_at marker_at same_word is_raw_name is_block_name ends_name is_raw block_tag is_block_tag tag_end is_tag_line html_kind holds_raw_end html_ends define_once beginning interrupts may_be_lazy blocks_from blocks blocks_of lib.Utf8.encode
mixed_read = refl

-- a quote of code with an empty line
abbrev fenced : Blocks
fenced = QuoteThen (PlainThen (PlainCode (codes "x") (codes "e" ∷ [] ∷ [])) Nothing) Nothing

abbrev fenced_tree : read.Blocks
fenced_tree = read.more (read.Quote (read.more (read.FencedCode (codes "x") (codes "e\n\n")) read.none)) read.none

fenced_declared : (flags : ParserOptions) → declared_tree default_options flags fenced ≡ fenced_tree
unfolding chars coded doubles_backslash encode_utf8 ends_line escaped is_marker is_read_as_marker needs_backslash opens_label reference with_backslash written
fenced_declared flags = refl

fenced_read : blocks_of (codes "\n > \n > ````x\n > e\n > \n > ````") ≡ fenced_tree
unfolding starts_at is_unquoted is_bracket is_separator is_mailbox is_in run_end repeated iterated stops closing_of ends_enclosed escapes enclosed ends_bare depth_after bare_word enclosed_word destination enclosure_of title is_label_text label_from label line_end title_on_line untitled titled defined_destination defined_label definition_at name_end closing_tag quoted_end value value_end attribute tag_close open_tag filled trimmed first_cursor level_of is_behind heading_end_before heading_at is_fence_byte fence_at closes_fence tail_of is_rule_byte is_rule is_underline_byte underline_at number_step bullet_at ordered_at marker_at same_word is_raw_name is_block_name ends_name is_raw block_tag is_block_tag tag_end is_tag_line html_kind holds_raw_end html_ends define_once beginning interrupts may_be_lazy blocks_from blocks blocks_of lib.Utf8.encode
fenced_read = refl

-- a list in a quote, whose items have a quote, a list in a list, a thematic break, and nothing
abbrev listed : Blocks
listed =
    QuoteThen (BulletsThen
    (ItemThen (QuoteThen (PlainThen (PlainParagraph (codes "a") []) Nothing) Nothing)
    (ItemThen (BulletsThen (ItemThen (PlainThen PlainRule Nothing) (ItemThen Nothing Nothing)) (PlainThen (PlainParagraph (codes "b") []) Nothing)) Nothing))
    (BulletsThen (ItemThen (PlainThen (PlainParagraph (codes "c") []) (PlainThen (PlainCode [] []) Nothing)) Nothing) Nothing)) Nothing

abbrev listed_tree : read.Blocks
listed_tree =
    read.more (read.Quote (read.more (read.BulletList 42 false
    (read.more (read.Item (read.more (read.Quote (read.more (read.Paragraph (codes "a")) read.none)) read.none))
    (read.more (read.Item (read.more (read.BulletList 45 false (read.more (read.Item (read.more read.Rule read.none)) (read.more (read.Item read.none) read.none))) (read.more (read.Paragraph (codes "b")) read.none))) read.none)))
    (read.more (read.BulletList 45 false (read.more (read.Item (read.more (read.Paragraph (codes "c")) (read.more (read.FencedCode [] []) read.none))) read.none)) read.none))) read.none

listed_declared : (flags : ParserOptions) → declared_tree default_options flags listed ≡ listed_tree
unfolding chars coded doubles_backslash encode_utf8 ends_line escaped is_marker is_read_as_marker needs_backslash opens_label reference with_backslash written
listed_declared flags = refl

listed_read : blocks_of (codes "\n > \n > * > a\n > \n > * - ***\n >   \n >   - \n >   \n >   b\n > \n > - c\n >   \n >   ````\n >   ````") ≡ listed_tree
unfolding starts_at is_unquoted is_bracket is_separator is_mailbox is_in run_end repeated iterated stops closing_of ends_enclosed escapes enclosed ends_bare depth_after bare_word enclosed_word destination enclosure_of title is_label_text label_from label line_end title_on_line untitled titled defined_destination defined_label definition_at name_end closing_tag quoted_end value value_end attribute tag_close open_tag filled trimmed first_cursor level_of is_behind heading_end_before heading_at is_fence_byte fence_at closes_fence tail_of is_rule_byte is_rule is_underline_byte underline_at number_step bullet_at ordered_at marker_at same_word is_raw_name is_block_name ends_name is_raw block_tag is_block_tag tag_end is_tag_line html_kind holds_raw_end html_ends define_once beginning interrupts may_be_lazy blocks_from blocks blocks_of lib.Utf8.encode
listed_read = refl

-- a list of one item with one heading is tight
abbrev single : Blocks
single = BulletsThen (ItemThen (PlainThen (PlainHeading level.H1 (codes "a" ∷ [])) Nothing) Nothing) Nothing

abbrev single_tree : read.Blocks
single_tree = read.more (read.BulletList 42 true (read.more (read.Item (read.more (read.Heading level.H1 (codes "a")) read.none)) read.none)) read.none

single_declared : (flags : ParserOptions) → declared_tree default_options flags single ≡ single_tree
unfolding chars coded doubles_backslash encode_utf8 ends_line escaped is_marker is_read_as_marker needs_backslash opens_label reference with_backslash written
single_declared flags = refl

single_read : blocks_of (codes "* # a") ≡ single_tree
unfolding starts_at is_unquoted is_bracket is_separator is_mailbox is_in run_end repeated iterated stops closing_of ends_enclosed escapes enclosed ends_bare depth_after bare_word enclosed_word destination enclosure_of title is_label_text label_from label line_end title_on_line untitled titled defined_destination defined_label definition_at name_end closing_tag quoted_end value value_end attribute tag_close open_tag filled trimmed first_cursor level_of is_behind heading_end_before heading_at is_fence_byte fence_at closes_fence tail_of is_rule_byte is_rule is_underline_byte underline_at number_step bullet_at ordered_at marker_at same_word is_raw_name is_block_name ends_name is_raw block_tag is_block_tag tag_end is_tag_line html_kind holds_raw_end html_ends define_once beginning interrupts may_be_lazy blocks_from blocks blocks_of lib.Utf8.encode
single_read = refl

-- a thematic break first in a list of asterisks in a list of hyphens: it isn't safe, because CommonMark reads it with its marker
abbrev unsafe : Blocks
unsafe = BulletsThen (ItemThen (BulletsThen (ItemThen (BulletsThen (ItemThen (PlainThen PlainRule Nothing) Nothing) Nothing) Nothing) Nothing) Nothing) Nothing

unsafe_rule : HasSafeRules default_options no_lists Beside unsafe → ⊥
unsafe_rule h = true≢false (((((((h.0).0).0).0).0).0).0)

abbrev unsafe_tree : read.Blocks
unsafe_tree = read.more (read.BulletList 42 true (read.more (read.Item (read.more (read.BulletList 45 true (read.more (read.Item (read.more read.Rule read.none)) read.none)) read.none)) read.none)) read.none

unsafe_read : blocks_of (codes "* - * ***") ≡ unsafe_tree
unfolding starts_at is_unquoted is_bracket is_separator is_mailbox is_in run_end repeated iterated stops closing_of ends_enclosed escapes enclosed ends_bare depth_after bare_word enclosed_word destination enclosure_of title is_label_text label_from label line_end title_on_line untitled titled defined_destination defined_label definition_at name_end closing_tag quoted_end value value_end attribute tag_close open_tag filled trimmed first_cursor level_of is_behind heading_end_before heading_at is_fence_byte fence_at closes_fence tail_of is_rule_byte is_rule is_underline_byte underline_at number_step bullet_at ordered_at marker_at same_word is_raw_name is_block_name ends_name is_raw block_tag is_block_tag tag_end is_tag_line html_kind holds_raw_end html_ends define_once beginning interrupts may_be_lazy blocks_from blocks blocks_of lib.Utf8.encode
unsafe_read = refl
