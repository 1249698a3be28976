-- The rows of lists are right: each is computed.
use Rattle.std.specs.Prelude.{refl}
use Rattle.tocmark_commonmark.specs.Examples.{AreRight}
use Rattle.tocmark_commonmark.specs.ExamplesOfLists.{lists}
use Rattle.tocmark_read_scan.specs.Basic.{starts_at}
use Rattle.tocmark_read_scan.specs.Class.{is_unquoted, is_bracket, is_separator, is_mailbox, is_in, run_end}
use Rattle.tocmark_read_scan.specs.Repeat.{repeated, iterated}
use Rattle.tocmark_read_tokens.specs.Word.{stops, closing_of, ends_enclosed, escapes, enclosed, ends_bare, depth_after, bare_word, enclosed_word, destination, enclosure_of, title, is_label_text, label_from, label, line_end, title_on_line, untitled, titled, defined_destination, defined_label, definition_at}
use Rattle.tocmark_read_tokens.specs.Html.{name_end, closing_tag, quoted_end, value, value_end, attribute, tag_close, open_tag}
use Rattle.tocmark_read_lines.specs.Cells.{filled, trimmed, first_cursor}
use Rattle.tocmark_read_lines.specs.Marks.{level_of, is_behind, heading_end_before, heading_at, is_fence_byte, fence_at, closes_fence, tail_of, is_rule_byte, is_rule, is_underline_byte, underline_at, number_step, bullet_at, ordered_at, marker_at}
use Rattle.tocmark_read_lines.specs.Html.{same_word, is_raw_name, is_block_name, ends_name, is_raw, block_tag, is_block_tag, tag_end, is_tag_line, html_kind, holds_raw_end, html_ends}
use Rattle.tocmark_read_page.specs.Definitions.{define_once}
use Rattle.tocmark_commonmark.specs.Beginnings.{beginning, interrupts, may_be_lazy}
use Rattle.tocmark_commonmark.specs.Blocks.{blocks_from, blocks, blocks_of}

pub lists-right : AreRight lists
unfolding starts_at is_unquoted is_bracket is_separator is_mailbox is_in run_end repeated iterated stops closing_of ends_enclosed escapes enclosed ends_bare depth_after bare_word enclosed_word destination enclosure_of title is_label_text label_from label line_end title_on_line untitled titled defined_destination defined_label definition_at name_end closing_tag quoted_end value value_end attribute tag_close open_tag filled trimmed first_cursor level_of is_behind heading_end_before heading_at is_fence_byte fence_at closes_fence tail_of is_rule_byte is_rule is_underline_byte underline_at number_step bullet_at ordered_at marker_at same_word is_raw_name is_block_name ends_name is_raw block_tag is_block_tag tag_end is_tag_line html_kind holds_raw_end html_ends define_once beginning interrupts may_be_lazy blocks_from blocks blocks_of lib.Utf8.encode AreRight
lists-right = (refl, (refl, (refl, (refl, (refl, (refl, (refl, (refl, (refl, (refl, (refl, (refl, (refl, (refl, (refl, (refl, (refl, (refl, (refl, (refl, tt))))))))))))))))))))
