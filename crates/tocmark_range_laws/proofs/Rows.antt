-- The blocks and the lines of leaves of some texts, computed.
use Rattle.std.proofs.Common.{refl}
use Rattle.tocmark_read_blocks.specs.Blocks.{extends_starts, underline_taken_in, started_in, leaf_started_in, tabled_in, passed_in, turn_of, turn_in, leaf_ended, touched, cells_taken_in, line_taken_in, page_in, blocks_in}
use Rattle.tocmark_read_blocks.specs.Codes.{info_of, html_ended, code_taken, indented_started, fence_started, html_started}
use Rattle.tocmark_read_blocks.specs.Containers.{goes_directly, is_in_list, list_started, item_opened, container_once_in}
use Rattle.tocmark_read_blocks.specs.Leaves.{goes_past_blank, leaf_turn, ends_at_blank, html_at, underline_in, rule_at, mark_at, leaf_at, metadata_or, task_or, quote_kind_or, tag_or}
use Rattle.tocmark_read_blocks.specs.Paragraphs.{text_started, text_taken, rule_started}
use Rattle.tocmark_read_constructs.specs.Headings.{is_no_word, braces_in, heading_braces, before_braces, placed_braces, heading_put, heading_started_in, underlined, cut_before, underlined_attributed, underlined_in}
use Rattle.tocmark_read_constructs.specs.Metadata.{is_triple, ends_line, is_blank_line, mark_of, has_dots, opens_metadata, closes_metadata, last_step, known_of, begins_metadata, metadata_started, is_outside, is_front, metadata_in}
use Rattle.tocmark_read_constructs.specs.Quotes.{quote_opened, kind_named, quote_kind_of, is_new_quote, quote_kind_in, is_first_line, tag_in, quote_kind_started}
use Rattle.tocmark_read_constructs.specs.Tasks.{is_box_space, box_of, ends_box, box_at, is_new_item, task_in, with_task, boxed_taken, task_started}
use Rattle.tocmark_read_lines.specs.Cells.{filled, trimmed, first_cursor, moved}
use Rattle.tocmark_read_lines.specs.Containers.{raised, raised_at, after_quote, item_goes_on, going_on, is_empty_item, is_empty, blank_depth, stopped, passed, item_gap, may_interrupt, item_at, container_at, container_in}
use Rattle.tocmark_read_lines.specs.DefinitionLists.{definition_at as definition_at_in_definitionlists, begins_definition, definition_start}
use Rattle.tocmark_read_lines.specs.Footnotes.{note_at, note_start}
use Rattle.tocmark_read_lines.specs.Html.{same_word, is_raw_name, is_block_name, ends_name, is_raw, block_tag, is_block_tag, tag_end, is_tag_line, html_kind, holds_raw_end, html_ends}
use Rattle.tocmark_read_lines.specs.Lines.{ends_here, line_stop, line_ended, line_left}
use Rattle.tocmark_read_lines.specs.Marks.{level_of, is_behind, heading_end_before, heading_at, is_fence_byte, fence_at, closes_fence, tail_of, is_rule_byte, is_rule, is_underline_byte, underline_at, number_step, bullet_at, ordered_at, marker_at}
use Rattle.tocmark_read_page.specs.Definitions.{begins_definition as begins_definition_in_definitions, replaced, define_once, definitions_from}
use Rattle.tocmark_read_page.specs.Leaves.{is_paragraph, is_table}
use Rattle.tocmark_read_page.specs.Pages.{ended, finished, leaf_finished, table_finished, shortened, settled, leaf_closed, is_quote, is_list, is_note, is_definitions, one_closed, times, closed_to, note_left, list_of, left_noted, list_left, is_apart, loosened, had_marked, begun, opened_with, leaf_opened, has_text, piece_taken}
use Rattle.tocmark_read_page.specs.Pieces.{is_split, code_piece, whole_place, text_piece, heading_piece, keeps_line}
use Rattle.tocmark_read_scan.specs.Basic.{starts_at}
use Rattle.tocmark_read_scan.specs.Class.{is_unquoted, is_bracket, is_separator, is_mailbox, is_in, run_end}
use Rattle.tocmark_read_scan.specs.Repeat.{repeated, iterated}
use Rattle.tocmark_read_tokens.specs.Html.{name_end, closing_tag, quoted_end, value, value_end, attribute, tag_close, open_tag}
use Rattle.tocmark_read_tokens.specs.Word.{stops, closing_of, ends_enclosed, escapes, enclosed, ends_bare, depth_after, bare_word, enclosed_word, destination, enclosure_of, title, is_label_text, label_from, label, line_end, title_on_line, untitled, titled, defined_destination, defined_label, definition_at}
use Rattle.tocmark_range_laws.specs.Found.{SomeTexts}

pub some_texts : SomeTexts
unfolding starts_at is_unquoted is_bracket is_separator is_mailbox is_in run_end repeated iterated stops closing_of ends_enclosed escapes enclosed ends_bare depth_after bare_word enclosed_word destination enclosure_of title is_label_text label_from label line_end title_on_line untitled titled defined_destination defined_label definition_at name_end closing_tag quoted_end value value_end attribute tag_close open_tag filled trimmed first_cursor moved level_of is_behind heading_end_before heading_at is_fence_byte fence_at closes_fence tail_of is_rule_byte is_rule is_underline_byte underline_at number_step bullet_at ordered_at marker_at same_word is_raw_name is_block_name ends_name is_raw block_tag is_block_tag tag_end is_tag_line html_kind holds_raw_end html_ends raised raised_at after_quote item_goes_on going_on is_empty_item is_empty blank_depth stopped passed item_gap may_interrupt item_at container_at container_in ends_here line_stop line_ended line_left note_at note_start definition_at_in_definitionlists begins_definition definition_start begins_definition_in_definitions replaced define_once definitions_from is_paragraph is_table ended finished leaf_finished table_finished shortened settled leaf_closed is_quote is_list is_note is_definitions one_closed times closed_to note_left list_of left_noted list_left is_apart loosened had_marked begun opened_with leaf_opened has_text piece_taken is_split code_piece whole_place text_piece heading_piece keeps_line is_no_word braces_in heading_braces before_braces placed_braces heading_put heading_started_in underlined cut_before underlined_attributed underlined_in is_triple ends_line is_blank_line mark_of has_dots opens_metadata closes_metadata last_step known_of begins_metadata metadata_started is_outside is_front metadata_in quote_opened kind_named quote_kind_of is_new_quote quote_kind_in is_first_line tag_in quote_kind_started is_box_space box_of ends_box box_at is_new_item task_in with_task boxed_taken task_started extends_starts underline_taken_in started_in leaf_started_in tabled_in passed_in turn_of turn_in leaf_ended touched cells_taken_in line_taken_in page_in blocks_in info_of html_ended code_taken indented_started fence_started html_started goes_directly is_in_list list_started item_opened container_once_in goes_past_blank leaf_turn ends_at_blank html_at underline_in rule_at mark_at leaf_at metadata_or task_or quote_kind_or tag_or text_started text_taken rule_started
some_texts = ((refl, refl), (refl, refl), (refl, refl), (refl, refl))
