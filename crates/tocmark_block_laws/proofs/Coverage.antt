-- The standard's examples, counted table by table.
use Rattle.std.proofs.Common.{◌≡◌, refl}
use Rattle.tocmark_read_scan.specs.Basic.{starts_at}
use Rattle.tocmark_read_scan.specs.Class.{is_unquoted, is_bracket, is_separator, is_mailbox, is_in, run_end}
use Rattle.tocmark_read_scan.specs.Repeat.{repeated, iterated}
use Rattle.tocmark_read_tokens.specs.Word.{stops, closing_of, ends_enclosed, escapes, enclosed, ends_bare, depth_after, bare_word, enclosed_word, destination, enclosure_of, title, is_label_text, label_from, label, line_end, title_on_line, untitled, titled, defined_destination, defined_label, definition_at}
use Rattle.tocmark_read_tokens.specs.Html.{name_end, closing_tag, quoted_end, value, value_end, attribute, tag_close, open_tag, further}
use Rattle.tocmark_read_lines.specs.Cells.{filled, trimmed, first_cursor}
use Rattle.tocmark_read_lines.specs.Marks.{level_of, is_behind, heading_end_before, heading_at, is_fence_byte, fence_at, closes_fence, tail_of, is_rule_byte, is_rule, is_underline_byte, underline_at, number_step, bullet_at, ordered_at, marker_at}
use Rattle.tocmark_read_lines.specs.Html.{same_word, is_raw_name, is_block_name, ends_name, is_raw, block_tag, is_block_tag, tag_end, is_tag_line, html_kind, holds_raw_end, html_ends}
use Rattle.tocmark_read_page.specs.Definitions.{define_once}
use Rattle.tocmark_commonmark.specs.Beginnings.{beginning, interrupts}
use Rattle.tocmark_block_laws.specs.Lists.{has_one_line_blocks, has_plain_lists}
use Rattle.tocmark_block_laws.specs.Quotes.{is_covered}
use Rattle.tocmark_commonmark.specs.StandardBreaks.{standard_breaks}
use Rattle.tocmark_commonmark.specs.StandardCodeFirst.{standard_code_first}
use Rattle.tocmark_commonmark.specs.StandardCodeSecond.{standard_code_second}
use Rattle.tocmark_commonmark.specs.StandardDefinitionsFirst.{standard_definitions_first}
use Rattle.tocmark_commonmark.specs.StandardDefinitionsSecond.{standard_definitions_second}
use Rattle.tocmark_commonmark.specs.StandardEmphasisFifth.{standard_emphasis_fifth}
use Rattle.tocmark_commonmark.specs.StandardEmphasisFirst.{standard_emphasis_first}
use Rattle.tocmark_commonmark.specs.StandardEmphasisFourth.{standard_emphasis_fourth}
use Rattle.tocmark_commonmark.specs.StandardEmphasisSecond.{standard_emphasis_second}
use Rattle.tocmark_commonmark.specs.StandardEmphasisThird.{standard_emphasis_third}
use Rattle.tocmark_commonmark.specs.StandardFences.{standard_fences}
use Rattle.tocmark_commonmark.specs.StandardHtmlBlocksFirst.{standard_html_blocks_first}
use Rattle.tocmark_commonmark.specs.StandardHtmlBlocksSecond.{standard_html_blocks_second}
use Rattle.tocmark_commonmark.specs.StandardImagesFirst.{standard_images_first}
use Rattle.tocmark_commonmark.specs.StandardImagesSecond.{standard_images_second}
use Rattle.tocmark_commonmark.specs.StandardItemsFirst.{standard_items_first}
use Rattle.tocmark_commonmark.specs.StandardItemsSecond.{standard_items_second}
use Rattle.tocmark_commonmark.specs.StandardLinksFirst.{standard_links_first}
use Rattle.tocmark_commonmark.specs.StandardLinksSecond.{standard_links_second}
use Rattle.tocmark_commonmark.specs.StandardLinksThird.{standard_links_third}
use Rattle.tocmark_commonmark.specs.StandardLists.{standard_lists}
use Rattle.tocmark_commonmark.specs.StandardPrecedenceFirst.{standard_precedence_first}
use Rattle.tocmark_commonmark.specs.StandardPrecedenceSecond.{standard_precedence_second}
use Rattle.tocmark_commonmark.specs.StandardQuotes.{standard_quotes}
use Rattle.tocmark_commonmark.specs.StandardSetextFirst.{standard_setext_first}
use Rattle.tocmark_commonmark.specs.StandardSetextSecond.{standard_setext_second}
use Rattle.tocmark_commonmark.specs.StandardTabsFirst.{standard_tabs_first}
use Rattle.tocmark_commonmark.specs.StandardTabsSecond.{standard_tabs_second}
use Rattle.tocmark_block_laws.specs.Coverage.{covered_in, StandardIsCovered}

count_breaks : covered_in standard_breaks ≡ 20
unfolding starts_at is_unquoted is_mailbox is_in run_end repeated iterated name_end closing_tag quoted_end value value_end attribute tag_close open_tag further filled trimmed first_cursor level_of is_behind heading_end_before heading_at is_fence_byte fence_at closes_fence tail_of is_rule_byte is_rule is_underline_byte underline_at number_step bullet_at ordered_at marker_at same_word is_raw_name is_block_name ends_name is_raw block_tag is_block_tag tag_end is_tag_line html_kind holds_raw_end html_ends beginning lib.Utf8.encode interrupts is_covered has_one_line_blocks has_plain_lists covered_in
count_breaks = refl

count_code_first : covered_in standard_code_first ≡ 21
unfolding starts_at is_unquoted is_mailbox is_in run_end repeated iterated name_end closing_tag quoted_end value value_end attribute tag_close open_tag further filled trimmed first_cursor level_of is_behind heading_end_before heading_at is_fence_byte fence_at closes_fence tail_of is_rule_byte is_rule is_underline_byte underline_at number_step bullet_at ordered_at marker_at same_word is_raw_name is_block_name ends_name is_raw block_tag is_block_tag tag_end is_tag_line html_kind holds_raw_end html_ends beginning lib.Utf8.encode interrupts is_covered has_one_line_blocks has_plain_lists covered_in
count_code_first = refl

count_code_second : covered_in standard_code_second ≡ 21
unfolding starts_at is_unquoted is_mailbox is_in run_end repeated iterated name_end closing_tag quoted_end value value_end attribute tag_close open_tag further filled trimmed first_cursor level_of is_behind heading_end_before heading_at is_fence_byte fence_at closes_fence tail_of is_rule_byte is_rule is_underline_byte underline_at number_step bullet_at ordered_at marker_at same_word is_raw_name is_block_name ends_name is_raw block_tag is_block_tag tag_end is_tag_line html_kind holds_raw_end html_ends beginning lib.Utf8.encode interrupts is_covered has_one_line_blocks has_plain_lists covered_in
count_code_second = refl

count_definitions_first : covered_in standard_definitions_first ≡ 18
unfolding starts_at is_unquoted is_mailbox is_in run_end repeated iterated name_end closing_tag quoted_end value value_end attribute tag_close open_tag further filled trimmed first_cursor level_of is_behind heading_end_before heading_at is_fence_byte fence_at closes_fence tail_of is_rule_byte is_rule is_underline_byte underline_at number_step bullet_at ordered_at marker_at same_word is_raw_name is_block_name ends_name is_raw block_tag is_block_tag tag_end is_tag_line html_kind holds_raw_end html_ends beginning lib.Utf8.encode interrupts is_covered has_one_line_blocks has_plain_lists covered_in
count_definitions_first = refl

count_definitions_second : covered_in standard_definitions_second ≡ 18
unfolding starts_at is_unquoted is_mailbox is_in run_end repeated iterated name_end closing_tag quoted_end value value_end attribute tag_close open_tag further filled trimmed first_cursor level_of is_behind heading_end_before heading_at is_fence_byte fence_at closes_fence tail_of is_rule_byte is_rule is_underline_byte underline_at number_step bullet_at ordered_at marker_at same_word is_raw_name is_block_name ends_name is_raw block_tag is_block_tag tag_end is_tag_line html_kind holds_raw_end html_ends beginning lib.Utf8.encode interrupts is_covered has_one_line_blocks has_plain_lists covered_in
count_definitions_second = refl

count_emphasis_fifth : covered_in standard_emphasis_fifth ≡ 24
unfolding starts_at is_unquoted is_mailbox is_in run_end repeated iterated name_end closing_tag quoted_end value value_end attribute tag_close open_tag further filled trimmed first_cursor level_of is_behind heading_end_before heading_at is_fence_byte fence_at closes_fence tail_of is_rule_byte is_rule is_underline_byte underline_at number_step bullet_at ordered_at marker_at same_word is_raw_name is_block_name ends_name is_raw block_tag is_block_tag tag_end is_tag_line html_kind holds_raw_end html_ends beginning lib.Utf8.encode interrupts is_covered has_one_line_blocks has_plain_lists covered_in
count_emphasis_fifth = refl

count_emphasis_first : covered_in standard_emphasis_first ≡ 26
unfolding starts_at is_unquoted is_mailbox is_in run_end repeated iterated name_end closing_tag quoted_end value value_end attribute tag_close open_tag further filled trimmed first_cursor level_of is_behind heading_end_before heading_at is_fence_byte fence_at closes_fence tail_of is_rule_byte is_rule is_underline_byte underline_at number_step bullet_at ordered_at marker_at same_word is_raw_name is_block_name ends_name is_raw block_tag is_block_tag tag_end is_tag_line html_kind holds_raw_end html_ends beginning lib.Utf8.encode interrupts is_covered has_one_line_blocks has_plain_lists covered_in
count_emphasis_first = refl

count_emphasis_fourth : covered_in standard_emphasis_fourth ≡ 27
unfolding starts_at is_unquoted is_mailbox is_in run_end repeated iterated name_end closing_tag quoted_end value value_end attribute tag_close open_tag further filled trimmed first_cursor level_of is_behind heading_end_before heading_at is_fence_byte fence_at closes_fence tail_of is_rule_byte is_rule is_underline_byte underline_at number_step bullet_at ordered_at marker_at same_word is_raw_name is_block_name ends_name is_raw block_tag is_block_tag tag_end is_tag_line html_kind holds_raw_end html_ends beginning lib.Utf8.encode interrupts is_covered has_one_line_blocks has_plain_lists covered_in
count_emphasis_fourth = refl

count_emphasis_second : covered_in standard_emphasis_second ≡ 27
unfolding starts_at is_unquoted is_mailbox is_in run_end repeated iterated name_end closing_tag quoted_end value value_end attribute tag_close open_tag further filled trimmed first_cursor level_of is_behind heading_end_before heading_at is_fence_byte fence_at closes_fence tail_of is_rule_byte is_rule is_underline_byte underline_at number_step bullet_at ordered_at marker_at same_word is_raw_name is_block_name ends_name is_raw block_tag is_block_tag tag_end is_tag_line html_kind holds_raw_end html_ends beginning lib.Utf8.encode interrupts is_covered has_one_line_blocks has_plain_lists covered_in
count_emphasis_second = refl

count_emphasis_third : covered_in standard_emphasis_third ≡ 27
unfolding starts_at is_unquoted is_mailbox is_in run_end repeated iterated name_end closing_tag quoted_end value value_end attribute tag_close open_tag further filled trimmed first_cursor level_of is_behind heading_end_before heading_at is_fence_byte fence_at closes_fence tail_of is_rule_byte is_rule is_underline_byte underline_at number_step bullet_at ordered_at marker_at same_word is_raw_name is_block_name ends_name is_raw block_tag is_block_tag tag_end is_tag_line html_kind holds_raw_end html_ends beginning lib.Utf8.encode interrupts is_covered has_one_line_blocks has_plain_lists covered_in
count_emphasis_third = refl

count_fences : covered_in standard_fences ≡ 29
unfolding starts_at is_unquoted is_mailbox is_in run_end repeated iterated name_end closing_tag quoted_end value value_end attribute tag_close open_tag further filled trimmed first_cursor level_of is_behind heading_end_before heading_at is_fence_byte fence_at closes_fence tail_of is_rule_byte is_rule is_underline_byte underline_at number_step bullet_at ordered_at marker_at same_word is_raw_name is_block_name ends_name is_raw block_tag is_block_tag tag_end is_tag_line html_kind holds_raw_end html_ends beginning lib.Utf8.encode interrupts is_covered has_one_line_blocks has_plain_lists covered_in
count_fences = refl

count_html_blocks_first : covered_in standard_html_blocks_first ≡ 22
unfolding starts_at is_unquoted is_mailbox is_in run_end repeated iterated name_end closing_tag quoted_end value value_end attribute tag_close open_tag further filled trimmed first_cursor level_of is_behind heading_end_before heading_at is_fence_byte fence_at closes_fence tail_of is_rule_byte is_rule is_underline_byte underline_at number_step bullet_at ordered_at marker_at same_word is_raw_name is_block_name ends_name is_raw block_tag is_block_tag tag_end is_tag_line html_kind holds_raw_end html_ends beginning lib.Utf8.encode interrupts is_covered has_one_line_blocks has_plain_lists covered_in
count_html_blocks_first = refl

count_html_blocks_second : covered_in standard_html_blocks_second ≡ 21
unfolding starts_at is_unquoted is_mailbox is_in run_end repeated iterated name_end closing_tag quoted_end value value_end attribute tag_close open_tag further filled trimmed first_cursor level_of is_behind heading_end_before heading_at is_fence_byte fence_at closes_fence tail_of is_rule_byte is_rule is_underline_byte underline_at number_step bullet_at ordered_at marker_at same_word is_raw_name is_block_name ends_name is_raw block_tag is_block_tag tag_end is_tag_line html_kind holds_raw_end html_ends beginning lib.Utf8.encode interrupts is_covered has_one_line_blocks has_plain_lists covered_in
count_html_blocks_second = refl

count_images_first : covered_in standard_images_first ≡ 21
unfolding starts_at is_unquoted is_mailbox is_in run_end repeated iterated name_end closing_tag quoted_end value value_end attribute tag_close open_tag further filled trimmed first_cursor level_of is_behind heading_end_before heading_at is_fence_byte fence_at closes_fence tail_of is_rule_byte is_rule is_underline_byte underline_at number_step bullet_at ordered_at marker_at same_word is_raw_name is_block_name ends_name is_raw block_tag is_block_tag tag_end is_tag_line html_kind holds_raw_end html_ends beginning lib.Utf8.encode interrupts is_covered has_one_line_blocks has_plain_lists covered_in
count_images_first = refl

count_images_second : covered_in standard_images_second ≡ 21
unfolding starts_at is_unquoted is_mailbox is_in run_end repeated iterated name_end closing_tag quoted_end value value_end attribute tag_close open_tag further filled trimmed first_cursor level_of is_behind heading_end_before heading_at is_fence_byte fence_at closes_fence tail_of is_rule_byte is_rule is_underline_byte underline_at number_step bullet_at ordered_at marker_at same_word is_raw_name is_block_name ends_name is_raw block_tag is_block_tag tag_end is_tag_line html_kind holds_raw_end html_ends beginning lib.Utf8.encode interrupts is_covered has_one_line_blocks has_plain_lists covered_in
count_images_second = refl

count_items_first : covered_in standard_items_first ≡ 14
unfolding starts_at is_unquoted is_mailbox is_in run_end repeated iterated name_end closing_tag quoted_end value value_end attribute tag_close open_tag further filled trimmed first_cursor level_of is_behind heading_end_before heading_at is_fence_byte fence_at closes_fence tail_of is_rule_byte is_rule is_underline_byte underline_at number_step bullet_at ordered_at marker_at same_word is_raw_name is_block_name ends_name is_raw block_tag is_block_tag tag_end is_tag_line html_kind holds_raw_end html_ends beginning lib.Utf8.encode interrupts is_covered has_one_line_blocks has_plain_lists covered_in
count_items_first = refl

count_items_second : covered_in standard_items_second ≡ 11
unfolding is_bracket is_separator stops closing_of ends_enclosed escapes enclosed ends_bare depth_after bare_word enclosed_word destination enclosure_of title is_label_text label_from label line_end title_on_line untitled titled defined_destination defined_label definition_at define_once starts_at is_unquoted is_mailbox is_in run_end repeated iterated name_end closing_tag quoted_end value value_end attribute tag_close open_tag further filled trimmed first_cursor level_of is_behind heading_end_before heading_at is_fence_byte fence_at closes_fence tail_of is_rule_byte is_rule is_underline_byte underline_at number_step bullet_at ordered_at marker_at same_word is_raw_name is_block_name ends_name is_raw block_tag is_block_tag tag_end is_tag_line html_kind holds_raw_end html_ends beginning lib.Utf8.encode interrupts is_covered has_one_line_blocks has_plain_lists covered_in
count_items_second = refl

count_links_first : covered_in standard_links_first ≡ 30
unfolding starts_at is_unquoted is_mailbox is_in run_end repeated iterated name_end closing_tag quoted_end value value_end attribute tag_close open_tag further filled trimmed first_cursor level_of is_behind heading_end_before heading_at is_fence_byte fence_at closes_fence tail_of is_rule_byte is_rule is_underline_byte underline_at number_step bullet_at ordered_at marker_at same_word is_raw_name is_block_name ends_name is_raw block_tag is_block_tag tag_end is_tag_line html_kind holds_raw_end html_ends beginning lib.Utf8.encode interrupts is_covered has_one_line_blocks has_plain_lists covered_in
count_links_first = refl

count_links_second : covered_in standard_links_second ≡ 30
unfolding starts_at is_unquoted is_mailbox is_in run_end repeated iterated name_end closing_tag quoted_end value value_end attribute tag_close open_tag further filled trimmed first_cursor level_of is_behind heading_end_before heading_at is_fence_byte fence_at closes_fence tail_of is_rule_byte is_rule is_underline_byte underline_at number_step bullet_at ordered_at marker_at same_word is_raw_name is_block_name ends_name is_raw block_tag is_block_tag tag_end is_tag_line html_kind holds_raw_end html_ends beginning lib.Utf8.encode interrupts is_covered has_one_line_blocks has_plain_lists covered_in
count_links_second = refl

count_links_third : covered_in standard_links_third ≡ 30
unfolding starts_at is_unquoted is_mailbox is_in run_end repeated iterated name_end closing_tag quoted_end value value_end attribute tag_close open_tag further filled trimmed first_cursor level_of is_behind heading_end_before heading_at is_fence_byte fence_at closes_fence tail_of is_rule_byte is_rule is_underline_byte underline_at number_step bullet_at ordered_at marker_at same_word is_raw_name is_block_name ends_name is_raw block_tag is_block_tag tag_end is_tag_line html_kind holds_raw_end html_ends beginning lib.Utf8.encode interrupts is_covered has_one_line_blocks has_plain_lists covered_in
count_links_third = refl

count_lists : covered_in standard_lists ≡ 16
unfolding is_bracket is_separator stops closing_of ends_enclosed escapes enclosed ends_bare depth_after bare_word enclosed_word destination enclosure_of title is_label_text label_from label line_end title_on_line untitled titled defined_destination defined_label definition_at define_once starts_at is_unquoted is_mailbox is_in run_end repeated iterated name_end closing_tag quoted_end value value_end attribute tag_close open_tag further filled trimmed first_cursor level_of is_behind heading_end_before heading_at is_fence_byte fence_at closes_fence tail_of is_rule_byte is_rule is_underline_byte underline_at number_step bullet_at ordered_at marker_at same_word is_raw_name is_block_name ends_name is_raw block_tag is_block_tag tag_end is_tag_line html_kind holds_raw_end html_ends beginning lib.Utf8.encode interrupts is_covered has_one_line_blocks has_plain_lists covered_in
count_lists = refl

count_precedence_first : covered_in standard_precedence_first ≡ 19
unfolding starts_at is_unquoted is_mailbox is_in run_end repeated iterated name_end closing_tag quoted_end value value_end attribute tag_close open_tag further filled trimmed first_cursor level_of is_behind heading_end_before heading_at is_fence_byte fence_at closes_fence tail_of is_rule_byte is_rule is_underline_byte underline_at number_step bullet_at ordered_at marker_at same_word is_raw_name is_block_name ends_name is_raw block_tag is_block_tag tag_end is_tag_line html_kind holds_raw_end html_ends beginning lib.Utf8.encode interrupts is_covered has_one_line_blocks has_plain_lists covered_in
count_precedence_first = refl

count_precedence_second : covered_in standard_precedence_second ≡ 19
unfolding starts_at is_unquoted is_mailbox is_in run_end repeated iterated name_end closing_tag quoted_end value value_end attribute tag_close open_tag further filled trimmed first_cursor level_of is_behind heading_end_before heading_at is_fence_byte fence_at closes_fence tail_of is_rule_byte is_rule is_underline_byte underline_at number_step bullet_at ordered_at marker_at same_word is_raw_name is_block_name ends_name is_raw block_tag is_block_tag tag_end is_tag_line html_kind holds_raw_end html_ends beginning lib.Utf8.encode interrupts is_covered has_one_line_blocks has_plain_lists covered_in
count_precedence_second = refl

count_quotes : covered_in standard_quotes ≡ 24
unfolding starts_at is_unquoted is_mailbox is_in run_end repeated iterated name_end closing_tag quoted_end value value_end attribute tag_close open_tag further filled trimmed first_cursor level_of is_behind heading_end_before heading_at is_fence_byte fence_at closes_fence tail_of is_rule_byte is_rule is_underline_byte underline_at number_step bullet_at ordered_at marker_at same_word is_raw_name is_block_name ends_name is_raw block_tag is_block_tag tag_end is_tag_line html_kind holds_raw_end html_ends beginning lib.Utf8.encode interrupts is_covered has_one_line_blocks has_plain_lists covered_in
count_quotes = refl

count_setext_first : covered_in standard_setext_first ≡ 19
unfolding starts_at is_unquoted is_mailbox is_in run_end repeated iterated name_end closing_tag quoted_end value value_end attribute tag_close open_tag further filled trimmed first_cursor level_of is_behind heading_end_before heading_at is_fence_byte fence_at closes_fence tail_of is_rule_byte is_rule is_underline_byte underline_at number_step bullet_at ordered_at marker_at same_word is_raw_name is_block_name ends_name is_raw block_tag is_block_tag tag_end is_tag_line html_kind holds_raw_end html_ends beginning lib.Utf8.encode interrupts is_covered has_one_line_blocks has_plain_lists covered_in
count_setext_first = refl

count_setext_second : covered_in standard_setext_second ≡ 19
unfolding starts_at is_unquoted is_mailbox is_in run_end repeated iterated name_end closing_tag quoted_end value value_end attribute tag_close open_tag further filled trimmed first_cursor level_of is_behind heading_end_before heading_at is_fence_byte fence_at closes_fence tail_of is_rule_byte is_rule is_underline_byte underline_at number_step bullet_at ordered_at marker_at same_word is_raw_name is_block_name ends_name is_raw block_tag is_block_tag tag_end is_tag_line html_kind holds_raw_end html_ends beginning lib.Utf8.encode interrupts is_covered has_one_line_blocks has_plain_lists covered_in
count_setext_second = refl

count_tabs_first : covered_in standard_tabs_first ≡ 9
unfolding starts_at is_unquoted is_mailbox is_in run_end repeated iterated name_end closing_tag quoted_end value value_end attribute tag_close open_tag further filled trimmed first_cursor level_of is_behind heading_end_before heading_at is_fence_byte fence_at closes_fence tail_of is_rule_byte is_rule is_underline_byte underline_at number_step bullet_at ordered_at marker_at same_word is_raw_name is_block_name ends_name is_raw block_tag is_block_tag tag_end is_tag_line html_kind holds_raw_end html_ends beginning lib.Utf8.encode interrupts is_covered has_one_line_blocks has_plain_lists covered_in
count_tabs_first = refl

count_tabs_second : covered_in standard_tabs_second ≡ 20
unfolding starts_at is_unquoted is_mailbox is_in run_end repeated iterated name_end closing_tag quoted_end value value_end attribute tag_close open_tag further filled trimmed first_cursor level_of is_behind heading_end_before heading_at is_fence_byte fence_at closes_fence tail_of is_rule_byte is_rule is_underline_byte underline_at number_step bullet_at ordered_at marker_at same_word is_raw_name is_block_name ends_name is_raw block_tag is_block_tag tag_end is_tag_line html_kind holds_raw_end html_ends beginning lib.Utf8.encode interrupts is_covered has_one_line_blocks has_plain_lists covered_in
count_tabs_second = refl

pub standard-covered : StandardIsCovered
standard-covered = rw (count_breaks, count_code_first, count_code_second, count_definitions_first, count_definitions_second, count_emphasis_fifth, count_emphasis_first, count_emphasis_fourth, count_emphasis_second, count_emphasis_third, count_fences, count_html_blocks_first, count_html_blocks_second, count_images_first, count_images_second, count_items_first, count_items_second, count_links_first, count_links_second, count_links_third, count_lists, count_precedence_first, count_precedence_second, count_quotes, count_setext_first, count_setext_second, count_tabs_first, count_tabs_second) refl
