-- These texts are covered: each premise is computed.
use Rattle.std.proofs.Common.{◌≡◌, ◌||◌, true, length, refl, arith}
use Rattle.std.specs.Str.{chars, is_utf8}
use Rattle.std.proofs.lemmas.Str.{IsUtf8-from_is_utf8}
use Rattle.tocmark_read_scan.specs.Basic.{starts_at}
use Rattle.tocmark_read_scan.specs.Class.{is_unquoted, is_mailbox, is_in, run_end}
use Rattle.tocmark_read_scan.specs.Repeat.{repeated, iterated}
use Rattle.tocmark_read_tokens.specs.Html.{name_end, closing_tag, quoted_end, value, value_end, attribute, tag_close, open_tag, further}
use Rattle.tocmark_read_lines.specs.Cells.{filled, trimmed, first_cursor}
use Rattle.tocmark_read_lines.specs.Marks.{level_of, is_behind, heading_end_before, heading_at, is_fence_byte, fence_at, closes_fence, tail_of, is_rule_byte, is_rule, is_underline_byte, underline_at, number_step, bullet_at, ordered_at, marker_at}
use Rattle.tocmark_read_lines.specs.Html.{same_word, is_raw_name, is_block_name, ends_name, is_raw, block_tag, is_block_tag, tag_end, is_tag_line, html_kind, holds_raw_end, html_ends}
use Rattle.tocmark_commonmark.specs.Beginnings.{beginning, interrupts}
use Rattle.tocmark_block_laws.specs.Lists.{has_one_line_blocks, has_plain_lists}
use Rattle.tocmark_block_laws.specs.Quotes.{is_covered}
use Rattle.tocmark_standard_laws.specs.CoveredExamples.{quoted_text, listed_text, nested_text, ExamplesAreCovered}

quoted_covered : (is_covered quoted_text || (has_one_line_blocks quoted_text || has_plain_lists quoted_text)) ≡ true
unfolding starts_at is_unquoted is_mailbox is_in run_end repeated iterated name_end closing_tag quoted_end value value_end attribute tag_close open_tag further filled trimmed first_cursor level_of is_behind heading_end_before heading_at is_fence_byte fence_at closes_fence tail_of is_rule_byte is_rule is_underline_byte underline_at number_step bullet_at ordered_at marker_at same_word is_raw_name is_block_name ends_name is_raw block_tag is_block_tag tag_end is_tag_line html_kind holds_raw_end html_ends beginning lib.Utf8.encode is_covered has_one_line_blocks
quoted_covered = refl

listed_covered : (is_covered listed_text || (has_one_line_blocks listed_text || has_plain_lists listed_text)) ≡ true
unfolding starts_at is_unquoted is_mailbox is_in run_end repeated iterated name_end closing_tag quoted_end value value_end attribute tag_close open_tag further filled trimmed first_cursor level_of is_behind heading_end_before heading_at is_fence_byte fence_at closes_fence tail_of is_rule_byte is_rule is_underline_byte underline_at number_step bullet_at ordered_at marker_at same_word is_raw_name is_block_name ends_name is_raw block_tag is_block_tag tag_end is_tag_line html_kind holds_raw_end html_ends beginning lib.Utf8.encode is_covered has_one_line_blocks
listed_covered = refl

nested_covered : (is_covered nested_text || (has_one_line_blocks nested_text || has_plain_lists nested_text)) ≡ true
unfolding starts_at is_unquoted is_mailbox is_in run_end repeated iterated name_end closing_tag quoted_end value value_end attribute tag_close open_tag further filled trimmed first_cursor level_of is_behind heading_end_before heading_at is_fence_byte fence_at closes_fence tail_of is_rule_byte is_rule is_underline_byte underline_at number_step bullet_at ordered_at marker_at same_word is_raw_name is_block_name ends_name is_raw block_tag is_block_tag tag_end is_tag_line html_kind holds_raw_end html_ends beginning lib.Utf8.encode interrupts is_covered has_one_line_blocks has_plain_lists
nested_covered = refl

quoted_utf8 : is_utf8 quoted_text ≡ true
unfolding is_utf8 chars lib.Utf8.encode
quoted_utf8 = refl

listed_utf8 : is_utf8 listed_text ≡ true
unfolding is_utf8 chars lib.Utf8.encode
listed_utf8 = refl

nested_utf8 : is_utf8 nested_text ≡ true
unfolding is_utf8 chars lib.Utf8.encode
nested_utf8 = refl

quoted_size : length quoted_text ≡ 74
quoted_size = refl

listed_size : length listed_text ≡ 38
listed_size = refl

nested_size : length nested_text ≡ 50
nested_size = refl

pub examples-covered : ExamplesAreCovered
examples-covered = (
  record { covered = quoted_covered; utf8 = IsUtf8-from_is_utf8 quoted_text quoted_utf8; small = omega (arith, quoted_size) },
  record { covered = listed_covered; utf8 = IsUtf8-from_is_utf8 listed_text listed_utf8; small = omega (arith, listed_size) },
  record { covered = nested_covered; utf8 = IsUtf8-from_is_utf8 nested_text nested_utf8; small = omega (arith, nested_size) },
)
