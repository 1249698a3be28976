-- The rows of raw_html are right: each is computed.
use Rattle.std.specs.Prelude.{refl}
use Rattle.tocmark_commonmark.specs.InlineExamples.{HaveInlines}
use Rattle.tocmark_commonmark.specs.ExamplesOfRawHtml.{raw_html}
use Rattle.tocmark_read_scan.specs.Basic.{starts_at, character_of}
use Rattle.tocmark_read_scan.specs.Class.{is_unquoted, is_bracket, is_separator, is_mailbox, is_in, run_end}
use Rattle.tocmark_read_scan.specs.Side.{is_space, side_of, continuation_bits, code_at, is_continuation, start_before, side_at, side_before}
use Rattle.tocmark_read_scan.specs.Repeat.{repeated, iterated}
use Rattle.tocmark_read_tokens.specs.Autolink.{closed_at, is_scheme, uri_end, is_label_end, domain_step, is_domain, domain_end, mail_end}
use Rattle.tocmark_read_tokens.specs.Label.{collapse_step, collapsed, key_of}
use Rattle.tocmark_read_tokens.specs.Html.{name_end, closing_tag, quoted_end, value, value_end, attribute, tag_close, open_tag, further}
use Rattle.tocmark_read_tokens.specs.Word.{stops, closing_of, ends_enclosed, escapes, enclosed, ends_bare, depth_after, bare_word, enclosed_word, destination, enclosure_of, title, is_label_text, label_from, label}
use Rattle.tocmark_read_tokens.specs.Name.{name_end as name_end_in_name, name_at, named}
use Rattle.tocmark_read_tokens.specs.CharacterNames.{is_entry, next_line, entry_characters, characters_in, is_name, characters_of}
use Rattle.tocmark_read_tokens.specs.Entries.{entries_of}
use Rattle.tocmark_read_tokens.specs.Reference.{digit, number, character, closed_number, numeric, is_escape}
use Rattle.tocmark_read_spans.specs.Run.{is_space as is_space_in_run, is_punctuation, flanks, acts, run_between, run_at}
use Rattle.tocmark_read_spans.specs.Tick.{next_run, shown, stripped}
use Rattle.tocmark_read_spans.specs.Link.{begins_title, inline_title, inline_end, target_from, inline_target, own_label, own_asked, label_asked}
use Rattle.tocmark_commonmark.specs.Tokens.{resolved}
use Rattle.tocmark_commonmark.specs.Emphasis.{emphasis}
use Rattle.tocmark_commonmark.specs.Inlines.{scanned, inlines}
use Rattle.std.specs.Str.{chars, is_utf8}
use Rattle.std.specs.Str.Lossy.{utf8_lossy, utf8_valid_len, utf8_error_len}
use Rattle.caseless.specs.Caseless.{default_case_fold}
use Rattle.ucd_case.specs.CaseFolding.{full_folding}
use Rattle.ucd_case.specs.FullFoldingRows.{full_folding_rows}
use Rattle.ucd_category.specs.GeneralCategory.{general_category}
use Rattle.ucd_category.specs.GeneralCategoryRows.{general_category_rows}
use Rattle.ucd_table.specs.Rows.{value_in}

pub raw-html-right : HaveInlines raw_html
unfolding chars is_utf8 utf8_lossy utf8_valid_len utf8_error_len default_case_fold full_folding full_folding_rows general_category general_category_rows value_in starts_at character_of is_unquoted is_bracket is_separator is_mailbox is_in run_end is_space side_of continuation_bits code_at is_continuation start_before side_at side_before repeated iterated closed_at is_scheme uri_end is_label_end domain_step is_domain domain_end mail_end collapse_step collapsed key_of name_end closing_tag quoted_end value value_end attribute tag_close open_tag further stops closing_of ends_enclosed escapes enclosed ends_bare depth_after bare_word enclosed_word destination enclosure_of title is_label_text label_from label name_end_in_name name_at named is_entry next_line entry_characters characters_in is_name characters_of entries_of digit number character closed_number numeric is_escape is_space_in_run is_punctuation flanks acts run_between run_at next_run shown stripped begins_title inline_title inline_end target_from inline_target own_label own_asked label_asked resolved emphasis scanned inlines lib.Utf8.encode HaveInlines
raw-html-right = (refl, (refl, (refl, (refl, (refl, (refl, (refl, (refl, (refl, (refl, (refl, (refl, (refl, (refl, (refl, (refl, (refl, (refl, tt))))))))))))))))))
