-- Examples, computed: the inlines of a plain text, trees as blocks, joined events, a kept ampersand, and documents with lists.
use Rattle.std.proofs.Common.{◌≡◌, ℕ, true, false, List, [], ◌∷◌, ◌++◌, codes, refl, subst, arith}
use Rattle.std.specs.Prelude.{None}
use Rattle.std.specs.Char.{encode_utf8}
use Rattle.std.specs.Str.{chars}
use Rattle.tocmark_event.specs.Options.{OptionsView, default_options}
use Rattle.tocmark_event.specs.declared.event.flags.ParserOptions.{ParserOptions}
use Rattle.tocmark_write_texts.specs.Escape.{coded, doubles_backslash, ends_line, escaped, is_marker, is_read_as_marker, needs_backslash, opens_label, reference, with_backslash, written}
use Rattle.tocmark_event.specs.Merged.{merged}
use Rattle.tocmark_event.specs.View.{BlockQuote, CodeBlock, Fenced, Heading, Item, ListOf, Start, End, Leaf, SoftBreak, Text}
use Rattle.tocmark_event.specs.declared.event.HeadingLevel.TheVariants.{H1, H2}
use Rattle.tocmark_event.specs.declared.event.TagEnd.TheVariants as end
use Rattle.tocmark_read_scan.specs.Basic.{starts_at, character_of}
use Rattle.tocmark_read_scan.specs.Class.{is_unquoted, is_mailbox, is_in, run_end}
use Rattle.tocmark_read_scan.specs.PlainParts.{Bare, Referred}
use Rattle.tocmark_read_scan.specs.Repeat.{repeated, iterated}
use Rattle.tocmark_read_tokens.specs.CharacterNames.{is_entry, next_line, entry_characters, characters_in, is_name, characters_of}
use Rattle.tocmark_read_tokens.specs.Entries.{entries_of}
use Rattle.tocmark_read_tokens.specs.Name.{name_end, name_at, named}
use Rattle.tocmark_read_tokens.specs.Reference.{digit, number, character, closed_number, numeric, is_escape}
use Rattle.tocmark_read_spans.specs.declared.role.Leaf.TheVariants as leaf
use Rattle.tocmark_read_spans.specs.declared.role.Role.TheVariants.{Plain, Single}
use Rattle.tocmark_read_tokens.specs.Html.{closing_tag, quoted_end, value, value_end, attribute, tag_close, open_tag, further}
use Rattle.tocmark_read_tokens.specs.Html as tag
use Rattle.tocmark_read_lines.specs.Cells.{filled, trimmed, first_cursor}
use Rattle.tocmark_read_lines.specs.Marks.{level_of, is_behind, heading_end_before, heading_at, is_fence_byte, fence_at, closes_fence, tail_of, is_rule_byte, is_rule, is_underline_byte, underline_at, number_step, bullet_at, ordered_at, marker_at}
use Rattle.tocmark_read_lines.specs.Html.{same_word, is_raw_name, is_block_name, ends_name, is_raw, block_tag, is_block_tag, tag_end, is_tag_line, html_kind, holds_raw_end, html_ends}
use Rattle.tocmark_commonmark.specs.Beginnings.{beginning, interrupts}
use Rattle.tocmark_commonmark.specs.Emphasis.{emphasis}
use Rattle.tocmark_commonmark.specs.Events.{block_events, inline_events}
use Rattle.tocmark_commonmark.specs.Inlines.{scanned, inlines}
use Rattle.tocmark_commonmark.specs.Tree as block
use Rattle.tocmark_text_laws.specs.Quoted.{Node, none, more}
use Rattle.tocmark_text_laws.specs.Quoted as read
use Rattle.tocmark_block_laws.specs.Lists.{has_plain_lists}
use Rattle.tocmark_block_laws.proofs.NestedTexts.{nested-lists-declared}
use Rattle.tocmark_standard_laws.specs.Lettered.{letter_events, lettered}
use Rattle.tocmark_laws.specs.Documents.{PlainHeading, PlainCode, PlainParagraph, PlainRule}
use Rattle.tocmark_document_laws.specs.Blocks.{Blocks, Nothing, PlainThen, QuoteThen, BulletsThen, ItemThen, events_of}
use Rattle.tocmark_document_laws.specs.DocumentLines.{layout}
use Rattle.tocmark_layout_laws.specs.Declared.{declared_tree}
use Rattle.tocmark_read_back_laws.specs.Documents.{IsReadAsEvents}
use Rattle.tocmark_read_back_laws.proofs.LaidReadings.{agreed_layouts_read_back}
use Rattle.tocmark_read_back_laws.specs.Trees.{blocks_as}
use Rattle.tocmark_read_back_laws.proofs.NamedParts.{kept_texts, named_roles}

-- an escape, references, an exclamation mark, and a line ending
plain_inlines : lettered (inline_events (inlines [] (codes "a b \\*c&amp;&#32;!\nd"))) ≡ letter_events (codes "a b *c& !") ++ Leaf SoftBreak ∷ letter_events (codes "d")
unfolding starts_at character_of is_in run_end repeated iterated is_entry next_line entry_characters characters_in is_name characters_of entries_of name_end name_at named digit number character closed_number numeric is_escape emphasis scanned inlines lib.Utf8.encode
plain_inlines = refl

-- a quote of a paragraph of two lines, and code of one line
trees_shown :
    blocks_as (more (Node read.Quote false [] (more (Node read.Paragraph false (record { spaces = 0; words = codes "a"; whole = codes "a\n" } ∷ record { spaces = 0; words = codes "b"; whole = codes "b" } ∷ []) none) none))
    (more (Node (read.Fenced (codes "x")) false (record { spaces = 2; words = codes "c"; whole = codes "c\n" } ∷ []) none) none))
    ≡ block.more (block.Quote (block.more (block.Paragraph (codes "a\nb")) block.none)) (block.more (block.FencedCode (codes "x") (codes "  c\n")) block.none)
trees_shown = refl

-- a heading of three texts, of which one is empty, and a quote of code of two lines
joined_events :
    merged (events_of (PlainThen (PlainHeading H2 (codes "a" ∷ [] ∷ codes "&b" ∷ [])) (QuoteThen (PlainThen (PlainCode [] (codes "x" ∷ codes "y" ∷ [])) Nothing) Nothing)))
    ≡ Start (Heading H2 None [] []) ∷ Leaf (Text (codes "a&b")) ∷ End (end.Heading H2)
    ∷ Start (BlockQuote None) ∷ Start (CodeBlock (Fenced [])) ∷ Leaf (Text (codes "x\ny\n")) ∷ End end.CodeBlock ∷ End (end.BlockQuote None) ∷ []
joined_events = refl

-- `a&amp;&#32;` after one byte of texts: the ampersand is kept as a text, and the space is not
kept_ampersand : kept_texts (Bare 97 ∷ Referred 38 (codes "amp;") ∷ Referred 32 (codes "#32;") ∷ []) ≡ codes "&"
kept_ampersand = refl

kept_roles :
    named_roles (codes "z") 0 (Bare 97 ∷ Referred 38 (codes "amp;") ∷ Referred 32 (codes "#32;") ∷ [])
    ≡ Plain ∷ Single (leaf.Text (record { start = 1; end = 2 })) 6 ∷ Plain ∷ Plain ∷ Plain ∷ Plain ∷ Single (leaf.Character 32) 11 ∷ Plain ∷ Plain ∷ Plain ∷ Plain ∷ []
kept_roles = refl

-- a list of two items: the first one has a paragraph, and a list of a heading and a thematic break
abbrev nested : Blocks
nested =
    BulletsThen (ItemThen (PlainThen (PlainParagraph (codes "a") [])
    (BulletsThen (ItemThen (PlainThen (PlainHeading H2 (codes "b" ∷ [])) Nothing) (ItemThen (PlainThen PlainRule Nothing) Nothing)) Nothing))
    (ItemThen (PlainThen (PlainParagraph (codes "c") (codes "d" ∷ [])) Nothing) Nothing)) Nothing

abbrev nested_text : List ℕ
nested_text = codes "* a\n  \n  * ## b\n  \n  * ---\n\n* c\n  d"

nested_layout : (flags : ParserOptions) → layout default_options flags nested ≡ nested_text
unfolding chars coded doubles_backslash encode_utf8 ends_line escaped is_marker is_read_as_marker needs_backslash opens_label reference with_backslash written
nested_layout flags = refl

nested_kind : has_plain_lists nested_text ≡ true
unfolding starts_at is_unquoted is_mailbox is_in run_end repeated iterated tag.name_end closing_tag quoted_end value value_end attribute tag_close open_tag further filled trimmed first_cursor level_of is_behind heading_end_before heading_at is_fence_byte fence_at closes_fence tail_of is_rule_byte is_rule is_underline_byte underline_at number_step bullet_at ordered_at marker_at same_word is_raw_name is_block_name ends_name is_raw block_tag is_block_tag tag_end is_tag_line html_kind holds_raw_end html_ends beginning lib.Utf8.encode interrupts has_plain_lists
nested_kind = refl

-- so both readers find its events
nested_read : (flags : ParserOptions) → IsReadAsEvents nested_text (events_of nested)
nested_read flags =
    subst (λ (t : List ℕ). IsReadAsEvents t (events_of nested)) (nested_layout flags)
    (agreed_layouts_read_back default_options flags nested (record { emphasis = refl; code = refl }) refl
    (refl, refl, ((refl, (refl, refl, ((refl, tt), ((tt, tt), tt)), tt)), ((refl, tt), tt)), tt)
    (((tt, (((tt, tt), ((refl, tt), tt)), tt)), ((tt, tt), tt)), tt)
    (((tt, (((tt, tt), ((tt, tt), tt)), tt)), ((tt, tt), tt)), tt)
    (((tt, (((tt, tt), ((tt, tt), tt)), tt)), ((tt, tt), tt)), tt)
    (rw (nested_layout flags) (omega arith))
    (rw (nested_layout flags) (nested-lists-declared nested_text (omega arith) nested_kind)))

-- if one line feed is after a heading, a list of an item with a heading and a paragraph is tight, and the paragraph has no tags
abbrev close_options : OptionsView
close_options = record default_options { newlines_after_headline = 1 }

tight_events : (flags : ParserOptions) →
    block_events [] false (declared_tree close_options flags (BulletsThen (ItemThen (PlainThen (PlainHeading H1 (codes "a" ∷ [])) (PlainThen (PlainParagraph (codes "b") []) Nothing)) Nothing) Nothing))
    ≡ Start (ListOf None) ∷ Start Item ∷ Start (Heading H1 None [] []) ∷ Leaf (Text (codes "a")) ∷ End (end.Heading H1) ∷ Leaf (Text (codes "b")) ∷ End end.Item ∷ End (end.List false) ∷ []
unfolding chars coded doubles_backslash ends_line escaped is_marker is_read_as_marker needs_backslash opens_label reference with_backslash written starts_at character_of is_in run_end repeated iterated emphasis scanned inlines lib.Utf8.encode
tight_events flags = refl
