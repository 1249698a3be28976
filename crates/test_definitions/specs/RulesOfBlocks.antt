-- Rules of openings and closings of blocks, as they show in what is written.
use Rattle.std.specs.Prelude.{[], ◌∷◌, codes, true, None, Some, List}
use Rattle.tocmark_event.specs.Forest.{empty, node}
use Rattle.tocmark_event.specs.Options.{default_options}
use Rattle.tocmark_event.specs.View.{Indented, Fenced, Paragraph, Heading, BlockQuote, CodeBlock, HtmlBlock, ListOf, Item, FootnoteDefinition, DefinitionList, DefinitionListTitle, DefinitionListDefinition, Table, TableHead, TableRow, TableCell, Superscript, Subscript, MetadataBlock, Code, Html, SoftBreak, Rule}
use Rattle.tocmark_event.specs.declared.event.HeadingLevel.TheVariants as level
use Rattle.tocmark_event.specs.declared.event.BlockQuoteKind.TheVariants as quote
use Rattle.tocmark_event.specs.declared.event.Alignment.TheVariants as alignment
use Rattle.tocmark_event.specs.declared.event.MetadataBlockKind.TheVariants as metadata
use Rattle.test_definitions.specs.Script.{wrote, text, one, setting, Row}

-- a long run in a child of a fence
abbrev pub a_long_run_in_a_child_of_a_fence : Row
a_long_run_in_a_child_of_a_fence = record {
  setting = setting default_options 0 ([]);
  trees = node (CodeBlock (Fenced [])) (node Paragraph (text (codes "`````") empty) empty) empty;
  written = wrote ((codes "\n``````\n`````") ∷ []);
}

-- an instruction before a paragraph
abbrev pub an_instruction_before_a_paragraph : Row
an_instruction_before_a_paragraph = record {
  setting = setting default_options 0 ([]);
  trees = node HtmlBlock (one (Html (codes "<?x\n")) empty) (node Paragraph (text (codes "b") empty) empty);
  written = wrote ((codes "<?x\n") ∷ (codes "b") ∷ []);
}

-- a tag of raw text in capitals before a paragraph
abbrev pub a_tag_of_raw_text_in_capitals_before_a_paragraph : Row
a_tag_of_raw_text_in_capitals_before_a_paragraph = record {
  setting = setting default_options 0 ([]);
  trees = node HtmlBlock (one (Html (codes "<SCRIPT>\n")) empty) (node Paragraph (text (codes "b") empty) empty);
  written = wrote ((codes "<SCRIPT>\n") ∷ (codes "b") ∷ []);
}

-- a tag of raw text with an attribute before a paragraph
abbrev pub a_tag_of_raw_text_with_an_attribute_before_a_paragraph : Row
a_tag_of_raw_text_with_an_attribute_before_a_paragraph = record {
  setting = setting default_options 0 ([]);
  trees = node HtmlBlock (one (Html (codes "<textarea a>\n")) empty) (node Paragraph (text (codes "b") empty) empty);
  written = wrote ((codes "<textarea a>\n") ∷ (codes "b") ∷ []);
}

-- a tag of raw text alone before a paragraph
abbrev pub a_tag_of_raw_text_alone_before_a_paragraph : Row
a_tag_of_raw_text_alone_before_a_paragraph = record {
  setting = setting default_options 0 ([]);
  trees = node HtmlBlock (one (Html (codes "<pre>\n")) empty) (node Paragraph (text (codes "b") empty) empty);
  written = wrote ((codes "<pre>\n") ∷ (codes "b") ∷ []);
}

-- an end tag in capitals before a paragraph
abbrev pub an_end_tag_in_capitals_before_a_paragraph : Row
an_end_tag_in_capitals_before_a_paragraph = record {
  setting = setting default_options 0 ([]);
  trees = node HtmlBlock (one (Html (codes "<pre>a</PRE>\n")) empty) (node Paragraph (text (codes "b") empty) empty);
  written = wrote ((codes "<pre>a</PRE>\n") ∷ (codes "\nb") ∷ []);
}

-- an open comment before a paragraph
abbrev pub an_open_comment_before_a_paragraph : Row
an_open_comment_before_a_paragraph = record {
  setting = setting default_options 0 ([]);
  trees = node HtmlBlock (one (Html (codes "<!-- a>\n")) empty) (node Paragraph (text (codes "b") empty) empty);
  written = wrote ((codes "<!-- a>\n") ∷ (codes "b") ∷ []);
}

-- an open instruction before a paragraph
abbrev pub an_open_instruction_before_a_paragraph : Row
an_open_instruction_before_a_paragraph = record {
  setting = setting default_options 0 ([]);
  trees = node HtmlBlock (one (Html (codes "<? a>\n")) empty) (node Paragraph (text (codes "b") empty) empty);
  written = wrote ((codes "<? a>\n") ∷ (codes "b") ∷ []);
}

-- open CDATA before a paragraph
abbrev pub open_cdata_before_a_paragraph : Row
open_cdata_before_a_paragraph = record {
  setting = setting default_options 0 ([]);
  trees = node HtmlBlock (one (Html (codes "<![CDATA[ a>\n")) empty) (node Paragraph (text (codes "b") empty) empty);
  written = wrote ((codes "<![CDATA[ a>\n") ∷ (codes "b") ∷ []);
}

-- a declaration before a paragraph
abbrev pub a_declaration_before_a_paragraph : Row
a_declaration_before_a_paragraph = record {
  setting = setting default_options 0 ([]);
  trees = node HtmlBlock (one (Html (codes "<!X a>\n")) empty) (node Paragraph (text (codes "b") empty) empty);
  written = wrote ((codes "<!X a>\n") ∷ (codes "\nb") ∷ []);
}

-- white space before a tag before a paragraph
abbrev pub white_space_before_a_tag_before_a_paragraph : Row
white_space_before_a_tag_before_a_paragraph = record {
  setting = setting default_options 0 ([]);
  trees = node HtmlBlock (one (Html (codes " <pre>\n")) empty) (node Paragraph (text (codes "b") empty) empty);
  written = wrote ((codes " <pre>\n") ∷ (codes "b") ∷ []);
}

-- white space before a comment before a paragraph
abbrev pub white_space_before_a_comment_before_a_paragraph : Row
white_space_before_a_comment_before_a_paragraph = record {
  setting = setting default_options 0 ([]);
  trees = node HtmlBlock (one (Html (codes " <!-- a -->\n")) empty) (node Paragraph (text (codes "b") empty) empty);
  written = wrote ((codes " <!-- a -->\n") ∷ (codes "\nb") ∷ []);
}

-- a tag that is no raw text before a paragraph
abbrev pub a_tag_that_is_no_raw_text_before_a_paragraph : Row
a_tag_that_is_no_raw_text_before_a_paragraph = record {
  setting = setting default_options 0 ([]);
  trees = node HtmlBlock (one (Html (codes "<b>\n")) empty) (node Paragraph (text (codes "b") empty) empty);
  written = wrote ((codes "<b>\n") ∷ (codes "\nb") ∷ []);
}

-- an HTML block without HTML before a paragraph
abbrev pub an_html_block_without_html_before_a_paragraph : Row
an_html_block_without_html_before_a_paragraph = record {
  setting = setting default_options 0 ([]);
  trees = node HtmlBlock (text (codes "x") empty) (node Paragraph (text (codes "b") empty) empty);
  written = wrote ((codes "x") ∷ (codes "\nb") ∷ []);
}

-- a fence of a token of one’s own before a backtick
abbrev pub a_fence_of_a_token_of_one_s_own_before_a_backtick : Row
a_fence_of_a_token_of_one_s_own_before_a_backtick = record {
  setting = setting (record default_options { code_block_token = 43 }) 0 ([]);
  trees = node (CodeBlock (Fenced (codes "a`b"))) (text (codes "x\n") empty) empty;
  written = wrote ((codes "\n++++a`b\nx\n++++") ∷ []);
}

-- a short fence and the characters of an info string
abbrev pub a_short_fence_and_the_characters_of_an_info_string : Row
a_short_fence_and_the_characters_of_an_info_string = record {
  setting = setting (record default_options { code_block_token_count = 1 }) 0 ([]);
  trees = node (CodeBlock (Fenced (codes "a&b\\c"))) (text (codes "x\n") empty) empty;
  written = wrote ((codes "\n```a&amp;b\\\\c\nx\n```") ∷ []);
}

-- a bullet list in an ordered list in a bullet list
abbrev pub a_bullet_list_in_an_ordered_list_in_a_bullet_list : Row
a_bullet_list_in_an_ordered_list_in_a_bullet_list = record {
  setting = setting default_options 0 ([]);
  trees = node (ListOf None) (node Item (node (ListOf (Some 1)) (node Item (node (ListOf None) (node Item (text (codes
      "a") empty) empty) empty) empty) empty) empty) empty;
  written = wrote ((codes "* 1. - a") ∷ []);
}

-- three bullet lists in a row
abbrev pub three_bullet_lists_in_a_row : Row
three_bullet_lists_in_a_row = record {
  setting = setting default_options 0 ([]);
  trees = node (ListOf None) (node Item (text (codes "a") empty) empty) (node (ListOf None) (node Item (text (codes
      "b") empty) empty) (node (ListOf None) (node Item (text (codes "c") empty) empty) empty));
  written = wrote ((codes "* a") ∷ (codes "\n\n- b") ∷ (codes "\n\n* c") ∷ []);
}

-- two ordered lists in a row
abbrev pub two_ordered_lists_in_a_row : Row
two_ordered_lists_in_a_row = record {
  setting = setting default_options 0 ([]);
  trees = node (ListOf (Some 1)) (node Item (text (codes "a") empty) empty) (node (ListOf (Some 1)) (node Item (text
      (codes "b") empty) empty) empty);
  written = wrote ((codes "1. a") ∷ (codes "\n\n1) b") ∷ []);
}

-- an ordered list with the token of bullets, and a bullet list
abbrev pub an_ordered_list_with_the_token_of_bullets_and_a_bullet_list : Row
an_ordered_list_with_the_token_of_bullets_and_a_bullet_list = record {
  setting = setting (record default_options { ordered_list_token = 42 }) 0 ([]);
  trees = node (ListOf (Some 1)) (node Item (text (codes "a") empty) empty) (node (ListOf None) (node Item (text
      (codes "b") empty) empty) empty);
  written = wrote ((codes "1* a") ∷ (codes "\n\n* b") ∷ []);
}

-- a list of two items beside one with the reserved label
abbrev pub a_list_of_two_items_beside_one_with_the_reserved_label : Row
a_list_of_two_items_beside_one_with_the_reserved_label = record {
  setting = setting default_options 0 ([]);
  trees = node (BlockQuote None) (node (ListOf None) (node Item (node Paragraph (text (codes "x") empty) empty) empty)
      (node (ListOf None) (node Item (node Paragraph (text (codes "a") empty) empty) (node Item empty empty)) empty))
      empty;
  written = wrote ((codes "\n > \n > * [cmark-loose-1]: <>\n >   \n >   x\n > \n > - a\n > \n > - ") ∷ []);
}

-- an item with two paragraphs beside one with the reserved label
abbrev pub an_item_with_two_paragraphs_beside_one_with_the_reserved_label : Row
an_item_with_two_paragraphs_beside_one_with_the_reserved_label = record {
  setting = setting default_options 0 ([]);
  trees = node (BlockQuote None) (node (ListOf None) (node Item (node Paragraph (text (codes "x") empty) empty) empty)
      (node (ListOf None) (node Item (node Paragraph (text (codes "a") empty) (node Paragraph (text (codes "b") empty)
      empty)) empty) empty)) empty;
  written = wrote ((codes "\n > \n > * [cmark-loose-1]: <>\n >   \n >   x\n > \n > - a\n >   \n >   b") ∷ []);
}

-- an inner item with a text beside one with the reserved label
abbrev pub an_inner_item_with_a_text_beside_one_with_the_reserved_label : Row
an_inner_item_with_a_text_beside_one_with_the_reserved_label = record {
  setting = setting default_options 0 ([]);
  trees = node (BlockQuote None) (node (ListOf None) (node Item (node Paragraph (text (codes "x") empty) empty) empty)
      (node (ListOf None) (node Item (text (codes "y") (node (ListOf None) (node Item (text (codes "z") empty) empty)
      empty)) empty) empty)) empty;
  written = wrote ((codes "\n > \n > * [cmark-loose-1]: <>\n >   \n >   x\n > \n > - y\n >   * z") ∷ []);
}

-- an empty inner item before a heading
abbrev pub an_empty_inner_item_before_a_heading : Row
an_empty_inner_item_before_a_heading = record {
  setting = setting default_options 0 ([]);
  trees = node (BlockQuote None) (node (ListOf None) (node Item (node Paragraph (text (codes "x") empty) empty) empty)
      (node (ListOf None) (node Item (node Paragraph (text (codes "a") empty) (node (ListOf None) (node Item empty
      empty) (node (Heading level.H1 None ([]) ([])) (text (codes "h") empty) empty))) empty) empty)) empty;
  written = wrote ((codes
      "\n > \n > * [cmark-loose-1]: <>\n >   \n >   x\n > \n > - a\n >   \n >   * [cmark-loose-1]: <>\n >   # h")
      ∷ []);
}

-- an item with one heading beside one with the reserved label
abbrev pub an_item_with_one_heading_beside_one_with_the_reserved_label : Row
an_item_with_one_heading_beside_one_with_the_reserved_label = record {
  setting = setting default_options 0 ([]);
  trees = node (BlockQuote None) (node (ListOf None) (node Item (node Paragraph (text (codes "x") empty) empty) empty)
      (node (ListOf None) (node Item (node (Heading level.H1 None ([]) ([])) (text (codes "a") empty) empty) empty)
      empty)) empty;
  written = wrote ((codes "\n > \n > * [cmark-loose-1]: <>\n >   \n >   x\n > \n > - # a") ∷ []);
}

-- two paragraphs in a footnote
abbrev pub two_paragraphs_in_a_footnote : Row
two_paragraphs_in_a_footnote = record {
  setting = setting default_options 0 ([]);
  trees = node (FootnoteDefinition (codes "n")) (node Paragraph (text (codes "a") empty) (node Paragraph (text (codes
      "b") empty) empty)) empty;
  written = wrote ((codes "[^n]: a\n    \n    b") ∷ []);
}

-- a title at the start of an item
abbrev pub a_title_at_the_start_of_an_item : Row
a_title_at_the_start_of_an_item = record {
  setting = setting default_options 0 ([]);
  trees = node (ListOf None) (node Item (node DefinitionList (node DefinitionListTitle (text (codes "t") empty) empty)
      empty) empty) empty;
  written = wrote ((codes "* t") ∷ []);
}

-- a paragraph after a rule in a definition
abbrev pub a_paragraph_behind_a_rule_in_a_definition : Row
a_paragraph_behind_a_rule_in_a_definition = record {
  setting = setting default_options 0 ([]);
  trees = node DefinitionList (node DefinitionListTitle (text (codes "t") empty) (node DefinitionListDefinition (one
      Rule (node Paragraph (text (codes "b") empty) (node Paragraph (text (codes "c") empty) empty))) empty)) empty;
  written = wrote ((codes "t\n: ---\n  \n  b\n  \n  c\n") ∷ []);
}

-- metadata between plus signs
abbrev pub metadata_between_plus_signs : Row
metadata_between_plus_signs = record {
  setting = setting default_options 0 ([]);
  trees = node (MetadataBlock metadata.PlusesStyle) (text (codes "a\n") empty) (node Paragraph (text (codes "b")
      empty) empty);
  written = wrote ((codes "+++\na\n+++\n") ∷ (codes "\nb") ∷ []);
}

-- metadata between hyphens
abbrev pub metadata_between_hyphens : Row
metadata_between_hyphens = record {
  setting = setting default_options 0 ([]);
  trees = node (MetadataBlock metadata.YamlStyle) (text (codes "*a*\n") empty) (node Paragraph (text (codes "b")
      empty) empty);
  written = wrote ((codes "---\n*a*\n---\n") ∷ (codes "\nb") ∷ []);
}

-- indented code as the first block of an item
abbrev pub indented_code_as_the_first_block_of_an_item : Row
indented_code_as_the_first_block_of_an_item = record {
  setting = setting default_options 0 ([]);
  trees = node (ListOf None) (node Item (node (CodeBlock Indented) (text (codes "a\n") empty) empty) empty) empty;
  written = wrote ((codes "*     a\n") ∷ []);
}

-- an alert as the first block of an item
abbrev pub an_alert_as_the_first_block_of_an_item : Row
an_alert_as_the_first_block_of_an_item = record {
  setting = setting default_options 0 ([]);
  trees = node (ListOf None) (node Item (node (BlockQuote (Some quote.Tip)) (node Paragraph (text (codes "a") empty)
      empty) empty) empty) empty;
  written = wrote ((codes "* > [!TIP]\n   > a") ∷ []);
}

-- a subscript as HTML
abbrev pub a_subscript_as_html : Row
a_subscript_as_html = record {
  setting = setting (record default_options { use_html_for_super_sub_script = true }) 16384 ([]);
  trees = node Paragraph (node Subscript (text (codes "a") empty) empty) empty;
  written = wrote ((codes "<sub>a</sub>") ∷ []);
}

-- a superscript as HTML
abbrev pub a_superscript_as_html : Row
a_superscript_as_html = record {
  setting = setting (record default_options { use_html_for_super_sub_script = true }) 8192 ([]);
  trees = node Paragraph (node Superscript (text (codes "a") empty) empty) empty;
  written = wrote ((codes "<sup>a</sup>") ∷ []);
}

-- attributes of a heading
abbrev pub attributes_of_a_heading : Row
attributes_of_a_heading = record {
  setting = setting default_options 0 ([]);
  trees = node (Heading level.H2 (Some (codes "i")) ((codes "c") ∷ (codes "d") ∷ []) (((codes "k"), None)
      ∷ ((codes "l"), (Some (codes "v"))) ∷ [])) (text (codes "a") empty) empty;
  written = wrote ((codes "## a { #i .c .d k l=v }") ∷ []);
}

-- a heading with attributes over two lines
abbrev pub a_heading_with_attributes_over_two_lines : Row
a_heading_with_attributes_over_two_lines = record {
  setting = setting default_options 0 ([]);
  trees = node (Heading level.H1 (Some (codes "i")) ([]) (((codes "k"), (Some (codes "v")))
      ∷ [])) (text (codes "a") (one SoftBreak (text (codes "b") empty))) empty;
  written = wrote ((codes "a\nb { #i k=v }\n===") ∷ []);
}

-- numbers that go up
abbrev pub numbers_that_go_up : Row
numbers_that_go_up = record {
  setting = setting (record default_options { increment_ordered_list_bullets = true }) 0 ([]);
  trees = node (ListOf (Some 8)) (node Item (text (codes "a") empty) (node Item (text (codes "b") empty) empty))
      empty;
  written = wrote ((codes "8. a\n9. b") ∷ []);
}

-- columns of a table
abbrev pub columns_of_a_table : Row
columns_of_a_table = record {
  setting = setting default_options 0 ([]);
  trees = node (Table (alignment.None ∷ alignment.Left ∷ alignment.Center ∷ alignment.Right
      ∷ [])) (node TableHead (node TableCell (text (codes "a") empty) (node TableCell (text (codes "b") empty) (node
      TableCell (text (codes "c") empty) (node TableCell (text (codes "d") empty) empty)))) (node TableRow (node
      TableCell (text (codes "long") empty) (node TableCell empty (node TableCell empty (node TableCell empty
      empty)))) empty)) empty;
  written = wrote ((codes "|a|b|c|d|\n|-|:-|:-:|-:|\n|long||||") ∷ []);
}

-- a header of code and text
abbrev pub a_header_of_code_and_text : Row
a_header_of_code_and_text = record {
  setting = setting default_options 0 ([]);
  trees = node (Table (alignment.None ∷ [])) (node TableHead (node TableCell (one (Code (codes "a")) (text (codes
      "bc") empty)) empty) empty) empty;
  written = wrote ((codes "|`a`bc|\n|-----|") ∷ []);
}

-- all of these
abbrev pub rules_of_blocks : List Row
rules_of_blocks = a_long_run_in_a_child_of_a_fence ∷ an_instruction_before_a_paragraph
    ∷ a_tag_of_raw_text_in_capitals_before_a_paragraph ∷ a_tag_of_raw_text_with_an_attribute_before_a_paragraph
    ∷ a_tag_of_raw_text_alone_before_a_paragraph ∷ an_end_tag_in_capitals_before_a_paragraph
    ∷ an_open_comment_before_a_paragraph ∷ an_open_instruction_before_a_paragraph ∷ open_cdata_before_a_paragraph
    ∷ a_declaration_before_a_paragraph ∷ white_space_before_a_tag_before_a_paragraph
    ∷ white_space_before_a_comment_before_a_paragraph ∷ a_tag_that_is_no_raw_text_before_a_paragraph
    ∷ an_html_block_without_html_before_a_paragraph ∷ a_fence_of_a_token_of_one_s_own_before_a_backtick
    ∷ a_short_fence_and_the_characters_of_an_info_string ∷ a_bullet_list_in_an_ordered_list_in_a_bullet_list
    ∷ three_bullet_lists_in_a_row ∷ two_ordered_lists_in_a_row
    ∷ an_ordered_list_with_the_token_of_bullets_and_a_bullet_list
    ∷ a_list_of_two_items_beside_one_with_the_reserved_label
    ∷ an_item_with_two_paragraphs_beside_one_with_the_reserved_label
    ∷ an_inner_item_with_a_text_beside_one_with_the_reserved_label ∷ an_empty_inner_item_before_a_heading
    ∷ an_item_with_one_heading_beside_one_with_the_reserved_label ∷ two_paragraphs_in_a_footnote
    ∷ a_title_at_the_start_of_an_item ∷ a_paragraph_behind_a_rule_in_a_definition ∷ metadata_between_plus_signs
    ∷ metadata_between_hyphens ∷ indented_code_as_the_first_block_of_an_item ∷ an_alert_as_the_first_block_of_an_item
    ∷ a_subscript_as_html ∷ a_superscript_as_html ∷ attributes_of_a_heading ∷ a_heading_with_attributes_over_two_lines
    ∷ numbers_that_go_up ∷ columns_of_a_table ∷ a_header_of_code_and_text ∷ []
