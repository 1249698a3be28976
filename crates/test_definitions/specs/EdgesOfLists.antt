-- Lists at the edges of the rules, as they are written.
use Rattle.std.specs.Prelude.{[], ◌∷◌, List, codes, true, false, Some, None, encode_utf8_all}
use Rattle.tocmark_event.specs.Forest.{empty, node}
use Rattle.tocmark_event.specs.Options.{default_options}
use Rattle.tocmark_event.specs.View.{Indented, Fenced, Paragraph, BlockQuote, CodeBlock, HtmlBlock, ListOf, Item, Table, TableHead, TableCell, Emphasis, Text, Html, SoftBreak, Rule, Start, End, Leaf}
use Rattle.tocmark_event.specs.declared.options.Error.TheVariants.{Unrepresentable}
use Rattle.test_definitions.specs.Script.{wrote, text, one, setting, reading_of, Row}
use Rattle.tocmark_event.specs.declared.event.Alignment.TheVariants as alignment
use Rattle.tocmark_event.specs.declared.event.TagEnd.TheVariants as end

-- placeholder: a block before the first, empty Item
abbrev pub placeholder_a_block_before_the_first_empty_item : Row
placeholder_a_block_before_the_first_empty_item = record {
  setting = setting default_options 0 [];
  trees = node Paragraph (text (codes "x") empty)
      (node (ListOf None) (one Rule empty)
      (node (ListOf None)
      (node Item
      (text (codes "a")
      (node (ListOf None) (node Paragraph (text (codes "q") empty) (node Item empty empty)) empty))
      empty)
      empty));
  written = wrote ((codes "x") ∷ (codes "\n\n---") ∷ (codes "\n\n- a\n  q\n  * ") ∷ []);
}

-- placeholder: one Item and a Paragraph beside it
abbrev pub placeholder_one_item_and_a_paragraph_beside_it : Row
placeholder_one_item_and_a_paragraph_beside_it = record {
  setting = setting default_options 0 [];
  trees = node (ListOf None)
      (node Paragraph (text (codes "q") empty) (node Item (node Paragraph (text (codes "a") empty) empty) empty))
      empty;
  written = wrote ((codes "q\n\n* a") ∷ []);
}

-- placeholder: empty Item, list labelled by another child, one List open
abbrev pub placeholder_empty_item_list_labelled_by_another_child_one_list_open : Row
placeholder_empty_item_list_labelled_by_another_child_one_list_open = record {
  setting = setting default_options 0
      ((
        0,
        (codes "\n\n- [cmark-loose-1]: <>\n  \n  z"),
        reading_of
            (Start (ListOf None)
            ∷ Start Item
            ∷ Start Paragraph
            ∷ Leaf (Text (codes "z"))
            ∷ End end.Paragraph
            ∷ End end.Item
            ∷ End (end.List false)
            ∷ [])
            ((codes "cmark-loose-1") ∷ [])
            [],
      )
      ∷ []);
  trees = node (ListOf None)
      (node Item empty (node (BlockQuote None) (node Paragraph (text (codes "a") empty) empty) empty))
      (node (ListOf None) (node Item (node Paragraph (text (codes "z") empty) empty) empty) empty);
  written = wrote ((codes "* \n > \n > a") ∷ (codes "\n\n- [cmark-loose-1]: <>\n  \n  z") ∷ []);
}

-- placeholder: empty Item in the labelled list, one List
abbrev pub placeholder_empty_item_in_the_labelled_list_one_list : Row
placeholder_empty_item_in_the_labelled_list_one_list = record {
  setting = setting default_options 0
      ((
        0,
        (codes "\n\n- [cmark-loose-1]: <>\n  \n  z\n\nk"),
        reading_of
            (Start (ListOf None)
            ∷ Start Item
            ∷ Start Paragraph
            ∷ Leaf (Text (codes "z"))
            ∷ End end.Paragraph
            ∷ End end.Item
            ∷ End (end.List false)
            ∷ Start Paragraph
            ∷ Leaf (Text (codes "k"))
            ∷ End end.Paragraph
            ∷ [])
            ((codes "cmark-loose-1") ∷ [])
            [],
      )
      ∷ []);
  trees = node (ListOf None)
      (node Item empty (node (BlockQuote None) (node Paragraph (text (codes "a") empty) empty) empty))
      (node (ListOf None)
      (node Item (node Paragraph (text (codes "z") empty) empty) empty)
      (node Paragraph (text (codes "k") empty) empty));
  written = wrote ((codes "* \n > \n > a") ∷ (codes "\n\n- [cmark-loose-1]: <>\n  \n  z\n\nk") ∷ []);
}

-- html leaf in an item makes it tight
abbrev pub html_leaf_in_an_item_makes_it_tight : Row
html_leaf_in_an_item_makes_it_tight = record {
  setting = setting default_options 0 [];
  trees = node (ListOf None)
      (node Item
      (one (Html (codes "<b>\n")) (node Paragraph (text (codes "a") empty) empty))
      (node Item (one (Html (codes "<b>\n")) empty) empty))
      empty;
  written = wrote ((codes "* <b>\n  a\n\n* <b>\n") ∷ []);
}

-- wide list before indented code
abbrev pub wide_list_before_indented_code : Row
wide_list_before_indented_code = record {
  setting = setting default_options 0 [];
  trees = node (ListOf None)
      (node Item (text (codes "a") empty) empty)
      (node (CodeBlock Indented) (text (codes "x\n") empty) empty);
  written = wrote ((codes "   *    a") ∷ (codes "\n\n    x\n") ∷ []);
}

-- wide list, item with two lines
abbrev pub wide_list_item_with_two_lines : Row
wide_list_item_with_two_lines = record {
  setting = setting default_options 0 [];
  trees = node (ListOf None)
      (node Item (text (codes "a") (one SoftBreak (text (codes "b") empty))) empty)
      (node (CodeBlock Indented) (text (codes "x\n") empty) empty);
  written = wrote ((codes "   *    a\n        b") ∷ (codes "\n\n    x\n") ∷ []);
}

-- list as last child of a quote, code after the quote
abbrev pub list_as_last_child_of_a_quote_code_after_the_quote : Row
list_as_last_child_of_a_quote_code_after_the_quote = record {
  setting = setting default_options 0 [];
  trees = node (BlockQuote None)
      (node (ListOf None) (node Item (text (codes "a") empty) empty) empty)
      (node (CodeBlock Indented) (text (codes "x\n") empty) empty);
  written = wrote ((codes "\n > \n > * a") ∷ (codes "\n\n    x\n") ∷ []);
}

-- ordered list far above the limit
abbrev pub ordered_list_far_above_the_limit : Row
ordered_list_far_above_the_limit = record {
  setting = setting (record default_options { increment_ordered_list_bullets = true }) 0 [];
  trees = node (ListOf (Some 5000000000))
      (node Item (text (codes "a") empty)
      (node Item (text (codes "b") empty) (node Item (text (codes "c") empty) empty)))
      empty;
  written = wrote ((codes "5000000000. a\n999999999. b\n999999999. c") ∷ []);
}

-- two-byte list token
abbrev pub two_byte_list_token : Row
two_byte_list_token = record {
  setting = setting (record default_options { list_token = 233 }) 0 [];
  trees = node (ListOf None) (node Item (text (codes "a") (one SoftBreak (text (codes "b") empty))) empty) empty;
  written = wrote ((encode_utf8_all (codes "é a\n   b")) ∷ []);
}

-- waiting unit with delimiters
abbrev pub waiting_unit_with_delimiters : Row
waiting_unit_with_delimiters = record {
  setting = setting default_options 0
      ((
        0,
        (codes "* [cmark-loose-1]: <>\n  \n  a\n\n*b*"),
        reading_of
            (Start (ListOf None)
            ∷ Start Item
            ∷ Start Paragraph
            ∷ Leaf (Text (codes "a"))
            ∷ End end.Paragraph
            ∷ End end.Item
            ∷ End (end.List false)
            ∷ Start Paragraph
            ∷ Start Emphasis
            ∷ Leaf (Text (codes "b"))
            ∷ End end.Emphasis
            ∷ End end.Paragraph
            ∷ [])
            ((codes "cmark-loose-1") ∷ [])
            [],
      )
      ∷ []);
  trees = node (ListOf None)
      (node Item (node Paragraph (text (codes "a") empty) empty) empty)
      (node Paragraph (node Emphasis (text (codes "b") empty) empty) empty);
  written = wrote ((codes "* [cmark-loose-1]: <>\n  \n  a\n\n*b*") ∷ []);
}

-- waiting unit that cannot be read back
abbrev pub waiting_unit_that_cannot_be_read_back : Row
waiting_unit_that_cannot_be_read_back = record {
  setting = setting default_options 0
      ((
        0,
        (codes "* [cmark-loose-1]: <>\n  \n  a\n\n*b *"),
        reading_of
            (Start (ListOf None)
            ∷ Start Item
            ∷ Start Paragraph
            ∷ Leaf (Text (codes "a"))
            ∷ End end.Paragraph
            ∷ End end.Item
            ∷ End (end.List false)
            ∷ Start Paragraph
            ∷ Leaf (Text (codes "*b *"))
            ∷ End end.Paragraph
            ∷ [])
            ((codes "cmark-loose-1") ∷ [])
            [],
      )
      ∷ (
        0,
        (codes "* [cmark-loose-1]: <>\n  \n  a\n\n_b _"),
        reading_of
            (Start (ListOf None)
            ∷ Start Item
            ∷ Start Paragraph
            ∷ Leaf (Text (codes "a"))
            ∷ End end.Paragraph
            ∷ End end.Item
            ∷ End (end.List false)
            ∷ Start Paragraph
            ∷ Leaf (Text (codes "_b _"))
            ∷ End end.Paragraph
            ∷ [])
            ((codes "cmark-loose-1") ∷ [])
            [],
      )
      ∷ []);
  trees = node (ListOf None)
      (node Item (node Paragraph (text (codes "a") empty) empty) empty)
      (node Paragraph (node Emphasis (text (codes "b ") empty) empty) empty);
  written = record { texts = []; error = Some Unrepresentable };
}

-- waiting unit without delimiters that cannot be read back
abbrev pub waiting_unit_without_delimiters_that_cannot_be_read_back : Row
waiting_unit_without_delimiters_that_cannot_be_read_back = record {
  setting = setting default_options 0
      ((
        0,
        (codes "* [cmark-loose-1]: <>\n  \n  a\n\nb "),
        reading_of
            (Start (ListOf None)
            ∷ Start Item
            ∷ Start Paragraph
            ∷ Leaf (Text (codes "a"))
            ∷ End end.Paragraph
            ∷ End end.Item
            ∷ End (end.List false)
            ∷ Start Paragraph
            ∷ Leaf (Text (codes "b"))
            ∷ End end.Paragraph
            ∷ [])
            ((codes "cmark-loose-1") ∷ [])
            [],
      )
      ∷ []);
  trees = node (ListOf None)
      (node Item (node Paragraph (text (codes "a") empty) empty) empty)
      (node Paragraph (text (codes "b ") empty) empty);
  written = wrote ((codes "* [cmark-loose-1]: <>\n  \n  a\n\nb ") ∷ []);
}

-- text directly in a list
abbrev pub text_directly_in_a_list : Row
text_directly_in_a_list = record {
  setting = setting default_options 0 [];
  trees = node (ListOf None) (text (codes "a") (node Item (text (codes "b") empty) empty)) empty;
  written = wrote ((codes "a\n* b") ∷ []);
}

-- list directly in a list
abbrev pub list_directly_in_a_list : Row
list_directly_in_a_list = record {
  setting = setting default_options 0 [];
  trees = node (ListOf None) (node (ListOf None) (node Item (text (codes "a") empty) empty) empty) empty;
  written = wrote ((codes "\n* a") ∷ []);
}

-- two lists in a list
abbrev pub two_lists_in_a_list : Row
two_lists_in_a_list = record {
  setting = setting default_options 0 [];
  trees = node (ListOf None)
      (node (ListOf None)
      (node Item (text (codes "a") empty) empty)
      (node (ListOf None) (node Item (text (codes "b") empty) empty) empty))
      empty;
  written = wrote ((codes "\n* a\n- b") ∷ []);
}

-- empty list then a list
abbrev pub empty_list_then_a_list : Row
empty_list_then_a_list = record {
  setting = setting default_options 0 [];
  trees = node (ListOf None) empty (node (ListOf None) (node Item (text (codes "a") empty) empty) empty);
  written = wrote ((codes "\n\n- a") ∷ []);
}

-- list after a list of another kind
abbrev pub list_after_a_list_of_another_kind : Row
list_after_a_list_of_another_kind = record {
  setting = setting default_options 0 [];
  trees = node (ListOf None)
      (node Item (text (codes "a") empty) empty)
      (node (ListOf (Some 1))
      (node Item (text (codes "b") empty) empty)
      (node (ListOf None) (node Item (text (codes "c") empty) empty) empty));
  written = wrote ((codes "* a") ∷ (codes "\n\n1. b") ∷ (codes "\n\n* c") ∷ []);
}

-- depth of the last list: a list in a quote, then a list
abbrev pub depth_of_the_last_list_a_list_in_a_quote_then_a_list : Row
depth_of_the_last_list_a_list_in_a_quote_then_a_list = record {
  setting = setting default_options 0 [];
  trees = node (BlockQuote None)
      (node (ListOf None) (node Item (text (codes "a") empty) empty) empty)
      (node (ListOf None) (node Item (text (codes "b") empty) empty) empty);
  written = wrote ((codes "\n > \n > * a") ∷ (codes "\n\n* b") ∷ []);
}

-- empty item of a labelled list under a reserved label
abbrev pub empty_item_of_a_labelled_list_under_a_reserved_label : Row
empty_item_of_a_labelled_list_under_a_reserved_label = record {
  setting = setting default_options 0
      ((
        0,
        (codes "* [cmark-loose-1]: <>\n  \n  z\n\n- [cmark-loose-1]: <>\n\n > \n > a\n\nk"),
        reading_of
            (Start (ListOf None)
            ∷ Start Item
            ∷ Start Paragraph
            ∷ Leaf (Text (codes "z"))
            ∷ End end.Paragraph
            ∷ End end.Item
            ∷ End (end.List false)
            ∷ Start (ListOf None)
            ∷ Start Item
            ∷ End end.Item
            ∷ End (end.List false)
            ∷ Start (BlockQuote None)
            ∷ Start Paragraph
            ∷ Leaf (Text (codes "a"))
            ∷ End end.Paragraph
            ∷ End (end.BlockQuote None)
            ∷ Start Paragraph
            ∷ Leaf (Text (codes "k"))
            ∷ End end.Paragraph
            ∷ [])
            ((codes "cmark-loose-1") ∷ [])
            [],
      )
      ∷ []);
  trees = node (ListOf None)
      (node Item (node Paragraph (text (codes "z") empty) empty) empty)
      (node (ListOf None)
      (node Item empty (node (BlockQuote None) (node Paragraph (text (codes "a") empty) empty) empty))
      (node Paragraph (text (codes "k") empty) empty));
  written = wrote ((codes "* [cmark-loose-1]: <>\n  \n  z\n\n- [cmark-loose-1]: <>\n\n > \n > a\n\nk") ∷ []);
}

-- empty item, two Lists open, under a reserved label
abbrev pub empty_item_two_lists_open_under_a_reserved_label : Row
empty_item_two_lists_open_under_a_reserved_label = record {
  setting = setting default_options 0
      ((
        0,
        (codes "* z\n  * [cmark-loose-1]: <>\n\nk"),
        reading_of
            (Start (ListOf None)
            ∷ Start Item
            ∷ Leaf (Text (codes "z"))
            ∷ Start (ListOf None)
            ∷ Start Item
            ∷ End end.Item
            ∷ End (end.List false)
            ∷ End end.Item
            ∷ End (end.List false)
            ∷ Start Paragraph
            ∷ Leaf (Text (codes "k"))
            ∷ End end.Paragraph
            ∷ [])
            ((codes "cmark-loose-1") ∷ [])
            [],
      )
      ∷ []);
  trees = node (ListOf None)
      (node Item (text (codes "z") (node (ListOf None) (node Item empty empty) empty)) empty)
      (node Paragraph (text (codes "k") empty) empty);
  written = wrote ((codes "* z\n  * [cmark-loose-1]: <>\n\nk") ∷ []);
}

-- quote line and an Item that starts
abbrev pub quote_line_and_an_item_that_starts : Row
quote_line_and_an_item_that_starts = record {
  setting = setting default_options 0 [];
  trees = node (ListOf None)
      (node Item
      (text (codes "a") (node (BlockQuote None) (node Paragraph (text (codes "b") empty) empty) empty))
      (node Item (text (codes "c") empty) empty))
      empty;
  written = wrote ((codes "* a\n   > \n   > b\n* c") ∷ []);
}

-- nested list ends in an empty item, then indented code
abbrev pub nested_list_ends_in_an_empty_item_then_indented_code : Row
nested_list_ends_in_an_empty_item_then_indented_code = record {
  setting = setting default_options 0
      ((
        0,
        (codes "* a\n     *    [cmark-loose-1]: <>\n  \n      x\n"),
        reading_of
            (Start (ListOf None)
            ∷ Start Item
            ∷ Start Paragraph
            ∷ Leaf (Text (codes "a"))
            ∷ End end.Paragraph
            ∷ Start (ListOf None)
            ∷ Start Item
            ∷ End end.Item
            ∷ End (end.List false)
            ∷ Start (CodeBlock Indented)
            ∷ Leaf (Text (codes "x\n"))
            ∷ End end.CodeBlock
            ∷ End end.Item
            ∷ End (end.List false)
            ∷ [])
            ((codes "cmark-loose-1") ∷ [])
            [],
      )
      ∷ []);
  trees = node (ListOf None)
      (node Item
      (text (codes "a")
      (node (ListOf None) (node Item empty empty) (node (CodeBlock Indented) (text (codes "x\n") empty) empty)))
      empty)
      empty;
  written = wrote ((codes "* a\n     *    [cmark-loose-1]: <>\n  \n      x\n") ∷ []);
}

-- nested list ends in a paragraph, then a table
abbrev pub nested_list_ends_in_a_paragraph_then_a_table : Row
nested_list_ends_in_a_paragraph_then_a_table = record {
  setting = setting default_options 0 [];
  trees = node (ListOf None)
      (node Item
      (text (codes "a")
      (node (ListOf None)
      (node Item (text (codes "b") empty) empty)
      (node (Table (alignment.None ∷ []))
      (node TableHead (node TableCell (text (codes "h") empty) empty) empty)
      empty)))
      empty)
      empty;
  written = wrote ((codes "* a\n  * b\n  \n  |h|\n  |-|") ∷ []);
}

-- nested list ends in code, then a table
abbrev pub nested_list_ends_in_code_then_a_table : Row
nested_list_ends_in_code_then_a_table = record {
  setting = setting default_options 0 [];
  trees = node (ListOf None)
      (node Item
      (text (codes "a")
      (node (ListOf None)
      (node Item (node (CodeBlock (Fenced [])) (text (codes "x\n") empty) empty) empty)
      (node (Table (alignment.None ∷ []))
      (node TableHead (node TableCell (text (codes "h") empty) empty) empty)
      empty)))
      empty)
      empty;
  written = wrote ((codes "* a\n  * ````\n    x\n    ````\n  |h|\n  |-|") ∷ []);
}

-- nested list then a paragraph
abbrev pub nested_list_then_a_paragraph : Row
nested_list_then_a_paragraph = record {
  setting = setting default_options 0 [];
  trees = node (ListOf None)
      (node Item
      (text (codes "a")
      (node (ListOf None) (node Item (text (codes "b") empty) empty) (node Paragraph (text (codes "c") empty) empty)))
      empty)
      empty;
  written = wrote ((codes "* a\n  * b\n  \n  c") ∷ []);
}

-- nested list then text
abbrev pub nested_list_then_text : Row
nested_list_then_text = record {
  setting = setting default_options 0 [];
  trees = node (ListOf None)
      (node Item
      (text (codes "a") (node (ListOf None) (node Item (text (codes "b") empty) empty) (text (codes "c") empty)))
      empty)
      empty;
  written = wrote ((codes "* a\n  * b\n  c") ∷ []);
}

-- loose list of blocks
abbrev pub loose_list_of_blocks : Row
loose_list_of_blocks = record {
  setting = setting default_options 0 [];
  trees = node (ListOf None)
      (node Item (node (CodeBlock (Fenced [])) (text (codes "x\n") empty) empty) (node Item (one Rule empty) empty))
      empty;
  written = wrote ((codes "* ````\n  x\n  ````\n\n* ---") ∷ []);
}

-- open html in an item, then an item
abbrev pub open_html_in_an_item_then_an_item : Row
open_html_in_an_item_then_an_item = record {
  setting = setting default_options 0 [];
  trees = node (ListOf None)
      (node Item
      (text (codes "a") (node HtmlBlock (one (Html (codes "<!-- x\n")) empty) empty))
      (node Item (text (codes "b") empty) empty))
      empty;
  written = wrote ((codes "* a\n  <!-- x\n* b") ∷ []);
}

-- list from 0 and increment
abbrev pub list_from_0_and_increment : Row
list_from_0_and_increment = record {
  setting = setting (record default_options { increment_ordered_list_bullets = true }) 0 [];
  trees = node (ListOf (Some 0)) (node Item (text (codes "a") empty) (node Item (text (codes "b") empty) empty)) empty;
  written = wrote ((codes "0. a\n1. b") ∷ []);
}

-- rule before and inside a dash list
abbrev pub rule_before_and_inside_a_dash_list : Row
rule_before_and_inside_a_dash_list = record {
  setting = setting (record default_options { list_token = 45 }) 0 [];
  trees = node (ListOf None) (node Item (text (codes "a") (one Rule empty)) (node Item (one Rule empty) empty)) empty;
  written = wrote ((codes "- a\n  ***\n- ***") ∷ []);
}

-- all of these
abbrev pub edges_of_lists : List Row
edges_of_lists = placeholder_a_block_before_the_first_empty_item
    ∷ placeholder_one_item_and_a_paragraph_beside_it
    ∷ placeholder_empty_item_list_labelled_by_another_child_one_list_open
    ∷ placeholder_empty_item_in_the_labelled_list_one_list
    ∷ html_leaf_in_an_item_makes_it_tight
    ∷ wide_list_before_indented_code
    ∷ wide_list_item_with_two_lines
    ∷ list_as_last_child_of_a_quote_code_after_the_quote
    ∷ ordered_list_far_above_the_limit
    ∷ two_byte_list_token
    ∷ waiting_unit_with_delimiters
    ∷ waiting_unit_that_cannot_be_read_back
    ∷ waiting_unit_without_delimiters_that_cannot_be_read_back
    ∷ text_directly_in_a_list
    ∷ list_directly_in_a_list
    ∷ two_lists_in_a_list
    ∷ empty_list_then_a_list
    ∷ list_after_a_list_of_another_kind
    ∷ depth_of_the_last_list_a_list_in_a_quote_then_a_list
    ∷ empty_item_of_a_labelled_list_under_a_reserved_label
    ∷ empty_item_two_lists_open_under_a_reserved_label
    ∷ quote_line_and_an_item_that_starts
    ∷ nested_list_ends_in_an_empty_item_then_indented_code
    ∷ nested_list_ends_in_a_paragraph_then_a_table
    ∷ nested_list_ends_in_code_then_a_table
    ∷ nested_list_then_a_paragraph
    ∷ nested_list_then_text
    ∷ loose_list_of_blocks
    ∷ open_html_in_an_item_then_an_item
    ∷ list_from_0_and_increment
    ∷ rule_before_and_inside_a_dash_list
    ∷ []
