-- Quotes, lists, code and HTML, as they are written.
use Rattle.std.specs.Prelude.{[], ◌∷◌, List, codes, true, Some, None}
use Rattle.tocmark_event.specs.Forest.{empty, node}
use Rattle.tocmark_event.specs.Options.{default_options}
use Rattle.tocmark_event.specs.View.{Indented, Fenced, Paragraph, BlockQuote, CodeBlock, HtmlBlock, ListOf, Item, Html, Rule}
use Rattle.tocmark_event.specs.declared.options.Error.TheVariants.{UnexpectedEvent}
use Rattle.test_definitions.specs.Script.{wrote, text, one, setting, Row}

-- a quote begins with a line of its own
abbrev pub quote : Row
quote = record {
  setting = setting default_options 0 [];
  trees = node (BlockQuote None) (node Paragraph (text (codes "a") empty) empty) empty;
  written = wrote ((codes "\n > \n > a") ∷ []);
}

-- the numbers of an ordered list stop at 999999999
abbrev pub numbers_stop : Row
numbers_stop = record {
  setting = setting (record default_options { increment_ordered_list_bullets = true }) 0 [];
  trees = node (ListOf (Some 999999999))
      (node Item (text (codes "a") empty) (node Item (text (codes "b") empty) empty))
      empty;
  written = wrote ((codes "999999999. a\n999999999. b") ∷ []);
}

-- a fence without text
abbrev pub empty_fence : Row
empty_fence = record {
  setting = setting default_options 0 [];
  trees = node (CodeBlock (Fenced [])) empty empty;
  written = wrote ((codes "\n````\n````") ∷ []);
}

-- a list after a list of the same kind changes its token
abbrev pub lists_in_a_row : Row
lists_in_a_row = record {
  setting = setting default_options 0 [];
  trees = node (ListOf None)
      (node Item (text (codes "a") empty) empty)
      (node (ListOf None) (node Item (text (codes "b") empty) empty) empty);
  written = wrote ((codes "* a") ∷ (codes "\n\n- b") ∷ []);
}

-- an HTML block that a blank line ends
abbrev pub html_block : Row
html_block = record {
  setting = setting default_options 0 [];
  trees = node HtmlBlock (one (Html (codes "<b>\n")) empty) (node Paragraph (text (codes "a") empty) empty);
  written = wrote ((codes "<b>\n") ∷ (codes "\na") ∷ []);
}

-- a list in an item
abbrev pub inner_list : Row
inner_list = record {
  setting = setting default_options 0 [];
  trees = node (ListOf None)
      (node Item (text (codes "a") (node (ListOf None) (node Item (text (codes "b") empty) empty) empty)) empty)
      empty;
  written = wrote ((codes "* a\n  * b") ∷ []);
}

-- a list right after the marker of an item changes its token
abbrev pub list_behind_marker : Row
list_behind_marker = record {
  setting = setting default_options 0 [];
  trees = node (ListOf None)
      (node Item (node (ListOf None) (node Item (text (codes "a") empty) empty) empty) empty)
      empty;
  written = wrote ((codes "* - a") ∷ []);
}

-- an item in no list is refused
abbrev pub item_alone : Row
item_alone = record {
  setting = setting default_options 0 [];
  trees = node Item (text (codes "a") empty) empty;
  written = record { texts = []; error = Some UnexpectedEvent };
}

-- the blank line in a quote has the prefix
abbrev pub quote_with_two_paragraphs : Row
quote_with_two_paragraphs = record {
  setting = setting default_options 0 [];
  trees = node (BlockQuote None)
      (node Paragraph (text (codes "a") empty) (node Paragraph (text (codes "b") empty) empty))
      empty;
  written = wrote ((codes "\n > \n > a\n > \n > b") ∷ []);
}

-- a paragraph after a quote
abbrev pub quote_then_paragraph : Row
quote_then_paragraph = record {
  setting = setting default_options 0 [];
  trees = node (BlockQuote None)
      (node Paragraph (text (codes "a") empty) empty)
      (node Paragraph (text (codes "b") empty) empty);
  written = wrote ((codes "\n > \n > a") ∷ (codes "\n\nb") ∷ []);
}

-- a blank line is between the items of a loose list
abbrev pub loose_list : Row
loose_list = record {
  setting = setting default_options 0 [];
  trees = node (ListOf None)
      (node Item
      (node Paragraph (text (codes "a") empty) empty)
      (node Item (node Paragraph (text (codes "b") empty) empty) empty))
      empty;
  written = wrote ((codes "* a\n\n* b") ∷ []);
}

-- a quote right after the marker of an item
abbrev pub quote_in_item : Row
quote_in_item = record {
  setting = setting default_options 0 [];
  trees = node (ListOf None)
      (node Item (node (BlockQuote None) (node Paragraph (text (codes "a") empty) empty) empty) empty)
      empty;
  written = wrote ((codes "* > a") ∷ []);
}

-- a thematic break right after a hyphen
abbrev pub rule_in_hyphen_list : Row
rule_in_hyphen_list = record {
  setting = setting (record default_options { list_token = 45 }) 0 [];
  trees = node (ListOf None) (node Item (one Rule empty) empty) empty;
  written = wrote ((codes "- ***") ∷ []);
}

-- numbers that do not go up
abbrev pub equal_numbers : Row
equal_numbers = record {
  setting = setting default_options 0 [];
  trees = node (ListOf (Some 1)) (node Item (text (codes "a") empty) (node Item (text (codes "b") empty) empty)) empty;
  written = wrote ((codes "1. a\n1. b") ∷ []);
}

-- a fence is longer than the runs in its text
abbrev pub long_fence : Row
long_fence = record {
  setting = setting default_options 0 [];
  trees = node (CodeBlock (Fenced [])) (text (codes "````\n") empty) empty;
  written = wrote ((codes "\n`````\n````\n`````") ∷ []);
}

-- an info string with a backtick takes the other fence
abbrev pub backtick_in_info : Row
backtick_in_info = record {
  setting = setting default_options 0 [];
  trees = node (CodeBlock (Fenced (codes "a`b"))) (text (codes "x\n") empty) empty;
  written = wrote ((codes "\n~~~~a`b\nx\n~~~~") ∷ []);
}

-- code that does not end its last line has no closing fence
abbrev pub open_line_in_fence : Row
open_line_in_fence = record {
  setting = setting default_options 0 [];
  trees = node (CodeBlock (Fenced [])) (text (codes "x") empty) empty;
  written = wrote ((codes "\n````\nx") ∷ []);
}

-- indented code
abbrev pub indented_code : Row
indented_code = record {
  setting = setting default_options 0 [];
  trees = node (CodeBlock Indented) (text (codes "x\n") empty) empty;
  written = wrote ((codes "\n    x\n") ∷ []);
}

-- a thematic break between paragraphs
abbrev pub rule_between_paragraphs : Row
rule_between_paragraphs = record {
  setting = setting default_options 0 [];
  trees = node Paragraph (text (codes "a") empty) (one Rule (node Paragraph (text (codes "b") empty) empty));
  written = wrote ((codes "a") ∷ (codes "\n\n---") ∷ (codes "\n\nb") ∷ []);
}

-- all of these
abbrev pub blocks : List Row
blocks = quote
    ∷ numbers_stop
    ∷ empty_fence
    ∷ lists_in_a_row
    ∷ html_block
    ∷ inner_list
    ∷ list_behind_marker
    ∷ item_alone
    ∷ quote_with_two_paragraphs
    ∷ quote_then_paragraph
    ∷ loose_list
    ∷ quote_in_item
    ∷ rule_in_hyphen_list
    ∷ equal_numbers
    ∷ long_fence
    ∷ backtick_in_info
    ∷ open_line_in_fence
    ∷ indented_code
    ∷ rule_between_paragraphs
    ∷ []
