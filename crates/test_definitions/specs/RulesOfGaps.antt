-- Rules of gaps and open containers, as they show in what is written.
use Rattle.std.specs.Prelude.{[], ◌∷◌, codes, None, List}
use Rattle.tocmark_event.specs.Forest.{empty, node}
use Rattle.tocmark_event.specs.Options.{default_options}
use Rattle.tocmark_event.specs.View.{Indented, Fenced, Paragraph, BlockQuote, CodeBlock, HtmlBlock, ListOf, Item, FootnoteDefinition, DefinitionList, DefinitionListTitle, DefinitionListDefinition, Table, TableHead, TableCell, Html}
use Rattle.tocmark_event.specs.declared.event.Alignment.TheVariants as alignment
use Rattle.test_definitions.specs.Script.{wrote, text, one, setting, Row}

-- a list after a paragraph has the same token as the list before it
abbrev pub a_list_behind_a_paragraph_has_the_same_token_as_the_list_before_it : Row
a_list_behind_a_paragraph_has_the_same_token_as_the_list_before_it = record {
  setting = setting default_options 0 ([]);
  trees = node (ListOf None) (node Item (text (codes "a") empty) empty) (node Paragraph (text (codes "p") empty) (node
      (ListOf None) (node Item (text (codes "b") empty) empty) empty));
  written = wrote ((codes "* a") ∷ (codes "\n\np") ∷ (codes "\n\n* b") ∷ []);
}

-- titles of a definition list
abbrev pub titles_of_a_definition_list : Row
titles_of_a_definition_list = record {
  setting = setting default_options 0 ([]);
  trees = node DefinitionList (node DefinitionListTitle (text (codes "a") empty) (node DefinitionListDefinition (text
      (codes "b") empty) (node DefinitionListTitle (text (codes "c") empty) (node DefinitionListDefinition (text
      (codes "d") empty) empty)))) empty;
  written = wrote ((codes "a\n: b\n\nc\n: d\n") ∷ []);
}

-- two definition lists in a tight item
abbrev pub two_definition_lists_in_a_tight_item : Row
two_definition_lists_in_a_tight_item = record {
  setting = setting default_options 0 ([]);
  trees = node (ListOf None) (node Item (text (codes "x") (node DefinitionList (node DefinitionListTitle (text (codes
      "a") empty) (node DefinitionListDefinition (text (codes "b") empty) empty)) (node DefinitionList (node
      DefinitionListTitle (text (codes "c") empty) (node DefinitionListDefinition (text (codes "d") empty) empty))
      empty))) empty) empty;
  written = wrote ((codes "* x\n  a\n  : b\n  \n  c\n  : d\n") ∷ []);
}

-- two tables in a tight item
abbrev pub two_tables_in_a_tight_item : Row
two_tables_in_a_tight_item = record {
  setting = setting default_options 0 ([]);
  trees = node (ListOf None) (node Item (text (codes "x") (node (Table (alignment.None
      ∷ [])) (node TableHead (node TableCell (text (codes "a") empty) empty) empty) (node (Table (alignment.None
      ∷ [])) (node TableHead (node TableCell (text (codes "b") empty) empty) empty) empty))) empty) empty;
  written = wrote ((codes "* x\n  |a|\n  |-|\n  \n  |b|\n  |-|") ∷ []);
}

-- a footnote and indented code in a tight item
abbrev pub a_footnote_and_indented_code_in_a_tight_item : Row
a_footnote_and_indented_code_in_a_tight_item = record {
  setting = setting default_options 0 ([]);
  trees = node (ListOf None) (node Item (text (codes "x") (node (FootnoteDefinition (codes "n")) (text (codes "a")
      empty) (node (CodeBlock Indented) (text (codes "b\n") empty) empty))) empty) empty;
  written = wrote ((codes "* x\n  [^n]: a\n  \n      b\n") ∷ []);
}

-- a footnote with a text, and a paragraph
abbrev pub a_footnote_with_a_text_and_a_paragraph : Row
a_footnote_with_a_text_and_a_paragraph = record {
  setting = setting default_options 0 ([]);
  trees = node (FootnoteDefinition (codes "n")) (text (codes "a") empty) (node Paragraph (text (codes "b") empty)
      empty);
  written = wrote ((codes "[^n]: a") ∷ (codes "\n\nb") ∷ []);
}

-- a footnote with a text, and a text
abbrev pub a_footnote_with_a_text_and_a_text : Row
a_footnote_with_a_text_and_a_text = record {
  setting = setting default_options 0 ([]);
  trees = node (FootnoteDefinition (codes "n")) (text (codes "a") empty) (text (codes "b") empty);
  written = wrote ((codes "[^n]: a") ∷ (codes "\n\nb") ∷ []);
}

-- a list in a footnote
abbrev pub a_list_in_a_footnote : Row
a_list_in_a_footnote = record {
  setting = setting default_options 0 ([]);
  trees = node (FootnoteDefinition (codes "n")) (node (ListOf None) (node Item (text (codes "a") empty) empty) empty)
      empty;
  written = wrote ((codes "[^n]: * a") ∷ []);
}

-- a quote in an inner item, and the next item
abbrev pub a_quote_in_an_inner_item_and_the_next_item : Row
a_quote_in_an_inner_item_and_the_next_item = record {
  setting = setting default_options 0 ([]);
  trees = node (ListOf None) (node Item (text (codes "x") (node (ListOf None) (node Item (text (codes "a") (node
      (BlockQuote None) (node Paragraph (text (codes "q") empty) empty) empty)) (node Item (text (codes "b") empty)
      empty)) empty)) empty) empty;
  written = wrote ((codes "* x\n  * a\n     > \n     > q\n  * b") ∷ []);
}

-- a quote in a loose item, and a definition list
abbrev pub a_quote_in_a_loose_item_and_a_definition_list : Row
a_quote_in_a_loose_item_and_a_definition_list = record {
  setting = setting default_options 0 ([]);
  trees = node (ListOf None) (node Item (node Paragraph (text (codes "a") empty) (node (BlockQuote None) (node
      Paragraph (text (codes "q") empty) empty) (node DefinitionList (node DefinitionListTitle (text (codes "t")
      empty) (node DefinitionListDefinition (text (codes "d") empty) empty)) empty))) empty) empty;
  written = wrote ((codes "* a\n  \n   > \n   > q\n  \n  t\n  : d\n") ∷ []);
}

-- a definition list after an inner list
abbrev pub a_definition_list_behind_an_inner_list : Row
a_definition_list_behind_an_inner_list = record {
  setting = setting default_options 0 ([]);
  trees = node (ListOf None) (node Item (text (codes "a") (node (ListOf None) (node Item (text (codes "b") empty)
      empty) (node DefinitionList (node DefinitionListTitle (text (codes "t") empty) (node DefinitionListDefinition
      (text (codes "d") empty) empty)) empty))) empty) empty;
  written = wrote ((codes "* a\n  * b\n  \n  t\n  : d\n") ∷ []);
}

-- indented code after an inner list that ends with code
abbrev pub indented_code_behind_an_inner_list_that_ends_with_code : Row
indented_code_behind_an_inner_list_that_ends_with_code = record {
  setting = setting default_options 0 ([]);
  trees = node (ListOf None) (node Item (text (codes "a") (node (ListOf None) (node Item (text (codes "b") (node
      (CodeBlock (Fenced [])) (text (codes "c\n") empty) empty)) empty) (node (CodeBlock Indented) (text (codes "d\n")
      empty) empty))) empty) empty;
  written = wrote ((codes "* a\n     *    b\n          ````\n          c\n          ````\n      d\n") ∷ []);
}

-- a loose list of empty items
abbrev pub a_loose_list_of_empty_items : Row
a_loose_list_of_empty_items = record {
  setting = setting default_options 0 ([]);
  trees = node (ListOf None) (node Item empty (node Item empty empty)) empty;
  written = wrote ((codes "* \n\n* ") ∷ []);
}

-- two paragraphs in a definition
abbrev pub two_paragraphs_in_a_definition : Row
two_paragraphs_in_a_definition = record {
  setting = setting default_options 0 ([]);
  trees = node DefinitionList (node DefinitionListTitle (text (codes "t") empty) (node DefinitionListDefinition (node
      Paragraph (text (codes "a") empty) (node Paragraph (text (codes "b") empty) empty)) empty)) empty;
  written = wrote ((codes "t\n\n: a\n  \n  b\n") ∷ []);
}

-- two code blocks in a quote that is directly in a tight list
abbrev pub two_code_blocks_in_a_quote_that_stands_directly_in_a_tight_list : Row
two_code_blocks_in_a_quote_that_stands_directly_in_a_tight_list = record {
  setting = setting default_options 0 ([]);
  trees = node (ListOf None) (node Item (text (codes "x") empty) (node (BlockQuote None) (node (CodeBlock (Fenced []))
      (text (codes "a\n") empty) (node (CodeBlock (Fenced [])) (text (codes "b\n") empty) empty)) empty)) empty;
  written = wrote ((codes "* x\n > \n > ````\n > a\n > ````\n > \n > ````\n > b\n > ````") ∷ []);
}

-- a text in an HTML block
abbrev pub a_text_in_an_html_block : Row
a_text_in_an_html_block = record {
  setting = setting default_options 0 ([]);
  trees = node HtmlBlock (text (codes "*a*") empty) empty;
  written = wrote ((codes "*a*") ∷ []);
}

-- a table after an inner list that ends with an inner list
abbrev pub a_table_behind_an_inner_list_that_ends_with_an_inner_list : Row
a_table_behind_an_inner_list_that_ends_with_an_inner_list = record {
  setting = setting default_options 0 ([]);
  trees = node (ListOf None) (node Item (text (codes "a") (node (ListOf None) (node Item (text (codes "b") (node
      (ListOf None) (node Item (text (codes "c") empty) empty) empty)) empty) (node (Table (alignment.None
      ∷ [])) (node TableHead (node TableCell (text (codes "d") empty) empty) empty) empty))) empty) empty;
  written = wrote ((codes "* a\n  * b\n    * c\n  \n  |d|\n  |-|") ∷ []);
}

-- blocks in tight items in a row
abbrev pub blocks_in_tight_items_in_a_row : Row
blocks_in_tight_items_in_a_row = record {
  setting = setting default_options 0 ([]);
  trees = node (ListOf None) (node Item (text (codes "a") (node (CodeBlock (Fenced [])) (text (codes "b\n") empty)
      (node (CodeBlock (Fenced [])) (text (codes "c\n") empty) empty))) empty) empty;
  written = wrote ((codes "* a\n  ````\n  b\n  ````\n  ````\n  c\n  ````") ∷ []);
}

-- a quote and a text in a definition
abbrev pub a_quote_and_a_text_in_a_definition : Row
a_quote_and_a_text_in_a_definition = record {
  setting = setting default_options 0 ([]);
  trees = node DefinitionList (node DefinitionListTitle (text (codes "t") empty) (node DefinitionListDefinition (node
      (BlockQuote None) (node Paragraph (text (codes "q") empty) empty) (text (codes "x") empty)) empty)) empty;
  written = wrote ((codes "t\n: \n   > \n   > q\n  x\n") ∷ []);
}

-- code that ends inside a line in a definition
abbrev pub code_that_ends_inside_a_line_in_a_definition : Row
code_that_ends_inside_a_line_in_a_definition = record {
  setting = setting default_options 0 ([]);
  trees = node DefinitionList (node DefinitionListTitle (text (codes "t") empty) (node DefinitionListDefinition (node
      (CodeBlock (Fenced [])) (text (codes "x") empty) empty) (node DefinitionListTitle (text (codes "u") empty)
      empty))) empty;
  written = wrote ((codes "t\n: \n  ````\n  x\n\nu") ∷ []);
}

-- HTML that is open in a definition
abbrev pub html_that_is_open_in_a_definition : Row
html_that_is_open_in_a_definition = record {
  setting = setting default_options 0 ([]);
  trees = node DefinitionList (node DefinitionListTitle (text (codes "t") empty) (node DefinitionListDefinition (node
      HtmlBlock (one (Html (codes "<!-- a")) empty) empty) (node DefinitionListTitle (text (codes "u") empty) empty)))
      empty;
  written = wrote ((codes "t\n: <!-- a\nu") ∷ []);
}

-- code that ends inside a line at the end of a definition list
abbrev pub code_that_ends_inside_a_line_at_the_end_of_a_definition_list : Row
code_that_ends_inside_a_line_at_the_end_of_a_definition_list = record {
  setting = setting default_options 0 ([]);
  trees = node DefinitionList (node DefinitionListTitle (text (codes "t") empty) (node DefinitionListDefinition (node
      (CodeBlock (Fenced [])) (text (codes "x") empty) empty) empty)) empty;
  written = wrote ((codes "t\n: \n  ````\n  x") ∷ []);
}

-- a quote at the end of an inner list, and code
abbrev pub a_quote_at_the_end_of_an_inner_list_and_code : Row
a_quote_at_the_end_of_an_inner_list_and_code = record {
  setting = setting default_options 0 ([]);
  trees = node (ListOf None) (node Item (text (codes "x") (node (ListOf None) (node Item (text (codes "a") (node
      (BlockQuote None) (node Paragraph (text (codes "q") empty) empty) empty)) empty) (node (CodeBlock (Fenced []))
      (text (codes "c\n") empty) empty))) empty) empty;
  written = wrote ((codes "* x\n  * a\n     > \n     > q\n     >\n  ````\n  c\n  ````") ∷ []);
}

-- a quote in open HTML, and a text
abbrev pub a_quote_in_open_html_and_a_text : Row
a_quote_in_open_html_and_a_text = record {
  setting = setting default_options 0 ([]);
  trees = node (ListOf None) (node Item (text (codes "x") (node HtmlBlock (one (Html (codes "<!--\n")) (node
      (BlockQuote None) (node Paragraph (text (codes "q") empty) empty) empty)) (text (codes "y") empty))) empty)
      empty;
  written = wrote ((codes "* x\n  <!--\n   > \n   > q\n  y") ∷ []);
}

-- a quote in open HTML at the end of a definition
abbrev pub a_quote_in_open_html_at_the_end_of_a_definition : Row
a_quote_in_open_html_at_the_end_of_a_definition = record {
  setting = setting default_options 0 ([]);
  trees = node (ListOf None) (node Item (node DefinitionList (node DefinitionListTitle (text (codes "t") empty) (node
      DefinitionListDefinition (node HtmlBlock (one (Html (codes "<!--\n")) (node (BlockQuote None) (node Paragraph
      (text (codes "q") empty) empty) empty)) empty) empty)) empty) empty) empty;
  written = wrote ((codes "* t\n  : <!--\n     > \n     > q") ∷ []);
}

-- all of these
abbrev pub rules_of_gaps : List Row
rules_of_gaps = a_list_behind_a_paragraph_has_the_same_token_as_the_list_before_it ∷ titles_of_a_definition_list
    ∷ two_definition_lists_in_a_tight_item ∷ two_tables_in_a_tight_item ∷ a_footnote_and_indented_code_in_a_tight_item
    ∷ a_footnote_with_a_text_and_a_paragraph ∷ a_footnote_with_a_text_and_a_text ∷ a_list_in_a_footnote
    ∷ a_quote_in_an_inner_item_and_the_next_item ∷ a_quote_in_a_loose_item_and_a_definition_list
    ∷ a_definition_list_behind_an_inner_list ∷ indented_code_behind_an_inner_list_that_ends_with_code
    ∷ a_loose_list_of_empty_items ∷ two_paragraphs_in_a_definition
    ∷ two_code_blocks_in_a_quote_that_stands_directly_in_a_tight_list ∷ a_text_in_an_html_block
    ∷ a_table_behind_an_inner_list_that_ends_with_an_inner_list ∷ blocks_in_tight_items_in_a_row
    ∷ a_quote_and_a_text_in_a_definition ∷ code_that_ends_inside_a_line_in_a_definition
    ∷ html_that_is_open_in_a_definition ∷ code_that_ends_inside_a_line_at_the_end_of_a_definition_list
    ∷ a_quote_at_the_end_of_an_inner_list_and_code ∷ a_quote_in_open_html_and_a_text
    ∷ a_quote_in_open_html_at_the_end_of_a_definition ∷ []
