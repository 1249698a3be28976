-- Other blocks at the edges of the rules, as they are written.
use Rattle.std.specs.Prelude.{[], ◌∷◌, List, codes, false, Some, None}
use Rattle.tocmark_event.specs.Forest.{empty, node}
use Rattle.tocmark_event.specs.Options.{default_options}
use Rattle.tocmark_event.specs.View.{Indented, Fenced, Paragraph, Heading, BlockQuote, CodeBlock, HtmlBlock, ListOf, Item, FootnoteDefinition, DefinitionList, DefinitionListTitle, DefinitionListDefinition, Table, TableHead, TableRow, TableCell, Link, MetadataBlock, Text, Code, InlineMath, Html, InlineHtml, SoftBreak, HardBreak, Rule, Start, End, Leaf}
use Rattle.tocmark_event.specs.declared.options.Error.TheVariants.{Unrepresentable}
use Rattle.test_definitions.specs.Script.{wrote, text, one, setting, reading_of, Row}
use Rattle.tocmark_event.specs.declared.event.HeadingLevel.TheVariants as level
use Rattle.tocmark_event.specs.declared.event.BlockQuoteKind.TheVariants as quote
use Rattle.tocmark_event.specs.declared.event.MetadataBlockKind.TheVariants as metadata
use Rattle.tocmark_event.specs.declared.event.Alignment.TheVariants as alignment
use Rattle.tocmark_event.specs.declared.event.LinkType.TheVariants as link
use Rattle.tocmark_event.specs.declared.event.TagEnd.TheVariants as end

-- header: a cell inside a cell
abbrev pub header_a_cell_inside_a_cell : Row
header_a_cell_inside_a_cell = record {
  setting = setting default_options 0 [];
  trees = node (Table (alignment.None ∷ []))
      (node TableHead (node TableCell (text (codes "ab") (node TableCell (text (codes "cde") empty) empty)) empty) empty)
      empty;
  written = wrote ((codes "|ab\n|cde|\n|---|") ∷ []);
}

-- header: a table inside a cell
abbrev pub header_a_table_inside_a_cell : Row
header_a_table_inside_a_cell = record {
  setting = setting default_options 0 [];
  trees = node (Table (alignment.None ∷ []))
      (node TableHead
      (node TableCell
      (text (codes "ab")
      (node (Table (alignment.None ∷ []))
      (node TableHead (node TableCell (text (codes "cde") empty) empty) empty)
      empty))
      empty)
      empty)
      empty;
  written = wrote ((codes "|ab\n|cde|\n|---||\n|--|") ∷ []);
}

-- header: text of a nested table outside its cells
abbrev pub header_text_of_a_nested_table_outside_its_cells : Row
header_text_of_a_nested_table_outside_its_cells = record {
  setting = setting default_options 0 [];
  trees = node (Table (alignment.None ∷ []))
      (node TableHead
      (node TableCell (text (codes "a") (node (Table (alignment.None ∷ [])) (text (codes "xyz") empty) empty)) empty)
      empty)
      empty;
  written = wrote ((codes "|a\nxyz|\n|----|") ∷ []);
}

-- header: a row before the head
abbrev pub header_a_row_before_the_head : Row
header_a_row_before_the_head = record {
  setting = setting default_options 0 [];
  trees = node
      (Table (alignment.None ∷ alignment.None ∷ []))
      (node TableRow
      (node TableCell (text (codes "abcd") empty) empty)
      (node TableHead (node TableCell (text (codes "x") empty) empty) empty))
      empty;
  written = wrote ((codes "|abcd|\n|x|\n|----|-|") ∷ []);
}

-- header: math, html, footnote reference
abbrev pub header_math_html_footnote_reference : Row
header_math_html_footnote_reference = record {
  setting = setting default_options 0
      ((
        0,
        (codes "|$xxx$<bb>`c`|\n|---|"),
        reading_of
            (Start Paragraph
            ∷ Leaf (Text (codes "|$xxx$"))
            ∷ Leaf (InlineHtml (codes "<bb>"))
            ∷ Leaf (Code (codes "c"))
            ∷ Leaf (Text (codes "|"))
            ∷ Leaf SoftBreak
            ∷ Leaf (Text (codes "|---|"))
            ∷ End end.Paragraph
            ∷ [])
            []
            [],
      )
      ∷ []);
  trees = node (Table (alignment.None ∷ []))
      (node TableHead
      (node TableCell
      (one (InlineMath (codes "xxx")) (one (InlineHtml (codes "<bb>")) (one (Code (codes "c")) empty)))
      empty)
      empty)
      empty;
  written = record { texts = []; error = Some Unrepresentable };
}

-- quote line then a closing fence
abbrev pub quote_line_then_a_closing_fence : Row
quote_line_then_a_closing_fence = record {
  setting = setting default_options 0 [];
  trees = node DefinitionList
      (node DefinitionListDefinition
      (node (ListOf None)
      (node Item (node (BlockQuote None) (node Paragraph (text (codes "a") empty) empty) empty) empty)
      empty)
      (node DefinitionListDefinition (text (codes "b") empty) empty))
      empty;
  written = wrote ((codes ": * > a\n: b\n") ∷ []);
}

-- quote line before a text in a tight item
abbrev pub quote_line_before_a_text_in_a_tight_item : Row
quote_line_before_a_text_in_a_tight_item = record {
  setting = setting default_options 0 [];
  trees = node (ListOf None)
      (node Item
      (text (codes "a")
      (node (BlockQuote None) (node Paragraph (text (codes "b") empty) empty) (text (codes "c") empty)))
      empty)
      empty;
  written = wrote ((codes "* a\n   > \n   > b\n   >\n  c") ∷ []);
}

-- quote line in a nested prefix
abbrev pub quote_line_in_a_nested_prefix : Row
quote_line_in_a_nested_prefix = record {
  setting = setting default_options 0 [];
  trees = node (ListOf None)
      (node Item
      (text (codes "a")
      (node (ListOf None)
      (node Item
      (text (codes "b")
      (node (BlockQuote None) (node Paragraph (text (codes "c") empty) empty) (text (codes "d") empty)))
      empty)
      empty))
      empty)
      empty;
  written = wrote ((codes "* a\n  * b\n     > \n     > c\n     >\n    d") ∷ []);
}

-- break after a paragraph at top level
abbrev pub break_after_a_paragraph_at_top_level : Row
break_after_a_paragraph_at_top_level = record {
  setting = setting default_options 0 [];
  trees = node Paragraph (text (codes "a") empty) (one SoftBreak (node Paragraph (text (codes "b") empty) empty));
  written = wrote ((codes "a") ∷ (codes "\n") ∷ (codes "\nb") ∷ []);
}

-- hard break after a rule
abbrev pub hard_break_after_a_rule : Row
hard_break_after_a_rule = record {
  setting = setting default_options 0 [];
  trees = one Rule (one HardBreak (node Paragraph (text (codes "b") empty) empty));
  written = wrote ((codes "---") ∷ (codes "  \n") ∷ (codes "\nb") ∷ []);
}

-- html leaf after a paragraph
abbrev pub html_leaf_after_a_paragraph : Row
html_leaf_after_a_paragraph = record {
  setting = setting default_options 0 [];
  trees = node Paragraph (text (codes "a") empty)
      (one (Html (codes "<b>\n")) (node Paragraph (text (codes "b") empty) empty));
  written = wrote ((codes "a") ∷ (codes "<b>\n") ∷ (codes "\nb") ∷ []);
}

-- metadata then heading
abbrev pub metadata_then_heading : Row
metadata_then_heading = record {
  setting = setting (record default_options { newlines_after_metadata = 0 }) 0 [];
  trees = node (MetadataBlock metadata.YamlStyle)
      (text (codes "a: 1\n") empty)
      (node (Heading level.H1 None [] []) (text (codes "x") empty) empty);
  written = wrote ((codes "---\na: 1\n---\n") ∷ (codes "# x") ∷ []);
}

-- indented code right after metadata
abbrev pub indented_code_right_after_metadata : Row
indented_code_right_after_metadata = record {
  setting = setting (record default_options { newlines_after_metadata = 0 }) 0 [];
  trees = node (MetadataBlock metadata.YamlStyle)
      (text (codes "a: 1\n") empty)
      (node (CodeBlock Indented) (text (codes "x\n") empty) empty);
  written = wrote ((codes "---\na: 1\n---\n") ∷ (codes "    x\n") ∷ []);
}

-- definition beside definition, quote inside an item
abbrev pub definition_beside_definition_quote_inside_an_item : Row
definition_beside_definition_quote_inside_an_item = record {
  setting = setting default_options 0 [];
  trees = node DefinitionList
      (node DefinitionListTitle (text (codes "t") empty)
      (node DefinitionListDefinition
      (node (ListOf None)
      (node Item (node (BlockQuote None) (node Paragraph (text (codes "a") empty) empty) empty) empty)
      (text (codes "b") empty))
      empty))
      empty;
  written = wrote ((codes "t\n: * > a\n  b\n") ∷ []);
}

-- raw end in a definition
abbrev pub raw_end_in_a_definition : Row
raw_end_in_a_definition = record {
  setting = setting default_options 0 [];
  trees = node DefinitionList
      (node DefinitionListDefinition
      (node (CodeBlock (Fenced [])) (text (codes "x") empty) empty)
      (node DefinitionListDefinition (text (codes "y") empty) empty))
      empty;
  written = wrote ((codes ": \n  ````\n  x\n: y\n") ∷ []);
}

-- last unit holds html and there are definitions
abbrev pub last_unit_holds_html_and_there_are_definitions : Row
last_unit_holds_html_and_there_are_definitions = record {
  setting = setting default_options 0
      ((0, (codes "\n\n[a]: /u"), reading_of [] ((codes "a") ∷ []) [])
      ∷ (
        0,
        (codes "[t][a]"),
        reading_of (Start Paragraph ∷ Leaf (Text (codes "[t][a]")) ∷ End end.Paragraph ∷ []) [] ((codes "a") ∷ []),
      )
      ∷ []);
  trees = node Paragraph
      (node (Link link.Reference (codes "/u") [] (codes "a")) (text (codes "t") empty) empty)
      (node HtmlBlock (one (Html (codes "<b>\n")) empty) empty);
  written = wrote ((codes "[t][a]") ∷ (codes "\n\n[a]: /u\n\n<b>\n") ∷ []);
}

-- last unit holds code inside a quote
abbrev pub last_unit_holds_code_inside_a_quote : Row
last_unit_holds_code_inside_a_quote = record {
  setting = setting default_options 0
      ((0, (codes "\n\n[a]: /u"), reading_of [] ((codes "a") ∷ []) [])
      ∷ (
        0,
        (codes "[t][a]"),
        reading_of (Start Paragraph ∷ Leaf (Text (codes "[t][a]")) ∷ End end.Paragraph ∷ []) [] ((codes "a") ∷ []),
      )
      ∷ []);
  trees = node Paragraph
      (node (Link link.Reference (codes "/u") [] (codes "a")) (text (codes "t") empty) empty)
      (node (BlockQuote None) (node (CodeBlock (Fenced [])) (text (codes "x\n") empty) empty) empty);
  written = wrote ((codes "[t][a]") ∷ (codes "\n\n[a]: /u\n\n > \n > ````\n > x\n > ````") ∷ []);
}

-- last unit is code, its own unit holds a reference
abbrev pub last_unit_is_code_its_own_unit_holds_a_reference : Row
last_unit_is_code_its_own_unit_holds_a_reference = record {
  setting = setting default_options 0
      ((0, (codes "\n\n[a]: /u"), reading_of [] ((codes "a") ∷ []) [])
      ∷ (
        0,
        (codes "\n > \n > ````\n > x\n > ````\n > \n > [t][a]"),
        reading_of
            (Start (BlockQuote None)
            ∷ Start (CodeBlock (Fenced []))
            ∷ Leaf (Text (codes "x\n"))
            ∷ End end.CodeBlock
            ∷ Start Paragraph
            ∷ Leaf (Text (codes "[t][a]"))
            ∷ End end.Paragraph
            ∷ End (end.BlockQuote None)
            ∷ [])
            []
            ((codes "a") ∷ []),
      )
      ∷ []);
  trees = node (BlockQuote None)
      (node (CodeBlock (Fenced [])) (text (codes "x\n") empty)
      (node Paragraph (node (Link link.Reference (codes "/u") [] (codes "a")) (text (codes "t") empty) empty) empty))
      empty;
  written = wrote ((codes "\n[a]: /u\n\n > \n > ````\n > x\n > ````\n > \n > [t][a]") ∷ []);
}

-- table cell text begins with a space
abbrev pub table_cell_text_begins_with_a_space : Row
table_cell_text_begins_with_a_space = record {
  setting = setting default_options 2 [];
  trees = node (Table (alignment.None ∷ []))
      (node TableHead (node TableCell (text (codes " a") empty) empty) empty)
      empty;
  written = wrote ((codes "|&#32;a|\n|--|") ∷ []);
}

-- html name without a bracket
abbrev pub html_name_without_a_bracket : Row
html_name_without_a_bracket = record {
  setting = setting default_options 0 [];
  trees = node HtmlBlock (one (Html (codes "pre")) empty) (node Paragraph (text (codes "a") empty) empty);
  written = wrote ((codes "pre") ∷ (codes "\na") ∷ []);
}

-- html first of two: the first decides
abbrev pub html_first_of_two_the_first_decides : Row
html_first_of_two_the_first_decides = record {
  setting = setting default_options 0 [];
  trees = node HtmlBlock
      (one (Html []) (one (Html (codes "<pre>\n")) empty))
      (node Paragraph (text (codes "a") empty) empty);
  written = wrote ((codes "<pre>\n") ∷ (codes "\na") ∷ []);
}

-- html whose end is before its beginning
abbrev pub html_whose_end_stands_before_its_beginning : Row
html_whose_end_stands_before_its_beginning = record {
  setting = setting default_options 0 [];
  trees = node HtmlBlock (one (Html (codes "</pre><pre>\n")) empty) (node Paragraph (text (codes "a") empty) empty);
  written = wrote ((codes "</pre><pre>\n") ∷ (codes "\na") ∷ []);
}

-- empty unit text: top level indented code
abbrev pub empty_unit_text_top_level_indented_code : Row
empty_unit_text_top_level_indented_code = record {
  setting = setting default_options 0 [];
  trees = node (CodeBlock Indented)
      (text (codes "x\n") empty)
      (node (CodeBlock Indented) (text (codes "y\n") empty) empty);
  written = wrote ((codes "\n    x\n") ∷ (codes "\n    y\n") ∷ []);
}

-- code block without events in an item
abbrev pub code_block_without_events_in_an_item : Row
code_block_without_events_in_an_item = record {
  setting = setting default_options 0 [];
  trees = node (ListOf None) (node Item (node (CodeBlock Indented) empty empty) empty) empty;
  written = wrote ((codes "*     ") ∷ []);
}

-- definition in an item ends with a quote
abbrev pub definition_in_an_item_ends_with_a_quote : Row
definition_in_an_item_ends_with_a_quote = record {
  setting = setting default_options 0 [];
  trees = node (ListOf None)
      (node Item
      (text (codes "x")
      (node DefinitionList
      (node DefinitionListTitle (text (codes "t") empty)
      (node DefinitionListDefinition
      (node (BlockQuote None) (node Paragraph (text (codes "a") empty) empty) empty)
      (node DefinitionListDefinition (text (codes "b") empty) empty)))
      empty))
      empty)
      empty;
  written = wrote ((codes "* x\n  t\n  : \n     > \n     > a\n     >\n  : b\n") ∷ []);
}

-- definition in an item ends with open html after a quote
abbrev pub definition_in_an_item_ends_with_open_html_after_a_quote : Row
definition_in_an_item_ends_with_open_html_after_a_quote = record {
  setting = setting default_options 0 [];
  trees = node (ListOf None)
      (node Item
      (text (codes "x")
      (node DefinitionList
      (node DefinitionListDefinition
      (node (BlockQuote None)
      (node Paragraph (text (codes "a") empty) empty)
      (node HtmlBlock (one (Html (codes "<!-- x\n")) empty) empty))
      (node DefinitionListDefinition (text (codes "b") empty) empty))
      empty))
      empty)
      empty;
  written = wrote ((codes "* x\n  : \n     > \n     > a\n     >\n    <!-- x\n  : b\n") ∷ []);
}

-- quote line and a minimum of two
abbrev pub quote_line_and_a_minimum_of_two : Row
quote_line_and_a_minimum_of_two = record {
  setting = setting default_options 0 [];
  trees = node (ListOf None)
      (node Item
      (text (codes "a")
      (node (BlockQuote None)
      (node Paragraph (text (codes "b") empty) empty)
      (node (BlockQuote None) (node Paragraph (text (codes "c") empty) empty) (text (codes "d") empty))))
      empty)
      empty;
  written = wrote ((codes "* a\n   > \n   > b\n  \n   > \n   > c\n   >\n  d") ∷ []);
}

-- quote then html block in a tight item
abbrev pub quote_then_html_block_in_a_tight_item : Row
quote_then_html_block_in_a_tight_item = record {
  setting = setting default_options 0 [];
  trees = node (ListOf None)
      (node Item
      (text (codes "a")
      (node (BlockQuote None)
      (node Paragraph (text (codes "b") empty) empty)
      (node HtmlBlock (one (Html (codes "<b>\n")) empty) (text (codes "d") empty))))
      empty)
      empty;
  written = wrote ((codes "* a\n   > \n   > b\n   >\n  <b>\n  \n  d") ∷ []);
}

-- quote then html leaf in a tight item
abbrev pub quote_then_html_leaf_in_a_tight_item : Row
quote_then_html_leaf_in_a_tight_item = record {
  setting = setting default_options 0 [];
  trees = node (ListOf None)
      (node Item
      (text (codes "a")
      (node (BlockQuote None)
      (node Paragraph (text (codes "b") empty) empty)
      (one (Html (codes "<b>\n")) (text (codes "d") empty))))
      empty)
      empty;
  written = wrote ((codes "* a\n   > \n   > b<b>\n   >\n  d") ∷ []);
}

-- code in a table: bars escaped
abbrev pub code_in_a_table_bars_escaped : Row
code_in_a_table_bars_escaped = record {
  setting = setting default_options 2 [];
  trees = node (Table (alignment.None ∷ []))
      (node TableHead (node TableCell (one (Code (codes "a|`b")) empty) empty) empty)
      empty;
  written = wrote ((codes "|``a\\|`b``|\n|------|") ∷ []);
}

-- definition list ends, heading follows
abbrev pub definition_list_ends_heading_follows : Row
definition_list_ends_heading_follows = record {
  setting = setting default_options 0 [];
  trees = node DefinitionList
      (node DefinitionListTitle (text (codes "t") empty) (node DefinitionListDefinition (text (codes "d") empty) empty))
      (node (Heading level.H1 None [] []) (text (codes "x") empty) empty);
  written = wrote ((codes "t\n: d\n") ∷ (codes "\n# x") ∷ []);
}

-- definition list ends, paragraph follows
abbrev pub definition_list_ends_paragraph_follows : Row
definition_list_ends_paragraph_follows = record {
  setting = setting default_options 0 [];
  trees = node DefinitionList
      (node DefinitionListTitle (text (codes "t") empty) (node DefinitionListDefinition (text (codes "d") empty) empty))
      (node Paragraph (text (codes "x") empty) empty);
  written = wrote ((codes "t\n: d\n") ∷ (codes "\nx") ∷ []);
}

-- footnote definition ends, text follows
abbrev pub footnote_definition_ends_text_follows : Row
footnote_definition_ends_text_follows = record {
  setting = setting default_options 0 ((0, (codes "[^n]: a"), reading_of [] ((codes "^n") ∷ []) []) ∷ []);
  trees = node (FootnoteDefinition (codes "n"))
      (node Paragraph (text (codes "a") empty) empty)
      (text (codes "b") empty);
  written = wrote ((codes "[^n]: a") ∷ (codes "\n\nb") ∷ []);
}

-- footnote definition ends, rule follows
abbrev pub footnote_definition_ends_rule_follows : Row
footnote_definition_ends_rule_follows = record {
  setting = setting default_options 0 ((0, (codes "[^n]: a"), reading_of [] ((codes "^n") ∷ []) []) ∷ []);
  trees = node (FootnoteDefinition (codes "n")) (text (codes "a") empty) (one Rule empty);
  written = wrote ((codes "[^n]: a") ∷ (codes "---") ∷ []);
}

-- table then paragraph
abbrev pub table_then_paragraph : Row
table_then_paragraph = record {
  setting = setting (record default_options { newlines_after_table = 0 }) 0 [];
  trees = node (Table (alignment.None ∷ []))
      (node TableHead (node TableCell (text (codes "a") empty) empty) empty)
      (node Paragraph (text (codes "x") empty) empty);
  written = wrote ((codes "|a|\n|-|") ∷ (codes "\n\nx") ∷ []);
}

-- quote after a quote
abbrev pub quote_after_a_quote : Row
quote_after_a_quote = record {
  setting = setting default_options 0 [];
  trees = node (BlockQuote None)
      (node Paragraph (text (codes "a") empty) empty)
      (node (BlockQuote None) (node Paragraph (text (codes "b") empty) empty) empty);
  written = wrote ((codes "\n > \n > a") ∷ (codes "\n\n > \n > b") ∷ []);
}

-- quote kinds
abbrev pub quote_kinds : Row
quote_kinds = record {
  setting = setting default_options 0
      ((
        0,
        (codes "\n > [!NOTE]\n > a"),
        reading_of
            (Start (BlockQuote None)
            ∷ Start Paragraph
            ∷ Leaf (Text (codes "[!NOTE]"))
            ∷ Leaf SoftBreak
            ∷ Leaf (Text (codes "a"))
            ∷ End end.Paragraph
            ∷ End (end.BlockQuote None)
            ∷ [])
            []
            ((codes "!NOTE") ∷ []),
      )
      ∷ (
        0,
        (codes "\n\n* > [!TIP]\n   > b"),
        reading_of
            (Start (ListOf None)
            ∷ Start Item
            ∷ Start (BlockQuote None)
            ∷ Start Paragraph
            ∷ Leaf (Text (codes "[!TIP]"))
            ∷ Leaf SoftBreak
            ∷ Leaf (Text (codes "b"))
            ∷ End end.Paragraph
            ∷ End (end.BlockQuote None)
            ∷ End end.Item
            ∷ End (end.List false)
            ∷ [])
            []
            ((codes "!TIP") ∷ []),
      )
      ∷ []);
  trees = node (BlockQuote (Some quote.Note))
      (node Paragraph (text (codes "a") empty) empty)
      (node (ListOf None)
      (node Item (node (BlockQuote (Some quote.Tip)) (node Paragraph (text (codes "b") empty) empty) empty) empty)
      empty);
  written = wrote ((codes "\n > [!NOTE]\n > a") ∷ (codes "\n\n* > [!TIP]\n   > b") ∷ []);
}

-- open html then a quote
abbrev pub open_html_then_a_quote : Row
open_html_then_a_quote = record {
  setting = setting default_options 0 [];
  trees = node (BlockQuote None)
      (node HtmlBlock (one (Html (codes "<!-- x\n")) empty) empty)
      (node (BlockQuote None) (node Paragraph (text (codes "b") empty) empty) empty);
  written = wrote ((codes "\n > \n > <!-- x\n") ∷ (codes " > \n > b") ∷ []);
}

-- heading levels and no text
abbrev pub heading_levels_and_no_text : Row
heading_levels_and_no_text = record {
  setting = setting default_options 0 [];
  trees = node (Heading level.H6 None [] []) empty (node (Heading level.H1 None [] []) (one SoftBreak empty) empty);
  written = wrote ((codes "###### ") ∷ (codes "\n\n\n\n===") ∷ []);
}

-- paragraph without events
abbrev pub paragraph_without_events : Row
paragraph_without_events = record {
  setting = setting default_options 0 [];
  trees = node Paragraph empty (node Paragraph (text (codes "a") empty) empty);
  written = wrote ((codes "\n\na") ∷ []);
}

-- fence in quote in item
abbrev pub fence_in_quote_in_item : Row
fence_in_quote_in_item = record {
  setting = setting default_options 0 [];
  trees = node (ListOf None)
      (node Item
      (node (BlockQuote None) (node (CodeBlock (Fenced (codes "r"))) (text (codes "a\n\nb\n") empty) empty) empty)
      empty)
      empty;
  written = wrote ((codes "* > \n   > ````r\n   > a\n   > \n   > b\n   > ````") ∷ []);
}

-- indented code at item start
abbrev pub indented_code_at_item_start : Row
indented_code_at_item_start = record {
  setting = setting default_options 0 [];
  trees = node (ListOf None)
      (node Item (node (CodeBlock Indented) (text (codes "x\n") (text (codes "y\n") empty)) empty) empty)
      empty;
  written = wrote ((codes "*     x\n      y\n") ∷ []);
}

-- indented code after text in an item
abbrev pub indented_code_after_text_in_an_item : Row
indented_code_after_text_in_an_item = record {
  setting = setting default_options 0 [];
  trees = node (ListOf None)
      (node Item (text (codes "a") (node (CodeBlock Indented) (text (codes "x\n") empty) empty)) empty)
      empty;
  written = wrote ((codes "* a\n      x\n") ∷ []);
}

-- all of these
abbrev pub edges_of_blocks : List Row
edges_of_blocks = header_a_cell_inside_a_cell
    ∷ header_a_table_inside_a_cell
    ∷ header_text_of_a_nested_table_outside_its_cells
    ∷ header_a_row_before_the_head
    ∷ header_math_html_footnote_reference
    ∷ quote_line_then_a_closing_fence
    ∷ quote_line_before_a_text_in_a_tight_item
    ∷ quote_line_in_a_nested_prefix
    ∷ break_after_a_paragraph_at_top_level
    ∷ hard_break_after_a_rule
    ∷ html_leaf_after_a_paragraph
    ∷ metadata_then_heading
    ∷ indented_code_right_after_metadata
    ∷ definition_beside_definition_quote_inside_an_item
    ∷ raw_end_in_a_definition
    ∷ last_unit_holds_html_and_there_are_definitions
    ∷ last_unit_holds_code_inside_a_quote
    ∷ last_unit_is_code_its_own_unit_holds_a_reference
    ∷ table_cell_text_begins_with_a_space
    ∷ html_name_without_a_bracket
    ∷ html_first_of_two_the_first_decides
    ∷ html_whose_end_stands_before_its_beginning
    ∷ empty_unit_text_top_level_indented_code
    ∷ code_block_without_events_in_an_item
    ∷ definition_in_an_item_ends_with_a_quote
    ∷ definition_in_an_item_ends_with_open_html_after_a_quote
    ∷ quote_line_and_a_minimum_of_two
    ∷ quote_then_html_block_in_a_tight_item
    ∷ quote_then_html_leaf_in_a_tight_item
    ∷ code_in_a_table_bars_escaped
    ∷ definition_list_ends_heading_follows
    ∷ definition_list_ends_paragraph_follows
    ∷ footnote_definition_ends_text_follows
    ∷ footnote_definition_ends_rule_follows
    ∷ table_then_paragraph
    ∷ quote_after_a_quote
    ∷ quote_kinds
    ∷ open_html_then_a_quote
    ∷ heading_levels_and_no_text
    ∷ paragraph_without_events
    ∷ fence_in_quote_in_item
    ∷ indented_code_at_item_start
    ∷ indented_code_after_text_in_an_item
    ∷ []
