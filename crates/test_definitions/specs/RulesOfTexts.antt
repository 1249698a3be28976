-- Rules of escapes, destinations, titles and inline leaves, as they show in what is written.
use Rattle.std.specs.Prelude.{[], ◌∷◌, ◌++◌, codes, true, false, None, Some, List, encode_utf8_all}
use Rattle.tocmark_event.specs.Forest.{empty, node}
use Rattle.tocmark_event.specs.Options.{default_options}
use Rattle.tocmark_event.specs.View.{Fenced, Paragraph, Heading, BlockQuote, CodeBlock, HtmlBlock, ListOf, Item, DefinitionList, DefinitionListTitle, DefinitionListDefinition, Table, TableHead, TableCell, Emphasis, Link, Image, Text, Code, InlineMath, DisplayMath, Html, InlineHtml, FootnoteReference, SoftBreak, HardBreak, Rule, TaskListMarker, Start, End, Leaf}
use Rattle.tocmark_event.specs.declared.event.HeadingLevel.TheVariants as level
use Rattle.tocmark_event.specs.declared.event.Alignment.TheVariants as alignment
use Rattle.tocmark_event.specs.declared.event.LinkType.TheVariants as link
use Rattle.tocmark_event.specs.declared.event.TagEnd.TheVariants as end
use Rattle.test_definitions.specs.Script.{wrote, text, one, setting, reading_of, Row}

-- line endings in texts
abbrev pub line_endings_in_texts : Row
line_endings_in_texts = record {
  setting = setting default_options 0 ([]);
  trees = node Paragraph (text (codes "a\nb") empty) (node Paragraph (text ((codes "a") ++ (13
      ∷ (codes "b"))) empty) (node Paragraph (text (codes "a\\\nb") empty) (node Paragraph (text ((codes "a\\") ++ (13
      ∷ (codes "b"))) empty) empty)));
  written = wrote ((codes "a&#10;b") ∷ (codes "\n\na&#13;b") ∷ (codes "\n\na\\\\&#10;b") ∷ (codes "\n\na\\\\&#13;b")
      ∷ []);
}

-- tabs and spaces in texts
abbrev pub tabs_and_spaces_in_texts : Row
tabs_and_spaces_in_texts = record {
  setting = setting default_options 0 ([]);
  trees = node Paragraph (text (9 ∷ (codes "a")) empty) (node Paragraph (text ((codes "a") ++ (9
      ∷ (codes "b"))) empty) (node Paragraph (one (Code (codes "x")) (text (9
      ∷ (codes "a")) empty)) (node Paragraph (text (codes " a") empty) (node Paragraph (text (codes "a b") empty)
      (node Paragraph (one (Code (codes "x")) (text (codes " a") empty)) empty)))));
  written = wrote ((codes "&#9;a") ∷ ((codes "\n\na") ++ (9 ∷ (codes "b"))) ∷ ((codes "\n\n`x`") ++ (9 ∷ (codes "a")))
      ∷ (codes "\n\n&#32;a") ∷ (codes "\n\na b") ∷ (codes "\n\n`x` a") ∷ []);
}

-- markers of blocks in texts
abbrev pub markers_of_blocks_in_texts : Row
markers_of_blocks_in_texts = record {
  setting = setting default_options 0 ([]);
  trees = node Paragraph (text (codes "- a") empty) (node Paragraph (text (codes "+ a") empty) (node Paragraph (text
      (codes "1) a") empty) (node Paragraph (text (codes "1. a") empty) (node Paragraph (text (codes ".a") empty)
      (node Paragraph (text (codes "a. b") empty) (node Paragraph (one (Code (codes "x")) (text (codes "- a") empty))
      (node Paragraph (text (codes "a") (one SoftBreak (text (codes "- b") empty))) (node Paragraph (text (codes
      "a - b") empty) empty))))))));
  written = wrote ((codes "\\- a") ∷ (codes "\n\n\\+ a") ∷ (codes "\n\n1\\) a") ∷ (codes "\n\n1\\. a")
      ∷ (codes "\n\n.a") ∷ (codes "\n\na. b") ∷ (codes "\n\n`x`- a") ∷ (codes "\n\na\n\\- b") ∷ (codes "\n\na - b")
      ∷ []);
}

-- a marker that is the last of its unit
abbrev pub a_marker_that_is_the_last_of_its_unit : Row
a_marker_that_is_the_last_of_its_unit = record {
  setting = setting default_options 0 ([]);
  trees = text (codes "-") empty;
  written = wrote ((codes "\\-") ∷ []);
}

-- markers that are the last of a line
abbrev pub markers_that_are_the_last_of_a_line : Row
markers_that_are_the_last_of_a_line = record {
  setting = setting default_options 0 ([]);
  trees = node Paragraph (text (codes "-") empty) (node Paragraph (text (codes "+") (one SoftBreak (text (codes "a")
      empty))) (node Paragraph (text (codes "=") (one HardBreak (text (codes "a") empty))) (node Paragraph (text
      (codes "-") (one (Code (codes "x")) empty)) (node Paragraph (text (codes "--") empty) (node Paragraph (text
      (codes "-=") empty) (node Paragraph (text (codes "-a") empty) empty))))));
  written = wrote ((codes "\\-") ∷ (codes "\n\n\\+\na") ∷ (codes "\n\n\\=  \na") ∷ (codes "\n\n-`x`")
      ∷ (codes "\n\n\\--") ∷ (codes "\n\n\\-=") ∷ (codes "\n\n-a") ∷ []);
}

-- markers in the cells of a table
abbrev pub markers_in_the_cells_of_a_table : Row
markers_in_the_cells_of_a_table = record {
  setting = setting default_options 2 ([]);
  trees = node (Table (alignment.None ∷ alignment.None ∷ alignment.None ∷ alignment.None ∷ alignment.None
      ∷ alignment.None ∷ [])) (node TableHead (node TableCell (text (codes "- a") empty) (node TableCell (text (codes
      ">a") empty) (node TableCell (text (codes "#a") empty) (node TableCell (text (codes "1. a") empty) (node
      TableCell (text (codes "a|b") empty) (node TableCell (text (codes "=") empty) empty)))))) empty) empty;
  written = wrote ((codes "|- a|>a|#a|1. a|a\\|b|=|\n|---|--|--|----|---|-|") ∷ []);
}

-- quotes and bars in texts
abbrev pub quotes_and_bars_in_texts : Row
quotes_and_bars_in_texts = record {
  setting = setting default_options 0 ([]);
  trees = node Paragraph (text (codes ">a") empty) (node Paragraph (text (codes "a>b") empty) (node Paragraph (text
      (codes "|a") empty) (node Paragraph (text (codes "a|b") empty) empty)));
  written = wrote ((codes "\\>a") ∷ (codes "\n\na>b") ∷ (codes "\n\n\\|a") ∷ (codes "\n\na|b") ∷ []);
}

-- a bar where tables are read
abbrev pub a_bar_where_tables_are_read : Row
a_bar_where_tables_are_read = record {
  setting = setting default_options 2 ([]);
  trees = node Paragraph (text (codes "a|b") empty) empty;
  written = wrote ((codes "a\\|b") ∷ []);
}

-- carets, dollars, colons and braces
abbrev pub carets_dollars_colons_and_braces : Row
carets_dollars_colons_and_braces = record {
  setting = setting default_options 0 ([]);
  trees = node Paragraph (text (codes "a^b") empty) (node Paragraph (text (codes "^a") empty) (node Paragraph (text
      (codes "$a$") empty) (node Paragraph (text (codes ": a") empty) (node (Heading level.H1 None ([]) ([])) (text
      (codes "a {b}") empty) empty))));
  written = wrote ((codes "a^b") ∷ (codes "\n\n\\^a") ∷ (codes "\n\n$a$") ∷ (codes "\n\n: a") ∷ (codes "\n\n# a {b}")
      ∷ []);
}

-- carets where superscripts are read
abbrev pub carets_where_superscripts_are_read : Row
carets_where_superscripts_are_read = record {
  setting = setting default_options 8192 ([]);
  trees = node Paragraph (text (codes "a^b") empty) empty;
  written = wrote ((codes "a\\^b") ∷ []);
}

-- dollars where mathematics is read
abbrev pub dollars_where_mathematics_is_read : Row
dollars_where_mathematics_is_read = record {
  setting = setting default_options 1024 ([]);
  trees = node Paragraph (text (codes "a$") empty) empty;
  written = wrote ((codes "a\\$") ∷ []);
}

-- colons where definition lists are read
abbrev pub colons_where_definition_lists_are_read : Row
colons_where_definition_lists_are_read = record {
  setting = setting default_options 4096 ([]);
  trees = node Paragraph (text (codes ": a") empty) (node Paragraph (text (codes "a: b") empty) empty);
  written = wrote ((codes "\\: a") ∷ (codes "\n\na: b") ∷ []);
}

-- braces where attributes are read
abbrev pub braces_where_attributes_are_read : Row
braces_where_attributes_are_read = record {
  setting = setting default_options 64 ([]);
  trees = node (Heading level.H1 None ([]) ([])) (text (codes "a {b}") empty) (node Paragraph (text (codes "a {b}")
      empty) empty);
  written = wrote ((codes "# a \\{b}") ∷ (codes "\n\na {b}") ∷ []);
}

-- underscores beside letters and digits
abbrev pub underscores_beside_letters_and_digits : Row
underscores_beside_letters_and_digits = record {
  setting = setting default_options 0 ([]);
  trees = node Paragraph (text (codes "a_b") empty) (node Paragraph (text (codes "a_ b") empty) (node Paragraph (text
      (codes "a _b") empty) (node Paragraph (text (codes "1_2") empty) empty)));
  written = wrote ((codes "a_b") ∷ (codes "\n\na\\_ b") ∷ (codes "\n\na \\_b") ∷ (codes "\n\n1_2") ∷ []);
}

-- hashes in texts
abbrev pub hashes_in_texts : Row
hashes_in_texts = record {
  setting = setting default_options 0 ([]);
  trees = node (Heading level.H1 None ([]) ([])) (text (codes "a #") empty) (node Paragraph (text (codes "#a") empty)
      (node Paragraph (text (codes "a#b") empty) empty));
  written = wrote ((codes "# a \\#") ∷ (codes "\n\n\\#a") ∷ (codes "\n\na#b") ∷ []);
}

-- backslashes in texts
abbrev pub backslashes_in_texts : Row
backslashes_in_texts = record {
  setting = setting default_options 0 ([]);
  trees = node Paragraph (text (codes "a\\.b") empty) (node Paragraph (text (codes "a\\b") empty) (node Paragraph
      (text (codes "a\\") empty) empty));
  written = wrote ((codes "a\\\\.b") ∷ (codes "\n\na\\b") ∷ (codes "\n\na\\\\") ∷ []);
}

-- exclamation marks
abbrev pub exclamation_marks : Row
exclamation_marks = record {
  setting = setting default_options 0 ([]);
  trees = node Paragraph (text (codes "a!") (node (Image link.Inline (codes "u") [] []) (text (codes "b") empty)
      empty)) (node Paragraph (text (codes "a!b") (node (Link link.Inline (codes "u") [] []) (text (codes "c") empty)
      empty)) (node Paragraph (text (codes "a!") (node (Link link.Inline (codes "u") [] []) (text (codes "c") empty)
      empty)) (node Paragraph (text (codes "a!") empty) empty)));
  written = wrote ((codes "a\\!![b](u)") ∷ (codes "\n\na!b[c](u)") ∷ (codes "\n\na\\![c](u)") ∷ (codes "\n\na!")
      ∷ []);
}

-- characters that are escaped everywhere
abbrev pub characters_that_are_escaped_everywhere : Row
characters_that_are_escaped_everywhere = record {
  setting = setting default_options 0 ([]);
  trees = node Paragraph (text (codes "a~b`c*d[e]f<g&h") empty) empty;
  written = wrote ((codes "a\\~b\\`c\\*d\\[e\\]f\\<g&amp;h") ∷ []);
}

-- two texts in one stretch
abbrev pub two_texts_in_one_stretch : Row
two_texts_in_one_stretch = record {
  setting = setting default_options 0 ([]);
  trees = node Paragraph (text (codes "1") (text (codes ". a") empty)) empty;
  written = wrote ((codes "1\\. a") ∷ []);
}

-- destinations with characters that are escaped
abbrev pub destinations_with_characters_that_are_escaped : Row
destinations_with_characters_that_are_escaped = record {
  setting = setting default_options 0 ([]);
  trees = node Paragraph (node (Link link.Inline (codes "a\nb") [] []) (text (codes "a") empty) empty) (node Paragraph
      (node (Link link.Inline ((codes "a") ++ (13 ∷ (codes "b"))) [] []) (text (codes "a") empty) empty) (node
      Paragraph (node (Link link.Inline (codes "a\\b<c>d&e") [] []) (text (codes "a") empty) empty) empty));
  written = wrote ((codes "[a](a&#10;b)") ∷ (codes "\n\n[a](a&#13;b)") ∷ (codes "\n\n[a](a\\\\b\\<c\\>d&amp;e)")
      ∷ []);
}

-- destinations in brackets
abbrev pub destinations_in_brackets : Row
destinations_in_brackets = record {
  setting = setting default_options 0 ([]);
  trees = node Paragraph (node (Link link.Inline (codes "a b") [] []) (text (codes "a") empty) empty) (node Paragraph
      (node (Link link.Inline ((codes "a") ++ (127 ∷ (codes "b"))) [] []) (text (codes "a") empty) empty) (node
      Paragraph (node (Link link.Inline (codes "a(b") [] []) (text (codes "a") empty) empty) (node Paragraph (node
      (Link link.Inline (codes "a)b") [] []) (text (codes "a") empty) empty) (node Paragraph (node (Link link.Inline
      (codes "((((a))))") [] []) (text (codes "a") empty) empty) empty))));
  written = wrote ((codes "[a](<a b>)") ∷ ((codes "\n\n[a](<a") ++ (127 ∷ (codes "b>)"))) ∷ (codes "\n\n[a](<a(b>)")
      ∷ (codes "\n\n[a](<a)b>)") ∷ (codes "\n\n[a](<((((a))))>)") ∷ []);
}

-- destinations without brackets
abbrev pub destinations_without_brackets : Row
destinations_without_brackets = record {
  setting = setting default_options 0 ([]);
  trees = node Paragraph (node (Link link.Inline (codes "(((a)))") [] []) (text (codes "a") empty) empty) (node
      Paragraph (node (Link link.Inline [] [] []) (text (codes "a") empty) empty) (node Paragraph (node (Link
      link.Inline [] (codes "t\"u\\v&w") []) (text (codes "a") empty) empty) empty));
  written = wrote ((codes "[a]((((a))))") ∷ (codes "\n\n[a]()") ∷ (codes "\n\n[a]( \"t\\\"u\\\\v&amp;w\")") ∷ []);
}

-- an empty destination in a definition
abbrev pub an_empty_destination_in_a_definition : Row
an_empty_destination_in_a_definition = record {
  setting = setting default_options 0 ([]);
  trees = node Paragraph (node (Link link.Reference [] [] (codes "r")) (text (codes "a") empty) empty) empty;
  written = wrote ((codes "[a][r]") ∷ (codes "\n\n[r]: <>") ∷ []);
}

-- references that differ in their titles alone
abbrev pub references_that_differ_in_their_titles_alone : Row
references_that_differ_in_their_titles_alone = record {
  setting = setting default_options 0 ([]);
  trees = node Paragraph (node (Link link.Reference (codes "u") (codes "t") (codes "r")) (text (codes "a") empty)
      empty) (node Paragraph (node (Link link.Reference (codes "u") (codes "v") (codes "r")) (text (codes "b") empty)
      empty) (node Paragraph (node (Link link.Reference (codes "u") (codes "t") (codes "r")) (text (codes "c") empty)
      empty) empty));
  written = wrote ((codes "[a][r]") ∷ (codes "\n\n[b][r]") ∷ (codes "\n\n[c][r]")
      ∷ (codes "\n\n[r]: u \"t\"\n[r]: u \"v\"") ∷ []);
}

-- code spans
abbrev pub code_spans : Row
code_spans = record {
  setting = setting default_options 0 ([]);
  trees = node Paragraph (one (Code (codes "a|b")) empty) (node Paragraph (one (Code (codes "`a")) empty) (node
      Paragraph (one (Code (codes "a`")) empty) (node Paragraph (one (Code (codes " a ")) empty) (node Paragraph (one
      (Code (codes "  ")) empty) (node Paragraph (one (Code (codes " a")) empty) (node Paragraph (one (Code (codes
      "a``b")) empty) (node Paragraph (one (Code []) empty) empty)))))));
  written = wrote ((codes "`a|b`") ∷ (codes "\n\n`` `a ``") ∷ (codes "\n\n`` a` ``") ∷ (codes "\n\n`  a  `")
      ∷ (codes "\n\n`  `") ∷ (codes "\n\n` a`") ∷ (codes "\n\n```a``b```") ∷ (codes "\n\n``") ∷ []);
}

-- an address as an autolink
abbrev pub an_address_as_an_autolink : Row
an_address_as_an_autolink = record {
  setting = setting default_options 0 ([]);
  trees = node Paragraph (node (Link link.Email (codes "a*b@c.d") [] []) (text (codes "a*b@c.d") empty) empty) empty;
  written = wrote ((codes "<a*b@c.d>") ∷ []);
}

-- mathematics on its own
abbrev pub mathematics_on_its_own : Row
mathematics_on_its_own = record {
  setting = setting default_options 1024 ((
    1024,
    (codes "$$a$$"),
    reading_of (Start Paragraph
        ∷ Leaf (DisplayMath (codes "a")) ∷ End end.Paragraph ∷ []) ([]) ([]),
  ) ∷ []);
  trees = node Paragraph (one (DisplayMath (codes "a")) empty) empty;
  written = wrote ((codes "$$a$$") ∷ []);
}

-- mathematics with a bar in a table
abbrev pub mathematics_with_a_bar_in_a_table : Row
mathematics_with_a_bar_in_a_table = record {
  setting = setting default_options 1026 ((
    1026,
    (codes "|$a\\|b$|\n|-|"),
    reading_of (Start (Table (alignment.None
        ∷ [])) ∷ Start TableHead ∷ Start TableCell ∷ Leaf (InlineMath (codes "a|b")) ∷ End end.TableCell
        ∷ End end.TableHead ∷ End end.Table ∷ []) ([]) ([]),
  ) ∷ []);
  trees = node (Table (alignment.None ∷ [])) (node TableHead (node TableCell (one (InlineMath (codes "a|b")) empty)
      empty) empty) empty;
  written = wrote ((codes "|$a\\|b$|\n|-|") ∷ []);
}

-- a marker of mathematics as it is
abbrev pub a_marker_of_mathematics_as_it_is : Row
a_marker_of_mathematics_as_it_is = record {
  setting = setting default_options 1024 ((
    1024,
    (codes "$*a*"),
    reading_of (Start Paragraph ∷ Leaf (Text (codes "$"))
        ∷ Start Emphasis ∷ Leaf (Text (codes "a")) ∷ End end.Emphasis ∷ End end.Paragraph ∷ []) ([]) ([]),
  ) ∷ []);
  trees = node Paragraph (text (codes "$") (node Emphasis (text (codes "a") empty) empty)) empty;
  written = wrote ((codes "$*a*") ∷ []);
}

-- the width of a header counts characters
abbrev pub the_width_of_a_header_counts_characters : Row
the_width_of_a_header_counts_characters = record {
  setting = setting default_options 0 ([]);
  trees = node (Table (alignment.None ∷ alignment.Center ∷ [])) (node TableHead (node TableCell (text (encode_utf8_all
      (codes "é")) empty) (node TableCell (text (codes "a") empty) empty)) empty) empty;
  written = wrote ((encode_utf8_all (codes "|é|a|\n|-|:-:|")) ∷ []);
}

-- rules in items
abbrev pub rules_in_items : Row
rules_in_items = record {
  setting = setting (record default_options { list_token = 45 }) 0 ([]);
  trees = node (ListOf None) (node Item (node Paragraph (text (codes "a") empty) (one Rule empty)) empty) (node
      (ListOf None) (node Item (one Rule empty) empty) empty);
  written = wrote ((codes "- a\n  \n  ---") ∷ (codes "\n\n* ---") ∷ []);
}

-- a rule in an ordered list whose token is a hyphen
abbrev pub a_rule_in_an_ordered_list_whose_token_is_a_hyphen : Row
a_rule_in_an_ordered_list_whose_token_is_a_hyphen = record {
  setting = setting (record default_options { ordered_list_token = 45 }) 0 ([]);
  trees = node (ListOf (Some 1)) (node Item (one Rule empty) empty) empty;
  written = wrote ((codes "1- ---") ∷ []);
}

-- a rule after HTML
abbrev pub a_rule_behind_html : Row
a_rule_behind_html = record {
  setting = setting default_options 0 ([]);
  trees = node (ListOf None) (node Item (one (Html (codes "<b>")) (one Rule empty)) empty) empty;
  written = wrote ((codes "* <b>---") ∷ []);
}

-- few line feeds are asked for
abbrev pub few_line_feeds_are_asked_for : Row
few_line_feeds_are_asked_for = record {
  setting = setting (record default_options {
    newlines_after_rule = 0;
    newlines_after_headline = 0;
    newlines_after_blockquote = 0;
    newlines_after_codeblock = 0;
    newlines_after_htmlblock = 0;
    newlines_after_table
        = 0;
    newlines_after_list = 0;
    newlines_after_rest = 0;
    newlines_after_paragraph = 0;
  }) 0 ([]);
  trees = one Rule (node (Heading level.H1 None ([]) ([])) (text (codes "a") empty) (node (BlockQuote None) (node
      Paragraph (text (codes "b") empty) empty) (node (CodeBlock (Fenced [])) (text (codes "c\n") empty) (node
      HtmlBlock (one (Html (codes "<pre></pre>\n")) empty) (node (Table (alignment.None
      ∷ [])) (node TableHead (node TableCell (text (codes "d") empty) empty) empty) (node (ListOf None) (node Item
      (text (codes "e") empty) (node Item (text (codes "f") empty) empty)) (node DefinitionList (node
      DefinitionListTitle (text (codes "g") empty) (node DefinitionListDefinition (text (codes "h") empty) empty))
      (node (Heading level.H1 None ([]) ([])) (text (codes "k") empty) (node Paragraph (text (codes "i") empty) (node
      Paragraph (text (codes "j") empty) empty))))))))));
  written = wrote ((codes "---") ∷ (codes "\n# a") ∷ (codes "\n > \n > b") ∷ (codes "\n\n````\nc\n````")
      ∷ (codes "\n\n<pre></pre>\n") ∷ (codes "\n|d|\n|-|") ∷ (codes "\n\n* e\n* f") ∷ (codes "\n\ng\n: h\n")
      ∷ (codes "\n# k") ∷ (codes "\ni") ∷ (codes "\n\nj") ∷ []);
}

-- headings over more than one line
abbrev pub headings_over_more_than_one_line : Row
headings_over_more_than_one_line = record {
  setting = setting default_options 0 ([]);
  trees = node (Heading level.H2 (Some (codes "i")) ([]) ([])) (text (codes "a") (one HardBreak (text (codes "b")
      empty))) (node (Heading level.H1 None ([]) ([])) (text (codes "a") (one (InlineHtml (codes "<b\n>")) empty))
      (node (Heading level.H1 None ([]) ([])) (text (codes "a") (one SoftBreak (text (codes "b") empty))) empty));
  written = wrote ((codes "a  \nb { #i }\n---") ∷ (codes "\n\na<b\n>\n===") ∷ (codes "\n\na\nb\n===") ∷ []);
}

-- inline leaves in a paragraph
abbrev pub inline_leaves_in_a_paragraph : Row
inline_leaves_in_a_paragraph = record {
  setting = setting default_options 0 ([]);
  trees = node Paragraph (one (TaskListMarker true) (text (codes "a") (one (FootnoteReference (codes "n")) empty)))
      (node Paragraph (one (TaskListMarker false) (text (codes "a") empty)) empty);
  written = wrote ((codes "[x] a[^n]") ∷ (codes "\n\n[ ] a") ∷ []);
}

-- all of these
abbrev pub rules_of_texts : List Row
rules_of_texts = line_endings_in_texts ∷ tabs_and_spaces_in_texts ∷ markers_of_blocks_in_texts
    ∷ a_marker_that_is_the_last_of_its_unit ∷ markers_that_are_the_last_of_a_line ∷ markers_in_the_cells_of_a_table
    ∷ quotes_and_bars_in_texts ∷ a_bar_where_tables_are_read ∷ carets_dollars_colons_and_braces
    ∷ carets_where_superscripts_are_read ∷ dollars_where_mathematics_is_read ∷ colons_where_definition_lists_are_read
    ∷ braces_where_attributes_are_read ∷ underscores_beside_letters_and_digits ∷ hashes_in_texts
    ∷ backslashes_in_texts ∷ exclamation_marks ∷ characters_that_are_escaped_everywhere ∷ two_texts_in_one_stretch
    ∷ destinations_with_characters_that_are_escaped ∷ destinations_in_brackets ∷ destinations_without_brackets
    ∷ an_empty_destination_in_a_definition ∷ references_that_differ_in_their_titles_alone ∷ code_spans
    ∷ an_address_as_an_autolink ∷ mathematics_on_its_own ∷ mathematics_with_a_bar_in_a_table
    ∷ a_marker_of_mathematics_as_it_is ∷ the_width_of_a_header_counts_characters ∷ rules_in_items
    ∷ a_rule_in_an_ordered_list_whose_token_is_a_hyphen ∷ a_rule_behind_html ∷ few_line_feeds_are_asked_for
    ∷ headings_over_more_than_one_line ∷ inline_leaves_in_a_paragraph ∷ []
