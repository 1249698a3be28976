-- Examples of the standard: tabs, backslash escapes, entity and numeric character references, part 1.
use Rattle.std.specs.Prelude.{false, List, [], ◌∷◌, None, codes, encode_utf8_all}
use Rattle.tocmark_event.specs.declared.event.HeadingLevel.TheVariants as level
use Rattle.tocmark_event.specs.declared.event.LinkType.TheVariants as kind
use Rattle.tocmark_event.specs.declared.event.TagEnd.TheVariants as end
use Rattle.tocmark_event.specs.View.{Paragraph, Heading, BlockQuote, CodeBlock, Fenced, HtmlBlock, ListOf, Item, Emphasis, Link, Start, End, Leaf, Text, Code, Html, SoftBreak, HardBreak, Rule}
use Rattle.tocmark_commonmark.specs.StandardExamples.{EventRow, event_row}

-- Tabs
abbrev pub example_1 : EventRow
example_1 = event_row (codes "\tfoo\tbaz\t\tbim\n")
    (Start (CodeBlock (Fenced [])) ∷ Leaf (Text (codes "foo\tbaz\t\tbim\n")) ∷ End end.CodeBlock ∷ [])

-- Tabs
abbrev pub example_2 : EventRow
example_2 = event_row (codes "  \tfoo\tbaz\t\tbim\n")
    (Start (CodeBlock (Fenced [])) ∷ Leaf (Text (codes "foo\tbaz\t\tbim\n")) ∷ End end.CodeBlock ∷ [])

-- Tabs
abbrev pub example_3 : EventRow
example_3 = event_row (encode_utf8_all (codes "    a\ta\n    ὐ\ta\n"))
    (Start (CodeBlock (Fenced [])) ∷ Leaf (Text (encode_utf8_all (codes "a\ta\nὐ\ta\n"))) ∷ End end.CodeBlock ∷ [])

-- Tabs
abbrev pub example_4 : EventRow
example_4 = event_row (codes "  - foo\n\n\tbar\n")
    (Start (ListOf None) ∷ Start Item ∷ Start Paragraph ∷ Leaf (Text (codes "foo")) ∷ End end.Paragraph ∷ Start Paragraph ∷ Leaf (Text (codes "bar")) ∷ End end.Paragraph ∷ End end.Item ∷ End (end.List false) ∷ [])

-- Tabs
abbrev pub example_5 : EventRow
example_5 = event_row (codes "- foo\n\n\t\tbar\n")
    (Start (ListOf None) ∷ Start Item ∷ Start Paragraph ∷ Leaf (Text (codes "foo")) ∷ End end.Paragraph ∷ Start (CodeBlock (Fenced [])) ∷ Leaf (Text (codes "  bar\n")) ∷ End end.CodeBlock ∷ End end.Item ∷ End (end.List false) ∷ [])

-- Tabs
abbrev pub example_6 : EventRow
example_6 = event_row (codes ">\t\tfoo\n")
    (Start (BlockQuote None) ∷ Start (CodeBlock (Fenced [])) ∷ Leaf (Text (codes "  foo\n")) ∷ End end.CodeBlock ∷ End (end.BlockQuote None) ∷ [])

-- Tabs
abbrev pub example_7 : EventRow
example_7 = event_row (codes "-\t\tfoo\n")
    (Start (ListOf None) ∷ Start Item ∷ Start (CodeBlock (Fenced [])) ∷ Leaf (Text (codes "  foo\n")) ∷ End end.CodeBlock ∷ End end.Item ∷ End (end.List false) ∷ [])

-- Tabs
abbrev pub example_8 : EventRow
example_8 = event_row (codes "    foo\n\tbar\n")
    (Start (CodeBlock (Fenced [])) ∷ Leaf (Text (codes "foo\nbar\n")) ∷ End end.CodeBlock ∷ [])

-- Tabs
abbrev pub example_9 : EventRow
example_9 = event_row (codes " - foo\n   - bar\n\t - baz\n")
    (Start (ListOf None) ∷ Start Item ∷ Leaf (Text (codes "foo")) ∷ Start (ListOf None) ∷ Start Item ∷ Leaf (Text (codes "bar")) ∷ Start (ListOf None) ∷ Start Item ∷ Leaf (Text (codes "baz")) ∷ End end.Item ∷ End (end.List false) ∷ End end.Item ∷ End (end.List false) ∷ End end.Item ∷ End (end.List false) ∷ [])

-- Tabs
abbrev pub example_10 : EventRow
example_10 = event_row (codes "#\tFoo\n")
    (Start (Heading level.H1 None [] []) ∷ Leaf (Text (codes "Foo")) ∷ End (end.Heading level.H1) ∷ [])

-- Tabs
abbrev pub example_11 : EventRow
example_11 = event_row (codes "*\t*\t*\t\n")
    (Leaf Rule ∷ [])

-- Backslash escapes
abbrev pub example_12 : EventRow
example_12 = event_row (codes "\\!\\\"\\#\\$\\%\\&\\'\\(\\)\\*\\+\\,\\-\\.\\/\\:\\;\\<\\=\\>\\?\\@\\[\\\\\\]\\^\\_\\`\\{\\|\\}\\~\n")
    (Start Paragraph ∷ Leaf (Text (codes "!\"#$%&'()*+,-./:;<=>?@[\\]^_`{|}~")) ∷ End end.Paragraph ∷ [])

-- Backslash escapes
abbrev pub example_13 : EventRow
example_13 = event_row (encode_utf8_all (codes "\\\t\\A\\a\\ \\3\\φ\\«\n"))
    (Start Paragraph ∷ Leaf (Text (encode_utf8_all (codes "\\\t\\A\\a\\ \\3\\φ\\«"))) ∷ End end.Paragraph ∷ [])

-- Backslash escapes
abbrev pub example_14 : EventRow
example_14 = event_row (codes "\\*not emphasized*\n\\<br/> not a tag\n\\[not a link](/foo)\n\\`not code`\n1\\. not a list\n\\* not a list\n\\# not a heading\n\\[foo]: /url \"not a reference\"\n\\&ouml; not a character entity\n")
    (Start Paragraph ∷ Leaf (Text (codes "*not emphasized*")) ∷ Leaf SoftBreak ∷ Leaf (Text (codes "<br/> not a tag")) ∷ Leaf SoftBreak ∷ Leaf (Text (codes "[not a link](/foo)")) ∷ Leaf SoftBreak ∷ Leaf (Text (codes "`not code`")) ∷ Leaf SoftBreak ∷ Leaf (Text (codes "1. not a list")) ∷ Leaf SoftBreak ∷ Leaf (Text (codes "* not a list")) ∷ Leaf SoftBreak ∷ Leaf (Text (codes "# not a heading")) ∷ Leaf SoftBreak ∷ Leaf (Text (codes "[foo]: /url \"not a reference\"")) ∷ Leaf SoftBreak ∷ Leaf (Text (codes "&ouml; not a character entity")) ∷ End end.Paragraph ∷ [])

-- Backslash escapes
abbrev pub example_15 : EventRow
example_15 = event_row (codes "\\\\*emphasis*\n")
    (Start Paragraph ∷ Leaf (Text (codes "\\")) ∷ Start Emphasis ∷ Leaf (Text (codes "emphasis")) ∷ End end.Emphasis ∷ End end.Paragraph ∷ [])

-- Backslash escapes
abbrev pub example_16 : EventRow
example_16 = event_row (codes "foo\\\nbar\n")
    (Start Paragraph ∷ Leaf (Text (codes "foo")) ∷ Leaf HardBreak ∷ Leaf (Text (codes "bar")) ∷ End end.Paragraph ∷ [])

-- Backslash escapes
abbrev pub example_17 : EventRow
example_17 = event_row (codes "`` \\[\\` ``\n")
    (Start Paragraph ∷ Leaf (Code (codes "\\[\\`")) ∷ End end.Paragraph ∷ [])

-- Backslash escapes
abbrev pub example_18 : EventRow
example_18 = event_row (codes "    \\[\\]\n")
    (Start (CodeBlock (Fenced [])) ∷ Leaf (Text (codes "\\[\\]\n")) ∷ End end.CodeBlock ∷ [])

-- Backslash escapes
abbrev pub example_19 : EventRow
example_19 = event_row (codes "~~~\n\\[\\]\n~~~\n")
    (Start (CodeBlock (Fenced [])) ∷ Leaf (Text (codes "\\[\\]\n")) ∷ End end.CodeBlock ∷ [])

-- Backslash escapes
abbrev pub example_20 : EventRow
example_20 = event_row (codes "<http://example.com?find=\\*>\n")
    (Start Paragraph ∷ Start (Link kind.Inline (codes "http://example.com?find=\\*") [] []) ∷ Leaf (Text (codes "http://example.com?find=\\*")) ∷ End end.Link ∷ End end.Paragraph ∷ [])

-- Backslash escapes
abbrev pub example_21 : EventRow
example_21 = event_row (codes "<a href=\"/bar\\/)\">\n")
    (Start HtmlBlock ∷ Leaf (Html (codes "<a href=\"/bar\\/)\">\n")) ∷ End end.HtmlBlock ∷ [])

-- all of these
abbrev pub standard_tabs_first : List EventRow
standard_tabs_first = example_1 ∷ example_2 ∷ example_3 ∷ example_4 ∷ example_5 ∷ example_6 ∷ example_7 ∷ example_8 ∷ example_9 ∷ example_10 ∷ example_11 ∷ example_12 ∷ example_13 ∷ example_14 ∷ example_15 ∷ example_16 ∷ example_17 ∷ example_18 ∷ example_19 ∷ example_20 ∷ example_21 ∷ []
