-- Examples of the standard: setext headings, indented code blocks, part 2.
use Rattle.std.specs.Prelude.{true, false, List, [], ◌∷◌, Some, None, codes}
use Rattle.tocmark_event.specs.declared.event.HeadingLevel.TheVariants as level
use Rattle.tocmark_event.specs.declared.event.TagEnd.TheVariants as end
use Rattle.tocmark_event.specs.View.{Paragraph, Heading, BlockQuote, CodeBlock, Fenced, ListOf, Item, Start, End, Leaf, Text, SoftBreak, Rule}
use Rattle.tocmark_commonmark.specs.StandardExamples.{EventRow, event_row}

-- Setext headings
abbrev pub example_100 : EventRow
example_100 = event_row (codes "    foo\n---\n")
    (Start (CodeBlock (Fenced [])) ∷ Leaf (Text (codes "foo\n")) ∷ End end.CodeBlock ∷ Leaf Rule ∷ [])

-- Setext headings
abbrev pub example_101 : EventRow
example_101 = event_row (codes "> foo\n-----\n")
    (Start (BlockQuote None) ∷ Start Paragraph ∷ Leaf (Text (codes "foo")) ∷ End end.Paragraph ∷ End (end.BlockQuote None) ∷ Leaf Rule ∷ [])

-- Setext headings
abbrev pub example_102 : EventRow
example_102 = event_row (codes "\\> foo\n------\n")
    (Start (Heading level.H2 None [] []) ∷ Leaf (Text (codes "> foo")) ∷ End (end.Heading level.H2) ∷ [])

-- Setext headings
abbrev pub example_103 : EventRow
example_103 = event_row (codes "Foo\n\nbar\n---\nbaz\n")
    (Start Paragraph ∷ Leaf (Text (codes "Foo")) ∷ End end.Paragraph ∷ Start (Heading level.H2 None [] []) ∷ Leaf (Text (codes "bar")) ∷ End (end.Heading level.H2) ∷ Start Paragraph ∷ Leaf (Text (codes "baz")) ∷ End end.Paragraph ∷ [])

-- Setext headings
abbrev pub example_104 : EventRow
example_104 = event_row (codes "Foo\nbar\n\n---\n\nbaz\n")
    (Start Paragraph ∷ Leaf (Text (codes "Foo")) ∷ Leaf SoftBreak ∷ Leaf (Text (codes "bar")) ∷ End end.Paragraph ∷ Leaf Rule ∷ Start Paragraph ∷ Leaf (Text (codes "baz")) ∷ End end.Paragraph ∷ [])

-- Setext headings
abbrev pub example_105 : EventRow
example_105 = event_row (codes "Foo\nbar\n* * *\nbaz\n")
    (Start Paragraph ∷ Leaf (Text (codes "Foo")) ∷ Leaf SoftBreak ∷ Leaf (Text (codes "bar")) ∷ End end.Paragraph ∷ Leaf Rule ∷ Start Paragraph ∷ Leaf (Text (codes "baz")) ∷ End end.Paragraph ∷ [])

-- Setext headings
abbrev pub example_106 : EventRow
example_106 = event_row (codes "Foo\nbar\n\\---\nbaz\n")
    (Start Paragraph ∷ Leaf (Text (codes "Foo")) ∷ Leaf SoftBreak ∷ Leaf (Text (codes "bar")) ∷ Leaf SoftBreak ∷ Leaf (Text (codes "---")) ∷ Leaf SoftBreak ∷ Leaf (Text (codes "baz")) ∷ End end.Paragraph ∷ [])

-- Indented code blocks
abbrev pub example_107 : EventRow
example_107 = event_row (codes "    a simple\n      indented code block\n")
    (Start (CodeBlock (Fenced [])) ∷ Leaf (Text (codes "a simple\n  indented code block\n")) ∷ End end.CodeBlock ∷ [])

-- Indented code blocks
abbrev pub example_108 : EventRow
example_108 = event_row (codes "  - foo\n\n    bar\n")
    (Start (ListOf None) ∷ Start Item ∷ Start Paragraph ∷ Leaf (Text (codes "foo")) ∷ End end.Paragraph ∷ Start Paragraph ∷ Leaf (Text (codes "bar")) ∷ End end.Paragraph ∷ End end.Item ∷ End (end.List false) ∷ [])

-- Indented code blocks
abbrev pub example_109 : EventRow
example_109 = event_row (codes "1.  foo\n\n    - bar\n")
    (Start (ListOf (Some 1)) ∷ Start Item ∷ Start Paragraph ∷ Leaf (Text (codes "foo")) ∷ End end.Paragraph ∷ Start (ListOf None) ∷ Start Item ∷ Leaf (Text (codes "bar")) ∷ End end.Item ∷ End (end.List false) ∷ End end.Item ∷ End (end.List true) ∷ [])

-- Indented code blocks
abbrev pub example_110 : EventRow
example_110 = event_row (codes "    <a/>\n    *hi*\n\n    - one\n")
    (Start (CodeBlock (Fenced [])) ∷ Leaf (Text (codes "<a/>\n*hi*\n\n- one\n")) ∷ End end.CodeBlock ∷ [])

-- Indented code blocks
abbrev pub example_111 : EventRow
example_111 = event_row (codes "    chunk1\n\n    chunk2\n  \n \n \n    chunk3\n")
    (Start (CodeBlock (Fenced [])) ∷ Leaf (Text (codes "chunk1\n\nchunk2\n\n\n\nchunk3\n")) ∷ End end.CodeBlock ∷ [])

-- Indented code blocks
abbrev pub example_112 : EventRow
example_112 = event_row (codes "    chunk1\n      \n      chunk2\n")
    (Start (CodeBlock (Fenced [])) ∷ Leaf (Text (codes "chunk1\n  \n  chunk2\n")) ∷ End end.CodeBlock ∷ [])

-- Indented code blocks
abbrev pub example_113 : EventRow
example_113 = event_row (codes "Foo\n    bar\n\n")
    (Start Paragraph ∷ Leaf (Text (codes "Foo")) ∷ Leaf SoftBreak ∷ Leaf (Text (codes "bar")) ∷ End end.Paragraph ∷ [])

-- Indented code blocks
abbrev pub example_114 : EventRow
example_114 = event_row (codes "    foo\nbar\n")
    (Start (CodeBlock (Fenced [])) ∷ Leaf (Text (codes "foo\n")) ∷ End end.CodeBlock ∷ Start Paragraph ∷ Leaf (Text (codes "bar")) ∷ End end.Paragraph ∷ [])

-- Indented code blocks
abbrev pub example_115 : EventRow
example_115 = event_row (codes "# Heading\n    foo\nHeading\n------\n    foo\n----\n")
    (Start (Heading level.H1 None [] []) ∷ Leaf (Text (codes "Heading")) ∷ End (end.Heading level.H1) ∷ Start (CodeBlock (Fenced [])) ∷ Leaf (Text (codes "foo\n")) ∷ End end.CodeBlock ∷ Start (Heading level.H2 None [] []) ∷ Leaf (Text (codes "Heading")) ∷ End (end.Heading level.H2) ∷ Start (CodeBlock (Fenced [])) ∷ Leaf (Text (codes "foo\n")) ∷ End end.CodeBlock ∷ Leaf Rule ∷ [])

-- Indented code blocks
abbrev pub example_116 : EventRow
example_116 = event_row (codes "        foo\n    bar\n")
    (Start (CodeBlock (Fenced [])) ∷ Leaf (Text (codes "    foo\nbar\n")) ∷ End end.CodeBlock ∷ [])

-- Indented code blocks
abbrev pub example_117 : EventRow
example_117 = event_row (codes "\n    \n    foo\n    \n\n")
    (Start (CodeBlock (Fenced [])) ∷ Leaf (Text (codes "foo\n")) ∷ End end.CodeBlock ∷ [])

-- Indented code blocks
abbrev pub example_118 : EventRow
example_118 = event_row (codes "    foo  \n")
    (Start (CodeBlock (Fenced [])) ∷ Leaf (Text (codes "foo  \n")) ∷ End end.CodeBlock ∷ [])

-- all of these
abbrev pub standard_setext_second : List EventRow
standard_setext_second = example_100 ∷ example_101 ∷ example_102 ∷ example_103 ∷ example_104 ∷ example_105 ∷ example_106 ∷ example_107 ∷ example_108 ∷ example_109 ∷ example_110 ∷ example_111 ∷ example_112 ∷ example_113 ∷ example_114 ∷ example_115 ∷ example_116 ∷ example_117 ∷ example_118 ∷ []
