-- Examples of the standard: setext headings, indented code blocks, part 1.
use Rattle.std.specs.Prelude.{false, List, [], ◌∷◌, None, codes}
use Rattle.tocmark_event.specs.declared.event.HeadingLevel.TheVariants as level
use Rattle.tocmark_event.specs.declared.event.TagEnd.TheVariants as end
use Rattle.tocmark_event.specs.View.{Paragraph, Heading, BlockQuote, CodeBlock, Fenced, ListOf, Item, Emphasis, Start, End, Leaf, Text, SoftBreak, Rule}
use Rattle.tocmark_commonmark.specs.StandardExamples.{EventRow, event_row}

-- Setext headings
abbrev pub example_80 : EventRow
example_80 = event_row (codes "Foo *bar*\n=========\n\nFoo *bar*\n---------\n")
    (Start (Heading level.H1 None [] []) ∷ Leaf (Text (codes "Foo ")) ∷ Start Emphasis ∷ Leaf (Text (codes "bar")) ∷ End end.Emphasis ∷ End (end.Heading level.H1) ∷ Start (Heading level.H2 None [] []) ∷ Leaf (Text (codes "Foo ")) ∷ Start Emphasis ∷ Leaf (Text (codes "bar")) ∷ End end.Emphasis ∷ End (end.Heading level.H2) ∷ [])

-- Setext headings
abbrev pub example_81 : EventRow
example_81 = event_row (codes "Foo *bar\nbaz*\n====\n")
    (Start (Heading level.H1 None [] []) ∷ Leaf (Text (codes "Foo ")) ∷ Start Emphasis ∷ Leaf (Text (codes "bar")) ∷ Leaf SoftBreak ∷ Leaf (Text (codes "baz")) ∷ End end.Emphasis ∷ End (end.Heading level.H1) ∷ [])

-- Setext headings
abbrev pub example_82 : EventRow
example_82 = event_row (codes "  Foo *bar\nbaz*\t\n====\n")
    (Start (Heading level.H1 None [] []) ∷ Leaf (Text (codes "Foo ")) ∷ Start Emphasis ∷ Leaf (Text (codes "bar")) ∷ Leaf SoftBreak ∷ Leaf (Text (codes "baz")) ∷ End end.Emphasis ∷ End (end.Heading level.H1) ∷ [])

-- Setext headings
abbrev pub example_83 : EventRow
example_83 = event_row (codes "Foo\n-------------------------\n\nFoo\n=\n")
    (Start (Heading level.H2 None [] []) ∷ Leaf (Text (codes "Foo")) ∷ End (end.Heading level.H2) ∷ Start (Heading level.H1 None [] []) ∷ Leaf (Text (codes "Foo")) ∷ End (end.Heading level.H1) ∷ [])

-- Setext headings
abbrev pub example_84 : EventRow
example_84 = event_row (codes "   Foo\n---\n\n  Foo\n-----\n\n  Foo\n  ===\n")
    (Start (Heading level.H2 None [] []) ∷ Leaf (Text (codes "Foo")) ∷ End (end.Heading level.H2) ∷ Start (Heading level.H2 None [] []) ∷ Leaf (Text (codes "Foo")) ∷ End (end.Heading level.H2) ∷ Start (Heading level.H1 None [] []) ∷ Leaf (Text (codes "Foo")) ∷ End (end.Heading level.H1) ∷ [])

-- Setext headings
abbrev pub example_85 : EventRow
example_85 = event_row (codes "    Foo\n    ---\n\n    Foo\n---\n")
    (Start (CodeBlock (Fenced [])) ∷ Leaf (Text (codes "Foo\n---\n\nFoo\n")) ∷ End end.CodeBlock ∷ Leaf Rule ∷ [])

-- Setext headings
abbrev pub example_86 : EventRow
example_86 = event_row (codes "Foo\n   ----      \n")
    (Start (Heading level.H2 None [] []) ∷ Leaf (Text (codes "Foo")) ∷ End (end.Heading level.H2) ∷ [])

-- Setext headings
abbrev pub example_87 : EventRow
example_87 = event_row (codes "Foo\n    ---\n")
    (Start Paragraph ∷ Leaf (Text (codes "Foo")) ∷ Leaf SoftBreak ∷ Leaf (Text (codes "---")) ∷ End end.Paragraph ∷ [])

-- Setext headings
abbrev pub example_88 : EventRow
example_88 = event_row (codes "Foo\n= =\n\nFoo\n--- -\n")
    (Start Paragraph ∷ Leaf (Text (codes "Foo")) ∷ Leaf SoftBreak ∷ Leaf (Text (codes "= =")) ∷ End end.Paragraph ∷ Start Paragraph ∷ Leaf (Text (codes "Foo")) ∷ End end.Paragraph ∷ Leaf Rule ∷ [])

-- Setext headings
abbrev pub example_89 : EventRow
example_89 = event_row (codes "Foo  \n-----\n")
    (Start (Heading level.H2 None [] []) ∷ Leaf (Text (codes "Foo")) ∷ End (end.Heading level.H2) ∷ [])

-- Setext headings
abbrev pub example_90 : EventRow
example_90 = event_row (codes "Foo\\\n----\n")
    (Start (Heading level.H2 None [] []) ∷ Leaf (Text (codes "Foo\\")) ∷ End (end.Heading level.H2) ∷ [])

-- Setext headings
abbrev pub example_91 : EventRow
example_91 = event_row (codes "`Foo\n----\n`\n\n<a title=\"a lot\n---\nof dashes\"/>\n")
    (Start (Heading level.H2 None [] []) ∷ Leaf (Text (codes "`Foo")) ∷ End (end.Heading level.H2) ∷ Start Paragraph ∷ Leaf (Text (codes "`")) ∷ End end.Paragraph ∷ Start (Heading level.H2 None [] []) ∷ Leaf (Text (codes "<a title=\"a lot")) ∷ End (end.Heading level.H2) ∷ Start Paragraph ∷ Leaf (Text (codes "of dashes\"/>")) ∷ End end.Paragraph ∷ [])

-- Setext headings
abbrev pub example_92 : EventRow
example_92 = event_row (codes "> Foo\n---\n")
    (Start (BlockQuote None) ∷ Start Paragraph ∷ Leaf (Text (codes "Foo")) ∷ End end.Paragraph ∷ End (end.BlockQuote None) ∷ Leaf Rule ∷ [])

-- Setext headings
abbrev pub example_93 : EventRow
example_93 = event_row (codes "> foo\nbar\n===\n")
    (Start (BlockQuote None) ∷ Start Paragraph ∷ Leaf (Text (codes "foo")) ∷ Leaf SoftBreak ∷ Leaf (Text (codes "bar")) ∷ Leaf SoftBreak ∷ Leaf (Text (codes "===")) ∷ End end.Paragraph ∷ End (end.BlockQuote None) ∷ [])

-- Setext headings
abbrev pub example_94 : EventRow
example_94 = event_row (codes "- Foo\n---\n")
    (Start (ListOf None) ∷ Start Item ∷ Leaf (Text (codes "Foo")) ∷ End end.Item ∷ End (end.List false) ∷ Leaf Rule ∷ [])

-- Setext headings
abbrev pub example_95 : EventRow
example_95 = event_row (codes "Foo\nBar\n---\n")
    (Start (Heading level.H2 None [] []) ∷ Leaf (Text (codes "Foo")) ∷ Leaf SoftBreak ∷ Leaf (Text (codes "Bar")) ∷ End (end.Heading level.H2) ∷ [])

-- Setext headings
abbrev pub example_96 : EventRow
example_96 = event_row (codes "---\nFoo\n---\nBar\n---\nBaz\n")
    (Leaf Rule ∷ Start (Heading level.H2 None [] []) ∷ Leaf (Text (codes "Foo")) ∷ End (end.Heading level.H2) ∷ Start (Heading level.H2 None [] []) ∷ Leaf (Text (codes "Bar")) ∷ End (end.Heading level.H2) ∷ Start Paragraph ∷ Leaf (Text (codes "Baz")) ∷ End end.Paragraph ∷ [])

-- Setext headings
abbrev pub example_97 : EventRow
example_97 = event_row (codes "\n====\n")
    (Start Paragraph ∷ Leaf (Text (codes "====")) ∷ End end.Paragraph ∷ [])

-- Setext headings
abbrev pub example_98 : EventRow
example_98 = event_row (codes "---\n---\n")
    (Leaf Rule ∷ Leaf Rule ∷ [])

-- Setext headings
abbrev pub example_99 : EventRow
example_99 = event_row (codes "- foo\n-----\n")
    (Start (ListOf None) ∷ Start Item ∷ Leaf (Text (codes "foo")) ∷ End end.Item ∷ End (end.List false) ∷ Leaf Rule ∷ [])

-- all of these
abbrev pub standard_setext_first : List EventRow
standard_setext_first = example_80 ∷ example_81 ∷ example_82 ∷ example_83 ∷ example_84 ∷ example_85 ∷ example_86 ∷ example_87 ∷ example_88 ∷ example_89 ∷ example_90 ∷ example_91 ∷ example_92 ∷ example_93 ∷ example_94 ∷ example_95 ∷ example_96 ∷ example_97 ∷ example_98 ∷ example_99 ∷ []
