-- Examples of the standard: hard line breaks, soft line breaks, textual content.
use Rattle.std.specs.Prelude.{List, [], ◌∷◌, None, codes, encode_utf8_all}
use Rattle.tocmark_event.specs.declared.event.HeadingLevel.TheVariants as level
use Rattle.tocmark_event.specs.declared.event.TagEnd.TheVariants as end
use Rattle.tocmark_event.specs.View.{Paragraph, Heading, Emphasis, Start, End, Leaf, Text, Code, InlineHtml, SoftBreak, HardBreak}
use Rattle.tocmark_commonmark.specs.StandardExamples.{EventRow, event_row}

-- Hard line breaks
abbrev pub example_633 : EventRow
example_633 = event_row (codes "foo  \nbaz\n")
    (Start Paragraph ∷ Leaf (Text (codes "foo")) ∷ Leaf HardBreak ∷ Leaf (Text (codes "baz")) ∷ End end.Paragraph ∷ [])

-- Hard line breaks
abbrev pub example_634 : EventRow
example_634 = event_row (codes "foo\\\nbaz\n")
    (Start Paragraph ∷ Leaf (Text (codes "foo")) ∷ Leaf HardBreak ∷ Leaf (Text (codes "baz")) ∷ End end.Paragraph ∷ [])

-- Hard line breaks
abbrev pub example_635 : EventRow
example_635 = event_row (codes "foo       \nbaz\n")
    (Start Paragraph ∷ Leaf (Text (codes "foo")) ∷ Leaf HardBreak ∷ Leaf (Text (codes "baz")) ∷ End end.Paragraph ∷ [])

-- Hard line breaks
abbrev pub example_636 : EventRow
example_636 = event_row (codes "foo  \n     bar\n")
    (Start Paragraph ∷ Leaf (Text (codes "foo")) ∷ Leaf HardBreak ∷ Leaf (Text (codes "bar")) ∷ End end.Paragraph ∷ [])

-- Hard line breaks
abbrev pub example_637 : EventRow
example_637 = event_row (codes "foo\\\n     bar\n")
    (Start Paragraph ∷ Leaf (Text (codes "foo")) ∷ Leaf HardBreak ∷ Leaf (Text (codes "bar")) ∷ End end.Paragraph ∷ [])

-- Hard line breaks
abbrev pub example_638 : EventRow
example_638 = event_row (codes "*foo  \nbar*\n")
    (Start Paragraph ∷ Start Emphasis ∷ Leaf (Text (codes "foo")) ∷ Leaf HardBreak ∷ Leaf (Text (codes "bar")) ∷ End end.Emphasis ∷ End end.Paragraph ∷ [])

-- Hard line breaks
abbrev pub example_639 : EventRow
example_639 = event_row (codes "*foo\\\nbar*\n")
    (Start Paragraph ∷ Start Emphasis ∷ Leaf (Text (codes "foo")) ∷ Leaf HardBreak ∷ Leaf (Text (codes "bar")) ∷ End end.Emphasis ∷ End end.Paragraph ∷ [])

-- Hard line breaks
abbrev pub example_640 : EventRow
example_640 = event_row (codes "`code  \nspan`\n")
    (Start Paragraph ∷ Leaf (Code (codes "code   span")) ∷ End end.Paragraph ∷ [])

-- Hard line breaks
abbrev pub example_641 : EventRow
example_641 = event_row (codes "`code\\\nspan`\n")
    (Start Paragraph ∷ Leaf (Code (codes "code\\ span")) ∷ End end.Paragraph ∷ [])

-- Hard line breaks
abbrev pub example_642 : EventRow
example_642 = event_row (codes "<a href=\"foo  \nbar\">\n")
    (Start Paragraph ∷ Leaf (InlineHtml (codes "<a href=\"foo  \nbar\">")) ∷ End end.Paragraph ∷ [])

-- Hard line breaks
abbrev pub example_643 : EventRow
example_643 = event_row (codes "<a href=\"foo\\\nbar\">\n")
    (Start Paragraph ∷ Leaf (InlineHtml (codes "<a href=\"foo\\\nbar\">")) ∷ End end.Paragraph ∷ [])

-- Hard line breaks
abbrev pub example_644 : EventRow
example_644 = event_row (codes "foo\\\n")
    (Start Paragraph ∷ Leaf (Text (codes "foo\\")) ∷ End end.Paragraph ∷ [])

-- Hard line breaks
abbrev pub example_645 : EventRow
example_645 = event_row (codes "foo  \n")
    (Start Paragraph ∷ Leaf (Text (codes "foo")) ∷ End end.Paragraph ∷ [])

-- Hard line breaks
abbrev pub example_646 : EventRow
example_646 = event_row (codes "### foo\\\n")
    (Start (Heading level.H3 None [] []) ∷ Leaf (Text (codes "foo\\")) ∷ End (end.Heading level.H3) ∷ [])

-- Hard line breaks
abbrev pub example_647 : EventRow
example_647 = event_row (codes "### foo  \n")
    (Start (Heading level.H3 None [] []) ∷ Leaf (Text (codes "foo")) ∷ End (end.Heading level.H3) ∷ [])

-- Soft line breaks
abbrev pub example_648 : EventRow
example_648 = event_row (codes "foo\nbaz\n")
    (Start Paragraph ∷ Leaf (Text (codes "foo")) ∷ Leaf SoftBreak ∷ Leaf (Text (codes "baz")) ∷ End end.Paragraph ∷ [])

-- Soft line breaks
abbrev pub example_649 : EventRow
example_649 = event_row (codes "foo \n baz\n")
    (Start Paragraph ∷ Leaf (Text (codes "foo")) ∷ Leaf SoftBreak ∷ Leaf (Text (codes "baz")) ∷ End end.Paragraph ∷ [])

-- Textual content
abbrev pub example_650 : EventRow
example_650 = event_row (codes "hello $.;'there\n")
    (Start Paragraph ∷ Leaf (Text (codes "hello $.;'there")) ∷ End end.Paragraph ∷ [])

-- Textual content
abbrev pub example_651 : EventRow
example_651 = event_row (encode_utf8_all (codes "Foo χρῆν\n"))
    (Start Paragraph ∷ Leaf (Text (encode_utf8_all (codes "Foo χρῆν"))) ∷ End end.Paragraph ∷ [])

-- Textual content
abbrev pub example_652 : EventRow
example_652 = event_row (codes "Multiple     spaces\n")
    (Start Paragraph ∷ Leaf (Text (codes "Multiple     spaces")) ∷ End end.Paragraph ∷ [])

-- all of these
abbrev pub standard_breaks : List EventRow
standard_breaks = example_633 ∷ example_634 ∷ example_635 ∷ example_636 ∷ example_637 ∷ example_638 ∷ example_639 ∷ example_640 ∷ example_641 ∷ example_642 ∷ example_643 ∷ example_644 ∷ example_645 ∷ example_646 ∷ example_647 ∷ example_648 ∷ example_649 ∷ example_650 ∷ example_651 ∷ example_652 ∷ []
