-- Examples of the standard: precedence, thematic breaks, ATX headings, part 1.
use Rattle.std.specs.Prelude.{false, List, [], ◌∷◌, None, codes}
use Rattle.tocmark_event.specs.declared.event.HeadingLevel.TheVariants as level
use Rattle.tocmark_event.specs.declared.event.TagEnd.TheVariants as end
use Rattle.tocmark_event.specs.View.{Paragraph, Heading, CodeBlock, Fenced, ListOf, Item, Emphasis, Start, End, Leaf, Text, SoftBreak, Rule}
use Rattle.tocmark_commonmark.specs.StandardExamples.{EventRow, event_row}

-- Precedence
abbrev pub example_42 : EventRow
example_42 = event_row (codes "- `one\n- two`\n")
    (Start (ListOf None) ∷ Start Item ∷ Leaf (Text (codes "`one")) ∷ End end.Item ∷ Start Item ∷ Leaf (Text (codes "two`")) ∷ End end.Item ∷ End (end.List false) ∷ [])

-- Thematic breaks
abbrev pub example_43 : EventRow
example_43 = event_row (codes "***\n---\n___\n")
    (Leaf Rule ∷ Leaf Rule ∷ Leaf Rule ∷ [])

-- Thematic breaks
abbrev pub example_44 : EventRow
example_44 = event_row (codes "+++\n")
    (Start Paragraph ∷ Leaf (Text (codes "+++")) ∷ End end.Paragraph ∷ [])

-- Thematic breaks
abbrev pub example_45 : EventRow
example_45 = event_row (codes "===\n")
    (Start Paragraph ∷ Leaf (Text (codes "===")) ∷ End end.Paragraph ∷ [])

-- Thematic breaks
abbrev pub example_46 : EventRow
example_46 = event_row (codes "--\n**\n__\n")
    (Start Paragraph ∷ Leaf (Text (codes "--")) ∷ Leaf SoftBreak ∷ Leaf (Text (codes "**")) ∷ Leaf SoftBreak ∷ Leaf (Text (codes "__")) ∷ End end.Paragraph ∷ [])

-- Thematic breaks
abbrev pub example_47 : EventRow
example_47 = event_row (codes " ***\n  ***\n   ***\n")
    (Leaf Rule ∷ Leaf Rule ∷ Leaf Rule ∷ [])

-- Thematic breaks
abbrev pub example_48 : EventRow
example_48 = event_row (codes "    ***\n")
    (Start (CodeBlock (Fenced [])) ∷ Leaf (Text (codes "***\n")) ∷ End end.CodeBlock ∷ [])

-- Thematic breaks
abbrev pub example_49 : EventRow
example_49 = event_row (codes "Foo\n    ***\n")
    (Start Paragraph ∷ Leaf (Text (codes "Foo")) ∷ Leaf SoftBreak ∷ Leaf (Text (codes "***")) ∷ End end.Paragraph ∷ [])

-- Thematic breaks
abbrev pub example_50 : EventRow
example_50 = event_row (codes "_____________________________________\n")
    (Leaf Rule ∷ [])

-- Thematic breaks
abbrev pub example_51 : EventRow
example_51 = event_row (codes " - - -\n")
    (Leaf Rule ∷ [])

-- Thematic breaks
abbrev pub example_52 : EventRow
example_52 = event_row (codes " **  * ** * ** * **\n")
    (Leaf Rule ∷ [])

-- Thematic breaks
abbrev pub example_53 : EventRow
example_53 = event_row (codes "-     -      -      -\n")
    (Leaf Rule ∷ [])

-- Thematic breaks
abbrev pub example_54 : EventRow
example_54 = event_row (codes "- - - -    \n")
    (Leaf Rule ∷ [])

-- Thematic breaks
abbrev pub example_55 : EventRow
example_55 = event_row (codes "_ _ _ _ a\n\na------\n\n---a---\n")
    (Start Paragraph ∷ Leaf (Text (codes "_ _ _ _ a")) ∷ End end.Paragraph ∷ Start Paragraph ∷ Leaf (Text (codes "a------")) ∷ End end.Paragraph ∷ Start Paragraph ∷ Leaf (Text (codes "---a---")) ∷ End end.Paragraph ∷ [])

-- Thematic breaks
abbrev pub example_56 : EventRow
example_56 = event_row (codes " *-*\n")
    (Start Paragraph ∷ Start Emphasis ∷ Leaf (Text (codes "-")) ∷ End end.Emphasis ∷ End end.Paragraph ∷ [])

-- Thematic breaks
abbrev pub example_57 : EventRow
example_57 = event_row (codes "- foo\n***\n- bar\n")
    (Start (ListOf None) ∷ Start Item ∷ Leaf (Text (codes "foo")) ∷ End end.Item ∷ End (end.List false) ∷ Leaf Rule ∷ Start (ListOf None) ∷ Start Item ∷ Leaf (Text (codes "bar")) ∷ End end.Item ∷ End (end.List false) ∷ [])

-- Thematic breaks
abbrev pub example_58 : EventRow
example_58 = event_row (codes "Foo\n***\nbar\n")
    (Start Paragraph ∷ Leaf (Text (codes "Foo")) ∷ End end.Paragraph ∷ Leaf Rule ∷ Start Paragraph ∷ Leaf (Text (codes "bar")) ∷ End end.Paragraph ∷ [])

-- Thematic breaks
abbrev pub example_59 : EventRow
example_59 = event_row (codes "Foo\n---\nbar\n")
    (Start (Heading level.H2 None [] []) ∷ Leaf (Text (codes "Foo")) ∷ End (end.Heading level.H2) ∷ Start Paragraph ∷ Leaf (Text (codes "bar")) ∷ End end.Paragraph ∷ [])

-- Thematic breaks
abbrev pub example_60 : EventRow
example_60 = event_row (codes "* Foo\n* * *\n* Bar\n")
    (Start (ListOf None) ∷ Start Item ∷ Leaf (Text (codes "Foo")) ∷ End end.Item ∷ End (end.List false) ∷ Leaf Rule ∷ Start (ListOf None) ∷ Start Item ∷ Leaf (Text (codes "Bar")) ∷ End end.Item ∷ End (end.List false) ∷ [])

-- all of these
abbrev pub standard_precedence_first : List EventRow
standard_precedence_first = example_42 ∷ example_43 ∷ example_44 ∷ example_45 ∷ example_46 ∷ example_47 ∷ example_48 ∷ example_49 ∷ example_50 ∷ example_51 ∷ example_52 ∷ example_53 ∷ example_54 ∷ example_55 ∷ example_56 ∷ example_57 ∷ example_58 ∷ example_59 ∷ example_60 ∷ []
