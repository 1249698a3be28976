-- Examples of the standard: precedence, thematic breaks, ATX headings, part 2.
use Rattle.std.specs.Prelude.{false, List, [], ◌∷◌, None, codes}
use Rattle.tocmark_event.specs.declared.event.HeadingLevel.TheVariants as level
use Rattle.tocmark_event.specs.declared.event.TagEnd.TheVariants as end
use Rattle.tocmark_event.specs.View.{Paragraph, Heading, CodeBlock, Fenced, ListOf, Item, Emphasis, Start, End, Leaf, Text, SoftBreak, Rule}
use Rattle.tocmark_commonmark.specs.StandardExamples.{EventRow, event_row}

-- Thematic breaks
abbrev pub example_61 : EventRow
example_61 = event_row (codes "- Foo\n- * * *\n")
    (Start (ListOf None) ∷ Start Item ∷ Leaf (Text (codes "Foo")) ∷ End end.Item ∷ Start Item ∷ Leaf Rule ∷ End end.Item ∷ End (end.List false) ∷ [])

-- ATX headings
abbrev pub example_62 : EventRow
example_62 = event_row (codes "# foo\n## foo\n### foo\n#### foo\n##### foo\n###### foo\n")
    (Start (Heading level.H1 None [] []) ∷ Leaf (Text (codes "foo")) ∷ End (end.Heading level.H1) ∷ Start (Heading level.H2 None [] []) ∷ Leaf (Text (codes "foo")) ∷ End (end.Heading level.H2) ∷ Start (Heading level.H3 None [] []) ∷ Leaf (Text (codes "foo")) ∷ End (end.Heading level.H3) ∷ Start (Heading level.H4 None [] []) ∷ Leaf (Text (codes "foo")) ∷ End (end.Heading level.H4) ∷ Start (Heading level.H5 None [] []) ∷ Leaf (Text (codes "foo")) ∷ End (end.Heading level.H5) ∷ Start (Heading level.H6 None [] []) ∷ Leaf (Text (codes "foo")) ∷ End (end.Heading level.H6) ∷ [])

-- ATX headings
abbrev pub example_63 : EventRow
example_63 = event_row (codes "####### foo\n")
    (Start Paragraph ∷ Leaf (Text (codes "####### foo")) ∷ End end.Paragraph ∷ [])

-- ATX headings
abbrev pub example_64 : EventRow
example_64 = event_row (codes "#5 bolt\n\n#hashtag\n")
    (Start Paragraph ∷ Leaf (Text (codes "#5 bolt")) ∷ End end.Paragraph ∷ Start Paragraph ∷ Leaf (Text (codes "#hashtag")) ∷ End end.Paragraph ∷ [])

-- ATX headings
abbrev pub example_65 : EventRow
example_65 = event_row (codes "\\## foo\n")
    (Start Paragraph ∷ Leaf (Text (codes "## foo")) ∷ End end.Paragraph ∷ [])

-- ATX headings
abbrev pub example_66 : EventRow
example_66 = event_row (codes "# foo *bar* \\*baz\\*\n")
    (Start (Heading level.H1 None [] []) ∷ Leaf (Text (codes "foo ")) ∷ Start Emphasis ∷ Leaf (Text (codes "bar")) ∷ End end.Emphasis ∷ Leaf (Text (codes " *baz*")) ∷ End (end.Heading level.H1) ∷ [])

-- ATX headings
abbrev pub example_67 : EventRow
example_67 = event_row (codes "#                  foo                     \n")
    (Start (Heading level.H1 None [] []) ∷ Leaf (Text (codes "foo")) ∷ End (end.Heading level.H1) ∷ [])

-- ATX headings
abbrev pub example_68 : EventRow
example_68 = event_row (codes " ### foo\n  ## foo\n   # foo\n")
    (Start (Heading level.H3 None [] []) ∷ Leaf (Text (codes "foo")) ∷ End (end.Heading level.H3) ∷ Start (Heading level.H2 None [] []) ∷ Leaf (Text (codes "foo")) ∷ End (end.Heading level.H2) ∷ Start (Heading level.H1 None [] []) ∷ Leaf (Text (codes "foo")) ∷ End (end.Heading level.H1) ∷ [])

-- ATX headings
abbrev pub example_69 : EventRow
example_69 = event_row (codes "    # foo\n")
    (Start (CodeBlock (Fenced [])) ∷ Leaf (Text (codes "# foo\n")) ∷ End end.CodeBlock ∷ [])

-- ATX headings
abbrev pub example_70 : EventRow
example_70 = event_row (codes "foo\n    # bar\n")
    (Start Paragraph ∷ Leaf (Text (codes "foo")) ∷ Leaf SoftBreak ∷ Leaf (Text (codes "# bar")) ∷ End end.Paragraph ∷ [])

-- ATX headings
abbrev pub example_71 : EventRow
example_71 = event_row (codes "## foo ##\n  ###   bar    ###\n")
    (Start (Heading level.H2 None [] []) ∷ Leaf (Text (codes "foo")) ∷ End (end.Heading level.H2) ∷ Start (Heading level.H3 None [] []) ∷ Leaf (Text (codes "bar")) ∷ End (end.Heading level.H3) ∷ [])

-- ATX headings
abbrev pub example_72 : EventRow
example_72 = event_row (codes "# foo ##################################\n##### foo ##\n")
    (Start (Heading level.H1 None [] []) ∷ Leaf (Text (codes "foo")) ∷ End (end.Heading level.H1) ∷ Start (Heading level.H5 None [] []) ∷ Leaf (Text (codes "foo")) ∷ End (end.Heading level.H5) ∷ [])

-- ATX headings
abbrev pub example_73 : EventRow
example_73 = event_row (codes "### foo ###     \n")
    (Start (Heading level.H3 None [] []) ∷ Leaf (Text (codes "foo")) ∷ End (end.Heading level.H3) ∷ [])

-- ATX headings
abbrev pub example_74 : EventRow
example_74 = event_row (codes "### foo ### b\n")
    (Start (Heading level.H3 None [] []) ∷ Leaf (Text (codes "foo ### b")) ∷ End (end.Heading level.H3) ∷ [])

-- ATX headings
abbrev pub example_75 : EventRow
example_75 = event_row (codes "# foo#\n")
    (Start (Heading level.H1 None [] []) ∷ Leaf (Text (codes "foo#")) ∷ End (end.Heading level.H1) ∷ [])

-- ATX headings
abbrev pub example_76 : EventRow
example_76 = event_row (codes "### foo \\###\n## foo #\\##\n# foo \\#\n")
    (Start (Heading level.H3 None [] []) ∷ Leaf (Text (codes "foo ###")) ∷ End (end.Heading level.H3) ∷ Start (Heading level.H2 None [] []) ∷ Leaf (Text (codes "foo ###")) ∷ End (end.Heading level.H2) ∷ Start (Heading level.H1 None [] []) ∷ Leaf (Text (codes "foo #")) ∷ End (end.Heading level.H1) ∷ [])

-- ATX headings
abbrev pub example_77 : EventRow
example_77 = event_row (codes "****\n## foo\n****\n")
    (Leaf Rule ∷ Start (Heading level.H2 None [] []) ∷ Leaf (Text (codes "foo")) ∷ End (end.Heading level.H2) ∷ Leaf Rule ∷ [])

-- ATX headings
abbrev pub example_78 : EventRow
example_78 = event_row (codes "Foo bar\n# baz\nBar foo\n")
    (Start Paragraph ∷ Leaf (Text (codes "Foo bar")) ∷ End end.Paragraph ∷ Start (Heading level.H1 None [] []) ∷ Leaf (Text (codes "baz")) ∷ End (end.Heading level.H1) ∷ Start Paragraph ∷ Leaf (Text (codes "Bar foo")) ∷ End end.Paragraph ∷ [])

-- ATX headings
abbrev pub example_79 : EventRow
example_79 = event_row (codes "## \n#\n### ###\n")
    (Start (Heading level.H2 None [] []) ∷ End (end.Heading level.H2) ∷ Start (Heading level.H1 None [] []) ∷ End (end.Heading level.H1) ∷ Start (Heading level.H3 None [] []) ∷ End (end.Heading level.H3) ∷ [])

-- all of these
abbrev pub standard_precedence_second : List EventRow
standard_precedence_second = example_61 ∷ example_62 ∷ example_63 ∷ example_64 ∷ example_65 ∷ example_66 ∷ example_67 ∷ example_68 ∷ example_69 ∷ example_70 ∷ example_71 ∷ example_72 ∷ example_73 ∷ example_74 ∷ example_75 ∷ example_76 ∷ example_77 ∷ example_78 ∷ example_79 ∷ []
