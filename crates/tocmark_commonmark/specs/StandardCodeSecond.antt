-- Examples of the standard: inlines, code spans, autolinks, part 2.
use Rattle.std.specs.Prelude.{List, [], ◌∷◌, codes}
use Rattle.tocmark_event.specs.declared.event.LinkType.TheVariants as kind
use Rattle.tocmark_event.specs.declared.event.TagEnd.TheVariants as end
use Rattle.tocmark_event.specs.View.{Paragraph, Link, Start, End, Leaf, Text, Code}
use Rattle.tocmark_commonmark.specs.StandardExamples.{EventRow, event_row}

-- Code spans
abbrev pub example_348 : EventRow
example_348 = event_row (codes "`foo\n")
    (Start Paragraph ∷ Leaf (Text (codes "`foo")) ∷ End end.Paragraph ∷ [])

-- Code spans
abbrev pub example_349 : EventRow
example_349 = event_row (codes "`foo``bar``\n")
    (Start Paragraph ∷ Leaf (Text (codes "`foo")) ∷ Leaf (Code (codes "bar")) ∷ End end.Paragraph ∷ [])

-- Autolinks
abbrev pub example_594 : EventRow
example_594 = event_row (codes "<http://foo.bar.baz>\n")
    (Start Paragraph ∷ Start (Link kind.Inline (codes "http://foo.bar.baz") [] []) ∷ Leaf (Text (codes "http://foo.bar.baz")) ∷ End end.Link ∷ End end.Paragraph ∷ [])

-- Autolinks
abbrev pub example_595 : EventRow
example_595 = event_row (codes "<http://foo.bar.baz/test?q=hello&id=22&boolean>\n")
    (Start Paragraph ∷ Start (Link kind.Inline (codes "http://foo.bar.baz/test?q=hello&id=22&boolean") [] []) ∷ Leaf (Text (codes "http://foo.bar.baz/test?q=hello&id=22&boolean")) ∷ End end.Link ∷ End end.Paragraph ∷ [])

-- Autolinks
abbrev pub example_596 : EventRow
example_596 = event_row (codes "<irc://foo.bar:2233/baz>\n")
    (Start Paragraph ∷ Start (Link kind.Inline (codes "irc://foo.bar:2233/baz") [] []) ∷ Leaf (Text (codes "irc://foo.bar:2233/baz")) ∷ End end.Link ∷ End end.Paragraph ∷ [])

-- Autolinks
abbrev pub example_597 : EventRow
example_597 = event_row (codes "<MAILTO:FOO@BAR.BAZ>\n")
    (Start Paragraph ∷ Start (Link kind.Inline (codes "MAILTO:FOO@BAR.BAZ") [] []) ∷ Leaf (Text (codes "MAILTO:FOO@BAR.BAZ")) ∷ End end.Link ∷ End end.Paragraph ∷ [])

-- Autolinks
abbrev pub example_598 : EventRow
example_598 = event_row (codes "<a+b+c:d>\n")
    (Start Paragraph ∷ Start (Link kind.Inline (codes "a+b+c:d") [] []) ∷ Leaf (Text (codes "a+b+c:d")) ∷ End end.Link ∷ End end.Paragraph ∷ [])

-- Autolinks
abbrev pub example_599 : EventRow
example_599 = event_row (codes "<made-up-scheme://foo,bar>\n")
    (Start Paragraph ∷ Start (Link kind.Inline (codes "made-up-scheme://foo,bar") [] []) ∷ Leaf (Text (codes "made-up-scheme://foo,bar")) ∷ End end.Link ∷ End end.Paragraph ∷ [])

-- Autolinks
abbrev pub example_600 : EventRow
example_600 = event_row (codes "<http://../>\n")
    (Start Paragraph ∷ Start (Link kind.Inline (codes "http://../") [] []) ∷ Leaf (Text (codes "http://../")) ∷ End end.Link ∷ End end.Paragraph ∷ [])

-- Autolinks
abbrev pub example_601 : EventRow
example_601 = event_row (codes "<localhost:5001/foo>\n")
    (Start Paragraph ∷ Start (Link kind.Inline (codes "localhost:5001/foo") [] []) ∷ Leaf (Text (codes "localhost:5001/foo")) ∷ End end.Link ∷ End end.Paragraph ∷ [])

-- Autolinks
abbrev pub example_602 : EventRow
example_602 = event_row (codes "<http://foo.bar/baz bim>\n")
    (Start Paragraph ∷ Leaf (Text (codes "<http://foo.bar/baz bim>")) ∷ End end.Paragraph ∷ [])

-- Autolinks
abbrev pub example_603 : EventRow
example_603 = event_row (codes "<http://example.com/\\[\\>\n")
    (Start Paragraph ∷ Start (Link kind.Inline (codes "http://example.com/\\[\\") [] []) ∷ Leaf (Text (codes "http://example.com/\\[\\")) ∷ End end.Link ∷ End end.Paragraph ∷ [])

-- Autolinks
abbrev pub example_604 : EventRow
example_604 = event_row (codes "<foo@bar.example.com>\n")
    (Start Paragraph ∷ Start (Link kind.Inline (codes "mailto:foo@bar.example.com") [] []) ∷ Leaf (Text (codes "foo@bar.example.com")) ∷ End end.Link ∷ End end.Paragraph ∷ [])

-- Autolinks
abbrev pub example_605 : EventRow
example_605 = event_row (codes "<foo+special@Bar.baz-bar0.com>\n")
    (Start Paragraph ∷ Start (Link kind.Inline (codes "mailto:foo+special@Bar.baz-bar0.com") [] []) ∷ Leaf (Text (codes "foo+special@Bar.baz-bar0.com")) ∷ End end.Link ∷ End end.Paragraph ∷ [])

-- Autolinks
abbrev pub example_606 : EventRow
example_606 = event_row (codes "<foo\\+@bar.example.com>\n")
    (Start Paragraph ∷ Leaf (Text (codes "<foo+@bar.example.com>")) ∷ End end.Paragraph ∷ [])

-- Autolinks
abbrev pub example_607 : EventRow
example_607 = event_row (codes "<>\n")
    (Start Paragraph ∷ Leaf (Text (codes "<>")) ∷ End end.Paragraph ∷ [])

-- Autolinks
abbrev pub example_608 : EventRow
example_608 = event_row (codes "< http://foo.bar >\n")
    (Start Paragraph ∷ Leaf (Text (codes "< http://foo.bar >")) ∷ End end.Paragraph ∷ [])

-- Autolinks
abbrev pub example_609 : EventRow
example_609 = event_row (codes "<m:abc>\n")
    (Start Paragraph ∷ Leaf (Text (codes "<m:abc>")) ∷ End end.Paragraph ∷ [])

-- Autolinks
abbrev pub example_610 : EventRow
example_610 = event_row (codes "<foo.bar.baz>\n")
    (Start Paragraph ∷ Leaf (Text (codes "<foo.bar.baz>")) ∷ End end.Paragraph ∷ [])

-- Autolinks
abbrev pub example_611 : EventRow
example_611 = event_row (codes "http://example.com\n")
    (Start Paragraph ∷ Leaf (Text (codes "http://example.com")) ∷ End end.Paragraph ∷ [])

-- Autolinks
abbrev pub example_612 : EventRow
example_612 = event_row (codes "foo@bar.example.com\n")
    (Start Paragraph ∷ Leaf (Text (codes "foo@bar.example.com")) ∷ End end.Paragraph ∷ [])

-- all of these
abbrev pub standard_code_second : List EventRow
standard_code_second = example_348 ∷ example_349 ∷ example_594 ∷ example_595 ∷ example_596 ∷ example_597 ∷ example_598 ∷ example_599 ∷ example_600 ∷ example_601 ∷ example_602 ∷ example_603 ∷ example_604 ∷ example_605 ∷ example_606 ∷ example_607 ∷ example_608 ∷ example_609 ∷ example_610 ∷ example_611 ∷ example_612 ∷ []
