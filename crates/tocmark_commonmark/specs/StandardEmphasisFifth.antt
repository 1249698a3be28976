-- Examples of the standard: emphasis and strong emphasis, part 5.
use Rattle.std.specs.Prelude.{List, [], ◌∷◌, codes}
use Rattle.tocmark_event.specs.declared.event.LinkType.TheVariants as kind
use Rattle.tocmark_event.specs.declared.event.TagEnd.TheVariants as end
use Rattle.tocmark_event.specs.View.{Paragraph, Emphasis, Strong, Link, Start, End, Leaf, Text, Code, InlineHtml}
use Rattle.tocmark_commonmark.specs.StandardExamples.{EventRow, event_row}

-- Emphasis and strong emphasis
abbrev pub example_458 : EventRow
example_458 = event_row (codes "__foo___\n")
    (Start Paragraph ∷ Start Strong ∷ Leaf (Text (codes "foo")) ∷ End end.Strong ∷ Leaf (Text (codes "_")) ∷ End end.Paragraph ∷ [])

-- Emphasis and strong emphasis
abbrev pub example_459 : EventRow
example_459 = event_row (codes "_foo____\n")
    (Start Paragraph ∷ Start Emphasis ∷ Leaf (Text (codes "foo")) ∷ End end.Emphasis ∷ Leaf (Text (codes "___")) ∷ End end.Paragraph ∷ [])

-- Emphasis and strong emphasis
abbrev pub example_460 : EventRow
example_460 = event_row (codes "**foo**\n")
    (Start Paragraph ∷ Start Strong ∷ Leaf (Text (codes "foo")) ∷ End end.Strong ∷ End end.Paragraph ∷ [])

-- Emphasis and strong emphasis
abbrev pub example_461 : EventRow
example_461 = event_row (codes "*_foo_*\n")
    (Start Paragraph ∷ Start Emphasis ∷ Start Emphasis ∷ Leaf (Text (codes "foo")) ∷ End end.Emphasis ∷ End end.Emphasis ∷ End end.Paragraph ∷ [])

-- Emphasis and strong emphasis
abbrev pub example_462 : EventRow
example_462 = event_row (codes "__foo__\n")
    (Start Paragraph ∷ Start Strong ∷ Leaf (Text (codes "foo")) ∷ End end.Strong ∷ End end.Paragraph ∷ [])

-- Emphasis and strong emphasis
abbrev pub example_463 : EventRow
example_463 = event_row (codes "_*foo*_\n")
    (Start Paragraph ∷ Start Emphasis ∷ Start Emphasis ∷ Leaf (Text (codes "foo")) ∷ End end.Emphasis ∷ End end.Emphasis ∷ End end.Paragraph ∷ [])

-- Emphasis and strong emphasis
abbrev pub example_464 : EventRow
example_464 = event_row (codes "****foo****\n")
    (Start Paragraph ∷ Start Strong ∷ Start Strong ∷ Leaf (Text (codes "foo")) ∷ End end.Strong ∷ End end.Strong ∷ End end.Paragraph ∷ [])

-- Emphasis and strong emphasis
abbrev pub example_465 : EventRow
example_465 = event_row (codes "____foo____\n")
    (Start Paragraph ∷ Start Strong ∷ Start Strong ∷ Leaf (Text (codes "foo")) ∷ End end.Strong ∷ End end.Strong ∷ End end.Paragraph ∷ [])

-- Emphasis and strong emphasis
abbrev pub example_466 : EventRow
example_466 = event_row (codes "******foo******\n")
    (Start Paragraph ∷ Start Strong ∷ Start Strong ∷ Start Strong ∷ Leaf (Text (codes "foo")) ∷ End end.Strong ∷ End end.Strong ∷ End end.Strong ∷ End end.Paragraph ∷ [])

-- Emphasis and strong emphasis
abbrev pub example_467 : EventRow
example_467 = event_row (codes "***foo***\n")
    (Start Paragraph ∷ Start Emphasis ∷ Start Strong ∷ Leaf (Text (codes "foo")) ∷ End end.Strong ∷ End end.Emphasis ∷ End end.Paragraph ∷ [])

-- Emphasis and strong emphasis
abbrev pub example_468 : EventRow
example_468 = event_row (codes "_____foo_____\n")
    (Start Paragraph ∷ Start Emphasis ∷ Start Strong ∷ Start Strong ∷ Leaf (Text (codes "foo")) ∷ End end.Strong ∷ End end.Strong ∷ End end.Emphasis ∷ End end.Paragraph ∷ [])

-- Emphasis and strong emphasis
abbrev pub example_469 : EventRow
example_469 = event_row (codes "*foo _bar* baz_\n")
    (Start Paragraph ∷ Start Emphasis ∷ Leaf (Text (codes "foo _bar")) ∷ End end.Emphasis ∷ Leaf (Text (codes " baz_")) ∷ End end.Paragraph ∷ [])

-- Emphasis and strong emphasis
abbrev pub example_470 : EventRow
example_470 = event_row (codes "*foo __bar *baz bim__ bam*\n")
    (Start Paragraph ∷ Start Emphasis ∷ Leaf (Text (codes "foo ")) ∷ Start Strong ∷ Leaf (Text (codes "bar *baz bim")) ∷ End end.Strong ∷ Leaf (Text (codes " bam")) ∷ End end.Emphasis ∷ End end.Paragraph ∷ [])

-- Emphasis and strong emphasis
abbrev pub example_471 : EventRow
example_471 = event_row (codes "**foo **bar baz**\n")
    (Start Paragraph ∷ Leaf (Text (codes "**foo ")) ∷ Start Strong ∷ Leaf (Text (codes "bar baz")) ∷ End end.Strong ∷ End end.Paragraph ∷ [])

-- Emphasis and strong emphasis
abbrev pub example_472 : EventRow
example_472 = event_row (codes "*foo *bar baz*\n")
    (Start Paragraph ∷ Leaf (Text (codes "*foo ")) ∷ Start Emphasis ∷ Leaf (Text (codes "bar baz")) ∷ End end.Emphasis ∷ End end.Paragraph ∷ [])

-- Emphasis and strong emphasis
abbrev pub example_473 : EventRow
example_473 = event_row (codes "*[bar*](/url)\n")
    (Start Paragraph ∷ Leaf (Text (codes "*")) ∷ Start (Link kind.Inline (codes "/url") [] []) ∷ Leaf (Text (codes "bar*")) ∷ End end.Link ∷ End end.Paragraph ∷ [])

-- Emphasis and strong emphasis
abbrev pub example_474 : EventRow
example_474 = event_row (codes "_foo [bar_](/url)\n")
    (Start Paragraph ∷ Leaf (Text (codes "_foo ")) ∷ Start (Link kind.Inline (codes "/url") [] []) ∷ Leaf (Text (codes "bar_")) ∷ End end.Link ∷ End end.Paragraph ∷ [])

-- Emphasis and strong emphasis
abbrev pub example_475 : EventRow
example_475 = event_row (codes "*<img src=\"foo\" title=\"*\"/>\n")
    (Start Paragraph ∷ Leaf (Text (codes "*")) ∷ Leaf (InlineHtml (codes "<img src=\"foo\" title=\"*\"/>")) ∷ End end.Paragraph ∷ [])

-- Emphasis and strong emphasis
abbrev pub example_476 : EventRow
example_476 = event_row (codes "**<a href=\"**\">\n")
    (Start Paragraph ∷ Leaf (Text (codes "**")) ∷ Leaf (InlineHtml (codes "<a href=\"**\">")) ∷ End end.Paragraph ∷ [])

-- Emphasis and strong emphasis
abbrev pub example_477 : EventRow
example_477 = event_row (codes "__<a href=\"__\">\n")
    (Start Paragraph ∷ Leaf (Text (codes "__")) ∷ Leaf (InlineHtml (codes "<a href=\"__\">")) ∷ End end.Paragraph ∷ [])

-- Emphasis and strong emphasis
abbrev pub example_478 : EventRow
example_478 = event_row (codes "*a `*`*\n")
    (Start Paragraph ∷ Start Emphasis ∷ Leaf (Text (codes "a ")) ∷ Leaf (Code (codes "*")) ∷ End end.Emphasis ∷ End end.Paragraph ∷ [])

-- Emphasis and strong emphasis
abbrev pub example_479 : EventRow
example_479 = event_row (codes "_a `_`_\n")
    (Start Paragraph ∷ Start Emphasis ∷ Leaf (Text (codes "a ")) ∷ Leaf (Code (codes "_")) ∷ End end.Emphasis ∷ End end.Paragraph ∷ [])

-- Emphasis and strong emphasis
abbrev pub example_480 : EventRow
example_480 = event_row (codes "**a<http://foo.bar/?q=**>\n")
    (Start Paragraph ∷ Leaf (Text (codes "**a")) ∷ Start (Link kind.Inline (codes "http://foo.bar/?q=**") [] []) ∷ Leaf (Text (codes "http://foo.bar/?q=**")) ∷ End end.Link ∷ End end.Paragraph ∷ [])

-- Emphasis and strong emphasis
abbrev pub example_481 : EventRow
example_481 = event_row (codes "__a<http://foo.bar/?q=__>\n")
    (Start Paragraph ∷ Leaf (Text (codes "__a")) ∷ Start (Link kind.Inline (codes "http://foo.bar/?q=__") [] []) ∷ Leaf (Text (codes "http://foo.bar/?q=__")) ∷ End end.Link ∷ End end.Paragraph ∷ [])

-- all of these
abbrev pub standard_emphasis_fifth : List EventRow
standard_emphasis_fifth = example_458 ∷ example_459 ∷ example_460 ∷ example_461 ∷ example_462 ∷ example_463 ∷ example_464 ∷ example_465 ∷ example_466 ∷ example_467 ∷ example_468 ∷ example_469 ∷ example_470 ∷ example_471 ∷ example_472 ∷ example_473 ∷ example_474 ∷ example_475 ∷ example_476 ∷ example_477 ∷ example_478 ∷ example_479 ∷ example_480 ∷ example_481 ∷ []
