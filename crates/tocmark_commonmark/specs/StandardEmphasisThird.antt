-- Examples of the standard: emphasis and strong emphasis, part 3.
use Rattle.std.specs.Prelude.{List, [], ◌∷◌, codes}
use Rattle.tocmark_event.specs.declared.event.LinkType.TheVariants as kind
use Rattle.tocmark_event.specs.declared.event.TagEnd.TheVariants as end
use Rattle.tocmark_event.specs.View.{Paragraph, Emphasis, Strong, Link, Start, End, Leaf, Text, SoftBreak}
use Rattle.tocmark_commonmark.specs.StandardExamples.{EventRow, event_row}

-- Emphasis and strong emphasis
abbrev pub example_404 : EventRow
example_404 = event_row (codes "*foo [bar](/url)*\n")
    (Start Paragraph ∷ Start Emphasis ∷ Leaf (Text (codes "foo ")) ∷ Start (Link kind.Inline (codes "/url") [] []) ∷ Leaf (Text (codes "bar")) ∷ End end.Link ∷ End end.Emphasis ∷ End end.Paragraph ∷ [])

-- Emphasis and strong emphasis
abbrev pub example_405 : EventRow
example_405 = event_row (codes "*foo\nbar*\n")
    (Start Paragraph ∷ Start Emphasis ∷ Leaf (Text (codes "foo")) ∷ Leaf SoftBreak ∷ Leaf (Text (codes "bar")) ∷ End end.Emphasis ∷ End end.Paragraph ∷ [])

-- Emphasis and strong emphasis
abbrev pub example_406 : EventRow
example_406 = event_row (codes "_foo __bar__ baz_\n")
    (Start Paragraph ∷ Start Emphasis ∷ Leaf (Text (codes "foo ")) ∷ Start Strong ∷ Leaf (Text (codes "bar")) ∷ End end.Strong ∷ Leaf (Text (codes " baz")) ∷ End end.Emphasis ∷ End end.Paragraph ∷ [])

-- Emphasis and strong emphasis
abbrev pub example_407 : EventRow
example_407 = event_row (codes "_foo _bar_ baz_\n")
    (Start Paragraph ∷ Start Emphasis ∷ Leaf (Text (codes "foo ")) ∷ Start Emphasis ∷ Leaf (Text (codes "bar")) ∷ End end.Emphasis ∷ Leaf (Text (codes " baz")) ∷ End end.Emphasis ∷ End end.Paragraph ∷ [])

-- Emphasis and strong emphasis
abbrev pub example_408 : EventRow
example_408 = event_row (codes "__foo_ bar_\n")
    (Start Paragraph ∷ Start Emphasis ∷ Start Emphasis ∷ Leaf (Text (codes "foo")) ∷ End end.Emphasis ∷ Leaf (Text (codes " bar")) ∷ End end.Emphasis ∷ End end.Paragraph ∷ [])

-- Emphasis and strong emphasis
abbrev pub example_409 : EventRow
example_409 = event_row (codes "*foo *bar**\n")
    (Start Paragraph ∷ Start Emphasis ∷ Leaf (Text (codes "foo ")) ∷ Start Emphasis ∷ Leaf (Text (codes "bar")) ∷ End end.Emphasis ∷ End end.Emphasis ∷ End end.Paragraph ∷ [])

-- Emphasis and strong emphasis
abbrev pub example_410 : EventRow
example_410 = event_row (codes "*foo **bar** baz*\n")
    (Start Paragraph ∷ Start Emphasis ∷ Leaf (Text (codes "foo ")) ∷ Start Strong ∷ Leaf (Text (codes "bar")) ∷ End end.Strong ∷ Leaf (Text (codes " baz")) ∷ End end.Emphasis ∷ End end.Paragraph ∷ [])

-- Emphasis and strong emphasis
abbrev pub example_411 : EventRow
example_411 = event_row (codes "*foo**bar**baz*\n")
    (Start Paragraph ∷ Start Emphasis ∷ Leaf (Text (codes "foo")) ∷ Start Strong ∷ Leaf (Text (codes "bar")) ∷ End end.Strong ∷ Leaf (Text (codes "baz")) ∷ End end.Emphasis ∷ End end.Paragraph ∷ [])

-- Emphasis and strong emphasis
abbrev pub example_412 : EventRow
example_412 = event_row (codes "*foo**bar*\n")
    (Start Paragraph ∷ Start Emphasis ∷ Leaf (Text (codes "foo**bar")) ∷ End end.Emphasis ∷ End end.Paragraph ∷ [])

-- Emphasis and strong emphasis
abbrev pub example_413 : EventRow
example_413 = event_row (codes "***foo** bar*\n")
    (Start Paragraph ∷ Start Emphasis ∷ Start Strong ∷ Leaf (Text (codes "foo")) ∷ End end.Strong ∷ Leaf (Text (codes " bar")) ∷ End end.Emphasis ∷ End end.Paragraph ∷ [])

-- Emphasis and strong emphasis
abbrev pub example_414 : EventRow
example_414 = event_row (codes "*foo **bar***\n")
    (Start Paragraph ∷ Start Emphasis ∷ Leaf (Text (codes "foo ")) ∷ Start Strong ∷ Leaf (Text (codes "bar")) ∷ End end.Strong ∷ End end.Emphasis ∷ End end.Paragraph ∷ [])

-- Emphasis and strong emphasis
abbrev pub example_415 : EventRow
example_415 = event_row (codes "*foo**bar***\n")
    (Start Paragraph ∷ Start Emphasis ∷ Leaf (Text (codes "foo")) ∷ Start Strong ∷ Leaf (Text (codes "bar")) ∷ End end.Strong ∷ End end.Emphasis ∷ End end.Paragraph ∷ [])

-- Emphasis and strong emphasis
abbrev pub example_416 : EventRow
example_416 = event_row (codes "foo***bar***baz\n")
    (Start Paragraph ∷ Leaf (Text (codes "foo")) ∷ Start Emphasis ∷ Start Strong ∷ Leaf (Text (codes "bar")) ∷ End end.Strong ∷ End end.Emphasis ∷ Leaf (Text (codes "baz")) ∷ End end.Paragraph ∷ [])

-- Emphasis and strong emphasis
abbrev pub example_417 : EventRow
example_417 = event_row (codes "foo******bar*********baz\n")
    (Start Paragraph ∷ Leaf (Text (codes "foo")) ∷ Start Strong ∷ Start Strong ∷ Start Strong ∷ Leaf (Text (codes "bar")) ∷ End end.Strong ∷ End end.Strong ∷ End end.Strong ∷ Leaf (Text (codes "***baz")) ∷ End end.Paragraph ∷ [])

-- Emphasis and strong emphasis
abbrev pub example_418 : EventRow
example_418 = event_row (codes "*foo **bar *baz* bim** bop*\n")
    (Start Paragraph ∷ Start Emphasis ∷ Leaf (Text (codes "foo ")) ∷ Start Strong ∷ Leaf (Text (codes "bar ")) ∷ Start Emphasis ∷ Leaf (Text (codes "baz")) ∷ End end.Emphasis ∷ Leaf (Text (codes " bim")) ∷ End end.Strong ∷ Leaf (Text (codes " bop")) ∷ End end.Emphasis ∷ End end.Paragraph ∷ [])

-- Emphasis and strong emphasis
abbrev pub example_419 : EventRow
example_419 = event_row (codes "*foo [*bar*](/url)*\n")
    (Start Paragraph ∷ Start Emphasis ∷ Leaf (Text (codes "foo ")) ∷ Start (Link kind.Inline (codes "/url") [] []) ∷ Start Emphasis ∷ Leaf (Text (codes "bar")) ∷ End end.Emphasis ∷ End end.Link ∷ End end.Emphasis ∷ End end.Paragraph ∷ [])

-- Emphasis and strong emphasis
abbrev pub example_420 : EventRow
example_420 = event_row (codes "** is not an empty emphasis\n")
    (Start Paragraph ∷ Leaf (Text (codes "** is not an empty emphasis")) ∷ End end.Paragraph ∷ [])

-- Emphasis and strong emphasis
abbrev pub example_421 : EventRow
example_421 = event_row (codes "**** is not an empty strong emphasis\n")
    (Start Paragraph ∷ Leaf (Text (codes "**** is not an empty strong emphasis")) ∷ End end.Paragraph ∷ [])

-- Emphasis and strong emphasis
abbrev pub example_422 : EventRow
example_422 = event_row (codes "**foo [bar](/url)**\n")
    (Start Paragraph ∷ Start Strong ∷ Leaf (Text (codes "foo ")) ∷ Start (Link kind.Inline (codes "/url") [] []) ∷ Leaf (Text (codes "bar")) ∷ End end.Link ∷ End end.Strong ∷ End end.Paragraph ∷ [])

-- Emphasis and strong emphasis
abbrev pub example_423 : EventRow
example_423 = event_row (codes "**foo\nbar**\n")
    (Start Paragraph ∷ Start Strong ∷ Leaf (Text (codes "foo")) ∷ Leaf SoftBreak ∷ Leaf (Text (codes "bar")) ∷ End end.Strong ∷ End end.Paragraph ∷ [])

-- Emphasis and strong emphasis
abbrev pub example_424 : EventRow
example_424 = event_row (codes "__foo _bar_ baz__\n")
    (Start Paragraph ∷ Start Strong ∷ Leaf (Text (codes "foo ")) ∷ Start Emphasis ∷ Leaf (Text (codes "bar")) ∷ End end.Emphasis ∷ Leaf (Text (codes " baz")) ∷ End end.Strong ∷ End end.Paragraph ∷ [])

-- Emphasis and strong emphasis
abbrev pub example_425 : EventRow
example_425 = event_row (codes "__foo __bar__ baz__\n")
    (Start Paragraph ∷ Start Strong ∷ Leaf (Text (codes "foo ")) ∷ Start Strong ∷ Leaf (Text (codes "bar")) ∷ End end.Strong ∷ Leaf (Text (codes " baz")) ∷ End end.Strong ∷ End end.Paragraph ∷ [])

-- Emphasis and strong emphasis
abbrev pub example_426 : EventRow
example_426 = event_row (codes "____foo__ bar__\n")
    (Start Paragraph ∷ Start Strong ∷ Start Strong ∷ Leaf (Text (codes "foo")) ∷ End end.Strong ∷ Leaf (Text (codes " bar")) ∷ End end.Strong ∷ End end.Paragraph ∷ [])

-- Emphasis and strong emphasis
abbrev pub example_427 : EventRow
example_427 = event_row (codes "**foo **bar****\n")
    (Start Paragraph ∷ Start Strong ∷ Leaf (Text (codes "foo ")) ∷ Start Strong ∷ Leaf (Text (codes "bar")) ∷ End end.Strong ∷ End end.Strong ∷ End end.Paragraph ∷ [])

-- Emphasis and strong emphasis
abbrev pub example_428 : EventRow
example_428 = event_row (codes "**foo *bar* baz**\n")
    (Start Paragraph ∷ Start Strong ∷ Leaf (Text (codes "foo ")) ∷ Start Emphasis ∷ Leaf (Text (codes "bar")) ∷ End end.Emphasis ∷ Leaf (Text (codes " baz")) ∷ End end.Strong ∷ End end.Paragraph ∷ [])

-- Emphasis and strong emphasis
abbrev pub example_429 : EventRow
example_429 = event_row (codes "**foo*bar*baz**\n")
    (Start Paragraph ∷ Start Strong ∷ Leaf (Text (codes "foo")) ∷ Start Emphasis ∷ Leaf (Text (codes "bar")) ∷ End end.Emphasis ∷ Leaf (Text (codes "baz")) ∷ End end.Strong ∷ End end.Paragraph ∷ [])

-- Emphasis and strong emphasis
abbrev pub example_430 : EventRow
example_430 = event_row (codes "***foo* bar**\n")
    (Start Paragraph ∷ Start Strong ∷ Start Emphasis ∷ Leaf (Text (codes "foo")) ∷ End end.Emphasis ∷ Leaf (Text (codes " bar")) ∷ End end.Strong ∷ End end.Paragraph ∷ [])

-- all of these
abbrev pub standard_emphasis_third : List EventRow
standard_emphasis_third = example_404 ∷ example_405 ∷ example_406 ∷ example_407 ∷ example_408 ∷ example_409 ∷ example_410 ∷ example_411 ∷ example_412 ∷ example_413 ∷ example_414 ∷ example_415 ∷ example_416 ∷ example_417 ∷ example_418 ∷ example_419 ∷ example_420 ∷ example_421 ∷ example_422 ∷ example_423 ∷ example_424 ∷ example_425 ∷ example_426 ∷ example_427 ∷ example_428 ∷ example_429 ∷ example_430 ∷ []
