-- Examples of the standard: images, raw HTML, part 1.
use Rattle.std.specs.Prelude.{List, [], ◌∷◌, codes}
use Rattle.tocmark_event.specs.declared.event.LinkType.TheVariants as kind
use Rattle.tocmark_event.specs.declared.event.TagEnd.TheVariants as end
use Rattle.tocmark_event.specs.View.{Paragraph, Emphasis, Link, Image, Start, End, Leaf, Text, SoftBreak}
use Rattle.tocmark_commonmark.specs.StandardExamples.{EventRow, event_row}

-- Images
abbrev pub example_572 : EventRow
example_572 = event_row (codes "![foo](/url \"title\")\n")
    (Start Paragraph ∷ Start (Image kind.Inline (codes "/url") (codes "title") []) ∷ Leaf (Text (codes "foo")) ∷ End end.Image ∷ End end.Paragraph ∷ [])

-- Images
abbrev pub example_573 : EventRow
example_573 = event_row (codes "![foo *bar*]\n\n[foo *bar*]: train.jpg \"train & tracks\"\n")
    (Start Paragraph ∷ Start (Image kind.Inline (codes "train.jpg") (codes "train & tracks") []) ∷ Leaf (Text (codes "foo ")) ∷ Start Emphasis ∷ Leaf (Text (codes "bar")) ∷ End end.Emphasis ∷ End end.Image ∷ End end.Paragraph ∷ [])

-- Images
abbrev pub example_574 : EventRow
example_574 = event_row (codes "![foo ![bar](/url)](/url2)\n")
    (Start Paragraph ∷ Start (Image kind.Inline (codes "/url2") [] []) ∷ Leaf (Text (codes "foo ")) ∷ Start (Image kind.Inline (codes "/url") [] []) ∷ Leaf (Text (codes "bar")) ∷ End end.Image ∷ End end.Image ∷ End end.Paragraph ∷ [])

-- Images
abbrev pub example_575 : EventRow
example_575 = event_row (codes "![foo [bar](/url)](/url2)\n")
    (Start Paragraph ∷ Start (Image kind.Inline (codes "/url2") [] []) ∷ Leaf (Text (codes "foo ")) ∷ Start (Link kind.Inline (codes "/url") [] []) ∷ Leaf (Text (codes "bar")) ∷ End end.Link ∷ End end.Image ∷ End end.Paragraph ∷ [])

-- Images
abbrev pub example_576 : EventRow
example_576 = event_row (codes "![foo *bar*][]\n\n[foo *bar*]: train.jpg \"train & tracks\"\n")
    (Start Paragraph ∷ Start (Image kind.Inline (codes "train.jpg") (codes "train & tracks") []) ∷ Leaf (Text (codes "foo ")) ∷ Start Emphasis ∷ Leaf (Text (codes "bar")) ∷ End end.Emphasis ∷ End end.Image ∷ End end.Paragraph ∷ [])

-- Images
abbrev pub example_577 : EventRow
example_577 = event_row (codes "![foo *bar*][foobar]\n\n[FOOBAR]: train.jpg \"train & tracks\"\n")
    (Start Paragraph ∷ Start (Image kind.Inline (codes "train.jpg") (codes "train & tracks") []) ∷ Leaf (Text (codes "foo ")) ∷ Start Emphasis ∷ Leaf (Text (codes "bar")) ∷ End end.Emphasis ∷ End end.Image ∷ End end.Paragraph ∷ [])

-- Images
abbrev pub example_578 : EventRow
example_578 = event_row (codes "![foo](train.jpg)\n")
    (Start Paragraph ∷ Start (Image kind.Inline (codes "train.jpg") [] []) ∷ Leaf (Text (codes "foo")) ∷ End end.Image ∷ End end.Paragraph ∷ [])

-- Images
abbrev pub example_579 : EventRow
example_579 = event_row (codes "My ![foo bar](/path/to/train.jpg  \"title\"   )\n")
    (Start Paragraph ∷ Leaf (Text (codes "My ")) ∷ Start (Image kind.Inline (codes "/path/to/train.jpg") (codes "title") []) ∷ Leaf (Text (codes "foo bar")) ∷ End end.Image ∷ End end.Paragraph ∷ [])

-- Images
abbrev pub example_580 : EventRow
example_580 = event_row (codes "![foo](<url>)\n")
    (Start Paragraph ∷ Start (Image kind.Inline (codes "url") [] []) ∷ Leaf (Text (codes "foo")) ∷ End end.Image ∷ End end.Paragraph ∷ [])

-- Images
abbrev pub example_581 : EventRow
example_581 = event_row (codes "![](/url)\n")
    (Start Paragraph ∷ Start (Image kind.Inline (codes "/url") [] []) ∷ End end.Image ∷ End end.Paragraph ∷ [])

-- Images
abbrev pub example_582 : EventRow
example_582 = event_row (codes "![foo][bar]\n\n[bar]: /url\n")
    (Start Paragraph ∷ Start (Image kind.Inline (codes "/url") [] []) ∷ Leaf (Text (codes "foo")) ∷ End end.Image ∷ End end.Paragraph ∷ [])

-- Images
abbrev pub example_583 : EventRow
example_583 = event_row (codes "![foo][bar]\n\n[BAR]: /url\n")
    (Start Paragraph ∷ Start (Image kind.Inline (codes "/url") [] []) ∷ Leaf (Text (codes "foo")) ∷ End end.Image ∷ End end.Paragraph ∷ [])

-- Images
abbrev pub example_584 : EventRow
example_584 = event_row (codes "![foo][]\n\n[foo]: /url \"title\"\n")
    (Start Paragraph ∷ Start (Image kind.Inline (codes "/url") (codes "title") []) ∷ Leaf (Text (codes "foo")) ∷ End end.Image ∷ End end.Paragraph ∷ [])

-- Images
abbrev pub example_585 : EventRow
example_585 = event_row (codes "![*foo* bar][]\n\n[*foo* bar]: /url \"title\"\n")
    (Start Paragraph ∷ Start (Image kind.Inline (codes "/url") (codes "title") []) ∷ Start Emphasis ∷ Leaf (Text (codes "foo")) ∷ End end.Emphasis ∷ Leaf (Text (codes " bar")) ∷ End end.Image ∷ End end.Paragraph ∷ [])

-- Images
abbrev pub example_586 : EventRow
example_586 = event_row (codes "![Foo][]\n\n[foo]: /url \"title\"\n")
    (Start Paragraph ∷ Start (Image kind.Inline (codes "/url") (codes "title") []) ∷ Leaf (Text (codes "Foo")) ∷ End end.Image ∷ End end.Paragraph ∷ [])

-- Images
abbrev pub example_587 : EventRow
example_587 = event_row (codes "![foo] \n[]\n\n[foo]: /url \"title\"\n")
    (Start Paragraph ∷ Start (Image kind.Inline (codes "/url") (codes "title") []) ∷ Leaf (Text (codes "foo")) ∷ End end.Image ∷ Leaf SoftBreak ∷ Leaf (Text (codes "[]")) ∷ End end.Paragraph ∷ [])

-- Images
abbrev pub example_588 : EventRow
example_588 = event_row (codes "![foo]\n\n[foo]: /url \"title\"\n")
    (Start Paragraph ∷ Start (Image kind.Inline (codes "/url") (codes "title") []) ∷ Leaf (Text (codes "foo")) ∷ End end.Image ∷ End end.Paragraph ∷ [])

-- Images
abbrev pub example_589 : EventRow
example_589 = event_row (codes "![*foo* bar]\n\n[*foo* bar]: /url \"title\"\n")
    (Start Paragraph ∷ Start (Image kind.Inline (codes "/url") (codes "title") []) ∷ Start Emphasis ∷ Leaf (Text (codes "foo")) ∷ End end.Emphasis ∷ Leaf (Text (codes " bar")) ∷ End end.Image ∷ End end.Paragraph ∷ [])

-- Images
abbrev pub example_590 : EventRow
example_590 = event_row (codes "![[foo]]\n\n[[foo]]: /url \"title\"\n")
    (Start Paragraph ∷ Leaf (Text (codes "![[foo]]")) ∷ End end.Paragraph ∷ Start Paragraph ∷ Leaf (Text (codes "[[foo]]: /url \"title\"")) ∷ End end.Paragraph ∷ [])

-- Images
abbrev pub example_591 : EventRow
example_591 = event_row (codes "![Foo]\n\n[foo]: /url \"title\"\n")
    (Start Paragraph ∷ Start (Image kind.Inline (codes "/url") (codes "title") []) ∷ Leaf (Text (codes "Foo")) ∷ End end.Image ∷ End end.Paragraph ∷ [])

-- Images
abbrev pub example_592 : EventRow
example_592 = event_row (codes "!\\[foo]\n\n[foo]: /url \"title\"\n")
    (Start Paragraph ∷ Leaf (Text (codes "![foo]")) ∷ End end.Paragraph ∷ [])

-- all of these
abbrev pub standard_images_first : List EventRow
standard_images_first = example_572 ∷ example_573 ∷ example_574 ∷ example_575 ∷ example_576 ∷ example_577 ∷ example_578 ∷ example_579 ∷ example_580 ∷ example_581 ∷ example_582 ∷ example_583 ∷ example_584 ∷ example_585 ∷ example_586 ∷ example_587 ∷ example_588 ∷ example_589 ∷ example_590 ∷ example_591 ∷ example_592 ∷ []
