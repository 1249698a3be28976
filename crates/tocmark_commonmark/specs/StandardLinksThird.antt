-- Examples of the standard: links, part 3.
use Rattle.std.specs.Prelude.{List, [], ◌∷◌, codes}
use Rattle.tocmark_event.specs.declared.event.LinkType.TheVariants as kind
use Rattle.tocmark_event.specs.declared.event.TagEnd.TheVariants as end
use Rattle.tocmark_event.specs.View.{Paragraph, Emphasis, Link, Start, End, Leaf, Text, SoftBreak}
use Rattle.tocmark_commonmark.specs.StandardExamples.{EventRow, event_row}

-- Links
abbrev pub example_542 : EventRow
example_542 = event_row (codes "[foo] [bar]\n\n[bar]: /url \"title\"\n")
    (Start Paragraph ∷ Leaf (Text (codes "[foo] ")) ∷ Start (Link kind.Inline (codes "/url") (codes "title") []) ∷ Leaf (Text (codes "bar")) ∷ End end.Link ∷ End end.Paragraph ∷ [])

-- Links
abbrev pub example_543 : EventRow
example_543 = event_row (codes "[foo]\n[bar]\n\n[bar]: /url \"title\"\n")
    (Start Paragraph ∷ Leaf (Text (codes "[foo]")) ∷ Leaf SoftBreak ∷ Start (Link kind.Inline (codes "/url") (codes "title") []) ∷ Leaf (Text (codes "bar")) ∷ End end.Link ∷ End end.Paragraph ∷ [])

-- Links
abbrev pub example_544 : EventRow
example_544 = event_row (codes "[foo]: /url1\n\n[foo]: /url2\n\n[bar][foo]\n")
    (Start Paragraph ∷ Start (Link kind.Inline (codes "/url1") [] []) ∷ Leaf (Text (codes "bar")) ∷ End end.Link ∷ End end.Paragraph ∷ [])

-- Links
abbrev pub example_545 : EventRow
example_545 = event_row (codes "[bar][foo\\!]\n\n[foo!]: /url\n")
    (Start Paragraph ∷ Leaf (Text (codes "[bar][foo!]")) ∷ End end.Paragraph ∷ [])

-- Links
abbrev pub example_546 : EventRow
example_546 = event_row (codes "[foo][ref[]\n\n[ref[]: /uri\n")
    (Start Paragraph ∷ Leaf (Text (codes "[foo][ref[]")) ∷ End end.Paragraph ∷ Start Paragraph ∷ Leaf (Text (codes "[ref[]: /uri")) ∷ End end.Paragraph ∷ [])

-- Links
abbrev pub example_547 : EventRow
example_547 = event_row (codes "[foo][ref[bar]]\n\n[ref[bar]]: /uri\n")
    (Start Paragraph ∷ Leaf (Text (codes "[foo][ref[bar]]")) ∷ End end.Paragraph ∷ Start Paragraph ∷ Leaf (Text (codes "[ref[bar]]: /uri")) ∷ End end.Paragraph ∷ [])

-- Links
abbrev pub example_548 : EventRow
example_548 = event_row (codes "[[[foo]]]\n\n[[[foo]]]: /url\n")
    (Start Paragraph ∷ Leaf (Text (codes "[[[foo]]]")) ∷ End end.Paragraph ∷ Start Paragraph ∷ Leaf (Text (codes "[[[foo]]]: /url")) ∷ End end.Paragraph ∷ [])

-- Links
abbrev pub example_549 : EventRow
example_549 = event_row (codes "[foo][ref\\[]\n\n[ref\\[]: /uri\n")
    (Start Paragraph ∷ Start (Link kind.Inline (codes "/uri") [] []) ∷ Leaf (Text (codes "foo")) ∷ End end.Link ∷ End end.Paragraph ∷ [])

-- Links
abbrev pub example_550 : EventRow
example_550 = event_row (codes "[bar\\\\]: /uri\n\n[bar\\\\]\n")
    (Start Paragraph ∷ Start (Link kind.Inline (codes "/uri") [] []) ∷ Leaf (Text (codes "bar\\")) ∷ End end.Link ∷ End end.Paragraph ∷ [])

-- Links
abbrev pub example_551 : EventRow
example_551 = event_row (codes "[]\n\n[]: /uri\n")
    (Start Paragraph ∷ Leaf (Text (codes "[]")) ∷ End end.Paragraph ∷ Start Paragraph ∷ Leaf (Text (codes "[]: /uri")) ∷ End end.Paragraph ∷ [])

-- Links
abbrev pub example_552 : EventRow
example_552 = event_row (codes "[\n ]\n\n[\n ]: /uri\n")
    (Start Paragraph ∷ Leaf (Text (codes "[")) ∷ Leaf SoftBreak ∷ Leaf (Text (codes "]")) ∷ End end.Paragraph ∷ Start Paragraph ∷ Leaf (Text (codes "[")) ∷ Leaf SoftBreak ∷ Leaf (Text (codes "]: /uri")) ∷ End end.Paragraph ∷ [])

-- Links
abbrev pub example_553 : EventRow
example_553 = event_row (codes "[foo][]\n\n[foo]: /url \"title\"\n")
    (Start Paragraph ∷ Start (Link kind.Inline (codes "/url") (codes "title") []) ∷ Leaf (Text (codes "foo")) ∷ End end.Link ∷ End end.Paragraph ∷ [])

-- Links
abbrev pub example_554 : EventRow
example_554 = event_row (codes "[*foo* bar][]\n\n[*foo* bar]: /url \"title\"\n")
    (Start Paragraph ∷ Start (Link kind.Inline (codes "/url") (codes "title") []) ∷ Start Emphasis ∷ Leaf (Text (codes "foo")) ∷ End end.Emphasis ∷ Leaf (Text (codes " bar")) ∷ End end.Link ∷ End end.Paragraph ∷ [])

-- Links
abbrev pub example_555 : EventRow
example_555 = event_row (codes "[Foo][]\n\n[foo]: /url \"title\"\n")
    (Start Paragraph ∷ Start (Link kind.Inline (codes "/url") (codes "title") []) ∷ Leaf (Text (codes "Foo")) ∷ End end.Link ∷ End end.Paragraph ∷ [])

-- Links
abbrev pub example_556 : EventRow
example_556 = event_row (codes "[foo] \n[]\n\n[foo]: /url \"title\"\n")
    (Start Paragraph ∷ Start (Link kind.Inline (codes "/url") (codes "title") []) ∷ Leaf (Text (codes "foo")) ∷ End end.Link ∷ Leaf SoftBreak ∷ Leaf (Text (codes "[]")) ∷ End end.Paragraph ∷ [])

-- Links
abbrev pub example_557 : EventRow
example_557 = event_row (codes "[foo]\n\n[foo]: /url \"title\"\n")
    (Start Paragraph ∷ Start (Link kind.Inline (codes "/url") (codes "title") []) ∷ Leaf (Text (codes "foo")) ∷ End end.Link ∷ End end.Paragraph ∷ [])

-- Links
abbrev pub example_558 : EventRow
example_558 = event_row (codes "[*foo* bar]\n\n[*foo* bar]: /url \"title\"\n")
    (Start Paragraph ∷ Start (Link kind.Inline (codes "/url") (codes "title") []) ∷ Start Emphasis ∷ Leaf (Text (codes "foo")) ∷ End end.Emphasis ∷ Leaf (Text (codes " bar")) ∷ End end.Link ∷ End end.Paragraph ∷ [])

-- Links
abbrev pub example_559 : EventRow
example_559 = event_row (codes "[[*foo* bar]]\n\n[*foo* bar]: /url \"title\"\n")
    (Start Paragraph ∷ Leaf (Text (codes "[")) ∷ Start (Link kind.Inline (codes "/url") (codes "title") []) ∷ Start Emphasis ∷ Leaf (Text (codes "foo")) ∷ End end.Emphasis ∷ Leaf (Text (codes " bar")) ∷ End end.Link ∷ Leaf (Text (codes "]")) ∷ End end.Paragraph ∷ [])

-- Links
abbrev pub example_560 : EventRow
example_560 = event_row (codes "[[bar [foo]\n\n[foo]: /url\n")
    (Start Paragraph ∷ Leaf (Text (codes "[[bar ")) ∷ Start (Link kind.Inline (codes "/url") [] []) ∷ Leaf (Text (codes "foo")) ∷ End end.Link ∷ End end.Paragraph ∷ [])

-- Links
abbrev pub example_561 : EventRow
example_561 = event_row (codes "[Foo]\n\n[foo]: /url \"title\"\n")
    (Start Paragraph ∷ Start (Link kind.Inline (codes "/url") (codes "title") []) ∷ Leaf (Text (codes "Foo")) ∷ End end.Link ∷ End end.Paragraph ∷ [])

-- Links
abbrev pub example_562 : EventRow
example_562 = event_row (codes "[foo] bar\n\n[foo]: /url\n")
    (Start Paragraph ∷ Start (Link kind.Inline (codes "/url") [] []) ∷ Leaf (Text (codes "foo")) ∷ End end.Link ∷ Leaf (Text (codes " bar")) ∷ End end.Paragraph ∷ [])

-- Links
abbrev pub example_563 : EventRow
example_563 = event_row (codes "\\[foo]\n\n[foo]: /url \"title\"\n")
    (Start Paragraph ∷ Leaf (Text (codes "[foo]")) ∷ End end.Paragraph ∷ [])

-- Links
abbrev pub example_564 : EventRow
example_564 = event_row (codes "[foo*]: /url\n\n*[foo*]\n")
    (Start Paragraph ∷ Leaf (Text (codes "*")) ∷ Start (Link kind.Inline (codes "/url") [] []) ∷ Leaf (Text (codes "foo*")) ∷ End end.Link ∷ End end.Paragraph ∷ [])

-- Links
abbrev pub example_565 : EventRow
example_565 = event_row (codes "[foo][bar]\n\n[foo]: /url1\n[bar]: /url2\n")
    (Start Paragraph ∷ Start (Link kind.Inline (codes "/url2") [] []) ∷ Leaf (Text (codes "foo")) ∷ End end.Link ∷ End end.Paragraph ∷ [])

-- Links
abbrev pub example_566 : EventRow
example_566 = event_row (codes "[foo][]\n\n[foo]: /url1\n")
    (Start Paragraph ∷ Start (Link kind.Inline (codes "/url1") [] []) ∷ Leaf (Text (codes "foo")) ∷ End end.Link ∷ End end.Paragraph ∷ [])

-- Links
abbrev pub example_567 : EventRow
example_567 = event_row (codes "[foo]()\n\n[foo]: /url1\n")
    (Start Paragraph ∷ Start (Link kind.Inline [] [] []) ∷ Leaf (Text (codes "foo")) ∷ End end.Link ∷ End end.Paragraph ∷ [])

-- Links
abbrev pub example_568 : EventRow
example_568 = event_row (codes "[foo](not a link)\n\n[foo]: /url1\n")
    (Start Paragraph ∷ Start (Link kind.Inline (codes "/url1") [] []) ∷ Leaf (Text (codes "foo")) ∷ End end.Link ∷ Leaf (Text (codes "(not a link)")) ∷ End end.Paragraph ∷ [])

-- Links
abbrev pub example_569 : EventRow
example_569 = event_row (codes "[foo][bar][baz]\n\n[baz]: /url\n")
    (Start Paragraph ∷ Leaf (Text (codes "[foo]")) ∷ Start (Link kind.Inline (codes "/url") [] []) ∷ Leaf (Text (codes "bar")) ∷ End end.Link ∷ End end.Paragraph ∷ [])

-- Links
abbrev pub example_570 : EventRow
example_570 = event_row (codes "[foo][bar][baz]\n\n[baz]: /url1\n[bar]: /url2\n")
    (Start Paragraph ∷ Start (Link kind.Inline (codes "/url2") [] []) ∷ Leaf (Text (codes "foo")) ∷ End end.Link ∷ Start (Link kind.Inline (codes "/url1") [] []) ∷ Leaf (Text (codes "baz")) ∷ End end.Link ∷ End end.Paragraph ∷ [])

-- Links
abbrev pub example_571 : EventRow
example_571 = event_row (codes "[foo][bar][baz]\n\n[baz]: /url1\n[foo]: /url2\n")
    (Start Paragraph ∷ Leaf (Text (codes "[foo]")) ∷ Start (Link kind.Inline (codes "/url1") [] []) ∷ Leaf (Text (codes "bar")) ∷ End end.Link ∷ End end.Paragraph ∷ [])

-- all of these
abbrev pub standard_links_third : List EventRow
standard_links_third = example_542 ∷ example_543 ∷ example_544 ∷ example_545 ∷ example_546 ∷ example_547 ∷ example_548 ∷ example_549 ∷ example_550 ∷ example_551 ∷ example_552 ∷ example_553 ∷ example_554 ∷ example_555 ∷ example_556 ∷ example_557 ∷ example_558 ∷ example_559 ∷ example_560 ∷ example_561 ∷ example_562 ∷ example_563 ∷ example_564 ∷ example_565 ∷ example_566 ∷ example_567 ∷ example_568 ∷ example_569 ∷ example_570 ∷ example_571 ∷ []
