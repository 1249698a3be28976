-- Examples of the standard: links, part 2.
use Rattle.std.specs.Prelude.{List, [], ◌∷◌, codes, encode_utf8_all}
use Rattle.tocmark_event.specs.declared.event.LinkType.TheVariants as kind
use Rattle.tocmark_event.specs.declared.event.TagEnd.TheVariants as end
use Rattle.tocmark_event.specs.View.{Paragraph, Emphasis, Strong, Link, Image, Start, End, Leaf, Text, Code, InlineHtml}
use Rattle.tocmark_commonmark.specs.StandardExamples.{EventRow, event_row}

-- Links
abbrev pub example_512 : EventRow
example_512 = event_row (codes "[link [foo [bar]]](/uri)\n")
    (Start Paragraph ∷ Start (Link kind.Inline (codes "/uri") [] []) ∷ Leaf (Text (codes "link [foo [bar]]")) ∷ End end.Link ∷ End end.Paragraph ∷ [])

-- Links
abbrev pub example_513 : EventRow
example_513 = event_row (codes "[link] bar](/uri)\n")
    (Start Paragraph ∷ Leaf (Text (codes "[link] bar](/uri)")) ∷ End end.Paragraph ∷ [])

-- Links
abbrev pub example_514 : EventRow
example_514 = event_row (codes "[link [bar](/uri)\n")
    (Start Paragraph ∷ Leaf (Text (codes "[link ")) ∷ Start (Link kind.Inline (codes "/uri") [] []) ∷ Leaf (Text (codes "bar")) ∷ End end.Link ∷ End end.Paragraph ∷ [])

-- Links
abbrev pub example_515 : EventRow
example_515 = event_row (codes "[link \\[bar](/uri)\n")
    (Start Paragraph ∷ Start (Link kind.Inline (codes "/uri") [] []) ∷ Leaf (Text (codes "link [bar")) ∷ End end.Link ∷ End end.Paragraph ∷ [])

-- Links
abbrev pub example_516 : EventRow
example_516 = event_row (codes "[link *foo **bar** `#`*](/uri)\n")
    (Start Paragraph ∷ Start (Link kind.Inline (codes "/uri") [] []) ∷ Leaf (Text (codes "link ")) ∷ Start Emphasis ∷ Leaf (Text (codes "foo ")) ∷ Start Strong ∷ Leaf (Text (codes "bar")) ∷ End end.Strong ∷ Leaf (Text (codes " ")) ∷ Leaf (Code (codes "#")) ∷ End end.Emphasis ∷ End end.Link ∷ End end.Paragraph ∷ [])

-- Links
abbrev pub example_517 : EventRow
example_517 = event_row (codes "[![moon](moon.jpg)](/uri)\n")
    (Start Paragraph ∷ Start (Link kind.Inline (codes "/uri") [] []) ∷ Start (Image kind.Inline (codes "moon.jpg") [] []) ∷ Leaf (Text (codes "moon")) ∷ End end.Image ∷ End end.Link ∷ End end.Paragraph ∷ [])

-- Links
abbrev pub example_518 : EventRow
example_518 = event_row (codes "[foo [bar](/uri)](/uri)\n")
    (Start Paragraph ∷ Leaf (Text (codes "[foo ")) ∷ Start (Link kind.Inline (codes "/uri") [] []) ∷ Leaf (Text (codes "bar")) ∷ End end.Link ∷ Leaf (Text (codes "](/uri)")) ∷ End end.Paragraph ∷ [])

-- Links
abbrev pub example_519 : EventRow
example_519 = event_row (codes "[foo *[bar [baz](/uri)](/uri)*](/uri)\n")
    (Start Paragraph ∷ Leaf (Text (codes "[foo ")) ∷ Start Emphasis ∷ Leaf (Text (codes "[bar ")) ∷ Start (Link kind.Inline (codes "/uri") [] []) ∷ Leaf (Text (codes "baz")) ∷ End end.Link ∷ Leaf (Text (codes "](/uri)")) ∷ End end.Emphasis ∷ Leaf (Text (codes "](/uri)")) ∷ End end.Paragraph ∷ [])

-- Links
abbrev pub example_520 : EventRow
example_520 = event_row (codes "![[[foo](uri1)](uri2)](uri3)\n")
    (Start Paragraph ∷ Start (Image kind.Inline (codes "uri3") [] []) ∷ Leaf (Text (codes "[")) ∷ Start (Link kind.Inline (codes "uri1") [] []) ∷ Leaf (Text (codes "foo")) ∷ End end.Link ∷ Leaf (Text (codes "](uri2)")) ∷ End end.Image ∷ End end.Paragraph ∷ [])

-- Links
abbrev pub example_521 : EventRow
example_521 = event_row (codes "*[foo*](/uri)\n")
    (Start Paragraph ∷ Leaf (Text (codes "*")) ∷ Start (Link kind.Inline (codes "/uri") [] []) ∷ Leaf (Text (codes "foo*")) ∷ End end.Link ∷ End end.Paragraph ∷ [])

-- Links
abbrev pub example_522 : EventRow
example_522 = event_row (codes "[foo *bar](baz*)\n")
    (Start Paragraph ∷ Start (Link kind.Inline (codes "baz*") [] []) ∷ Leaf (Text (codes "foo *bar")) ∷ End end.Link ∷ End end.Paragraph ∷ [])

-- Links
abbrev pub example_523 : EventRow
example_523 = event_row (codes "*foo [bar* baz]\n")
    (Start Paragraph ∷ Start Emphasis ∷ Leaf (Text (codes "foo [bar")) ∷ End end.Emphasis ∷ Leaf (Text (codes " baz]")) ∷ End end.Paragraph ∷ [])

-- Links
abbrev pub example_524 : EventRow
example_524 = event_row (codes "[foo <bar attr=\"](baz)\">\n")
    (Start Paragraph ∷ Leaf (Text (codes "[foo ")) ∷ Leaf (InlineHtml (codes "<bar attr=\"](baz)\">")) ∷ End end.Paragraph ∷ [])

-- Links
abbrev pub example_525 : EventRow
example_525 = event_row (codes "[foo`](/uri)`\n")
    (Start Paragraph ∷ Leaf (Text (codes "[foo")) ∷ Leaf (Code (codes "](/uri)")) ∷ End end.Paragraph ∷ [])

-- Links
abbrev pub example_526 : EventRow
example_526 = event_row (codes "[foo<http://example.com/?search=](uri)>\n")
    (Start Paragraph ∷ Leaf (Text (codes "[foo")) ∷ Start (Link kind.Inline (codes "http://example.com/?search=](uri)") [] []) ∷ Leaf (Text (codes "http://example.com/?search=](uri)")) ∷ End end.Link ∷ End end.Paragraph ∷ [])

-- Links
abbrev pub example_527 : EventRow
example_527 = event_row (codes "[foo][bar]\n\n[bar]: /url \"title\"\n")
    (Start Paragraph ∷ Start (Link kind.Inline (codes "/url") (codes "title") []) ∷ Leaf (Text (codes "foo")) ∷ End end.Link ∷ End end.Paragraph ∷ [])

-- Links
abbrev pub example_528 : EventRow
example_528 = event_row (codes "[link [foo [bar]]][ref]\n\n[ref]: /uri\n")
    (Start Paragraph ∷ Start (Link kind.Inline (codes "/uri") [] []) ∷ Leaf (Text (codes "link [foo [bar]]")) ∷ End end.Link ∷ End end.Paragraph ∷ [])

-- Links
abbrev pub example_529 : EventRow
example_529 = event_row (codes "[link \\[bar][ref]\n\n[ref]: /uri\n")
    (Start Paragraph ∷ Start (Link kind.Inline (codes "/uri") [] []) ∷ Leaf (Text (codes "link [bar")) ∷ End end.Link ∷ End end.Paragraph ∷ [])

-- Links
abbrev pub example_530 : EventRow
example_530 = event_row (codes "[link *foo **bar** `#`*][ref]\n\n[ref]: /uri\n")
    (Start Paragraph ∷ Start (Link kind.Inline (codes "/uri") [] []) ∷ Leaf (Text (codes "link ")) ∷ Start Emphasis ∷ Leaf (Text (codes "foo ")) ∷ Start Strong ∷ Leaf (Text (codes "bar")) ∷ End end.Strong ∷ Leaf (Text (codes " ")) ∷ Leaf (Code (codes "#")) ∷ End end.Emphasis ∷ End end.Link ∷ End end.Paragraph ∷ [])

-- Links
abbrev pub example_531 : EventRow
example_531 = event_row (codes "[![moon](moon.jpg)][ref]\n\n[ref]: /uri\n")
    (Start Paragraph ∷ Start (Link kind.Inline (codes "/uri") [] []) ∷ Start (Image kind.Inline (codes "moon.jpg") [] []) ∷ Leaf (Text (codes "moon")) ∷ End end.Image ∷ End end.Link ∷ End end.Paragraph ∷ [])

-- Links
abbrev pub example_532 : EventRow
example_532 = event_row (codes "[foo [bar](/uri)][ref]\n\n[ref]: /uri\n")
    (Start Paragraph ∷ Leaf (Text (codes "[foo ")) ∷ Start (Link kind.Inline (codes "/uri") [] []) ∷ Leaf (Text (codes "bar")) ∷ End end.Link ∷ Leaf (Text (codes "]")) ∷ Start (Link kind.Inline (codes "/uri") [] []) ∷ Leaf (Text (codes "ref")) ∷ End end.Link ∷ End end.Paragraph ∷ [])

-- Links
abbrev pub example_533 : EventRow
example_533 = event_row (codes "[foo *bar [baz][ref]*][ref]\n\n[ref]: /uri\n")
    (Start Paragraph ∷ Leaf (Text (codes "[foo ")) ∷ Start Emphasis ∷ Leaf (Text (codes "bar ")) ∷ Start (Link kind.Inline (codes "/uri") [] []) ∷ Leaf (Text (codes "baz")) ∷ End end.Link ∷ End end.Emphasis ∷ Leaf (Text (codes "]")) ∷ Start (Link kind.Inline (codes "/uri") [] []) ∷ Leaf (Text (codes "ref")) ∷ End end.Link ∷ End end.Paragraph ∷ [])

-- Links
abbrev pub example_534 : EventRow
example_534 = event_row (codes "*[foo*][ref]\n\n[ref]: /uri\n")
    (Start Paragraph ∷ Leaf (Text (codes "*")) ∷ Start (Link kind.Inline (codes "/uri") [] []) ∷ Leaf (Text (codes "foo*")) ∷ End end.Link ∷ End end.Paragraph ∷ [])

-- Links
abbrev pub example_535 : EventRow
example_535 = event_row (codes "[foo *bar][ref]*\n\n[ref]: /uri\n")
    (Start Paragraph ∷ Start (Link kind.Inline (codes "/uri") [] []) ∷ Leaf (Text (codes "foo *bar")) ∷ End end.Link ∷ Leaf (Text (codes "*")) ∷ End end.Paragraph ∷ [])

-- Links
abbrev pub example_536 : EventRow
example_536 = event_row (codes "[foo <bar attr=\"][ref]\">\n\n[ref]: /uri\n")
    (Start Paragraph ∷ Leaf (Text (codes "[foo ")) ∷ Leaf (InlineHtml (codes "<bar attr=\"][ref]\">")) ∷ End end.Paragraph ∷ [])

-- Links
abbrev pub example_537 : EventRow
example_537 = event_row (codes "[foo`][ref]`\n\n[ref]: /uri\n")
    (Start Paragraph ∷ Leaf (Text (codes "[foo")) ∷ Leaf (Code (codes "][ref]")) ∷ End end.Paragraph ∷ [])

-- Links
abbrev pub example_538 : EventRow
example_538 = event_row (codes "[foo<http://example.com/?search=][ref]>\n\n[ref]: /uri\n")
    (Start Paragraph ∷ Leaf (Text (codes "[foo")) ∷ Start (Link kind.Inline (codes "http://example.com/?search=][ref]") [] []) ∷ Leaf (Text (codes "http://example.com/?search=][ref]")) ∷ End end.Link ∷ End end.Paragraph ∷ [])

-- Links
abbrev pub example_539 : EventRow
example_539 = event_row (codes "[foo][BaR]\n\n[bar]: /url \"title\"\n")
    (Start Paragraph ∷ Start (Link kind.Inline (codes "/url") (codes "title") []) ∷ Leaf (Text (codes "foo")) ∷ End end.Link ∷ End end.Paragraph ∷ [])

-- Links
abbrev pub example_540 : EventRow
example_540 = event_row (encode_utf8_all (codes "[ẞ]\n\n[SS]: /url\n"))
    (Start Paragraph ∷ Start (Link kind.Inline (codes "/url") [] []) ∷ Leaf (Text (encode_utf8_all (codes "ẞ"))) ∷ End end.Link ∷ End end.Paragraph ∷ [])

-- Links
abbrev pub example_541 : EventRow
example_541 = event_row (codes "[Foo\n  bar]: /url\n\n[Baz][Foo bar]\n")
    (Start Paragraph ∷ Start (Link kind.Inline (codes "/url") [] []) ∷ Leaf (Text (codes "Baz")) ∷ End end.Link ∷ End end.Paragraph ∷ [])

-- all of these
abbrev pub standard_links_second : List EventRow
standard_links_second = example_512 ∷ example_513 ∷ example_514 ∷ example_515 ∷ example_516 ∷ example_517 ∷ example_518 ∷ example_519 ∷ example_520 ∷ example_521 ∷ example_522 ∷ example_523 ∷ example_524 ∷ example_525 ∷ example_526 ∷ example_527 ∷ example_528 ∷ example_529 ∷ example_530 ∷ example_531 ∷ example_532 ∷ example_533 ∷ example_534 ∷ example_535 ∷ example_536 ∷ example_537 ∷ example_538 ∷ example_539 ∷ example_540 ∷ example_541 ∷ []
