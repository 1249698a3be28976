-- Examples of the standard: links, part 1.
use Rattle.std.specs.Prelude.{List, [], ◌∷◌, codes, encode_utf8_all}
use Rattle.tocmark_event.specs.declared.event.LinkType.TheVariants as kind
use Rattle.tocmark_event.specs.declared.event.TagEnd.TheVariants as end
use Rattle.tocmark_event.specs.View.{Paragraph, Link, Start, End, Leaf, Text, InlineHtml, SoftBreak}
use Rattle.tocmark_commonmark.specs.StandardExamples.{EventRow, event_row}

-- Links
abbrev pub example_482 : EventRow
example_482 = event_row (codes "[link](/uri \"title\")\n")
    (Start Paragraph ∷ Start (Link kind.Inline (codes "/uri") (codes "title") []) ∷ Leaf (Text (codes "link")) ∷ End end.Link ∷ End end.Paragraph ∷ [])

-- Links
abbrev pub example_483 : EventRow
example_483 = event_row (codes "[link](/uri)\n")
    (Start Paragraph ∷ Start (Link kind.Inline (codes "/uri") [] []) ∷ Leaf (Text (codes "link")) ∷ End end.Link ∷ End end.Paragraph ∷ [])

-- Links
abbrev pub example_484 : EventRow
example_484 = event_row (codes "[](./target.md)\n")
    (Start Paragraph ∷ Start (Link kind.Inline (codes "./target.md") [] []) ∷ End end.Link ∷ End end.Paragraph ∷ [])

-- Links
abbrev pub example_485 : EventRow
example_485 = event_row (codes "[link]()\n")
    (Start Paragraph ∷ Start (Link kind.Inline [] [] []) ∷ Leaf (Text (codes "link")) ∷ End end.Link ∷ End end.Paragraph ∷ [])

-- Links
abbrev pub example_486 : EventRow
example_486 = event_row (codes "[link](<>)\n")
    (Start Paragraph ∷ Start (Link kind.Inline [] [] []) ∷ Leaf (Text (codes "link")) ∷ End end.Link ∷ End end.Paragraph ∷ [])

-- Links
abbrev pub example_487 : EventRow
example_487 = event_row (codes "[]()\n")
    (Start Paragraph ∷ Start (Link kind.Inline [] [] []) ∷ End end.Link ∷ End end.Paragraph ∷ [])

-- Links
abbrev pub example_488 : EventRow
example_488 = event_row (codes "[link](/my uri)\n")
    (Start Paragraph ∷ Leaf (Text (codes "[link](/my uri)")) ∷ End end.Paragraph ∷ [])

-- Links
abbrev pub example_489 : EventRow
example_489 = event_row (codes "[link](</my uri>)\n")
    (Start Paragraph ∷ Start (Link kind.Inline (codes "/my uri") [] []) ∷ Leaf (Text (codes "link")) ∷ End end.Link ∷ End end.Paragraph ∷ [])

-- Links
abbrev pub example_490 : EventRow
example_490 = event_row (codes "[link](foo\nbar)\n")
    (Start Paragraph ∷ Leaf (Text (codes "[link](foo")) ∷ Leaf SoftBreak ∷ Leaf (Text (codes "bar)")) ∷ End end.Paragraph ∷ [])

-- Links
abbrev pub example_491 : EventRow
example_491 = event_row (codes "[link](<foo\nbar>)\n")
    (Start Paragraph ∷ Leaf (Text (codes "[link](")) ∷ Leaf (InlineHtml (codes "<foo\nbar>")) ∷ Leaf (Text (codes ")")) ∷ End end.Paragraph ∷ [])

-- Links
abbrev pub example_492 : EventRow
example_492 = event_row (codes "[a](<b)c>)\n")
    (Start Paragraph ∷ Start (Link kind.Inline (codes "b)c") [] []) ∷ Leaf (Text (codes "a")) ∷ End end.Link ∷ End end.Paragraph ∷ [])

-- Links
abbrev pub example_493 : EventRow
example_493 = event_row (codes "[link](<foo\\>)\n")
    (Start Paragraph ∷ Leaf (Text (codes "[link](<foo>)")) ∷ End end.Paragraph ∷ [])

-- Links
abbrev pub example_494 : EventRow
example_494 = event_row (codes "[a](<b)c\n[a](<b)c>\n[a](<b>c)\n")
    (Start Paragraph ∷ Leaf (Text (codes "[a](<b)c")) ∷ Leaf SoftBreak ∷ Leaf (Text (codes "[a](<b)c>")) ∷ Leaf SoftBreak ∷ Leaf (Text (codes "[a](")) ∷ Leaf (InlineHtml (codes "<b>")) ∷ Leaf (Text (codes "c)")) ∷ End end.Paragraph ∷ [])

-- Links
abbrev pub example_495 : EventRow
example_495 = event_row (codes "[link](\\(foo\\))\n")
    (Start Paragraph ∷ Start (Link kind.Inline (codes "(foo)") [] []) ∷ Leaf (Text (codes "link")) ∷ End end.Link ∷ End end.Paragraph ∷ [])

-- Links
abbrev pub example_496 : EventRow
example_496 = event_row (codes "[link](foo(and(bar)))\n")
    (Start Paragraph ∷ Start (Link kind.Inline (codes "foo(and(bar))") [] []) ∷ Leaf (Text (codes "link")) ∷ End end.Link ∷ End end.Paragraph ∷ [])

-- Links
abbrev pub example_497 : EventRow
example_497 = event_row (codes "[link](foo(and(bar))\n")
    (Start Paragraph ∷ Leaf (Text (codes "[link](foo(and(bar))")) ∷ End end.Paragraph ∷ [])

-- Links
abbrev pub example_498 : EventRow
example_498 = event_row (codes "[link](foo\\(and\\(bar\\))\n")
    (Start Paragraph ∷ Start (Link kind.Inline (codes "foo(and(bar)") [] []) ∷ Leaf (Text (codes "link")) ∷ End end.Link ∷ End end.Paragraph ∷ [])

-- Links
abbrev pub example_499 : EventRow
example_499 = event_row (codes "[link](<foo(and(bar)>)\n")
    (Start Paragraph ∷ Start (Link kind.Inline (codes "foo(and(bar)") [] []) ∷ Leaf (Text (codes "link")) ∷ End end.Link ∷ End end.Paragraph ∷ [])

-- Links
abbrev pub example_500 : EventRow
example_500 = event_row (codes "[link](foo\\)\\:)\n")
    (Start Paragraph ∷ Start (Link kind.Inline (codes "foo):") [] []) ∷ Leaf (Text (codes "link")) ∷ End end.Link ∷ End end.Paragraph ∷ [])

-- Links
abbrev pub example_501 : EventRow
example_501 = event_row (codes "[link](#fragment)\n\n[link](http://example.com#fragment)\n\n[link](http://example.com?foo=3#frag)\n")
    (Start Paragraph ∷ Start (Link kind.Inline (codes "#fragment") [] []) ∷ Leaf (Text (codes "link")) ∷ End end.Link ∷ End end.Paragraph ∷ Start Paragraph ∷ Start (Link kind.Inline (codes "http://example.com#fragment") [] []) ∷ Leaf (Text (codes "link")) ∷ End end.Link ∷ End end.Paragraph ∷ Start Paragraph ∷ Start (Link kind.Inline (codes "http://example.com?foo=3#frag") [] []) ∷ Leaf (Text (codes "link")) ∷ End end.Link ∷ End end.Paragraph ∷ [])

-- Links
abbrev pub example_502 : EventRow
example_502 = event_row (codes "[link](foo\\bar)\n")
    (Start Paragraph ∷ Start (Link kind.Inline (codes "foo\\bar") [] []) ∷ Leaf (Text (codes "link")) ∷ End end.Link ∷ End end.Paragraph ∷ [])

-- Links
abbrev pub example_503 : EventRow
example_503 = event_row (codes "[link](foo%20b&auml;)\n")
    (Start Paragraph ∷ Start (Link kind.Inline (encode_utf8_all (codes "foo%20bä")) [] []) ∷ Leaf (Text (codes "link")) ∷ End end.Link ∷ End end.Paragraph ∷ [])

-- Links
abbrev pub example_504 : EventRow
example_504 = event_row (codes "[link](\"title\")\n")
    (Start Paragraph ∷ Start (Link kind.Inline (codes "\"title\"") [] []) ∷ Leaf (Text (codes "link")) ∷ End end.Link ∷ End end.Paragraph ∷ [])

-- Links
abbrev pub example_505 : EventRow
example_505 = event_row (codes "[link](/url \"title\")\n[link](/url 'title')\n[link](/url (title))\n")
    (Start Paragraph ∷ Start (Link kind.Inline (codes "/url") (codes "title") []) ∷ Leaf (Text (codes "link")) ∷ End end.Link ∷ Leaf SoftBreak ∷ Start (Link kind.Inline (codes "/url") (codes "title") []) ∷ Leaf (Text (codes "link")) ∷ End end.Link ∷ Leaf SoftBreak ∷ Start (Link kind.Inline (codes "/url") (codes "title") []) ∷ Leaf (Text (codes "link")) ∷ End end.Link ∷ End end.Paragraph ∷ [])

-- Links
abbrev pub example_506 : EventRow
example_506 = event_row (codes "[link](/url \"title \\\"&quot;\")\n")
    (Start Paragraph ∷ Start (Link kind.Inline (codes "/url") (codes "title \"\"") []) ∷ Leaf (Text (codes "link")) ∷ End end.Link ∷ End end.Paragraph ∷ [])

-- Links
abbrev pub example_507 : EventRow
example_507 = event_row (encode_utf8_all (codes "[link](/url\u{a0}\"title\")\n"))
    (Start Paragraph ∷ Start (Link kind.Inline (encode_utf8_all (codes "/url\u{a0}\"title\"")) [] []) ∷ Leaf (Text (codes "link")) ∷ End end.Link ∷ End end.Paragraph ∷ [])

-- Links
abbrev pub example_508 : EventRow
example_508 = event_row (codes "[link](/url \"title \"and\" title\")\n")
    (Start Paragraph ∷ Leaf (Text (codes "[link](/url \"title \"and\" title\")")) ∷ End end.Paragraph ∷ [])

-- Links
abbrev pub example_509 : EventRow
example_509 = event_row (codes "[link](/url 'title \"and\" title')\n")
    (Start Paragraph ∷ Start (Link kind.Inline (codes "/url") (codes "title \"and\" title") []) ∷ Leaf (Text (codes "link")) ∷ End end.Link ∷ End end.Paragraph ∷ [])

-- Links
abbrev pub example_510 : EventRow
example_510 = event_row (codes "[link](   /uri\n  \"title\"  )\n")
    (Start Paragraph ∷ Start (Link kind.Inline (codes "/uri") (codes "title") []) ∷ Leaf (Text (codes "link")) ∷ End end.Link ∷ End end.Paragraph ∷ [])

-- Links
abbrev pub example_511 : EventRow
example_511 = event_row (codes "[link] (/uri)\n")
    (Start Paragraph ∷ Leaf (Text (codes "[link] (/uri)")) ∷ End end.Paragraph ∷ [])

-- all of these
abbrev pub standard_links_first : List EventRow
standard_links_first = example_482 ∷ example_483 ∷ example_484 ∷ example_485 ∷ example_486 ∷ example_487 ∷ example_488 ∷ example_489 ∷ example_490 ∷ example_491 ∷ example_492 ∷ example_493 ∷ example_494 ∷ example_495 ∷ example_496 ∷ example_497 ∷ example_498 ∷ example_499 ∷ example_500 ∷ example_501 ∷ example_502 ∷ example_503 ∷ example_504 ∷ example_505 ∷ example_506 ∷ example_507 ∷ example_508 ∷ example_509 ∷ example_510 ∷ example_511 ∷ []
