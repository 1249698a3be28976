-- Examples of the standard: inlines, code spans, autolinks, part 1.
use Rattle.std.specs.Prelude.{List, [], ◌∷◌, codes, encode_utf8_all}
use Rattle.tocmark_event.specs.declared.event.LinkType.TheVariants as kind
use Rattle.tocmark_event.specs.declared.event.TagEnd.TheVariants as end
use Rattle.tocmark_event.specs.View.{Paragraph, Link, Start, End, Leaf, Text, Code, InlineHtml, SoftBreak}
use Rattle.tocmark_commonmark.specs.StandardExamples.{EventRow, event_row}

-- Inlines
abbrev pub example_327 : EventRow
example_327 = event_row (codes "`hi`lo`\n")
    (Start Paragraph ∷ Leaf (Code (codes "hi")) ∷ Leaf (Text (codes "lo`")) ∷ End end.Paragraph ∷ [])

-- Code spans
abbrev pub example_328 : EventRow
example_328 = event_row (codes "`foo`\n")
    (Start Paragraph ∷ Leaf (Code (codes "foo")) ∷ End end.Paragraph ∷ [])

-- Code spans
abbrev pub example_329 : EventRow
example_329 = event_row (codes "`` foo ` bar ``\n")
    (Start Paragraph ∷ Leaf (Code (codes "foo ` bar")) ∷ End end.Paragraph ∷ [])

-- Code spans
abbrev pub example_330 : EventRow
example_330 = event_row (codes "` `` `\n")
    (Start Paragraph ∷ Leaf (Code (codes "``")) ∷ End end.Paragraph ∷ [])

-- Code spans
abbrev pub example_331 : EventRow
example_331 = event_row (codes "`  ``  `\n")
    (Start Paragraph ∷ Leaf (Code (codes " `` ")) ∷ End end.Paragraph ∷ [])

-- Code spans
abbrev pub example_332 : EventRow
example_332 = event_row (codes "` a`\n")
    (Start Paragraph ∷ Leaf (Code (codes " a")) ∷ End end.Paragraph ∷ [])

-- Code spans
abbrev pub example_333 : EventRow
example_333 = event_row (encode_utf8_all (codes "`\u{a0}b\u{a0}`\n"))
    (Start Paragraph ∷ Leaf (Code (encode_utf8_all (codes "\u{a0}b\u{a0}"))) ∷ End end.Paragraph ∷ [])

-- Code spans
abbrev pub example_334 : EventRow
example_334 = event_row (encode_utf8_all (codes "`\u{a0}`\n`  `\n"))
    (Start Paragraph ∷ Leaf (Code (encode_utf8_all (codes "\u{a0}"))) ∷ Leaf SoftBreak ∷ Leaf (Code (codes "  ")) ∷ End end.Paragraph ∷ [])

-- Code spans
abbrev pub example_335 : EventRow
example_335 = event_row (codes "``\nfoo\nbar  \nbaz\n``\n")
    (Start Paragraph ∷ Leaf (Code (codes "foo bar   baz")) ∷ End end.Paragraph ∷ [])

-- Code spans
abbrev pub example_336 : EventRow
example_336 = event_row (codes "``\nfoo \n``\n")
    (Start Paragraph ∷ Leaf (Code (codes "foo ")) ∷ End end.Paragraph ∷ [])

-- Code spans
abbrev pub example_337 : EventRow
example_337 = event_row (codes "`foo   bar \nbaz`\n")
    (Start Paragraph ∷ Leaf (Code (codes "foo   bar  baz")) ∷ End end.Paragraph ∷ [])

-- Code spans
abbrev pub example_338 : EventRow
example_338 = event_row (codes "`foo\\`bar`\n")
    (Start Paragraph ∷ Leaf (Code (codes "foo\\")) ∷ Leaf (Text (codes "bar`")) ∷ End end.Paragraph ∷ [])

-- Code spans
abbrev pub example_339 : EventRow
example_339 = event_row (codes "``foo`bar``\n")
    (Start Paragraph ∷ Leaf (Code (codes "foo`bar")) ∷ End end.Paragraph ∷ [])

-- Code spans
abbrev pub example_340 : EventRow
example_340 = event_row (codes "` foo `` bar `\n")
    (Start Paragraph ∷ Leaf (Code (codes "foo `` bar")) ∷ End end.Paragraph ∷ [])

-- Code spans
abbrev pub example_341 : EventRow
example_341 = event_row (codes "*foo`*`\n")
    (Start Paragraph ∷ Leaf (Text (codes "*foo")) ∷ Leaf (Code (codes "*")) ∷ End end.Paragraph ∷ [])

-- Code spans
abbrev pub example_342 : EventRow
example_342 = event_row (codes "[not a `link](/foo`)\n")
    (Start Paragraph ∷ Leaf (Text (codes "[not a ")) ∷ Leaf (Code (codes "link](/foo")) ∷ Leaf (Text (codes ")")) ∷ End end.Paragraph ∷ [])

-- Code spans
abbrev pub example_343 : EventRow
example_343 = event_row (codes "`<a href=\"`\">`\n")
    (Start Paragraph ∷ Leaf (Code (codes "<a href=\"")) ∷ Leaf (Text (codes "\">`")) ∷ End end.Paragraph ∷ [])

-- Code spans
abbrev pub example_344 : EventRow
example_344 = event_row (codes "<a href=\"`\">`\n")
    (Start Paragraph ∷ Leaf (InlineHtml (codes "<a href=\"`\">")) ∷ Leaf (Text (codes "`")) ∷ End end.Paragraph ∷ [])

-- Code spans
abbrev pub example_345 : EventRow
example_345 = event_row (codes "`<http://foo.bar.`baz>`\n")
    (Start Paragraph ∷ Leaf (Code (codes "<http://foo.bar.")) ∷ Leaf (Text (codes "baz>`")) ∷ End end.Paragraph ∷ [])

-- Code spans
abbrev pub example_346 : EventRow
example_346 = event_row (codes "<http://foo.bar.`baz>`\n")
    (Start Paragraph ∷ Start (Link kind.Inline (codes "http://foo.bar.`baz") [] []) ∷ Leaf (Text (codes "http://foo.bar.`baz")) ∷ End end.Link ∷ Leaf (Text (codes "`")) ∷ End end.Paragraph ∷ [])

-- Code spans
abbrev pub example_347 : EventRow
example_347 = event_row (codes "```foo``\n")
    (Start Paragraph ∷ Leaf (Text (codes "```foo``")) ∷ End end.Paragraph ∷ [])

-- all of these
abbrev pub standard_code_first : List EventRow
standard_code_first = example_327 ∷ example_328 ∷ example_329 ∷ example_330 ∷ example_331 ∷ example_332 ∷ example_333 ∷ example_334 ∷ example_335 ∷ example_336 ∷ example_337 ∷ example_338 ∷ example_339 ∷ example_340 ∷ example_341 ∷ example_342 ∷ example_343 ∷ example_344 ∷ example_345 ∷ example_346 ∷ example_347 ∷ []
