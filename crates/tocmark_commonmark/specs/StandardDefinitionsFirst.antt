-- Examples of the standard: link reference definitions, paragraphs, blank lines, part 1.
use Rattle.std.specs.Prelude.{List, [], ◌∷◌, codes, encode_utf8_all}
use Rattle.tocmark_event.specs.declared.event.LinkType.TheVariants as kind
use Rattle.tocmark_event.specs.declared.event.TagEnd.TheVariants as end
use Rattle.tocmark_event.specs.View.{Paragraph, Link, Start, End, Leaf, Text, InlineHtml}
use Rattle.tocmark_commonmark.specs.StandardExamples.{EventRow, event_row}

-- Link reference definitions
abbrev pub example_192 : EventRow
example_192 = event_row (codes "[foo]: /url \"title\"\n\n[foo]\n")
    (Start Paragraph ∷ Start (Link kind.Inline (codes "/url") (codes "title") []) ∷ Leaf (Text (codes "foo")) ∷ End end.Link ∷ End end.Paragraph ∷ [])

-- Link reference definitions
abbrev pub example_193 : EventRow
example_193 = event_row (codes "   [foo]: \n      /url  \n           'the title'  \n\n[foo]\n")
    (Start Paragraph ∷ Start (Link kind.Inline (codes "/url") (codes "the title") []) ∷ Leaf (Text (codes "foo")) ∷ End end.Link ∷ End end.Paragraph ∷ [])

-- Link reference definitions
abbrev pub example_194 : EventRow
example_194 = event_row (codes "[Foo*bar\\]]:my_(url) 'title (with parens)'\n\n[Foo*bar\\]]\n")
    (Start Paragraph ∷ Start (Link kind.Inline (codes "my_(url)") (codes "title (with parens)") []) ∷ Leaf (Text (codes "Foo*bar]")) ∷ End end.Link ∷ End end.Paragraph ∷ [])

-- Link reference definitions
abbrev pub example_195 : EventRow
example_195 = event_row (codes "[Foo bar]:\n<my url>\n'title'\n\n[Foo bar]\n")
    (Start Paragraph ∷ Start (Link kind.Inline (codes "my url") (codes "title") []) ∷ Leaf (Text (codes "Foo bar")) ∷ End end.Link ∷ End end.Paragraph ∷ [])

-- Link reference definitions
abbrev pub example_196 : EventRow
example_196 = event_row (codes "[foo]: /url '\ntitle\nline1\nline2\n'\n\n[foo]\n")
    (Start Paragraph ∷ Start (Link kind.Inline (codes "/url") (codes "\ntitle\nline1\nline2\n") []) ∷ Leaf (Text (codes "foo")) ∷ End end.Link ∷ End end.Paragraph ∷ [])

-- Link reference definitions
abbrev pub example_197 : EventRow
example_197 = event_row (codes "[foo]: /url 'title\n\nwith blank line'\n\n[foo]\n")
    (Start Paragraph ∷ Leaf (Text (codes "[foo]: /url 'title")) ∷ End end.Paragraph ∷ Start Paragraph ∷ Leaf (Text (codes "with blank line'")) ∷ End end.Paragraph ∷ Start Paragraph ∷ Leaf (Text (codes "[foo]")) ∷ End end.Paragraph ∷ [])

-- Link reference definitions
abbrev pub example_198 : EventRow
example_198 = event_row (codes "[foo]:\n/url\n\n[foo]\n")
    (Start Paragraph ∷ Start (Link kind.Inline (codes "/url") [] []) ∷ Leaf (Text (codes "foo")) ∷ End end.Link ∷ End end.Paragraph ∷ [])

-- Link reference definitions
abbrev pub example_199 : EventRow
example_199 = event_row (codes "[foo]:\n\n[foo]\n")
    (Start Paragraph ∷ Leaf (Text (codes "[foo]:")) ∷ End end.Paragraph ∷ Start Paragraph ∷ Leaf (Text (codes "[foo]")) ∷ End end.Paragraph ∷ [])

-- Link reference definitions
abbrev pub example_200 : EventRow
example_200 = event_row (codes "[foo]: <>\n\n[foo]\n")
    (Start Paragraph ∷ Start (Link kind.Inline [] [] []) ∷ Leaf (Text (codes "foo")) ∷ End end.Link ∷ End end.Paragraph ∷ [])

-- Link reference definitions
abbrev pub example_201 : EventRow
example_201 = event_row (codes "[foo]: <bar>(baz)\n\n[foo]\n")
    (Start Paragraph ∷ Leaf (Text (codes "[foo]: ")) ∷ Leaf (InlineHtml (codes "<bar>")) ∷ Leaf (Text (codes "(baz)")) ∷ End end.Paragraph ∷ Start Paragraph ∷ Leaf (Text (codes "[foo]")) ∷ End end.Paragraph ∷ [])

-- Link reference definitions
abbrev pub example_202 : EventRow
example_202 = event_row (codes "[foo]: /url\\bar\\*baz \"foo\\\"bar\\baz\"\n\n[foo]\n")
    (Start Paragraph ∷ Start (Link kind.Inline (codes "/url\\bar*baz") (codes "foo\"bar\\baz") []) ∷ Leaf (Text (codes "foo")) ∷ End end.Link ∷ End end.Paragraph ∷ [])

-- Link reference definitions
abbrev pub example_203 : EventRow
example_203 = event_row (codes "[foo]\n\n[foo]: url\n")
    (Start Paragraph ∷ Start (Link kind.Inline (codes "url") [] []) ∷ Leaf (Text (codes "foo")) ∷ End end.Link ∷ End end.Paragraph ∷ [])

-- Link reference definitions
abbrev pub example_204 : EventRow
example_204 = event_row (codes "[foo]\n\n[foo]: first\n[foo]: second\n")
    (Start Paragraph ∷ Start (Link kind.Inline (codes "first") [] []) ∷ Leaf (Text (codes "foo")) ∷ End end.Link ∷ End end.Paragraph ∷ [])

-- Link reference definitions
abbrev pub example_205 : EventRow
example_205 = event_row (codes "[FOO]: /url\n\n[Foo]\n")
    (Start Paragraph ∷ Start (Link kind.Inline (codes "/url") [] []) ∷ Leaf (Text (codes "Foo")) ∷ End end.Link ∷ End end.Paragraph ∷ [])

-- Link reference definitions
abbrev pub example_206 : EventRow
example_206 = event_row (encode_utf8_all (codes "[ΑΓΩ]: /φου\n\n[αγω]\n"))
    (Start Paragraph ∷ Start (Link kind.Inline (encode_utf8_all (codes "/φου")) [] []) ∷ Leaf (Text (encode_utf8_all (codes "αγω"))) ∷ End end.Link ∷ End end.Paragraph ∷ [])

-- Link reference definitions
abbrev pub example_207 : EventRow
example_207 = event_row (codes "[foo]: /url\n")
    ([])

-- Link reference definitions
abbrev pub example_208 : EventRow
example_208 = event_row (codes "[\nfoo\n]: /url\nbar\n")
    (Start Paragraph ∷ Leaf (Text (codes "bar")) ∷ End end.Paragraph ∷ [])

-- Link reference definitions
abbrev pub example_209 : EventRow
example_209 = event_row (codes "[foo]: /url \"title\" ok\n")
    (Start Paragraph ∷ Leaf (Text (codes "[foo]: /url \"title\" ok")) ∷ End end.Paragraph ∷ [])

-- all of these
abbrev pub standard_definitions_first : List EventRow
standard_definitions_first = example_192 ∷ example_193 ∷ example_194 ∷ example_195 ∷ example_196 ∷ example_197 ∷ example_198 ∷ example_199 ∷ example_200 ∷ example_201 ∷ example_202 ∷ example_203 ∷ example_204 ∷ example_205 ∷ example_206 ∷ example_207 ∷ example_208 ∷ example_209 ∷ []
