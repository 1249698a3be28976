-- Examples of the standard: link reference definitions, paragraphs, blank lines, part 2.
use Rattle.std.specs.Prelude.{List, [], ◌∷◌, None, codes}
use Rattle.tocmark_event.specs.declared.event.HeadingLevel.TheVariants as level
use Rattle.tocmark_event.specs.declared.event.LinkType.TheVariants as kind
use Rattle.tocmark_event.specs.declared.event.TagEnd.TheVariants as end
use Rattle.tocmark_event.specs.View.{Paragraph, Heading, BlockQuote, CodeBlock, Fenced, Link, Start, End, Leaf, Text, SoftBreak, HardBreak}
use Rattle.tocmark_commonmark.specs.StandardExamples.{EventRow, event_row}

-- Link reference definitions
abbrev pub example_210 : EventRow
example_210 = event_row (codes "[foo]: /url\n\"title\" ok\n")
    (Start Paragraph ∷ Leaf (Text (codes "\"title\" ok")) ∷ End end.Paragraph ∷ [])

-- Link reference definitions
abbrev pub example_211 : EventRow
example_211 = event_row (codes "    [foo]: /url \"title\"\n\n[foo]\n")
    (Start (CodeBlock (Fenced [])) ∷ Leaf (Text (codes "[foo]: /url \"title\"\n")) ∷ End end.CodeBlock ∷ Start Paragraph ∷ Leaf (Text (codes "[foo]")) ∷ End end.Paragraph ∷ [])

-- Link reference definitions
abbrev pub example_212 : EventRow
example_212 = event_row (codes "```\n[foo]: /url\n```\n\n[foo]\n")
    (Start (CodeBlock (Fenced [])) ∷ Leaf (Text (codes "[foo]: /url\n")) ∷ End end.CodeBlock ∷ Start Paragraph ∷ Leaf (Text (codes "[foo]")) ∷ End end.Paragraph ∷ [])

-- Link reference definitions
abbrev pub example_213 : EventRow
example_213 = event_row (codes "Foo\n[bar]: /baz\n\n[bar]\n")
    (Start Paragraph ∷ Leaf (Text (codes "Foo")) ∷ Leaf SoftBreak ∷ Leaf (Text (codes "[bar]: /baz")) ∷ End end.Paragraph ∷ Start Paragraph ∷ Leaf (Text (codes "[bar]")) ∷ End end.Paragraph ∷ [])

-- Link reference definitions
abbrev pub example_214 : EventRow
example_214 = event_row (codes "# [Foo]\n[foo]: /url\n> bar\n")
    (Start (Heading level.H1 None [] []) ∷ Start (Link kind.Inline (codes "/url") [] []) ∷ Leaf (Text (codes "Foo")) ∷ End end.Link ∷ End (end.Heading level.H1) ∷ Start (BlockQuote None) ∷ Start Paragraph ∷ Leaf (Text (codes "bar")) ∷ End end.Paragraph ∷ End (end.BlockQuote None) ∷ [])

-- Link reference definitions
abbrev pub example_215 : EventRow
example_215 = event_row (codes "[foo]: /url\nbar\n===\n[foo]\n")
    (Start (Heading level.H1 None [] []) ∷ Leaf (Text (codes "bar")) ∷ End (end.Heading level.H1) ∷ Start Paragraph ∷ Start (Link kind.Inline (codes "/url") [] []) ∷ Leaf (Text (codes "foo")) ∷ End end.Link ∷ End end.Paragraph ∷ [])

-- Link reference definitions
abbrev pub example_216 : EventRow
example_216 = event_row (codes "[foo]: /url\n===\n[foo]\n")
    (Start Paragraph ∷ Leaf (Text (codes "===")) ∷ Leaf SoftBreak ∷ Start (Link kind.Inline (codes "/url") [] []) ∷ Leaf (Text (codes "foo")) ∷ End end.Link ∷ End end.Paragraph ∷ [])

-- Link reference definitions
abbrev pub example_217 : EventRow
example_217 = event_row (codes "[foo]: /foo-url \"foo\"\n[bar]: /bar-url\n  \"bar\"\n[baz]: /baz-url\n\n[foo],\n[bar],\n[baz]\n")
    (Start Paragraph ∷ Start (Link kind.Inline (codes "/foo-url") (codes "foo") []) ∷ Leaf (Text (codes "foo")) ∷ End end.Link ∷ Leaf (Text (codes ",")) ∷ Leaf SoftBreak ∷ Start (Link kind.Inline (codes "/bar-url") (codes "bar") []) ∷ Leaf (Text (codes "bar")) ∷ End end.Link ∷ Leaf (Text (codes ",")) ∷ Leaf SoftBreak ∷ Start (Link kind.Inline (codes "/baz-url") [] []) ∷ Leaf (Text (codes "baz")) ∷ End end.Link ∷ End end.Paragraph ∷ [])

-- Link reference definitions
abbrev pub example_218 : EventRow
example_218 = event_row (codes "[foo]\n\n> [foo]: /url\n")
    (Start Paragraph ∷ Start (Link kind.Inline (codes "/url") [] []) ∷ Leaf (Text (codes "foo")) ∷ End end.Link ∷ End end.Paragraph ∷ Start (BlockQuote None) ∷ End (end.BlockQuote None) ∷ [])

-- Paragraphs
abbrev pub example_219 : EventRow
example_219 = event_row (codes "aaa\n\nbbb\n")
    (Start Paragraph ∷ Leaf (Text (codes "aaa")) ∷ End end.Paragraph ∷ Start Paragraph ∷ Leaf (Text (codes "bbb")) ∷ End end.Paragraph ∷ [])

-- Paragraphs
abbrev pub example_220 : EventRow
example_220 = event_row (codes "aaa\nbbb\n\nccc\nddd\n")
    (Start Paragraph ∷ Leaf (Text (codes "aaa")) ∷ Leaf SoftBreak ∷ Leaf (Text (codes "bbb")) ∷ End end.Paragraph ∷ Start Paragraph ∷ Leaf (Text (codes "ccc")) ∷ Leaf SoftBreak ∷ Leaf (Text (codes "ddd")) ∷ End end.Paragraph ∷ [])

-- Paragraphs
abbrev pub example_221 : EventRow
example_221 = event_row (codes "aaa\n\n\nbbb\n")
    (Start Paragraph ∷ Leaf (Text (codes "aaa")) ∷ End end.Paragraph ∷ Start Paragraph ∷ Leaf (Text (codes "bbb")) ∷ End end.Paragraph ∷ [])

-- Paragraphs
abbrev pub example_222 : EventRow
example_222 = event_row (codes "  aaa\n bbb\n")
    (Start Paragraph ∷ Leaf (Text (codes "aaa")) ∷ Leaf SoftBreak ∷ Leaf (Text (codes "bbb")) ∷ End end.Paragraph ∷ [])

-- Paragraphs
abbrev pub example_223 : EventRow
example_223 = event_row (codes "aaa\n             bbb\n                                       ccc\n")
    (Start Paragraph ∷ Leaf (Text (codes "aaa")) ∷ Leaf SoftBreak ∷ Leaf (Text (codes "bbb")) ∷ Leaf SoftBreak ∷ Leaf (Text (codes "ccc")) ∷ End end.Paragraph ∷ [])

-- Paragraphs
abbrev pub example_224 : EventRow
example_224 = event_row (codes "   aaa\nbbb\n")
    (Start Paragraph ∷ Leaf (Text (codes "aaa")) ∷ Leaf SoftBreak ∷ Leaf (Text (codes "bbb")) ∷ End end.Paragraph ∷ [])

-- Paragraphs
abbrev pub example_225 : EventRow
example_225 = event_row (codes "    aaa\nbbb\n")
    (Start (CodeBlock (Fenced [])) ∷ Leaf (Text (codes "aaa\n")) ∷ End end.CodeBlock ∷ Start Paragraph ∷ Leaf (Text (codes "bbb")) ∷ End end.Paragraph ∷ [])

-- Paragraphs
abbrev pub example_226 : EventRow
example_226 = event_row (codes "aaa     \nbbb     \n")
    (Start Paragraph ∷ Leaf (Text (codes "aaa")) ∷ Leaf HardBreak ∷ Leaf (Text (codes "bbb")) ∷ End end.Paragraph ∷ [])

-- Blank lines
abbrev pub example_227 : EventRow
example_227 = event_row (codes "  \n\naaa\n  \n\n# aaa\n\n  \n")
    (Start Paragraph ∷ Leaf (Text (codes "aaa")) ∷ End end.Paragraph ∷ Start (Heading level.H1 None [] []) ∷ Leaf (Text (codes "aaa")) ∷ End (end.Heading level.H1) ∷ [])

-- all of these
abbrev pub standard_definitions_second : List EventRow
standard_definitions_second = example_210 ∷ example_211 ∷ example_212 ∷ example_213 ∷ example_214 ∷ example_215 ∷ example_216 ∷ example_217 ∷ example_218 ∷ example_219 ∷ example_220 ∷ example_221 ∷ example_222 ∷ example_223 ∷ example_224 ∷ example_225 ∷ example_226 ∷ example_227 ∷ []
