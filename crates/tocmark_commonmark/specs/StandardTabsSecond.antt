-- Examples of the standard: tabs, backslash escapes, entity and numeric character references, part 2.
use Rattle.std.specs.Prelude.{false, List, [], ◌∷◌, None, codes, encode_utf8_all}
use Rattle.tocmark_event.specs.declared.event.LinkType.TheVariants as kind
use Rattle.tocmark_event.specs.declared.event.TagEnd.TheVariants as end
use Rattle.tocmark_event.specs.View.{Paragraph, CodeBlock, Fenced, HtmlBlock, ListOf, Item, Emphasis, Link, Start, End, Leaf, Text, Code, Html, SoftBreak}
use Rattle.tocmark_commonmark.specs.StandardExamples.{EventRow, event_row}

-- Backslash escapes
abbrev pub example_22 : EventRow
example_22 = event_row (codes "[foo](/bar\\* \"ti\\*tle\")\n")
    (Start Paragraph ∷ Start (Link kind.Inline (codes "/bar*") (codes "ti*tle") []) ∷ Leaf (Text (codes "foo")) ∷ End end.Link ∷ End end.Paragraph ∷ [])

-- Backslash escapes
abbrev pub example_23 : EventRow
example_23 = event_row (codes "[foo]\n\n[foo]: /bar\\* \"ti\\*tle\"\n")
    (Start Paragraph ∷ Start (Link kind.Inline (codes "/bar*") (codes "ti*tle") []) ∷ Leaf (Text (codes "foo")) ∷ End end.Link ∷ End end.Paragraph ∷ [])

-- Backslash escapes
abbrev pub example_24 : EventRow
example_24 = event_row (codes "``` foo\\+bar\nfoo\n```\n")
    (Start (CodeBlock (Fenced (codes "foo+bar"))) ∷ Leaf (Text (codes "foo\n")) ∷ End end.CodeBlock ∷ [])

-- Entity and numeric character references
abbrev pub example_25 : EventRow
example_25 = event_row (codes "&nbsp; &amp; &copy; &AElig; &Dcaron;\n&frac34; &HilbertSpace; &DifferentialD;\n&ClockwiseContourIntegral; &ngE;\n")
    (Start Paragraph ∷ Leaf (Text (encode_utf8_all (codes "\u{a0} & © Æ Ď"))) ∷ Leaf SoftBreak ∷ Leaf (Text (encode_utf8_all (codes "¾ ℋ ⅆ"))) ∷ Leaf SoftBreak ∷ Leaf (Text (encode_utf8_all (codes "∲ ≧̸"))) ∷ End end.Paragraph ∷ [])

-- Entity and numeric character references
abbrev pub example_26 : EventRow
example_26 = event_row (codes "&#35; &#1234; &#992; &#0;\n")
    (Start Paragraph ∷ Leaf (Text (encode_utf8_all (codes "# Ӓ Ϡ �"))) ∷ End end.Paragraph ∷ [])

-- Entity and numeric character references
abbrev pub example_27 : EventRow
example_27 = event_row (codes "&#X22; &#XD06; &#xcab;\n")
    (Start Paragraph ∷ Leaf (Text (encode_utf8_all (codes "\" ആ ಫ"))) ∷ End end.Paragraph ∷ [])

-- Entity and numeric character references
abbrev pub example_28 : EventRow
example_28 = event_row (codes "&nbsp &x; &#; &#x;\n&#87654321;\n&#abcdef0;\n&ThisIsNotDefined; &hi?;\n")
    (Start Paragraph ∷ Leaf (Text (codes "&nbsp &x; &#; &#x;")) ∷ Leaf SoftBreak ∷ Leaf (Text (codes "&#87654321;")) ∷ Leaf SoftBreak ∷ Leaf (Text (codes "&#abcdef0;")) ∷ Leaf SoftBreak ∷ Leaf (Text (codes "&ThisIsNotDefined; &hi?;")) ∷ End end.Paragraph ∷ [])

-- Entity and numeric character references
abbrev pub example_29 : EventRow
example_29 = event_row (codes "&copy\n")
    (Start Paragraph ∷ Leaf (Text (codes "&copy")) ∷ End end.Paragraph ∷ [])

-- Entity and numeric character references
abbrev pub example_30 : EventRow
example_30 = event_row (codes "&MadeUpEntity;\n")
    (Start Paragraph ∷ Leaf (Text (codes "&MadeUpEntity;")) ∷ End end.Paragraph ∷ [])

-- Entity and numeric character references
abbrev pub example_31 : EventRow
example_31 = event_row (codes "<a href=\"&ouml;&ouml;.html\">\n")
    (Start HtmlBlock ∷ Leaf (Html (codes "<a href=\"&ouml;&ouml;.html\">\n")) ∷ End end.HtmlBlock ∷ [])

-- Entity and numeric character references
abbrev pub example_32 : EventRow
example_32 = event_row (codes "[foo](/f&ouml;&ouml; \"f&ouml;&ouml;\")\n")
    (Start Paragraph ∷ Start (Link kind.Inline (encode_utf8_all (codes "/föö")) (encode_utf8_all (codes "föö")) []) ∷ Leaf (Text (codes "foo")) ∷ End end.Link ∷ End end.Paragraph ∷ [])

-- Entity and numeric character references
abbrev pub example_33 : EventRow
example_33 = event_row (codes "[foo]\n\n[foo]: /f&ouml;&ouml; \"f&ouml;&ouml;\"\n")
    (Start Paragraph ∷ Start (Link kind.Inline (encode_utf8_all (codes "/föö")) (encode_utf8_all (codes "föö")) []) ∷ Leaf (Text (codes "foo")) ∷ End end.Link ∷ End end.Paragraph ∷ [])

-- Entity and numeric character references
abbrev pub example_34 : EventRow
example_34 = event_row (codes "``` f&ouml;&ouml;\nfoo\n```\n")
    (Start (CodeBlock (Fenced (encode_utf8_all (codes "föö")))) ∷ Leaf (Text (codes "foo\n")) ∷ End end.CodeBlock ∷ [])

-- Entity and numeric character references
abbrev pub example_35 : EventRow
example_35 = event_row (codes "`f&ouml;&ouml;`\n")
    (Start Paragraph ∷ Leaf (Code (codes "f&ouml;&ouml;")) ∷ End end.Paragraph ∷ [])

-- Entity and numeric character references
abbrev pub example_36 : EventRow
example_36 = event_row (codes "    f&ouml;f&ouml;\n")
    (Start (CodeBlock (Fenced [])) ∷ Leaf (Text (codes "f&ouml;f&ouml;\n")) ∷ End end.CodeBlock ∷ [])

-- Entity and numeric character references
abbrev pub example_37 : EventRow
example_37 = event_row (codes "&#42;foo&#42;\n*foo*\n")
    (Start Paragraph ∷ Leaf (Text (codes "*foo*")) ∷ Leaf SoftBreak ∷ Start Emphasis ∷ Leaf (Text (codes "foo")) ∷ End end.Emphasis ∷ End end.Paragraph ∷ [])

-- Entity and numeric character references
abbrev pub example_38 : EventRow
example_38 = event_row (codes "&#42; foo\n\n* foo\n")
    (Start Paragraph ∷ Leaf (Text (codes "* foo")) ∷ End end.Paragraph ∷ Start (ListOf None) ∷ Start Item ∷ Leaf (Text (codes "foo")) ∷ End end.Item ∷ End (end.List false) ∷ [])

-- Entity and numeric character references
abbrev pub example_39 : EventRow
example_39 = event_row (codes "foo&#10;&#10;bar\n")
    (Start Paragraph ∷ Leaf (Text (codes "foo\n\nbar")) ∷ End end.Paragraph ∷ [])

-- Entity and numeric character references
abbrev pub example_40 : EventRow
example_40 = event_row (codes "&#9;foo\n")
    (Start Paragraph ∷ Leaf (Text (codes "\tfoo")) ∷ End end.Paragraph ∷ [])

-- Entity and numeric character references
abbrev pub example_41 : EventRow
example_41 = event_row (codes "[a](url &quot;tit&quot;)\n")
    (Start Paragraph ∷ Leaf (Text (codes "[a](url \"tit\")")) ∷ End end.Paragraph ∷ [])

-- all of these
abbrev pub standard_tabs_second : List EventRow
standard_tabs_second = example_22 ∷ example_23 ∷ example_24 ∷ example_25 ∷ example_26 ∷ example_27 ∷ example_28 ∷ example_29 ∷ example_30 ∷ example_31 ∷ example_32 ∷ example_33 ∷ example_34 ∷ example_35 ∷ example_36 ∷ example_37 ∷ example_38 ∷ example_39 ∷ example_40 ∷ example_41 ∷ []
