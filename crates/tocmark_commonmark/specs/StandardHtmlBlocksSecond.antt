-- Examples of the standard: HTML blocks, part 2.
use Rattle.std.specs.Prelude.{false, List, [], ◌∷◌, None, codes}
use Rattle.tocmark_event.specs.declared.event.TagEnd.TheVariants as end
use Rattle.tocmark_event.specs.View.{Paragraph, BlockQuote, CodeBlock, Fenced, HtmlBlock, ListOf, Item, Emphasis, Start, End, Leaf, Text, Html, InlineHtml, SoftBreak}
use Rattle.tocmark_commonmark.specs.StandardExamples.{EventRow, event_row}

-- HTML blocks
abbrev pub example_170 : EventRow
example_170 = event_row (codes "<script type=\"text/javascript\">\n// JavaScript example\n\ndocument.getElementById(\"demo\").innerHTML = \"Hello JavaScript!\";\n</script>\nokay\n")
    (Start HtmlBlock ∷ Leaf (Html (codes "<script type=\"text/javascript\">\n")) ∷ Leaf (Html (codes "// JavaScript example\n")) ∷ Leaf (Html (codes "\n")) ∷ Leaf (Html (codes "document.getElementById(\"demo\").innerHTML = \"Hello JavaScript!\";\n")) ∷ Leaf (Html (codes "</script>\n")) ∷ End end.HtmlBlock ∷ Start Paragraph ∷ Leaf (Text (codes "okay")) ∷ End end.Paragraph ∷ [])

-- HTML blocks
abbrev pub example_171 : EventRow
example_171 = event_row (codes "<textarea>\n\n*foo*\n\n_bar_\n\n</textarea>\n")
    (Start HtmlBlock ∷ Leaf (Html (codes "<textarea>\n")) ∷ Leaf (Html (codes "\n")) ∷ Leaf (Html (codes "*foo*\n")) ∷ Leaf (Html (codes "\n")) ∷ Leaf (Html (codes "_bar_\n")) ∷ Leaf (Html (codes "\n")) ∷ Leaf (Html (codes "</textarea>\n")) ∷ End end.HtmlBlock ∷ [])

-- HTML blocks
abbrev pub example_172 : EventRow
example_172 = event_row (codes "<style\n  type=\"text/css\">\nh1 {color:red;}\n\np {color:blue;}\n</style>\nokay\n")
    (Start HtmlBlock ∷ Leaf (Html (codes "<style\n")) ∷ Leaf (Html (codes "  type=\"text/css\">\n")) ∷ Leaf (Html (codes "h1 {color:red;}\n")) ∷ Leaf (Html (codes "\n")) ∷ Leaf (Html (codes "p {color:blue;}\n")) ∷ Leaf (Html (codes "</style>\n")) ∷ End end.HtmlBlock ∷ Start Paragraph ∷ Leaf (Text (codes "okay")) ∷ End end.Paragraph ∷ [])

-- HTML blocks
abbrev pub example_173 : EventRow
example_173 = event_row (codes "<style\n  type=\"text/css\">\n\nfoo\n")
    (Start HtmlBlock ∷ Leaf (Html (codes "<style\n")) ∷ Leaf (Html (codes "  type=\"text/css\">\n")) ∷ Leaf (Html (codes "\n")) ∷ Leaf (Html (codes "foo\n")) ∷ End end.HtmlBlock ∷ [])

-- HTML blocks
abbrev pub example_174 : EventRow
example_174 = event_row (codes "> <div>\n> foo\n\nbar\n")
    (Start (BlockQuote None) ∷ Start HtmlBlock ∷ Leaf (Html (codes "<div>\n")) ∷ Leaf (Html (codes "foo\n")) ∷ End end.HtmlBlock ∷ End (end.BlockQuote None) ∷ Start Paragraph ∷ Leaf (Text (codes "bar")) ∷ End end.Paragraph ∷ [])

-- HTML blocks
abbrev pub example_175 : EventRow
example_175 = event_row (codes "- <div>\n- foo\n")
    (Start (ListOf None) ∷ Start Item ∷ Start HtmlBlock ∷ Leaf (Html (codes "<div>\n")) ∷ End end.HtmlBlock ∷ End end.Item ∷ Start Item ∷ Leaf (Text (codes "foo")) ∷ End end.Item ∷ End (end.List false) ∷ [])

-- HTML blocks
abbrev pub example_176 : EventRow
example_176 = event_row (codes "<style>p{color:red;}</style>\n*foo*\n")
    (Start HtmlBlock ∷ Leaf (Html (codes "<style>p{color:red;}</style>\n")) ∷ End end.HtmlBlock ∷ Start Paragraph ∷ Start Emphasis ∷ Leaf (Text (codes "foo")) ∷ End end.Emphasis ∷ End end.Paragraph ∷ [])

-- HTML blocks
abbrev pub example_177 : EventRow
example_177 = event_row (codes "<!-- foo -->*bar*\n*baz*\n")
    (Start HtmlBlock ∷ Leaf (Html (codes "<!-- foo -->*bar*\n")) ∷ End end.HtmlBlock ∷ Start Paragraph ∷ Start Emphasis ∷ Leaf (Text (codes "baz")) ∷ End end.Emphasis ∷ End end.Paragraph ∷ [])

-- HTML blocks
abbrev pub example_178 : EventRow
example_178 = event_row (codes "<script>\nfoo\n</script>1. *bar*\n")
    (Start HtmlBlock ∷ Leaf (Html (codes "<script>\n")) ∷ Leaf (Html (codes "foo\n")) ∷ Leaf (Html (codes "</script>1. *bar*\n")) ∷ End end.HtmlBlock ∷ [])

-- HTML blocks
abbrev pub example_179 : EventRow
example_179 = event_row (codes "<!-- Foo\n\nbar\n   baz -->\nokay\n")
    (Start HtmlBlock ∷ Leaf (Html (codes "<!-- Foo\n")) ∷ Leaf (Html (codes "\n")) ∷ Leaf (Html (codes "bar\n")) ∷ Leaf (Html (codes "   baz -->\n")) ∷ End end.HtmlBlock ∷ Start Paragraph ∷ Leaf (Text (codes "okay")) ∷ End end.Paragraph ∷ [])

-- HTML blocks
abbrev pub example_180 : EventRow
example_180 = event_row (codes "<?php\n\n  echo '>';\n\n?>\nokay\n")
    (Start HtmlBlock ∷ Leaf (Html (codes "<?php\n")) ∷ Leaf (Html (codes "\n")) ∷ Leaf (Html (codes "  echo '>';\n")) ∷ Leaf (Html (codes "\n")) ∷ Leaf (Html (codes "?>\n")) ∷ End end.HtmlBlock ∷ Start Paragraph ∷ Leaf (Text (codes "okay")) ∷ End end.Paragraph ∷ [])

-- HTML blocks
abbrev pub example_181 : EventRow
example_181 = event_row (codes "<!DOCTYPE html>\n")
    (Start HtmlBlock ∷ Leaf (Html (codes "<!DOCTYPE html>\n")) ∷ End end.HtmlBlock ∷ [])

-- HTML blocks
abbrev pub example_182 : EventRow
example_182 = event_row (codes "<![CDATA[\nfunction matchwo(a,b)\n{\n  if (a < b && a < 0) then {\n    return 1;\n\n  } else {\n\n    return 0;\n  }\n}\n]]>\nokay\n")
    (Start HtmlBlock ∷ Leaf (Html (codes "<![CDATA[\n")) ∷ Leaf (Html (codes "function matchwo(a,b)\n")) ∷ Leaf (Html (codes "{\n")) ∷ Leaf (Html (codes "  if (a < b && a < 0) then {\n")) ∷ Leaf (Html (codes "    return 1;\n")) ∷ Leaf (Html (codes "\n")) ∷ Leaf (Html (codes "  } else {\n")) ∷ Leaf (Html (codes "\n")) ∷ Leaf (Html (codes "    return 0;\n")) ∷ Leaf (Html (codes "  }\n")) ∷ Leaf (Html (codes "}\n")) ∷ Leaf (Html (codes "]]>\n")) ∷ End end.HtmlBlock ∷ Start Paragraph ∷ Leaf (Text (codes "okay")) ∷ End end.Paragraph ∷ [])

-- HTML blocks
abbrev pub example_183 : EventRow
example_183 = event_row (codes "  <!-- foo -->\n\n    <!-- foo -->\n")
    (Start HtmlBlock ∷ Leaf (Html (codes "  <!-- foo -->\n")) ∷ End end.HtmlBlock ∷ Start (CodeBlock (Fenced [])) ∷ Leaf (Text (codes "<!-- foo -->\n")) ∷ End end.CodeBlock ∷ [])

-- HTML blocks
abbrev pub example_184 : EventRow
example_184 = event_row (codes "  <div>\n\n    <div>\n")
    (Start HtmlBlock ∷ Leaf (Html (codes "  <div>\n")) ∷ End end.HtmlBlock ∷ Start (CodeBlock (Fenced [])) ∷ Leaf (Text (codes "<div>\n")) ∷ End end.CodeBlock ∷ [])

-- HTML blocks
abbrev pub example_185 : EventRow
example_185 = event_row (codes "Foo\n<div>\nbar\n</div>\n")
    (Start Paragraph ∷ Leaf (Text (codes "Foo")) ∷ End end.Paragraph ∷ Start HtmlBlock ∷ Leaf (Html (codes "<div>\n")) ∷ Leaf (Html (codes "bar\n")) ∷ Leaf (Html (codes "</div>\n")) ∷ End end.HtmlBlock ∷ [])

-- HTML blocks
abbrev pub example_186 : EventRow
example_186 = event_row (codes "<div>\nbar\n</div>\n*foo*\n")
    (Start HtmlBlock ∷ Leaf (Html (codes "<div>\n")) ∷ Leaf (Html (codes "bar\n")) ∷ Leaf (Html (codes "</div>\n")) ∷ Leaf (Html (codes "*foo*\n")) ∷ End end.HtmlBlock ∷ [])

-- HTML blocks
abbrev pub example_187 : EventRow
example_187 = event_row (codes "Foo\n<a href=\"bar\">\nbaz\n")
    (Start Paragraph ∷ Leaf (Text (codes "Foo")) ∷ Leaf SoftBreak ∷ Leaf (InlineHtml (codes "<a href=\"bar\">")) ∷ Leaf SoftBreak ∷ Leaf (Text (codes "baz")) ∷ End end.Paragraph ∷ [])

-- HTML blocks
abbrev pub example_188 : EventRow
example_188 = event_row (codes "<div>\n\n*Emphasized* text.\n\n</div>\n")
    (Start HtmlBlock ∷ Leaf (Html (codes "<div>\n")) ∷ End end.HtmlBlock ∷ Start Paragraph ∷ Start Emphasis ∷ Leaf (Text (codes "Emphasized")) ∷ End end.Emphasis ∷ Leaf (Text (codes " text.")) ∷ End end.Paragraph ∷ Start HtmlBlock ∷ Leaf (Html (codes "</div>\n")) ∷ End end.HtmlBlock ∷ [])

-- HTML blocks
abbrev pub example_189 : EventRow
example_189 = event_row (codes "<div>\n*Emphasized* text.\n</div>\n")
    (Start HtmlBlock ∷ Leaf (Html (codes "<div>\n")) ∷ Leaf (Html (codes "*Emphasized* text.\n")) ∷ Leaf (Html (codes "</div>\n")) ∷ End end.HtmlBlock ∷ [])

-- HTML blocks
abbrev pub example_190 : EventRow
example_190 = event_row (codes "<table>\n\n<tr>\n\n<td>\nHi\n</td>\n\n</tr>\n\n</table>\n")
    (Start HtmlBlock ∷ Leaf (Html (codes "<table>\n")) ∷ End end.HtmlBlock ∷ Start HtmlBlock ∷ Leaf (Html (codes "<tr>\n")) ∷ End end.HtmlBlock ∷ Start HtmlBlock ∷ Leaf (Html (codes "<td>\n")) ∷ Leaf (Html (codes "Hi\n")) ∷ Leaf (Html (codes "</td>\n")) ∷ End end.HtmlBlock ∷ Start HtmlBlock ∷ Leaf (Html (codes "</tr>\n")) ∷ End end.HtmlBlock ∷ Start HtmlBlock ∷ Leaf (Html (codes "</table>\n")) ∷ End end.HtmlBlock ∷ [])

-- HTML blocks
abbrev pub example_191 : EventRow
example_191 = event_row (codes "<table>\n\n  <tr>\n\n    <td>\n      Hi\n    </td>\n\n  </tr>\n\n</table>\n")
    (Start HtmlBlock ∷ Leaf (Html (codes "<table>\n")) ∷ End end.HtmlBlock ∷ Start HtmlBlock ∷ Leaf (Html (codes "  <tr>\n")) ∷ End end.HtmlBlock ∷ Start (CodeBlock (Fenced [])) ∷ Leaf (Text (codes "<td>\n  Hi\n</td>\n")) ∷ End end.CodeBlock ∷ Start HtmlBlock ∷ Leaf (Html (codes "  </tr>\n")) ∷ End end.HtmlBlock ∷ Start HtmlBlock ∷ Leaf (Html (codes "</table>\n")) ∷ End end.HtmlBlock ∷ [])

-- all of these
abbrev pub standard_html_blocks_second : List EventRow
standard_html_blocks_second = example_170 ∷ example_171 ∷ example_172 ∷ example_173 ∷ example_174 ∷ example_175 ∷ example_176 ∷ example_177 ∷ example_178 ∷ example_179 ∷ example_180 ∷ example_181 ∷ example_182 ∷ example_183 ∷ example_184 ∷ example_185 ∷ example_186 ∷ example_187 ∷ example_188 ∷ example_189 ∷ example_190 ∷ example_191 ∷ []
