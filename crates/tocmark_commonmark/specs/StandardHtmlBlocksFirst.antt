-- Examples of the standard: HTML blocks, part 1.
use Rattle.std.specs.Prelude.{List, [], ◌∷◌, codes}
use Rattle.tocmark_event.specs.declared.event.TagEnd.TheVariants as end
use Rattle.tocmark_event.specs.View.{Paragraph, HtmlBlock, Emphasis, Start, End, Leaf, Text, Html, InlineHtml, SoftBreak}
use Rattle.tocmark_commonmark.specs.StandardExamples.{EventRow, event_row}

-- HTML blocks
abbrev pub example_148 : EventRow
example_148 = event_row (codes "<table><tr><td>\n<pre>\n**Hello**,\n\n_world_.\n</pre>\n</td></tr></table>\n")
    (Start HtmlBlock ∷ Leaf (Html (codes "<table><tr><td>\n")) ∷ Leaf (Html (codes "<pre>\n")) ∷ Leaf (Html (codes "**Hello**,\n")) ∷ End end.HtmlBlock ∷ Start Paragraph ∷ Start Emphasis ∷ Leaf (Text (codes "world")) ∷ End end.Emphasis ∷ Leaf (Text (codes ".")) ∷ Leaf SoftBreak ∷ Leaf (InlineHtml (codes "</pre>")) ∷ End end.Paragraph ∷ Start HtmlBlock ∷ Leaf (Html (codes "</td></tr></table>\n")) ∷ End end.HtmlBlock ∷ [])

-- HTML blocks
abbrev pub example_149 : EventRow
example_149 = event_row (codes "<table>\n  <tr>\n    <td>\n           hi\n    </td>\n  </tr>\n</table>\n\nokay.\n")
    (Start HtmlBlock ∷ Leaf (Html (codes "<table>\n")) ∷ Leaf (Html (codes "  <tr>\n")) ∷ Leaf (Html (codes "    <td>\n")) ∷ Leaf (Html (codes "           hi\n")) ∷ Leaf (Html (codes "    </td>\n")) ∷ Leaf (Html (codes "  </tr>\n")) ∷ Leaf (Html (codes "</table>\n")) ∷ End end.HtmlBlock ∷ Start Paragraph ∷ Leaf (Text (codes "okay.")) ∷ End end.Paragraph ∷ [])

-- HTML blocks
abbrev pub example_150 : EventRow
example_150 = event_row (codes " <div>\n  *hello*\n         <foo><a>\n")
    (Start HtmlBlock ∷ Leaf (Html (codes " <div>\n")) ∷ Leaf (Html (codes "  *hello*\n")) ∷ Leaf (Html (codes "         <foo><a>\n")) ∷ End end.HtmlBlock ∷ [])

-- HTML blocks
abbrev pub example_151 : EventRow
example_151 = event_row (codes "</div>\n*foo*\n")
    (Start HtmlBlock ∷ Leaf (Html (codes "</div>\n")) ∷ Leaf (Html (codes "*foo*\n")) ∷ End end.HtmlBlock ∷ [])

-- HTML blocks
abbrev pub example_152 : EventRow
example_152 = event_row (codes "<DIV CLASS=\"foo\">\n\n*Markdown*\n\n</DIV>\n")
    (Start HtmlBlock ∷ Leaf (Html (codes "<DIV CLASS=\"foo\">\n")) ∷ End end.HtmlBlock ∷ Start Paragraph ∷ Start Emphasis ∷ Leaf (Text (codes "Markdown")) ∷ End end.Emphasis ∷ End end.Paragraph ∷ Start HtmlBlock ∷ Leaf (Html (codes "</DIV>\n")) ∷ End end.HtmlBlock ∷ [])

-- HTML blocks
abbrev pub example_153 : EventRow
example_153 = event_row (codes "<div id=\"foo\"\n  class=\"bar\">\n</div>\n")
    (Start HtmlBlock ∷ Leaf (Html (codes "<div id=\"foo\"\n")) ∷ Leaf (Html (codes "  class=\"bar\">\n")) ∷ Leaf (Html (codes "</div>\n")) ∷ End end.HtmlBlock ∷ [])

-- HTML blocks
abbrev pub example_154 : EventRow
example_154 = event_row (codes "<div id=\"foo\" class=\"bar\n  baz\">\n</div>\n")
    (Start HtmlBlock ∷ Leaf (Html (codes "<div id=\"foo\" class=\"bar\n")) ∷ Leaf (Html (codes "  baz\">\n")) ∷ Leaf (Html (codes "</div>\n")) ∷ End end.HtmlBlock ∷ [])

-- HTML blocks
abbrev pub example_155 : EventRow
example_155 = event_row (codes "<div>\n*foo*\n\n*bar*\n")
    (Start HtmlBlock ∷ Leaf (Html (codes "<div>\n")) ∷ Leaf (Html (codes "*foo*\n")) ∷ End end.HtmlBlock ∷ Start Paragraph ∷ Start Emphasis ∷ Leaf (Text (codes "bar")) ∷ End end.Emphasis ∷ End end.Paragraph ∷ [])

-- HTML blocks
abbrev pub example_156 : EventRow
example_156 = event_row (codes "<div id=\"foo\"\n*hi*\n")
    (Start HtmlBlock ∷ Leaf (Html (codes "<div id=\"foo\"\n")) ∷ Leaf (Html (codes "*hi*\n")) ∷ End end.HtmlBlock ∷ [])

-- HTML blocks
abbrev pub example_157 : EventRow
example_157 = event_row (codes "<div class\nfoo\n")
    (Start HtmlBlock ∷ Leaf (Html (codes "<div class\n")) ∷ Leaf (Html (codes "foo\n")) ∷ End end.HtmlBlock ∷ [])

-- HTML blocks
abbrev pub example_158 : EventRow
example_158 = event_row (codes "<div *???-&&&-<---\n*foo*\n")
    (Start HtmlBlock ∷ Leaf (Html (codes "<div *???-&&&-<---\n")) ∷ Leaf (Html (codes "*foo*\n")) ∷ End end.HtmlBlock ∷ [])

-- HTML blocks
abbrev pub example_159 : EventRow
example_159 = event_row (codes "<div><a href=\"bar\">*foo*</a></div>\n")
    (Start HtmlBlock ∷ Leaf (Html (codes "<div><a href=\"bar\">*foo*</a></div>\n")) ∷ End end.HtmlBlock ∷ [])

-- HTML blocks
abbrev pub example_160 : EventRow
example_160 = event_row (codes "<table><tr><td>\nfoo\n</td></tr></table>\n")
    (Start HtmlBlock ∷ Leaf (Html (codes "<table><tr><td>\n")) ∷ Leaf (Html (codes "foo\n")) ∷ Leaf (Html (codes "</td></tr></table>\n")) ∷ End end.HtmlBlock ∷ [])

-- HTML blocks
abbrev pub example_161 : EventRow
example_161 = event_row (codes "<div></div>\n``` c\nint x = 33;\n```\n")
    (Start HtmlBlock ∷ Leaf (Html (codes "<div></div>\n")) ∷ Leaf (Html (codes "``` c\n")) ∷ Leaf (Html (codes "int x = 33;\n")) ∷ Leaf (Html (codes "```\n")) ∷ End end.HtmlBlock ∷ [])

-- HTML blocks
abbrev pub example_162 : EventRow
example_162 = event_row (codes "<a href=\"foo\">\n*bar*\n</a>\n")
    (Start HtmlBlock ∷ Leaf (Html (codes "<a href=\"foo\">\n")) ∷ Leaf (Html (codes "*bar*\n")) ∷ Leaf (Html (codes "</a>\n")) ∷ End end.HtmlBlock ∷ [])

-- HTML blocks
abbrev pub example_163 : EventRow
example_163 = event_row (codes "<Warning>\n*bar*\n</Warning>\n")
    (Start HtmlBlock ∷ Leaf (Html (codes "<Warning>\n")) ∷ Leaf (Html (codes "*bar*\n")) ∷ Leaf (Html (codes "</Warning>\n")) ∷ End end.HtmlBlock ∷ [])

-- HTML blocks
abbrev pub example_164 : EventRow
example_164 = event_row (codes "<i class=\"foo\">\n*bar*\n</i>\n")
    (Start HtmlBlock ∷ Leaf (Html (codes "<i class=\"foo\">\n")) ∷ Leaf (Html (codes "*bar*\n")) ∷ Leaf (Html (codes "</i>\n")) ∷ End end.HtmlBlock ∷ [])

-- HTML blocks
abbrev pub example_165 : EventRow
example_165 = event_row (codes "</ins>\n*bar*\n")
    (Start HtmlBlock ∷ Leaf (Html (codes "</ins>\n")) ∷ Leaf (Html (codes "*bar*\n")) ∷ End end.HtmlBlock ∷ [])

-- HTML blocks
abbrev pub example_166 : EventRow
example_166 = event_row (codes "<del>\n*foo*\n</del>\n")
    (Start HtmlBlock ∷ Leaf (Html (codes "<del>\n")) ∷ Leaf (Html (codes "*foo*\n")) ∷ Leaf (Html (codes "</del>\n")) ∷ End end.HtmlBlock ∷ [])

-- HTML blocks
abbrev pub example_167 : EventRow
example_167 = event_row (codes "<del>\n\n*foo*\n\n</del>\n")
    (Start HtmlBlock ∷ Leaf (Html (codes "<del>\n")) ∷ End end.HtmlBlock ∷ Start Paragraph ∷ Start Emphasis ∷ Leaf (Text (codes "foo")) ∷ End end.Emphasis ∷ End end.Paragraph ∷ Start HtmlBlock ∷ Leaf (Html (codes "</del>\n")) ∷ End end.HtmlBlock ∷ [])

-- HTML blocks
abbrev pub example_168 : EventRow
example_168 = event_row (codes "<del>*foo*</del>\n")
    (Start Paragraph ∷ Leaf (InlineHtml (codes "<del>")) ∷ Start Emphasis ∷ Leaf (Text (codes "foo")) ∷ End end.Emphasis ∷ Leaf (InlineHtml (codes "</del>")) ∷ End end.Paragraph ∷ [])

-- HTML blocks
abbrev pub example_169 : EventRow
example_169 = event_row (codes "<pre language=\"haskell\"><code>\nimport Text.HTML.TagSoup\n\nmain :: IO ()\nmain = print $ parseTags tags\n</code></pre>\nokay\n")
    (Start HtmlBlock ∷ Leaf (Html (codes "<pre language=\"haskell\"><code>\n")) ∷ Leaf (Html (codes "import Text.HTML.TagSoup\n")) ∷ Leaf (Html (codes "\n")) ∷ Leaf (Html (codes "main :: IO ()\n")) ∷ Leaf (Html (codes "main = print $ parseTags tags\n")) ∷ Leaf (Html (codes "</code></pre>\n")) ∷ End end.HtmlBlock ∷ Start Paragraph ∷ Leaf (Text (codes "okay")) ∷ End end.Paragraph ∷ [])

-- all of these
abbrev pub standard_html_blocks_first : List EventRow
standard_html_blocks_first = example_148 ∷ example_149 ∷ example_150 ∷ example_151 ∷ example_152 ∷ example_153 ∷ example_154 ∷ example_155 ∷ example_156 ∷ example_157 ∷ example_158 ∷ example_159 ∷ example_160 ∷ example_161 ∷ example_162 ∷ example_163 ∷ example_164 ∷ example_165 ∷ example_166 ∷ example_167 ∷ example_168 ∷ example_169 ∷ []
