-- Three texts of which `covered_texts_are_read_as_declared` speaks.
use Rattle.std.specs.Prelude.{ℕ, List, codes}
use Rattle.tocmark_standard_laws.specs.CoveredTexts.{IsCoveredText}

-- a heading, a paragraph in a block quote with a lazy line, and a definition of a link
abbrev pub quoted_text : List ℕ
quoted_text = codes "# A *title*\n\n> Some `code` and [a link][a]\nwith a lazy line.\n\n[a]: /b \"c\"\n"

-- a tight list, and a thematic break
abbrev pub listed_text : List ℕ
listed_text = codes "1. *One*\n2. Two and [a link](/b)\n\n---\n"

-- a list in an item that has two paragraphs, one of two lines
abbrev pub nested_text : List ℕ
nested_text = codes "1. One\n\n   *two*\n   and a half\n   - three\n2. four\n"

abbrev pub ExamplesAreCovered : Type 0
ExamplesAreCovered = IsCoveredText quoted_text × IsCoveredText listed_text × IsCoveredText nested_text
