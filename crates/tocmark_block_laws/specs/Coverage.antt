-- How many of the standard's 652 examples are texts of which it is proved that the reader finds the declared blocks.
use Rattle.std.specs.Prelude.{ℕ, ◌+◌, ◌≡◌, ◌||◌, List, [], ◌∷◌, length, filter}
use Rattle.std.specs.List.{fold}
use Rattle.tocmark_commonmark.specs.StandardExamples.{EventRow}
use Rattle.tocmark_commonmark.specs.StandardBreaks.{standard_breaks}
use Rattle.tocmark_commonmark.specs.StandardCodeFirst.{standard_code_first}
use Rattle.tocmark_commonmark.specs.StandardCodeSecond.{standard_code_second}
use Rattle.tocmark_commonmark.specs.StandardDefinitionsFirst.{standard_definitions_first}
use Rattle.tocmark_commonmark.specs.StandardDefinitionsSecond.{standard_definitions_second}
use Rattle.tocmark_commonmark.specs.StandardEmphasisFifth.{standard_emphasis_fifth}
use Rattle.tocmark_commonmark.specs.StandardEmphasisFirst.{standard_emphasis_first}
use Rattle.tocmark_commonmark.specs.StandardEmphasisFourth.{standard_emphasis_fourth}
use Rattle.tocmark_commonmark.specs.StandardEmphasisSecond.{standard_emphasis_second}
use Rattle.tocmark_commonmark.specs.StandardEmphasisThird.{standard_emphasis_third}
use Rattle.tocmark_commonmark.specs.StandardFences.{standard_fences}
use Rattle.tocmark_commonmark.specs.StandardHtmlBlocksFirst.{standard_html_blocks_first}
use Rattle.tocmark_commonmark.specs.StandardHtmlBlocksSecond.{standard_html_blocks_second}
use Rattle.tocmark_commonmark.specs.StandardImagesFirst.{standard_images_first}
use Rattle.tocmark_commonmark.specs.StandardImagesSecond.{standard_images_second}
use Rattle.tocmark_commonmark.specs.StandardItemsFirst.{standard_items_first}
use Rattle.tocmark_commonmark.specs.StandardItemsSecond.{standard_items_second}
use Rattle.tocmark_commonmark.specs.StandardLinksFirst.{standard_links_first}
use Rattle.tocmark_commonmark.specs.StandardLinksSecond.{standard_links_second}
use Rattle.tocmark_commonmark.specs.StandardLinksThird.{standard_links_third}
use Rattle.tocmark_commonmark.specs.StandardLists.{standard_lists}
use Rattle.tocmark_commonmark.specs.StandardPrecedenceFirst.{standard_precedence_first}
use Rattle.tocmark_commonmark.specs.StandardPrecedenceSecond.{standard_precedence_second}
use Rattle.tocmark_commonmark.specs.StandardQuotes.{standard_quotes}
use Rattle.tocmark_commonmark.specs.StandardSetextFirst.{standard_setext_first}
use Rattle.tocmark_commonmark.specs.StandardSetextSecond.{standard_setext_second}
use Rattle.tocmark_commonmark.specs.StandardTabsFirst.{standard_tabs_first}
use Rattle.tocmark_commonmark.specs.StandardTabsSecond.{standard_tabs_second}
use Rattle.tocmark_block_laws.specs.Lists.{has_one_line_blocks, has_plain_lists}
use Rattle.tocmark_block_laws.specs.Quotes.{is_covered}

-- so many of a table are
unfoldable pub covered_in : List EventRow → ℕ
covered_in rows = length (filter (λ r. is_covered r.text || has_one_line_blocks r.text || has_plain_lists r.text) rows)

-- so many of tables
abbrev pub covered_by : List (List EventRow) → ℕ
covered_by tables = fold (λ n rows. n + covered_in rows) 0 tables

-- the tables of the standard's examples
abbrev pub standard_tables : List (List EventRow)
standard_tables = standard_breaks ∷ standard_code_first ∷ standard_code_second ∷ standard_definitions_first ∷ standard_definitions_second ∷ standard_emphasis_fifth ∷ standard_emphasis_first ∷ standard_emphasis_fourth ∷ standard_emphasis_second ∷ standard_emphasis_third ∷ standard_fences ∷ standard_html_blocks_first ∷ standard_html_blocks_second ∷ standard_images_first ∷ standard_images_second ∷ standard_items_first ∷ standard_items_second ∷ standard_links_first ∷ standard_links_second ∷ standard_links_third ∷ standard_lists ∷ standard_precedence_first ∷ standard_precedence_second ∷ standard_quotes ∷ standard_setext_first ∷ standard_setext_second ∷ standard_tabs_first ∷ standard_tabs_second ∷ []

abbrev pub StandardIsCovered : Type 0
StandardIsCovered = covered_by standard_tables ≡ 603
