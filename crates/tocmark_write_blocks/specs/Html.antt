-- How HTML blocks end, by the HTML in them.
use Rattle.std.specs.Prelude.{◌≡◌, ℕ, false, if◌then◌else◌, List, ◌∷◌, drop, slice_index_or}
use Rattle.tocmark_event.specs.View.{HtmlBlock, SourcedEvent, Start}
use Rattle.tocmark_spelling.specs.Body.{Trees, html_of_leaf, first_html, joined_by}
use Rattle.tocmark_spelling.specs.Html.{is_blank_terminated, is_html_closed}
use Rattle.tocmark_spelling.specs.Machine.{kids_of}
use Rattle.tocmark_write_blocks.specs.BlockEnds.{closed_by}
use Rattle.tocmark_write_blocks.specs.HtmlAhead.{blank_by, opening_in}
use Rattle.tocmark_write_blocks.specs.Kinds.{is_html_block, opens}
use Rattle.tocmark_write_blocks.specs.declared.html_ahead.HtmlAhead.{HtmlAhead}
use Rattle.tocmark_write_blocks.specs.declared.html_facts.HtmlFacts.{HtmlFacts}

-- what is found where no HTML block opens
abbrev pub no_html : HtmlFacts
no_html = record { blank = false; closed = false }

-- how an HTML block with these trees in its body ends
abbrev pub html_of_kids : Trees → HtmlFacts
html_of_kids kids = record { blank = is_blank_terminated (first_html kids); closed = is_html_closed (joined_by html_of_leaf kids) }

-- for each Start of an HTML block how it ends
pub record AreHtml (es : List SourcedEvent) (facts : List HtmlFacts) : Type 0 where
  pub at : (i : ℕ) (rest : List SourcedEvent) → drop i es ≡ Start HtmlBlock ∷ rest
      → slice_index_or facts i no_html ≡ html_of_kids (kids_of rest)

-- how a block ends, by the joined HTML of its unit, by how many bytes of it and how many events are left behind its body, and
-- by what is known of the HTML from its body on
abbrev pub facts_by : List ℕ → ℕ → ℕ → HtmlAhead → HtmlFacts
facts_by text after events ahead =
    record { blank = blank_by events ahead; closed = closed_by (opening_in text after ahead) after ahead.ends }

-- the same of an event, which may open something else
abbrev pub event_facts : SourcedEvent → List ℕ → ℕ → ℕ → HtmlAhead → HtmlFacts
event_facts e text after events ahead = if opens is_html_block e then facts_by text after events ahead else no_html
