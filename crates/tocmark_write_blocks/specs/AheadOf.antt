-- What an opening is told of its body and of what follows, and which openings are written.
use Rattle.std.specs.Prelude.{◌≡◌, ℕ, Bool, true, false}
use Rattle.tocmark_event.specs.Options.{OptionsView}
use Rattle.tocmark_event.specs.View.{TagView, Paragraph, BlockQuote, CodeBlock, CodeView, Indented, Fenced, HtmlBlock, FootnoteDefinition, DefinitionList, DefinitionListTitle, Table, TableHead, TableRow, TableCell, Emphasis, Strong, Link, Image, MetadataBlock}
use Rattle.tocmark_write_texts.specs.Texts.{IsLongest}
use Rattle.tocmark_spelling.specs.Html.{is_blank_terminated, is_html_closed}
use Rattle.tocmark_spelling.specs.Look.{Look}
use Rattle.tocmark_spelling.specs.Opening.{fence_token}
use Rattle.tocmark_write_blocks.specs.declared.ahead.Ahead.{Ahead}

-- what is told of how an HTML block ends
pub record IsHtmlAhead (l : Look) (a : Ahead) : Type 0 where
  pub blank : is_blank_terminated l.first_html ≡ a.blank
  pub closed : is_html_closed l.html ≡ a.closed

-- so long is the longest run of its fence's token in the text of fenced code
abbrev pub IsRunAhead : OptionsView → CodeView → Look → ℕ → Type 0
IsRunAhead o Indented l longest = Unit {0}
IsRunAhead o (Fenced info) l longest = IsLongest longest (fence_token o info) l.text

-- what is told of the texts of a container with this tag: of fenced code the longest run of its fence's token,
-- of an HTML block how it ends
abbrev pub IsTextAhead : OptionsView → TagView → Look → Ahead → Type 0
IsTextAhead o (CodeBlock kind) l a = IsRunAhead o kind l a.longest
IsTextAhead o HtmlBlock l a = IsHtmlAhead l a
IsTextAhead o t l a = Unit {0}

-- a container whose body is never left out, and which has no markers of emphasis
abbrev pub is_opened : TagView → Bool
is_opened Emphasis = false
is_opened Strong = false
is_opened (Link kind dest title id) = false
is_opened (Image kind dest title id) = false
is_opened t = true

-- a block whose opening asks nothing of its body and of what follows
abbrev pub is_alone : TagView → Bool
is_alone Paragraph = true
is_alone (BlockQuote kind) = true
is_alone (FootnoteDefinition label) = true
is_alone DefinitionList = true
is_alone DefinitionListTitle = true
is_alone (Table alignments) = true
is_alone TableHead = true
is_alone TableRow = true
is_alone TableCell = true
is_alone (MetadataBlock kind) = true
is_alone t = false
