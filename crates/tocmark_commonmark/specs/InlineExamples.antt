-- What an example of inlines is: definitions, a content, and its inlines with neighbouring texts as one.
use Rattle.std.specs.Prelude.{◌≡◌, ℕ, List, [], ◌∷◌, ◌++◌}
use Rattle.tocmark_read_page.specs.Definitions.{DefinitionView}
use Rattle.tocmark_commonmark.specs.InlineTree.{Inline, Inlines, none, more, Text, Code, RawHtml, SoftBreak, HardBreak, Emphasis, Strong, Link, Image}
use Rattle.tocmark_commonmark.specs.Links.{destinations}
use Rattle.tocmark_commonmark.specs.Inlines.{inlines}

-- a text before inlines joins their first text
abbrev pub text_before : List ℕ → Inlines → Inlines
text_before t (more (Text u) rest) = more (Text (t ++ u)) rest
text_before t rest = more (Text t) rest

-- neighbouring texts as one
abbrev mutual
  pub joined : Inlines → Inlines
  joined none = none
  joined (more i rest) = joined_before i (joined rest)

  pub joined_before : Inline → Inlines → Inlines
  joined_before (Text t) rest = text_before t rest
  joined_before (Code t) rest = more (Code t) rest
  joined_before (RawHtml t) rest = more (RawHtml t) rest
  joined_before SoftBreak rest = more SoftBreak rest
  joined_before HardBreak rest = more HardBreak rest
  joined_before (Emphasis e) rest = more (Emphasis (joined e)) rest
  joined_before (Strong e) rest = more (Strong (joined e)) rest
  joined_before (Link k d t l e) rest = more (Link k d t l (joined e)) rest
  joined_before (Image k d t l e) rest = more (Image k d t l (joined e)) rest

-- a row: a content and its inlines
pub record InlineRow : Type 0 where
  pub definitions : List DefinitionView
  pub content : List ℕ
  pub found : Inlines

-- a row of these
abbrev pub inline_row : List DefinitionView → List ℕ → Inlines → InlineRow
inline_row definitions content found = record { definitions = definitions; content = content; found = found }

-- a row has the inlines of its content
abbrev pub HasInlines : InlineRow → Type 0
HasInlines r = joined (inlines (destinations r.definitions) r.content) ≡ r.found

-- each row has
unfoldable pub HaveInlines : List InlineRow → Type 0
HaveInlines [] = Unit {0}
HaveInlines (r ∷ rs) = HasInlines r × HaveInlines rs
