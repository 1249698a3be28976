-- What an opening is told of its body is what its look says of it.
use Rattle.std.proofs.Common.{◌≡◌, ℕ, true, List, ◌∙◌, refl, subst, sym}
use Rattle.std.specs.Prelude.{codes}
use Rattle.tocmark_event.specs.declared.event.LinkType.{LinkType}
use Rattle.tocmark_event.specs.Options.{OptionsView}
use Rattle.tocmark_event.specs.View.{TagView, Paragraph, Heading, BlockQuote, Indented, Fenced, CodeBlock, HtmlBlock, ListOf, Item, FootnoteDefinition, DefinitionList, DefinitionListTitle, DefinitionListDefinition, Table, TableHead, TableRow, TableCell, Emphasis, Strong, Strikethrough, Superscript, Subscript, Link, Image, MetadataBlock}
use Rattle.tocmark_write_blocks.specs.AheadOf.{IsTextAhead}
use Rattle.tocmark_write_blocks.specs.declared.ahead.Ahead.{Ahead}
use Rattle.tocmark_write_pending.specs.BodyFacts.{IsForeseen}
use Rattle.tocmark_write_pending.specs.declared.body_facts.BodyFacts.{BodyFacts}
use Rattle.tocmark_write_blocks.specs.Raw.{IsRawTag}
use Rattle.tocmark_write_blocks.specs.declared.raw_facts.RawFacts.{RawFacts}
use Rattle.tocmark_spelling.specs.Body.{Trees}
use Rattle.tocmark_spelling.specs.Look.{Look, look}
use Rattle.tocmark_spelling.specs.Opening.{link_mark, open_named, opening_of}
use Rattle.tocmark_spelling.specs.Page.{Around, Path, Page}
use Rattle.tocmark_spelling.specs.Plan.{Setting, Manner}
use Rattle.tocmark_write_unit.specs.CensusOf.{asks_body}
use Rattle.tocmark_write_unit.specs.ToldOf.{IsBodyAhead}

-- what is so of each body that is asked for is told of it
pub body-told : (t : TagView) (l : Look) (x : BodyFacts) → (asks_body t ≡ true → IsForeseen l x) → IsBodyAhead t l x
body-told (Heading level id classes attrs) l x h = h refl
body-told (ListOf n) l x h = h refl
body-told Item l x h = h refl
body-told DefinitionListDefinition l x h = h refl
body-told t l x h = tt

module _ (s : Setting) (m : Manner) (o : OptionsView) (kids : Trees) (around : Around) (x : RawFacts) (a : Ahead) (longest : a.longest ≡ x.longest) (blank : a.blank ≡ x.blank) (closed : a.closed ≡ x.closed) where
  pub text-told : (t : TagView) → IsRawTag o t kids x → IsTextAhead o t (look s m t kids around) a
  text-told (CodeBlock (Fenced info)) raw = longest ∙ raw
  text-told (CodeBlock Indented) raw = tt
  text-told HtmlBlock raw = record { blank = sym (blank ∙ raw.blank); closed = sym (closed ∙ raw.closed) }
  text-told Paragraph raw = tt
  text-told (Heading level id classes attrs) raw = tt
  text-told (BlockQuote k) raw = tt
  text-told (ListOf n) raw = tt
  text-told Item raw = tt
  text-told (FootnoteDefinition label) raw = tt
  text-told DefinitionList raw = tt
  text-told DefinitionListTitle raw = tt
  text-told DefinitionListDefinition raw = tt
  text-told (Table cs) raw = tt
  text-told TableHead raw = tt
  text-told TableRow raw = tt
  text-told TableCell raw = tt
  text-told Emphasis raw = tt
  text-told Strong raw = tt
  text-told Strikethrough raw = tt
  text-told Superscript raw = tt
  text-told Subscript raw = tt
  text-told (Link k d u i) raw = tt
  text-told (Image k d u i) raw = tt
  text-told (MetadataBlock k) raw = tt

-- the row of a link
pub link-row : (s : Setting) (m : Manner) (t : TagView) (kind : LinkType) (dest title id : List ℕ) (l : Look) (path : Path) (p : Page) → t ≡ Link kind dest title id → open_named t (link_mark kind) l path p ≡ opening_of s m t l path p
link-row s m t kind dest title id l path p e =
    let P : TagView → Type 0 = λ x. open_named x (link_mark kind) l path p ≡ opening_of s m x l path p in
    subst P (sym e) refl

-- the row of an image
pub image-row : (s : Setting) (m : Manner) (t : TagView) (kind : LinkType) (dest title id : List ℕ) (l : Look) (path : Path) (p : Page) → t ≡ Image kind dest title id → open_named t (codes "![") l path p ≡ opening_of s m t l path p
image-row s m t kind dest title id l path p e =
    let P : TagView → Type 0 = λ x. open_named x (codes "![") l path p ≡ opening_of s m x l path p in
    subst P (sym e) refl
