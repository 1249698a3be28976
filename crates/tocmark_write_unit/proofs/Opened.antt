-- The body of a container that is neither emphasis nor a link or image is never left out.
use Rattle.std.proofs.Common.{◌≡◌, Bool, true, false, Option, Some, None, [], ◌∷◌, refl}
use Rattle.std.specs.Prelude.{codes, if◌then◌else◌}
use Rattle.std.proofs.lemmas.Bool.{false≢true}
use Rattle.tocmark_event.specs.View.{TagView, Paragraph, Heading, BlockQuote, CodeView, Indented, Fenced, CodeBlock, HtmlBlock, ListOf, Item, FootnoteDefinition, DefinitionList, DefinitionListTitle, DefinitionListDefinition, Table, TableHead, TableRow, TableCell, Emphasis, Strong, Strikethrough, Superscript, Subscript, Link, Image, MetadataBlock}
use Rattle.tocmark_spelling.specs.Look.{Look}
use Rattle.tocmark_spelling.specs.Opening.{entered_if, is_uniform, item_in, open_code, open_delimited, open_item, open_subscript, open_superscript, opening}
use Rattle.tocmark_spelling.specs.Page.{OpeningChoice, Plain, Underlined, Fence, HtmlEnds, Listed, Defined, Headers, Width, Delimited, Named, Level, Path, Page, Site, with_last}
use Rattle.tocmark_spelling.specs.Plan.{Setting, Manner}
use Rattle.tocmark_spelling.specs.declared.trail.Last.TheVariants.{Other}
use Rattle.tocmark_spelling.specs.Spelling.{skips_body, is_named}
use Rattle.tocmark_event.specs.Options.{OptionsView}
use Rattle.tocmark_write_blocks.specs.AheadOf.{is_opened}

-- where a container is open, its body is written
abbrev pub IsOpened : Option Site → Type 0
IsOpened None = Unit {0}
IsOpened (Some here) = skips_body here.path ≡ false

if-opened : (b : Bool) (t : TagView) (c : OpeningChoice) (path : Path) (p : Page) → is_named c ≡ false → IsOpened (entered_if b t [] c path p)
if-opened true t c path p e = e
if-opened false t c path p e = tt

code-opened : (o : OptionsView) (k : CodeView) (l : Look) (path : Path) (p : Page) → IsOpened (open_code o k l path p)
code-opened o Indented l path p = refl
code-opened o (Fenced info) l path p = refl

in-opened : (s : Setting) (c : OpeningChoice) (list : Level) (l : Look) (outside : Path) (p : Page) → IsOpened (item_in s c list l outside p)
in-opened s Plain list l outside p = tt
in-opened s (Underlined b) list l outside p = tt
in-opened s (Fence f) list l outside p = tt
in-opened s (HtmlEnds b c) list l outside p = tt
in-opened s (Listed c) list l outside p = refl
in-opened s (Defined b) list l outside p = tt
in-opened s (Headers ns) list l outside p = tt
in-opened s (Width n) list l outside p = tt
in-opened s (Delimited a b) list l outside p = tt
in-opened s (Named b) list l outside p = tt

item-opened : (s : Setting) (l : Look) (path : Path) (p : Page) → IsOpened (open_item s l path p)
item-opened s l [] p = tt
item-opened s l (list ∷ outside) p = in-opened s list.content list l outside p

superscript-opened : (s : Setting) (m : Manner) (path : Path) (p : Page) → IsOpened (open_superscript s m path p)
superscript-opened s m path p = by_case s.options.use_html_for_super_sub_script (is_uniform m.plan.layout)
  where
    by_case : (html uniform : Bool) → IsOpened (if html then open_delimited Superscript (codes "<sup>") (codes "</sup>") path p else if uniform then open_delimited Superscript (codes "^^") (codes "^^") path p else open_delimited Superscript (codes "^") (codes "^") path p)
    by_case true uniform = refl
    by_case false true = refl
    by_case false false = refl

subscript-opened : (s : Setting) (path : Path) (p : Page) → IsOpened (open_subscript s path p)
subscript-opened s path p = by_case s.options.use_html_for_super_sub_script
  where
    by_case : (html : Bool) → IsOpened (if html then open_delimited Subscript (codes "<sub>") (codes "</sub>") path p else open_delimited Subscript (codes "~") (codes "~") path p)
    by_case true = refl
    by_case false = refl

pub opening-opened : (s : Setting) (m : Manner) (t : TagView) (l : Look) (path : Path) (p : Page) → is_opened t ≡ true → IsOpened (opening s m t l path p)
unfolding opening
opening-opened s m Paragraph l path p e = refl
opening-opened s m (Heading level id classes attrs) l path p e = if-opened _ (Heading level id classes attrs) _ path _ refl
opening-opened s m (BlockQuote k) l path p e = refl
opening-opened s m (CodeBlock k) l path p e = code-opened s.options k l path _
opening-opened s m HtmlBlock l path p e = refl
opening-opened s m (ListOf n) l path p e = refl
opening-opened s m Item l path p e = item-opened s l path _
opening-opened s m (FootnoteDefinition label) l path p e = refl
opening-opened s m DefinitionList l path p e = refl
opening-opened s m DefinitionListTitle l path p e = refl
opening-opened s m DefinitionListDefinition l path p e = refl
opening-opened s m (Table cs) l path p e = refl
opening-opened s m TableHead l path p e = if-opened _ TableHead _ path _ refl
opening-opened s m TableRow l path p e = refl
opening-opened s m TableCell l path p e = if-opened _ TableCell _ path _ refl
opening-opened s m Emphasis l path p e = absurd (false≢true e)
opening-opened s m Strong l path p e = absurd (false≢true e)
opening-opened s m Strikethrough l path p e = refl
opening-opened s m Superscript l path p e = superscript-opened s m path (with_last Other p)
opening-opened s m Subscript l path p e = subscript-opened s path (with_last Other p)
opening-opened s m (Link k d u i) l path p e = absurd (false≢true e)
opening-opened s m (Image k d u i) l path p e = absurd (false≢true e)
opening-opened s m (MetadataBlock k) l path p e = refl
