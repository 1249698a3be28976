-- The gap before a text doesn't ask for its bytes.
use Rattle.std.proofs.Common.{◌≡◌, ℕ, true, List, refl, ap, ◌∙◌}
use Rattle.std.specs.Prelude.{◌&&◌, ◌==◌, not, if◌then◌else◌, min, None}
use Rattle.tocmark_event.specs.View.{EventView, Leaf, Text}
use Rattle.tocmark_event.specs.declared.event.TagEnd.{TagEnd}
use Rattle.tocmark_event.specs.declared.event.TagEnd.TheVariants as end
use Rattle.tocmark_spelling.specs.Page.{Trail, Path, Page, with_trail, raised}
use Rattle.tocmark_spelling.specs.declared.trail.Last.{Last}
use Rattle.tocmark_spelling.specs.declared.trail.Last.TheVariants.{Other, Inline, ItemStart, ItemEnd, ListEnd, DefinitionEnd, BlockEnd}
use Rattle.tocmark_spelling.specs.Places.{is_close}
use Rattle.tocmark_spelling.specs.Gap.{resumed, raised_for_list, raised_for_title, raised_for_block, least_after, least, joins_list, with_quote_line, owed_after_line, forget_quote, closed_up, raised_after_list, raised_for_item, after_html, before_event, raised_before, separated, gap}

module _ (a b : List ℕ) where
  abbrev one : EventView
  one = Leaf (Text a)

  abbrev other : EventView
  other = Leaf (Text b)

  least-after : (k : TagEnd) → least_after k one ≡ least_after k other
  least-after end.Paragraph = refl
  least-after (end.Heading l) = refl
  least-after (end.BlockQuote k) = refl
  least-after end.CodeBlock = refl
  least-after end.HtmlBlock = refl
  least-after (end.List o) = refl
  least-after end.Item = refl
  least-after end.FootnoteDefinition = refl
  least-after end.DefinitionList = refl
  least-after end.DefinitionListTitle = refl
  least-after end.DefinitionListDefinition = refl
  least-after end.Table = refl
  least-after end.TableHead = refl
  least-after end.TableRow = refl
  least-after end.TableCell = refl
  least-after end.Emphasis = refl
  least-after end.Strong = refl
  least-after end.Strikethrough = refl
  least-after end.Superscript = refl
  least-after end.Subscript = refl
  least-after end.Link = refl
  least-after end.Image = refl
  least-after (end.MetadataBlock k) = refl

  least-text : (l : Last) → least one l ≡ least other l
  least-text Other = refl
  least-text Inline = refl
  least-text ItemStart = refl
  least-text (ItemEnd t) = refl
  least-text (ListEnd t) = refl
  least-text DefinitionEnd = refl
  least-text (BlockEnd k) = least-after k

  joins-text : (l : Last) → joins_list one l ≡ joins_list other l
  joins-text Other = refl
  joins-text Inline = refl
  joins-text ItemStart = refl
  joins-text (ItemEnd t) = refl
  joins-text (ListEnd t) = refl
  joins-text DefinitionEnd = refl
  joins-text (BlockEnd k) = refl

  -- the same where so many line feeds keep the text apart
  abbrev closed_by : Path → Page → ℕ → Page
  closed_by path p n =
      let line = if (n == 0) && true then p.trail.quote_line else None in
      let shown = with_quote_line line path p in
      if not p.trail.open_html && is_close path then with_trail (record p.trail { owed = owed_after_line line (min p.trail.owed 1); quote_line = None }) shown
      else forget_quote p

  closed-text : (path : Path) (p : Page) → closed_up one path p ≡ closed_up other path p
  closed-text path p = ap (closed_by path p) (least-text p.trail.last)

  abbrev prepared : EventView → Path → Page → Trail
  prepared e path p = raised_for_block e (raised_for_title e (raised_for_list e path (resumed e p.trail)))

  prepared-text : (path : Path) (p : Page) → prepared one path p ≡ prepared other path p
  prepared-text path p = refl

  before-text : (path : Path) (p : Page) → before_event one path p ≡ before_event other path p
  before-text path p = ap (λ t. closed_up one path (with_trail t p)) (prepared-text path p) ∙ closed-text path (with_trail (prepared other path p) p)

  after-list-text : (t : Trail) → raised_after_list one t ≡ raised_after_list other t
  after-list-text t = ap (λ j. if j then raised 2 t else t) (joins-text t.last)

  for-item-text : (path : Path) (t : Trail) → raised_for_item one path t ≡ raised_for_item other path t
  for-item-text path t = refl

  raised-text : (path : Path) (t : Trail) → raised_before one path t ≡ raised_before other path t
  raised-text path t =
      ap (λ n. after_html (raised_for_item one path (raised_after_list one (raised n t)))) (least-text t.last)
      ∙ ap (λ x. after_html (raised_for_item one path x)) (after-list-text (raised (least other t.last) t))
      ∙ ap after_html (for-item-text path (raised_after_list other (raised (least other t.last) t)))

  separated-text : (path : Path) (p : Page) → separated one path p ≡ separated other path p
  separated-text path p = refl

  pub gap-text : (path : Path) (p : Page) → gap one path p ≡ gap other path p
  gap-text path p =
      ap (λ here. separated one path (with_trail (raised_before one path here.trail) here)) (before-text path p)
      ∙ ap (λ t. separated one path (with_trail t (before_event other path p))) (raised-text path (before_event other path p).trail)
      ∙ separated-text path (with_trail (raised_before other path (before_event other path p).trail) (before_event other path p))
