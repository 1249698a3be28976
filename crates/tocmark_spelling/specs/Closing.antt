-- What each container's closing writes, and what it leaves to the container's right neighbour.
use Rattle.std.specs.Prelude.{◌^◌, min, ℕ, ◌+◌, ◌-◌, Bool, true, false, not, ◌&&◌, ◌==◌, if◌then◌else◌, nat_lt, Option, Some, None, is_some, List, [], ◌∷◌, ◌++◌, length, max, replicate, flat_map, drop, codes}
use Rattle.tocmark_event.specs.View.{TagView, Paragraph, Heading, BlockQuote, CodeBlock, HtmlBlock, ListOf, Item, Table, TableHead, TableRow, TableCell, DefinitionList, DefinitionListTitle, DefinitionListDefinition, Emphasis, Strong, Strikethrough, Superscript, Subscript, Link, Image, MetadataBlock, end_of}
use Rattle.tocmark_event.specs.Options.{OptionsView}
use Rattle.tocmark_event.specs.declared.event.Alignment.{Alignment}
use Rattle.tocmark_event.specs.declared.event.Alignment.TheVariants as alignment
use Rattle.tocmark_event.specs.declared.event.HeadingLevel.{HeadingLevel}
use Rattle.tocmark_event.specs.declared.event.HeadingLevel.TheVariants as level
use Rattle.tocmark_event.specs.declared.event.LinkType.{LinkType}
use Rattle.tocmark_event.specs.declared.event.LinkType.TheVariants as link
use Rattle.tocmark_event.specs.declared.event.MetadataBlockKind.{MetadataBlockKind}
use Rattle.tocmark_write_texts.specs.Destination.{inline_closing}
use Rattle.tocmark_spelling.specs.Kinds.{is_item, is_list}
use Rattle.tocmark_spelling.specs.Page.{OpeningChoice, Underlined, Fence, HtmlEnds, Listed, Headers, Delimited, Named, Level, Path, Page, Site, written, filled_to, prefix_of, with_trail, with_last, with_owed, raised}
use Rattle.tocmark_spelling.specs.Words.{hyphen}
use Rattle.tocmark_spelling.specs.Places.{is_in, width_of, with_header}
use Rattle.tocmark_spelling.specs.Gap.{with_quote_line}
use Rattle.tocmark_spelling.specs.Opening.{metadata_fence}
use Rattle.tocmark_spelling.specs.declared.trail.Last.{Last}
use Rattle.tocmark_spelling.specs.declared.trail.Last.TheVariants.{Other, Inline, ItemStart, ItemEnd, ListEnd, DefinitionEnd, BlockEnd}
use Rattle.tocmark_spelling.specs.declared.trail.LastChild.{LastChild}
use Rattle.tocmark_spelling.specs.declared.trail.LastChild.TheVariants as tail
use Rattle.tocmark_spelling.specs.declared.list_choice.ListChoice.{ListChoice}

-- the container is closed
abbrev pub left : Path → Page → Site
left path p = record { path = path; page = p }

-- the block with this tag is what was written last
abbrev pub ended : TagView → Page → Page
ended t p = with_last (BlockEnd (end_of t)) p

-- a block that owes line feeds
abbrev pub close_block : TagView → ℕ → Path → Page → Site
close_block t owed path p = left path (with_owed owed (ended t p))

-- a block that owes what its last child does
abbrev pub close_plain : TagView → Path → Page → Site
close_plain t path p = left path (ended t p)

-- a heading's id after a space and `#`; nothing if it has none
abbrev pub id_text : Option (List ℕ) → List ℕ
id_text None = []
id_text (Some id) = codes " #" ++ id

-- an attribute's value after `=`; nothing if it has none
abbrev pub value_text : Option (List ℕ) → List ℕ
value_text None = []
value_text (Some value) = codes "=" ++ value

-- an attribute of a heading after a space, with its value if it has one
abbrev pub attribute_text : List ℕ × Option (List ℕ) → List ℕ
attribute_text a = codes " " ++ a.0 ++ value_text a.1

-- a heading's id, classes and attributes
abbrev pub attributes_text : Option (List ℕ) → List (List ℕ) → List (List ℕ × Option (List ℕ)) → List ℕ
attributes_text None [] [] = []
attributes_text id classes attrs = codes " {" ++ id_text id ++ flat_map (λ c. codes " ." ++ c) classes ++ flat_map attribute_text attrs ++ codes " }"

-- CommonMark, section 4.3
abbrev pub underline : HeadingLevel → List ℕ
underline level.H1 = codes "\n==="
underline l = codes "\n---"

-- the line below a heading that is underlined; nothing below others (CommonMark, section 4.3)
abbrev pub underline_of : HeadingLevel → OpeningChoice → List ℕ
underline_of level (Underlined true) = underline level
underline_of level c = []

-- a heading ends with its attributes and its underline; at least a new line is owed
abbrev pub close_heading : OptionsView → TagView → HeadingLevel → List ℕ → OpeningChoice → Path → Page → Site
close_heading o t level attributes c path p =
    close_block t (max o.newlines_after_headline 1) path (written path (underline_of level c) (written path attributes p))

-- inside an item a quote leaves the line with which it can go on
abbrev pub with_pending_quote : Path → Page → Page
with_pending_quote path p =
    if is_in is_item path then with_trail (record p.trail { quote_line = Some (prefix_of path ++ codes " >") }) p else p

-- a quote ends; at least a blank line is owed (CommonMark, section 5.1)
abbrev pub close_quote : OptionsView → TagView → Path → Page → Site
close_quote o t path p = close_block t (max o.newlines_after_blockquote 2) path (with_pending_quote path p)

-- whether raw text ended without a line feed
abbrev pub with_raw_end : Page → Page
with_raw_end p = with_trail (record p.trail { raw_end = p.sheet.feeds == 0 }) p

-- the closing fence, where the text ended its last line
abbrev pub fence_closing : OpeningChoice → ℕ → List ℕ
fence_closing (Fence f) feeds = if nat_lt 0 feeds then f else []
fence_closing c feeds = []

-- a code block ends, a fenced one with its fence; at least a blank line is owed (CommonMark, section 4.5)
abbrev pub close_code : OptionsView → TagView → OpeningChoice → Path → Page → Site
close_code o t c path p =
    close_block t (max o.newlines_after_codeblock 2) path (written path (fence_closing c p.sheet.feeds) (with_raw_end p))

-- what was written last after an HTML block: the block, only if a blank line ends it (CommonMark, section 4.6)
abbrev pub html_last : Bool → Last
html_last true = BlockEnd (end_of HtmlBlock)
html_last false = Other

-- an HTML block owes at least a blank line, and is open if nothing has ended it (CommonMark, section 4.6)
abbrev pub html_left : OptionsView → Bool → Bool → Page → Page
html_left o blank closed p =
    with_trail (record p.trail { owed = max o.newlines_after_htmlblock 2; last = html_last blank; open_html = not blank && not closed }) p

-- HTML that neither a blank line nor its own text ends stays open
abbrev pub close_html : OptionsView → OpeningChoice → Path → Page → Site
close_html o (HtmlEnds blank closed) path p = left path (html_left o blank closed (with_raw_end p))
close_html o c path p = left path p

-- the last list is this one
abbrev pub with_last_list : ListChoice → Path → Page → Page
with_last_list c path p =
    with_trail (record p.trail { last_list = Some (record { depth = length path; ordered = is_some c.number; token = c.token }) }) p

-- what the last child of a list's last item was
abbrev pub list_tail : Last → LastChild
list_tail (ItemEnd t) = t
list_tail l = tail.Block

-- a list inside a list owes what its last item does
abbrev pub list_left : OptionsView → TagView → Path → Page → Page
list_left o t path p =
    if is_in is_list path then with_last (ListEnd (list_tail p.trail.last)) p
    else ended t (with_trail (raised (max o.newlines_after_list 2) p.trail) p)

-- a list ends, and is the last list from here on
abbrev pub close_list : OptionsView → TagView → OpeningChoice → Path → Page → Site
close_list o t (Listed c) path p = left path (list_left o t path (with_last_list c path p))
close_list o t c path p = left path p

-- what the last child of an item was; for an inner list, the last child of its last item
abbrev pub item_tail : Last → LastChild
item_tail Inline = tail.Paragraph
item_tail ItemStart = tail.Empty
item_tail (ListEnd t) = t
item_tail l = tail.Block

-- an item ends; at least a new line is owed, and a quote has to go on only inside another item
abbrev pub close_item : OptionsView → Path → Page → Site
close_item o path p =
    left path (with_trail (record (raised (max o.newlines_after_rest 1) p.trail) {
      last = ItemEnd (item_tail p.trail.last);
      quote_line = if is_in is_item path then p.trail.quote_line else None;
    }) p)

-- the fewest characters below a header of this alignment: a dash and its colons (GFM, section 4.10)
abbrev pub least_dashes : Alignment → ℕ
least_dashes alignment.None = 1
least_dashes alignment.Left = 2
least_dashes alignment.Center = 3
least_dashes alignment.Right = 2

-- so many dashes, with a colon at each end that the alignment names
abbrev pub dashes : Alignment → ℕ → List ℕ
dashes alignment.None n = replicate n hyphen
dashes alignment.Left n = codes ":" ++ replicate (n - 1) hyphen
dashes alignment.Right n = replicate (n - 1) hyphen ++ codes ":"
dashes alignment.Center n = codes ":" ++ replicate (n - 2) hyphen ++ codes ":"

-- the alignments and the headers in order, until one list ends
abbrev pub alignment_cells : List Alignment → List ℕ → List ℕ
alignment_cells [] headers = []
alignment_cells (a ∷ as') [] = []
alignment_cells (a ∷ as') (n ∷ headers) = codes "|" ++ dashes a (max n (least_dashes a)) ++ alignment_cells as' headers

-- the widths of a table's headers; none for another container
abbrev pub headers_of : OpeningChoice → List ℕ
headers_of (Headers ns) = ns
headers_of c = []

-- the alignments of a table's columns; none for another container
abbrev pub alignments_of : TagView → List Alignment
alignments_of (Table alignments) = alignments
alignments_of t = []

-- the row of dashes below a table's head
abbrev pub alignment_row : Path → List ℕ
alignment_row [] = codes "|"
alignment_row (table ∷ path) = alignment_cells (alignments_of table.tag) (headers_of table.content) ++ codes "|"

-- a table's head ends, with the row of dashes below it (GFM, section 4.10)
abbrev pub close_head : Path → Page → Site
close_head path p = close_block TableHead 1 path (written path (codes "|\n" ++ alignment_row path) p)

-- a table's row ends with `|`, and a new line is owed (GFM, section 4.10)
abbrev pub close_row : Path → Page → Site
close_row path p = close_block TableRow 1 path (written path (codes "|") p)

-- a cell ends, and its table keeps its width
abbrev pub close_cell : OpeningChoice → Path → Page → Site
close_cell c path p = left (with_header (width_of c) path) (ended TableCell p)

-- a quote that has to go on is written out, unless HTML is open
abbrev pub with_quote_end : Path → Page → Page
with_quote_end path p = if p.trail.open_html then p else with_quote_line p.trail.quote_line path p

-- the line is ended, unless raw text ended inside it
abbrev pub with_line_end : Path → Page → Page
with_line_end path p = if p.trail.raw_end then p else filled_to 1 path p

-- a definition ends; a quote that has to go on is written out, and the line is ended
abbrev pub close_definition : Path → Page → Site
close_definition path p =
    let shown = with_line_end path (with_quote_end path p) in
    left path (with_trail (record shown.trail { owed = 1; last = DefinitionEnd; quote_line = None }) shown)

-- one line feed more than the options ask for; a count stops at the greatest `usize`
abbrev pub metadata_owes : OptionsView → ℕ
metadata_owes o = min (o.newlines_after_metadata + 1) (2 ^ 64 - 1)

-- metadata ends with the same line that opened it
abbrev pub close_metadata : OptionsView → MetadataBlockKind → Path → Page → Site
close_metadata o kind path p = close_block (MetadataBlock kind) (metadata_owes o) path (written path (metadata_fence kind) p)

-- inline content that ends with this text
abbrev pub close_inline : List ℕ → Path → Page → Site
close_inline text path p = left path (with_last Inline (written path text p))

-- what is after the body of a delimited container
abbrev pub closing_token : OpeningChoice → List ℕ
closing_token (Delimited before after) = after
closing_token c = []

-- a link that needs a definition of its label
abbrev pub close_reference : List ℕ → List ℕ → List ℕ → List ℕ → Path → Page → Site
close_reference text label dest title path p =
    close_inline text path (record p { references = p.references ++ record { label = label; destination = dest; title = title } ∷ [] })

-- the id in a pair of brackets
abbrev pub close_with_id : List ℕ → List ℕ → List ℕ → Path → Page → Site
close_with_id dest title id path p = close_reference (codes "][" ++ id ++ codes "]") id dest title path p

-- whether the body can't be the label: there is an id, which doesn't spell it
abbrev pub needs_id : OpeningChoice → List ℕ → Bool
needs_id (Named true) id = false
needs_id c id = not (length id == 0)

-- the label is what is in the unit's text after the opening, prefixes included
abbrev pub close_with_body : List ℕ → Level → List ℕ → List ℕ → List ℕ → Path → Page → Site
close_with_body text l dest title id path p =
    if needs_id l.content id then close_with_id dest title id path p
    else close_reference text (drop l.start p.sheet.text) dest title path p

-- a link or image by its type (CommonMark, sections 6.3 to 6.5)
abbrev pub close_link : LinkType → List ℕ → List ℕ → List ℕ → Level → Path → Page → Site
close_link link.Reference dest title id l path p = close_with_id dest title id path p
close_link link.Collapsed dest title id l path p = close_with_body (codes "][]") l dest title id path p
close_link link.Shortcut dest title id l path p = close_with_body (codes "]") l dest title id path p
close_link link.Autolink dest title id l path p = close_inline (codes ">") path p
close_link link.Email dest title id l path p = close_inline (codes ">") path p
close_link kind dest title id l path p = close_inline (inline_closing dest title) path p

-- the closing of a container of this tag, in the containers outside
abbrev pub closing_of : OptionsView → TagView → Level → Path → Page → Site
closing_of o Paragraph l path p = close_block Paragraph (max o.newlines_after_paragraph 2) path p
closing_of o (Heading level id classes attrs) l path p =
    close_heading o (Heading level id classes attrs) level (attributes_text id classes attrs) l.content path p
closing_of o (BlockQuote kind) l path p = close_quote o (BlockQuote kind) path p
closing_of o (CodeBlock kind) l path p = close_code o (CodeBlock kind) l.content path p
closing_of o HtmlBlock l path p = close_html o l.content path p
closing_of o (ListOf number) l path p = close_list o (ListOf number) l.content path p
closing_of o Item l path p = close_item o path p
closing_of o (Table alignments) l path p = close_block (Table alignments) (max o.newlines_after_table 2) path p
closing_of o TableHead l path p = close_head path p
closing_of o TableRow l path p = close_row path p
closing_of o TableCell l path p = close_cell l.content path p
closing_of o DefinitionList l path p = close_block DefinitionList (max o.newlines_after_list 2) path p
closing_of o DefinitionListTitle l path p = close_block DefinitionListTitle 1 path p
closing_of o DefinitionListDefinition l path p = close_definition path p
closing_of o Emphasis l path p = close_inline (closing_token l.content) path p
closing_of o Strong l path p = close_inline (closing_token l.content) path p
closing_of o Strikethrough l path p = close_inline (closing_token l.content) path p
closing_of o Superscript l path p = close_inline (closing_token l.content) path p
closing_of o Subscript l path p = close_inline (closing_token l.content) path p
closing_of o (Link kind dest title id) l path p = close_link kind dest title id l path p
closing_of o (Image kind dest title id) l path p = close_link kind dest title id l path p
closing_of o (MetadataBlock kind) l path p = close_metadata o kind path p
closing_of o t l path p = close_plain t path p

-- the innermost open container is closed
unfoldable pub closing : OptionsView → Path → Page → Option Site
closing o [] p = None
closing o (l ∷ path) p = Some (closing_of o l.tag l path p)
