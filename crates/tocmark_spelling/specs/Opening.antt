-- What each container's opening writes and chooses.
use Rattle.std.specs.Prelude.{ℕ, ◌+◌, Bool, true, false, not, ◌&&◌, ◌||◌, ◌==◌, if◌then◌else◌, nat_le, Option, Some, None, is_some, is_none, List, [], ◌∷◌, ◌++◌, length, min, max, replicate, flat_map, drop, codes, chars, decimal, encode_utf8, bytes_eq}
use Rattle.std.specs.List.{list_any}
use Rattle.tocmark_event.specs.View.{CodeView, Indented, Fenced, TagView, Heading, BlockQuote, CodeBlock, HtmlBlock, ListOf, Item, FootnoteDefinition, DefinitionListTitle, DefinitionListDefinition, Table, TableHead, TableCell, Emphasis, Strong, Strikethrough, Superscript, Subscript, Link, Image, MetadataBlock}
use Rattle.tocmark_event.specs.Options.{OptionsView}
use Rattle.tocmark_event.specs.declared.event.HeadingLevel.{HeadingLevel}
use Rattle.tocmark_event.specs.declared.event.HeadingLevel.TheVariants as level
use Rattle.tocmark_event.specs.declared.event.BlockQuoteKind.{BlockQuoteKind}
use Rattle.tocmark_event.specs.declared.event.BlockQuoteKind.TheVariants as quote
use Rattle.tocmark_event.specs.declared.event.MetadataBlockKind.{MetadataBlockKind}
use Rattle.tocmark_event.specs.declared.event.MetadataBlockKind.TheVariants as metadata
use Rattle.tocmark_event.specs.declared.event.LinkType.{LinkType}
use Rattle.tocmark_event.specs.declared.event.flags.ParserOptions.{ParserOptions}
use Rattle.std.specs.Prelude.{bit_and}
use Rattle.tocmark_write_texts.specs.Characters.{hash, space, ampersand, backslash, backtick}
use Rattle.tocmark_write_texts.specs.Leaves.{longest_run}
use Rattle.tocmark_spelling.specs.Words.{asterisk, hyphen, or_else, same_truth}
use Rattle.tocmark_spelling.specs.Plan.{Setting, Manner}
use Rattle.tocmark_spelling.specs.declared.plan.Layout.{Layout}
use Rattle.tocmark_spelling.specs.declared.plan.Layout.TheVariants.{Uniform}
use Rattle.tocmark_spelling.specs.Kinds.{is_heading, is_list, is_table, is_strikethrough, is_indented_code, starts, and_is}
use Rattle.tocmark_spelling.specs.Html.{is_blank_terminated, is_html_closed}
use Rattle.tocmark_spelling.specs.Look.{Look, is_preferred}
use Rattle.tocmark_spelling.specs.Page.{OpeningChoice, Plain, Underlined, Fence, HtmlEnds, Listed, Defined, Headers, Width, Delimited, Named, Level, Path, Page, Site, written, filled_to, with_last, with_owed}
use Rattle.tocmark_spelling.specs.Places.{is_in, is_directly_in, depth_in, nearest, at_item_start, is_raw_link}
use Rattle.tocmark_spelling.specs.Marker.{marker, opening_token}
use Rattle.tocmark_spelling.specs.declared.trail.Last.TheVariants.{Other, ItemStart}
use Rattle.tocmark_spelling.specs.declared.trail.LastList.{LastList}
use Rattle.tocmark_spelling.specs.declared.list_choice.ListChoice.{ListChoice}

-- a container is open, with this prefix and choice
abbrev pub entered : TagView → List ℕ → OpeningChoice → Path → Page → Option Site
entered t prefix c path p = Some (record { path = record { tag = t; prefix = prefix; start = length p.sheet.text; content = c } ∷ path; page = p })

-- the same where it may be here
abbrev pub entered_if : Bool → TagView → List ℕ → OpeningChoice → Path → Page → Option Site
entered_if true t prefix c path p = entered t prefix c path p
entered_if false t prefix c path p = None

-- a container that writes nothing
abbrev pub open_plain : TagView → Path → Page → Option Site
open_plain t path p = entered t [] Plain path p

-- a heading's level as a number, from 1 to 6
abbrev pub level_number : HeadingLevel → ℕ
level_number level.H1 = 1
level_number level.H2 = 2
level_number level.H3 = 3
level_number level.H4 = 4
level_number level.H5 = 5
level_number level.H6 = 6

-- as many `#` as its level, and a space; nothing if it is underlined (CommonMark, sections 4.2 and 4.3)
abbrev pub heading_mark : HeadingLevel → Bool → List ℕ
heading_mark level true = []
heading_mark level false = replicate (level_number level) hash ++ codes " "

-- a heading, which may not be in a heading
abbrev pub open_heading : TagView → HeadingLevel → Look → Path → Page → Option Site
open_heading t level l path p =
    entered_if (not (is_in is_heading path)) t [] (Underlined l.broken) path (written path (heading_mark level l.broken) p)

-- a block that needs a line of its own begins one, but not right after an item's marker
abbrev pub on_new_line : Path → Page → Page
on_new_line path p = if (p.sheet.feeds == 0) && not (at_item_start path p) then written path (codes "\n") p else p

-- a quote's marker on its first line, with its kind if it is an alert (CommonMark, section 5.1)
abbrev pub quote_mark : Option BlockQuoteKind → List ℕ
quote_mark None = codes " > "
quote_mark (Some quote.Note) = codes " > [!NOTE]"
quote_mark (Some quote.Tip) = codes " > [!TIP]"
quote_mark (Some quote.Important) = codes " > [!IMPORTANT]"
quote_mark (Some quote.Warning) = codes " > [!WARNING]"
quote_mark (Some quote.Caution) = codes " > [!CAUTION]"

-- a text, without the space at its front where that is asked
abbrev pub without_space : Bool → List ℕ → List ℕ
without_space true text = drop 1 text
without_space false text = text

-- a quote (CommonMark, section 5.1); its first line is its own, but after an item's marker
abbrev pub open_quote : Option BlockQuoteKind → Path → Page → Option Site
open_quote kind path p =
    let at_item = at_item_start path p in
    entered (BlockQuote kind) (codes " > ") Plain path
    (with_owed (if at_item && is_none kind then 0 else 1) (written path (without_space at_item (quote_mark kind)) (on_new_line path p)))

-- indented code (CommonMark, section 4.4)
abbrev pub open_indented : Path → Page → Option Site
open_indented path p =
    entered (CodeBlock Indented) (codes "    ") Plain path
    (if at_item_start path p then written path (codes "    ") p else on_new_line path p)

-- the preferred token, but `~` where a backtick couldn't be before this info string
abbrev pub fence_token : OptionsView → List ℕ → ℕ
fence_token o info = if (o.code_block_token == backtick) && list_any (λ b. b == backtick) info then 126 else o.code_block_token

-- at least three, at least the preferred number, and more than any run of the token in the block's text
abbrev pub fence_length : OptionsView → ℕ → List ℕ → ℕ
fence_length o token text = max (max o.code_block_token_count 3) (longest_run token (chars text) + 1)

-- the fence: its token, as often as it is long (CommonMark, section 4.5)
abbrev pub fence : OptionsView → List ℕ → List ℕ → List ℕ
fence o info text = flat_map encode_utf8 (replicate (fence_length o (fence_token o info) text) (fence_token o info))

-- a byte of an info string; `&` and backslash stand for themselves (CommonMark, sections 2.4 and 2.5)
abbrev pub info_byte : ℕ → List ℕ
info_byte b = if b == ampersand then codes "&amp;" else if b == backslash then codes "\\\\" else b ∷ []

-- fenced code (CommonMark, section 4.5)
abbrev pub open_fenced : OptionsView → List ℕ → Look → Path → Page → Option Site
open_fenced o info l path p =
    entered (CodeBlock (Fenced info)) [] (Fence (fence o info l.text)) path
    (written path (fence o info l.text ++ flat_map info_byte info ++ codes "\n") (on_new_line path p))

-- a code block, indented or fenced (CommonMark, sections 4.4 and 4.5)
abbrev pub open_code : OptionsView → CodeView → Look → Path → Page → Option Site
open_code o Indented l path p = open_indented path p
open_code o (Fenced info) l path p = open_fenced o info l path p

-- an HTML block writes nothing of its own; its choice says how it ends (CommonMark, section 4.6)
abbrev pub open_html : Look → Path → Page → Option Site
open_html l path p = entered HtmlBlock [] (HtmlEnds (is_blank_terminated l.first_html) (is_html_closed l.html)) path p

-- the token of a list, if it is a bullet list
abbrev pub bullet_of : OpeningChoice → Option ℕ
bullet_of (Listed c) = if is_none c.number then Some c.token else None
bullet_of c = None

-- the token of the nearest open bullet list
abbrev pub nearest_bullet : Path → Option ℕ
nearest_bullet [] = None
nearest_bullet (l ∷ path) = or_else (bullet_of l.content) (nearest_bullet path)

-- whether there is a number, and it is this one
abbrev pub is_number : Option ℕ → ℕ → Bool
is_number None n = false
is_number (Some m) n = m == n

-- what parts a list from one of the same kind (CommonMark, section 5.3); 46 is `.`, 41 is `)`
abbrev pub changed_token : Option ℕ → ℕ → ℕ
changed_token (Some number) token = if token == 46 then 41 else 46
changed_token None token = if token == asterisk then hyphen else asterisk

-- a list of this kind and token would go on with the last list
abbrev pub continues_list : Option LastList → ℕ → Option ℕ → ℕ → Bool
continues_list None depth number token = false
continues_list (Some l) depth number token = (l.depth == depth) && same_truth l.ordered (is_some number) && (l.token == token)

-- the preferred token; a bullet list right after another one's marker takes another
abbrev pub first_token : OptionsView → Option ℕ → Path → Page → ℕ
first_token o (Some number) path p = o.ordered_list_token
first_token o None path p =
    if at_item_start path p && is_number (nearest_bullet path) o.list_token then changed_token None o.list_token else o.list_token

-- a list's token: another one where it would go on with the last list (CommonMark, section 5.3)
abbrev pub list_token : OptionsView → Option ℕ → Path → Page → ℕ
list_token o number path p =
    let token = first_token o number path p in
    if continues_list p.trail.last_list (length path) number token then changed_token number token else token

-- a list; its markers are wide where indented code follows it
abbrev pub open_list : OptionsView → Option ℕ → Look → Path → Page → Option Site
open_list o number l path p =
    entered (ListOf number) [] (Listed (record {
      number = number;
      token = list_token o number path p;
      tight = l.tight;
      wide = and_is (λ e. starts is_indented_code e) l.next;
      labelled = l.lone_paragraph;
    })) path p

-- the number of an ordered list's item; nothing in a bullet list
abbrev pub number_text : Option ℕ → List ℕ
number_text None = []
number_text (Some n) = decimal n

-- an item's marker: spaces if it is wide, its number, the token, and spaces (CommonMark, section 5.2)
abbrev pub item_marker : ListChoice → List ℕ
item_marker c =
    (if c.wide then codes "   " else []) ++ number_text c.number ++ encode_utf8 c.token ++ (if c.wide then codes "    " else codes " ")

-- the number of the next item: incremented ones stop at 999999999
abbrev pub next_number : OptionsView → Option ℕ → Option ℕ
next_number o None = None
next_number o (Some n) = Some (if o.increment_ordered_list_bullets then min (n + 1) 999999999 else n)

-- an empty item in a list inside a list
abbrev pub is_empty_inner : Look → Path → Bool
is_empty_inner l path = l.empty_body && nat_le 2 (depth_in is_list path)

-- a definition of this label, with an empty destination (CommonMark, section 4.7)
abbrev pub label_text : List ℕ → List ℕ
label_text label = codes "[" ++ label ++ codes "]: <>"

-- the definition of the reserved label, which keeps an item apart from its only Paragraph, or an empty item an item
abbrev pub with_label : Option (List ℕ) → Bool → Bool → Path → Page → Page
with_label (Some label) true empty_inner path p = with_owed (if empty_inner then 1 else 2) (written path (label_text label) p)
with_label label needed empty_inner path p = p

-- an item in the list that chose this: its marker is written, and the list goes on to the next number
abbrev pub item_with : Setting → ListChoice → Level → Look → Path → Page → Option Site
item_with s c list l outside p =
    let path = record list { content = Listed (record c { number = next_number s.options c.number }) } ∷ outside in
    let empty_inner = is_empty_inner l path in
    entered Item (replicate (length (item_marker c)) space) Plain path
    (with_last ItemStart (with_label s.label (c.labelled || empty_inner) empty_inner path (written path (item_marker c) p)))

-- an item directly in a container with this content; none if that is not a list
abbrev pub item_in : Setting → OpeningChoice → Level → Look → Path → Page → Option Site
item_in s (Listed c) list l outside p = item_with s c list l outside p
item_in s c list l outside p = None

-- an item, which is directly in a list alone
abbrev pub open_item : Setting → Look → Path → Page → Option Site
open_item s l [] p = None
open_item s l (list ∷ outside) p = item_in s list.content list l outside p

-- the definition of a footnote: its label, and a body that is indented by four spaces
abbrev pub open_footnote : List ℕ → Path → Page → Option Site
open_footnote label path p = entered (FootnoteDefinition label) (codes "    ") Plain path (written path (codes "[^" ++ label ++ codes "]: ") p)

-- a title in a definition list, on a line of its own, but not right after an item's marker
abbrev pub open_title : Path → Page → Option Site
open_title path p =
    open_plain DefinitionListTitle path
    (if (p.sheet.feeds == 0) && not (length p.sheet.text == 0) && not (at_item_start path p) then written path (codes "\n") p else p)

-- a definition; a blank line before it says that its paragraphs are Paragraphs
abbrev pub open_definition : Look → Path → Page → Option Site
open_definition l path p =
    entered DefinitionListDefinition (codes "  ") (Defined l.has_paragraph) path
    (written path (codes ": ") (if l.begins_paragraph then filled_to 2 path p else p))

-- a table's head, which is directly in a table alone
abbrev pub open_head : Path → Page → Option Site
open_head path p = entered_if (is_directly_in is_table path) TableHead [] Plain path p

-- a cell, which is in a table alone
abbrev pub open_cell : Path → Page → Option Site
open_cell path p = entered_if (is_in is_table path) TableCell [] (Width 0) path (written path (codes "|") p)

-- the line that opens and closes metadata: `---` for YAML, or `+++`
abbrev pub metadata_fence : MetadataBlockKind → List ℕ
metadata_fence metadata.YamlStyle = codes "---\n"
metadata_fence metadata.PlusesStyle = codes "+++\n"

-- metadata, below the line that opens it
abbrev pub open_metadata : MetadataBlockKind → Path → Page → Option Site
open_metadata kind path p = open_plain (MetadataBlock kind) path (written path (metadata_fence kind) p)

-- a container between delimiters
abbrev pub open_delimited : TagView → List ℕ → List ℕ → Path → Page → Option Site
open_delimited t before after path p = entered t [] (Delimited before after) path (written path before p)

-- Emphasis or Strong, with the same marker before and after it (CommonMark, section 6.2)
abbrev pub open_emphasis : Setting → Manner → TagView → Look → Path → Page → Option Site
open_emphasis s m t l path p = open_delimited t (marker s m t l path p) (marker s m t l path p) path p

-- whether the flag with these bits is set
abbrev pub has_flag : ParserOptions → ℕ → Bool
has_flag flags bits = bit_and flags.0 bits == bits

-- whether there is an open container, and it opened with `~~`
abbrev pub is_double : Option Level → Bool
is_double None = false
is_double (Some l) = bytes_eq (opening_token l.content) (codes "~~")

-- `~~`, but `~` inside `~~`, where it isn't a subscript and the plan isn't the preferred one
abbrev pub strikethrough_token : Setting → Manner → Path → List ℕ
strikethrough_token s m path =
    if not (is_preferred m.plan.layout) && not (has_flag s.flags 0x4000) && is_double (nearest is_strikethrough path) then codes "~" else codes "~~"

-- the uniform layout, where each marker is the one that was asked for
abbrev pub is_uniform : Layout → Bool
is_uniform Uniform = true
is_uniform l = false

-- a superscript: as HTML if the options ask for it, else between `^^` in the uniform layout and `^` in others
abbrev pub open_superscript : Setting → Manner → Path → Page → Option Site
open_superscript s m path p =
    if s.options.use_html_for_super_sub_script then open_delimited Superscript (codes "<sup>") (codes "</sup>") path p
    else if is_uniform m.plan.layout then open_delimited Superscript (codes "^^") (codes "^^") path p
    else open_delimited Superscript (codes "^") (codes "^") path p

-- a subscript: as HTML if the options ask for it, else between `~`
abbrev pub open_subscript : Setting → Path → Page → Option Site
open_subscript s path p =
    if s.options.use_html_for_super_sub_script then open_delimited Subscript (codes "<sub>") (codes "</sub>") path p
    else open_delimited Subscript (codes "~") (codes "~") path p

-- a link or image that opens with this mark, and may be spelled by its id
abbrev pub open_named : TagView → List ℕ → Look → Path → Page → Option Site
open_named t mark l path p = entered t [] (Named l.named) path (written path mark p)

-- a link (CommonMark, section 6.3); an autolink opens with `<` (section 6.5)
abbrev pub link_mark : LinkType → List ℕ
link_mark kind = if is_raw_link kind then codes "<" else codes "["

-- what the opening of a container leaves, after its gap; none where the container may not be here
abbrev pub opening_of : Setting → Manner → TagView → Look → Path → Page → Option Site
opening_of s m (Heading level id classes attrs) l path p = open_heading (Heading level id classes attrs) level l path p
opening_of s m (BlockQuote kind) l path p = open_quote kind path p
opening_of s m (CodeBlock kind) l path p = open_code s.options kind l path p
opening_of s m HtmlBlock l path p = open_html l path p
opening_of s m (ListOf number) l path p = open_list s.options number l path p
opening_of s m Item l path p = open_item s l path p
opening_of s m (FootnoteDefinition label) l path p = open_footnote label path p
opening_of s m DefinitionListTitle l path p = open_title path p
opening_of s m DefinitionListDefinition l path p = open_definition l path p
opening_of s m (Table alignments) l path p = entered (Table alignments) [] (Headers []) path p
opening_of s m TableHead l path p = open_head path p
opening_of s m TableCell l path p = open_cell path p
opening_of s m Emphasis l path p = open_emphasis s m Emphasis l path p
opening_of s m Strong l path p = open_emphasis s m Strong l path p
opening_of s m Strikethrough l path p = open_delimited Strikethrough (strikethrough_token s m path) (strikethrough_token s m path) path p
opening_of s m Superscript l path p = open_superscript s m path p
opening_of s m Subscript l path p = open_subscript s path p
opening_of s m (Link kind dest title id) l path p = open_named (Link kind dest title id) (link_mark kind) l path p
opening_of s m (Image kind dest title id) l path p = open_named (Image kind dest title id) (codes "![") l path p
opening_of s m (MetadataBlock kind) l path p = open_metadata kind path p
opening_of s m t l path p = open_plain t path p

-- the same; what is written before a child other than an item's is no inline content
unfoldable pub opening : Setting → Manner → TagView → Look → Path → Page → Option Site
opening s m t l path p = opening_of s m t l path (with_last Other p)
