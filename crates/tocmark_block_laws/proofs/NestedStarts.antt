-- What a line begins where lists are open in each other.
use Rattle.std.proofs.Common.{◌≡◌, ◌⊎◌, inl, inr, ℕ, suc, ◌+◌, ◌-◌, ◌<◌, ◌≤◌, Bool, true, false, not, ◌==◌, ◌&&◌, if◌then◌else◌, max, nat_lt, List, [], ◌∷◌, ◌++◌, length, refl, ap, sym, ◌∙◌, arith, length-append, true≢false, Option, Some, None}
use Rattle.tocmark_event.specs.declared.event.HeadingLevel.{HeadingLevel}
use Rattle.tocmark_read_scan.specs.Basic.{plus}
use Rattle.tocmark_read_scan.proofs.Repeats.{repeated_more}
use Rattle.tocmark_read_lines.specs.Cells.{cell_place, moved}
use Rattle.tocmark_read_lines.specs.Marks.{tail_of}
use Rattle.tocmark_read_lines.specs.declared.cell.Cell.{Cell}
use Rattle.tocmark_read_lines.specs.declared.cell.Cursor.{Cursor}
use Rattle.tocmark_read_lines.specs.declared.container.Container.TheVariants as container
use Rattle.tocmark_read_lines.specs.declared.container.ContainerStart.TheVariants as begins
use Rattle.tocmark_read_lines.specs.declared.container.Opened.{Opened}
use Rattle.tocmark_read_lines.specs.declared.line.Line.{Line}
use Rattle.tocmark_read_lines.proofs.Columns.{length_kept}
use Rattle.tocmark_read_page.specs.Leaves.{is_paragraph}
use Rattle.tocmark_read_page.specs.Pages.{State, closed_to, ended, loosened, opened_with, some_place, with_place}
use Rattle.tocmark_read_page.specs.declared.leaf.Leaf.TheVariants as leaf
use Rattle.tocmark_read_page.specs.declared.page.Block.{Block as ReadBlock}
use Rattle.tocmark_read_page.specs.declared.page.BlockKind.TheVariants as kind
use Rattle.tocmark_read_page.specs.declared.piece.Piece.{Piece}
use Rattle.tocmark_read_constructs.specs.Metadata.{metadata_in}
use Rattle.tocmark_read_constructs.specs.Quotes.{quote_kind_in, tag_in}
use Rattle.tocmark_read_constructs.specs.Tasks.{task_in}
use Rattle.tocmark_read_blocks.specs.Blocks.{leaf_started_in, started_at, started}
use Rattle.tocmark_read_blocks.specs.Containers.{goes_directly, begun_at, container_once_in, container_once, list_started, item_opened}
use Rattle.tocmark_read_blocks.specs.Leaves.{metadata_or, task_or, quote_kind_or, tag_or}
use Rattle.tocmark_read_blocks.specs.declared.leaf.LeafStart.{LeafStart}
use Rattle.tocmark_read_blocks.specs.declared.leaf.LeafStart.TheVariants as start
use Rattle.tocmark_commonmark.specs.Lines.{Line as DeclaredLine, Written}
use Rattle.tocmark_commonmark.specs.Beginnings.{ItemMark, Beginning, BlankLine, CodeLine, QuoteLine, HeadingLine, FenceLine, HtmlLine, RuleLine, ItemLine, TextLine, LazyLine, beginning, interrupts}
use Rattle.tocmark_commonmark.specs.Leaves.{underline, underlined}
use Rattle.tocmark_block_laws.specs.Quotes.{ends_with_feed, is_leaf}
use Rattle.tocmark_block_laws.specs.Lists.{is_short_leaf}
use Rattle.tocmark_block_laws.proofs.Marks.{heading_later}
use Rattle.tocmark_block_laws.proofs.LinkDefinitions.{brackets_none}
use Rattle.tocmark_block_laws.proofs.Starts.{plain_start, start_as, is_quote_kind, is_blank_kind, Facts}
use Rattle.tocmark_block_laws.proofs.Seen.{facts_at}
use Rattle.tocmark_block_laws.proofs.Markers.{ItemFacts, item_start, item_of}
use Rattle.tocmark_block_laws.proofs.Pages.{here, begin, same_start, text_start, opens_none}
use Rattle.tocmark_block_laws.proofs.ListPages.{list_box, stack_page, is_top_start}
use Rattle.tocmark_block_laws.proofs.Nests.{Home, InItem, boxes, depth, box_count, home_page, home_stays, stack_stays, item_opens, list_opens, list_ends, leaf_after_list, loose_blocks, block_in}
use Rattle.tocmark_block_laws.proofs.Within.{Known, bytes_in, columns_of, left_from, place_from, part_from, at_column}

-- what both see of a line that begins a heading, a thematic break or a paragraph

pub short_leaf : (fed : Bool) (k : Beginning) → is_short_leaf k ≡ true → is_leaf fed k ≡ true
short_leaf fed BlankLine e = absurd (true≢false (sym e))
short_leaf fed CodeLine e = absurd (true≢false (sym e))
short_leaf fed QuoteLine e = absurd (true≢false (sym e))
short_leaf fed (HeadingLine h) e = refl
short_leaf fed (FenceLine f) e = absurd (true≢false (sym e))
short_leaf fed (HtmlLine k) e = absurd (true≢false (sym e))
short_leaf fed RuleLine e = refl
short_leaf fed (ItemLine m) e = absurd (true≢false (sym e))
short_leaf fed TextLine e = refl
short_leaf fed LazyLine e = absurd (true≢false (sym e))

pub short_quote : (k : Beginning) → is_short_leaf k ≡ true → is_quote_kind k ≡ false
short_quote BlankLine e = refl
short_quote CodeLine e = refl
short_quote QuoteLine e = absurd (true≢false (sym e))
short_quote (HeadingLine h) e = refl
short_quote (FenceLine f) e = refl
short_quote (HtmlLine k) e = refl
short_quote RuleLine e = refl
short_quote (ItemLine m) e = refl
short_quote TextLine e = refl
short_quote LazyLine e = refl

pub short_ink : (k : Beginning) → is_short_leaf k ≡ true → is_blank_kind k ≡ false
short_ink BlankLine e = absurd (true≢false (sym e))
short_ink CodeLine e = refl
short_ink QuoteLine e = refl
short_ink (HeadingLine h) e = refl
short_ink (FenceLine f) e = refl
short_ink (HtmlLine k) e = refl
short_ink RuleLine e = refl
short_ink (ItemLine m) e = refl
short_ink TextLine e = refl
short_ink LazyLine e = refl

abbrev pub LeafFacts : (text : List ℕ) (l : Line) (c : ℕ) → Type 0
LeafFacts text l c = Facts text l (columns_of text l) (place_from text l c) (left_from text l c)

pub leaf_facts : (text : List ℕ) (l : Line) (known : Known text l) (c : ℕ) (inside : c ≤ length (bytes_in text l)) → is_short_leaf (beginning (Written (part_from text l c))) ≡ true → LeafFacts text l c
leaf_facts text l known c inside short = facts_at text l c (bytes_in text l) (left_from text l c) (at_column text l known c inside) (λ e. short_leaf (ends_with_feed text) (beginning (Written (part_from text l c))) short)

-- a leaf begins so
pub leaf_begun : (text : List ℕ) (l : Line) (c : ℕ) (f : LeafFacts text l c) (k : Beginning) → f.kind ≡ k → is_short_leaf k ≡ true → (d : ℕ) (s : State) (p w : Bool) → is_paragraph s.leaf ≡ p → goes_directly d s ≡ w
    → begin text (columns_of text l) l d (place_from text l c) s ≡ started (start_as (place_from text l c) p w f.level k) text (columns_of text l) l (tail_of (columns_of text l)) (here d (place_from text l c)) s
unfolding leaf_started_in metadata_in metadata_or task_in task_or quote_kind_in quote_kind_or tag_in tag_or
leaf_begun text l c f k is short d s p w e h =
    ap (started_at text columns l (tail_of columns)) (opens_none text columns l d place (length columns) s (f.opens no_quote))
    ∙ ap (λ x. started x text columns l (tail_of columns) (here d place) s) (f.starts no_quote (is_paragraph s.leaf) (goes_directly d s))
    ∙ ap (λ x. started (start_as place x (goes_directly d s) f.level f.kind) text columns l (tail_of columns) (here d place) s) e
    ∙ ap (λ x. started (start_as place p x f.level f.kind) text columns l (tail_of columns) (here d place) s) h
    ∙ ap (λ x. started (start_as place p w f.level x) text columns l (tail_of columns) (here d place) s) is
  where
    columns : List Cell
    columns = columns_of text l

    place : Cursor
    place = place_from text l c

    no_quote : is_quote_kind f.kind ≡ false
    no_quote = ap is_quote_kind is ∙ short_quote k short

-- the level of an underline

pub level_none : (u : Option HeadingLevel) → underlined ([] ∷ []) u ≡ None → u ≡ None
level_none None e = refl
level_none (Some level) e = absurd (let q : Some level ≡ None = sym (ap (λ n. if nat_lt n 1 then Some level else None) (ap (λ (d : List _ × ℕ). d.1) (brackets_none [] [] refl))) ∙ e in cc)

plain_none : (w : Bool) (other : LeafStart) → plain_start w None other ≡ other
plain_none true other = refl
plain_none false other = refl

-- a line begins the same as where no paragraph is open

-- if a paragraph is open, and directly above it
abbrev pub Clear : Bool → Bool → DeclaredLine → Beginning → Type 0
Clear p w l (HeadingLine h) = Unit {0}
Clear p w l RuleLine = (w ≡ false) ⊎ (underline ([] ∷ []) l ≡ None)
Clear p w l TextLine = (p ≡ false) × (w ≡ false)
Clear p w l (ItemLine m) = (w && not (interrupts (ItemLine m))) ≡ false
Clear p w l k = ⊥

no_paragraph_directly : (d : ℕ) (s : State) → is_paragraph s.leaf ≡ false → goes_directly d s ≡ false
unfolding goes_directly
no_paragraph_directly d s e = rw e refl

leaf_same : (text : List ℕ) (l : Line) (known : Known text l) (c : ℕ) (inside : c ≤ length (bytes_in text l)) (k : Beginning) → beginning (Written (part_from text l c)) ≡ k → is_short_leaf k ≡ true → (d : ℕ) (s t : State) (p w : Bool) → is_paragraph s.leaf ≡ p → goes_directly d s ≡ w → is_paragraph t.leaf ≡ false → closed_to text d s ≡ closed_to text d t
    → Clear p w (Written (part_from text l c)) k → begin text (columns_of text l) l d (place_from text l c) s ≡ begin text (columns_of text l) l d (place_from text l c) t
leaf_same text l known c inside k e short d s t p w hs hw ht h clear =
    leaf_begun text l c f k is short d s p w hs hw ∙ by k is short clear ∙ sym (leaf_begun text l c f k is short d t false false ht (no_paragraph_directly d t ht))
  where
    columns : List Cell
    columns = columns_of text l

    place : Cursor
    place = place_from text l c

    f : LeafFacts text l c
    f = leaf_facts text l known c inside (ap is_short_leaf e ∙ short)

    is : f.kind ≡ k
    is = sym f.begins ∙ e

    level : underline ([] ∷ []) (Written (part_from text l c)) ≡ None → f.level ≡ None
    level q = level_none f.level (sym (f.under (ap is_blank_kind is ∙ short_ink k short) ([] ∷ [])) ∙ q)

    Result : Beginning → Type 0
    Result x = started (start_as place p w f.level x) text columns l (tail_of columns) (here d place) s ≡ started (start_as place false false f.level x) text columns l (tail_of columns) (here d place) t

    ruled : (w ≡ false) ⊎ (underline ([] ∷ []) (Written (part_from text l c)) ≡ None) → plain_start w f.level start.Rule ≡ start.Rule
    ruled (inl q) = ap (λ x. plain_start x f.level start.Rule) q
    ruled (inr q) = ap (λ u. plain_start w u start.Rule) (level q) ∙ plain_none w start.Rule

    by : (x : Beginning) → f.kind ≡ x → is_short_leaf x ≡ true → Clear p w (Written (part_from text l c)) x → Result x
    by BlankLine i o q = absurd (true≢false (sym o))
    by CodeLine i o q = absurd (true≢false (sym o))
    by QuoteLine i o q = absurd (true≢false (sym o))
    by (HeadingLine x) i o q = same_start text columns l d place (start.Heading (heading_later place.ink x)) s t refl h
    by (FenceLine x) i o q = absurd (true≢false (sym o))
    by (HtmlLine x) i o q = absurd (true≢false (sym o))
    by RuleLine i o q = ap (λ x. started x text columns l (tail_of columns) (here d place) s) (ruled q) ∙ same_start text columns l d place start.Rule s t refl h
    by (ItemLine m) i o q = absurd (true≢false (sym o))
    by TextLine i o q = ap (λ x. started (plain_start x f.level start.Text) text columns l (tail_of columns) (here d place) s) (q.1) ∙ text_start text columns l d place s t (hs ∙ q.0) ht h
    by LazyLine i o q = absurd (true≢false (sym o))

-- items

pub item_facts : (text : List ℕ) (l : Line) (known : Known text l) (c : ℕ) (inside : c ≤ length (bytes_in text l)) (m : ItemMark) → beginning (Written (part_from text l c)) ≡ ItemLine m → ItemFacts l c (bytes_in text l) (left_from text l c) m
item_facts text l known c inside m e = item_of text l c (bytes_in text l) (left_from text l c) m (at_column text l known c inside) e

abbrev pub MarkFacts : (text : List ℕ) (l : Line) (c : ℕ) (m : ItemMark) → Type 0
MarkFacts text l c m = ItemFacts l c (bytes_in text l) (left_from text l c) m

-- where the line of a marker begins the item
abbrev pub mark_place : (text : List ℕ) (l : Line) (c : ℕ) → ℕ
mark_place text l c = cell_place (columns_of text l) ((place_from text l c).ink) l.end

item_once : (text : List ℕ) (l : Line) (c : ℕ) (m : ItemMark) (i : MarkFacts text l c m) (d : ℕ) (s : State) → (goes_directly d s && not (interrupts (ItemLine m))) ≡ false
    → container_once text (columns_of text l) l (tail_of (columns_of text l)) (here d (place_from text l c)) s ≡ some_place (item_opened text (columns_of text l) l (here d (place_from text l c)) (item_start m i.to) s)
unfolding container_once_in
item_once text l c m i d s clear =
    ap (begun_at text (columns_of text l) l (here d (place_from text l c)) s) (i.opens (goes_directly d s) ∙ ap (λ k. if k then None else Some (begins.Item (item_start m i.to))) clear)

has_columns : (text : List ℕ) (l : Line) (c : ℕ) (m : ItemMark) → MarkFacts text l c m → 0 < length (columns_of text l)
has_columns text l c m i = omega (arith, length_kept l.start [] (bytes_in text l), i.inked)

-- an item begins on pages that end as the same one
item_same : (text : List ℕ) (l : Line) (c : ℕ) (m : ItemMark) (i : MarkFacts text l c m) (d : ℕ) (s t : State) → (goes_directly d s && not (interrupts (ItemLine m))) ≡ false → (goes_directly d t && not (interrupts (ItemLine m))) ≡ false → closed_to text d s ≡ closed_to text d t
    → begin text (columns_of text l) l d (place_from text l c) s ≡ begin text (columns_of text l) l d (place_from text l c) t
unfolding leaf_started_in item_opened
item_same text l c m i d s t hs ht h =
    ap (started_at text columns l (tail_of columns))
    (repeated_more (container_once text columns l (tail_of columns)) (length columns) (here d place) (here (length (page t).opened) (moved columns place i.to)) s (page t) (has_columns text l c m i) (sym (once_same s hs h))
    ∙ sym (repeated_more (container_once text columns l (tail_of columns)) (length columns) (here d place) (here (length (page t).opened) (moved columns place i.to)) t (page t) (has_columns text l c m i) (sym (once_same t ht refl))))
  where
    columns : List Cell
    columns = columns_of text l

    place : Cursor
    place = place_from text l c

    from_closed : State → State
    from_closed u = opened_with (container.Item m.width) kind.Item (mark_place text l c) l (list_started (item_start m i.to) (mark_place text l c) l u)

    page : State → State
    page u = from_closed (closed_to text d u)

    once_same : (u : State) → (goes_directly d u && not (interrupts (ItemLine m))) ≡ false → closed_to text d u ≡ closed_to text d t
        → container_once text columns l (tail_of columns) (here d place) u ≡ (page t, Some (here (length (page t).opened) (moved columns place i.to)))
    once_same u hu e = item_once text l c m i d u hu ∙ ap (λ v. some_place (with_place (moved columns place i.to) (from_closed v))) e

-- a line begins the same on pages that end as the same one
pub begins_same : (text : List ℕ) (l : Line) (known : Known text l) (c : ℕ) (inside : c ≤ length (bytes_in text l)) (k : Beginning) → beginning (Written (part_from text l c)) ≡ k → (d : ℕ) (s t : State) (p w : Bool) → is_paragraph s.leaf ≡ p → goes_directly d s ≡ w → is_paragraph t.leaf ≡ false → closed_to text d s ≡ closed_to text d t
    → Clear p w (Written (part_from text l c)) k → begin text (columns_of text l) l d (place_from text l c) s ≡ begin text (columns_of text l) l d (place_from text l c) t
begins_same text l known c inside BlankLine e d s t p w hs hw ht h clear = absurd clear
begins_same text l known c inside CodeLine e d s t p w hs hw ht h clear = absurd clear
begins_same text l known c inside QuoteLine e d s t p w hs hw ht h clear = absurd clear
begins_same text l known c inside (HeadingLine x) e d s t p w hs hw ht h clear = leaf_same text l known c inside (HeadingLine x) e refl d s t p w hs hw ht h clear
begins_same text l known c inside (FenceLine x) e d s t p w hs hw ht h clear = absurd clear
begins_same text l known c inside (HtmlLine x) e d s t p w hs hw ht h clear = absurd clear
begins_same text l known c inside RuleLine e d s t p w hs hw ht h clear = leaf_same text l known c inside RuleLine e refl d s t p w hs hw ht h clear
begins_same text l known c inside (ItemLine m) e d s t p w hs hw ht h clear =
    item_same text l c m (item_facts text l known c inside m e) d s t (ap (λ k. k && not (interrupts (ItemLine m))) hw ∙ clear) (ap (λ k. k && not (interrupts (ItemLine m))) (no_paragraph_directly d t ht)) h
begins_same text l known c inside TextLine e d s t p w hs hw ht h clear = leaf_same text l known c inside TextLine e refl d s t p w hs hw ht h clear
begins_same text l known c inside LazyLine e d s t p w hs hw ht h clear = absurd clear

-- an item begins in a list, and then its content

abbrev pub item_block : ℕ → ℕ → ℕ → List Piece → ReadBlock
item_block d b at ps = record { depth = suc d; kind = kind.Item; start = at; end = at; first = length ps; last = length ps; loose = false; list = Some b; task = None }

pub item_comes : (text : List ℕ) (l : Line) (known : Known text l) (c : ℕ) (inside : c ≤ length (bytes_in text l)) (m : ItemMark) (i : MarkFacts text l c m) (d : ℕ) (s : State) (outer : List Opened) (sort b le ln : ℕ) (had : Bool) (bs : List ReadBlock) (ps : List Piece) (end number kept : ℕ) (apart : Bool)
    → is_paragraph s.leaf ≡ false → is_short_leaf (beginning (Written (part_from text l i.to))) ≡ true
    → list_started (item_start m i.to) (mark_place text l c) l (closed_to text d s) ≡ stack_page (outer ++ list_box sort b le ln had ∷ []) leaf.Nothing bs ps end number kept → (had && nat_lt (plus ln 1) l.number) ≡ apart
    → begin text (columns_of text l) l d (place_from text l c) s
    ≡ begin text (columns_of text l) l (suc (suc (length outer))) (place_from text l i.to) (home_page (InItem outer sort b le ln m.width (length (loosened (Some b) apart bs))) l.end l.number false leaf.Nothing (loosened (Some b) apart bs ++ item_block (length outer) b (mark_place text l c) ps ∷ []) ps end number kept)
unfolding leaf_started_in item_opened
item_comes text l known c inside m i d s outer sort b le ln had bs ps end number kept apart calm short starts near =
    ap (started_at text columns l (tail_of columns))
    (repeated_more (container_once text columns l (tail_of columns)) (length columns) (here d place) (here (suc (suc (length outer))) next) s page (has_columns text l c m i) (sym once)
    ∙ opens_none text columns l (suc (suc (length outer))) next (length columns - 1) page (f.opens no_quote)
    ∙ sym (opens_none text columns l (suc (suc (length outer))) next (length columns) page (f.opens no_quote)))
  where
    columns : List Cell
    columns = columns_of text l

    place : Cursor
    place = place_from text l c

    next : Cursor
    next = place_from text l i.to

    f : LeafFacts text l i.to
    f = leaf_facts text l known i.to i.inside short

    no_quote : is_quote_kind f.kind ≡ false
    no_quote = ap is_quote_kind (sym f.begins) ∙ short_quote (beginning (Written (part_from text l i.to))) short

    home : Home
    home = InItem outer sort b le ln m.width (length (loosened (Some b) apart bs))

    page : State
    page = home_page home l.end l.number false leaf.Nothing (loosened (Some b) apart bs ++ item_block (length outer) b (mark_place text l c) ps ∷ []) ps end number kept

    opens : opened_with (container.Item m.width) kind.Item (mark_place text l c) l (list_started (item_start m i.to) (mark_place text l c) l (closed_to text d s)) ≡ page
    opens = ap (opened_with (container.Item m.width) kind.Item (mark_place text l c) l) starts ∙ item_opens m.width (mark_place text l c) l outer sort b le ln had bs ps end number kept apart near

    directly : (goes_directly d s && not (interrupts (ItemLine m))) ≡ false
    directly = ap (λ k. k && not (interrupts (ItemLine m))) (no_paragraph_directly d s calm)

    once : container_once text columns l (tail_of columns) (here d place) s ≡ (page, Some (here (suc (suc (length outer))) next))
    once =
        item_once text l c m i d s directly ∙ ap (λ u. some_place (with_place (moved columns place i.to) u)) opens ∙ ap (λ q. some_place (with_place q page)) i.moves
        ∙ ap (λ (n : ℕ). (page, Some (here n next))) (box_count home l.end l.number false)

-- a line after a list begins the same as after the list has ended
pub begins_after_list : (text : List ℕ) (l : Line) (known : Known text l) (c : ℕ) (inside : c ≤ length (bytes_in text l)) (k : Beginning) → beginning (Written (part_from text l c)) ≡ k → (p : Home) (e n sort b le ln : ℕ) (bs : List ReadBlock) (ps : List Piece) (end number kept : ℕ)
    → (is_short_leaf k ≡ true) ⊎ ((m : ItemMark) × (k ≡ ItemLine m) × ((sort == m.sort) ≡ false) × (is_short_leaf (beginning (Written m.first)) ≡ true))
    → begin text (columns_of text l) l (suc (depth p)) (place_from text l c) (stack_page (boxes p e n true ++ list_box sort b le ln true ∷ []) leaf.Nothing bs ps end number kept)
    ≡ begin text (columns_of text l) l (depth p) (place_from text l c) (home_page p (max e le) (max n ln) true leaf.Nothing (ended bs b le) ps end number kept)
unfolding is_paragraph goes_directly
begins_after_list text l known c inside k e p en n sort b le ln bs ps end number kept w = by w
  where
    columns : List Cell
    columns = columns_of text l

    place : Cursor
    place = place_from text l c

    with_list : State
    with_list = stack_page (boxes p en n true ++ list_box sort b le ln true ∷ []) leaf.Nothing bs ps end number kept

    without : State
    without = home_page p (max en le) (max n ln) true leaf.Nothing (ended bs b le) ps end number kept

    count : length (boxes p en n true ++ list_box sort b le ln true ∷ []) ≡ suc (depth p)
    count = let q : length (boxes p en n true ++ list_box sort b le ln true ∷ []) ≡ length (boxes p en n true) + 1 = length-append (boxes p en n true) (list_box sort b le ln true ∷ []) in omega (arith, q, box_count p en n true)

    top_start : (level : Option HeadingLevel) (x : Beginning) → is_short_leaf x ≡ true → is_top_start (start_as place false false level x) ≡ true
    top_start level BlankLine o = absurd (true≢false (sym o))
    top_start level CodeLine o = absurd (true≢false (sym o))
    top_start level QuoteLine o = absurd (true≢false (sym o))
    top_start level (HeadingLine h) o = refl
    top_start level (FenceLine f) o = absurd (true≢false (sym o))
    top_start level (HtmlLine h) o = absurd (true≢false (sym o))
    top_start level RuleLine o = refl
    top_start level (ItemLine m) o = absurd (true≢false (sym o))
    top_start level TextLine o = refl
    top_start level LazyLine o = absurd (true≢false (sym o))

    leafed : is_short_leaf k ≡ true → begin text columns l (suc (depth p)) place with_list ≡ begin text columns l (depth p) place without
    leafed short =
        let f : LeafFacts text l c = leaf_facts text l known c inside (ap is_short_leaf e ∙ short) in
        leaf_begun text l c f k (sym f.begins ∙ e) short (suc (depth p)) with_list false false refl refl
        ∙ leaf_after_list text columns l place (start_as place false false f.level k) p en n sort b le ln true bs ps end number kept (top_start f.level k short)
        ∙ sym (leaf_begun text l c f k (sym f.begins ∙ e) short (depth p) without false false refl refl)

    listed : (m : ItemMark) → k ≡ ItemLine m → (sort == m.sort) ≡ false → is_short_leaf (beginning (Written m.first)) ≡ true → begin text columns l (suc (depth p)) place with_list ≡ begin text columns l (depth p) place without
    listed m q other short =
        let i : MarkFacts text l c m = item_facts text l known c inside m (e ∙ q) in
        let content : is_short_leaf (beginning (Written (part_from text l i.to))) ≡ true = ap (λ x. is_short_leaf (beginning (Written x))) (sym i.first) ∙ short in
        let cs : List ReadBlock = loose_blocks p (max n ln) true l.number (ended bs b le) ++ block_in p (kind.List m.number) (mark_place text l c) (mark_place text l c) (length ps) (length ps) ∷ [] in
        let opens : list_started (item_start m i.to) (mark_place text l c) l without ≡ stack_page (boxes p (max en le) (max n ln) true ++ list_box m.sort (length (loose_blocks p (max n ln) true l.number (ended bs b le))) l.end l.number false ∷ []) leaf.Nothing cs ps end number kept =
        list_opens (item_start m i.to) (mark_place text l c) l p (max en le) (max n ln) true (ended bs b le) ps end number kept in
        item_comes text l known c inside m i (suc (depth p)) with_list (boxes p (max en le) (max n ln) true) m.sort (length (loose_blocks p (max n ln) true l.number (ended bs b le))) l.end l.number false cs ps end number kept false refl content
        (ap (list_started (item_start m i.to) (mark_place text l c) l) (stack_stays text (boxes p en n true ++ list_box sort b le ln true ∷ []) (suc (depth p)) bs ps end number kept count)
        ∙ list_ends (item_start m i.to) (mark_place text l c) l p en n sort b le ln true bs ps end number kept other ∙ opens) refl
        ∙ sym (item_comes text l known c inside m i (depth p) without (boxes p (max en le) (max n ln) true) m.sort (length (loose_blocks p (max n ln) true l.number (ended bs b le))) l.end l.number false cs ps end number kept false refl content
        (ap (list_started (item_start m i.to) (mark_place text l c) l) (home_stays text p (max en le) (max n ln) true (ended bs b le) ps end number kept) ∙ opens) refl)

    by : (is_short_leaf k ≡ true) ⊎ ((m : ItemMark) × (k ≡ ItemLine m) × ((sort == m.sort) ≡ false) × (is_short_leaf (beginning (Written m.first)) ≡ true)) → begin text columns l (suc (depth p)) place with_list ≡ begin text columns l (depth p) place without
    by (inl short) = leafed short
    by (inr (m, q, other, short)) = listed m q other short
