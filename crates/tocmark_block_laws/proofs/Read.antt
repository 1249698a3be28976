-- Of a text without lists and definitions the reader finds the blocks that are declared.
use Rattle.std.proofs.Common.{◌≡◌, ℕ, zero, suc, ◌+◌, ◌-◌, ◌^◌, ◌<◌, ◌≤◌, Bool, true, false, not, ◌&&◌, ◌||◌, min, nat_le, List, [], ◌∷◌, ◌++◌, length, map, drop, refl, ap, sym, subst, ◌∙◌, arith, append-nil, length-append, true≢false}
use Rattle.std.specs.Prelude.{Option, Some, None}
use Rattle.std.specs.List.{AllByRecursion, fold, list_any, list_all}
use Rattle.std.proofs.lemmas.Bool.Decides.{nat_tests}
use Rattle.std.proofs.lemmas.List.{length-map}
use Rattle.tocmark_read_scan.specs.Basic.{plus, bytes_between}
use Rattle.tocmark_read_lines.specs.Cells.{cells_at, cell_place, first_cursor}
use Rattle.tocmark_read_lines.specs.Lines.{lines_of}
use Rattle.tocmark_read_lines.specs.Marks.{heading_at, fence_at, tail_of, is_rule, marker_at}
use Rattle.tocmark_read_lines.specs.declared.beginnings.Fence.{Fence}
use Rattle.tocmark_read_lines.specs.declared.beginnings.Heading.{Heading as HeadingMark}
use Rattle.tocmark_read_lines.specs.declared.beginnings.Marker.{Marker}
use Rattle.tocmark_read_lines.specs.declared.cell.Cell.{Cell}
use Rattle.tocmark_read_lines.specs.declared.cell.Cursor.{Cursor}
use Rattle.tocmark_read_lines.specs.declared.html.HtmlKind.{HtmlKind}
use Rattle.tocmark_read_lines.specs.declared.line.Line.{Line}
use Rattle.tocmark_read_page.specs.Leaves.{is_paragraph}
use Rattle.tocmark_read_page.specs.Pages.{State, closed_to}
use Rattle.tocmark_read_page.specs.Pieces.{piece_of, heading_piece, keeps_line}
use Rattle.tocmark_read_page.specs.declared.page.Block.{Block as ReadBlock}
use Rattle.tocmark_read_page.specs.declared.page.BlockKind.TheVariants as kind
use Rattle.tocmark_read_page.specs.declared.piece.Piece.{Piece}
use Rattle.tocmark_read_page.specs.declared.leaf.Leaf.TheVariants as leaf
use Rattle.tocmark_read_constructs.specs.Metadata.{known_of}
use Rattle.tocmark_read_blocks.specs.Blocks.{line_taken, page_in, blocks_in, started}
use Rattle.tocmark_read_blocks.specs.Codes.{code_taken, html_ended}
use Rattle.tocmark_read_blocks.specs.declared.leaf.LeafStart.{LeafStart}
use Rattle.tocmark_read_blocks.specs.declared.leaf.LeafStart.TheVariants as start
use Rattle.tocmark_commonmark.specs.Lines.{Line as DeclaredLine, Part, is_blank, indent, ink, without_last_blanks, line_bytes, line_ink, cells, lines_of as declared_lines}
use Rattle.tocmark_commonmark.specs.Tree.{Blocks, none, more, Rule, Heading, Found, ended, tree, defined}
use Rattle.tocmark_commonmark.specs.Beginnings.{Beginning, BlankLine, CodeLine, QuoteLine, HeadingLine, FenceLine, HtmlLine, RuleLine, ItemLine, TextLine, LazyLine, first_of_these, html_if, beginning_of, beginning, begins_with, heading_text}
use Rattle.tocmark_commonmark.specs.Containers.{goes_on, front, in_quote_as, in_quote, quote, quote_with}
use Rattle.tocmark_commonmark.specs.Leaves.{indented_code, fenced_code, html_block, paragraph_lines, paragraph_of}
use Rattle.tocmark_commonmark.specs.Blocks.{first_block, blocks_from, size, blocks, blocks_of}
use Rattle.tocmark_block_laws.specs.Trees.{told, tree_of, placed_in, leaf_text}
use Rattle.tocmark_block_laws.specs.Quotes.{is_special, IsPlain, ends_with_feed, is_leaf, content_of, is_covered, QuotesAreDeclared}
use Rattle.tocmark_block_laws.proofs.TextLines.{declared, lines_same, Sound, lines_sound, lines_few, between_plain}
use Rattle.tocmark_block_laws.proofs.Apart.{after_these}
use Rattle.tocmark_block_laws.proofs.Feeds.{has_feed, IsFeedless, feedless_lines}
use Rattle.tocmark_block_laws.proofs.Paragraphs.{first_draft, text_begins}
use Rattle.tocmark_block_laws.proofs.Marks.{heading_later}
use Rattle.tocmark_block_laws.proofs.Texts.{between_none, between_length}
use Rattle.tocmark_block_laws.proofs.Fronts.{part_at, place_at, cursor_same}
use Rattle.tocmark_block_laws.proofs.Codes.{Fed, CodeFacts, Taken, lines_fed}
use Rattle.tocmark_block_laws.proofs.Open.{Open, with_block, entered}
use Rattle.tocmark_block_laws.proofs.Starts.{IsLeafLine, html_start, start_as, is_blank_kind, is_quote_kind, left_at, HeadingFacts}
use Rattle.tocmark_block_laws.proofs.Seen.{Seen, FactsOf, facts, Next}
use Rattle.tocmark_block_laws.proofs.Pages.{here, closed, with_open, leaf_page, begin, past, piece_in, rule_block, ended_block, quote_block, plain_begins, blank_passes, rule_comes, interrupts_first, has_words, words, piece_if, heading_comes, takes_kept, fence_comes, indented_comes, html_comes, quote_kind_is, next_seen, quote_enters}
use Rattle.tocmark_block_laws.proofs.Told.{also, Run, Holds, holds_none, holds_more, holds_read, heading_told}
use Rattle.tocmark_block_laws.proofs.Ends.{Coming, Plainly, shown, weigh, taken, Legit, In, Lines, said, Shuts, Ends, Reads, ends_cons, Again, goal_of, from_there}
use Rattle.tocmark_block_laws.proofs.ReadCodes.{same_column, says_at, fence_read, code_read}
use Rattle.tocmark_block_laws.proofs.ReadHtml.{html_next, html_read}
use Rattle.tocmark_block_laws.proofs.ReadParagraphs.{paragraph_read, paragraph_first}
use Rattle.tocmark_block_laws.proofs.ReadQuotes.{All, Quoting, quote_goes}

-- the text of a heading is that which is declared
pub words_told : (text : List ℕ) (l : Line) (columns : List Cell) (n : ℕ) (h : HeadingMark) (ys : List ℕ) → HeadingFacts text l columns n h ys → (k : Bool) → has_words columns (heading_later n h) l ≡ k
    → leaf_text text (piece_if k (heading_piece columns (heading_later n h) l)) ≡ heading_text h ys (cells ys)
unfolding heading_piece
words_told text l columns n h ys f true e = ap without_last_blanks f.says ∙ f.idle
words_told text l columns n h ys f false e = sym (between_none text (cell_place columns (n + h.from) l.end) (cell_place columns (n + h.to) l.end) e) ∙ f.says

pub few_words : (k : Bool) (p : Piece) → length (piece_if k p) ≤ 1
few_words true p = omega arith
few_words false p = omega arith

-- a line begins code only if it is indented so far

near_code : (part : Part) (q : Bool) (h : Option HeadingMark) (f : Option Fence) (k : Option HtmlKind) (r : Bool) (m : Option Marker) → first_of_these part q h f k r m ≡ CodeLine → ⊥
near_code part true h f k r m e = absurd cc
near_code part false (Some x) f k r m e = absurd cc
near_code part false None (Some f) k r m e = absurd cc
near_code part false None None (Some k) r m e = absurd cc
near_code part false None None None true m e = absurd cc
near_code part false None None None false (Some m) e = absurd cc
near_code part false None None None false None e = absurd cc

begins_code : (p : Part) (blank far : Bool) → beginning_of p blank far ≡ CodeLine → (blank ≡ false) × (far ≡ true)
begins_code p true far e = absurd cc
begins_code p false true e = (refl, refl)
begins_code p false false e =
    let c : List Cell = cells (ink p) in
    absurd (near_code p (begins_with 62 (ink p)) (heading_at c 0) (fence_at c (first_cursor c)) (html_if (begins_with 60 (ink p)) (ink p)) (is_rule c (tail_of c) 0) (marker_at c 0) e)

begins_html : (p : Part) (blank far : Bool) (k : HtmlKind) → beginning_of p blank far ≡ HtmlLine k → blank ≡ false
begins_html p true far k e = absurd cc
begins_html p false far k e = refl

code_inked : (place : Cursor) (ys : List ℕ) → beginning (left_at place ys) ≡ CodeLine → (is_blank ys ≡ false) × (nat_le 4 (indent (part_at place.column ys)) ≡ true)
unfolding beginning
code_inked place ys e = begins_code (part_at place.column ys) (is_blank ys) (nat_le 4 (indent (part_at place.column ys))) e

html_inked : (place : Cursor) (ys : List ℕ) (k : HtmlKind) → beginning (left_at place ys) ≡ HtmlLine k → is_blank ys ≡ false
unfolding beginning
html_inked place ys k e = begins_html (part_at place.column ys) (is_blank ys) (nat_le 4 (indent (part_at place.column ys))) k e

-- a line where nothing but quotes is open
line_read : (text : List ℕ) (r : Run) (fuel at : ℕ) → All text fuel → (v : In text r) (cs : Lines text r) (x : Open r.outer) (bs : List ReadBlock) (ps : List Piece) (end number kept : ℕ) (found : Blocks) → Holds text r bs ps found
    → length ps + suc (length cs) + 1 < r.limit → weigh text (length r.outer) (Plainly v ∷ cs) ≤ suc fuel → at + suc (length cs) ≡ r.count
    → Reads text r (begin text v.columns v.line (length r.outer) v.place (closed x bs ps end number kept)) cs found
    (from_there fuel at (said text r (Plainly v ∷ cs)) (first_block (λ y. blocks_from fuel 0 y) at (left_at v.place v.bytes) (said text r cs) (beginning (left_at v.place v.bytes))))
unfolding is_paragraph html_ended
line_read text r fuel at all v cs x bs ps end number kept found h room few count =
    subst (λ (k : Beginning). Reads text r (begin text v.columns l (length r.outer) v.place page) cs found (from_there fuel at (dl ∷ rest) (first_block inner at dl rest k)))
    (sym f.begins)
    (with_mark (is_quote_kind f.kind) refl)
  where
    l : Line
    l = v.line

    place : Cursor
    place = v.place

    f : FactsOf text (length r.outer) v
    f = facts text (length r.outer) v

    dl : DeclaredLine
    dl = left_at place v.bytes

    rest : List DeclaredLine
    rest = said text r cs

    inner : List DeclaredLine → List Found
    inner = λ y. blocks_from fuel 0 y

    page : State
    page = closed x bs ps end number kept

    begun : LeafStart → State
    begun b = started b text v.columns l (tail_of v.columns) (here (length r.outer) place) page

    at_ink : ℕ
    at_ink = cell_place v.columns place.ink l.end

    again : Again text r fuel
    again = all r

    few_rest : weigh text (length r.outer) cs ≤ fuel
    few_rest = omega (arith, few)

    -- what is read of the lines after this one
    onward : (bs' : List ReadBlock) (ps' : List Piece) (found' : Blocks) (kept' : ℕ) → Holds text r bs' ps' found' → length ps' + length cs + 1 < r.limit → Reads text r (closed (past l x) bs' ps' l.end l.number kept') cs found' (blocks_from fuel (at + 1) rest)
    onward bs' ps' found' kept' held fits = goal_of text r fuel (again fuel (omega arith)) (at + 1) cs (past l x) bs' ps' l.end l.number kept' found' held fits few_rest (omega (arith, count))

    ruled : Reads text r (begun start.Rule) cs found (ended Rule at at ∷ blocks_from fuel (at + 1) rest)
    ruled =
        subst (λ (s : State). Reads text r s cs found (ended Rule at at ∷ blocks_from fuel (at + 1) rest)) (sym (rule_comes text r.outer x v.columns l place bs ps end number kept))
        (λ legit. ends_cons text r (fold (taken text (length r.outer)) (closed (past l x) (bs ++ b ∷ []) ps l.end l.number (length ps)) cs) found (ended Rule at at) Rule (blocks_from fuel (at + 1) rest) (λ y. refl) refl refl
        (onward (bs ++ b ∷ []) ps (also found (more Rule none)) (length ps) held (omega (arith, room)) legit))
      where
        b : ReadBlock
        b = rule_block (length r.outer) ps at_ink l.end

        held : Holds text r (bs ++ b ∷ []) ps (also found (more Rule none))
        held = subst (λ (qs : List Piece). Holds text r (bs ++ b ∷ []) qs (also found (more Rule none))) (append-nil ps) (holds_more text r bs ps found b Rule [] h refl (λ later. refl))

    headed : (h' : HeadingMark) → f.kind ≡ HeadingLine h' → Reads text r (begun (start.Heading (heading_later place.ink h'))) cs found (ended (Heading h'.level (heading_text h' (line_ink dl) (cells (line_ink dl)))) at at ∷ blocks_from fuel (at + 1) rest)
    headed h' e =
        subst (λ (s : State). Reads text r s cs found (ended (Heading h'.level text_in) at at ∷ blocks_from fuel (at + 1) rest)) (sym (heading_comes text r.outer x v.columns l place mark bs ps end number kept))
        (λ legit. ends_cons text r (fold (taken text (length r.outer)) (closed (past l x) (bs ++ b ∷ []) (ps ++ new) l.end l.number (length (ps ++ new))) cs) found (ended (Heading h'.level text_in) at at) (Heading h'.level text_in) (blocks_from fuel (at + 1) rest) (λ y. refl) refl refl
        (onward (bs ++ b ∷ []) (ps ++ new) (also found (more (Heading h'.level text_in) none)) (length (ps ++ new))
        (holds_more text r bs ps found b (Heading h'.level text_in) new h refl (heading_told text (length r.outer) h'.level ps new text_in at_ink l.end (words_told text l v.columns place.ink h' (line_ink dl) (f.heads h' e) (has_words v.columns mark l) refl)))
        (let wide : length (ps ++ new) ≡ length ps + length new = length-append ps new in let one : length new ≤ 1 = few_words (has_words v.columns mark l) (heading_piece v.columns mark l) in omega (arith, wide, one, room)) legit))
      where
        mark : HeadingMark
        mark = heading_later place.ink h'

        new : List Piece
        new = words v.columns mark l

        text_in : List ℕ
        text_in = heading_text h' (line_ink dl) (cells (line_ink dl))

        b : ReadBlock
        b = ended_block (length r.outer) (kind.Heading h'.level None) ps new at_ink l.end

    fenced : (y : Fence) → f.kind ≡ FenceLine y → ends_with_feed text ≡ true → Reads text r (begun (start.Fence y)) cs found (from_there fuel at (dl ∷ rest) (fenced_code at y (line_ink dl) rest))
    fenced y e fed =
        subst (λ (s : State). Reads text r s cs found (from_there fuel at (dl ∷ rest) (fenced_code at y (line_ink dl) rest)))
        (sym (fence_comes text r.outer x v.columns l place y bs ps end number kept
        ∙ ap (λ k. leaf_page (with_block x) (leaf.Fenced y) k bs (length ps) ps (length ps) at_ink l.end l.number) (f.infos y e).shape
        ∙ ap (λ qs. leaf_page (with_block x) (leaf.Fenced y) (kind.Fenced (f.infos y e).from (f.infos y e).to) bs (length ps) qs (length qs) at_ink l.end l.number) (sym (append-nil ps))))
        (fence_read text r fuel at (goal_of text r fuel (again fuel (omega arith))) (with_block x) dl y (line_ink dl) [] cs bs ps [] (f.infos y e).from (f.infos y e).to at_ink l.end l.number found h
        (record { unclosed = tt; says = refl; told = (f.infos y e).says; room = omega (arith, room); few = few_rest; count = omega (arith, count); fed = fed }))

    coded : f.kind ≡ CodeLine → ends_with_feed text ≡ true → Reads text r (begun (start.Indented (plus place.column 4))) cs found (from_there fuel at (dl ∷ rest) (indented_code at (dl ∷ rest)))
    coded e fed =
        subst (λ (s : State). Reads text r s cs found (from_there fuel at (dl ∷ rest) (indented_code at (dl ∷ rest))))
        (sym (indented_comes text r.outer x v.columns l place (plus place.column 4) bs ps end number kept
        ∙ takes_kept text r.outer (with_block x) v.columns l (plus place.column 4) t.at leaf.Indented kind.Indented bs (length ps) ps (length ps) (cell_place v.columns (plus place.column 4) l.end) l.end l.number t.piece t.some (ap (λ n. keeps_line v.columns n leaf.Indented) at_four ∙ c.keeps 4 four ∙ ap not (is.0))))
        (code_read text r fuel at again (with_block x) [] dl [] cs bs ps (piece_of 0 t.at l.end l.next ∷ []) [] (cell_place v.columns (plus place.column 4) l.end) l.end l.number found h
        (record {
          codes = (ap (λ k. k || nat_le 4 (indent p)) (is.0) ∙ is.1, tt);
          last = is.0;
          says = says_at text l v.columns place v.bytes 4 (plus place.column 4) 4 (let q : 4 ≡ min 4 (place.ink - place.column) = omega (arith, four) in q) c t;
          blank = tt;
          blank_says = refl;
          pauses = omega arith;
          room = omega (arith, room);
          few = omega (arith, few_rest);
          count = omega (arith, count);
          fed = fed;
        }))
      where
        c : CodeFacts text l v.columns place v.bytes
        c = f.code

        p : Part
        p = part_at place.column v.bytes

        is : (is_blank v.bytes ≡ false) × (nat_le 4 (indent p) ≡ true)
        is = code_inked place v.bytes (f.begins ∙ e)

        four : 4 ≤ place.ink - place.column
        four = let q : nat_le 4 (place.ink - place.column) ≡ true = sym (ap (nat_le 4) c.width) ∙ is.1 in grind (arith, q, nat_tests)

        at_four : plus place.column 4 ≡ place.column + 4
        at_four = let small : place.ink + 3 < 2 ^ 64 = c.small in omega (arith, four, small)

        t : Taken text l v.columns (plus place.column 4) (drop 4 v.bytes)
        t = same_column text l v.columns (plus place.column 4) (place.column + 4) (drop 4 v.bytes) at_four (c.taken (f.fed fed) 4 four)

    marked_up : (y : HtmlKind) → f.kind ≡ HtmlLine y → ends_with_feed text ≡ true → Reads text r (begun (start.Html y)) cs found (from_there fuel at (dl ∷ rest) (html_block at y (dl ∷ rest)))
    marked_up y e fed =
        subst (λ (s : State). Reads text r s cs found (from_there fuel at (dl ∷ rest) (html_block at y (dl ∷ rest))))
        (sym (html_comes text r.outer x v.columns l place y bs ps end number kept
        ∙ ap (λ qs. code_taken text v.columns place.column l (leaf_page (with_block x) (leaf.Html y) kind.Html bs (length ps) qs (length qs) (cell_place v.columns place.column l.end) l.end l.number)) (sym (append-nil ps))))
        (html_next text r fuel (suc fuel) at again (with_block x) y [] v cs bs ps [] (cell_place v.columns place.column l.end) l.end l.number found h
        (record { past = tt; says = refl; room = omega (arith, room); few = few; count = omega (arith, count); fed = fed })
        few_rest (λ q. inked)
        (λ p more. html_read text r fuel at again (with_block x) y (dl ∷ []) cs bs ps (p ∷ []) (cell_place v.columns place.column l.end) l.end l.number found h more))
      where
        inked : is_blank v.bytes ≡ false
        inked = html_inked place v.bytes y (f.begins ∙ e)

    texted : is_quote_kind f.kind ≡ false → is_blank_kind f.kind ≡ false → Reads text r (begun start.Text) cs found (from_there fuel at (dl ∷ rest) (paragraph_of at (paragraph_lines (line_ink dl ∷ []) rest)))
    texted no_quote not_blank =
        let p : Piece = piece_in v.columns place l in
        let first = paragraph_first text r fuel at (dl ∷ rest) cs ps p dl (line_ink dl) (f.ink not_blank) f.feedless f.plain refl room few_rest count in
        subst (λ (s : State). Reads text r s cs found (from_there fuel at (dl ∷ rest) (paragraph_of at (paragraph_lines (line_ink dl ∷ []) rest))))
        (sym (text_begins text r.outer x v.columns l place bs ps end number kept (f.some not_blank)))
        (paragraph_read text r fuel at again (dl ∷ rest) cs bs found (with_block x) ps p [] (first_draft ps at_ink l) [] [] (line_ink dl ∷ []) h (first.0) (first.1))

    by : is_quote_kind f.kind ≡ false → (k : Beginning) → f.kind ≡ k → is_leaf (ends_with_feed text) k ≡ true → Reads text r (begun (start_as place false false f.level k)) cs found (from_there fuel at (dl ∷ rest) (first_block inner at dl rest k))
    by n BlankLine e leaf =
        subst (λ (s : State). Reads text r s cs found (blocks_from fuel (at + 1) rest)) (sym (blank_passes text r.outer x v.columns l place bs ps end number kept))
        (goal_of text r fuel (again fuel (omega arith)) (at + 1) cs x bs ps end number kept found h (omega (arith, room)) few_rest (omega (arith, count)))
    by n CodeLine e leaf = coded e leaf
    by n QuoteLine e leaf = absurd (true≢false (sym leaf))
    by n (HeadingLine y) e leaf = headed y e
    by n (FenceLine y) e leaf = fenced y e leaf
    by n (HtmlLine y) e leaf =
        subst (λ (o : Option HtmlKind). Reads text r (begun (html_start o)) cs found (from_there fuel at (dl ∷ rest) (html_block at y (dl ∷ rest)))) (sym (interrupts_first y)) (marked_up y e leaf)
    by n RuleLine e leaf = ruled
    by n (ItemLine y) e leaf = absurd (true≢false (sym leaf))
    by n TextLine e leaf = texted n (ap is_blank_kind e)
    by n LazyLine e leaf = absurd (true≢false (sym leaf))

    quoted : is_quote_kind f.kind ≡ true → Next text (length r.outer) v → Reads text r (begin text v.columns l (length r.outer) place page) cs found (from_there fuel at (dl ∷ rest) (quote inner at (dl ∷ rest)))
    quoted e n =
        subst (λ (s : State). Reads text r s cs found (from_there fuel at (dl ∷ rest) (quote inner at (dl ∷ rest)))) (sym (quote_enters text r.outer v f e n x bs ps end number kept))
        (λ legit. subst (λ (ds : List DeclaredLine). Ends text r (fold (taken text (length r.outer)) inner_page cs) found (from_there fuel at (dl ∷ rest) (quote_with inner at ds))) (sym fronts)
        (quote_goes text r fuel all g [] cs
        (record {
          legit_in = tt;
          legit_out = legit;
          rest = refl;
          room = omega (arith, room);
          few = let q : length n.seen.bytes < length v.bytes = n.fewer in omega (arith, few, q);
          count = omega (arith, count);
        })))
      where
        inner_page : State
        inner_page = begin text n.seen.columns n.seen.line (suc (length r.outer)) n.seen.place (closed (entered (length bs) l x) (bs ++ quote_block (length r.outer) at_ink (length ps) ∷ []) ps end number kept)

        g : Quoting text r
        g = record {
          at = at;
          whole = dl ∷ rest;
          first = n.seen;
          blocks = bs;
          pieces = ps;
          found = found;
          block = quote_block (length r.outer) at_ink (length ps);
          inner = entered (length bs) l x;
          end = end;
          number = number;
          kept = kept;
          holds = h;
          depth = refl;
          kind = refl;
        }

        within : List DeclaredLine → DeclaredLine → Option DeclaredLine
        within = in_quote inner

        fronts : front within [] (dl ∷ rest) ≡ front within (left_at n.seen.place n.seen.bytes ∷ []) rest
        fronts =
            ap (λ k. goes_on (λ y. front within ([] ++ y ∷ []) rest) [] (in_quote_as inner [] dl k)) (f.begins ∙ quote_kind_is f.kind e)
            ∙ ap (λ y. front within (y ∷ []) rest) n.shown

    with_mark : (k : Bool) → is_quote_kind f.kind ≡ k → Reads text r (begin text v.columns l (length r.outer) place page) cs found (from_there fuel at (dl ∷ rest) (first_block inner at dl rest f.kind))
    with_mark true e = subst (λ (k : Beginning). Reads text r (begin text v.columns l (length r.outer) place page) cs found (from_there fuel at (dl ∷ rest) (first_block inner at dl rest k))) (sym (quote_kind_is f.kind e)) (quoted e (next_seen text (length r.outer) v f e))
    with_mark false e =
        subst (λ (s : State). Reads text r s cs found (from_there fuel at (dl ∷ rest) (first_block inner at dl rest f.kind))) (sym (plain_begins text (length r.outer) v f e page refl))
        (by e f.kind refl (f.leaf e))

read_all : (text : List ℕ) (fuel : ℕ) → All text fuel
unfolding blocks_from
read_all text zero r m low at v cs x bs ps end number kept found h room few count = absurd (omega (arith, low, few))
read_all text (suc fuel) r zero low at v cs x bs ps end number kept found h room few count = absurd (omega (arith, few))
read_all text (suc fuel) r (suc m) low at v cs x bs ps end number kept found h room few count =
    line_read text r m at (λ t k less. read_all text fuel t k (omega (arith, low, less))) v cs x bs ps end number kept found h room few count

-- the premise of a text, line by line

-- the content of a line begins a leaf
abbrev IsLeaf : List ℕ → DeclaredLine → Type 0
IsLeaf text l = IsLeafLine (ends_with_feed text) (content_of l)

pub both_true : (a b : Bool) → (not a && b) ≡ true → (a ≡ false) × (b ≡ true)
both_true true b h = absurd (true≢false (sym h))
both_true false b h = (refl, h)

leaves_of : (text : List ℕ) (ls : List DeclaredLine) → list_all (λ l. is_leaf (ends_with_feed text) (beginning (content_of l))) ls ≡ true → AllByRecursion (IsLeaf text) ls
leaves_of text [] h = tt
leaves_of text (l ∷ ls) h = by (is_leaf (ends_with_feed text) (beginning (content_of l))) refl h (λ e. leaves_of text ls e)
  where
    by : (k : Bool) → is_leaf (ends_with_feed text) (beginning (content_of l)) ≡ k → (k && list_all (λ x. is_leaf (ends_with_feed text) (beginning (content_of x))) ls) ≡ true
        → (list_all (λ x. is_leaf (ends_with_feed text) (beginning (content_of x))) ls ≡ true → AllByRecursion (IsLeaf text) ls) → AllByRecursion (IsLeaf text) (l ∷ ls)
    by true p e again = (p, again e)
    by false p e again = absurd (true≢false (sym e))

-- the lines of a text

pub record Rows (text : List ℕ) (ls : List Line) : Type 0 where
  pub rows : List (Seen text 0)
  pub lines : map (λ (v : Seen text 0). v.line) rows ≡ ls
  pub shows : map (λ (v : Seen text 0). left_at v.place v.bytes) rows ≡ map (declared text) ls

abbrev row : (text : List ℕ) (l : Line) → IsPlain text → length text + 3 < 2 ^ 64 → Sound text l → IsLeaf text (declared text l) → has_feed (bytes_between text l.start l.end) ≡ false → (ends_with_feed text ≡ true → Fed text l) → Seen text 0
row text l plain fits sound leaf feedless fed = record {
  line = l;
  columns = cells_at l.start [] xs;
  place = place_at 0 xs;
  bytes = xs;
  fuel = length xs;
  columns_are = refl;
  bytes_are = refl;
  place_is = refl;
  inside = omega arith;
  deep = omega arith;
  reaches = cursor_same l.start xs (between_plain text l.start l.end plain) (let ordered : l.start ≤ l.end = sound.order in let within : l.end ≤ length text = sound.within in omega (arith, between_length text l.start l.end ordered within, within, fits));
  plain = plain;
  fits = fits;
  sound = sound;
  feedless = feedless;
  fed = fed;
  enough = omega arith;
  leaf = leaf;
}
  where
    xs : List ℕ
    xs = bytes_between text l.start l.end

all_rows : (text : List ℕ) (ls : List Line) → IsPlain text → length text + 3 < 2 ^ 64 → AllByRecursion (Sound text) ls → AllByRecursion (IsLeaf text) (map (declared text) ls) → AllByRecursion IsFeedless (map (declared text) ls) → (ends_with_feed text ≡ true → AllByRecursion (Fed text) ls) → Rows text ls
all_rows text [] plain fits sound leaves feedless fed = record { rows = []; lines = refl; shows = refl }
all_rows text (l ∷ ls) plain fits sound leaves feedless fed =
    let rest : Rows text ls = all_rows text ls plain fits (sound.1) (leaves.1) (feedless.1) (λ e. (fed e).1) in
    record {
      rows = row text l plain fits (sound.0) (leaves.0) (feedless.0) (λ e. (fed e).0) ∷ rest.rows;
      lines = ap (λ zs. l ∷ zs) rest.lines;
      shows = ap (λ zs. declared text l ∷ zs) rest.shows;
    }

-- lines with all their markers, as they come in
abbrev plainly : (text : List ℕ) → List (Seen text 0) → List (Coming text 0)
plainly text vs = map (λ (v : Seen text 0). Plainly v) vs

plainly_legit : (text : List ℕ) (vs : List (Seen text 0)) (s : State) → Legit text 0 s (plainly text vs)
plainly_legit text [] s = tt
plainly_legit text (v ∷ vs) s = ((λ e. absurd (true≢false (sym e))), plainly_legit text vs (line_taken text s v.line))

plainly_taken : (text : List ℕ) (vs : List (Seen text 0)) (s : State) → fold (taken text 0) s (plainly text vs) ≡ fold (line_taken text) s (map (λ (v : Seen text 0). v.line) vs)
plainly_taken text [] s = refl
plainly_taken text (v ∷ vs) s = plainly_taken text vs (line_taken text s v.line)

plainly_shown : (text : List ℕ) (vs : List (Seen text 0)) → map (shown text 0) (plainly text vs) ≡ map (λ (v : Seen text 0). left_at v.place v.bytes) vs
plainly_shown text [] = refl
plainly_shown text (v ∷ vs) = ap (λ zs. left_at v.place v.bytes ∷ zs) (plainly_shown text vs)

-- the fuel of the declaration is enough for its lines
size_from : (text : List ℕ) (n : ℕ) (vs : List (Seen text 0)) → n + weigh text 0 (plainly text vs) ≤ fold (λ (m : ℕ) (l : DeclaredLine). m + length (line_bytes l) + 1) n (map (λ (v : Seen text 0). left_at v.place v.bytes) vs)
size_from text n [] = omega arith
size_from text n (v ∷ vs) =
    let later : n + length v.bytes + 1 + weigh text 0 (plainly text vs) ≤ fold (λ (m : ℕ) (x : DeclaredLine). m + length (line_bytes x) + 1) (n + length v.bytes + 1) (map (λ (z : Seen text 0). left_at z.place z.bytes) vs) = size_from text (n + length v.bytes + 1) vs in
    omega (arith, later)

-- nothing is open
abbrev nothing_open : Open []
nothing_open = record { opened = []; quotes = []; are = refl; places = refl }

pub quotes-declared : QuotesAreDeclared
unfolding blocks_in page_in known_of blocks blocks_of is_covered
quotes-declared text fits holds = record {
  blocks = ap (λ (s : State). tree_of (placed_in text s.pieces s.blocks)) page_is ∙ holds_read text run k.blocks k.pieces (told (tree declared_found)) refl k.holds;
  definitions = ap (λ (s : State). s.definitions) page_is ∙ append-nil (defined (tree declared_found));
}
  where
    ds : List DeclaredLine
    ds = declared_lines text

    covered : (list_any is_special text ≡ false) × (list_all (λ l. is_leaf (ends_with_feed text) (beginning (content_of l))) ds ≡ true)
    covered = both_true (list_any is_special text) (list_all (λ l. is_leaf (ends_with_feed text) (beginning (content_of l))) ds) holds

    plain : IsPlain text
    plain = covered.0

    same : map (declared text) (lines_of text) ≡ ds
    same = lines_same text plain

    all : Rows text (lines_of text)
    all = all_rows text (lines_of text) plain fits (lines_sound text plain) (subst (λ (ls : List DeclaredLine). AllByRecursion (IsLeaf text) ls) (sym same) (leaves_of text ds (covered.1))) (subst (λ (ls : List DeclaredLine). AllByRecursion IsFeedless ls) (sym same) (feedless_lines text)) (λ e. lines_fed text plain e)

    cs : List (Coming text 0)
    cs = plainly text all.rows

    shows : map (shown text 0) cs ≡ ds
    shows = plainly_shown text all.rows ∙ all.shows ∙ same

    count : length cs ≡ length (lines_of text)
    count = length-map all.rows (λ (v : Seen text 0). Plainly v) ∙ sym (length-map all.rows (λ (v : Seen text 0). v.line)) ∙ ap length all.lines

    run : Run
    run = record { outer = []; base = []; old = []; count = length cs; limit = 2 ^ 64; fits = omega arith }

    enough : weigh text 0 cs ≤ size ds
    enough = let q : 0 + weigh text 0 cs ≤ size (map (λ (v : Seen text 0). left_at v.place v.bytes) all.rows) = size_from text 0 all.rows in let e : size (map (λ (v : Seen text 0). left_at v.place v.bytes) all.rows) ≡ size ds = ap size (all.shows ∙ same) in omega (arith, q, e)

    start_page : State
    start_page = closed nothing_open [] [] 0 0 0

    last_page : State
    last_page = fold (line_taken text) start_page (lines_of text)

    declared_found : List Found
    declared_found = blocks_from (size ds) 0 ds

    taken_all : fold (taken text 0) start_page cs ≡ last_page
    taken_all = plainly_taken text all.rows start_page ∙ ap (fold (line_taken text) start_page) all.lines

    ends : Ends text run last_page none declared_found
    ends = subst (λ (s : State). Ends text run s none declared_found) taken_all
        (subst (λ (ls : List DeclaredLine). Ends text run (fold (taken text 0) start_page cs) none (blocks_from (size ds) 0 ls)) shows
        (goal_of text run (size ds) (read_all text (size ds) run (size ds) (omega arith)) 0 cs nothing_open [] [] 0 0 0 none (holds_none text run) (omega (arith, count, lines_few text, fits)) enough (omega arith) (plainly_legit text all.rows start_page)))

    k : Shuts text run (with_open last_page ends.now) (told (tree declared_found)) (defined (tree declared_found))
    k = ends.shuts ends.now

    page_is : closed_to text 0 last_page ≡ after_these (defined (tree declared_found)) (closed k.now k.blocks k.pieces k.end k.number k.kept)
    page_is = ap (closed_to text 0) (sym ends.opened) ∙ k.is
