-- Of HTML blocks the reader keeps the lines that are declared.
use Rattle.std.proofs.Common.{◌≡◌, ℕ, suc, ◌+◌, ◌-◌, ◌<◌, ◌≤◌, Bool, true, false, not, ◌&&◌, min, if◌then◌else◌, List, [], ◌∷◌, ◌++◌, length, map, take, drop, refl, ap, sym, subst, ◌∙◌, arith, append_assoc, append-nil, length-append, true≢false}
use Rattle.std.proofs.Math.Seq.{take-length}
use Rattle.std.specs.Prelude.{take_while, Some}
use Rattle.std.specs.List.{fold}
use Rattle.tocmark_read_scan.specs.Basic.{bytes_between}
use Rattle.tocmark_read_scan.proofs.PlainContent.{take_front}
use Rattle.tocmark_read_scan.proofs.PlainPieces.{drop_behind}
use Rattle.tocmark_read_lines.specs.Html.{html_ends}
use Rattle.tocmark_read_lines.specs.declared.cell.Cursor.{Cursor}
use Rattle.tocmark_read_lines.specs.declared.html.HtmlKind.{HtmlKind}
use Rattle.tocmark_read_lines.specs.declared.html.HtmlKind.TheVariants as html
use Rattle.tocmark_read_lines.specs.declared.line.Line.{Line}
use Rattle.tocmark_read_page.specs.Leaves.{is_paragraph}
use Rattle.tocmark_read_page.specs.Pages.{State, leaf_closed, leaf_finished}
use Rattle.tocmark_read_page.specs.Pieces.{piece_of, keeps_line}
use Rattle.tocmark_read_page.specs.declared.page.Block.{Block as ReadBlock}
use Rattle.tocmark_read_page.specs.declared.page.BlockKind.TheVariants as kind
use Rattle.tocmark_read_page.specs.declared.piece.Piece.{Piece}
use Rattle.tocmark_read_page.specs.declared.leaf.Leaf.TheVariants as leaf
use Rattle.tocmark_read_blocks.specs.Blocks.{line_taken}
use Rattle.tocmark_read_blocks.specs.Codes.{code_taken, html_ended}
use Rattle.tocmark_read_blocks.specs.Leaves.{goes_past_blank, leaf_turn}
use Rattle.tocmark_read_blocks.specs.declared.leaf.Turn.TheVariants as turn
use Rattle.tocmark_commonmark.specs.Lines.{Line as DeclaredLine, Written, Lazy, is_blank, is_blank_line, line_ink, line_spelled, with_feeds}
use Rattle.tocmark_commonmark.specs.Tree.{Blocks, none, more, Html, Found, ended}
use Rattle.tocmark_commonmark.specs.Leaves.{code_line, html_count, html_block_of, html_block}
use Rattle.tocmark_commonmark.specs.Blocks.{blocks_from}
use Rattle.tocmark_block_laws.specs.Quotes.{ends_with_feed}
use Rattle.tocmark_block_laws.proofs.Codes.{Taken, CodeFacts}
use Rattle.tocmark_block_laws.proofs.Open.{all_append, Open, touch, raise}
use Rattle.tocmark_block_laws.proofs.Starts.{left_at}
use Rattle.tocmark_block_laws.proofs.Seen.{FactsOf, facts}
use Rattle.tocmark_block_laws.proofs.Pages.{block, closed, leaf_page, begin, page_finished, line_turns, line_passes, passes_begin, shuts_as, page_shuts, takes_kept}
use Rattle.tocmark_block_laws.proofs.Told.{also, Run, Holds, holds_more, block_told}
use Rattle.tocmark_block_laws.proofs.Ends.{Plainly, Lazily, weigh, taken, In, Lines, said, Ends, Reads, ends_cons, ends_leaf, no_blocks, Again, goal_of, from_there}
use Rattle.tocmark_block_laws.proofs.ReadCodes.{Pass, while_whole, while_front, Says, says_append, says_at, same_column}

-- the page with an open HTML block
abbrev pub html_page : {outer : List ℕ} → Open outer → HtmlKind → List ReadBlock → List Piece → List Piece → ℕ → ℕ → ℕ → State
html_page w k bs ps qs start end number = leaf_page w (leaf.Html k) kind.Html bs (length ps) (ps ++ qs) (length (ps ++ qs)) start end number

abbrev shut : {outer : List ℕ} → Open outer → List ReadBlock → List Piece → List Piece → ℕ → ℕ → ℕ → State
shut {outer = outer} w bs ps qs start end number = closed (raise end number w) (bs ++ block (length outer) kind.Html start end (length ps) (length (ps ++ qs)) ∷ []) (ps ++ qs) end number (length (ps ++ qs))

shuts : (text : List ℕ) (outer : List ℕ) (w : Open outer) (k : HtmlKind) (bs : List ReadBlock) (ps qs : List Piece) (start end number : ℕ) → leaf_closed text (html_page w k bs ps qs start end number) ≡ shut w bs ps qs start end number
shuts text outer w k bs ps qs start end number = page_shuts text outer w (leaf.Html k) kind.Html bs (length ps) (ps ++ qs) (ps ++ qs) (length (ps ++ qs)) start end number refl (take-length (ps ++ qs))

-- a line after which the block goes on, or in which it does
abbrev pub goes_past : HtmlKind → DeclaredLine → Bool
goes_past k d = if goes_past_blank k then not (html_ends k (line_ink d)) else not (is_blank_line d)

-- the lines of a block, if so many of so many go on
abbrev counted_as : Bool → ℕ → ℕ → ℕ
counted_as past n m = if past then min (n + 1) m else n

count_is : (k : HtmlKind) (ds : List DeclaredLine) → html_count k ds ≡ counted_as (goes_past_blank k) (length (take_while (goes_past k) ds)) (length ds)
unfolding goes_past_blank
count_is html.Raw ds = refl
count_is html.Comment ds = refl
count_is html.Instruction ds = refl
count_is html.Declaration ds = refl
count_is html.CharacterData ds = refl
count_is html.Named ds = refl
count_is html.Alone ds = refl

-- the last two kinds have no end in a line
no_end : (k : HtmlKind) (xs : List ℕ) → goes_past_blank k ≡ false → html_ends k xs ≡ false
unfolding goes_past_blank html_ends
no_end html.Raw xs e = absurd (true≢false e)
no_end html.Comment xs e = absurd (true≢false e)
no_end html.Instruction xs e = absurd (true≢false e)
no_end html.Declaration xs e = absurd (true≢false e)
no_end html.CharacterData xs e = absurd (true≢false e)
no_end html.Named xs e = refl
no_end html.Alone xs e = refl

spelled_same : (ds : List DeclaredLine) → map (code_line 0) ds ≡ map line_spelled ds
spelled_same [] = refl
spelled_same (Written p ∷ ds) = ap (λ zs. line_spelled (Written p) ∷ zs) (spelled_same ds)
spelled_same (Lazy b ∷ ds) = ap (λ zs. b ∷ zs) (spelled_same ds)

html_holds : (text : List ℕ) (r : Run) (ds : List DeclaredLine) (bs : List ReadBlock) (ps qs : List Piece) (start end : ℕ) (found : Blocks) → Holds text r bs ps found → Says text 0 qs ds
    → Holds text r (bs ++ block (length r.outer) kind.Html start end (length ps) (length (ps ++ qs)) ∷ []) (ps ++ qs) (also found (more (Html (with_feeds (map line_spelled ds))) none))
html_holds text r ds bs ps qs start end found h says =
    holds_more text r bs ps found (block (length r.outer) kind.Html start end (length ps) (length (ps ++ qs))) (Html (with_feeds (map line_spelled ds))) qs h refl
    (λ later. block_told text (length r.outer) kind.Html ps qs start end later ∙ ap (λ c. Some (Html c)) (says ∙ ap with_feeds (spelled_same ds)))

html_declares : (text : List ℕ) (r : Run) (fuel at : ℕ) (k : HtmlKind) (ds ys : List DeclaredLine) (s : State) (found : Blocks) → html_count k (ds ++ ys) ≡ length ds
    → Ends text r s (also found (more (Html (with_feeds (map line_spelled ds))) none)) (blocks_from fuel (at + length ds) ys)
    → Ends text r s found (from_there fuel at (ds ++ ys) (html_block at k (ds ++ ys)))
html_declares text r fuel at k ds ys s found count given =
    subst (λ (n : ℕ). Ends text r s found (from_there fuel at (ds ++ ys) (html_block_of at (take n (ds ++ ys))))) (sym count)
    (subst (λ (zs : List DeclaredLine). Ends text r s found (from_there fuel at (ds ++ ys) (html_block_of at zs))) (sym (take_front ds ys))
    (ends_cons text r s found (ended (Html (with_feeds (map line_spelled ds))) at (at + length ds - 1)) (Html (with_feeds (map line_spelled ds))) (blocks_from fuel (at + length ds) (drop (length ds) (ds ++ ys))) (λ y. refl) refl refl
    (subst (λ (zs : List DeclaredLine). Ends text r s (also found (more (Html (with_feeds (map line_spelled ds))) none)) (blocks_from fuel (at + length ds) zs)) (sym (drop_behind ds ys)) given)))

-- what is known of an open HTML block
pub record HtmlOpen (text : List ℕ) (r : Run) (fuel at : ℕ) (k : HtmlKind) (ds : List DeclaredLine) (cs : Lines text r) (ps qs : List Piece) : Type 0 where
  pub past : Pass (goes_past k) ds
  pub says : Says text 0 qs ds
  pub room : length ps + length qs + length cs + 1 < r.limit
  pub few : weigh text (length r.outer) cs ≤ fuel
  pub count : at + length ds + length cs ≡ r.count
  pub fed : ends_with_feed text ≡ true

-- a line goes into the block
pub html_next : (text : List ℕ) (r : Run) (fuel plenty at : ℕ) → Again text r fuel → (w : Open r.outer) (k : HtmlKind) (ds : List DeclaredLine) (v : In text r) (cs : Lines text r) (bs : List ReadBlock) (ps qs : List Piece) (start end number : ℕ) (found : Blocks) → Holds text r bs ps found
    → HtmlOpen text r plenty at k ds (Plainly v ∷ cs) ps qs → weigh text (length r.outer) cs ≤ fuel → (goes_past_blank k ≡ false → is_blank v.bytes ≡ false)
    → ((p : Piece) → HtmlOpen text r fuel at k (ds ++ left_at v.place v.bytes ∷ []) cs ps (qs ++ p ∷ [])
    → Reads text r (html_page w k bs ps (qs ++ p ∷ []) start v.line.end v.line.number) cs found (from_there fuel at ((ds ++ left_at v.place v.bytes ∷ []) ++ said text r cs) (html_block at k ((ds ++ left_at v.place v.bytes ∷ []) ++ said text r cs))))
    → Reads text r (code_taken text v.columns v.place.column v.line (html_page w k bs ps qs start end number)) cs found (from_there fuel at (ds ++ left_at v.place v.bytes ∷ said text r cs) (html_block at k (ds ++ left_at v.place v.bytes ∷ said text r cs)))
unfolding html_ended keeps_line
html_next text r fuel plenty at again w k ds v cs bs ps qs start end number found h o few inked goes = by (html_ends k ys) refl
  where
    l : Line
    l = v.line

    place : Cursor
    place = v.place

    ys : List ℕ
    ys = v.bytes

    f : FactsOf text (length r.outer) v
    f = facts text (length r.outer) v

    c : CodeFacts text l v.columns place ys
    c = f.code

    dl : DeclaredLine
    dl = left_at place ys

    rest : List DeclaredLine
    rest = said text r cs

    t : Taken text l v.columns place.column ys
    t = same_column text l v.columns place.column (place.column + 0) ys (let q : place.column ≡ place.column + 0 = omega arith in q) (c.taken (f.fed o.fed) 0 (omega arith))

    y : Piece
    y = piece_of 0 t.at l.end l.next

    Goes : State → List DeclaredLine → Type 0
    Goes s zs = Reads text r s cs found (from_there fuel at zs (html_block at k zs))

    joins : (ps ++ qs) ++ y ∷ [] ≡ ps ++ (qs ++ y ∷ [])
    joins = append_assoc ps qs (y ∷ [])

    next : State
    next = html_page w k bs ps (qs ++ y ∷ []) start l.end l.number

    page : State
    page = html_page w k bs ps qs start end number

    taken_as : (e : Bool) → html_ends k ys ≡ e → code_taken text v.columns place.column l page ≡ (if e then leaf_finished next else next)
    taken_as e q =
        takes_kept text r.outer w v.columns l place.column t.at (leaf.Html k) kind.Html bs (length ps) (ps ++ qs) (length (ps ++ qs)) start end number t.piece t.some refl
        ∙ ap (λ zs. if html_ends k (bytes_between text t.at l.end) then leaf_finished (leaf_page w (leaf.Html k) kind.Html bs (length ps) zs (length zs) start l.end l.number) else leaf_page w (leaf.Html k) kind.Html bs (length ps) zs (length zs) start l.end l.number) joins
        ∙ ap (λ b. if b then leaf_finished next else next) (ap (html_ends k) t.ends ∙ q)

    whole : (ds ++ dl ∷ []) ++ rest ≡ ds ++ dl ∷ rest
    whole = append_assoc ds (dl ∷ []) rest

    one : length (qs ++ y ∷ []) ≡ length qs + 1
    one = length-append qs (y ∷ [])

    one_line : length (ds ++ dl ∷ []) ≡ length ds + 1
    one_line = length-append ds (dl ∷ [])

    room : length ps + length qs + suc (length cs) + 1 < r.limit
    room = o.room

    count : at + length ds + suc (length cs) ≡ r.count
    count = o.count

    said_more : Says text 0 (qs ++ y ∷ []) (ds ++ dl ∷ [])
    said_more = says_append text 0 qs (y ∷ []) ds (dl ∷ []) o.says (says_at text l v.columns place ys 0 place.column 0 (let q : 0 ≡ min 0 (place.ink - place.column) = omega arith in q) c t)

    ink_ends : html_ends k ys ≡ html_ends k (line_ink dl)
    ink_ends = c.html k

    -- a line with an end is one of a kind that has ends
    past_end : html_ends k ys ≡ true → (p : Bool) → goes_past_blank k ≡ p → p ≡ true
    past_end e true q = refl
    past_end e false q = absurd (true≢false (sym e ∙ no_end k ys q))

    counts : html_ends k ys ≡ true → html_count k (ds ++ dl ∷ rest) ≡ length (ds ++ dl ∷ [])
    counts e =
        let past : goes_past_blank k ≡ true = past_end e (goes_past_blank k) refl in
        let stop : goes_past k dl ≡ false = ap (λ p. if p then not (html_ends k (line_ink dl)) else not (is_blank_line dl)) past ∙ ap not (sym ink_ends ∙ e) in
        count_is k (ds ++ dl ∷ rest)
        ∙ ap (λ p. counted_as p (length (take_while (goes_past k) (ds ++ dl ∷ rest))) (length (ds ++ dl ∷ rest))) past
        ∙ ap (λ (zs : List DeclaredLine). min (length zs + 1) (length (ds ++ dl ∷ rest))) (while_front (goes_past k) ds dl rest o.past stop)
        ∙ (let long : length (ds ++ dl ∷ rest) ≡ length ds + suc (length rest) = length-append ds (dl ∷ rest) in let q : min (length ds + 1) (length (ds ++ dl ∷ rest)) ≡ length (ds ++ dl ∷ []) = omega (arith, long, one_line) in q)

    goes_past_it : (p : Bool) → goes_past_blank k ≡ p → html_ends k ys ≡ false → goes_past k dl ≡ true
    goes_past_it true q e = ap (λ p. if p then not (html_ends k (line_ink dl)) else not (is_blank_line dl)) q ∙ ap not (sym ink_ends ∙ e)
    goes_past_it false q e = ap (λ p. if p then not (html_ends k (line_ink dl)) else not (is_blank_line dl)) q ∙ ap not (inked q)

    by : (e : Bool) → html_ends k ys ≡ e → Goes (code_taken text v.columns place.column l page) (ds ++ dl ∷ rest)
    by true e =
        subst (λ (s : State). Goes s (ds ++ dl ∷ rest)) (sym (taken_as true e ∙ page_finished r.outer w (leaf.Html k) kind.Html bs (length ps) (ps ++ (qs ++ y ∷ [])) (ps ++ (qs ++ y ∷ [])) (length (ps ++ (qs ++ y ∷ []))) start l.end l.number (take-length (ps ++ (qs ++ y ∷ [])))))
        (subst (λ (zs : List DeclaredLine). Goes (shut w bs ps (qs ++ y ∷ []) start l.end l.number) zs) whole
        (λ legit. html_declares text r fuel at k (ds ++ dl ∷ []) rest (fold (taken text (length r.outer)) (shut w bs ps (qs ++ y ∷ []) start l.end l.number) cs) found (ap (html_count k) whole ∙ counts e)
        (goal_of text r fuel (again fuel (omega arith)) (at + length (ds ++ dl ∷ [])) cs (raise l.end l.number w) (bs ++ block (length r.outer) kind.Html start l.end (length ps) (length (ps ++ (qs ++ y ∷ []))) ∷ []) (ps ++ (qs ++ y ∷ [])) l.end l.number (length (ps ++ (qs ++ y ∷ [])))
        (also found (more (Html (with_feeds (map line_spelled (ds ++ dl ∷ [])))) none)) (html_holds text r (ds ++ dl ∷ []) bs ps (qs ++ y ∷ []) start l.end found h said_more)
        (let all : length (ps ++ (qs ++ y ∷ [])) ≡ length ps + length (qs ++ y ∷ []) = length-append ps (qs ++ y ∷ []) in omega (arith, all, one, room)) few (omega (arith, one_line, count)) legit)))
    by false e =
        subst (λ (s : State). Goes s (ds ++ dl ∷ rest)) (sym (taken_as false e))
        (subst (λ (zs : List DeclaredLine). Goes next zs) whole
        (goes y (record {
          past = all_append (λ d. goes_past k d ≡ true) ds (dl ∷ []) o.past (goes_past_it (goes_past_blank k) refl e, tt);
          says = said_more;
          room = omega (arith, one, room);
          few = few;
          count = omega (arith, one_line, count);
          fed = o.fed;
        })))

-- the block ends with the lines
html_last : (text : List ℕ) (r : Run) (fuel at : ℕ) (w : Open r.outer) (k : HtmlKind) (ds : List DeclaredLine) (bs : List ReadBlock) (ps qs : List Piece) (start end number : ℕ) (found : Blocks) → Holds text r bs ps found → HtmlOpen text r fuel at k ds [] ps qs
    → Ends text r (html_page w k bs ps qs start end number) found (from_there fuel at (ds ++ []) (html_block at k (ds ++ [])))
html_last text r fuel at w k ds bs ps qs start end number found h o =
    html_declares text r fuel at k ds [] (html_page w k bs ps qs start end number) found (count_is k (ds ++ []) ∙ by (goes_past_blank k))
    (subst (λ (fs : List Found). Ends text r (html_page w k bs ps qs start end number) found' fs) (sym (no_blocks fuel (at + length ds)))
    (ends_leaf text r w (leaf.Html k) kind.Html bs (length ps) (ps ++ qs) (ps ++ qs) (length (ps ++ qs)) start end number found' refl (take-length (ps ++ qs)) (html_holds text r ds bs ps qs start end found h o.says)
    (let wide : length (ps ++ qs) ≡ length ps + length qs = length-append ps qs in let room : length ps + length qs + 0 + 1 < r.limit = o.room in omega (arith, wide, room))))
  where
    found' : Blocks
    found' = also found (more (Html (with_feeds (map line_spelled ds))) none)

    all : take_while (goes_past k) (ds ++ []) ≡ ds
    all = while_whole (goes_past k) ds o.past

    by : (p : Bool) → counted_as p (length (take_while (goes_past k) (ds ++ []))) (length (ds ++ [])) ≡ length ds
    by true = ap (λ (zs : List DeclaredLine). min (length zs + 1) (length (ds ++ []))) all ∙ (let same : length (ds ++ []) ≡ length ds = ap length (append-nil ds) in let q : min (length ds + 1) (length (ds ++ [])) ≡ length ds = omega (arith, same) in q)
    by false = ap length all

-- the block ends before a line
html_stops : (text : List ℕ) (r : Run) (fuel at : ℕ) → Again text r fuel → (w : Open r.outer) (k : HtmlKind) (ds : List DeclaredLine) (v : In text r) (cs : Lines text r) (bs : List ReadBlock) (ps qs : List Piece) (start end number : ℕ) (found : Blocks) → Holds text r bs ps found
    → HtmlOpen text r fuel at k ds (Plainly v ∷ cs) ps qs → html_count k (ds ++ said text r (Plainly v ∷ cs)) ≡ length ds → leaf_turn text v.columns v.line v.place (leaf.Html k) ≡ turn.Passes
    → Reads text r (line_taken text (html_page w k bs ps qs start end number) v.line) cs found (from_there fuel at (ds ++ said text r (Plainly v ∷ cs)) (html_block at k (ds ++ said text r (Plainly v ∷ cs))))
unfolding is_paragraph
html_stops text r fuel at again w k ds v cs bs ps qs start end number found h o counted turned =
    subst (λ (s : State). Reads text r s cs found (from_there fuel at (ds ++ said text r (Plainly v ∷ cs)) (html_block at k (ds ++ said text r (Plainly v ∷ cs))))) (sym same)
    (λ legit. html_declares text r fuel at k ds (said text r (Plainly v ∷ cs)) (fold (taken text (length r.outer)) after cs) found counted
    (again fuel (omega arith) (at + length ds) v cs (raise end number u) (bs ++ block (length r.outer) kind.Html start end (length ps) (length (ps ++ qs)) ∷ []) (ps ++ qs) end number (length (ps ++ qs)) (also found (more (Html (with_feeds (map line_spelled ds))) none))
    (html_holds text r ds bs ps qs start end found h o.says) (let wide : length (ps ++ qs) ≡ length ps + length qs = length-append ps qs in let room : length ps + length qs + suc (length cs) + 1 < r.limit = o.room in omega (arith, wide, room)) o.few o.count legit))
  where
    u : Open r.outer
    u = touch v.line (length r.outer) w

    after : State
    after = begin text v.columns v.line (length r.outer) v.place (shut u bs ps qs start end number)

    same : line_taken text (html_page w k bs ps qs start end number) v.line ≡ after
    same =
        line_passes text r.outer v (facts text (length r.outer) v) w (html_page w k bs ps qs start end number) turned
        ∙ passes_begin text (length r.outer) v (facts text (length r.outer) v) (html_page u k bs ps qs start end number) (shut u bs ps qs start end number) refl refl
        (shuts_as text r.outer (raise end number u) (bs ++ block (length r.outer) kind.Html start end (length ps) (length (ps ++ qs)) ∷ []) (ps ++ qs) end number (length (ps ++ qs)) (html_page u k bs ps qs start end number) (shuts text r.outer u k bs ps qs start end number))

-- a line after an open HTML block
html_line : (text : List ℕ) (r : Run) (fuel at : ℕ) → Again text r fuel → (w : Open r.outer) (k : HtmlKind) (ds : List DeclaredLine) (v : In text r) (cs : Lines text r) (bs : List ReadBlock) (ps qs : List Piece) (start end number : ℕ) (found : Blocks) → Holds text r bs ps found
    → HtmlOpen text r fuel at k ds (Plainly v ∷ cs) ps qs
    → ((u : Open r.outer) (p : Piece) → HtmlOpen text r fuel at k (ds ++ left_at v.place v.bytes ∷ []) cs ps (qs ++ p ∷ [])
    → Reads text r (html_page u k bs ps (qs ++ p ∷ []) start v.line.end v.line.number) cs found (from_there fuel at ((ds ++ left_at v.place v.bytes ∷ []) ++ said text r cs) (html_block at k ((ds ++ left_at v.place v.bytes ∷ []) ++ said text r cs))))
    → Reads text r (line_taken text (html_page w k bs ps qs start end number) v.line) cs found (from_there fuel at (ds ++ said text r (Plainly v ∷ cs)) (html_block at k (ds ++ said text r (Plainly v ∷ cs))))
unfolding leaf_turn
html_line text r fuel at again w k ds v cs bs ps qs start end number found h o goes = by (is_blank v.bytes) (goes_past_blank k) refl refl
  where
    place : Cursor
    place = v.place

    f : FactsOf text (length r.outer) v
    f = facts text (length r.outer) v

    dl : DeclaredLine
    dl = left_at place v.bytes

    rest : List DeclaredLine
    rest = said text r cs

    page : State
    page = html_page w k bs ps qs start end number

    Done : Type 0
    Done = Reads text r (line_taken text page v.line) cs found (from_there fuel at (ds ++ dl ∷ rest) (html_block at k (ds ++ dl ∷ rest)))

    turned : (blank past : Bool) → is_blank v.bytes ≡ blank → goes_past_blank k ≡ past → leaf_turn text v.columns v.line place (leaf.Html k) ≡ (if blank && not past then turn.Passes else turn.Takes place.column)
    turned blank past e d =
        ap (λ b. if b && not (goes_past_blank k) then turn.Passes else turn.Takes place.column) (f.code.blank ∙ e)
        ∙ ap (λ p. if blank && not p then turn.Passes else turn.Takes place.column) d

    goes_in : leaf_turn text v.columns v.line place (leaf.Html k) ≡ turn.Takes place.column → (goes_past_blank k ≡ false → is_blank v.bytes ≡ false) → Done
    goes_in turn_is inked =
        subst (λ (s : State). Reads text r s cs found (from_there fuel at (ds ++ dl ∷ rest) (html_block at k (ds ++ dl ∷ rest))))
        (sym (line_turns text r.outer v f w page (turn.Takes place.column) turn_is))
        (html_next text r fuel fuel at again (touch v.line (length r.outer) w) k ds v cs bs ps qs start end number found h o (let few : suc (length v.bytes) + weigh text (length r.outer) cs ≤ fuel = o.few in omega (arith, few)) inked (λ p further. goes (touch v.line (length r.outer) w) p further))

    by : (blank past : Bool) → is_blank v.bytes ≡ blank → goes_past_blank k ≡ past → Done
    by true true e d = goes_in (turned true true e d) (λ q. absurd (true≢false (sym d ∙ q)))
    by false true e d = goes_in (turned false true e d) (λ q. e)
    by false false e d = goes_in (turned false false e d) (λ q. e)
    by true false e d =
        html_stops text r fuel at again w k ds v cs bs ps qs start end number found h o
        (count_is k (ds ++ dl ∷ rest) ∙ ap (λ p. counted_as p (length (take_while (goes_past k) (ds ++ dl ∷ rest))) (length (ds ++ dl ∷ rest))) d
        ∙ ap length (while_front (goes_past k) ds dl rest o.past (ap (λ p. if p then not (html_ends k (line_ink dl)) else not (is_blank_line dl)) d ∙ ap not e)))
        (turned true false e d)

pub html_read : (text : List ℕ) (r : Run) (fuel at : ℕ) → Again text r fuel → (w : Open r.outer) (k : HtmlKind) (ds : List DeclaredLine) (cs : Lines text r) (bs : List ReadBlock) (ps qs : List Piece) (start end number : ℕ) (found : Blocks) → Holds text r bs ps found
    → HtmlOpen text r fuel at k ds cs ps qs
    → Reads text r (html_page w k bs ps qs start end number) cs found (from_there fuel at (ds ++ said text r cs) (html_block at k (ds ++ said text r cs)))
unfolding is_paragraph
html_read text r fuel at again w k ds [] bs ps qs start end number found h o legit = html_last text r fuel at w k ds bs ps qs start end number found h o
html_read text r fuel at again w k ds (Lazily z ∷ cs) bs ps qs start end number found h o legit = absurd (true≢false (sym (legit.0 refl)))
html_read text r fuel at again w k ds (Plainly v ∷ cs) bs ps qs start end number found h o legit =
    html_line text r fuel at again w k ds v cs bs ps qs start end number found h o
    (λ u p more. html_read text r fuel at again u k (ds ++ left_at v.place v.bytes ∷ []) cs bs ps (qs ++ p ∷ []) start v.line.end v.line.number found h more)
    (legit.1)
