-- Of code the reader keeps the lines that are declared.
use Rattle.std.proofs.Common.{◌≡◌, ℕ, zero, suc, ◌+◌, ◌-◌, ◌^◌, ◌<◌, ◌≤◌, Bool, true, false, not, ◌||◌, cond, min, if◌then◌else◌, nat_le, List, [], ◌∷◌, ◌++◌, length, map, take, drop, reverse, refl, ap, sym, subst, ◌∙◌, arith, append_assoc, append-nil, length-append, true≢false}
use Rattle.std.proofs.Math.Seq.{take-length}
use Rattle.std.specs.Prelude.{take_while, Some}
use Rattle.std.specs.List.{AllByRecursion, fold}
use Rattle.std.proofs.lemmas.Bool.Decides.{nat_tests}
use Rattle.std.proofs.lemmas.List.{length-map, length-reverse, map-append, reverse-append}
use Rattle.std.proofs.lemmas.List.Concat.{flat_map-append}
use Rattle.std.proofs.lemmas.List.Sums.{take_while-cons}
use Rattle.tocmark_read_scan.specs.Basic.{plus, bytes_between}
use Rattle.tocmark_read_scan.proofs.PlainContent.{take_front}
use Rattle.tocmark_read_scan.proofs.PlainPieces.{drop_behind}
use Rattle.tocmark_read_lines.specs.Cells.{is_blank_at}
use Rattle.tocmark_read_lines.specs.declared.beginnings.Fence.{Fence}
use Rattle.tocmark_read_lines.specs.declared.cell.Cell.{Cell}
use Rattle.tocmark_read_lines.specs.declared.cell.Cursor.{Cursor}
use Rattle.tocmark_read_lines.specs.declared.line.Line.{Line}
use Rattle.tocmark_read_page.specs.Leaves.{is_paragraph}
use Rattle.tocmark_read_page.specs.Pages.{State, leaf_closed}
use Rattle.tocmark_read_page.specs.Pieces.{piece_of, keeps_line}
use Rattle.tocmark_read_page.specs.declared.page.Block.{Block as ReadBlock}
use Rattle.tocmark_read_page.specs.declared.page.BlockKind.TheVariants as kind
use Rattle.tocmark_read_page.specs.declared.piece.Piece.{Piece}
use Rattle.tocmark_read_page.specs.declared.leaf.Leaf.TheVariants as leaf
use Rattle.tocmark_read_blocks.specs.Blocks.{line_taken}
use Rattle.tocmark_read_blocks.specs.Codes.{html_ended}
use Rattle.tocmark_read_blocks.specs.Leaves.{leaf_turn}
use Rattle.tocmark_read_blocks.specs.declared.leaf.Turn.TheVariants as turn
use Rattle.tocmark_commonmark.specs.Lines.{Line as DeclaredLine, Part, is_blank, is_blank_line, indent, with_feeds}
use Rattle.tocmark_commonmark.specs.Tree.{Blocks, none, more, IndentedCode, FencedCode, Found, ended}
use Rattle.tocmark_commonmark.specs.Beginnings.{beginning, beginning_of}
use Rattle.tocmark_commonmark.specs.Leaves.{is_code_line, without_blank_end, code_line, indented_code_of, indented_code, closes, info, fenced_code_of, fenced_code}
use Rattle.tocmark_commonmark.specs.Blocks.{first_block, and_rest, blocks_from}
use Rattle.tocmark_block_laws.specs.Quotes.{ends_with_feed}
use Rattle.tocmark_block_laws.specs.Trees.{whole_text, code_text}
use Rattle.tocmark_block_laws.proofs.Codes.{Taken, CodeFacts}
use Rattle.tocmark_block_laws.proofs.Fronts.{part_at}
use Rattle.tocmark_block_laws.proofs.Open.{all_append, Open, touch, raise}
use Rattle.tocmark_block_laws.proofs.Starts.{left_at}
use Rattle.tocmark_block_laws.proofs.Seen.{FactsOf, facts}
use Rattle.tocmark_block_laws.proofs.Pages.{block, closed, leaf_page, begin, line_turns, line_passes, passes_begin, shuts_as, page_shuts, takes_kept, takes_blank, fence_ends}
use Rattle.tocmark_block_laws.proofs.Told.{also, Run, Holds, holds_more, block_told}
use Rattle.tocmark_block_laws.proofs.Ends.{Plainly, Lazily, weigh, taken, In, Lines, said, Ends, Reads, ends_cons, ends_leaf, no_blocks, Goal, Again, from_there}

-- lists

-- all of these pass a test
abbrev pub Pass : {A : Type 0} → (A → Bool) → List A → Type 0
Pass p xs = AllByRecursion (λ x. p x ≡ true) xs

while_append : {A : Type 0} (p : A → Bool) (xs ys : List A) → Pass p xs → take_while p (xs ++ ys) ≡ xs ++ take_while p ys
while_append p [] ys h = refl
while_append p (x ∷ xs) ys h = take_while-cons p x (xs ++ ys) ∙ ap (λ k. cond k (x ∷ take_while p (xs ++ ys)) []) (h.0) ∙ ap (λ zs. x ∷ zs) (while_append p xs ys (h.1))

while_stops : {A : Type 0} (p : A → Bool) (y : A) (ys : List A) → p y ≡ false → take_while p (y ∷ ys) ≡ []
while_stops p y ys e = take_while-cons p y ys ∙ ap (λ k. cond k (y ∷ take_while p ys) []) e

-- the front that passes is the whole list, or ends before one that doesn't
pub while_whole : {A : Type 0} (p : A → Bool) (xs : List A) → Pass p xs → take_while p (xs ++ []) ≡ xs
while_whole p xs h = while_append p xs [] h ∙ append-nil xs

pub while_front : {A : Type 0} (p : A → Bool) (xs : List A) (y : A) (ys : List A) → Pass p xs → p y ≡ false → take_while p (xs ++ y ∷ ys) ≡ xs
while_front p xs y ys h e = while_append p xs (y ∷ ys) h ∙ ap (λ zs. xs ++ zs) (while_stops p y ys e) ∙ append-nil xs

drop_past : {A : Type 0} (x : A) (xs ys : List A) → drop (length xs + 1) (x ∷ (xs ++ ys)) ≡ ys
drop_past x xs ys = ap (λ n. drop n (x ∷ (xs ++ ys))) (let q : length xs + 1 ≡ suc (length xs) = omega arith in q) ∙ drop_behind xs ys

drop_two : {A : Type 0} (x : A) (xs : List A) (y : A) (ys : List A) → drop (length xs + 1 + 1) (x ∷ (xs ++ y ∷ ys)) ≡ ys
drop_two x xs y ys =
    ap (λ zs. drop (length xs + 1 + 1) (x ∷ zs)) (sym (append_assoc xs (y ∷ []) ys))
    ∙ ap (λ n. drop (n + 1) (x ∷ ((xs ++ y ∷ []) ++ ys))) (sym (length-append xs (y ∷ [])))
    ∙ drop_past x (xs ++ y ∷ []) ys

-- the kept lines have the content that is declared
abbrev pub Says : List ℕ → ℕ → List Piece → List DeclaredLine → Type 0
Says text k qs ds = code_text text qs ≡ with_feeds (map (code_line k) ds)

pub says_append : (text : List ℕ) (k : ℕ) (qs rs : List Piece) (ds es : List DeclaredLine) → Says text k qs ds → Says text k rs es → Says text k (qs ++ rs) (ds ++ es)
says_append text k qs rs ds es h g =
    flat_map-append (whole_text text) qs rs ∙ ap (λ xs. xs ++ code_text text rs) h ∙ ap (λ xs. with_feeds (map (code_line k) ds) ++ xs) g
    ∙ sym (ap with_feeds (map-append (code_line k) ds es) ∙ flat_map-append (λ b. b ++ 10 ∷ []) (map (code_line k) ds) (map (code_line k) es))

pub says_at : (text : List ℕ) (l : Line) (columns : List Cell) (place : Cursor) (ys : List ℕ) (k c m : ℕ) → m ≡ min k (place.ink - place.column) → CodeFacts text l columns place ys → (t : Taken text l columns c (drop m ys)) → Says text k (piece_of 0 t.at l.end l.next ∷ []) (left_at place ys ∷ [])
says_at text l columns place ys k c m e f t =
    ap (λ xs. xs ++ []) (t.says ∙ ap (λ xs. xs ++ 10 ∷ []) (ap (λ n. drop n ys) e ∙ sym (f.spelled k)))

-- what the reader keeps of a line from a column on
pub same_column : (text : List ℕ) (l : Line) (columns : List Cell) (c e : ℕ) (zs : List ℕ) → c ≡ e → Taken text l columns e zs → Taken text l columns c zs
same_column text l columns c e zs same t = subst (λ k. Taken text l columns k zs) (sym same) t

-- fenced code

abbrev pub open_fence : Fence → DeclaredLine → Bool
open_fence x d = not (closes x d)

fence_holds : (text : List ℕ) (r : Run) (x : Fence) (ys : List ℕ) (ds : List DeclaredLine) (bs : List ReadBlock) (ps qs : List Piece) (from to start end : ℕ) (found : Blocks) → Holds text r bs ps found → Says text x.indent qs ds → bytes_between text from to ≡ info x ys
    → Holds text r (bs ++ block (length r.outer) (kind.Fenced from to) start end (length ps) (length (ps ++ qs)) ∷ []) (ps ++ qs) (also found (more (FencedCode (info x ys) (with_feeds (map (code_line x.indent) ds))) none))
fence_holds text r x ys ds bs ps qs from to start end found h says told =
    holds_more text r bs ps found (block (length r.outer) (kind.Fenced from to) start end (length ps) (length (ps ++ qs))) (FencedCode (info x ys) (with_feeds (map (code_line x.indent) ds))) qs h refl
    (λ later. block_told text (length r.outer) (kind.Fenced from to) ps qs start end later ∙ ap (λ i. Some (FencedCode i (code_text text qs))) told ∙ ap (λ c. Some (FencedCode (info x ys) c)) says)

-- what is declared of a fence, if the code has these lines
fence_declares : (text : List ℕ) (r : Run) (fuel at : ℕ) (d0 : DeclaredLine) (x : Fence) (ys : List ℕ) (ds after rest : List DeclaredLine) (s : State) (found : Blocks)
    → take_while (open_fence x) after ≡ ds → drop (min (length ds + 1) (length after) + 1) (d0 ∷ after) ≡ rest
    → Ends text r s (also found (more (FencedCode (info x ys) (with_feeds (map (code_line x.indent) ds))) none)) (blocks_from fuel (at + (min (length ds + 1) (length after) + 1)) rest)
    → Ends text r s found (from_there fuel at (d0 ∷ after) (fenced_code at x ys after))
fence_declares text r fuel at d0 x ys ds after rest s found e q given =
    subst (λ (inside : List DeclaredLine). Ends text r s found (from_there fuel at (d0 ∷ after) (fenced_code_of at x ys (length after) inside))) (sym e)
    (ends_cons text r s found (ended (FencedCode (info x ys) (with_feeds (map (code_line x.indent) ds))) at (at + min (length ds + 1) (length after))) (FencedCode (info x ys) (with_feeds (map (code_line x.indent) ds)))
    (blocks_from fuel (at + (min (length ds + 1) (length after) + 1)) (drop (min (length ds + 1) (length after) + 1) (d0 ∷ after))) (λ y. refl) refl refl
    (subst (λ (zs : List DeclaredLine). Ends text r s (also found (more (FencedCode (info x ys) (with_feeds (map (code_line x.indent) ds))) none)) (blocks_from fuel (at + (min (length ds + 1) (length after) + 1)) zs)) (sym q) given))

-- the page with open fenced code
abbrev pub fence_page : {outer : List ℕ} → Open outer → Fence → ℕ → ℕ → List ReadBlock → List Piece → List Piece → ℕ → ℕ → ℕ → State
fence_page w x from to bs ps qs start end number = leaf_page w (leaf.Fenced x) (kind.Fenced from to) bs (length ps) (ps ++ qs) (length (ps ++ qs)) start end number

-- what is known of open fenced code
pub record FenceOpen (text : List ℕ) (r : Run) (fuel at : ℕ) (x : Fence) (ys : List ℕ) (ds : List DeclaredLine) (cs : Lines text r) (ps qs : List Piece) (from to : ℕ) : Type 0 where
  pub unclosed : Pass (open_fence x) ds
  pub says : Says text x.indent qs ds
  pub told : bytes_between text from to ≡ info x ys
  pub room : length ps + length qs + length cs + 1 < r.limit
  pub few : weigh text (length r.outer) cs ≤ fuel
  pub count : at + 1 + length ds + length cs ≡ r.count
  pub fed : ends_with_feed text ≡ true

fence_last : (text : List ℕ) (r : Run) (fuel at : ℕ) (w : Open r.outer) (d0 : DeclaredLine) (x : Fence) (ys : List ℕ) (ds : List DeclaredLine) (bs : List ReadBlock) (ps qs : List Piece) (from to start end number : ℕ) (found : Blocks)
    → Holds text r bs ps found → FenceOpen text r fuel at x ys ds [] ps qs from to
    → Ends text r (fence_page w x from to bs ps qs start end number) found (from_there fuel at (d0 ∷ (ds ++ [])) (fenced_code at x ys (ds ++ [])))
fence_last text r fuel at w d0 x ys ds bs ps qs from to start end number found h o =
    fence_declares text r fuel at d0 x ys ds (ds ++ []) [] (fence_page w x from to bs ps qs start end number) found (while_whole (open_fence x) ds o.unclosed) passed
    (subst (λ (fs : List Found). Ends text r (fence_page w x from to bs ps qs start end number) found' fs) (sym (no_blocks fuel (at + (min (length ds + 1) (length (ds ++ [])) + 1))))
    (ends_leaf text r w (leaf.Fenced x) (kind.Fenced from to) bs (length ps) (ps ++ qs) (ps ++ qs) (length (ps ++ qs)) start end number found' refl (take-length (ps ++ qs)) (fence_holds text r x ys ds bs ps qs from to start end found h o.says o.told)
    (let wide : length (ps ++ qs) ≡ length ps + length qs = length-append ps qs in let room : length ps + length qs + 0 + 1 < r.limit = o.room in omega (arith, wide, room))))
  where
    found' : Blocks
    found' = also found (more (FencedCode (info x ys) (with_feeds (map (code_line x.indent) ds))) none)

    passed : drop (min (length ds + 1) (length (ds ++ [])) + 1) (d0 ∷ (ds ++ [])) ≡ []
    passed = ap (λ n. drop (n + 1) (d0 ∷ (ds ++ []))) (let same : length (ds ++ []) ≡ length ds = ap length (append-nil ds) in let q : min (length ds + 1) (length (ds ++ [])) ≡ length ds = omega (arith, same) in q) ∙ drop_past d0 ds []

fence_line : (text : List ℕ) (r : Run) (fuel at : ℕ) → Goal text r fuel → (w : Open r.outer) (d0 : DeclaredLine) (x : Fence) (ys : List ℕ) (ds : List DeclaredLine) (v : In text r) (cs : Lines text r) (bs : List ReadBlock) (ps qs : List Piece) (from to start end number : ℕ) (found : Blocks)
    → Holds text r bs ps found → FenceOpen text r fuel at x ys ds (Plainly v ∷ cs) ps qs from to
    → ((u : Open r.outer) (p : Piece) → FenceOpen text r fuel at x ys (ds ++ left_at v.place v.bytes ∷ []) cs ps (qs ++ p ∷ []) from to
    → Reads text r (fence_page u x from to bs ps (qs ++ p ∷ []) start v.line.end v.line.number) cs found (from_there fuel at (d0 ∷ ((ds ++ left_at v.place v.bytes ∷ []) ++ said text r cs)) (fenced_code at x ys ((ds ++ left_at v.place v.bytes ∷ []) ++ said text r cs))))
    → Reads text r (line_taken text (fence_page w x from to bs ps qs start end number) v.line) cs found (from_there fuel at (d0 ∷ (ds ++ left_at v.place v.bytes ∷ said text r cs)) (fenced_code at x ys (ds ++ left_at v.place v.bytes ∷ said text r cs)))
unfolding leaf_turn html_ended keeps_line
fence_line text r fuel at again w d0 x ys ds v cs bs ps qs from to start end number found h o goes = by (closes x dl) refl
  where
    l : Line
    l = v.line

    place : Cursor
    place = v.place

    f : FactsOf text (length r.outer) v
    f = facts text (length r.outer) v

    c : CodeFacts text l v.columns place v.bytes
    c = f.code

    dl : DeclaredLine
    dl = left_at place v.bytes

    rest : List DeclaredLine
    rest = said text r cs

    page : State
    page = fence_page w x from to bs ps qs start end number

    u : Open r.outer
    u = touch l (length r.outer) w

    found' : Blocks
    found' = also found (more (FencedCode (info x ys) (with_feeds (map (code_line x.indent) ds))) none)

    next : ℕ
    next = at + (min (length ds + 1) (length (ds ++ dl ∷ rest)) + 1)

    width : min (length ds + 1) (length (ds ++ dl ∷ rest)) ≡ length ds + 1
    width = let all : length (ds ++ dl ∷ rest) ≡ length ds + suc (length rest) = length-append ds (dl ∷ rest) in omega (arith, all)

    in_page : length (ps ++ qs) ≡ length ps + length qs
    in_page = length-append ps qs

    room : length ps + length qs + suc (length cs) + 1 < r.limit
    room = o.room

    few : suc (length v.bytes) + weigh text (length r.outer) cs ≤ fuel
    few = o.few

    count : at + 1 + length ds + suc (length cs) ≡ r.count
    count = o.count

    m : ℕ
    m = min x.indent (place.ink - place.column)

    column : plus place.column m ≡ place.column + m
    column = let small : place.ink + 3 < 2 ^ 64 = c.small in let order : place.column ≤ place.ink = c.order in omega (arith, small, order)

    t : Taken text l v.columns (plus place.column m) (drop m v.bytes)
    t = same_column text l v.columns (plus place.column m) (place.column + m) (drop m v.bytes) column (c.taken (f.fed o.fed) m (omega arith))

    turned : (k : Bool) → closes x dl ≡ k → leaf_turn text v.columns l place (leaf.Fenced x) ≡ (if k then turn.Closes else turn.Takes (plus place.column m))
    turned k e = ap (λ y. if y then turn.Closes else turn.Takes (plus place.column m)) (c.closing x ∙ e)

    by : (k : Bool) → closes x dl ≡ k → Reads text r (line_taken text page l) cs found (from_there fuel at (d0 ∷ (ds ++ dl ∷ rest)) (fenced_code at x ys (ds ++ dl ∷ rest)))
    by true e =
        subst (λ (s : State). Reads text r s cs found (from_there fuel at (d0 ∷ (ds ++ dl ∷ rest)) (fenced_code at x ys (ds ++ dl ∷ rest))))
        (sym (line_turns text r.outer v f w page turn.Closes (turned true e) ∙ fence_ends r.outer u l x (kind.Fenced from to) bs (length ps) (ps ++ qs) start end number))
        (λ legit. fence_declares text r fuel at d0 x ys ds (ds ++ dl ∷ rest) rest (fold (taken text (length r.outer)) closed_page cs) found (while_front (open_fence x) ds dl rest o.unclosed (ap not e))
        (ap (λ n. drop (n + 1) (d0 ∷ (ds ++ dl ∷ rest))) width ∙ drop_two d0 ds dl rest)
        (again next cs (raise l.end l.number u) (bs ++ block (length r.outer) (kind.Fenced from to) start l.end (length ps) (length (ps ++ qs)) ∷ []) (ps ++ qs) l.end l.number (length (ps ++ qs)) found' (fence_holds text r x ys ds bs ps qs from to start l.end found h o.says o.told)
        (omega (arith, in_page, room)) (omega (arith, few)) (omega (arith, width, count)) legit))
      where
        closed_page : State
        closed_page = closed (raise l.end l.number u) (bs ++ block (length r.outer) (kind.Fenced from to) start l.end (length ps) (length (ps ++ qs)) ∷ []) (ps ++ qs) l.end l.number (length (ps ++ qs))
    by false e =
        subst (λ (s : State). Reads text r s cs found (from_there fuel at (d0 ∷ (ds ++ dl ∷ rest)) (fenced_code at x ys (ds ++ dl ∷ rest))))
        (sym (line_turns text r.outer v f w page (turn.Takes (plus place.column m)) (turned false e)
        ∙ takes_kept text r.outer u v.columns l (plus place.column m) t.at (leaf.Fenced x) (kind.Fenced from to) bs (length ps) (ps ++ qs) (length (ps ++ qs)) start end number t.piece t.some refl
        ∙ ap (λ xs. leaf_page u (leaf.Fenced x) (kind.Fenced from to) bs (length ps) xs (length xs) start l.end l.number) (append_assoc ps qs (piece_of 0 t.at l.end l.next ∷ []))))
        (subst (λ (zs : List DeclaredLine). Reads text r (fence_page u x from to bs ps (qs ++ piece_of 0 t.at l.end l.next ∷ []) start l.end l.number) cs found (from_there fuel at (d0 ∷ zs) (fenced_code at x ys zs)))
        (append_assoc ds (dl ∷ []) rest)
        (goes u (piece_of 0 t.at l.end l.next) (record {
          unclosed = all_append (λ d. open_fence x d ≡ true) ds (dl ∷ []) o.unclosed (ap not e, tt);
          says = says_append text x.indent qs (piece_of 0 t.at l.end l.next ∷ []) ds (dl ∷ []) o.says (says_at text l v.columns place v.bytes x.indent (plus place.column m) m refl c t);
          told = o.told;
          room = let one : length (qs ++ piece_of 0 t.at l.end l.next ∷ []) ≡ length qs + 1 = length-append qs (piece_of 0 t.at l.end l.next ∷ []) in omega (arith, one, room);
          few = omega (arith, few);
          count = let one : length (ds ++ dl ∷ []) ≡ length ds + 1 = length-append ds (dl ∷ []) in omega (arith, one, count);
          fed = o.fed;
        })))

pub fence_read : (text : List ℕ) (r : Run) (fuel at : ℕ) → Goal text r fuel → (w : Open r.outer) (d0 : DeclaredLine) (x : Fence) (ys : List ℕ) (ds : List DeclaredLine) (cs : Lines text r) (bs : List ReadBlock) (ps qs : List Piece) (from to start end number : ℕ) (found : Blocks)
    → Holds text r bs ps found → FenceOpen text r fuel at x ys ds cs ps qs from to
    → Reads text r (fence_page w x from to bs ps qs start end number) cs found (from_there fuel at (d0 ∷ (ds ++ said text r cs)) (fenced_code at x ys (ds ++ said text r cs)))
unfolding is_paragraph
fence_read text r fuel at again w d0 x ys ds [] bs ps qs from to start end number found h o legit = fence_last text r fuel at w d0 x ys ds bs ps qs from to start end number found h o
fence_read text r fuel at again w d0 x ys ds (Lazily z ∷ cs) bs ps qs from to start end number found h o legit = absurd (true≢false (sym (legit.0 refl)))
fence_read text r fuel at again w d0 x ys ds (Plainly v ∷ cs) bs ps qs from to start end number found h o legit =
    fence_line text r fuel at again w d0 x ys ds v cs bs ps qs from to start end number found h o
    (λ u p more. fence_read text r fuel at again u d0 x ys (ds ++ left_at v.place v.bytes ∷ []) cs bs ps (qs ++ p ∷ []) from to start v.line.end v.line.number found h more)
    (legit.1)

-- indented code

abbrev pub code_page : {outer : List ℕ} → Open outer → List ReadBlock → List Piece → List Piece → List Piece → ℕ → ℕ → ℕ → State
code_page w bs ps qs ms start end number = leaf_page w leaf.Indented kind.Indented bs (length ps) (ps ++ (qs ++ ms)) (length (ps ++ qs)) start end number

abbrev pub code_block : ℕ → List Piece → List Piece → ℕ → ℕ → ReadBlock
code_block d ps qs start end = block d kind.Indented start end (length ps) (length (ps ++ qs))

abbrev pub code_shut : {outer : List ℕ} → Open outer → List ReadBlock → List Piece → List Piece → ℕ → ℕ → ℕ → State
code_shut {outer = outer} w bs ps qs start end number = closed (raise end number w) (bs ++ code_block (length outer) ps qs start end ∷ []) (ps ++ qs) end number (length (ps ++ qs))

code_kept : (ps qs ms : List Piece) → take (length (ps ++ qs)) (ps ++ (qs ++ ms)) ≡ ps ++ qs
code_kept ps qs ms = ap (take (length (ps ++ qs))) (sym (append_assoc ps qs ms)) ∙ take_front (ps ++ qs) ms

code_shuts : (text : List ℕ) (outer : List ℕ) (w : Open outer) (bs : List ReadBlock) (ps qs ms : List Piece) (start end number : ℕ) → leaf_closed text (code_page w bs ps qs ms start end number) ≡ code_shut w bs ps qs start end number
code_shuts text outer w bs ps qs ms start end number = page_shuts text outer w leaf.Indented kind.Indented bs (length ps) (ps ++ (qs ++ ms)) (ps ++ qs) (length (ps ++ qs)) start end number refl (code_kept ps qs ms)

pass_reverse : {A : Type 0} (p : A → Bool) (xs : List A) → Pass p xs → Pass p (reverse xs)
pass_reverse p [] h = tt
pass_reverse p (x ∷ xs) h = subst (λ zs. Pass p zs) (sym (reverse-append (x ∷ []) xs)) (all_append (λ y. p y ≡ true) (reverse xs) (x ∷ []) (pass_reverse p xs (h.1)) (h.0, tt))

-- lines of code without the blank ones at their end
without_blanks : (init : List DeclaredLine) (x : DeclaredLine) (blanks : List DeclaredLine) → is_blank_line x ≡ false → Pass is_blank_line blanks → without_blank_end ((init ++ x ∷ []) ++ blanks) ≡ init ++ x ∷ []
without_blanks init x blanks e h =
    ap (λ (zs : List DeclaredLine). take (length (fr ++ blanks) - length zs) (fr ++ blanks)) back
    ∙ ap (λ n. take n (fr ++ blanks)) (let all : length (fr ++ blanks) ≡ length fr + length blanks = length-append fr blanks in let q : length (fr ++ blanks) - length (reverse blanks) ≡ length fr = omega (arith, all, length-reverse blanks) in q)
    ∙ take_front fr blanks
  where
    fr : List DeclaredLine
    fr = init ++ x ∷ []

    back : take_while is_blank_line (reverse (fr ++ blanks)) ≡ reverse blanks
    back =
        ap (take_while is_blank_line) (reverse-append fr blanks ∙ ap (λ zs. reverse blanks ++ zs) (reverse-append init (x ∷ [])))
        ∙ while_front is_blank_line (reverse blanks) x (reverse init) (pass_reverse is_blank_line blanks h) e

code_declares : (text : List ℕ) (r : Run) (fuel at : ℕ) (init : List DeclaredLine) (x : DeclaredLine) (blanks ys : List DeclaredLine) (s : State) (found : Blocks)
    → Pass is_code_line (init ++ x ∷ []) → is_blank_line x ≡ false → Pass is_code_line blanks → Pass is_blank_line blanks → take_while is_code_line ys ≡ []
    → Ends text r s (also found (more (IndentedCode (with_feeds (map (code_line 4) (init ++ x ∷ [])))) none)) (blocks_from fuel (at + length (init ++ x ∷ [])) (blanks ++ ys))
    → Ends text r s found (from_there fuel at ((init ++ x ∷ []) ++ (blanks ++ ys)) (indented_code at ((init ++ x ∷ []) ++ (blanks ++ ys))))
code_declares text r fuel at init x blanks ys s found codes last more_codes blank stops given =
    subst (λ (zs : List DeclaredLine). Ends text r s found (from_there fuel at whole (indented_code_of at zs))) (sym taken_lines)
    (ends_cons text r s found (ended (IndentedCode (with_feeds (map (code_line 4) fr))) at (at + length fr - 1)) (IndentedCode (with_feeds (map (code_line 4) fr))) (blocks_from fuel (at + length fr) (drop (length fr) whole)) (λ y. refl) refl refl
    (subst (λ (zs : List DeclaredLine). Ends text r s (also found (more (IndentedCode (with_feeds (map (code_line 4) fr))) none)) (blocks_from fuel (at + length fr) zs)) (sym (drop_behind fr (blanks ++ ys))) given))
  where
    fr : List DeclaredLine
    fr = init ++ x ∷ []

    whole : List DeclaredLine
    whole = fr ++ (blanks ++ ys)

    taken_lines : without_blank_end (take_while is_code_line whole) ≡ fr
    taken_lines =
        ap without_blank_end (while_append is_code_line fr (blanks ++ ys) codes ∙ ap (λ zs. fr ++ zs) (while_append is_code_line blanks ys more_codes ∙ ap (λ zs. blanks ++ zs) stops ∙ append-nil blanks))
        ∙ without_blanks init x blanks last blank

-- lines with all markers, as the declaration has them
abbrev pub lefts : (text : List ℕ) (r : Run) → List (In text r) → List DeclaredLine
lefts text r bl = map (λ (v : In text r). left_at v.place v.bytes) bl

abbrev AreBlank : (text : List ℕ) (r : Run) → List (In text r) → Type 0
AreBlank text r bl = Pass (λ (v : In text r). is_blank v.bytes) bl

-- blank lines make no block
blanks_declared : (text : List ℕ) (r : Run) (bl : List (In text r)) (ys : List DeclaredLine) (fuel at : ℕ) → AreBlank text r bl → length bl ≤ fuel → blocks_from fuel at (lefts text r bl ++ ys) ≡ blocks_from (fuel - length bl) (at + length bl) ys
unfolding blocks_from beginning
blanks_declared text r [] ys fuel at blank low = ap (λ n. blocks_from n at ys) (let q : fuel ≡ fuel - 0 = omega arith in q) ∙ ap (λ n. blocks_from (fuel - 0) n ys) (let q : at ≡ at + 0 = omega arith in q)
blanks_declared text r (v ∷ bl) ys zero at blank low = absurd (omega (arith, low))
blanks_declared text r (v ∷ bl) ys (suc fuel) at blank low =
    ap (λ k. and_rest (λ n x. blocks_from fuel n x) at whole (first_block (λ x. blocks_from fuel 0 x) at dl rest (beginning_of p k (nat_le 4 (indent p))))) (blank.0)
    ∙ blanks_declared text r bl ys fuel (at + 1) (blank.1) (omega (arith, low))
    ∙ ap (λ n. blocks_from n (at + 1 + length bl) ys) (let q : fuel - length bl ≡ suc fuel - suc (length bl) = omega arith in q)
    ∙ ap (λ n. blocks_from (suc fuel - suc (length bl)) n ys) (let q : at + 1 + length bl ≡ at + suc (length bl) = omega arith in q)
  where
    dl : DeclaredLine
    dl = left_at v.place v.bytes

    p : Part
    p = part_at v.place.column v.bytes

    rest : List DeclaredLine
    rest = lefts text r bl ++ ys

    whole : List DeclaredLine
    whole = dl ∷ rest

-- what is known of open indented code: its lines up to the last one that isn't blank, and blank ones after them
pub record CodeOpen (text : List ℕ) (r : Run) (fuel at : ℕ) (init : List DeclaredLine) (x : DeclaredLine) (bl : List (In text r)) (cs : Lines text r) (ps qs ms : List Piece) : Type 0 where
  pub codes : Pass is_code_line (init ++ x ∷ [])
  pub last : is_blank_line x ≡ false
  pub says : Says text 4 qs (init ++ x ∷ [])
  pub blank : Pass (λ (v : In text r). is_blank v.bytes) bl
  pub blank_says : Says text 4 ms (lefts text r bl)
  pub pauses : length ms ≤ length bl
  pub room : length ps + length qs + length bl + length cs + 1 < r.limit
  pub few : length bl + weigh text (length r.outer) cs ≤ fuel
  pub count : at + length (init ++ x ∷ []) + length bl + length cs ≡ r.count
  pub fed : ends_with_feed text ≡ true

-- blank lines are lines of code
blank_codes : (text : List ℕ) (r : Run) (bl : List (In text r)) → AreBlank text r bl → (Pass is_blank_line (lefts text r bl)) × (Pass is_code_line (lefts text r bl))
blank_codes text r [] h = (tt, tt)
blank_codes text r (v ∷ bl) h =
    let rest = blank_codes text r bl (h.1) in
    ((h.0, rest.0), (ap (λ k. k || nat_le 4 (indent (part_at v.place.column v.bytes))) (h.0), rest.1))

code_holds : (text : List ℕ) (r : Run) (ds : List DeclaredLine) (bs : List ReadBlock) (ps qs : List Piece) (start end : ℕ) (found : Blocks) → Holds text r bs ps found → Says text 4 qs ds
    → Holds text r (bs ++ code_block (length r.outer) ps qs start end ∷ []) (ps ++ qs) (also found (more (IndentedCode (with_feeds (map (code_line 4) ds))) none))
code_holds text r ds bs ps qs start end found h says =
    holds_more text r bs ps found (code_block (length r.outer) ps qs start end) (IndentedCode (with_feeds (map (code_line 4) ds))) qs h refl (λ later. block_told text (length r.outer) kind.Indented ps qs start end later ∙ ap (λ c. Some (IndentedCode c)) says)

-- the code ends with the lines
code_last : (text : List ℕ) (r : Run) (fuel at : ℕ) (w : Open r.outer) (init : List DeclaredLine) (x : DeclaredLine) (bl : List (In text r)) (bs : List ReadBlock) (ps qs ms : List Piece) (start end number : ℕ) (found : Blocks) → Holds text r bs ps found
    → CodeOpen text r fuel at init x bl [] ps qs ms
    → Ends text r (code_page w bs ps qs ms start end number) found (from_there fuel at ((init ++ x ∷ []) ++ (lefts text r bl ++ [])) (indented_code at ((init ++ x ∷ []) ++ (lefts text r bl ++ []))))
code_last text r fuel at w init x bl bs ps qs ms start end number found h o =
    code_declares text r fuel at init x (lefts text r bl) [] (code_page w bs ps qs ms start end number) found o.codes o.last ((blank_codes text r bl o.blank).1) ((blank_codes text r bl o.blank).0) refl
    (subst (λ (fs : List Found). Ends text r (code_page w bs ps qs ms start end number) found' fs) (sym (blanks_declared text r bl [] fuel (at + length (init ++ x ∷ [])) o.blank (let k : length bl + 0 ≤ fuel = o.few in omega (arith, k)) ∙ no_blocks (fuel - length bl) (at + length (init ++ x ∷ []) + length bl)))
    (ends_leaf text r w leaf.Indented kind.Indented bs (length ps) (ps ++ (qs ++ ms)) (ps ++ qs) (length (ps ++ qs)) start end number found' refl (code_kept ps qs ms) (code_holds text r (init ++ x ∷ []) bs ps qs start end found h o.says)
    (let wide : length (ps ++ qs) ≡ length ps + length qs = length-append ps qs in let room : length ps + length qs + length bl + 0 + 1 < r.limit = o.room in omega (arith, wide, room))))
  where
    found' : Blocks
    found' = also found (more (IndentedCode (with_feeds (map (code_line 4) (init ++ x ∷ [])))) none)

-- the code ends before a line
code_ends : (text : List ℕ) (r : Run) (fuel at : ℕ) → Again text r fuel → (w : Open r.outer) (init : List DeclaredLine) (x : DeclaredLine) (bl : List (In text r)) (v : In text r) (cs : Lines text r) (bs : List ReadBlock) (ps qs ms : List Piece) (start end number : ℕ) (found : Blocks) → Holds text r bs ps found
    → CodeOpen text r fuel at init x bl (Plainly v ∷ cs) ps qs ms → is_code_line (left_at v.place v.bytes) ≡ false → leaf_turn text v.columns v.line v.place leaf.Indented ≡ turn.Passes
    → Reads text r (line_taken text (code_page w bs ps qs ms start end number) v.line) cs found (from_there fuel at ((init ++ x ∷ []) ++ (lefts text r bl ++ said text r (Plainly v ∷ cs))) (indented_code at ((init ++ x ∷ []) ++ (lefts text r bl ++ said text r (Plainly v ∷ cs)))))
unfolding is_paragraph
code_ends text r fuel at again w init x bl v cs bs ps qs ms start end number found h o stops turned =
    subst (λ (s : State). Reads text r s cs found (from_there fuel at whole (indented_code at whole))) (sym same)
    (λ legit. code_declares text r fuel at init x (lefts text r bl) (said text r (Plainly v ∷ cs)) (fold (taken text (length r.outer)) after cs) found o.codes o.last ((blank_codes text r bl o.blank).1) ((blank_codes text r bl o.blank).0)
    (while_stops is_code_line (left_at v.place v.bytes) (said text r cs) stops)
    (subst (λ (fs : List Found). Ends text r (fold (taken text (length r.outer)) after cs) found' fs) (sym (blanks_declared text r bl (said text r (Plainly v ∷ cs)) fuel next o.blank (omega (arith, few))))
    (again (fuel - length bl) (omega arith) (next + length bl) v cs y (bs ++ code_block (length r.outer) ps qs start end ∷ []) (ps ++ qs) end number (length (ps ++ qs)) found' (code_holds text r (init ++ x ∷ []) bs ps qs start end found h o.says)
    (let wide : length (ps ++ qs) ≡ length ps + length qs = length-append ps qs in omega (arith, wide, room)) (omega (arith, few)) (omega (arith, count)) legit)))
  where
    whole : List DeclaredLine
    whole = (init ++ x ∷ []) ++ (lefts text r bl ++ said text r (Plainly v ∷ cs))

    u : Open r.outer
    u = touch v.line (length r.outer) w

    y : Open r.outer
    y = raise end number u

    next : ℕ
    next = at + length (init ++ x ∷ [])

    found' : Blocks
    found' = also found (more (IndentedCode (with_feeds (map (code_line 4) (init ++ x ∷ [])))) none)

    after : State
    after = begin text v.columns v.line (length r.outer) v.place (code_shut u bs ps qs start end number)

    room : length ps + length qs + length bl + suc (length cs) + 1 < r.limit
    room = o.room

    few : length bl + (suc (length v.bytes) + weigh text (length r.outer) cs) ≤ fuel
    few = o.few

    count : at + length (init ++ x ∷ []) + length bl + suc (length cs) ≡ r.count
    count = o.count

    same : line_taken text (code_page w bs ps qs ms start end number) v.line ≡ after
    same =
        line_passes text r.outer v (facts text (length r.outer) v) w (code_page w bs ps qs ms start end number) turned
        ∙ passes_begin text (length r.outer) v (facts text (length r.outer) v) (code_page u bs ps qs ms start end number) (code_shut u bs ps qs start end number) refl refl
        (shuts_as text r.outer (raise end number u) (bs ++ code_block (length r.outer) ps qs start end ∷ []) (ps ++ qs) end number (length (ps ++ qs)) (code_page u bs ps qs ms start end number) (code_shuts text r.outer u bs ps qs ms start end number))

-- a line after open code
code_line_read : (text : List ℕ) (r : Run) (fuel at : ℕ) → Again text r fuel → (w : Open r.outer) (init : List DeclaredLine) (x : DeclaredLine) (bl : List (In text r)) (v : In text r) (cs : Lines text r) (bs : List ReadBlock) (ps qs ms : List Piece) (start end number : ℕ) (found : Blocks) → Holds text r bs ps found
    → CodeOpen text r fuel at init x bl (Plainly v ∷ cs) ps qs ms
    → ((u : Open r.outer) (p : Piece) → CodeOpen text r fuel at init x (bl ++ v ∷ []) cs ps qs (ms ++ p ∷ [])
    → Reads text r (code_page u bs ps qs (ms ++ p ∷ []) start end number) cs found (from_there fuel at ((init ++ x ∷ []) ++ (lefts text r (bl ++ v ∷ []) ++ said text r cs)) (indented_code at ((init ++ x ∷ []) ++ (lefts text r (bl ++ v ∷ []) ++ said text r cs)))))
    → ((u : Open r.outer) (p : Piece) → CodeOpen text r fuel at ((init ++ x ∷ []) ++ lefts text r bl) (left_at v.place v.bytes) [] cs ps (qs ++ (ms ++ p ∷ [])) []
    → Reads text r (code_page u bs ps (qs ++ (ms ++ p ∷ [])) [] start v.line.end v.line.number) cs found (from_there fuel at ((((init ++ x ∷ []) ++ lefts text r bl) ++ left_at v.place v.bytes ∷ []) ++ ([] ++ said text r cs)) (indented_code at ((((init ++ x ∷ []) ++ lefts text r bl) ++ left_at v.place v.bytes ∷ []) ++ ([] ++ said text r cs)))))
    → Reads text r (line_taken text (code_page w bs ps qs ms start end number) v.line) cs found (from_there fuel at ((init ++ x ∷ []) ++ (lefts text r bl ++ said text r (Plainly v ∷ cs))) (indented_code at ((init ++ x ∷ []) ++ (lefts text r bl ++ said text r (Plainly v ∷ cs)))))
unfolding leaf_turn html_ended
code_line_read text r fuel at again w init x bl v cs bs ps qs ms start end number found h o goes_blank goes_code = by (is_blank ys) (nat_le 4 (indent p)) refl refl
  where
    l : Line
    l = v.line

    place : Cursor
    place = v.place

    ys : List ℕ
    ys = v.bytes

    f : FactsOf text (length r.outer) v
    f = facts text (length r.outer) v

    c : CodeFacts text l v.columns place ys
    c = f.code

    p : Part
    p = part_at place.column ys

    fr : List DeclaredLine
    fr = init ++ x ∷ []

    blanks : List DeclaredLine
    blanks = lefts text r bl

    dl : DeclaredLine
    dl = left_at place ys

    rest : List DeclaredLine
    rest = said text r cs

    page : State
    page = code_page w bs ps qs ms start end number

    u : Open r.outer
    u = touch l (length r.outer) w

    spaces : ℕ
    spaces = place.ink - place.column

    Goes : State → List DeclaredLine → Type 0
    Goes s ds = Reads text r s cs found (from_there fuel at ds (indented_code at ds))

    room : length ps + length qs + length bl + suc (length cs) + 1 < r.limit
    room = o.room

    few : length bl + (suc (length ys) + weigh text (length r.outer) cs) ≤ fuel
    few = o.few

    count : at + length fr + length bl + suc (length cs) ≡ r.count
    count = o.count

    pauses_few : length ms ≤ length bl
    pauses_few = o.pauses

    small : place.ink + 3 < 2 ^ 64
    small = c.small

    order : place.column ≤ place.ink
    order = c.order

    deep : nat_le 4 spaces ≡ nat_le 4 (indent p)
    deep = ap (nat_le 4) (sym c.width)

    turned_at : (far blank : Bool) → nat_le 4 (indent p) ≡ far → is_blank ys ≡ blank → leaf_turn text v.columns l place leaf.Indented ≡ (if far then turn.Takes (plus place.column 4) else (if blank then turn.Takes place.ink else turn.Passes))
    turned_at far blank e d =
        ap (λ k. if k then turn.Takes (plus place.column 4) else (if is_blank_at v.columns place then turn.Takes place.ink else turn.Passes)) (deep ∙ e)
        ∙ ap (λ k. if far then turn.Takes (plus place.column 4) else (if k then turn.Takes place.ink else turn.Passes)) (c.blank ∙ d)

    joins : (y : Piece) → (ps ++ (qs ++ ms)) ++ y ∷ [] ≡ ps ++ (qs ++ (ms ++ y ∷ []))
    joins y = append_assoc ps (qs ++ ms) (y ∷ []) ∙ ap (λ zs. ps ++ zs) (append_assoc qs ms (y ∷ []))

    -- a blank line
    pauses : (k m : ℕ) → m ≡ min 4 spaces → k ≡ place.column + m → leaf_turn text v.columns l place leaf.Indented ≡ turn.Takes k → is_blank ys ≡ true → Goes (line_taken text page l) (fr ++ (blanks ++ dl ∷ rest))
    pauses k m e at_k turned blank =
        subst (λ (s : State). Goes s (fr ++ (blanks ++ dl ∷ rest)))
        (sym (line_turns text r.outer v f w page (turn.Takes k) turned
        ∙ takes_blank text r.outer u v.columns l k t.at kind.Indented bs (length ps) (ps ++ (qs ++ ms)) (length (ps ++ qs)) start end number t.piece t.some (ap (λ n. keeps_line v.columns n leaf.Indented) at_k ∙ c.keeps m (omega (arith, e)) ∙ ap not blank)
        ∙ ap (λ zs. leaf_page u leaf.Indented kind.Indented bs (length ps) zs (length (ps ++ qs)) start end number) (joins y)))
        (subst (λ (ds : List DeclaredLine). Goes (code_page u bs ps qs (ms ++ y ∷ []) start end number) (fr ++ ds)) (ap (λ zs. zs ++ rest) (map-append (λ (z : In text r). left_at z.place z.bytes) bl (v ∷ [])) ∙ append_assoc blanks (dl ∷ []) rest)
        (goes_blank u y (record {
          codes = o.codes;
          last = o.last;
          says = o.says;
          blank = all_append (λ (z : In text r). is_blank z.bytes ≡ true) bl (v ∷ []) o.blank (blank, tt);
          blank_says = subst (λ (ds : List DeclaredLine). Says text 4 (ms ++ y ∷ []) ds) (sym (map-append (λ (z : In text r). left_at z.place z.bytes) bl (v ∷ []))) (says_append text 4 ms (y ∷ []) blanks (dl ∷ []) o.blank_says (says_at text l v.columns place ys 4 k m e c t));
          pauses = let two : length (ms ++ y ∷ []) ≡ length ms + 1 = length-append ms (y ∷ []) in omega (arith, one, two, pauses_few);
          room = omega (arith, one, room);
          few = omega (arith, one, few);
          count = omega (arith, one, count);
          fed = o.fed;
        })))
      where
        one : length (bl ++ v ∷ []) ≡ length bl + 1
        one = length-append bl (v ∷ [])

        t : Taken text l v.columns k (drop m ys)
        t = same_column text l v.columns k (place.column + m) (drop m ys) at_k (c.taken (f.fed o.fed) m (omega (arith, e)))

        y : Piece
        y = piece_of 0 t.at l.end l.next

    -- another line of code
    goes_on : nat_le 4 (indent p) ≡ true → is_blank ys ≡ false → Goes (line_taken text page l) (fr ++ (blanks ++ dl ∷ rest))
    goes_on far blank =
        subst (λ (s : State). Goes s (fr ++ (blanks ++ dl ∷ rest)))
        (sym (line_turns text r.outer v f w page (turn.Takes (plus place.column 4)) (turned_at true false far blank)
        ∙ takes_kept text r.outer u v.columns l (plus place.column 4) t.at leaf.Indented kind.Indented bs (length ps) (ps ++ (qs ++ ms)) (length (ps ++ qs)) start end number t.piece t.some (ap (λ n. keeps_line v.columns n leaf.Indented) at_four ∙ c.keeps 4 four ∙ ap not blank)
        ∙ ap (λ zs. leaf_page u leaf.Indented kind.Indented bs (length ps) zs (length zs) start l.end l.number) (joins y)
        ∙ ap (λ zs. leaf_page u leaf.Indented kind.Indented bs (length ps) (ps ++ zs) (length (ps ++ whole)) start l.end l.number) (sym (append-nil whole))))
        (subst (λ (ds : List DeclaredLine). Goes (code_page u bs ps whole [] start l.end l.number) ds) (append_assoc (fr ++ blanks) (dl ∷ []) rest ∙ append_assoc fr blanks (dl ∷ rest))
        (goes_code u y (record {
          codes = all_append (λ d. is_code_line d ≡ true) (fr ++ blanks) (dl ∷ []) (all_append (λ d. is_code_line d ≡ true) fr blanks o.codes ((blank_codes text r bl o.blank).1)) (is_code, tt);
          last = blank;
          says = subst (λ (ds : List DeclaredLine). Says text 4 whole ds) (sym (append_assoc fr blanks (dl ∷ [])))
              (says_append text 4 qs (ms ++ y ∷ []) fr (blanks ++ dl ∷ []) o.says (says_append text 4 ms (y ∷ []) blanks (dl ∷ []) o.blank_says (says_at text l v.columns place ys 4 (plus place.column 4) 4 (let q : 4 ≡ min 4 spaces = omega (arith, four) in q) c t)));
          blank = tt;
          blank_says = refl;
          pauses = omega arith;
          room = wide;
          few = omega (arith, few);
          count = all_count;
          fed = o.fed;
        })))
      where
        four : 4 ≤ spaces
        four = let q : nat_le 4 spaces ≡ true = deep ∙ far in grind (arith, q, nat_tests)

        at_four : plus place.column 4 ≡ place.column + 4
        at_four = omega (arith, four, small)

        t : Taken text l v.columns (plus place.column 4) (drop 4 ys)
        t = same_column text l v.columns (plus place.column 4) (place.column + 4) (drop 4 ys) at_four (c.taken (f.fed o.fed) 4 four)

        y : Piece
        y = piece_of 0 t.at l.end l.next

        whole : List Piece
        whole = qs ++ (ms ++ y ∷ [])

        is_code : is_code_line dl ≡ true
        is_code = ap (λ k. k || nat_le 4 (indent p)) blank ∙ far

        wide : length ps + length whole + 0 + length cs + 1 < r.limit
        wide =
            let one : length whole ≡ length qs + length (ms ++ y ∷ []) = length-append qs (ms ++ y ∷ []) in
            let two : length (ms ++ y ∷ []) ≡ length ms + 1 = length-append ms (y ∷ []) in
            omega (arith, one, two, pauses_few, room)

        all_count : at + length ((fr ++ blanks) ++ dl ∷ []) + 0 + length cs ≡ r.count
        all_count =
            let one : length ((fr ++ blanks) ++ dl ∷ []) ≡ length (fr ++ blanks) + 1 = length-append (fr ++ blanks) (dl ∷ []) in
            let two : length (fr ++ blanks) ≡ length fr + length blanks = length-append fr blanks in
            let three : length blanks ≡ length bl = length-map bl (λ (z : In text r). left_at z.place z.bytes) in
            omega (arith, one, two, three, count)

    by : (blank far : Bool) → is_blank ys ≡ blank → nat_le 4 (indent p) ≡ far → Goes (line_taken text page l) (fr ++ (blanks ++ dl ∷ rest))
    by true true d e = let four : 4 ≤ spaces = (let q : nat_le 4 spaces ≡ true = deep ∙ e in grind (arith, q, nat_tests)) in pauses (plus place.column 4) 4 (omega (arith, four)) (omega (arith, four, small)) (turned_at true true e d) d
    by true false d e = let few_spaces : spaces < 4 = (let q : nat_le 4 spaces ≡ false = deep ∙ e in grind (arith, q, nat_tests)) in pauses place.ink spaces (omega (arith, few_spaces)) (omega (arith, order)) (turned_at false true e d) d
    by false true d e = goes_on e d
    by false false d e = code_ends text r fuel at again w init x bl v cs bs ps qs ms start end number found h o (ap (λ k. k || nat_le 4 (indent p)) d ∙ e) (turned_at false false e d)

pub code_read : (text : List ℕ) (r : Run) (fuel at : ℕ) → Again text r fuel → (w : Open r.outer) (init : List DeclaredLine) (x : DeclaredLine) (bl : List (In text r)) (cs : Lines text r) (bs : List ReadBlock) (ps qs ms : List Piece) (start end number : ℕ) (found : Blocks) → Holds text r bs ps found
    → CodeOpen text r fuel at init x bl cs ps qs ms
    → Reads text r (code_page w bs ps qs ms start end number) cs found (from_there fuel at ((init ++ x ∷ []) ++ (lefts text r bl ++ said text r cs)) (indented_code at ((init ++ x ∷ []) ++ (lefts text r bl ++ said text r cs))))
unfolding is_paragraph
code_read text r fuel at again w init x bl [] bs ps qs ms start end number found h o legit = code_last text r fuel at w init x bl bs ps qs ms start end number found h o
code_read text r fuel at again w init x bl (Lazily z ∷ cs) bs ps qs ms start end number found h o legit = absurd (true≢false (sym (legit.0 refl)))
code_read text r fuel at again w init x bl (Plainly v ∷ cs) bs ps qs ms start end number found h o legit =
    code_line_read text r fuel at again w init x bl v cs bs ps qs ms start end number found h o
    (λ u p more. code_read text r fuel at again u init x (bl ++ v ∷ []) cs bs ps qs (ms ++ p ∷ []) start end number found h more)
    (λ u p more. code_read text r fuel at again u ((init ++ x ∷ []) ++ lefts text r bl) (left_at v.place v.bytes) [] cs bs ps (qs ++ (ms ++ p ∷ [])) [] start v.line.end v.line.number found h more)
    (legit.1)
