-- Of a block quote the reader keeps the lines that are declared, lazy ones, too, and finds the blocks in it.
use Rattle.std.proofs.Common.{◌≡◌, ◌⊎◌, inl, inr, ℕ, suc, ◌+◌, ◌-◌, ◌^◌, ◌<◌, ◌≤◌, Bool, true, false, ◌==◌, ◌&&◌, if◌then◌else◌, List, [], ◌∷◌, ◌++◌, length, map, drop, refl, ap, sym, subst, ◌∙◌, arith, append-nil, length-append, true≢false}
use Rattle.std.specs.Prelude.{Option, Some, None}
use Rattle.std.specs.List.{fold}
use Rattle.std.proofs.lemmas.Bool.Decides.{nat_tests}
use Rattle.std.proofs.lemmas.List.{length-map, map-append}
use Rattle.tocmark_event.specs.declared.event.HeadingLevel.{HeadingLevel}
use Rattle.tocmark_read_lines.specs.Marks.{tail_of}
use Rattle.tocmark_read_lines.specs.declared.cell.Cursor.{Cursor}
use Rattle.tocmark_read_lines.specs.declared.html.HtmlKind.TheVariants as html
use Rattle.tocmark_read_page.specs.Leaves.{is_paragraph}
use Rattle.tocmark_read_page.specs.Pages.{State, ended, leaf_closed, closed_to}
use Rattle.tocmark_read_page.specs.declared.page.Block.{Block as ReadBlock}
use Rattle.tocmark_read_page.specs.declared.piece.Piece.{Piece}
use Rattle.tocmark_read_blocks.specs.Blocks.{line_taken, started}
use Rattle.tocmark_commonmark.specs.Lines.{Line as DeclaredLine, Lazy, line_ink}
use Rattle.tocmark_commonmark.specs.Tree.{Blocks, none, more, Quote, Found, ends_open, tree, defined}
use Rattle.tocmark_commonmark.specs.Beginnings.{Beginning, BlankLine, CodeLine, QuoteLine, HeadingLine, FenceLine, HtmlLine, RuleLine, ItemLine, TextLine, LazyLine, beginning, interrupts, may_be_lazy}
use Rattle.tocmark_commonmark.specs.Containers.{goes_on, front, lazily, unquoted, in_quote_as, in_quote, quote_with}
use Rattle.tocmark_commonmark.specs.Blocks.{blocks_from}
use Rattle.tocmark_block_laws.specs.Trees.{told}
use Rattle.tocmark_block_laws.specs.Quotes.{ends_with_feed, is_leaf}
use Rattle.tocmark_read_page.specs.Definitions.{DefinitionView}
use Rattle.tocmark_block_laws.proofs.Apart.{after_these, closed_after, leaf_started_after}
use Rattle.tocmark_block_laws.proofs.Open.{Open, touch}
use Rattle.tocmark_block_laws.proofs.Starts.{start_as, is_quote_kind, left_at}
use Rattle.tocmark_block_laws.proofs.Seen.{Seen, FactsOf, facts, Next}
use Rattle.tocmark_block_laws.proofs.Pages.{here, closed, with_open, begin, Left, quote_leaves, closes_quote, nothing_ends, line_stops, passes_begin, plain_begins, below_begins, closes_first, same_start, next_seen}
use Rattle.tocmark_block_laws.proofs.Told.{also, Run, Holds, holds_none, is_quote_block, inner_run, holds_quote}
use Rattle.tocmark_block_laws.proofs.Ends.{Fewer, Coming, Plainly, Lazily, line_of, shown, bytes_in, is_lazy, weigh, taken, Legit, In, Lines, said, Shuts, Ends, Reads, taken_after, legit_after, ends_block, no_blocks, Again, from_there}
use Rattle.tocmark_block_laws.proofs.ReadParagraphs.{drop_next}

-- what is read with so much fuel, in any quotes
abbrev pub All : List ℕ → ℕ → Type 0
All text fuel = (r : Run) → Again text r fuel

-- a quote whose first line has begun
pub record Quoting (text : List ℕ) (r : Run) : Type 0 where
  pub at : ℕ
  pub whole : List DeclaredLine
  pub first : Seen text (suc (length r.outer))
  pub blocks : List ReadBlock
  pub pieces : List Piece
  pub found : Blocks
  pub block : ReadBlock
  pub inner : Open (length blocks ∷ r.outer)
  pub end : ℕ
  pub number : ℕ
  pub kept : ℕ
  pub holds : Holds text r blocks pieces found
  pub depth : block.depth ≡ length r.outer
  pub kind : is_quote_block block

-- the page with the first line in the quote
abbrev pub quote_page : (text : List ℕ) (r : Run) → Quoting text r → State
quote_page text r g = begin text g.first.columns g.first.line (suc (length r.outer)) g.first.place (closed g.inner (g.blocks ++ g.block ∷ []) g.pieces g.end g.number g.kept)

-- the lines in a quote
abbrev pub Inner : List ℕ → Run → Type 0
Inner text r = List (Coming text (suc (length r.outer)))

-- the page with these lines more in it
abbrev after : (text : List ℕ) (r : Run) → Quoting text r → Inner text r → State
after text r g ins = fold (taken text (suc (length r.outer))) (quote_page text r g) ins

-- as the declaration has them, the first one, too
abbrev pub inside : (text : List ℕ) (r : Run) → Quoting text r → Inner text r → List DeclaredLine
inside text r g ins = map (shown text (suc (length r.outer))) (Plainly g.first ∷ ins)

-- the blocks in the quote
abbrev found_in : (text : List ℕ) (r : Run) → ℕ → Quoting text r → Inner text r → List Found
found_in text r fuel g ins = blocks_from fuel 0 (inside text r g ins)

-- what is known after some lines of a quote, if these are the lines that are left
pub record Front (text : List ℕ) (r : Run) (fuel : ℕ) (g : Quoting text r) (ins : Inner text r) (cs : Lines text r) : Type 0 where
  pub legit_in : Legit text (suc (length r.outer)) (quote_page text r g) ins
  pub legit_out : Legit text (length r.outer) (fold (taken text (suc (length r.outer))) (quote_page text r g) ins) cs
  pub rest : drop (length (inside text r g ins)) g.whole ≡ said text r cs
  pub room : length g.pieces + suc (length ins) + length cs + 1 < r.limit
  pub few : weigh text (suc (length r.outer)) (Plainly g.first ∷ ins) + weigh text (length r.outer) cs ≤ fuel
  pub count : g.at + suc (length ins) + length cs ≡ r.count

long_inside : (text : List ℕ) (r : Run) (g : Quoting text r) (ins : Inner text r) → length (inside text r g ins) ≡ suc (length ins)
long_inside text r g ins = length-map (Plainly g.first ∷ ins) (shown text (suc (length r.outer)))

-- the run of these lines
limit_in : (text : List ℕ) (r : Run) (fuel : ℕ) (g : Quoting text r) (ins : Inner text r) (cs : Lines text r) → Front text r fuel g ins cs → length g.pieces + suc (length ins) + 1 + 1 ≤ 2 ^ 64
limit_in text r fuel g ins cs o = let room : length g.pieces + suc (length ins) + length cs + 1 < r.limit = o.room in let fits : r.limit ≤ 2 ^ 64 = r.fits in omega (arith, room, fits)

abbrev run_in : (text : List ℕ) (r : Run) (g : Quoting text r) (ins : Inner text r) → length g.pieces + suc (length ins) + 1 + 1 ≤ 2 ^ 64 → Run
run_in text r g ins fits = inner_run r g.blocks g.pieces g.block (length (inside text r g ins)) (length g.pieces + suc (length ins) + 1 + 1) fits

inner_ends : (text : List ℕ) (r : Run) (fuel : ℕ) → All text fuel → (g : Quoting text r) (ins : Inner text r) (cs : Lines text r) (o : Front text r fuel g ins cs) → Ends text (run_in text r g ins (limit_in text r fuel g ins cs o)) (after text r g ins) none (found_in text r fuel g ins)
inner_ends text r fuel all g ins cs o =
    all (run_in text r g ins (limit_in text r fuel g ins cs o)) fuel (omega arith) 0 g.first ins g.inner (g.blocks ++ g.block ∷ []) g.pieces g.end g.number g.kept none
    (holds_none text (run_in text r g ins (limit_in text r fuel g ins cs o))) (omega arith)
    (let few : suc (length g.first.bytes) + weigh text (suc (length r.outer)) ins + weigh text (length r.outer) cs ≤ fuel = o.few in omega (arith, few))
    (omega (arith, long_inside text r g ins)) o.legit_in

-- when the quote ends, too
abbrev quote_shuts : (text : List ℕ) (r : Run) (g : Quoting text r) (ins : Inner text r) (fits : length g.pieces + suc (length ins) + 1 + 1 ≤ 2 ^ 64) (s : State) (x : Blocks) → length g.pieces + suc (length ins) + 1 < r.limit
    → (ds : List DefinitionView) → Shuts text (run_in text r g ins fits) s x ds → Shuts text r s (also g.found (more (Quote x) none)) ds
quote_shuts text r g ins fits s x room ds k =
    let l : Left r.outer (length g.blocks) k.now = quote_leaves r.outer (length g.blocks) k.now in
    record {
      now = l.now;
      blocks = ended k.blocks (length g.blocks) l.end;
      pieces = k.pieces;
      end = k.end;
      number = k.number;
      kept = k.kept;
      is = closes_quote text r.outer (length g.blocks) k.now k.blocks k.pieces k.end k.number k.kept ds s k.is k.deep;
      deep = let q : suc (length r.outer) ≤ length (leaf_closed text s).opened = k.deep in omega (arith, q);
      holds = holds_quote text r g.blocks g.pieces g.found g.block (length (inside text r g ins)) (length g.pieces + suc (length ins) + 1 + 1) fits k.blocks k.pieces x l.end g.holds g.depth g.kind k.holds;
      room = let q : length k.pieces + 1 < length g.pieces + suc (length ins) + 1 + 1 = k.room in omega (arith, q, room);
    }

and_true : (a b : Bool) → b ≡ true → a ≡ (a && b)
and_true true b e = sym e
and_true false b e = refl

and_false : (a b : Bool) → b ≡ false → (a && b) ≡ false
and_false true b e = e
and_false false b e = refl

-- the quote ends with the lines
quote_last : (text : List ℕ) (r : Run) (fuel : ℕ) → All text fuel → (g : Quoting text r) (ins : Inner text r) → Front text r fuel g ins [] → Ends text r (after text r g ins) g.found (from_there fuel g.at g.whole (quote_with (λ x. blocks_from fuel 0 x) g.at (inside text r g ins)))
quote_last text r fuel all g ins o =
    subst (λ (fs : List Found). Ends text r (after text r g ins) g.found (f ∷ fs)) (sym (ap (blocks_from fuel (g.at + length (inside text r g ins))) o.rest ∙ no_blocks fuel (g.at + length (inside text r g ins))))
    (record {
      all = e.all;
      long = let q : suc (length r.outer) ≤ length e.all = e.long in omega (arith, q);
      now = e.now;
      opened = e.opened;
      shuts = λ y.
          subst (λ ds. Shuts text r (with_open (after text r g ins) y) (also g.found (told (tree (f ∷ [])))) ds) (sym (append-nil (defined (tree (found_in text r fuel g ins)))))
          (quote_shuts text r g ins fits (with_open (after text r g ins) y) (told (tree (found_in text r fuel g ins))) (omega (arith, room)) (defined (tree (found_in text r fuel g ins))) (e.shuts y));
      opens = e.opens ∙ and_true f.is_open (f.last + 1 == r.count) (let long : length (inside text r g ins) ≡ suc (length ins) = long_inside text r g ins in grind (arith, long, count, nat_tests));
    })
  where
    fits : length g.pieces + suc (length ins) + 1 + 1 ≤ 2 ^ 64
    fits = limit_in text r fuel g ins [] o

    e : Ends text (run_in text r g ins fits) (after text r g ins) none (found_in text r fuel g ins)
    e = inner_ends text r fuel all g ins [] o

    room : length g.pieces + suc (length ins) + 0 + 1 < r.limit
    room = o.room

    count : g.at + suc (length ins) + 0 ≡ r.count
    count = o.count

    f : Found
    f = record { block = Quote (tree (found_in text r fuel g ins)); first = g.at; last = g.at + length (inside text r g ins) - 1; is_open = ends_open (length (inside text r g ins)) (found_in text r fuel g ins) }

-- a line that isn't lazy begins the same below a paragraph as where none is open
record Eager (place : Cursor) (u : Option HeadingLevel) (k : Beginning) : Type 0 where
  pub same : start_as place true false u k ≡ start_as place false false u k
  pub first : closes_first (start_as place false false u k) ≡ true

eager : (place : Cursor) (u : Option HeadingLevel) (fed : Bool) (k : Beginning) → is_leaf fed k ≡ true → may_be_lazy k ≡ false → Eager place u k
unfolding may_be_lazy interrupts
eager place u fed BlankLine e m = record { same = refl; first = refl }
eager place u fed CodeLine e m = absurd (true≢false m)
eager place u fed QuoteLine e m = absurd (true≢false (sym e))
eager place u fed (HeadingLine h) e m = record { same = refl; first = refl }
eager place u fed (FenceLine f) e m = record { same = refl; first = refl }
eager place u fed (HtmlLine html.Raw) e m = record { same = refl; first = refl }
eager place u fed (HtmlLine html.Comment) e m = record { same = refl; first = refl }
eager place u fed (HtmlLine html.Instruction) e m = record { same = refl; first = refl }
eager place u fed (HtmlLine html.Declaration) e m = record { same = refl; first = refl }
eager place u fed (HtmlLine html.CharacterData) e m = record { same = refl; first = refl }
eager place u fed (HtmlLine html.Named) e m = record { same = refl; first = refl }
eager place u fed (HtmlLine html.Alone) e m = absurd (true≢false m)
eager place u fed RuleLine e m = record { same = refl; first = refl }
eager place u fed (ItemLine i) e m = absurd (true≢false (sym e))
eager place u fed TextLine e m = absurd (true≢false m)
eager place u fed LazyLine e m = absurd (true≢false (sym e))

-- the quote ends before a line
quote_before : (text : List ℕ) (r : Run) (fuel : ℕ) → All text fuel → (g : Quoting text r) (ins : Inner text r) (v : In text r) (cs : Lines text r) → Front text r fuel g ins (Plainly v ∷ cs)
    → is_quote_kind (facts text (length r.outer) v).kind ≡ false → (may_be_lazy (facts text (length r.outer) v).kind ≡ false) ⊎ (is_paragraph (after text r g ins).leaf ≡ false)
    → Ends text r (fold (taken text (length r.outer)) (after text r g ins) (Plainly v ∷ cs)) g.found (from_there fuel g.at g.whole (quote_with (λ x. blocks_from fuel 0 x) g.at (inside text r g ins)))
unfolding is_paragraph
quote_before text r fuel all g ins v cs o no_quote reason =
    subst (λ (fs : List Found). Ends text r (fold (taken text (length r.outer)) s (Plainly v ∷ cs)) g.found (f ∷ fs)) (sym (ap (blocks_from fuel (g.at + length (inside text r g ins))) o.rest))
    (subst (λ (x : State). Ends text r x g.found (f ∷ blocks_from fuel (g.at + length (inside text r g ins)) (said text r (Plainly v ∷ cs)))) (sym (ap (λ x. fold (taken text (length r.outer)) x cs) same ∙ taken_after text (length r.outer) ds onward cs))
    (ends_block text r (fold (taken text (length r.outer)) onward cs) g.found f (Quote (told (tree (found_in text r fuel g ins)))) (blocks_from fuel (g.at + length (inside text r g ins)) (said text r (Plainly v ∷ cs))) ds (λ y. refl) refl
    (and_false f.is_open (f.last + 1 == r.count) (grind (arith, long, count, nat_tests)))
    (reads (legit_after text (length r.outer) ds onward cs (subst (λ (x : State). Legit text (length r.outer) x cs) same ((o.legit_out).1))))))
  where
    s : State
    s = after text r g ins

    fits : length g.pieces + suc (length ins) + 1 + 1 ≤ 2 ^ 64
    fits = limit_in text r fuel g ins (Plainly v ∷ cs) o

    e : Ends text (run_in text r g ins fits) s none (found_in text r fuel g ins)
    e = inner_ends text r fuel all g ins (Plainly v ∷ cs) o

    b : FactsOf text (length r.outer) v
    b = facts text (length r.outer) v

    long : length (inside text r g ins) ≡ suc (length ins)
    long = long_inside text r g ins

    room : length g.pieces + suc (length ins) + suc (length cs) + 1 < r.limit
    room = o.room

    few : suc (length g.first.bytes) + weigh text (suc (length r.outer)) ins + (suc (length v.bytes) + weigh text (length r.outer) cs) ≤ fuel
    few = o.few

    count : g.at + suc (length ins) + suc (length cs) ≡ r.count
    count = o.count

    f : Found
    f = record { block = Quote (tree (found_in text r fuel g ins)); first = g.at; last = g.at + length (inside text r g ins) - 1; is_open = ends_open (length (inside text r g ins)) (found_in text r fuel g ins) }

    u : Open e.all
    u = touch v.line (length r.outer) e.now

    below : length r.outer < length e.all
    below = let q : suc (length r.outer) ≤ length e.all = e.long in omega (arith, q)

    -- the definitions in the quote
    ds : List DefinitionView
    ds = defined (tree (found_in text r fuel g ins))

    k : Shuts text (run_in text r g ins fits) (with_open s u) (told (tree (found_in text r fuel g ins))) ds
    k = e.shuts u

    t : Shuts text r (with_open s u) (also g.found (more (Quote (told (tree (found_in text r fuel g ins)))) none)) ds
    t = quote_shuts text r g ins fits (with_open s u) (told (tree (found_in text r fuel g ins))) (omega (arith, room)) ds k

    -- nothing but the outer quotes is open
    page : State
    page = closed t.now t.blocks t.pieces t.end t.number t.kept

    -- the page with the line on it
    onward : State
    onward = begin text v.columns v.line (length r.outer) v.place page

    ends_same : closed_to text (length r.outer) (with_open s u) ≡ closed_to text (length r.outer) (after_these ds page)
    ends_same = t.is ∙ sym (closed_after text (length r.outer) ds page ∙ ap (after_these ds) (nothing_ends text r.outer t.now t.blocks t.pieces t.end t.number t.kept))

    begins_eager : may_be_lazy b.kind ≡ false → is_paragraph s.leaf ≡ true → begin text v.columns v.line (length r.outer) v.place (with_open s u) ≡ begin text v.columns v.line (length r.outer) v.place (after_these ds page)
    begins_eager m leaf =
        let h : Eager v.place b.level b.kind = eager v.place b.level (ends_with_feed text) b.kind (b.leaf no_quote) m in
        below_begins text (length r.outer) v b no_quote e.all u s below leaf
        ∙ ap (λ x. started x text v.columns v.line (tail_of v.columns) (here (length r.outer) v.place) (with_open s u)) h.same
        ∙ same_start text v.columns v.line (length r.outer) v.place (start_as v.place false false b.level b.kind) (with_open s u) (after_these ds page) h.first ends_same
        ∙ sym (plain_begins text (length r.outer) v b no_quote (after_these ds page) refl)

    begins_plain : is_paragraph s.leaf ≡ false → begin text v.columns v.line (length r.outer) v.place (with_open s u) ≡ begin text v.columns v.line (length r.outer) v.place (after_these ds page)
    begins_plain leaf = passes_begin text (length r.outer) v b (with_open s u) (after_these ds page) leaf refl ends_same

    begins : (k : Bool) → is_paragraph s.leaf ≡ k → (may_be_lazy b.kind ≡ false) ⊎ (is_paragraph s.leaf ≡ false) → begin text v.columns v.line (length r.outer) v.place (with_open s u) ≡ begin text v.columns v.line (length r.outer) v.place (after_these ds page)
    begins true leaf (inl m) = begins_eager m leaf
    begins true leaf (inr n) = absurd (true≢false (sym leaf ∙ n))
    begins false leaf w = begins_plain leaf

    same : line_taken text s v.line ≡ after_these ds onward
    same = ap (λ x. line_taken text x v.line) (sym e.opened) ∙ line_stops text (length r.outer) v b no_quote e.all e.now s below ∙ begins (is_paragraph s.leaf) refl reason
        ∙ leaf_started_after text v.columns v.line (here (length r.outer) v.place) ds page

    reads : Reads text r onward cs (also g.found (more (Quote (told (tree (found_in text r fuel g ins)))) none)) (blocks_from fuel (g.at + length (inside text r g ins)) (said text r (Plainly v ∷ cs)))
    reads = all r fuel (omega arith) (g.at + length (inside text r g ins)) v cs t.now t.blocks t.pieces t.end t.number t.kept (also g.found (more (Quote (told (tree (found_in text r fuel g ins)))) none)) t.holds
        (let q : length k.pieces + 1 < length g.pieces + suc (length ins) + 1 + 1 = k.room in omega (arith, q, room)) (omega (arith, few)) (omega (arith, long, count))

-- a line more in the quote

fold_snoc : {A S : Type 0} (f : S → A → S) (s : S) (xs : List A) (y : A) → fold f s (xs ++ y ∷ []) ≡ f (fold f s xs) y
fold_snoc f s [] y = refl
fold_snoc f s (x ∷ xs) y = fold_snoc f (f s x) xs y

legit_snoc : (text : List ℕ) (d : ℕ) (s : State) (xs : List (Coming text d)) (y : Coming text d) → Legit text d s xs → (is_lazy text d y ≡ true → is_paragraph (fold (taken text d) s xs).leaf ≡ true) → Legit text d s (xs ++ y ∷ [])
legit_snoc text d s [] y h k = (k, tt)
legit_snoc text d s (x ∷ xs) y h k = (h.0, legit_snoc text d (taken text d s x) xs y (h.1) k)

weigh_snoc : (text : List ℕ) (d : ℕ) (xs : List (Coming text d)) (y : Coming text d) → weigh text d (xs ++ y ∷ []) ≡ weigh text d xs + suc (length (bytes_in text d y))
weigh_snoc text d [] y = omega arith
weigh_snoc text d (x ∷ xs) y = let q : weigh text d (xs ++ y ∷ []) ≡ weigh text d xs + suc (length (bytes_in text d y)) = weigh_snoc text d xs y in omega (arith, q)

inside_snoc : (text : List ℕ) (r : Run) (g : Quoting text r) (ins : Inner text r) (y : Coming text (suc (length r.outer))) → inside text r g (ins ++ y ∷ []) ≡ inside text r g ins ++ shown text (suc (length r.outer)) y ∷ []
inside_snoc text r g ins y = map-append (shown text (suc (length r.outer))) (Plainly g.first ∷ ins) (y ∷ [])

front_more : (text : List ℕ) (r : Run) (fuel : ℕ) (g : Quoting text r) (ins : Inner text r) (c : Coming text (length r.outer)) (cs : Lines text r) (y : Coming text (suc (length r.outer))) → Front text r fuel g ins (c ∷ cs)
    → line_of text (suc (length r.outer)) y ≡ line_of text (length r.outer) c → length (bytes_in text (suc (length r.outer)) y) ≤ length (bytes_in text (length r.outer) c)
    → (is_lazy text (suc (length r.outer)) y ≡ true → is_paragraph (after text r g ins).leaf ≡ true)
    → Front text r fuel g (ins ++ y ∷ []) cs
front_more text r fuel g ins c cs y o line less lazy = record {
  legit_in = legit_snoc text d (quote_page text r g) ins y o.legit_in lazy;
  legit_out = subst (λ (s : State). Legit text (length r.outer) s cs) (sym (fold_snoc (taken text d) (quote_page text r g) ins y ∙ ap (line_taken text (after text r g ins)) line)) ((o.legit_out).1);
  rest = ap (λ n. drop n g.whole) (let one : length (inside text r g (ins ++ y ∷ [])) ≡ length (inside text r g ins ++ shown text d y ∷ []) = ap length (inside_snoc text r g ins y) in let two : length (inside text r g ins ++ shown text d y ∷ []) ≡ length (inside text r g ins) + 1 = length-append (inside text r g ins) (shown text d y ∷ []) in let q : length (inside text r g (ins ++ y ∷ [])) ≡ suc (length (inside text r g ins)) = omega (arith, one, two) in q)
      ∙ drop_next (length (inside text r g ins)) g.whole (shown text (length r.outer) c) (said text r cs) o.rest;
  room = let room : length g.pieces + suc (length ins) + suc (length cs) + 1 < r.limit = o.room in omega (arith, more_lines, room);
  few = let few : suc (length g.first.bytes) + weigh text d ins + weigh text (length r.outer) (c ∷ cs) ≤ fuel = o.few in omega (arith, weigh_snoc text d ins y, less, few);
  count = let count : g.at + suc (length ins) + suc (length cs) ≡ r.count = o.count in omega (arith, more_lines, count);
}
  where
    d : ℕ
    d = suc (length r.outer)

    more_lines : length (ins ++ y ∷ []) ≡ length ins + 1
    more_lines = length-append ins (y ∷ [])

-- the lines of the quote, one after the other

abbrev Done : (text : List ℕ) (r : Run) → ℕ → Quoting text r → State → List DeclaredLine → Type 0
Done text r fuel g s ds = Ends text r s g.found (from_there fuel g.at g.whole (quote_with (λ x. blocks_from fuel 0 x) g.at ds))

abbrev front_from : ℕ → List DeclaredLine → List DeclaredLine → List DeclaredLine
front_from fuel ds ls = front (in_quote (λ x. blocks_from fuel 0 x)) ds ls

-- a line that goes on in it
quote_more : (text : List ℕ) (r : Run) (fuel : ℕ) (g : Quoting text r) (ins : Inner text r) (c : Coming text (length r.outer)) (cs : Lines text r) (y : Coming text (suc (length r.outer)))
    → line_of text (suc (length r.outer)) y ≡ line_of text (length r.outer) c → in_quote (λ x. blocks_from fuel 0 x) (inside text r g ins) (shown text (length r.outer) c) ≡ Some (shown text (suc (length r.outer)) y)
    → Done text r fuel g (fold (taken text (length r.outer)) (after text r g (ins ++ y ∷ [])) cs) (front_from fuel (inside text r g (ins ++ y ∷ [])) (said text r cs))
    → Done text r fuel g (fold (taken text (length r.outer)) (after text r g ins) (c ∷ cs)) (front_from fuel (inside text r g ins) (said text r (c ∷ cs)))
quote_more text r fuel g ins c cs y line goes h =
    subst (λ (ds : List DeclaredLine). Done text r fuel g (fold (taken text (length r.outer)) (after text r g ins) (c ∷ cs)) ds)
    (ap (λ ds. front_from fuel ds (said text r cs)) (inside_snoc text r g ins y)
    ∙ sym (ap (goes_on (λ x. front_from fuel (inside text r g ins ++ x ∷ []) (said text r cs)) (inside text r g ins)) goes))
    (subst (λ (s : State). Done text r fuel g (fold (taken text (length r.outer)) s cs) (front_from fuel (inside text r g (ins ++ y ∷ [])) (said text r cs)))
    (fold_snoc (taken text (suc (length r.outer))) (quote_page text r g) ins y ∙ ap (line_taken text (after text r g ins)) line) h)

-- a line that doesn't
quote_stops : (text : List ℕ) (r : Run) (fuel : ℕ) (g : Quoting text r) (ins : Inner text r) (c : Coming text (length r.outer)) (cs : Lines text r) (s : State)
    → in_quote (λ x. blocks_from fuel 0 x) (inside text r g ins) (shown text (length r.outer) c) ≡ None
    → Done text r fuel g s (inside text r g ins) → Done text r fuel g s (front_from fuel (inside text r g ins) (said text r (c ∷ cs)))
quote_stops text r fuel g ins c cs s stops h =
    subst (λ (ds : List DeclaredLine). Done text r fuel g s ds) (sym (ap (goes_on (λ x. front_from fuel (inside text r g ins ++ x ∷ []) (said text r cs)) (inside text r g ins)) stops)) h

-- what a line without a marker is to the quote
lazily_as : (fuel : ℕ) (ds : List DeclaredLine) (l : DeclaredLine) (k : Beginning) → is_quote_kind k ≡ false → in_quote_as (λ x. blocks_from fuel 0 x) ds l k ≡ lazily (λ x. blocks_from fuel 0 x) ds (line_ink l) (may_be_lazy k)
lazily_as fuel ds l BlankLine e = refl
lazily_as fuel ds l CodeLine e = refl
lazily_as fuel ds l QuoteLine e = absurd (true≢false e)
lazily_as fuel ds l (HeadingLine h) e = refl
lazily_as fuel ds l (FenceLine f) e = refl
lazily_as fuel ds l (HtmlLine k) e = refl
lazily_as fuel ds l RuleLine e = refl
lazily_as fuel ds l (ItemLine m) e = refl
lazily_as fuel ds l TextLine e = refl
lazily_as fuel ds l LazyLine e = refl

quote_as : (fuel : ℕ) (ds : List DeclaredLine) (l : DeclaredLine) (k : Beginning) → is_quote_kind k ≡ true → in_quote_as (λ x. blocks_from fuel 0 x) ds l k ≡ Some (unquoted l)
quote_as fuel ds l BlankLine e = absurd (true≢false (sym e))
quote_as fuel ds l CodeLine e = absurd (true≢false (sym e))
quote_as fuel ds l QuoteLine e = refl
quote_as fuel ds l (HeadingLine h) e = absurd (true≢false (sym e))
quote_as fuel ds l (FenceLine f) e = absurd (true≢false (sym e))
quote_as fuel ds l (HtmlLine k) e = absurd (true≢false (sym e))
quote_as fuel ds l RuleLine e = absurd (true≢false (sym e))
quote_as fuel ds l (ItemLine m) e = absurd (true≢false (sym e))
quote_as fuel ds l TextLine e = absurd (true≢false (sym e))
quote_as fuel ds l LazyLine e = absurd (true≢false (sym e))

lazily_if : (fuel : ℕ) (ds : List DeclaredLine) (bytes : List ℕ) (k open_now : Bool) → k ≡ true → ends_open (length ds) (blocks_from fuel 0 ds) ≡ open_now → lazily (λ x. blocks_from fuel 0 x) ds bytes k ≡ (if open_now then Some (Lazy bytes) else None)
lazily_if fuel ds bytes true open_now q e = ap (λ o. if o then Some (Lazy bytes) else None) e
lazily_if fuel ds bytes false open_now q e = absurd (true≢false (sym q))

lazy_line : (fuel : ℕ) (ds : List DeclaredLine) (bytes : List ℕ) → in_quote (λ x. blocks_from fuel 0 x) ds (Lazy bytes) ≡ lazily (λ x. blocks_from fuel 0 x) ds bytes true
unfolding beginning may_be_lazy interrupts
lazy_line fuel ds bytes = refl

-- a line that is lazy further out is lazy in here
abbrev further_in : (text : List ℕ) (d : ℕ) → Fewer text d → Fewer text (suc d)
further_in text d z = record { depth = z.depth; seen = z.seen; low = (let q : z.depth < d = z.low in let k : z.depth < suc d = omega (arith, q) in k); no_quote = z.no_quote; lazy = z.lazy }

pub quote_goes : (text : List ℕ) (r : Run) (fuel : ℕ) → All text fuel → (g : Quoting text r) (ins : Inner text r) (cs : Lines text r) → Front text r fuel g ins cs
    → Done text r fuel g (fold (taken text (length r.outer)) (after text r g ins) cs) (front_from fuel (inside text r g ins) (said text r cs))
quote_goes text r fuel all g ins [] o = quote_last text r fuel all g ins o
quote_goes text r fuel all g ins (Lazily z ∷ cs) o =
    quote_more text r fuel g ins (Lazily z) cs y refl goes
    (quote_goes text r fuel all g (ins ++ y ∷ []) cs (front_more text r fuel g ins (Lazily z) cs y o refl (omega arith) (λ q. open_now)))
  where
    y : Coming text (suc (length r.outer))
    y = Lazily (further_in text (length r.outer) z)

    open_now : is_paragraph (after text r g ins).leaf ≡ true
    open_now = (o.legit_out).0 refl

    goes : in_quote (λ x. blocks_from fuel 0 x) (inside text r g ins) (shown text (length r.outer) (Lazily z)) ≡ Some (shown text (suc (length r.outer)) y)
    goes = lazy_line fuel (inside text r g ins) (line_ink (left_at z.seen.place z.seen.bytes))
        ∙ lazily_if fuel (inside text r g ins) (line_ink (left_at z.seen.place z.seen.bytes)) true true refl (sym (inner_ends text r fuel all g ins (Lazily z ∷ cs) o).opens ∙ open_now)
quote_goes text r fuel all g ins (Plainly v ∷ cs) o = by (is_quote_kind f.kind) refl (λ y q. quote_goes text r fuel all g (ins ++ y ∷ []) cs q)
  where
    f : FactsOf text (length r.outer) v
    f = facts text (length r.outer) v

    s : State
    s = after text r g ins

    l : DeclaredLine
    l = left_at v.place v.bytes

    ds : List DeclaredLine
    ds = inside text r g ins

    Result : Type 0
    Result = Done text r fuel g (fold (taken text (length r.outer)) s (Plainly v ∷ cs)) (front_from fuel ds (said text r (Plainly v ∷ cs)))

    Again : Type 0
    Again = (y : Coming text (suc (length r.outer))) → Front text r fuel g (ins ++ y ∷ []) cs → Done text r fuel g (fold (taken text (length r.outer)) (after text r g (ins ++ y ∷ [])) cs) (front_from fuel (inside text r g (ins ++ y ∷ [])) (said text r cs))

    marked : Next text (length r.outer) v → is_quote_kind f.kind ≡ true → Again → Result
    marked n e again =
        quote_more text r fuel g ins (Plainly v) cs (Plainly n.seen) n.line
        (ap (in_quote_as (λ x. blocks_from fuel 0 x) ds l) f.begins ∙ quote_as fuel ds l f.kind e ∙ ap (λ x. Some x) n.shown)
        (again (Plainly n.seen) (front_more text r fuel g ins (Plainly v) cs (Plainly n.seen) o n.line (let q : length n.seen.bytes < length v.bytes = n.fewer in omega (arith, q)) (λ q. absurd (true≢false (sym q)))))

    as_lazy : is_quote_kind f.kind ≡ false → (m : Bool) → may_be_lazy f.kind ≡ m → in_quote (λ x. blocks_from fuel 0 x) ds l ≡ lazily (λ x. blocks_from fuel 0 x) ds (line_ink l) m
    as_lazy e m q = ap (in_quote_as (λ x. blocks_from fuel 0 x) ds l) f.begins ∙ lazily_as fuel ds l f.kind e ∙ ap (lazily (λ x. blocks_from fuel 0 x) ds (line_ink l)) q

    ends : Ends text (run_in text r g ins (limit_in text r fuel g ins (Plainly v ∷ cs) o)) s none (found_in text r fuel g ins)
    ends = inner_ends text r fuel all g ins (Plainly v ∷ cs) o

    unmarked : is_quote_kind f.kind ≡ false → (m k : Bool) → may_be_lazy f.kind ≡ m → is_paragraph s.leaf ≡ k → Again → Result
    unmarked e false k m p again = quote_stops text r fuel g ins (Plainly v) cs (fold (taken text (length r.outer)) s (Plainly v ∷ cs)) (as_lazy e false m) (quote_before text r fuel all g ins v cs o e (inl m))
    unmarked e true false m p again =
        quote_stops text r fuel g ins (Plainly v) cs (fold (taken text (length r.outer)) s (Plainly v ∷ cs)) (as_lazy e true m ∙ lazily_if fuel ds (line_ink l) true false refl (sym ends.opens ∙ p))
        (quote_before text r fuel all g ins v cs o e (inr p))
    unmarked e true true m p again =
        quote_more text r fuel g ins (Plainly v) cs y refl (as_lazy e true m ∙ lazily_if fuel ds (line_ink l) true true refl (sym ends.opens ∙ p))
        (again y (front_more text r fuel g ins (Plainly v) cs y o refl (omega arith) (λ q. p)))
      where
        y : Coming text (suc (length r.outer))
        y = Lazily (record { depth = length r.outer; seen = v; low = (let k : length r.outer < suc (length r.outer) = omega arith in k); no_quote = e; lazy = m })

    by : (k : Bool) → is_quote_kind f.kind ≡ k → Again → Result
    by true e again = marked (next_seen text (length r.outer) v f e) e again
    by false e again = unmarked e (may_be_lazy f.kind) (is_paragraph s.leaf) refl refl again
