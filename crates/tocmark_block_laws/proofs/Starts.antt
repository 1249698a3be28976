-- What a line without tabs begins: the reader sees at its column what the declaration sees in its bytes.
use Rattle.std.proofs.Common.{◌≡◌, ◌⊎◌, inl, inr, ℕ, zero, suc, ◌+◌, ◌-◌, ◌^◌, ◌<◌, ◌≤◌, Bool, true, false, not, ◌==◌, ◌&&◌, ◌||◌, cond, if◌then◌else◌, nat_lt, nat_le, List, [], ◌∷◌, length, take, drop, reverse, refl, ap, sym, subst, ◌∙◌, arith, length-drop, true≢false}
use Rattle.std.specs.Prelude.{take_while, unwrap_or, Option, Some, None, is_some}
use Rattle.std.specs.List.{prefix_len}
use Rattle.std.specs.Char.{is_ascii_digit}
use Rattle.std.specs.Option.{option_map, option_and_then}
use Rattle.std.proofs.lemmas.Bool.Decides.{nat_tests}
use Rattle.std.proofs.lemmas.List.{take_all, drop-drop, length-map}
use Rattle.tocmark_event.specs.declared.event.HeadingLevel.{HeadingLevel}
use Rattle.tocmark_read_scan.specs.Basic.{plus, byte_at, bytes_between}
use Rattle.tocmark_read_scan.specs.declared.syntax.TheConstants.{CORE}
use Rattle.tocmark_read_scan.proofs.PlainTests.{both_false, eq_of, one_of_four}
use Rattle.tocmark_read_lines.specs.Cells.{ink_from, trimmed, count_of, indent_of, bytes_of, cells_at, cells_of, cell_byte, cell_place, run_of, trailing, first_cursor}
use Rattle.tocmark_read_lines.specs.Containers.{container_at, container_in, item_at, item_from}
use Rattle.tocmark_read_lines.specs.DefinitionLists.{definition_start}
use Rattle.tocmark_read_lines.specs.Footnotes.{note_start}
use Rattle.tocmark_read_lines.specs.Html.{html_kind}
use Rattle.tocmark_read_lines.specs.Marks.{level_of, is_behind, heading_at, is_fence_byte, fence_at, tail_of, is_rule_byte, is_rule, is_underline_byte, underline_at, digit_count, bullet_at, ordered_at, marker_at}
use Rattle.tocmark_read_lines.specs.declared.beginnings.Heading.{Heading}
use Rattle.tocmark_read_lines.specs.declared.beginnings.Fence.{Fence}
use Rattle.tocmark_read_lines.specs.declared.beginnings.Marker.{Marker}
use Rattle.tocmark_read_lines.specs.declared.html.HtmlKind.{HtmlKind}
use Rattle.tocmark_read_lines.specs.declared.cell.Cell.{Cell}
use Rattle.tocmark_read_lines.specs.declared.cell.Cursor.{Cursor}
use Rattle.tocmark_read_lines.specs.declared.container.ItemStart.{ItemStart}
use Rattle.tocmark_read_lines.specs.declared.container.ContainerStart.TheVariants as begins
use Rattle.tocmark_read_lines.specs.declared.line.Line.{Line}
use Rattle.tocmark_read_lines.proofs.Columns.{bytes_kept, length_kept, plain_cells, byte_asked, run_asked, digits_asked, trailing_asked}
use Rattle.tocmark_read_blocks.specs.Leaves.{leaf_at, mark_at, html_at, interrupting, underline_in, rule_at}
use Rattle.tocmark_read_blocks.specs.declared.leaf.LeafStart.{LeafStart}
use Rattle.tocmark_read_blocks.specs.declared.leaf.LeafStart.TheVariants as start
use Rattle.tocmark_commonmark.specs.Lines.{Line as DeclaredLine, Part, Written, is_blank_byte, is_blank, indent, line_ink, without_last_blanks, cells}
use Rattle.tocmark_commonmark.specs.Beginnings.{Beginning, BlankLine, CodeLine, QuoteLine, HeadingLine, FenceLine, HtmlLine, RuleLine, ItemLine, TextLine, LazyLine, html_if, first_of_these, near_beginning, beginning_of, beginning, heading_text}
use Rattle.tocmark_commonmark.specs.Leaves.{info, underlined, underline}
use Rattle.tocmark_block_laws.specs.Quotes.{IsPlain, ends_with_feed, is_leaf}
use Rattle.tocmark_read_blocks.specs.Codes.{info_of}
use Rattle.tocmark_read_page.specs.declared.page.BlockKind.TheVariants as block_kind
use Rattle.tocmark_block_laws.proofs.Columns.{length_on, ink_on, run_low, ink_low, Behind, byte_on, between_on, plus_low}
use Rattle.tocmark_block_laws.proofs.Marks.{trimmed_on, heading_later, heading_on, fence_indented, fence_on, underline_on, marker_on, back_stops, rule_on}
use Rattle.tocmark_block_laws.proofs.Fronts.{spaces_of, part_at, place_at, indent_same, blank_same, behind_at, between_further, between_in}
use Rattle.tocmark_block_laws.proofs.Open.{is_marked}
use Rattle.tocmark_block_laws.proofs.Codes.{Fed, CodeFacts}
use Rattle.tocmark_block_laws.proofs.Feeds.{has_feed}
use Rattle.tocmark_block_laws.proofs.Texts.{blanks_same, trimmed_high, trimmed_text, between_is, Trimmed, heading_text_trimmed, place_there, place_here}
use Rattle.tocmark_block_laws.proofs.TextLines.{no_tab, drop_plain}

-- what a line begins, to the reader: in a paragraph or not, directly in it or not, at this place

abbrev pub plain_start : Bool → Option HeadingLevel → LeafStart → LeafStart
plain_start true (Some level) other = start.Underline level
plain_start true None other = other
plain_start false u other = other

abbrev pub html_start : Option HtmlKind → LeafStart
html_start None = start.Text
html_start (Some k) = start.Html k

abbrev pub start_as : Cursor → Bool → Bool → Option HeadingLevel → Beginning → LeafStart
start_as place p w u BlankLine = start.Blank
start_as place p w u CodeLine = if p then start.Text else start.Indented (plus place.column 4)
start_as place p w u QuoteLine = start.Text
start_as place p w u (HeadingLine h) = start.Heading (heading_later place.ink h)
start_as place p w u (FenceLine f) = start.Fence f
start_as place p w u (HtmlLine k) = html_start (interrupting p k)
start_as place p w u RuleLine = plain_start w u start.Rule
start_as place p w u (ItemLine m) = start.Text
start_as place p w u TextLine = plain_start w u start.Text
start_as place p w u LazyLine = start.Text

-- a line that begins a leaf
abbrev pub IsLeafLine : Bool → DeclaredLine → Type 0
IsLeafLine fed l = is_leaf fed (beginning l) ≡ true

-- not the beginning of a container
abbrev pub is_flat : Beginning → Bool
is_flat QuoteLine = false
is_flat (ItemLine m) = false
is_flat LazyLine = false
is_flat b = true

abbrev pub is_blank_kind : Beginning → Bool
is_blank_kind BlankLine = true
is_blank_kind b = false

abbrev pub is_quote_kind : Beginning → Bool
is_quote_kind QuoteLine = true
is_quote_kind b = false

-- a line that may be an underline
abbrev pub may_underline : Beginning → Bool
may_underline RuleLine = true
may_underline TextLine = true
may_underline b = false

leaf_flat : (fed : Bool) (k : Beginning) → is_leaf fed k ≡ true → is_flat k ≡ true
leaf_flat fed BlankLine e = refl
leaf_flat fed CodeLine e = refl
leaf_flat fed QuoteLine e = absurd (true≢false (sym e))
leaf_flat fed (HeadingLine h) e = refl
leaf_flat fed (FenceLine f) e = refl
leaf_flat fed (HtmlLine k) e = refl
leaf_flat fed RuleLine e = refl
leaf_flat fed (ItemLine m) e = absurd (true≢false (sym e))
leaf_flat fed TextLine e = refl
leaf_flat fed LazyLine e = absurd (true≢false (sym e))

-- the text of a heading, if this is the ink of its line
pub record HeadingFacts (text : List ℕ) (l : Line) (columns : List Cell) (at : ℕ) (h : Heading) (ys : List ℕ) : Type 0 where
  pub says : bytes_between text (cell_place columns (at + h.from) l.end) (cell_place columns (at + h.to) l.end) ≡ heading_text h ys (cells ys)
  pub idle : without_last_blanks (heading_text h ys (cells ys)) ≡ heading_text h ys (cells ys)

-- the info string of a fence, if this is the ink of its line
pub record InfoFacts (text : List ℕ) (l : Line) (columns : List Cell) (place : Cursor) (f : Fence) (ys : List ℕ) : Type 0 where
  pub from : ℕ
  pub to : ℕ
  pub shape : info_of columns place f l ≡ block_kind.Fenced from to
  pub says : bytes_between text from to ≡ info f ys

-- what is left of a line at a place, as it is declared
abbrev pub left_at : Cursor → List ℕ → DeclaredLine
left_at place ys = Written (part_at place.column ys)

-- a line as both see it at a place, where this is left of it
pub record Facts (text : List ℕ) (l : Line) (columns : List Cell) (place : Cursor) (ys : List ℕ) : Type 0 where
  pub kind : Beginning
  pub level : Option HeadingLevel
  pub read : cells_of [] l.start (bytes_between text l.start l.end) ≡ columns
  pub marks : is_marked columns place ≡ is_quote_kind kind
  pub left : is_quote_kind kind ≡ true → nat_le (length columns) place.column ≡ false
  pub quoted : is_quote_kind kind ≡ true → (p : Bool) → container_in CORE columns (tail_of columns) place p ≡ Some begins.Quote
  pub opens : is_quote_kind kind ≡ false → (p : Bool) → container_in CORE columns (tail_of columns) place p ≡ None
  pub starts : is_quote_kind kind ≡ false → (p w : Bool) → leaf_at columns (bytes_between text (cell_place columns place.ink l.end) l.end) (tail_of columns) place p w ≡ start_as place p w level kind
  pub begins : beginning (left_at place ys) ≡ kind
  pub leaf : is_quote_kind kind ≡ false → is_leaf (ends_with_feed text) kind ≡ true
  pub marked : may_underline kind ≡ false → level ≡ None
  pub under : is_blank_kind kind ≡ false → (texts : List (List ℕ)) → underline texts (left_at place ys) ≡ underlined texts level
  pub ink : is_blank_kind kind ≡ false → bytes_between text (cell_place columns place.ink l.end) l.end ≡ line_ink (left_at place ys)
  pub some : is_blank_kind kind ≡ false → nat_lt (cell_place columns place.ink l.end) l.next ≡ true
  pub feedless : has_feed (line_ink (left_at place ys)) ≡ false
  pub plain : IsPlain text
  pub heads : (h : Heading) → kind ≡ HeadingLine h → HeadingFacts text l columns place.ink h (line_ink (left_at place ys))
  pub infos : (x : Fence) → kind ≡ FenceLine x → InfoFacts text l columns place x (line_ink (left_at place ys))
  pub code : CodeFacts text l columns place ys
  pub fed : ends_with_feed text ≡ true → Fed text l

-- a byte that a heading, a fence or HTML begins with begins nothing else

abbrev is_sign : ℕ → Bool
is_sign b = (b == 35) || (b == 96) || (b == 126) || (b == 60)

record NoMark (b : ℕ) : Type 0 where
  pub digit : is_ascii_digit b ≡ false
  pub bullet : ((b == 45) || (b == 43) || (b == 42)) ≡ false
  pub underline : is_underline_byte b ≡ false
  pub rule : is_rule_byte b ≡ false

sign_none : (b : ℕ) → is_sign b ≡ true → NoMark b
unfolding is_underline_byte is_rule_byte
sign_none b h = by (one_of_four (b == 35) (b == 96) (b == 126) (b == 60) h)
  where
    at : (c : ℕ) → (b == c) ≡ true → NoMark c → NoMark b
    at c e k = subst NoMark (sym (eq_of b c e)) k

    by : ((b == 35) ≡ true) ⊎ ((b == 96) ≡ true) ⊎ ((b == 126) ≡ true) ⊎ ((b == 60) ≡ true) → NoMark b
    by (inl e) = at 35 e (record { digit = refl; bullet = refl; underline = refl; rule = refl })
    by (inr (inl e)) = at 96 e (record { digit = refl; bullet = refl; underline = refl; rule = refl })
    by (inr (inr (inl e))) = at 126 e (record { digit = refl; bullet = refl; underline = refl; rule = refl })
    by (inr (inr (inr e))) = at 60 e (record { digit = refl; bullet = refl; underline = refl; rule = refl })

-- the marker of a quote is none of these either
quote_none : (b : ℕ) → (b == 62) ≡ true → NoMark b
unfolding is_underline_byte is_rule_byte
quote_none b e = subst NoMark (sym (eq_of b 62 e)) (record { digit = refl; bullet = refl; underline = refl; rule = refl })

-- columns whose first byte is this
pub record First (r : List Cell) (b : ℕ) : Type 0 where
  pub rest : List ℕ
  pub bytes : bytes_of r ≡ b ∷ rest

first_is : (r : List Cell) (b : ℕ) → First r b → cell_byte r 0 ≡ b
first_is r b f = byte_asked r 0 ∙ ap (λ xs. byte_at xs 0) f.bytes

no_digits : (r : List Cell) (b : ℕ) → First r b → is_ascii_digit b ≡ false → digit_count r 0 ≡ 0
no_digits r b f e = digits_asked r 0 ∙ ap (λ (xs : List ℕ). length (take_while is_ascii_digit xs)) f.bytes ∙ ap (λ k. length (take (cond k (1 + prefix_len is_ascii_digit f.rest) 0) (b ∷ f.rest))) e

no_run : (r : List Cell) (b c : ℕ) → First r b → (b == c) ≡ false → run_of r 0 c ≡ 0
no_run r b c f e = run_asked r 0 c ∙ ap (λ (xs : List ℕ). length (take_while (λ x. x == c) xs)) f.bytes ∙ ap (λ k. length (take (cond k (1 + prefix_len (λ x. x == c) f.rest) 0) (b ∷ f.rest))) e

no_bullet : (r : List Cell) (b : ℕ) → First r b → ((b == 45) || (b == 43) || (b == 42)) ≡ false → bullet_at r 0 ≡ None
unfolding bullet_at
no_bullet r b f e = rw (first_is r b f, e) refl

no_order : (r : List Cell) (b : ℕ) → First r b → is_ascii_digit b ≡ false → ordered_at r 0 ≡ None
unfolding ordered_at
no_order r b f e = rw (no_digits r b f e) refl

no_marker : (r : List Cell) (b : ℕ) → First r b → NoMark b → marker_at r 0 ≡ None
unfolding marker_at
no_marker r b f k = rw (no_bullet r b f k.bullet, no_order r b f k.digit) refl

no_underline : (r : List Cell) (b : ℕ) → First r b → NoMark b → underline_at r 0 ≡ None
unfolding underline_at
no_underline r b f k = rw (first_is r b f, k.underline) refl

no_rule : (r : List Cell) (b : ℕ) → First r b → NoMark b → is_rule r (tail_of r) 0 ≡ false
unfolding is_rule
no_rule r b f k = rw (first_is r b f, k.rule) refl

abbrev no_heading_if : Bool → Option Heading
no_heading_if k = if not k then None else None

no_either : (k : Bool) → no_heading_if k ≡ None
no_either true = refl
no_either false = refl

no_heading : (r : List Cell) (b : ℕ) → First r b → (b == 35) ≡ false → heading_at r 0 ≡ None
unfolding heading_at level_of
no_heading r b f e = rw (no_run r b 35 f e) (no_either (is_behind r 0))

no_fence : (r : List Cell) (b : ℕ) (here : Cursor) → First r b → here.ink ≡ 0 → is_fence_byte b ≡ false → fence_at r here ≡ None
unfolding fence_at
no_fence r b here f z e = rw (z, first_is r b f, e) refl

-- a heading, a fence or HTML begins
abbrev begins_sign : Option Heading → Option Fence → Option HtmlKind → Bool
begins_sign h f k = is_some h || is_some f || is_some k

none_signs : (a b c d : Bool) → (a || b || c || d) ≡ false → (a ≡ false) × ((b || c) ≡ false) × (d ≡ false)
none_signs true b c d h = absurd (true≢false h)
none_signs false true c d h = absurd (true≢false h)
none_signs false false true d h = absurd (true≢false h)
none_signs false false false true h = absurd (true≢false h)
none_signs false false false false h = (refl, refl, refl)

sign_begins : (r : List Cell) (b : ℕ) (bs : List ℕ) (here : Cursor) → First r b → here.ink ≡ 0 → begins_sign (heading_at r 0) (fence_at r here) (html_if (b == 60) bs) ≡ true → NoMark b
unfolding is_fence_byte
sign_begins r b bs here f z e = by (is_sign b) refl
  where
    by : (k : Bool) → is_sign b ≡ k → NoMark b
    by true q = sign_none b q
    by false q =
        let three = none_signs (b == 35) (b == 96) (b == 126) (b == 60) q in
        absurd (true≢false (sym e
        ∙ ap (λ o. is_some o || is_some (fence_at r here) || is_some (html_if (b == 60) bs)) (no_heading r b f (three.0))
        ∙ ap (λ o. is_some o || is_some (html_if (b == 60) bs)) (no_fence r b here f z (three.1))
        ∙ ap (λ k. is_some (html_if k bs)) (three.2)))

-- the reader's tests of what begins, after those of blank lines and of indentation

near_opens : (p : Part) (q : Bool) (h : Option Heading) (f : Option Fence) (k : Option HtmlKind) (r : Bool) (m : Option Marker) (item : Marker → Option ItemStart) → is_flat (first_of_these p q h f k r m) ≡ true → (begins_sign h f k ≡ true → m ≡ None)
    → (if q then Some begins.Quote else (if r then None else option_map (λ i. begins.Item i) (option_and_then item m))) ≡ None
near_opens p true h f k r m item e g = absurd (true≢false (sym e))
near_opens p false (Some x) f k true m item e g = refl
near_opens p false (Some x) f k false m item e g = ap (λ o. option_map (λ i. begins.Item i) (option_and_then item o)) (g refl)
near_opens p false None (Some f) k true m item e g = refl
near_opens p false None (Some f) k false m item e g = ap (λ o. option_map (λ i. begins.Item i) (option_and_then item o)) (g refl)
near_opens p false None None (Some k) true m item e g = refl
near_opens p false None None (Some k) false m item e g = ap (λ o. option_map (λ i. begins.Item i) (option_and_then item o)) (g refl)
near_opens p false None None None true m item e g = refl
near_opens p false None None None false (Some m) item e g = absurd (true≢false (sym e))
near_opens p false None None None false None item e g = refl

html_starts : (p r : Bool) (u : Option HeadingLevel) (o : Option HtmlKind) → (u ≡ None) × (r ≡ false)
    → unwrap_or (option_map (λ x. start.Html x) o) (unwrap_or (option_map (λ x. start.Underline x) (if p then u else None)) (if r then start.Rule else start.Text)) ≡ html_start o
html_starts p r u (Some k) g = refl
html_starts true r u None g = ap (λ x. unwrap_or (option_map (λ y. start.Underline y) x) (if r then start.Rule else start.Text)) (g.0) ∙ ap (λ k. if k then start.Rule else start.Text) (g.1)
html_starts false r u None g = ap (λ k. if k then start.Rule else start.Text) (g.1)

plain_starts : (p : Bool) (u : Option HeadingLevel) (other : LeafStart) → unwrap_or (option_map (λ x. start.Underline x) (if p then u else None)) other ≡ plain_start p u other
plain_starts true (Some l) other = refl
plain_starts true None other = refl
plain_starts false u other = refl

near_starts : (part : Part) (q : Bool) (h : Option Heading) (f : Option Fence) (k : Option HtmlKind) (r : Bool) (m : Option Marker) (place : Cursor) (p w : Bool) (u : Option HeadingLevel)
    → is_flat (first_of_these part q h f k r m) ≡ true → indent_of place ≡ indent part → (begins_sign h f k ≡ true → (u ≡ None) × (r ≡ false))
    → unwrap_or (option_map (λ x. start.Heading x) (option_map (heading_later place.ink) h))
    (unwrap_or (option_map (λ x. start.Fence x) (option_map (fence_indented (indent_of place)) f))
    (unwrap_or (option_map (λ x. start.Html x) (option_and_then (interrupting p) k))
    (unwrap_or (option_map (λ x. start.Underline x) (if w then u else None)) (if r then start.Rule else start.Text))))
    ≡ start_as place p w u (first_of_these part q h f k r m)
near_starts part true h f k r m place p w u e d g = absurd (true≢false (sym e))
near_starts part false (Some x) f k r m place p w u e d g = refl
near_starts part false None (Some f) k r m place p w u e d g = ap (λ n. start.Fence (fence_indented n f)) d
near_starts part false None None (Some k) r m place p w u e d g = html_starts w r u (interrupting p k) (g refl)
near_starts part false None None None true m place p w u e d g = plain_starts w u start.Rule
near_starts part false None None None false (Some m) place p w u e d g = absurd (true≢false (sym e))
near_starts part false None None None false None place p w u e d g = plain_starts w u start.Text

near_marked : (part : Part) (q : Bool) (h : Option Heading) (f : Option Fence) (k : Option HtmlKind) (r : Bool) (m : Option Marker) (u : Option HeadingLevel)
    → is_flat (first_of_these part q h f k r m) ≡ true → (begins_sign h f k ≡ true → u ≡ None) → may_underline (first_of_these part q h f k r m) ≡ false → u ≡ None
near_marked part true h f k r m u e g d = absurd (true≢false (sym e))
near_marked part false (Some x) f k r m u e g d = g refl
near_marked part false None (Some f) k r m u e g d = g refl
near_marked part false None None (Some k) r m u e g d = g refl
near_marked part false None None None true m u e g d = absurd (true≢false d)
near_marked part false None None None false (Some m) u e g d = absurd (true≢false (sym e))
near_marked part false None None None false None u e g d = absurd (true≢false d)

near_heading : (part : Part) (q : Bool) (h : Option Heading) (f : Option Fence) (k : Option HtmlKind) (r : Bool) (m : Option Marker) (x : Heading) → first_of_these part q h f k r m ≡ HeadingLine x → h ≡ Some x
near_heading part true h f k r m x e = absurd cc
near_heading part false (Some y) f k r m x e = let q : y ≡ x = cc in ap (λ z. Some z) q
near_heading part false None (Some f) k r m x e = absurd cc
near_heading part false None None (Some k) r m x e = absurd cc
near_heading part false None None None true m x e = absurd cc
near_heading part false None None None false (Some m) x e = absurd cc
near_heading part false None None None false None x e = absurd cc

near_fence : (part : Part) (q : Bool) (h : Option Heading) (f : Option Fence) (k : Option HtmlKind) (r : Bool) (m : Option Marker) (x : Fence) → first_of_these part q h f k r m ≡ FenceLine x → (y : Fence) × (f ≡ Some y) × (x.count ≡ y.count)
near_fence part true h f k r m x e = absurd cc
near_fence part false (Some y) f k r m x e = absurd cc
near_fence part false None (Some f) k r m x e = let q : record f { indent = indent part } ≡ x = cc in (f, refl, sym (ap (λ (z : Fence). z.count) q))
near_fence part false None None (Some k) r m x e = absurd cc
near_fence part false None None None true m x e = absurd cc
near_fence part false None None None false (Some m) x e = absurd cc
near_fence part false None None None false None x e = absurd cc

fence_if : (k : Bool) (x y : Fence) → (if k then Some x else None) ≡ Some y → y ≡ x
fence_if true x y e = let q : x ≡ y = cc in sym q
fence_if false x y e = absurd cc

fence_count : (r : List Cell) (here : Cursor) (y : Fence) → fence_at r here ≡ Some y → y.count ≡ run_of r here.ink (cell_byte r here.ink)
unfolding fence_at
fence_count r here y e =
    let b : ℕ = cell_byte r here.ink in
    let count : ℕ = run_of r here.ink b in
    let same : y ≡ record { byte = b; count = count; indent = indent_of here } =
    fence_if (is_fence_byte b && nat_le 3 count && not ((b == 96) && nat_lt 0 (count_of r (plus here.ink count) 96))) (record { byte = b; count = count; indent = indent_of here }) y e in
    ap (λ (z : Fence). z.count) same

html_same : (b : ℕ) (bs : List ℕ) → html_kind (b ∷ bs) ≡ html_if (b == 60) (b ∷ bs)
unfolding html_kind
html_same b bs = by (b == 60) refl
  where
    by : (k : Bool) → (b == 60) ≡ k → html_kind (b ∷ bs) ≡ html_if k (b ∷ bs)
    by true q = refl
    by false q = rw q refl

pub near_quote : (part : Part) (q : Bool) (h : Option Heading) (f : Option Fence) (k : Option HtmlKind) (r : Bool) (m : Option Marker) → is_quote_kind (first_of_these part q h f k r m) ≡ q
near_quote part true h f k r m = refl
near_quote part false (Some x) f k r m = refl
near_quote part false None (Some f) k r m = refl
near_quote part false None None (Some k) r m = refl
near_quote part false None None None true m = refl
near_quote part false None None None false (Some m) = refl
near_quote part false None None None false None = refl

-- what is known of each line

-- a line and a column of it
pub record At (text : List ℕ) (l : Line) (c : ℕ) (xs ys : List ℕ) : Type 0 where
  pub same : bytes_between text l.start l.end ≡ xs
  pub left : drop c xs ≡ ys
  pub inside : c ≤ length xs
  pub whole : IsPlain xs
  pub plain : IsPlain ys
  pub text_plain : IsPlain text
  pub order : l.start ≤ l.end
  pub within : l.end ≤ length text
  pub next : l.end ≤ l.next
  pub width : l.end ≡ l.start + length xs
  pub count : length xs ≡ c + length ys
  pub short : length xs + 3 < 2 ^ 64
  pub end_fits : l.end + 3 < 2 ^ 64
  pub code : CodeFacts text l (cells_at l.start [] xs) (place_at c ys) ys
  pub fed : ends_with_feed text ≡ true → Fed text l
  pub feedless : has_feed (line_ink (left_at (place_at c ys) ys)) ≡ false

-- a line that begins a leaf at a column
abbrev pub IsLeafAt : List ℕ → ℕ → List ℕ → Type 0
IsLeafAt text c ys = IsLeafLine (ends_with_feed text) (left_at (place_at c ys) ys)

-- a line without a tab that is blank

past_end : (xs : List ℕ) (k : ℕ) → length xs ≤ k → byte_at xs k ≡ 10
past_end [] k low = refl
past_end (x ∷ xs) zero low = absurd (omega (arith, low))
past_end (x ∷ xs) (suc k) low = past_end xs k (omega (arith, low))

pub blank_facts : (text : List ℕ) (l : Line) (c : ℕ) (xs ys : List ℕ) → At text l c xs ys → is_blank ys ≡ true → IsLeafAt text c ys → Facts text l (cells_at l.start [] xs) (place_at c ys) ys
unfolding container_in container_at definition_start note_start leaf_at beginning
blank_facts text l c xs ys i blank leaf =
    record {
      kind = BlankLine;
      level = None;
      read = ap (cells_of [] l.start) i.same ∙ plain_cells l.start xs (no_tab xs i.whole);
      marks = ap (λ b. nat_le (c + n - c) 3 && (b == 62)) at_end ∙ never (nat_le (c + n - c) 3);
      left = λ e. absurd (true≢false (sym e));
      quoted = λ e. absurd (true≢false (sym e));
      opens = λ e p. rw long refl;
      starts = λ e p w. rw long refl;
      begins = ap (λ k. beginning_of (part_at c ys) k (nat_le 4 (indent (part_at c ys)))) blank;
      leaf = λ e. refl;
      marked = λ e. refl;
      under = λ e. absurd (true≢false e);
      ink = λ e. absurd (true≢false e);
      some = λ e. absurd (true≢false e);
      feedless = i.feedless;
      plain = i.text_plain;
      heads = λ x e. absurd cc;
      infos = λ x e. absurd cc;
      code = i.code;
      fed = i.fed;
    }
  where
    n : ℕ
    n = spaces_of ys

    count : length xs ≡ c + length ys
    count = i.count

    ended : length ys ≤ n
    ended = let q : nat_le (length ys) n ≡ true = blank_same ys ∙ blank in grind (arith, q, nat_tests)

    long : nat_le (length (cells_at l.start [] xs)) (c + n) ≡ true
    long = ap (λ m. nat_le m (c + n)) (length_kept l.start [] xs) ∙ (let q : length xs ≤ c + n = omega (arith, ended, count) in grind (arith, q, nat_tests))

    at_end : cell_byte (cells_at l.start [] xs) (c + n) ≡ 10
    at_end = byte_asked (cells_at l.start [] xs) (c + n) ∙ ap (λ bs. byte_at bs (c + n)) (bytes_kept l.start [] xs) ∙ past_end xs (c + n) (omega (arith, ended, count))

    never : (k : Bool) → (k && (10 == 62)) ≡ false
    never true = refl
    never false = refl

-- a line with ink after its spaces
pub record Inked (text : List ℕ) (l : Line) (c : ℕ) (xs ys : List ℕ) (b : ℕ) (bs : List ℕ) : Type 0 where
  pub inked : drop (spaces_of ys) ys ≡ b ∷ bs
  pub no_space : (b == 32) ≡ false
  pub fewer : length ys ≡ spaces_of ys + suc (length bs)
  pub behind : Behind (c + spaces_of ys) (cells_at l.start [] xs) (cells (b ∷ bs))
  pub long : nat_le (length (cells_at l.start [] xs)) (c + spaces_of ys) ≡ false
  pub placed : cell_place (cells_at l.start [] xs) (c + spaces_of ys) l.end ≡ l.start + (c + spaces_of ys)
  pub before_next : nat_lt (l.start + (c + spaces_of ys)) l.next ≡ true
  pub rested : bytes_between text (cell_place (cells_at l.start [] xs) (c + spaces_of ys) l.end) l.end ≡ b ∷ bs
  pub rest_bytes : bytes_of (cells (b ∷ bs)) ≡ b ∷ bs
  pub rest_plain : IsPlain (b ∷ bs)

pub inked_line : (text : List ℕ) (l : Line) (c : ℕ) (xs ys : List ℕ) → At text l c xs ys → (b : ℕ) (bs : List ℕ) → drop (spaces_of ys) ys ≡ b ∷ bs → is_blank_byte b ≡ false → Inked text l c xs ys b bs
inked_line text l c xs ys i b bs inked first_byte =
    record {
      inked = inked;
      no_space = (both_false (b == 32) (b == 9) first_byte).0;
      fewer = fewer;
      behind = subst (λ (zs : List ℕ). Behind (c + n) whole (cells zs)) further (behind_at l.start xs (c + n) (omega (arith, fewer, count)) i.whole i.short);
      long = ap (λ k. nat_le k (c + n)) (length_kept l.start [] xs) ∙ (let q : c + n < length xs = omega (arith, fewer, count) in grind (arith, q, nat_tests));
      placed = placed;
      before_next = let less : l.start + (c + n) < l.next = omega (arith, fewer, count, width, next) in grind (arith, less, nat_tests);
      rested = rested;
      rest_bytes = ap bytes_of (plain_cells 0 (b ∷ bs) (no_tab (b ∷ bs) rest_plain)) ∙ bytes_kept 0 [] (b ∷ bs);
      rest_plain = rest_plain;
    }
  where
    n : ℕ
    n = spaces_of ys

    whole : List Cell
    whole = cells_at l.start [] xs

    in_text : l.end ≤ length text
    in_text = i.within

    next : l.end ≤ l.next
    next = i.next

    width : l.end ≡ l.start + length xs
    width = i.width

    count : length xs ≡ c + length ys
    count = i.count

    end_fits : l.end + 3 < 2 ^ 64
    end_fits = i.end_fits

    further : drop (c + n) xs ≡ b ∷ bs
    further = sym (drop-drop n c xs) ∙ ap (drop n) i.left ∙ inked

    fewer : length ys ≡ n + suc (length bs)
    fewer = let counted : length (drop n ys) ≡ length ys - n = length-drop n ys in let suc_long : length (drop n ys) ≡ suc (length bs) = ap length inked in omega (arith, counted, suc_long)

    placed : cell_place whole (c + n) l.end ≡ l.start + (c + n)
    placed = place_there l.start xs (c + n) l.end (omega (arith, fewer, count)) width end_fits

    rested : bytes_between text (cell_place whole (c + n) l.end) l.end ≡ b ∷ bs
    rested =
        ap (λ k. bytes_between text k l.end) placed
        ∙ between_further text l.start (c + n) l.end (omega (arith, fewer, count, width)) in_text
        ∙ ap (drop (c + n)) i.same ∙ further

    rest_plain : IsPlain (b ∷ bs)
    rest_plain = subst (λ (zs : List ℕ). IsPlain zs) inked (drop_plain n ys i.plain)

-- a part of the ink, in the text and by itself
ink_part : (text : List ℕ) (l : Line) (c : ℕ) (xs ys : List ℕ) (b : ℕ) (bs : List ℕ) → At text l c xs ys → Inked text l c xs ys b bs → (from to : ℕ) → from ≤ length (b ∷ bs) → to ≤ length (b ∷ bs)
    → bytes_between text (cell_place (cells_at l.start [] xs) (c + spaces_of ys + from) l.end) (cell_place (cells_at l.start [] xs) (c + spaces_of ys + to) l.end) ≡ bytes_between (b ∷ bs) from to
ink_part text l c xs ys b bs a i from to low high =
    ap (λ k. bytes_between text k (cell_place whole (n + to) l.end)) (place_there l.start xs (n + from) l.end (omega (arith, low, count, fewer)) width end_fits)
    ∙ ap (bytes_between text (l.start + (n + from))) (place_there l.start xs (n + to) l.end (omega (arith, high, count, fewer)) width end_fits)
    ∙ between_in text l.start l.end (n + from) (n + to) a.order a.within (omega (arith, high, count, fewer, width))
    ∙ ap (λ zs. bytes_between zs (n + from) (n + to)) (a.same ∙ sym (bytes_kept l.start [] xs))
    ∙ between_on n whole (cells (b ∷ bs)) from to i.behind
    ∙ ap (λ zs. bytes_between zs from to) i.rest_bytes
  where
    n : ℕ
    n = c + spaces_of ys

    whole : List Cell
    whole = cells_at l.start [] xs

    count : length xs ≡ c + length ys
    count = a.count

    fewer : length ys ≡ spaces_of ys + suc (length bs)
    fewer = i.fewer

    width : l.end ≡ l.start + length xs
    width = a.width

    end_fits : l.end + 3 < 2 ^ 64
    end_fits = a.end_fits

heading_facts : (text : List ℕ) (l : Line) (c : ℕ) (xs ys : List ℕ) (b : ℕ) (bs : List ℕ) → At text l c xs ys → Inked text l c xs ys b bs → (h : Heading) → heading_at (cells (b ∷ bs)) 0 ≡ Some h → HeadingFacts text l (cells_at l.start [] xs) (c + spaces_of ys) h (b ∷ bs)
heading_facts text l c xs ys b bs a i h e =
    record {
      says = ink_part text l c xs ys b bs a i h.from h.to low high ∙ sym is;
      idle = ap without_last_blanks (is ∙ sym read) ∙ t.idle ∙ read ∙ sym is;
    }
  where
    r : List Cell
    r = cells (b ∷ bs)

    count : length (bytes_of r) ≡ length (b ∷ bs)
    count = ap length i.rest_bytes

    t : Trimmed r h.from h.to
    t = heading_text_trimmed r h (subst (λ (zs : List ℕ). IsPlain zs) (sym i.rest_bytes) i.rest_plain) (sym (length-map r (λ (d : Cell). d.byte))) e

    low : h.from ≤ length (b ∷ bs)
    low = omega (arith, t.begins, count)

    high : h.to ≤ length (b ∷ bs)
    high = omega (arith, t.ends, count)

    read : bytes_between (bytes_of r) h.from h.to ≡ bytes_between (b ∷ bs) h.from h.to
    read = ap (λ zs. bytes_between zs h.from h.to) i.rest_bytes

    fits : length (b ∷ bs) + 3 < 2 ^ 64
    fits = let one : length xs ≡ c + length ys = a.count in let two : length ys ≡ spaces_of ys + suc (length bs) = i.fewer in let three : length xs + 3 < 2 ^ 64 = a.short in omega (arith, one, two, three)

    is : heading_text h (b ∷ bs) r ≡ bytes_between (b ∷ bs) h.from h.to
    is = ap (λ k. bytes_between (b ∷ bs) k (cell_place r h.to (length (b ∷ bs)))) (place_here (b ∷ bs) h.from i.rest_plain low fits)
        ∙ ap (bytes_between (b ∷ bs) h.from) (place_here (b ∷ bs) h.to i.rest_plain high fits)

info_facts : (text : List ℕ) (l : Line) (c : ℕ) (xs ys : List ℕ) (b : ℕ) (bs : List ℕ) → At text l c xs ys → Inked text l c xs ys b bs → (first_cursor (cells (b ∷ bs))).ink ≡ 0 → (x y : Fence) → fence_at (cells (b ∷ bs)) (first_cursor (cells (b ∷ bs))) ≡ Some y → x.count ≡ y.count
    → InfoFacts text l (cells_at l.start [] xs) (place_at c ys) x (b ∷ bs)
unfolding info_of
info_facts text l c xs ys b bs a i z x y e same =
    record {
      from = cell_place whole (n + from) l.end;
      to = cell_place whole (n + to) l.end;
      shape = ap (λ k. block_kind.Fenced (cell_place whole k l.end) (cell_place whole (trimmed whole k (length whole) 32) l.end)) first
          ∙ ap (λ k. block_kind.Fenced (cell_place whole (n + from) l.end) (cell_place whole k l.end)) second;
      says = ink_part text l c xs ys b bs a i from to low_from low_to
          ∙ sym (ap (λ ws. bytes_between ws from to) i.rest_bytes)
          ∙ ap (λ k. bytes_between (bytes_of r) from (trimmed r from k 32)) (sym long)
          ∙ trimmed_text r from (length (bytes_of r)) (subst (λ (ws : List ℕ). IsPlain ws) (sym i.rest_bytes) i.rest_plain) (omega (arith, low_from, long_bytes)) (omega arith)
          ∙ ap (λ ws. without_last_blanks (bytes_between ws from (length ws))) i.rest_bytes
          ∙ ap without_last_blanks (between_is zs from (length zs) low_from (omega arith) ∙ take_all (length zs - from) (drop from zs) (omega (arith, length-drop from zs)))
          ∙ ap without_last_blanks (ap (λ k. drop k zs) from_is ∙ sym (drop-drop (length (take_while is_blank_byte (drop x.count zs))) x.count zs));
    }
  where
    zs : List ℕ
    zs = b ∷ bs

    n : ℕ
    n = c + spaces_of ys

    whole : List Cell
    whole = cells_at l.start [] xs

    r : List Cell
    r = cells zs

    from : ℕ
    from = ink_from r x.count

    to : ℕ
    to = trimmed r from (length r) 32

    long : length (bytes_of r) ≡ length r
    long = length-map r (λ (d : Cell). d.byte)

    long_bytes : length (bytes_of r) ≡ length zs
    long_bytes = ap length i.rest_bytes

    low : x.count ≤ length r
    low =
        let count : y.count ≡ run_of r (first_cursor r).ink (cell_byte r (first_cursor r).ink) = fence_count r (first_cursor r) y e in
        let there : y.count ≡ run_of r 0 (cell_byte r 0) = count ∙ ap (λ k. run_of r k (cell_byte r k)) z in
        omega (arith, same, there, run_low r 0 (cell_byte r 0) (omega arith))

    fits : n + length r + 3 < 2 ^ 64
    fits = let h : Behind n whole r = i.behind in h.fits

    low_from : from ≤ length zs
    low_from = omega (arith, ink_low r x.count low, long, long_bytes)

    low_to : to ≤ length zs
    low_to = omega (arith, trimmed_high r from (length r) 32, long, long_bytes)

    first : ink_from whole (plus n x.count) ≡ n + from
    first = ap (ink_from whole) (plus_low n x.count (omega (arith, low, fits))) ∙ ink_on n whole r x.count i.behind low

    second : trimmed whole (n + from) (length whole) 32 ≡ n + to
    second = ap (λ k. trimmed whole (n + from) k 32) (length_on n whole r i.behind) ∙ trimmed_on n whole r from (length r) 32 i.behind

    run : run_of r x.count 32 ≡ length (take_while is_blank_byte (drop x.count zs))
    run = run_asked r x.count 32 ∙ ap (λ (ws : List ℕ). length (take_while (λ k. k == 32) (drop x.count ws))) i.rest_bytes ∙ blanks_same (drop x.count zs) (drop_plain x.count zs i.rest_plain)

    from_is : from ≡ x.count + length (take_while is_blank_byte (drop x.count zs))
    from_is = omega (arith, run, run_low r x.count 32 low, fits)

-- a line that isn't indented so far

-- what both see of its ink
pub record Near (c : ℕ) (xs ys : List ℕ) (start b : ℕ) (bs : List ℕ) : Type 0 where
  pub first : First (cells (b ∷ bs)) b
  pub ink_is : line_ink (left_at (place_at c ys) ys) ≡ b ∷ bs
  pub indented : c + spaces_of ys - c ≡ indent (part_at c ys)
  pub not_far : nat_le 4 (c + spaces_of ys - c) ≡ false
  pub narrow : nat_lt (c + spaces_of ys - c) 4 ≡ true
  pub quote : (cell_byte (cells_at start [] xs) (c + spaces_of ys) == 62) ≡ (b == 62)
  pub marks : is_marked (cells_at start [] xs) (place_at c ys) ≡ (b == 62)
  pub no_spaces : (first_cursor (cells (b ∷ bs))).ink ≡ 0
  pub begins : beginning (left_at (place_at c ys) ys) ≡ near_beginning (part_at c ys) (b ∷ bs) (cells (b ∷ bs))
  pub kind_quote : is_quote_kind (near_beginning (part_at c ys) (b ∷ bs) (cells (b ∷ bs))) ≡ (b == 62)
  pub under : (texts : List (List ℕ)) → underline texts (left_at (place_at c ys) ys) ≡ underlined texts (underline_at (cells (b ∷ bs)) 0)

pub near_line : (text : List ℕ) (l : Line) (c : ℕ) (xs ys : List ℕ) (b : ℕ) (bs : List ℕ) → At text l c xs ys → Inked text l c xs ys b bs → is_blank ys ≡ false → nat_le 4 (indent (part_at c ys)) ≡ false → Near c xs ys l.start b bs
unfolding beginning first_cursor
near_line text l c xs ys b bs a i blank near =
    record {
      first = record { rest = bs; bytes = i.rest_bytes };
      ink_is = i.inked;
      indented = back ∙ sym (indent_same c ys a.plain);
      not_far = not_far;
      narrow = grind (arith, not_far, nat_tests);
      quote = quote;
      marks = ap (λ k. k && (cell_byte whole (c + n) == 62)) (let q : nat_le (c + n - c) 3 ≡ true = grind (arith, not_far, nat_tests) in q) ∙ quote;
      no_spaces = ap (λ cs. plus 0 (run_of cs 0 32)) rest_cells ∙ rw i.no_space refl;
      begins = ap (λ k. beginning_of (part_at c ys) k (nat_le 4 (indent (part_at c ys)))) blank
          ∙ ap (λ k. beginning_of (part_at c ys) false k) near
          ∙ ap (λ zs. near_beginning (part_at c ys) zs (cells zs)) i.inked;
      kind_quote = near_quote (part_at c ys) (b == 62) (heading_at rest 0) (fence_at rest (first_cursor rest)) (html_if (b == 60) (b ∷ bs)) (is_rule rest (tail_of rest) 0) (marker_at rest 0);
      under = λ texts. ap (λ k. if k then None else underlined texts (underline_at (cells (drop n ys)) 0)) near
          ∙ ap (λ zs. underlined texts (underline_at (cells zs) 0)) i.inked;
    }
  where
    n : ℕ
    n = spaces_of ys

    whole : List Cell
    whole = cells_at l.start [] xs

    rest : List Cell
    rest = cells (b ∷ bs)

    back : c + n - c ≡ n
    back = omega arith

    not_far : nat_le 4 (c + n - c) ≡ false
    not_far = ap (nat_le 4) (back ∙ sym (indent_same c ys a.plain)) ∙ near

    rest_cells : cells (b ∷ bs) ≡ cells_at 0 [] (b ∷ bs)
    rest_cells = plain_cells 0 (b ∷ bs) (no_tab (b ∷ bs) i.rest_plain)

    quote : (cell_byte whole (c + n) == 62) ≡ (b == 62)
    quote = ap (λ k. cell_byte whole k == 62) (let q : c + n ≡ c + n + 0 = omega arith in q) ∙ ap (λ k. k == 62) (byte_on (c + n) whole (cells (b ∷ bs)) 0 i.behind) ∙ ap (λ cs. cell_byte cs 0 == 62) rest_cells

-- a line is a thematic break if its ink is
pub rule_near : (text : List ℕ) (l : Line) (c : ℕ) (xs ys : List ℕ) (b : ℕ) (bs : List ℕ) → Inked text l c xs ys b bs → is_rule (cells_at l.start [] xs) (tail_of (cells_at l.start [] xs)) (c + spaces_of ys) ≡ is_rule (cells (b ∷ bs)) (tail_of (cells (b ∷ bs))) 0
rule_near text l c xs ys b bs i = rule_on (c + spaces_of ys) (cells_at l.start [] xs) rest i.behind tail_short
  where
    rest : List Cell
    rest = cells (b ∷ bs)

    rest_cells : rest ≡ cells_at 0 [] (b ∷ bs)
    rest_cells = plain_cells 0 (b ∷ bs) (no_tab (b ∷ bs) i.rest_plain)

    tail_short : trailing rest 32 < length rest
    tail_short =
        let asked : trailing (cells_at 0 [] (b ∷ bs)) 32 ≡ length (take_while (λ x. x == 32) (reverse (b ∷ bs))) = trailing_asked (cells_at 0 [] (b ∷ bs)) 32 ∙ ap (λ (zs : List ℕ). length (take_while (λ x. x == 32) (reverse zs))) (bytes_kept 0 [] (b ∷ bs)) in
        let kept : length (cells_at 0 [] (b ∷ bs)) ≡ length (b ∷ bs) = length_kept 0 [] (b ∷ bs) in
        let stops : length (take_while (λ x. x == 32) (reverse (b ∷ bs))) < length (b ∷ bs) = back_stops (λ x. x == 32) b bs i.no_space in
        let one : trailing rest 32 ≡ trailing (cells_at 0 [] (b ∷ bs)) 32 = ap (λ cs. trailing cs 32) rest_cells in
        let two : length rest ≡ length (cells_at 0 [] (b ∷ bs)) = ap length rest_cells in
        omega (arith, asked, kept, stops, one, two)

pub near_facts : (text : List ℕ) (l : Line) (c : ℕ) (xs ys : List ℕ) (b : ℕ) (bs : List ℕ) → At text l c xs ys → Inked text l c xs ys b bs → Near c xs ys l.start b bs → (b == 62) ≡ false → IsLeafAt text c ys → Facts text l (cells_at l.start [] xs) (place_at c ys) ys
unfolding container_in container_at item_at definition_start note_start leaf_at mark_at html_at underline_in rule_at
near_facts text l c xs ys b bs a i k no_quote leaf =
    record {
      kind = near_beginning (part_at c ys) (b ∷ bs) rest;
      level = underline_at rest 0;
      read = ap (cells_of [] l.start) a.same ∙ plain_cells l.start xs (no_tab xs a.whole);
      marks = k.marks ∙ sym k.kind_quote;
      left = λ e. absurd (true≢false (sym e ∙ k.kind_quote ∙ no_quote));
      quoted = λ e. absurd (true≢false (sym e ∙ k.kind_quote ∙ no_quote));
      opens = λ e p. rw (i.long, k.not_far, k.quote, rule_same, marker_on n whole rest i.behind)
          (near_opens (part_at c ys) (b == 62) (heading_at rest 0) (fence_at rest (first_cursor rest)) (html_if (b == 60) (b ∷ bs)) (is_rule rest (tail_of rest) 0) (marker_at rest 0) (item_from whole (place_at c ys) p) flat
          (λ e. no_marker rest b k.first (signs e)));
      starts = λ e p w. rw (i.long, k.narrow, heading_on n whole rest i.behind, fence_on n whole rest (place_at c ys) (first_cursor rest) i.behind refl k.no_spaces, i.rested, html_same b bs, underline_on n whole rest i.behind, rule_same)
          (near_starts (part_at c ys) (b == 62) (heading_at rest 0) (fence_at rest (first_cursor rest)) (html_if (b == 60) (b ∷ bs)) (is_rule rest (tail_of rest) 0) (marker_at rest 0) (place_at c ys) p w (underline_at rest 0) flat k.indented
          (λ e. (no_underline rest b k.first (signs e), no_rule rest b k.first (signs e))));
      begins = k.begins;
      leaf = λ e. is_leaf_kind;
      marked = near_marked (part_at c ys) (b == 62) (heading_at rest 0) (fence_at rest (first_cursor rest)) (html_if (b == 60) (b ∷ bs)) (is_rule rest (tail_of rest) 0) (marker_at rest 0) (underline_at rest 0) flat
          (λ e. no_underline rest b k.first (signs e));
      under = λ e texts. k.under texts;
      ink = λ e. i.rested ∙ sym k.ink_is;
      some = λ e. ap (λ m. nat_lt m l.next) i.placed ∙ i.before_next;
      feedless = a.feedless;
      plain = a.text_plain;
      heads = λ x e. subst (λ (zs : List ℕ). HeadingFacts text l whole n x zs) (sym k.ink_is) (heading_facts text l c xs ys b bs a i x
          (near_heading (part_at c ys) (b == 62) (heading_at rest 0) (fence_at rest (first_cursor rest)) (html_if (b == 60) (b ∷ bs)) (is_rule rest (tail_of rest) 0) (marker_at rest 0) x e));
      infos = λ x e. subst (λ (zs : List ℕ). InfoFacts text l whole (place_at c ys) x zs) (sym k.ink_is) (info_from x
          (near_fence (part_at c ys) (b == 62) (heading_at rest 0) (fence_at rest (first_cursor rest)) (html_if (b == 60) (b ∷ bs)) (is_rule rest (tail_of rest) 0) (marker_at rest 0) x e));
      code = a.code;
      fed = a.fed;
    }
  where
    n : ℕ
    n = c + spaces_of ys

    whole : List Cell
    whole = cells_at l.start [] xs

    rest : List Cell
    rest = cells (b ∷ bs)

    is_leaf_kind : is_leaf (ends_with_feed text) (near_beginning (part_at c ys) (b ∷ bs) rest) ≡ true
    is_leaf_kind = ap (is_leaf (ends_with_feed text)) (sym k.begins) ∙ leaf

    flat : is_flat (near_beginning (part_at c ys) (b ∷ bs) rest) ≡ true
    flat = leaf_flat (ends_with_feed text) (near_beginning (part_at c ys) (b ∷ bs) rest) is_leaf_kind

    info_from : (x : Fence) → (y : Fence) × (fence_at rest (first_cursor rest) ≡ Some y) × (x.count ≡ y.count) → InfoFacts text l whole (place_at c ys) x (b ∷ bs)
    info_from x (y, found, same) = info_facts text l c xs ys b bs a i k.no_spaces x y found same

    signs : begins_sign (heading_at rest 0) (fence_at rest (first_cursor rest)) (html_if (b == 60) (b ∷ bs)) ≡ true → NoMark b
    signs e = sign_begins rest b (b ∷ bs) (first_cursor rest) k.first k.no_spaces e

    rule_same : is_rule whole (tail_of whole) n ≡ is_rule rest (tail_of rest) 0
    rule_same = rule_near text l c xs ys b bs i

-- a line with a block quote marker

pub quote_facts : (text : List ℕ) (l : Line) (c : ℕ) (xs ys : List ℕ) (b : ℕ) (bs : List ℕ) → At text l c xs ys → Inked text l c xs ys b bs → Near c xs ys l.start b bs → (b == 62) ≡ true → Facts text l (cells_at l.start [] xs) (place_at c ys) ys
unfolding container_in container_at definition_start note_start
quote_facts text l c xs ys b bs a i k is =
    record {
      kind = QuoteLine;
      level = None;
      read = ap (cells_of [] l.start) a.same ∙ plain_cells l.start xs (no_tab xs a.whole);
      marks = k.marks ∙ is;
      left = λ e. ap (λ m. nat_le m c) (length_kept l.start [] xs) ∙ (let q : c < length xs = omega (arith, count, fewer) in grind (arith, q, nat_tests));
      quoted = λ e p. rw (i.long, k.not_far, k.quote, is) refl;
      opens = λ e. absurd (true≢false e);
      starts = λ e. absurd (true≢false e);
      begins = k.begins ∙ ap (λ q. first_of_these (part_at c ys) q (heading_at rest 0) (fence_at rest (first_cursor rest)) (html_if (b == 60) (b ∷ bs)) (is_rule rest (tail_of rest) 0) (marker_at rest 0)) is;
      leaf = λ e. absurd (true≢false e);
      marked = λ e. refl;
      under = λ e texts. k.under texts ∙ ap (underlined texts) (no_underline rest b k.first (quote_none b is));
      ink = λ e. i.rested ∙ sym k.ink_is;
      some = λ e. ap (λ m. nat_lt m l.next) i.placed ∙ i.before_next;
      feedless = a.feedless;
      plain = a.text_plain;
      heads = λ x e. absurd cc;
      infos = λ x e. absurd cc;
      code = a.code;
      fed = a.fed;
    }
  where
    rest : List Cell
    rest = cells (b ∷ bs)

    count : length xs ≡ c + length ys
    count = a.count

    fewer : length ys ≡ spaces_of ys + suc (length bs)
    fewer = i.fewer

-- a line that is indented by four columns or more

pub far_facts : (text : List ℕ) (l : Line) (c : ℕ) (xs ys : List ℕ) (b : ℕ) (bs : List ℕ) → At text l c xs ys → Inked text l c xs ys b bs → is_blank ys ≡ false → nat_le 4 (indent (part_at c ys)) ≡ true → IsLeafAt text c ys → Facts text l (cells_at l.start [] xs) (place_at c ys) ys
unfolding container_in container_at definition_start note_start leaf_at beginning
far_facts text l c xs ys b bs a i blank far leaf =
    record {
      kind = CodeLine;
      level = None;
      read = ap (cells_of [] l.start) a.same ∙ plain_cells l.start xs (no_tab xs a.whole);
      marks = ap (λ k. k && (cell_byte whole (c + n) == 62)) (let q : nat_le (c + n - c) 3 ≡ false = grind (arith, deep, nat_tests) in q);
      left = λ e. absurd (true≢false (sym e));
      quoted = λ e. absurd (true≢false (sym e));
      opens = λ e p. rw (i.long, deep) refl;
      starts = λ e p w. rw (i.long, wide) refl;
      begins = begins_so;
      leaf = λ e. ap (is_leaf (ends_with_feed text)) (sym begins_so) ∙ leaf;
      marked = λ e. refl;
      under = λ e texts. ap (λ k. if k then None else underlined texts (underline_at (cells (drop n ys)) 0)) far;
      ink = λ e. i.rested ∙ sym i.inked;
      some = λ e. ap (λ k. nat_lt k l.next) i.placed ∙ i.before_next;
      feedless = a.feedless;
      plain = a.text_plain;
      heads = λ x e. absurd cc;
      infos = λ x e. absurd cc;
      code = a.code;
      fed = a.fed;
    }
  where
    n : ℕ
    n = spaces_of ys

    whole : List Cell
    whole = cells_at l.start [] xs

    begins_so : beginning (left_at (place_at c ys) ys) ≡ CodeLine
    begins_so = ap (λ k. beginning_of (part_at c ys) k (nat_le 4 (indent (part_at c ys)))) blank ∙ ap (λ k. beginning_of (part_at c ys) false k) far

    deep : nat_le 4 (c + n - c) ≡ true
    deep = ap (nat_le 4) ((let q : c + n - c ≡ n = omega arith in q) ∙ sym (indent_same c ys a.plain)) ∙ far

    wide : nat_lt (c + n - c) 4 ≡ false
    wide = grind (arith, deep, nat_tests)
