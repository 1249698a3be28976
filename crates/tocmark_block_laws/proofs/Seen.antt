-- A line after so many block quote markers: what both see of it, and what is left after one more.
use Rattle.std.proofs.Common.{◌≡◌, ℕ, zero, suc, ◌+◌, ◌-◌, ◌^◌, ◌<◌, ◌≤◌, Bool, true, false, ◌==◌, if◌then◌else◌, nat_le, List, [], ◌∷◌, length, drop, refl, ap, sym, subst, ◌∙◌, arith, length-drop, true≢false}
use Rattle.std.specs.Prelude.{take_while}
use Rattle.std.proofs.lemmas.Bool.Decides.{nat_tests}
use Rattle.std.proofs.lemmas.List.{drop-drop}
use Rattle.tocmark_read_scan.specs.Basic.{plus, byte_at, bytes_between}
use Rattle.tocmark_read_lines.specs.Cells.{cells_at, cell_byte, ink_from, moved, first_cursor}
use Rattle.tocmark_read_lines.specs.Containers.{after_quote}
use Rattle.tocmark_read_lines.specs.declared.cell.Cell.{Cell}
use Rattle.tocmark_read_lines.specs.declared.cell.Cursor.{Cursor}
use Rattle.tocmark_read_lines.specs.declared.line.Line.{Line}
use Rattle.tocmark_read_lines.proofs.Columns.{bytes_kept, byte_asked, run_asked}
use Rattle.tocmark_commonmark.specs.Lines.{Line as DeclaredLine, Part, Written, is_blank_byte, is_blank, indent, after_ink, without_byte}
use Rattle.tocmark_commonmark.specs.Beginnings.{Beginning, BlankLine, CodeLine, QuoteLine, HeadingLine, FenceLine, HtmlLine, RuleLine, ItemLine, TextLine, LazyLine, beginning, beginning_of}
use Rattle.tocmark_commonmark.specs.Containers.{unquoted}
use Rattle.tocmark_block_laws.specs.Quotes.{IsPlain, ends_with_feed, content_after, content_in}
use Rattle.tocmark_block_laws.proofs.Open.{Reaches, reaches_more}
use Rattle.tocmark_block_laws.proofs.TextLines.{Plain, plain_head, Sound, drop_plain, between_plain}
use Rattle.tocmark_block_laws.proofs.Feeds.{has_feed, feed_drop}
use Rattle.tocmark_block_laws.proofs.Texts.{blanks_same, between_length}
use Rattle.tocmark_block_laws.proofs.Fronts.{spaces_of, part_at, place_at, ink_at, spaces_low, drop_byte, ink_first}
use Rattle.tocmark_block_laws.proofs.Codes.{Fed, code_facts}
use Rattle.tocmark_block_laws.proofs.Starts.{IsLeafLine, is_quote_kind, left_at, Facts, At, IsLeafAt, Inked, inked_line, Near, near_line, blank_facts, near_facts, quote_facts, far_facts}

-- a line of a text, after so many block quote markers
pub record Seen (text : List ℕ) (d : ℕ) : Type 0 where
  pub line : Line
  pub columns : List Cell
  pub place : Cursor
  pub bytes : List ℕ
  pub fuel : ℕ
  pub columns_are : columns ≡ cells_at line.start [] (bytes_between text line.start line.end)
  pub bytes_are : bytes ≡ drop place.column (bytes_between text line.start line.end)
  pub place_is : place ≡ place_at place.column bytes
  pub inside : place.column ≤ length (bytes_between text line.start line.end)
  pub deep : d ≤ place.column
  pub reaches : Reaches columns d (first_cursor columns) place
  pub plain : IsPlain text
  pub fits : length text + 3 < 2 ^ 64
  pub sound : Sound text line
  pub feedless : has_feed (bytes_between text line.start line.end) ≡ false
  pub fed : ends_with_feed text ≡ true → Fed text line
  pub enough : length bytes ≤ fuel
  pub leaf : IsLeafLine (ends_with_feed text) (content_in fuel (left_at place bytes))

pub at_line : (text : List ℕ) (l : Line) (c : ℕ) → IsPlain text → length text + 3 < 2 ^ 64 → Sound text l → has_feed (bytes_between text l.start l.end) ≡ false → (ends_with_feed text ≡ true → Fed text l) → c ≤ length (bytes_between text l.start l.end)
    → At text l c (bytes_between text l.start l.end) (drop c (bytes_between text l.start l.end))
at_line text l c plain fits sound feedless fed inside =
    record {
      same = refl;
      left = refl;
      inside = inside;
      whole = between_plain text l.start l.end plain;
      plain = drop_plain c xs (between_plain text l.start l.end plain);
      text_plain = plain;
      order = sound.order;
      within = sound.within;
      next = sound.next;
      width = omega (arith, wide, ordered);
      count = omega (arith, length-drop c xs, inside);
      short = omega (arith, wide, in_text, fits);
      end_fits = omega (arith, in_text, fits);
      code = code_facts text l c (between_plain text l.start l.end plain) fits sound inside;
      fed = fed;
      feedless = feed_drop (spaces_of (drop c xs)) (drop c xs) (feed_drop c xs feedless);
    }
  where
    xs : List ℕ
    xs = bytes_between text l.start l.end

    ordered : l.start ≤ l.end
    ordered = sound.order

    in_text : l.end ≤ length text
    in_text = sound.within

    wide : length xs ≡ l.end - l.start
    wide = between_length text l.start l.end ordered in_text

-- what both see of a line at a column
pub facts_at : (text : List ℕ) (l : Line) (c : ℕ) (xs ys : List ℕ) → At text l c xs ys → (is_quote_kind (beginning (left_at (place_at c ys) ys)) ≡ false → IsLeafAt text c ys) → Facts text l (cells_at l.start [] xs) (place_at c ys) ys
unfolding beginning
facts_at text l c xs ys a leaf = by (is_blank ys) (nat_le 4 (indent (part_at c ys))) refl refl
  where
    kind_so : (k far : Bool) → is_blank ys ≡ k → nat_le 4 (indent (part_at c ys)) ≡ far → beginning (left_at (place_at c ys) ys) ≡ beginning_of (part_at c ys) k far
    kind_so k far d e = ap (λ m. beginning_of (part_at c ys) m (nat_le 4 (indent (part_at c ys)))) d ∙ ap (beginning_of (part_at c ys) k) e

    Ink : Type 0
    Ink = (b : ℕ) × (bs : List ℕ) × (drop (spaces_of ys) ys ≡ b ∷ bs) × (is_blank_byte b ≡ false)

    far_from : is_blank ys ≡ false → nat_le 4 (indent (part_at c ys)) ≡ true → Ink → Facts text l (cells_at l.start [] xs) (place_at c ys) ys
    far_from d e (b, bs, inked, no_blank) = far_facts text l c xs ys b bs a (inked_line text l c xs ys a b bs inked no_blank) d e (leaf (ap is_quote_kind (kind_so false true d e)))

    marked : (b : ℕ) (bs : List ℕ) (i : Inked text l c xs ys b bs) (n : Near c xs ys l.start b bs) (k : Bool) → (b == 62) ≡ k → Facts text l (cells_at l.start [] xs) (place_at c ys) ys
    marked b bs i n true e = quote_facts text l c xs ys b bs a i n e
    marked b bs i n false e = near_facts text l c xs ys b bs a i n e (leaf (ap is_quote_kind n.begins ∙ n.kind_quote ∙ e))

    near_from : is_blank ys ≡ false → nat_le 4 (indent (part_at c ys)) ≡ false → Ink → Facts text l (cells_at l.start [] xs) (place_at c ys) ys
    near_from d e (b, bs, inked, no_blank) =
        let i : Inked text l c xs ys b bs = inked_line text l c xs ys a b bs inked no_blank in
        marked b bs i (near_line text l c xs ys b bs a i d e) (b == 62) refl

    by : (k far : Bool) → is_blank ys ≡ k → nat_le 4 (indent (part_at c ys)) ≡ far → Facts text l (cells_at l.start [] xs) (place_at c ys) ys
    by true far d e = blank_facts text l c xs ys a d (leaf (ap is_quote_kind (kind_so true far d e)))
    by false true d e = far_from d e (ink_first ys d)
    by false false d e = near_from d e (ink_first ys d)

-- a line that has no marker is its own content
content_is : (fuel : ℕ) (x : DeclaredLine) → is_quote_kind (beginning x) ≡ false → content_in fuel x ≡ x
content_is zero x e = refl
content_is (suc n) x e = by (beginning x) e
  where
    by : (k : Beginning) → is_quote_kind k ≡ false → content_after (λ y. content_in n y) x k ≡ x
    by BlankLine d = refl
    by CodeLine d = refl
    by QuoteLine d = absurd (true≢false d)
    by (HeadingLine h) d = refl
    by (FenceLine f) d = refl
    by (HtmlLine k) d = refl
    by RuleLine d = refl
    by (ItemLine m) d = refl
    by TextLine d = refl
    by LazyLine d = refl

-- what both see of a line
abbrev pub FactsOf : (text : List ℕ) (d : ℕ) → Seen text d → Type 0
FactsOf text d v = Facts text v.line v.columns v.place v.bytes

pub facts : (text : List ℕ) (d : ℕ) (v : Seen text d) → FactsOf text d v
facts text d v =
    subst (λ cs. Facts text v.line cs v.place v.bytes) (sym v.columns_are)
    (subst (λ p. Facts text v.line (cells_at v.line.start [] xs) p v.bytes) (sym v.place_is)
    (subst (λ zs. Facts text v.line (cells_at v.line.start [] xs) (place_at v.place.column zs) zs) (sym v.bytes_are)
    (facts_at text v.line v.place.column xs ys (at_line text v.line v.place.column v.plain v.fits v.sound v.feedless v.fed v.inside)
    (λ e. subst (λ x. IsLeafLine (ends_with_feed text) x) (content_is v.fuel (left_at (place_at v.place.column ys) ys) e)
    (subst (λ zs. IsLeafLine (ends_with_feed text) (content_in v.fuel (left_at v.place zs))) v.bytes_are v.leaf)))))
  where
    xs : List ℕ
    xs = bytes_between text v.line.start v.line.end

    ys : List ℕ
    ys = drop v.place.column xs

-- the place after a block quote marker

pub moved_place : (start : ℕ) (xs : List ℕ) (from : Cursor) (k : ℕ) → from.ink < k → k ≤ length xs → IsPlain xs → length xs + 3 < 2 ^ 64 → moved (cells_at start [] xs) from k ≡ place_at k (drop k xs)
unfolding moved
moved_place start xs from k further low plain fits =
    let past : nat_le k from.ink ≡ false = grind (arith, further, nat_tests) in
    ap at_ink (ap (λ b. if b then from.ink else ink_from (cells_at start [] xs) k) past ∙ ap (plus k) run ∙ sum)
  where
    at_ink : ℕ → Cursor
    at_ink n = record { column = k; ink = n }

    run : length (take_while (λ (c : Cell). c.byte == 32) (drop k (cells_at start [] xs))) ≡ spaces_of (drop k xs)
    run = run_asked (cells_at start [] xs) k 32 ∙ ap (λ (ys : List ℕ). length (take_while (λ x. x == 32) (drop k ys))) (bytes_kept start [] xs) ∙ blanks_same (drop k xs) (drop_plain k xs plain)

    sum : plus k (spaces_of (drop k xs)) ≡ k + spaces_of (drop k xs)
    sum = let most : spaces_of (drop k xs) ≤ length (drop k xs) = spaces_low (drop k xs) in omega (arith, most, length-drop k xs, low, fits)

-- the column after a marker, for both
record Step (start c : ℕ) (xs ys : List ℕ) : Type 0 where
  pub to : ℕ
  pub after : after_quote (cells_at start [] xs) (place_at c ys) ≡ place_at to (drop to xs)
  pub shown : unquoted (left_at (place_at c ys) ys) ≡ Written (part_at to (drop to xs))
  pub further : c < to
  pub inside : to ≤ length xs

step_at : (text : List ℕ) (l : Line) (c : ℕ) (xs ys : List ℕ) (b : ℕ) (bs : List ℕ) → At text l c xs ys → Inked text l c xs ys b bs → Step l.start c xs ys
unfolding after_quote
step_at text l c xs ys b bs a i = by bs refl
  where
    n : ℕ
    n = c + spaces_of ys

    whole : List Cell
    whole = cells_at l.start [] xs

    count : length xs ≡ c + length ys
    count = a.count

    fewer : length ys ≡ spaces_of ys + suc (length bs)
    fewer = i.fewer

    short : length xs + 3 < 2 ^ 64
    short = a.short

    next : plus n 1 ≡ n + 1
    next = omega (arith, count, fewer, short)

    inked_from : drop n xs ≡ b ∷ bs
    inked_from = sym (drop-drop (spaces_of ys) c xs) ∙ ap (drop (spaces_of ys)) a.left ∙ i.inked

    rest : drop (n + 1) xs ≡ bs
    rest = sym (drop-drop 1 n xs) ∙ ap (drop 1) inked_from

    byte_after : cell_byte whole (n + 1) ≡ byte_at bs 0
    byte_after = byte_asked whole (n + 1) ∙ ap (λ zs. byte_at zs (n + 1)) (bytes_kept l.start [] xs) ∙ drop_byte (n + 1) xs ∙ ap (λ zs. byte_at zs 0) rest

    shown_part : after_ink 1 (part_at c ys) ≡ part_at (n + 1) bs
    shown_part = ap (λ m. part_at (m + 1) (drop 1 (drop (spaces_of ys) ys))) (ink_at c ys a.plain) ∙ ap (λ zs. part_at (n + 1) (drop 1 zs)) i.inked

    moves : (k : ℕ) → n < k → k ≤ length xs → moved whole (place_at c ys) k ≡ place_at k (drop k xs)
    moves k further low = moved_place l.start xs (place_at c ys) k further low a.whole short

    after_as : (k : Bool) → (byte_at bs 0 == 32) ≡ k → after_quote whole (place_at c ys) ≡ moved whole (place_at c ys) (if k then plus (n + 1) 1 else n + 1)
    after_as k e =
        ap (λ m. if cell_byte whole m == 32 then moved whole (place_at c ys) (plus m 1) else moved whole (place_at c ys) m) next
        ∙ ap (λ m. if m == 32 then moved whole (place_at c ys) (plus (n + 1) 1) else moved whole (place_at c ys) (n + 1)) byte_after
        ∙ ap (λ m. if m then moved whole (place_at c ys) (plus (n + 1) 1) else moved whole (place_at c ys) (n + 1)) e
        ∙ pick k
      where
        pick : (m : Bool) → (if m then moved whole (place_at c ys) (plus (n + 1) 1) else moved whole (place_at c ys) (n + 1)) ≡ moved whole (place_at c ys) (if m then plus (n + 1) 1 else n + 1)
        pick true = refl
        pick false = refl

    -- no space is after the marker
    alone : (byte_at bs 0 == 32) ≡ false → without_byte (part_at (n + 1) bs) bs ≡ part_at (n + 1) bs → Step l.start c xs ys
    alone e kept = record {
      to = n + 1;
      after = after_as false e ∙ moves (n + 1) (omega arith) (omega (arith, count, fewer));
      shown = ap (λ p. Written (without_byte p p.bytes)) shown_part ∙ ap (λ p. Written p) kept ∙ ap (λ zs. Written (part_at (n + 1) zs)) (sym rest);
      further = omega arith;
      inside = omega (arith, count, fewer);
    }

    spaced : (b2 : ℕ) (bs2 : List ℕ) → bs ≡ b2 ∷ bs2 → (b2 == 32) ≡ true → Step l.start c xs ys
    spaced b2 bs2 q e = record {
      to = n + 1 + 1;
      after = after_as true (ap (λ zs. byte_at zs 0 == 32) q ∙ e) ∙ ap (moved whole (place_at c ys)) (let r : plus (n + 1) 1 ≡ n + 1 + 1 = omega (arith, long, short) in r) ∙ moves (n + 1 + 1) (omega arith) (omega (arith, long));
      shown = ap (λ p. Written (without_byte p p.bytes)) (shown_part ∙ ap (part_at (n + 1)) q)
          ∙ ap (λ k. Written (if k then part_at (n + 1 + 1) bs2 else (if b2 == 9 then tabbed else part_at (n + 1) (b2 ∷ bs2)))) e
          ∙ ap (λ zs. Written (part_at (n + 1 + 1) zs)) (sym (sym (drop-drop 1 (n + 1) xs) ∙ ap (drop 1) (rest ∙ q)));
      further = omega arith;
      inside = omega (arith, long);
    }
      where
        long : length xs ≡ n + 1 + suc (length bs2)
        long = let k : length bs ≡ suc (length bs2) = ap length q in omega (arith, count, fewer, k)

        tabbed : Part
        tabbed = without_byte (part_at (n + 1) (9 ∷ bs2)) (9 ∷ bs2)

    other : (b2 : ℕ) (bs2 : List ℕ) → bs ≡ b2 ∷ bs2 → (b2 == 32) ≡ false → Step l.start c xs ys
    other b2 bs2 q e =
        let p : Plain b2 bs2 = plain_head b2 bs2 (subst (λ zs. IsPlain zs) q (plain_head b bs i.rest_plain).more) in
        alone (ap (λ zs. byte_at zs 0 == 32) q ∙ e) (ap (λ zs. without_byte (part_at (n + 1) bs) zs) q ∙ rw (e, p.tab) refl)

    by : (zs : List ℕ) → bs ≡ zs → Step l.start c xs ys
    by [] q = alone (ap (λ zs. byte_at zs 0 == 32) q) (ap (without_byte (part_at (n + 1) bs)) q)
    by (b2 ∷ bs2) q = with_byte (b2 == 32) refl
      where
        with_byte : (k : Bool) → (b2 == 32) ≡ k → Step l.start c xs ys
        with_byte true e = spaced b2 bs2 q e
        with_byte false e = other b2 bs2 q e

-- the step of a line that begins a quote
step_of : (text : List ℕ) (l : Line) (c : ℕ) (xs ys : List ℕ) → At text l c xs ys → beginning (left_at (place_at c ys) ys) ≡ QuoteLine → Step l.start c xs ys
unfolding beginning
step_of text l c xs ys a e = by (is_blank ys) refl
  where
    inked : (b : ℕ) × (bs : List ℕ) × (drop (spaces_of ys) ys ≡ b ∷ bs) × (is_blank_byte b ≡ false) → Step l.start c xs ys
    inked (b, bs, first, no_blank) = step_at text l c xs ys b bs a (inked_line text l c xs ys a b bs first no_blank)

    by : (k : Bool) → is_blank ys ≡ k → Step l.start c xs ys
    by true d = let q : BlankLine ≡ QuoteLine = sym (ap (λ k. beginning_of (part_at c ys) k (nat_le 4 (indent (part_at c ys)))) d) ∙ e in absurd cc
    by false d = inked (ink_first ys d)

-- the line after one more marker
pub record Next (text : List ℕ) (d : ℕ) (v : Seen text d) : Type 0 where
  pub seen : Seen text (suc d)
  pub line : seen.line ≡ v.line
  pub columns : seen.columns ≡ v.columns
  pub place : seen.place ≡ after_quote v.columns v.place
  pub shown : unquoted (left_at v.place v.bytes) ≡ left_at seen.place seen.bytes
  pub fewer : length seen.bytes < length v.bytes

pub next_of : (text : List ℕ) (d : ℕ) (v : Seen text d) → beginning (left_at v.place v.bytes) ≡ QuoteLine → Next text d v
next_of text d v e = by v.fuel refl
  where
    xs : List ℕ
    xs = bytes_between text v.line.start v.line.end

    c : ℕ
    c = v.place.column

    f : FactsOf text d v
    f = facts text d v

    is_quote : is_quote_kind f.kind ≡ true
    is_quote = ap is_quote_kind (sym f.begins ∙ e)

    step : Step v.line.start c xs v.bytes
    step = subst (λ ys. Step v.line.start c xs ys) (sym v.bytes_are) (step_of text v.line c xs (drop c xs) (at_line text v.line c v.plain v.fits v.sound v.feedless v.fed v.inside)
        (ap (λ ys. beginning (Written (part_at c ys))) (sym v.bytes_are) ∙ e))

    to : ℕ
    to = step.to

    after : after_quote v.columns v.place ≡ place_at to (drop to xs)
    after = ap (λ cs. after_quote cs v.place) v.columns_are ∙ ap (after_quote (cells_at v.line.start [] xs)) v.place_is ∙ step.after

    column : (after_quote v.columns v.place).column ≡ to
    column = ap (λ (p : Cursor). p.column) after

    shorter : length (drop to xs) < length v.bytes
    shorter =
        let one : length (drop to xs) ≡ length xs - to = length-drop to xs in
        let two : length v.bytes ≡ length xs - c = ap length v.bytes_are ∙ length-drop c xs in
        let three : c < to = step.further in
        let four : to ≤ length xs = step.inside in
        omega (arith, one, two, three, four)

    shown : unquoted (left_at v.place v.bytes) ≡ left_at (after_quote v.columns v.place) (drop to xs)
    shown = step.shown ∙ ap (λ k. Written (part_at k (drop to xs))) (sym column)

    seen_with : (fuel : ℕ) → v.fuel ≡ suc fuel → Next text d v
    seen_with fuel q = record {
      seen = record {
        line = v.line;
        columns = v.columns;
        place = after_quote v.columns v.place;
        bytes = drop to xs;
        fuel = fuel;
        columns_are = v.columns_are;
        bytes_are = ap (λ k. drop k xs) (sym column);
        place_is = after ∙ ap (λ k. place_at k (drop to xs)) (sym column);
        inside = subst (λ k. k ≤ length xs) (sym column) step.inside;
        deep = subst (λ k. suc d ≤ k) (sym column) (let one : c < to = step.further in let two : d ≤ c = v.deep in omega (arith, one, two));
        reaches = reaches_more v.columns d (first_cursor v.columns) v.place v.reaches (f.left is_quote) (f.marks ∙ is_quote);
        plain = v.plain;
        fits = v.fits;
        sound = v.sound;
        feedless = v.feedless;
        fed = v.fed;
        enough = let one : length v.bytes ≤ v.fuel = v.enough in omega (arith, one, q, shorter);
        leaf = subst (λ x. IsLeafLine (ends_with_feed text) (content_in fuel x)) shown
            (subst (λ k. IsLeafLine (ends_with_feed text) (content_after (λ y. content_in fuel y) (left_at v.place v.bytes) k)) e
            (subst (λ m. IsLeafLine (ends_with_feed text) (content_in m (left_at v.place v.bytes))) q v.leaf));
      };
      line = refl;
      columns = refl;
      place = refl;
      shown = shown;
      fewer = shorter;
    }

    by : (fuel : ℕ) → v.fuel ≡ fuel → Next text d v
    by zero q = absurd (let one : length v.bytes ≤ v.fuel = v.enough in omega (arith, one, q, shorter))
    by (suc fuel) q = seen_with fuel q
