-- Where a text is inside a line.
use Rattle.std.proofs.Common.{◌≡◌, ◌≤◌, ◌<◌, ◌∙◌, ◌==◌, ◌-◌, ◌+◌, ℕ, zero, suc, Bool, true, false, ◌&&◌, ◌||◌, if◌then◌else◌, Option, None, List, [], ◌∷◌, ◌++◌, codes, length, refl, sym, ap, arith, replicate, ne_eqb, drop}
use Rattle.std.specs.Prelude.{not, nat_lt}
use Rattle.std.proofs.lemmas.Bool.{eqb-true, false≢true, not-true, or_from}
use Rattle.tocmark_event.specs.Options.{OptionsView}
use Rattle.tocmark_event.specs.View.{TagView, Link, Image, Text, EventView, Leaf, end_of}
use Rattle.tocmark_event.specs.declared.event.LinkType.{LinkType}
use Rattle.tocmark_event.specs.declared.event.LinkType.TheVariants as link
use Rattle.tocmark_write_texts.specs.Destination.{destination, inline_closing, title as title_text_of}
use Rattle.tocmark_write_texts.specs.Leaves.{code_span, enclosed, in_cell, is_blank, last_is, longest_run, padding, span, ticks}
use Rattle.tocmark_spelling.specs.Closing.{close_link, closing_of, needs_id}
use Rattle.tocmark_spelling.specs.Gap.{before_event, close_up, closed_up, forget_quote, gap, joins_list, is_item_end, least, raised_after_list, raised_before, raised_for_block, raised_for_item, raised_for_list, raised_for_title, resumed, separated}
use Rattle.tocmark_spelling.specs.Kinds.{is_break, is_item, starts}
use Rattle.tocmark_spelling.specs.Page.{Level, Page, Path, Reference, Sheet, Site, Trail, filled_to, laid, prefix_of, put_byte, raised, with_last, with_trail, written}
use Rattle.tocmark_spelling.specs.Places.{is_after_opening, is_close, is_in_loose_list}
use Rattle.tocmark_spelling.specs.Stretch.{at_front}
use Rattle.tocmark_spelling.specs.declared.trail.Last.TheVariants.{Inline}
use Rattle.tocmark_spelling.specs.declared.trail.LastList.{LastList}
use Rattle.tocmark_choose.specs.Alike.{is_link, is_link_end}
use Rattle.tocmark_choose.proofs.Reaching.{Begun, put-more}

-- ---- nothing is owed after a gap

pub record IsSettled (t : Trail) : Type 0 where
  pub owed : t.owed ≡ 0
  pub shut : t.open_html ≡ false
  pub unquoted : t.quote_line ≡ None

if-quote : (b : Bool) (x y : Trail) (q : Option (List ℕ)) → x.quote_line ≡ q → y.quote_line ≡ q → (if b then x else y).quote_line ≡ q
if-quote true x y q h k = h
if-quote false x y q h k = k

if-page : (b : Bool) (x y : Page) (q : Option (List ℕ)) → x.trail.quote_line ≡ q → y.trail.quote_line ≡ q → (if b then x else y).trail.quote_line ≡ q
if-page true x y q h k = h
if-page false x y q h k = k

closed-quote : (e : EventView) (path : Path) (p : Page) → (closed_up e path p).trail.quote_line ≡ None
closed-quote e path p = if-page (not p.trail.open_html && is_close path) (close_up e path p) (forget_quote p) None refl refl

shut-by : (b : Bool) (t : Trail) → t.open_html ≡ b → (if b then record t { owed = 1; open_html = false } else t).open_html ≡ false
shut-by true t e = refl
shut-by false t e = e

raised-shut : (e : EventView) (path : Path) (t : Trail) → (raised_before e path t).open_html ≡ false
raised-shut e path t = let u : Trail = raised_for_item e path (raised_after_list e (raised (least e t.last) t)) in shut-by u.open_html u refl

raised-quote : (e : EventView) (path : Path) (t : Trail) → (raised_before e path t).quote_line ≡ t.quote_line
raised-quote e path t =
    let one : Trail = raised (least e t.last) t in
    let two : Trail = raised_after_list e one in
    let three : Trail = raised_for_item e path two in
    if-quote three.open_html (record three { owed = 1; open_html = false }) three three.quote_line refl refl
    ∙ if-quote (starts is_item e && is_in_loose_list path && is_item_end two.last) (raised 2 two) two two.quote_line refl refl
    ∙ if-quote (joins_list e one.last) (raised 2 one) one one.quote_line refl refl

separated-by : (b : Bool) (path : Path) (q : Page) → b ≡ false → q.trail.open_html ≡ false → q.trail.quote_line ≡ None
    → IsSettled (if b then q else with_trail (record q.trail { owed = 0 }) (filled_to q.trail.owed path q)).trail
separated-by true path q e h k = absurd (false≢true (sym e))
separated-by false path q e h k = record { owed = refl; shut = h; unquoted = k }

pub gap-settled : (e : EventView) (path : Path) (p : Page) → is_break e ≡ false → IsSettled (gap e path p).trail
gap-settled e path p e' =
    let here : Page = before_event e path p in
    separated-by (is_break e) path (with_trail (raised_before e path here.trail) here) e' (raised-shut e path here.trail)
    (raised-quote e path here.trail ∙ closed-quote e path (with_trail (raised_for_block e (raised_for_title e (raised_for_list e path (resumed e p.trail)))) p))

-- ---- inside a line

-- the innermost container began before this place
abbrev pub BeganBefore : Path → ℕ → Type 0
BeganBefore [] n = Unit {0}
BeganBefore (l ∷ path) n = l.start < n

pub began-before : (ts : List TagView) (path : Path) (m n : ℕ) → Begun ts path m → m < n → BeganBefore path n
began-before [] [] m n h lt = tt
began-before (t ∷ ts) (l ∷ path) m n h lt = less l.start m n h.1 lt
  where
    less : (a b c : ℕ) → a ≤ b → b < c → a < c
    less a b c h k = omega (arith, h, k)
began-before [] (l ∷ path) m n h lt = absurd h
began-before (t ∷ ts) [] m n h lt = absurd h

pub record IsInLine (path : Path) (p : Page) : Type 0 where
  pub settled : IsSettled p.trail
  pub inline : p.trail.last ≡ Inline
  pub ended : p.sheet.feeds ≡ 0
  pub some : 0 < length p.sheet.text
  pub began : BeganBefore path (length p.sheet.text)

after-opening : (path : Path) (p : Page) → BeganBefore path (length p.sheet.text) → is_after_opening path p ≡ false
after-opening [] p h = refl
after-opening (l ∷ path) p h = ne_eqb l.start (length p.sheet.text) (λ e. apart l.start (length p.sheet.text) h e)
  where
    apart : (a b : ℕ) → a < b → a ≡ b → ⊥
    apart a b h e = omega (arith, h, e)

not-zero : (n : ℕ) → 0 < n → (n == 0) ≡ false
not-zero n h = ne_eqb n 0 (λ e. omega (arith, h, e))

not-front : (path : Path) (p : Page) → p.sheet.feeds ≡ 0 → 0 < length p.sheet.text → BeganBefore path (length p.sheet.text) → at_front path p ≡ false
not-front path p feeds some began =
    or_from (nat_lt 0 p.sheet.feeds || length p.sheet.text == 0) (is_after_opening path p)
    (or_from (nat_lt 0 p.sheet.feeds) (length p.sheet.text == 0) (ap (nat_lt 0) feeds) (not-zero (length p.sheet.text) some))
    (after-opening path p began)

either-way : (b : Bool) (p : Page) → (if b then p else p) ≡ p
either-way true p = refl
either-way false p = refl

-- the page with a trail on which nothing is owed, after inline content
abbrev quiet : Page → Option LastList → Bool → Page
quiet p list raw = with_trail (record { owed = 0; last = Inline; last_list = list; quote_line = None; raw_end = raw; open_html = false }) p

quiet-page : (p : Page) → IsSettled p.trail → p.trail.last ≡ Inline → p ≡ quiet p p.trail.last_list p.trail.raw_end
quiet-page p h last =
    ap (λ n. with_trail (record p.trail { owed = n }) p) h.owed
    ∙ ap (λ b. with_trail (record p.trail { owed = 0; open_html = b }) p) h.shut
    ∙ ap (λ l. with_trail (record p.trail { owed = 0; open_html = false; quote_line = l }) p) h.unquoted
    ∙ ap (λ l. with_trail (record p.trail { owed = 0; open_html = false; quote_line = None; last = l }) p) last

quiet-gap : (t : List ℕ) (path : Path) (p : Page) (list : Option LastList) (raw : Bool) → gap (Leaf (Text t)) path (quiet p list raw) ≡ quiet p None false
quiet-gap t path p list raw =
    let e : EventView = Leaf (Text t) in
    let there : Page = quiet p None false in
    let none : 0 - p.sheet.feeds ≡ 0 = omega arith in
    let before : before_event e path (quiet p list raw) ≡ there = either-way (is_close path) there in
    ap (λ (q : Page). separated e path (with_trail (raised_before e path q.trail) q)) before
    ∙ ap (λ n. record there { sheet = laid (prefix_of path) (replicate n 10) p.sheet }) none

-- a text in a line isn't at a front
pub text-in-line : (t : List ℕ) (path : Path) (p : Page) → IsInLine path p → at_front path (gap (Leaf (Text t)) path p) ≡ false
text-in-line t path p h =
    ap (λ q. at_front path (gap (Leaf (Text t)) path q)) (quiet-page p h.settled h.inline)
    ∙ ap (at_front path) (quiet-gap t path p p.trail.last_list p.trail.raw_end)
    ∙ not-front path (quiet p None false) h.ended h.some h.began

-- ---- what ends inside a line

-- whether a text has an end that is no line feed
abbrev pub ends_inside : List ℕ → Bool
ends_inside [] = false
ends_inside (b ∷ []) = not (b == 10)
ends_inside (b ∷ c ∷ cs) = ends_inside (c ∷ cs)

pub ends-last : (xs : List ℕ) (b : ℕ) → not (b == 10) ≡ true → ends_inside (xs ++ b ∷ []) ≡ true
ends-last [] b h = h
ends-last (x ∷ []) b h = h
ends-last (x ∷ y ∷ ys) b h = ends-last (y ∷ ys) b h

ends-more : (x : ℕ) (ys : List ℕ) → ends_inside ys ≡ true → ends_inside (x ∷ ys) ≡ true
ends-more x [] h = absurd (false≢true h)
ends-more x (y ∷ ys) h = h

ends-after : (xs ys : List ℕ) → ends_inside ys ≡ true → ends_inside (xs ++ ys) ≡ true
ends-after [] ys h = h
ends-after (x ∷ xs) ys h = ends-more x (xs ++ ys) (ends-after xs ys h)

ends-ticks : (n : ℕ) → ends_inside (replicate (n + 1) 96) ≡ true
ends-ticks n = let next : n + 1 ≡ suc n = omega arith in ap (λ k. ends_inside (replicate k 96)) next ∙ go n
  where
    go : (n : ℕ) → ends_inside (replicate (suc n) 96) ≡ true
    go zero = refl
    go (suc n) = go n

pub span-ends : (in_table : Bool) (text : List ℕ) → ends_inside (code_span in_table text) ≡ true
unfolding code_span span
span-ends in_table text = by (is_blank inner)
  where
    inner : List ℕ
    inner = in_cell in_table text

    by : (b : Bool) → ends_inside (if b then codes "`" ++ (inner ++ codes "`") else enclosed (ticks inner) (padding inner) inner) ≡ true
    by true = ends-after (codes "`") (inner ++ codes "`") (ends-last inner 96 refl)
    by false = ends-after (ticks inner) (padding inner ++ (inner ++ (padding inner ++ ticks inner)))
        (ends-after (padding inner) (inner ++ (padding inner ++ ticks inner)) (ends-after inner (padding inner ++ ticks inner) (ends-after (padding inner) (ticks inner) (ends-ticks (longest_run 96 inner)))))

pub html-ends : (text : List ℕ) → last_is 62 text ≡ true → ends_inside text ≡ true
html-ends [] h = absurd (false≢true h)
html-ends (b ∷ []) h = ap (λ c. not (c == 10)) (eqb-true b 62 h)
html-ends (b ∷ c ∷ cs) h = html-ends (c ∷ cs) h

laid-inside : (prefix bs : List ℕ) (s : Sheet) → ends_inside bs ≡ true → ((laid prefix bs s).feeds ≡ 0) × (length s.text < length (laid prefix bs s).text)
laid-inside prefix [] s h = absurd (false≢true h)
laid-inside prefix (b ∷ []) s h = (ap (λ x. if x then s.feeds + 1 else 0) (not-true (b == 10) h), put-more prefix b s)
laid-inside prefix (b ∷ c ∷ cs) s h =
    let one = laid-inside prefix (c ∷ cs) (put_byte prefix b s) h in
    (one.0, less (length s.text) (length (put_byte prefix b s).text) (length (laid prefix (c ∷ cs) (put_byte prefix b s)).text) (put-more prefix b s) one.1)
  where
    less : (a b c : ℕ) → a < b → b < c → a < c
    less a b c h k = omega (arith, h, k)

-- inline content that ends so
pub written-in-line : (ts : List TagView) (path : Path) (wider : Path) (text : List ℕ) (p : Page) → ends_inside text ≡ true → Begun ts wider (length p.sheet.text) → IsSettled p.trail
    → IsInLine wider (with_last Inline (written path text p))
written-in-line ts path wider text p e began h =
    let one = laid-inside (prefix_of path) text p.sheet e in
    record {
      settled = record { owed = h.owed; shut = h.shut; unquoted = h.unquoted };
      inline = refl;
      ended = one.0;
      some = more (length p.sheet.text) (length (written path text p).sheet.text) one.1;
      began = began-before ts wider (length p.sheet.text) (length (written path text p).sheet.text) began one.1;
    }
  where
    more : (a b : ℕ) → a < b → 0 < b
    more a b h = omega (arith, h)

abbrev pub IsSiteInLine : Site → Type 0
IsSiteInLine here = IsInLine here.path here.page

either-in-line : (b : Bool) (x y : Site) → IsSiteInLine x → IsSiteInLine y → IsSiteInLine (if b then x else y)
either-in-line true x y h k = h
either-in-line false x y h k = k

module _ (ts : List TagView) where
  by_body : (text dest title id : List ℕ) (l : Level) (path : Path) (p : Page) → ends_inside text ≡ true → Begun ts path (length p.sheet.text) → IsSettled p.trail
      → (label : List ℕ) → IsSiteInLine (record { path = path; page = with_last Inline (written path text (record p { references = p.references ++ record { label = label; destination = dest; title = title } ∷ [] })) })
  by_body text dest title id l path p e began h label =
      written-in-line ts path path text (record p { references = p.references ++ record { label = label; destination = dest; title = title } ∷ [] }) e began h

  link-in-line : (k : LinkType) (dest title id : List ℕ) (l : Level) (path : Path) (p : Page) → Begun ts path (length p.sheet.text) → IsSettled p.trail → IsSiteInLine (close_link k dest title id l path p)
  link-in-line link.Reference dest title id l path p began h = by_body (codes "][" ++ id ++ codes "]") dest title id l path p (ends-last (codes "][" ++ id) 93 refl) began h id
  link-in-line link.Collapsed dest title id l path p began h =
      either-in-line (needs_id l.content id) _ _
      (by_body (codes "][" ++ id ++ codes "]") dest title id l path p (ends-last (codes "][" ++ id) 93 refl) began h id)
      (by_body (codes "][]") dest title id l path p refl began h (drop l.start p.sheet.text))
  link-in-line link.Shortcut dest title id l path p began h =
      either-in-line (needs_id l.content id) _ _
      (by_body (codes "][" ++ id ++ codes "]") dest title id l path p (ends-last (codes "][" ++ id) 93 refl) began h id)
      (by_body (codes "]") dest title id l path p refl began h (drop l.start p.sheet.text))
  link-in-line link.Autolink dest title id l path p began h = written-in-line ts path path (codes ">") p refl began h
  link-in-line link.Email dest title id l path p began h = written-in-line ts path path (codes ">") p refl began h
  link-in-line k dest title id l path p began h =
      written-in-line ts path path (inline_closing dest title) p (ends-last (codes "](" ++ destination false dest ++ title_part) 41 refl) began h
    where
      title_part : List ℕ
      title_part = title_text_of title

  -- a link or an image that is closed ends inside a line
  pub closed-in-line : (o : OptionsView) (t : TagView) (l : Level) (path : Path) (p : Page) → is_link t ≡ true → Begun ts path (length p.sheet.text) → IsSettled p.trail → IsSiteInLine (closing_of o t l path p)
  closed-in-line o (Link k dest title id) l path p e began h = link-in-line k dest title id l path p began h
  closed-in-line o (Image k dest title id) l path p e began h = link-in-line k dest title id l path p began h
  closed-in-line o t l path p e began h = absurd (false≢true e)

pub end-link : (t : TagView) → is_link_end (end_of t) ≡ is_link t
end-link (Link k dest title id) = refl
end-link (Image k dest title id) = refl
end-link t = refl
