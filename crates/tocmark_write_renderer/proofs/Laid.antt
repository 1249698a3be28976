-- How text is laid in parts.
use Rattle.std.proofs.Common.{◌≡◌, ℕ, zero, suc, ◌+◌, ◌<◌, ◌≤◌, Bool, true, false, cond, List, [], ◌∷◌, ◌++◌, refl, sym, ap, ◌∙◌, arith, append_assoc, replicate, nat_eq, nat_lt, length, add-one, take, subst, get_or, reverse}
use Rattle.std.specs.Prelude.{Result, OnOk}
use Rattle.std.specs.List.{before_first, after_first, position_or_len, prefix_len}
use Rattle.std.proofs.lemmas.Bool.{eqb-true}
use Rattle.std.proofs.lemmas.Bool.Decides.{nat_tests}
use Rattle.std.proofs.lemmas.List.{append-nil, length-reverse, reverse-append, take_all}
use Rattle.std.proofs.lemmas.List.Folds.{prefix_len-append}
use Rattle.std.proofs.lemmas.List.Sums.{suffix_len-le-length}
use Rattle.std.proofs.lemmas.Result.{on_ok_weaker}
use Rattle.std.proofs.lemmas.Str.{IsUtf8-drop, IsCharBoundary-after_ascii}
use Rattle.std.specs.Str.{IsUtf8}
use Rattle.tocmark_write_renderer.specs.Changes.{on_sheet, with_feeds, with_more}
use Rattle.tocmark_spelling.specs.Page.{Page, Path, Sheet, Site, feeds_after, laid, laid_on, lead, prefix_of, put_byte, written}
use Rattle.tocmark_write_renderer.specs.FeedsOf.{ending_feeds, feeds_behind}
use Rattle.tocmark_write_renderer.specs.WriterOf.{HasNoFeed, Rendering, Stands, levels_of, page_of, site_of}

pub laid-append : (prefix a b : List ℕ) (s : Sheet) → laid prefix (a ++ b) s ≡ laid prefix b (laid prefix a s)
laid-append prefix [] b s = refl
laid-append prefix (x ∷ a) b s = laid-append prefix a b (put_byte prefix x s)

abbrev pub sheet : List ℕ → ℕ → Sheet
sheet t n = record { text = t; feeds = n }

feeds_none : (b n : ℕ) → nat_eq b 10 ≡ false → feeds_after b n ≡ 0
feeds_none b n e = ap (λ x. cond x (n + 1) 0) e

laid-inside : (prefix bs t : List ℕ) → HasNoFeed bs → laid prefix bs (sheet t 0) ≡ sheet (t ++ bs) 0
laid-inside prefix [] t h = ap (λ x. sheet x 0) (sym (append-nil t))
laid-inside prefix (b ∷ bs) t h =
    ap (λ n. laid prefix bs (sheet (t ++ [] ++ b ∷ []) n)) (feeds_none b 0 h.0)
    ∙ laid-inside prefix bs (t ++ [] ++ b ∷ []) h.1
    ∙ ap (λ x. sheet x 0) (append_assoc (t ++ []) (b ∷ []) bs ∙ ap (λ x. x ++ b ∷ bs) (append-nil t))

-- a part of a line that has some byte
pub laid-part : (prefix bs : List ℕ) (s : Sheet) → HasNoFeed bs → (length bs ≡ 0 → ⊥) → laid prefix bs s ≡ sheet (s.text ++ lead prefix s.feeds ++ bs) 0
laid-part prefix [] s h some = absurd (some refl)
laid-part prefix (b ∷ bs) s h some =
    ap (λ n. laid prefix bs (sheet (s.text ++ lead prefix s.feeds ++ b ∷ []) n)) (feeds_none b s.feeds h.0)
    ∙ laid-inside prefix bs _ h.1
    ∙ ap (λ x. sheet x 0) (append_assoc (s.text ++ lead prefix s.feeds) (b ∷ []) bs)

pub laid-none : (prefix bs : List ℕ) (s : Sheet) → length bs ≡ 0 → s ≡ laid prefix bs s
laid-none prefix [] s e = refl
laid-none prefix (b ∷ bs) s e = absurd (omega arith)

abbrev is_feed : ℕ → Bool
is_feed b = nat_eq b 10

one-more : (n : ℕ) → 1 + n ≡ suc n
one-more n = omega arith

before-here : (b : ℕ) (bs : List ℕ) → is_feed b ≡ true → before_first is_feed (b ∷ bs) ≡ []
before-here b bs e = rw e refl

after-here : (b : ℕ) (bs : List ℕ) → is_feed b ≡ true → after_first is_feed (b ∷ bs) ≡ bs
after-here b bs e = rw e refl

before-more : (b : ℕ) (bs : List ℕ) → is_feed b ≡ false → before_first is_feed (b ∷ bs) ≡ b ∷ before_first is_feed bs
before-more b bs e = rw (e, one-more (position_or_len is_feed bs)) refl

after-more : (b : ℕ) (bs : List ℕ) → is_feed b ≡ false → after_first is_feed (b ∷ bs) ≡ after_first is_feed bs
after-more b bs e =
    let k : suc (position_or_len is_feed bs) + 1 ≡ suc (position_or_len is_feed bs + 1) = omega arith in
    rw (e, one-more (position_or_len is_feed bs), k) refl

-- the line before the first line feed
pub before-feed : (bs : List ℕ) → HasNoFeed (before_first is_feed bs)
before-feed [] = tt
before-feed (b ∷ bs) = by_case (is_feed b) refl (before-feed bs)
  where
    by_case : (x : Bool) → is_feed b ≡ x → HasNoFeed (before_first is_feed bs) → HasNoFeed (before_first is_feed (b ∷ bs))
    by_case true e h = rw e tt
    by_case false e h = rw (e, one-more (position_or_len is_feed bs)) (e, h)

-- a text without a line feed
pub no-feed : (bs : List ℕ) → position_or_len is_feed bs ≡ length bs → HasNoFeed bs
no-feed bs e = let all : take (position_or_len is_feed bs) bs ≡ bs = take_all _ bs (omega arith) in subst HasNoFeed all (before-feed bs)

abbrev LaidFeed : List ℕ → List ℕ → Type 0
LaidFeed prefix bs = (s : Sheet) → laid prefix bs s ≡ laid prefix (after_first is_feed bs) (put_byte prefix 10 (laid prefix (before_first is_feed bs) s))

-- a text with one
pub laid-feed : (prefix bs : List ℕ) → position_or_len is_feed bs < length bs → LaidFeed prefix bs
laid-feed prefix [] h = absurd (omega arith)
laid-feed prefix (b ∷ bs) h = by_case (is_feed b) refl h (λ h. laid-feed prefix bs h)
  where
    by_case : (x : Bool) → is_feed b ≡ x → position_or_len is_feed (b ∷ bs) < length (b ∷ bs) → (position_or_len is_feed bs < length bs → LaidFeed prefix bs) → LaidFeed prefix (b ∷ bs)
    by_case true e h ih =
        λ s. ap (λ c. laid prefix bs (put_byte prefix c s)) (eqb-true b 10 e)
        ∙ ap (λ x. laid prefix x (put_byte prefix 10 s)) (sym (after-here b bs e))
        ∙ ap (λ x. laid prefix (after_first is_feed (b ∷ bs)) (put_byte prefix 10 (laid prefix x s))) (sym (before-here b bs e))
    by_case false e h ih =
        let n = rw (e, one-more (position_or_len is_feed bs)) at h in
        λ s. ih (omega (arith, n)) (put_byte prefix b s)
        ∙ ap (λ x. laid prefix x (put_byte prefix 10 (laid prefix (b ∷ before_first is_feed bs) s))) (sym (after-more b bs e))
        ∙ ap (λ x. laid prefix (after_first is_feed (b ∷ bs)) (put_byte prefix 10 (laid prefix x s))) (sym (before-more b bs e))

-- a line, its line feed, and the rest
pub laid-line : (prefix bs line more : List ℕ) (s : Sheet) → position_or_len is_feed bs < length bs → line ≡ before_first is_feed bs → more ≡ after_first is_feed bs → laid prefix more (put_byte prefix 10 (laid prefix line s)) ≡ laid prefix bs s
laid-line prefix bs line more s h e f =
    ap (λ x. laid prefix x (put_byte prefix 10 (laid prefix line s))) f
    ∙ ap (λ x. laid prefix (after_first is_feed bs) (put_byte prefix 10 (laid prefix x s))) e
    ∙ sym (laid-feed prefix bs h s)

at-feed : (bs : List ℕ) → position_or_len is_feed bs < length bs → get_or bs (position_or_len is_feed bs) 0 ≡ 10
at-feed [] h = absurd (omega arith)
at-feed (b ∷ bs) h = by_case (is_feed b) refl h (λ h. at-feed bs h)
  where
    by_case : (x : Bool) → is_feed b ≡ x → position_or_len is_feed (b ∷ bs) < length (b ∷ bs) → (position_or_len is_feed bs < length bs → get_or bs (position_or_len is_feed bs) 0 ≡ 10) → get_or (b ∷ bs) (position_or_len is_feed (b ∷ bs)) 0 ≡ 10
    by_case true e h ih = rw e (eqb-true b 10 e)
    by_case false e h ih =
        let n = rw (e, one-more (position_or_len is_feed bs)) at h in
        rw (e, one-more (position_or_len is_feed bs)) (ih (omega (arith, n)))

-- what is after a line feed is text
pub after-text : (bs : List ℕ) → IsUtf8 bs → position_or_len is_feed bs < length bs → IsUtf8 (after_first is_feed bs)
after-text bs u h =
    let e : get_or bs (position_or_len is_feed bs) 0 ≡ 10 = at-feed bs h in
    IsUtf8-drop bs (position_or_len is_feed bs + 1) u (IsCharBoundary-after_ascii bs (position_or_len is_feed bs) u h (omega arith))

-- one more line feed
pub laid-more : (prefix : List ℕ) (n : ℕ) (s : Sheet) → laid prefix (replicate (n + 1) 10) s ≡ put_byte prefix 10 (laid prefix (replicate n 10) s)
laid-more prefix n s = ap (λ m. laid prefix (replicate m 10) s) (add-one n) ∙ go n s
  where
    go : (n : ℕ) (s : Sheet) → laid prefix (replicate (suc n) 10) s ≡ put_byte prefix 10 (laid prefix (replicate n 10) s)
    go zero s = refl
    go (suc n) s = go n (put_byte prefix 10 s)

-- ---- a text whose lines have no prefix

abbrev no_bytes : List ℕ
no_bytes = []

either-none : (b : Bool) → cond b no_bytes no_bytes ≡ no_bytes
either-none true = refl
either-none false = refl

lead-none : (n : ℕ) → lead no_bytes n ≡ no_bytes
lead-none n = either-none (nat_lt 0 n)

-- the line feeds at the end, with one byte in front
ending-more : (b : ℕ) (bs : List ℕ) → ending_feeds (b ∷ bs) ≡ cond (nat_eq (ending_feeds bs) (length bs)) (length bs + cond (is_feed b) 1 0) (ending_feeds bs)
ending-more b bs =
    ap (prefix_len is_feed) (reverse-append (b ∷ []) bs)
    ∙ prefix_len-append is_feed (reverse bs) (b ∷ [])
    ∙ ap (λ n. cond (nat_eq (ending_feeds bs) n) (n + prefix_len is_feed (b ∷ [])) (ending_feeds bs)) (length-reverse bs)

abbrev over : ℕ → ℕ → ℕ → ℕ
over end len n = cond (nat_eq end len) (n + end) end

over-more : (k m n : ℕ) (f : Bool) → k ≤ m → over (cond (nat_eq k m) (m + cond f 1 0) k) (suc m) n ≡ over k m (cond f (n + 1) 0)
over-more k m n true h = grind (arith, nat_tests, h)
over-more k m n false h = grind (arith, nat_tests, h)

feeds-more : (b : ℕ) (bs : List ℕ) (n : ℕ) → feeds_behind bs (feeds_after b n) ≡ feeds_behind (b ∷ bs) n
feeds-more b bs n =
    sym (over-more (ending_feeds bs) (length bs) n (is_feed b) (suffix_len-le-length is_feed bs))
    ∙ sym (ap (λ e. over e (suc (length bs)) n) (ending-more b bs))

-- such a text is laid as it is
laid-bare : (text : List ℕ) (s : Sheet) → laid [] text s ≡ sheet (s.text ++ text) (feeds_behind text s.feeds)
laid-bare [] s = ap (λ t. sheet t s.feeds) (sym (append-nil s.text)) ∙ ap (λ n. sheet (s.text ++ []) n) (omega arith)
laid-bare (b ∷ bs) s =
    laid-bare bs (put_byte [] b s)
    ∙ ap (λ t. sheet (((s.text ++ t) ++ b ∷ []) ++ bs) (feeds_behind bs (feeds_after b s.feeds))) (lead-none s.feeds)
    ∙ ap (λ t. sheet t (feeds_behind bs (feeds_after b s.feeds))) (append_assoc (s.text ++ []) (b ∷ []) bs ∙ ap (λ t. t ++ b ∷ bs) (append-nil s.text))
    ∙ ap (λ n. sheet (s.text ++ b ∷ bs) n) (feeds-more b bs s.feeds)

-- ---- where a unit is

-- such a text was laid
pub bare-laid : (text : List ℕ) (n : ℕ) (here one two : Site) → n ≡ feeds_behind text here.page.sheet.feeds → one ≡ on_sheet (with_more text) here → two ≡ on_sheet (with_feeds n) one → two ≡ on_sheet (laid [] text) here
bare-laid text n here one two e put set =
    set
    ∙ ap (λ k. on_sheet (with_feeds k) one) e
    ∙ ap (λ x. on_sheet (with_feeds (feeds_behind text here.page.sheet.feeds)) x) put
    ∙ ap (λ x. on_sheet (λ _. x) here) (sym (laid-bare text here.page.sheet))

pub nothing : (bs : List ℕ) → length bs ≡ 0 → bs ≡ []
nothing [] e = refl
nothing (b ∷ bs) e = absurd (omega arith)

-- a text was laid where the prefix is empty
pub unprefixed : (prefix shown text : List ℕ) (w : Rendering) (path : Path) (page : Page) → shown ≡ prefix → length shown ≡ 0 → Stands w path (laid_on [] text page) → Stands w path (laid_on prefix text page)
unprefixed prefix shown text w path page e none h = subst (λ p. Stands w path (laid_on p text page)) (sym (nothing shown none) ∙ e) h

-- a renderer whose place is this one is there
pub stands-as : (w : Rendering) (here : Site) → site_of w ≡ here → Stands w here.path here.page
stands-as w here e = record {
  path_is = ap (λ (x : Site). x.path) e;
  page_is = ap (λ (x : Site). x.page) e;
}

pub laid-nothing : (prefix bs : List ℕ) (here : Site) → length bs ≡ 0 → here ≡ on_sheet (laid prefix bs) here
laid-nothing prefix [] here e = refl
laid-nothing prefix (b ∷ bs) here e = absurd (omega arith)

module _ (prefix : List ℕ) (here one two three : Site) (begun : one ≡ on_sheet (with_more (lead prefix here.page.sheet.feeds)) here) where
  -- a part of a line was laid
  pub part-laid : (bs : List ℕ) → HasNoFeed bs → (length bs ≡ 0 → ⊥) → two ≡ on_sheet (with_more bs) one → three ≡ on_sheet (with_feeds 0) two → three ≡ on_sheet (laid prefix bs) here
  part-laid bs h some put set =
      set
      ∙ ap (λ x. on_sheet (with_feeds 0) x) (put ∙ ap (λ x. on_sheet (with_more bs) x) begun)
      ∙ ap (λ x. on_sheet (λ _. x) here) (sym (laid-part prefix bs here.page.sheet h some))

  -- a line feed was laid
  pub feed-laid : (n : ℕ) → n ≡ here.page.sheet.feeds + 1 → two ≡ on_sheet (with_more (10 ∷ [])) one → three ≡ on_sheet (with_feeds n) two → three ≡ on_sheet (put_byte prefix 10) here
  feed-laid n e put set =
      set
      ∙ ap (λ k. on_sheet (with_feeds k) two) e
      ∙ ap (λ x. on_sheet (with_feeds (here.page.sheet.feeds + 1)) x) (put ∙ ap (λ x. on_sheet (with_more (10 ∷ [])) x) begun)

-- a line and its line feed were laid
pub line-laid : (prefix bs line more p1 p2 : List ℕ) (here one two : Site) → p1 ≡ prefix → p2 ≡ prefix → position_or_len is_feed bs < length bs → line ≡ before_first is_feed bs → more ≡ after_first is_feed bs → one ≡ on_sheet (laid p1 line) here → two ≡ on_sheet (put_byte p2 10) one → on_sheet (laid prefix more) two ≡ on_sheet (laid prefix bs) here
line-laid prefix bs line more p1 p2 here one two q1 q2 h e f part feed =
    ap (λ x. on_sheet (laid prefix more) x) (
    feed
    ∙ ap (λ p. on_sheet (put_byte p 10) one) q2
    ∙ ap (λ x. on_sheet (put_byte prefix 10) x) (part ∙ ap (λ p. on_sheet (laid p line) here) q1)
    )
    ∙ ap (λ x. on_sheet (λ _. x) here) (laid-line prefix bs line more here.page.sheet h e f)

-- the rest was laid
pub rest-laid : (prefix bs p : List ℕ) (here new whole : Site) → p ≡ prefix → on_sheet (laid prefix bs) here ≡ whole → new ≡ on_sheet (laid p bs) here → new ≡ whole
rest-laid prefix bs p here new whole q e last = last ∙ ap (λ p. on_sheet (laid p bs) here) q ∙ e

-- one more line feed was laid
pub feeds-laid : (prefix p : List ℕ) (n : ℕ) (start here new : Site) → p ≡ prefix → here ≡ on_sheet (laid prefix (replicate n 10)) start → new ≡ on_sheet (put_byte p 10) here → new ≡ on_sheet (laid prefix (replicate (n + 1) 10)) start
feeds-laid prefix p n start here new q e feed =
    feed
    ∙ ap (λ p. on_sheet (put_byte p 10) here) q
    ∙ ap (λ x. on_sheet (put_byte prefix 10) x) e
    ∙ ap (λ x. on_sheet (λ _. x) start) (sym (laid-more prefix n start.page.sheet))

-- ---- texts that are written in parts

written-append : (path : Path) (a b : List ℕ) (p : Page) → written path (a ++ b) p ≡ written path b (written path a p)
written-append path a b p = ap (λ (s : Sheet). record p { sheet = s }) (laid-append (prefix_of path) a b p.sheet)

-- one part more is written
pub part-written : {E : Type 0} (r : Result (Unit {0}) E) (v w : Rendering) (path : Path) (p : Page) (a b : List ℕ) → Stands v path (written path a p)
    → OnOk r (Stands w (levels_of v) (written (levels_of v) b (page_of v))) → OnOk r (Stands w path (written path (a ++ b) p))
part-written r v w path p a b one two = on_ok_weaker r (λ h. record {
  path_is = h.path_is ∙ one.path_is;
  page_is = h.page_is ∙ ap (λ q. written q b (page_of v)) one.path_is ∙ ap (written path b) one.page_is ∙ sym (written-append path a b p);
}) two
