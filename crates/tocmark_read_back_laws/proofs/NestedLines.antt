-- Lines in items and in quotes, as the laws of every text have them.
use Rattle.std.proofs.Common.{◌≡◌, ℕ, zero, suc, ◌+◌, ◌<◌, ◌≤◌, Bool, true, false, not, ◌==◌, cond, List, [], ◌∷◌, ◌++◌, length, map, codes, refl, ap, sym, subst, ◌∙◌, arith, append-nil, length-append}
use Rattle.std.specs.Prelude.{take_while}
use Rattle.std.proofs.lemmas.List.Sums.{take_while-cons}
use Rattle.tocmark_read_blocks.proofs.PlainLines.{IsWithin}
use Rattle.tocmark_text_laws.specs.Quoted.{Quote, Trees, Node, none, more, Mark, marked, quoted as quoted_text, ends_line, mark_bytes, IsMark, AreMarks}
use Rattle.tocmark_text_laws.specs.Sequence.{IsQuiet}
use Rattle.tocmark_text_laws.specs.Items.{is_end, item_text, indented, begins_with_ink, first_line}
use Rattle.tocmark_text_laws.specs.Loose.{begins_blank}
use Rattle.tocmark_text_laws.specs.ListEnds.{begins_at_margin}
use Rattle.tocmark_text_laws.specs.NearMargin.{begins_near_margin}
use Rattle.tocmark_document_laws.specs.DocumentLines.{Line, quoted, quoted_beside}
use Rattle.tocmark_document_laws.specs.ReadBack.{feed_if, HasTrees}
use Rattle.tocmark_document_laws.proofs.ReadBackTexts.{ended, fed_front, AreWithin, LinesWithin, EndsWell, mark, with_mark, are_quoted, are_marks, tabless}
use Rattle.tocmark_layout_laws.proofs.Items.{hung, indented as hanged}
use Rattle.tocmark_read_back_laws.proofs.NestedTexts.{Bound, Laws, item_mark, filled}

-- first lines

-- the first byte is no space
abbrev pub Inked : Line → Type 0
Inked [] = ⊥
Inked (b ∷ bs) = (b == 32) ≡ false

-- bytes that are none, or begin with a line ending
abbrev Stops : List ℕ → Type 0
Stops [] = Unit {0}
Stops (b ∷ bs) = is_end b ≡ true

no_end : (b : ℕ) → IsWithin b → is_end b ≡ false
no_end b h = rw (h.feed, h.return) refl

first_of : (l rest : List ℕ) → AreWithin l → Stops rest → first_line (l ++ rest) ≡ l
first_of [] [] h s = refl
first_of [] (b ∷ bs) h s = take_while-cons (λ b. not (is_end b)) b bs ∙ ap (λ k. cond (not k) (b ∷ take_while (λ b. not (is_end b)) bs) []) s
first_of (b ∷ bs) rest h s =
    take_while-cons (λ b. not (is_end b)) b (bs ++ rest)
    ∙ ap (λ k. cond (not k) (b ∷ take_while (λ b. not (is_end b)) (bs ++ rest)) []) (no_end b (h.0))
    ∙ ap (λ (xs : List ℕ). b ∷ xs) (first_of bs rest (h.1) s)

pub text_first : (e : Bool) (l : Line) (ls : List Line) → AreWithin l → first_line (ended e (l ∷ ls)) ≡ l
text_first true l [] h = first_of l (10 ∷ []) h refl
text_first false l [] h = first_of l [] h tt
text_first e l (m ∷ ms) h = first_of l (10 ∷ ended e (m ∷ ms)) h refl

pub text_margin : (e : Bool) (l : Line) (ls : List Line) → AreWithin l → Inked l → begins_at_margin (ended e (l ∷ ls)) ≡ true
text_margin e [] ls h i = absurd i
text_margin e (b ∷ bs) [] h i = rw ((h.0).tab, i, (h.0).feed, (h.0).return) refl
text_margin e (b ∷ bs) (m ∷ ms) h i = rw ((h.0).tab, i, (h.0).feed, (h.0).return) refl

-- it begins near the margin, too, and so does a line in a quote
pub text_near : (e : Bool) (l : Line) (ls : List Line) → AreWithin l → Inked l → begins_near_margin (ended e (l ∷ ls)) ≡ true
text_near e [] ls h i = absurd i
text_near e (b ∷ bs) [] h i = rw (i, (h.0).tab, (h.0).feed, (h.0).return) refl
text_near e (b ∷ bs) (m ∷ ms) h i = rw (i, (h.0).tab, (h.0).feed, (h.0).return) refl

pub quote_near : (e : Bool) (l : Line) (ls : List Line) → begins_near_margin (ended e (quoted l ∷ ls)) ≡ true
quote_near e l [] = refl
quote_near e l (m ∷ ms) = refl

pub text_ink : (e : Bool) (l : Line) (ls : List Line) → AreWithin l → Inked l → begins_with_ink (ended e (l ∷ ls)) ≡ true
text_ink e [] ls h i = absurd i
text_ink e (b ∷ bs) [] h i = rw (i, (h.0).feed, (h.0).return) refl
text_ink e (b ∷ bs) (m ∷ ms) h i = rw (i, (h.0).feed, (h.0).return) refl

pub text_inky : (e : Bool) (l : Line) (ls : List Line) → AreWithin l → Inked l → begins_blank (ended e (l ∷ ls)) ≡ false
text_inky e [] ls h i = absurd i
text_inky e (b ∷ bs) [] h i = rw (i, (h.0).feed, (h.0).return) refl
text_inky e (b ∷ bs) (m ∷ ms) h i = rw (i, (h.0).feed, (h.0).return) refl

-- a line in a quote isn't blank, either
pub quote_inky : (e : Bool) (l : Line) (ls : List Line) → begins_blank (ended e (quoted l ∷ ls)) ≡ false
quote_inky e l [] = refl
quote_inky e l (m ∷ ms) = refl

-- lengths

pub longer_by : (g : Line → Line) → ((l : Line) → length l ≤ length (g l)) → (e : Bool) (ls : List Line) → length (ended e ls) ≤ length (ended e (map g ls))
longer_by g h e [] = omega arith
longer_by g h e (l ∷ []) = omega (arith, h l, length-append l (feed_if e), length-append (g l) (feed_if e))
longer_by g h e (l ∷ m ∷ ms) = omega (arith, h l, longer_by g h e (m ∷ ms), length-append l (10 ∷ ended e (m ∷ ms)), length-append (g l) (10 ∷ ended e (map g (m ∷ ms))))

pub quoted_longer : (e : Bool) (ls : List Line) → length (ended e ls) ≤ length (ended e (map quoted ls))
quoted_longer e ls = longer_by quoted (λ l. omega arith) e ls

hanged_longer : (e : Bool) (ls : List Line) → length (ended e ls) ≤ length (ended e (map hanged ls))
hanged_longer e ls = longer_by hanged (λ l. omega arith) e ls

pub hung_longer : (b : ℕ) (e : Bool) (l : Line) (ls : List Line) → length (ended e (l ∷ ls)) ≤ length (ended e (hung b (l ∷ ls)))
hung_longer b e l [] = omega arith
hung_longer b e l (m ∷ ms) = omega (arith, hanged_longer e (m ∷ ms), length-append l (10 ∷ ended e (m ∷ ms)), length-append l (10 ∷ ended e (map hanged (m ∷ ms))))

pub beside_longer : (e : Bool) (l : Line) (ls : List Line) → length (ended e (l ∷ ls)) ≤ length (ended e (quoted_beside (l ∷ ls)))
beside_longer e l [] = omega arith
beside_longer e l (m ∷ ms) = omega (arith, quoted_longer e (m ∷ ms), length-append l (10 ∷ ended e (m ∷ ms)), length-append l (10 ∷ ended e (map quoted (m ∷ ms))))

-- items

not_end : (b : ℕ) (bs : List ℕ) → IsWithin b → ends_line b bs ≡ false
not_end b [] h = rw (h.feed, h.return) refl
not_end b (c ∷ cs) h = rw (h.feed, h.return) refl

feed_end : (bs : List ℕ) → ends_line 10 bs ≡ true
feed_end [] = refl
feed_end (c ∷ cs) = refl

abbrev into : ℕ → Bool → List ℕ → List ℕ
into n front t = indented 2 filled n front t

inner_in : (n : ℕ) (l rest : List ℕ) → AreWithin l → into n false (l ++ rest) ≡ l ++ into n false rest
inner_in n [] rest h = refl
inner_in n (b ∷ bs) rest h = ap (λ k. b ∷ into n k (bs ++ rest)) (not_end b (bs ++ rest) (h.0)) ∙ ap (λ (t : List ℕ). b ∷ t) (inner_in n bs rest (h.1))

line_in : (n : ℕ) (l rest : List ℕ) → AreWithin l → into n true (l ++ 10 ∷ rest) ≡ hanged l ++ 10 ∷ into (n + 1) true rest
line_in n [] rest h = ap (λ k. 32 ∷ 32 ∷ 10 ∷ into (n + 1) k rest) (feed_end rest)
line_in n (b ∷ bs) rest h =
    ap (λ k. 32 ∷ 32 ∷ b ∷ into (n + 1) k (bs ++ 10 ∷ rest)) (not_end b (bs ++ 10 ∷ rest) (h.0))
    ∙ ap (λ (t : List ℕ). 32 ∷ 32 ∷ b ∷ t) (inner_in (n + 1) bs (10 ∷ rest) (h.1))
    ∙ ap (λ k. 32 ∷ 32 ∷ b ∷ (bs ++ 10 ∷ into (n + 1) k rest)) (feed_end rest)

last_in : (n : ℕ) (l : List ℕ) → AreWithin l → 0 < length l → into n true l ≡ hanged l
last_in n [] h some = absurd (omega (arith, some))
last_in n (b ∷ bs) h some =
    ap (λ k. 32 ∷ 32 ∷ b ∷ into (n + 1) k bs) (not_end b bs (h.0))
    ∙ ap (λ (t : List ℕ). 32 ∷ 32 ∷ b ∷ into (n + 1) false t) (sym (append-nil bs))
    ∙ ap (λ (t : List ℕ). 32 ∷ 32 ∷ b ∷ t) (inner_in (n + 1) bs [] (h.1) ∙ append-nil bs)

lines_in : (e : Bool) (n : ℕ) (ls : List Line) → LinesWithin ls → EndsWell e ls → into n true (ended e ls) ≡ ended e (map hanged ls)
lines_in e n [] h w = refl
lines_in true n (l ∷ []) h w = line_in n l [] (h.0)
lines_in false n (l ∷ []) h w = ap (into n true) (append-nil l) ∙ last_in n l (h.0) w ∙ sym (append-nil (hanged l))
lines_in true n (l ∷ m ∷ ms) h w = line_in n l (ended true (m ∷ ms)) (h.0) ∙ ap (λ (t : List ℕ). hanged l ++ 10 ∷ t) (lines_in true (n + 1) (m ∷ ms) (h.1) tt)
lines_in false n (l ∷ m ∷ ms) h w = line_in n l (ended false (m ∷ ms)) (h.0) ∙ ap (λ (t : List ℕ). hanged l ++ 10 ∷ t) (lines_in false (n + 1) (m ∷ ms) (h.1) w)

-- the lines of an item are those of its text with a marker in front
pub item_is : (b : ℕ) (e : Bool) (l : Line) (ls : List Line) → LinesWithin (l ∷ ls) → EndsWell e (l ∷ ls) → item_text (item_mark b) filled (ended e (l ∷ ls)) ≡ ended e (hung b (l ∷ ls))
item_is b true l [] h w = ap (λ (t : List ℕ). b ∷ 32 ∷ t) (inner_in 1 l (10 ∷ []) (h.0))
item_is b false l [] h w = ap (λ (t : List ℕ). b ∷ 32 ∷ t) (inner_in 1 l [] (h.0))
item_is b true l (m ∷ ms) h w =
    ap (λ (t : List ℕ). b ∷ 32 ∷ t)
    (inner_in 1 l (10 ∷ ended true (m ∷ ms)) (h.0)
    ∙ ap (λ k. l ++ 10 ∷ into 1 k (ended true (m ∷ ms))) (feed_end (ended true (m ∷ ms)))
    ∙ ap (λ (t : List ℕ). l ++ 10 ∷ t) (lines_in true 1 (m ∷ ms) (h.1) tt))
item_is b false l (m ∷ ms) h w =
    ap (λ (t : List ℕ). b ∷ 32 ∷ t)
    (inner_in 1 l (10 ∷ ended false (m ∷ ms)) (h.0)
    ∙ ap (λ k. l ++ 10 ∷ into 1 k (ended false (m ∷ ms))) (feed_end (ended false (m ∷ ms)))
    ∙ ap (λ (t : List ℕ). l ++ 10 ∷ t) (lines_in false 1 (m ∷ ms) (h.1) w))

-- quotes right after a marker: the first line has no space in front of its marker

abbrev pub beside : ℕ → Mark
beside zero = record { spaces = 0; spaced = true }
beside (suc n) = record { spaces = 1; spaced = true }

beside_later : (n : ℕ) → 1 ≤ n → beside n ≡ mark n
beside_later zero h = absurd (omega (arith, h))
beside_later (suc n) h = refl

later_marked : (bs : List ℕ) (n : ℕ) (front : Bool) → 1 ≤ n → marked beside n front bs ≡ marked mark n front bs
later_marked [] n front h = refl
later_marked (b ∷ bs) n true h =
    ap (λ (m : Mark). mark_bytes m ++ (b ∷ marked beside (n + 1) (ends_line b bs) bs)) (beside_later n h)
    ∙ ap (λ (t : List ℕ). mark_bytes (mark n) ++ (b ∷ t)) (later_marked bs (n + 1) (ends_line b bs) (omega arith))
later_marked (b ∷ bs) n false h = ap (λ (t : List ℕ). b ∷ t) (later_marked bs n (ends_line b bs) h)

space_more : (t : List ℕ) → 0 < length t → 32 ∷ quoted_text beside t ≡ quoted_text mark t
space_more [] some = absurd (omega (arith, some))
space_more (b ∷ bs) some = ap (λ (t : List ℕ). 32 ∷ 62 ∷ 32 ∷ b ∷ t) (later_marked bs 1 (ends_line b bs) (omega arith))

abbrev rest_of : List ℕ → List ℕ
rest_of [] = []
rest_of (b ∷ bs) = bs

beside_shape : (e : Bool) (l : Line) (ls : List Line) → ended e (map with_mark (l ∷ ls)) ≡ 32 ∷ ended e (quoted_beside (l ∷ ls))
beside_shape e l [] = refl
beside_shape e l (m ∷ ms) = refl

pub beside_text : (e : Bool) (l : Line) (ls : List Line) → LinesWithin (l ∷ ls) → EndsWell e (l ∷ ls) → 0 < length (ended e (l ∷ ls)) → quoted_text beside (ended e (l ∷ ls)) ≡ ended e (quoted_beside (l ∷ ls))
beside_text e l ls h w some = ap rest_of (space_more (ended e (l ∷ ls)) some ∙ are_quoted e (l ∷ ls) h w ∙ beside_shape e l ls)

is_beside : (n b : ℕ) → IsMark (beside n) b
is_beside zero b = (omega arith, refl)
is_beside (suc n) b = (omega arith, refl)

pub are_beside : (n : ℕ) (front : Bool) (bs : List ℕ) → AreMarks beside n front bs
are_beside n front [] = tt
are_beside n true (b ∷ bs) = (is_beside n b, are_beside (n + 1) (ends_line b bs) bs)
are_beside n false (b ∷ bs) = are_beside n (ends_line b bs) bs

module _ (laws : Laws) where
  abbrev pub Q : Trees → Trees
  Q ts = more (Node Quote false [] ts) none

  -- a quote on lines of its own
  pub below_has : (e : Bool) (ls : List Line) (ts : Trees) → LinesWithin ls → EndsWell e ls → 0 < length (ended e ls) → Bound (ended e ls) → HasTrees (ended e ls) ts → HasTrees (ended e (map quoted ls)) (Q ts)
  below_has e ls ts h w some small k =
      let t : List ℕ = ended e ls in
      let q = laws.quote mark t some (omega (arith, small)) (tabless e ls h) (are_marks 0 true t) in
      subst (λ (x : List ℕ). HasTrees x (Q ts)) (are_quoted e ls h w) (record { trees_are = q.trees ∙ ap Q k.trees_are; undefined = q.definitions ∙ k.undefined })

  pub below_quiet : (l : Line) (ls : List Line) → LinesWithin (l ∷ ls) → 0 < length (ended true (l ∷ ls)) → Bound (ended true (l ∷ ls)) → IsQuiet (ended true (map quoted (l ∷ ls)))
  below_quiet l ls h some small =
      let t : List ℕ = ended true (l ∷ ls) in
      let same = are_quoted true (l ∷ ls) h tt in
      let end = fed_front (with_mark l) (map with_mark ls) in
      subst IsQuiet same (laws.quote_quiet mark t (end.0, same ∙ end.1) some (omega (arith, small)) (tabless true (l ∷ ls) h) (are_marks 0 true t))

  -- one right after a marker
  pub beside_has : (e : Bool) (l : Line) (ls : List Line) (ts : Trees) → LinesWithin (l ∷ ls) → EndsWell e (l ∷ ls) → 0 < length (ended e (l ∷ ls)) → Bound (ended e (l ∷ ls)) → HasTrees (ended e (l ∷ ls)) ts → HasTrees (ended e (quoted_beside (l ∷ ls))) (Q ts)
  beside_has e l ls ts h w some small k =
      let t : List ℕ = ended e (l ∷ ls) in
      let q = laws.quote beside t some (omega (arith, small)) (tabless e (l ∷ ls) h) (are_beside 0 true t) in
      subst (λ (x : List ℕ). HasTrees x (Q ts)) (beside_text e l ls h w some) (record { trees_are = q.trees ∙ ap Q k.trees_are; undefined = q.definitions ∙ k.undefined })

  pub beside_quiet : (l : Line) (ls : List Line) → LinesWithin (l ∷ ls) → 0 < length (ended true (l ∷ ls)) → Bound (ended true (l ∷ ls)) → IsQuiet (ended true (quoted_beside (l ∷ ls)))
  beside_quiet l ls h some small =
      let t : List ℕ = ended true (l ∷ ls) in
      let same = beside_text true l ls h tt some in
      let end = fed_front (codes "> " ++ l) (map quoted ls) in
      subst IsQuiet same (laws.quote_quiet beside t (end.0, same ∙ end.1) some (omega (arith, small)) (tabless true (l ∷ ls) h) (are_beside 0 true t))
