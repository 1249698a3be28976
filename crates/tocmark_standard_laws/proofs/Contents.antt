-- The reader's content of lines is their declared text.
use Rattle.std.proofs.Common.{◌≡◌, ℕ, zero, suc, ◌-◌, ◌≤◌, Bool, true, false, ◌==◌, ◌&&◌, ◌||◌, cond, if◌then◌else◌, nat_lt, nat_le, List, [], ◌∷◌, ◌++◌, length, map, take, drop, reverse, flat_map, slice_range, refl, ap, sym, ◌∙◌, subst, arith, append_assoc, append-nil, true≢false}
use Rattle.std.specs.Prelude.{take_while, Some, None}
use Rattle.std.specs.List.{AllByRecursion}
use Rattle.std.proofs.lemmas.Bool.Decides.{nat_tests}
use Rattle.std.proofs.lemmas.List.{reverse-append, reverse-reverse}
use Rattle.std.proofs.lemmas.List.Sums.{take_while-cons}
use Rattle.tocmark_read_scan.specs.Basic.{byte_at}
use Rattle.tocmark_read_scan.specs.Class.{is_in}
use Rattle.tocmark_read_scan.specs.Content.{joined, before_white, content_of}
use Rattle.tocmark_read_scan.specs.Repeat.{going_on, iterated}
use Rattle.tocmark_read_scan.specs.declared.class.Class.TheVariants.{White}
use Rattle.tocmark_read_scan.specs.declared.content.ContentLine.{ContentLine}
use Rattle.tocmark_read_page.specs.Definitions.{replaced}
use Rattle.tocmark_read_page.specs.declared.piece.Piece.{Piece}
use Rattle.tocmark_reader.specs.Pages.{content_line}
use Rattle.tocmark_reader.proofs.Zeros.{without_zeros, none_between}
use Rattle.tocmark_commonmark.specs.Beginnings.{begins_with}
use Rattle.tocmark_commonmark.specs.Leaves as leaves
use Rattle.tocmark_commonmark.specs.Leaves.{text_of}
use Rattle.tocmark_commonmark.specs.Lines.{is_blank_byte, without_last_blanks, with_feeds}
use Rattle.tocmark_text_laws.specs.Kept.{line_bytes, IsKept}
use Rattle.tocmark_text_laws.proofs.KeptLines.{lines_kept}
use Rattle.tocmark_block_laws.specs.Quotes.{ends_with_feed}
use Rattle.tocmark_block_laws.specs.Trees.{line_text}
use Rattle.tocmark_standard_laws.specs.Contents.{content_bytes, HasNoZero, ContentsAreDeclared}

-- a byte that isn't white is last, or none is
abbrev Inked : List ℕ → Type 0
Inked [] = Unit {0}
Inked (b ∷ []) = is_in White b ≡ false
Inked (b ∷ c ∷ bs) = Inked (c ∷ bs)

-- without the white bytes at the end
abbrev cut_before : ℕ → List ℕ → List ℕ
cut_before b [] = if is_in White b then [] else b ∷ []
cut_before b (c ∷ bs) = b ∷ c ∷ bs

abbrev cut : List ℕ → List ℕ
cut [] = []
cut (b ∷ bs) = cut_before b (cut bs)

cut_inked : (bs : List ℕ) → Inked bs → cut bs ≡ bs
cut_inked [] h = refl
cut_inked (b ∷ []) h = ap (λ k. if k then [] else b ∷ []) h
cut_inked (b ∷ c ∷ bs) h = ap (cut_before b) (cut_inked (c ∷ bs) h)

cut_white : (ws : List ℕ) → AllByRecursion (λ b. is_in White b ≡ true) ws → cut ws ≡ []
cut_white [] h = refl
cut_white (w ∷ ws) h = ap (cut_before w) (cut_white ws (h.1)) ∙ ap (λ k. if k then [] else w ∷ []) (h.0)

cut_behind : (bs ws : List ℕ) → AllByRecursion (λ b. is_in White b ≡ true) ws → cut (bs ++ ws) ≡ cut bs
cut_behind [] ws h = cut_white ws h
cut_behind (b ∷ bs) ws h = ap (cut_before b) (cut_behind bs ws h)

-- the reader's content ends with a byte that isn't white

abbrev Stops : List ℕ → ℕ → Type 0
Stops bs zero = Unit {0}
Stops bs (suc c) = is_in White (byte_at bs c) ≡ false

inked_take : (bs : List ℕ) (c : ℕ) → c ≤ length bs → Stops bs c → Inked (take c bs)
inked_take [] zero l h = tt
inked_take [] (suc c) l h = absurd (omega arith)
inked_take (b ∷ bs) zero l h = tt
inked_take (b ∷ bs) (suc zero) l h = h
inked_take (b ∷ []) (suc (suc c)) l h = absurd (omega arith)
inked_take (b ∷ d ∷ bs) (suc (suc c)) l h = inked_take (d ∷ bs) (suc c) (omega arith) h

record Ended (bs : List ℕ) (c : ℕ) : Type 0 where
  within : c ≤ length bs
  stops : Stops bs c

ends_inked : (bs : List ℕ) (n c : ℕ) → c ≤ n → c ≤ length bs → Ended bs (iterated (before_white bs) n c)
unfolding iterated before_white
ends_inked bs zero zero l m = record { within = m; stops = tt }
ends_inked bs zero (suc c) l m = absurd (omega arith)
ends_inked bs (suc n) zero l m = record { within = m; stops = tt }
ends_inked bs (suc n) (suc c) l m = by (suc c - 1) (omega arith) (nat_lt 0 (suc c)) (is_in White (byte_at bs (suc c - 1))) refl refl (ends_inked bs n (suc c - 1) (omega arith) (omega arith))
  where
    by : (d : ℕ) → d ≡ c → (x k : Bool) → nat_lt 0 (suc c) ≡ x → is_in White (byte_at bs d) ≡ k → Ended bs (iterated (before_white bs) n d) → Ended bs (going_on (λ y. iterated (before_white bs) n y) (suc c) (if x && k then Some d else None))
    by d e false k z q h = absurd (true≢false (let w : nat_lt 0 (suc c) ≡ true = grind (arith, nat_tests) in sym w ∙ z))
    by d e true true z q h = h
    by d e true false z q h = record { within = m; stops = subst (λ y. is_in White (byte_at bs y) ≡ false) e q }

content_inked : (text : List ℕ) (lines : List ContentLine) → Inked (content_of text lines).bytes
unfolding content_of
content_inked text lines = inked_take bytes (iterated (before_white bytes) (length bytes) (length bytes)) ends.within ends.stops
  where
    bytes : List ℕ
    bytes = (joined text lines).bytes

    ends : Ended bytes (iterated (before_white bytes) (length bytes) (length bytes))
    ends = ends_inked bytes (length bytes) (length bytes) (omega arith) (omega arith)

-- so does the declared text

abbrev pub dropped : List ℕ → List ℕ
dropped bs = drop (length (take_while is_blank_byte bs)) bs

abbrev HeadInk : List ℕ → Type 0
HeadInk [] = Unit {0}
HeadInk (b ∷ bs) = is_in White b ≡ false

inked_last : (bs : List ℕ) (b : ℕ) → is_in White b ≡ false → Inked (bs ++ b ∷ [])
inked_last [] b h = h
inked_last (c ∷ []) b h = h
inked_last (c ∷ d ∷ bs) b h = inked_last (d ∷ bs) b h

blank_white : (b : ℕ) → is_blank_byte b ≡ true → is_in White b ≡ true
unfolding is_in
blank_white b h = ap (λ k. k || (b == 10)) h

pub dropped_blank : (b : ℕ) (bs : List ℕ) → is_blank_byte b ≡ true → dropped (b ∷ bs) ≡ dropped bs
dropped_blank b bs h = ap (λ xs. drop (length xs) (b ∷ bs)) (take_while-cons is_blank_byte b bs ∙ ap (λ k. cond k (b ∷ take_while is_blank_byte bs) []) h)

pub dropped_ink : (b : ℕ) (bs : List ℕ) → is_blank_byte b ≡ false → dropped (b ∷ bs) ≡ b ∷ bs
dropped_ink b bs h = ap (λ xs. drop (length xs) (b ∷ bs)) (take_while-cons is_blank_byte b bs ∙ ap (λ k. cond k (b ∷ take_while is_blank_byte bs) []) h)

cut_reverse : (bs : List ℕ) → HeadInk (dropped bs) → cut (reverse bs) ≡ reverse (dropped bs)
cut_reverse [] h = refl
cut_reverse (b ∷ bs) h = ap cut (reverse-append (b ∷ []) bs) ∙ by (is_blank_byte b) refl (cut_reverse bs)
  where
    by : (k : Bool) → is_blank_byte b ≡ k → (HeadInk (dropped bs) → cut (reverse bs) ≡ reverse (dropped bs)) → cut (reverse bs ++ b ∷ []) ≡ reverse (dropped (b ∷ bs))
    by true e next = cut_behind (reverse bs) (b ∷ []) (blank_white b e, tt) ∙ next (subst HeadInk (dropped_blank b bs e) h) ∙ ap reverse (sym (dropped_blank b bs e))
    by false e next = cut_inked (reverse bs ++ b ∷ []) (inked_last (reverse bs) b (subst HeadInk (dropped_ink b bs e) h)) ∙ sym (reverse-append (b ∷ []) bs) ∙ ap reverse (sym (dropped_ink b bs e))

-- what is left begins with no blank; so only a line feed could be white
head_left : (bs : List ℕ) → begins_with 10 (dropped bs) ≡ false → HeadInk (dropped bs)
unfolding is_in
head_left [] h = tt
head_left (b ∷ bs) h = by (is_blank_byte b) refl (head_left bs)
  where
    by : (k : Bool) → is_blank_byte b ≡ k → (begins_with 10 (dropped bs) ≡ false → HeadInk (dropped bs)) → HeadInk (dropped (b ∷ bs))
    by true e next = subst HeadInk (sym (dropped_blank b bs e)) (next (ap (begins_with 10) (sym (dropped_blank b bs e)) ∙ h))
    by false e next = subst HeadInk (sym (dropped_ink b bs e)) (feedless e (ap (begins_with 10) (sym (dropped_ink b bs e)) ∙ h))
      where
        feedless : is_blank_byte b ≡ false → begins_with 10 (b ∷ bs) ≡ false → is_in White b ≡ false
        feedless k n = ap (λ x. x || (b == 10)) k ∙ n

cut_declared : (bs : List ℕ) → ends_with_feed (without_last_blanks bs) ≡ false → cut bs ≡ without_last_blanks bs
cut_declared bs h = ap cut (sym (reverse-reverse bs)) ∙ cut_reverse (reverse bs) (head_left (reverse bs) (ap (begins_with 10) (sym (reverse-reverse (dropped (reverse bs)))) ∙ h))

-- the lines

line_same : (text : List ℕ) (p : Piece) → HasNoZero text → line_bytes text (content_line p) ≡ line_text text p ++ 10 ∷ []
unfolding content_line
line_same text p h = ap (λ xs. xs ++ 10 ∷ []) (by (nat_le p.start p.end && nat_le p.end (length text)))
  where
    by : (k : Bool) → flat_map replaced (if k then slice_range text p.start p.end else []) ≡ (if k then slice_range text p.start p.end else [])
    by true = without_zeros (slice_range text p.start p.end) (none_between text p.start p.end h)
    by false = refl

lines_same : (text : List ℕ) (ps : List Piece) → HasNoZero text → flat_map (line_bytes text) (map content_line ps) ≡ with_feeds (map (line_text text) ps)
lines_same text [] h = refl
lines_same text (p ∷ ps) h = ap (λ xs. xs ++ flat_map (line_bytes text) (map content_line ps)) (line_same text p h) ∙ ap (λ xs. (line_text text p ++ 10 ∷ []) ++ xs) (lines_same text ps h)

-- lines with a line feed after each are those with one between each two, and one more
pub joined_feed : (t : List ℕ) (ts : List (List ℕ)) → with_feeds (t ∷ ts) ≡ leaves.joined (t ∷ ts) ++ 10 ∷ []
joined_feed t [] = append-nil (t ++ 10 ∷ [])
joined_feed t (u ∷ ts) = ap (λ xs. (t ++ 10 ∷ []) ++ xs) (joined_feed u ts) ∙ append_assoc t (10 ∷ []) (leaves.joined (u ∷ ts) ++ 10 ∷ []) ∙ sym (append_assoc t (10 ∷ leaves.joined (u ∷ ts)) (10 ∷ []))

feed_white : AllByRecursion (λ b. is_in White b ≡ true) (10 ∷ [])
unfolding is_in
feed_white = (refl, tt)

cut_lines : (texts : List (List ℕ)) → cut (with_feeds texts) ≡ cut (leaves.joined texts)
cut_lines [] = refl
cut_lines (t ∷ ts) = ap cut (joined_feed t ts) ∙ cut_behind (leaves.joined (t ∷ ts)) (10 ∷ []) feed_white

pub contents-declared : ContentsAreDeclared
contents-declared text ps zero_free h =
    sym (cut_inked (content_bytes text ps) (content_inked text (map content_line ps)))
    ∙ sym (cut_behind (content_bytes text ps) kept.white kept.all_white)
    ∙ ap cut (sym kept.whole)
    ∙ ap cut (lines_same text ps zero_free)
    ∙ cut_lines (map (line_text text) ps)
    ∙ cut_declared (leaves.joined (map (line_text text) ps)) h
  where
    kept : IsKept text (map content_line ps)
    kept = lines_kept text (map content_line ps)
