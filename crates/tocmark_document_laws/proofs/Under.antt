-- Lines below a text, each after a line feed and a prefix, and what is laid as such lines.
use Rattle.std.proofs.Common.{◌≡◌, ℕ, zero, suc, ◌+◌, ◌<◌, true, if◌then◌else◌, nat_lt, List, [], ◌∷◌, ◌++◌, length, map, replicate, flat_map, refl, ap, sym, subst, ◌∙◌, arith, append_assoc, append-nil}
use Rattle.std.proofs.lemmas.Bool.Decides.{nat_tests}
use Rattle.std.specs.List.{AllByRecursion, concat}
use Rattle.tocmark_spelling.specs.Page.{Sheet, laid, put_byte, lead}
use Rattle.tocmark_write_renderer.proofs.Laid.{laid-part, laid-append}
use Rattle.tocmark_write_renderer.specs.WriterOf.{HasNoFeed}

-- lines below a text, after this prefix
abbrev pub under : List ℕ → List (List ℕ) → List ℕ
under p ls = flat_map (λ l. 10 ∷ (p ++ l)) ls

-- lines of which the first one goes on where the text is
abbrev pub lines_at : List ℕ → List (List ℕ) → List ℕ
lines_at p [] = []
lines_at p (l ∷ ls) = l ++ under p ls

pub under_append : (p : List ℕ) (xs ys : List (List ℕ)) → under p (xs ++ ys) ≡ under p xs ++ under p ys
under_append p [] ys = refl
under_append p (x ∷ xs) ys =
    ap (λ (t : List ℕ). (10 ∷ (p ++ x)) ++ t) (under_append p xs ys) ∙ sym (append_assoc (10 ∷ (p ++ x)) (under p xs) (under p ys))

-- what is before each line can be part of the prefix
pub under_map : (p q : List ℕ) (ls : List (List ℕ)) → under p (map (λ l. q ++ l) ls) ≡ under (p ++ q) ls
under_map p q [] = refl
under_map p q (l ∷ ls) =
    ap (λ (t : List ℕ). (10 ∷ t) ++ under p (map (λ l. q ++ l) ls)) (sym (append_assoc p q l)) ∙ ap (λ (t : List ℕ). (10 ∷ ((p ++ q) ++ l)) ++ t) (under_map p q ls)

-- a line below, and the lines below it
pub under_first : (p : List ℕ) (l : List ℕ) (ls : List (List ℕ)) → under p (l ∷ ls) ≡ 10 ∷ (p ++ lines_at p (l ∷ ls))
under_first p l ls = ap (λ (t : List ℕ). 10 ∷ t) (append_assoc p l (under p ls))

-- a line feed after a line, and the lines below
pub lines_then : (p text line next : List ℕ) (rest : List (List ℕ)) → (((text ++ line) ++ 10 ∷ []) ++ p) ++ lines_at p (next ∷ rest) ≡ text ++ lines_at p (line ∷ next ∷ rest)
lines_then p text line next rest =
    let below : List ℕ = lines_at p (next ∷ rest) in
    append_assoc ((text ++ line) ++ 10 ∷ []) p below
    ∙ append_assoc (text ++ line) (10 ∷ []) (p ++ below)
    ∙ append_assoc text line (10 ∷ (p ++ below))
    ∙ ap (λ (x : List ℕ). text ++ (line ++ x)) (sym (under_first p next rest))

pub lines_at_append : (p : List ℕ) (l : List ℕ) (xs ys : List (List ℕ)) → lines_at p (l ∷ xs ++ ys) ≡ lines_at p (l ∷ xs) ++ under p ys
lines_at_append p l xs ys = ap (λ (t : List ℕ). l ++ t) (under_append p xs ys) ∙ sym (append_assoc l (under p xs) (under p ys))

-- the text to which the next byte is added
abbrev pub text_at : List ℕ → Sheet → List ℕ
text_at p s = s.text ++ lead p s.feeds

abbrev pub within : List ℕ → Sheet
within text = record { text = text; feeds = 0 }

-- line feeds after a text
abbrev pub fed : List ℕ → ℕ → List ℕ → Sheet
fed p n t = laid p (replicate n 10) (within t)

pos_more : (n : ℕ) → nat_lt 0 (n + 1) ≡ true
pos_more n = grind (arith, nat_tests)

regrouped : (a p u : List ℕ) → ((a ++ 10 ∷ []) ++ p) ++ u ≡ a ++ ((10 ∷ (p ++ [])) ++ u)
regrouped a p u =
    append_assoc (a ++ 10 ∷ []) p u
    ∙ append_assoc a (10 ∷ []) (p ++ u)
    ∙ ap (λ (q : List ℕ). a ++ (10 ∷ (q ++ u))) (sym (append-nil p))

more_fed : (p : List ℕ) (n : ℕ) (s : Sheet) → nat_lt 0 s.feeds ≡ true → text_at p (laid p (replicate n 10) s) ≡ (s.text ++ p) ++ under p (replicate n [])
more_fed p zero s h = ap (λ b. s.text ++ (if b then p else [])) h ∙ sym (append-nil (s.text ++ p))
more_fed p (suc n) s h =
    more_fed p n (put_byte p 10 s) (pos_more s.feeds)
    ∙ ap (λ b. (((s.text ++ (if b then p else [])) ++ 10 ∷ []) ++ p) ++ under p (replicate n [])) h
    ∙ regrouped (s.text ++ p) p (under p (replicate n []))

-- after line feeds the text goes on below as many empty lines
pub fed_at : (p : List ℕ) (n : ℕ) (t : List ℕ) → text_at p (fed p n t) ≡ t ++ under p (replicate n [])
fed_at p zero t = refl
fed_at p (suc n) t =
    more_fed p n (put_byte p 10 (within t)) refl
    ∙ ap (λ (x : List ℕ). ((x ++ 10 ∷ []) ++ p) ++ under p (replicate n [])) (append-nil t)
    ∙ regrouped t p (under p (replicate n []))

pub feeds_fed : (p : List ℕ) (n : ℕ) (s : Sheet) → (laid p (replicate n 10) s).feeds ≡ s.feeds + n
feeds_fed p zero s = omega arith
feeds_fed p (suc n) s = feeds_fed p n (put_byte p 10 s) ∙ (let q : s.feeds + 1 + n ≡ s.feeds + suc n = omega arith in q)

-- a text that begins below empty lines: its lines are below a text
pub below : (p : List ℕ) (n : ℕ) (t : List ℕ) (l : List ℕ) (ls : List (List ℕ)) → text_at p (fed p (suc n) t) ++ lines_at p (l ∷ ls) ≡ t ++ under p (replicate n [] ++ (l ∷ ls))
below p n t l ls =
    ap (λ (x : List ℕ). x ++ lines_at p (l ∷ ls)) (fed_at p (suc n) t)
    ∙ append_assoc t (under p (replicate (suc n) [])) (lines_at p (l ∷ ls))
    ∙ ap (λ (x : List ℕ). t ++ x) (below_blanks n)
  where
    below_blanks : (n : ℕ) → under p (replicate (suc n) []) ++ lines_at p (l ∷ ls) ≡ under p (replicate n [] ++ (l ∷ ls))
    below_blanks zero =
        ap (λ (x : List ℕ). 10 ∷ (x ++ lines_at p (l ∷ ls))) (append-nil (p ++ []) ∙ append-nil p)
        ∙ sym (under_first p l ls)
    below_blanks (suc n) =
        append_assoc (10 ∷ (p ++ [])) (under p (replicate (suc n) [])) (lines_at p (l ∷ ls)) ∙ ap (λ (x : List ℕ). (10 ∷ (p ++ [])) ++ x) (below_blanks n)

-- a line that isn't empty, laid
pub line_laid : (p l : List ℕ) (s : Sheet) → 0 < length l → HasNoFeed l → laid p l s ≡ within (text_at p s ++ l)
line_laid p l s some h = laid-part p l s h (λ z. omega (arith, z, some))

-- lines of code

abbrev pub line_texts : List (List ℕ) → List (List ℕ)
line_texts ls = map (λ l. l ++ 10 ∷ []) ls

-- a line with its line feed, where a line begins
record IsBelow (p l : List ℕ) (s t : Sheet) : Type 0 where
  text : t.text ≡ ((s.text ++ p) ++ l) ++ 10 ∷ []
  feeds : nat_lt 0 t.feeds ≡ true

line_below : (p l : List ℕ) (s : Sheet) → nat_lt 0 s.feeds ≡ true → HasNoFeed l → IsBelow p l s (laid p (l ++ 10 ∷ []) s)
line_below p [] s some h = record {
  text = ap (λ b. (s.text ++ (if b then p else [])) ++ 10 ∷ []) some ∙ ap (λ (x : List ℕ). x ++ 10 ∷ []) (sym (append-nil (s.text ++ p)));
  feeds = pos_more s.feeds;
}
line_below p (b ∷ bs) s some h =
    subst (λ (t : Sheet). IsBelow p (b ∷ bs) s t) (sym (laid-append p (b ∷ bs) (10 ∷ []) s ∙ ap (laid p (10 ∷ [])) (line_laid p (b ∷ bs) s (omega arith) h)))
    (record {
      text = ap (λ (x : List ℕ). x ++ 10 ∷ []) (append-nil (text_at p s ++ b ∷ bs)) ∙ ap (λ c. ((s.text ++ (if c then p else [])) ++ b ∷ bs) ++ 10 ∷ []) some;
      feeds = pos_more 0;
    })

pub lines_feeds : (p : List ℕ) (ls : List (List ℕ)) (s : Sheet) → nat_lt 0 s.feeds ≡ true → AllByRecursion HasNoFeed ls → nat_lt 0 (laid p (concat (line_texts ls)) s).feeds ≡ true
lines_feeds p [] s some h = some
lines_feeds p (l ∷ ls) s some h =
    ap (λ (x : Sheet). nat_lt 0 x.feeds) (laid-append p (l ++ 10 ∷ []) (concat (line_texts ls)) s)
    ∙ lines_feeds p ls (laid p (l ++ 10 ∷ []) s) (line_below p l s some (h.0)).feeds (h.1)

pub some_under : (p : List ℕ) (ls : List (List ℕ)) (last : List ℕ) → under p (ls ++ last ∷ []) ≡ 10 ∷ (p ++ lines_at p (ls ++ last ∷ []))
some_under p [] last = under_first p last []
some_under p (l ∷ ls) last = under_first p l (ls ++ last ∷ [])

-- lines and then a last one
pub lines_laid : (p : List ℕ) (ls : List (List ℕ)) (last : List ℕ) (s : Sheet) → nat_lt 0 s.feeds ≡ true → AllByRecursion HasNoFeed ls → 0 < length last → HasNoFeed last →
    laid p last (laid p (concat (line_texts ls)) s) ≡ within ((s.text ++ p) ++ lines_at p (ls ++ last ∷ []))
lines_laid p [] last s some h long none =
    line_laid p last s long none
    ∙ ap (λ b. within ((s.text ++ (if b then p else [])) ++ last)) some
    ∙ ap (λ (x : List ℕ). within ((s.text ++ p) ++ x)) (sym (append-nil last))
lines_laid p (l ∷ ls) last s some h long none =
    let t : Sheet = laid p (l ++ 10 ∷ []) s in
    let below : IsBelow p l s t = line_below p l s some (h.0) in
    let rest : List ℕ = lines_at p (ls ++ last ∷ []) in
    ap (laid p last) (laid-append p (l ++ 10 ∷ []) (concat (line_texts ls)) s)
    ∙ lines_laid p ls last t below.feeds (h.1) long none
    ∙ ap (λ (x : List ℕ). within ((x ++ p) ++ rest)) below.text
    ∙ ap within (append_assoc (((s.text ++ p) ++ l) ++ 10 ∷ []) p rest ∙ append_assoc ((s.text ++ p) ++ l) (10 ∷ []) (p ++ rest) ∙ append_assoc (s.text ++ p) l (10 ∷ (p ++ rest)))
    ∙ ap (λ (x : List ℕ). within ((s.text ++ p) ++ (l ++ x))) (sym (some_under p ls last))
