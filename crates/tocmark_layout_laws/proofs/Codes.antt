-- A thematic break and fenced code are declared of their lines.
use Rattle.std.proofs.Common.{◌≡◌, inl, inr, ℕ, zero, suc, ◌+◌, ◌^◌, ◌<◌, ◌≤◌, Bool, true, false, not, ◌==◌, ◌&&◌, cond, nat_lt, List, [], ◌∷◌, ◌++◌, length, map, replicate, drop, min, refl, ap, sym, ◌∙◌, arith, append_assoc, append-nil, length-append}
use Rattle.std.specs.Prelude.{Option, None, take_while}
use Rattle.std.specs.List.{AllByRecursion}
use Rattle.std.proofs.lemmas.List.{length-map, length-replicate}
use Rattle.std.proofs.lemmas.List.Sums.{take_while-cons}
use Rattle.tocmark_read_scan.specs.PlainParts.{last_byte}
use Rattle.tocmark_read_scan.proofs.PlainPieces.{drop_behind, piece_between}
use Rattle.tocmark_read_lines.specs.Cells.{first_cursor}
use Rattle.tocmark_read_lines.specs.Marks.{heading_at, is_behind, fence_at, is_fence_byte, tail_of, is_rule, is_rule_byte, marker_at, closes_fence}
use Rattle.tocmark_read_lines.specs.declared.beginnings.Fence.{Fence}
use Rattle.tocmark_read_lines.specs.declared.cell.Cell.{Cell}
use Rattle.tocmark_read_lines.specs.declared.html.HtmlKind.{HtmlKind}
use Rattle.tocmark_read_lines.specs.declared.line.Line.{Line as ReadLine}
use Rattle.tocmark_read_blocks.proofs.PlainLines.{IsWithin, cells_within, numbered}
use Rattle.tocmark_commonmark.specs.Beginnings.{FenceLine, RuleLine, first_of_these, html_if, begins_with, beginning}
use Rattle.tocmark_commonmark.specs.Blocks.{first_block}
use Rattle.tocmark_commonmark.specs.Leaves.{code_line, closes, info, fenced_code, fenced_code_of}
use Rattle.tocmark_commonmark.specs.Lines.{Line, Part, indent, ink, is_blank_byte, with_feeds, without_first_blanks, without_last_blanks, cells}
use Rattle.tocmark_commonmark.specs.Tree.{Rule, FencedCode, Found, ended, Taken, taken}
use Rattle.tocmark_laws.specs.CodeBlocks.{HasRun}
use Rattle.tocmark_laws.proofs.DocumentCode.{IsToken, IsInfo, IsFlush, IsShort, IsOpened, opener, closer, fence_of, code_kind, open_line, split_last}
use Rattle.tocmark_laws.proofs.DocumentCode as code
use Rattle.tocmark_document_laws.specs.DocumentLines.{code_text}
use Rattle.tocmark_layout_laws.proofs.Starts.{part_at, line_at, lines_at, lines_both}
use Rattle.tocmark_layout_laws.proofs.Fronts.{Inky, inky, whole_ink, flush, near, not_blank, EndsInk, end_kept}

-- a thematic break

abbrev pub dashes : List ℕ
dashes = 45 ∷ 45 ∷ 45 ∷ []

pub dash_within : IsWithin 45
dash_within = record { feed = refl; return = refl; tab = refl }

pub dashes_begin : (k : ℕ) → beginning (line_at k dashes) ≡ RuleLine
unfolding heading_at is_behind fence_at is_fence_byte first_cursor is_rule is_rule_byte tail_of
dashes_begin k = near k dashes (numbered 0 dashes) (inky 45 (45 ∷ 45 ∷ []) refl) (cells_within 0 dashes (dash_within, (dash_within, (dash_within, tt))) (omega arith))

abbrev pub rule_found : ℕ → Found
rule_found at = ended Rule at at

pub rule_takes : (bs : List Line → List Found) (at k : ℕ) (rest : List Line) → first_block bs at (line_at k dashes) rest (beginning (line_at k dashes)) ≡ taken (rule_found at) 1
rule_takes bs at k rest = ap (first_block bs at (line_at k dashes) rest) (dashes_begin k)

-- fenced code

pub token_inky : (token : ℕ) (bs : List ℕ) → IsToken token → Inky (token ∷ bs)
token_inky token bs (inl e) = inky token bs (ap is_blank_byte e)
token_inky token bs (inr e) = inky token bs (ap is_blank_byte e)

token_no_quote : (token : ℕ) → IsToken token → (token == 62) ≡ false
token_no_quote token (inl e) = ap (λ t. t == 62) e
token_no_quote token (inr e) = ap (λ t. t == 62) e

never : (k : Bool) → k && false ≡ false
never true = refl
never false = refl

-- a run in what is left of a line is in the line
drop_run : (n token j : ℕ) (l : List ℕ) → HasRun n token (drop j l) → HasRun n token l
drop_run n token zero [] r = r
drop_run n token zero (b ∷ bs) r = r
drop_run n token (suc j) [] r = r
drop_run n token (suc j) (b ∷ bs) r = let s : HasRun n token bs = drop_run n token j bs r in record { before = b ∷ s.before; after = s.after; is = ap (λ (xs : List ℕ). b ∷ xs) s.is }

line_goes : (token m k : ℕ) (l : List ℕ) → IsToken token → IsShort token m l → closes (fence_of token m) (line_at k l) ≡ false
unfolding first_cursor
line_goes token m k l is h =
    let p : Part = part_at k l in
    ap (λ z. nat_lt (indent p) 4 && z) (code.goes_on token m 0 (ink p) is (λ n r. h n (drop_run n token _ l r))) ∙ never (nat_lt (indent p) 4)

closer_ends : (token m k : ℕ) → IsToken token → AllByRecursion IsWithin (closer token m) → length (closer token m) < 2 ^ 64 → closes (fence_of token m) (line_at k (closer token m)) ≡ true
unfolding first_cursor
closer_ends token m k is within fits =
    let x : List ℕ = closer token m in
    let p : Part = part_at k x in
    let i : Inky x = token_inky token (replicate m token) is in
    let f : Fence = fence_of token m in
    let long : length x ≡ suc m = length-replicate (suc m) token in
    ap (λ n. nat_lt n 4 && closes_fence (cells (ink p)) (first_cursor (cells (ink p))) f) (flush k x i)
    ∙ ap (λ (xs : List ℕ). closes_fence (cells xs) (first_cursor (cells xs)) f) (whole_ink k x i)
    ∙ ap (λ (cs : List Cell). closes_fence cs (first_cursor cs) f) (cells_within 0 x within (omega (arith, fits)))
    ∙ code.closes token m 0 is (omega (arith, long, fits))

-- the lines up to the closing one
code_front : (token m k : ℕ) (ls : List (List ℕ)) (c : Line) (rest : List Line) → IsToken token → AllByRecursion (IsShort token m) ls → closes (fence_of token m) c ≡ true
    → take_while (λ l. not (closes (fence_of token m) l)) (lines_at k ls ++ c ∷ rest) ≡ lines_at k ls
code_front token m k [] c rest is h e =
    let p : Line → Bool = λ l. not (closes (fence_of token m) l) in
    take_while-cons p c rest ∙ ap (λ z. cond (not z) (c ∷ take_while p rest) []) e
code_front token m k (l ∷ ls) c rest is h e =
    let p : Line → Bool = λ l. not (closes (fence_of token m) l) in
    take_while-cons p (line_at k l) (lines_at k ls ++ c ∷ rest)
    ∙ ap (λ z. cond (not z) (line_at k l ∷ take_while p (lines_at k ls ++ c ∷ rest)) []) (line_goes token m k l is (h.0))
    ∙ ap (λ (xs : List Line). line_at k l ∷ xs) (code_front token m k ls c rest is (h.1) e)

code_text_is : (k : ℕ) (ls : List (List ℕ)) → with_feeds (map (code_line 0) (lines_at k ls)) ≡ code_text ls
code_text_is k [] = refl
code_text_is k (l ∷ ls) = ap (λ (t : List ℕ). (l ++ 10 ∷ []) ++ t) (code_text_is k ls)

last_within : (b : ℕ) (bs : List ℕ) → AllByRecursion IsWithin (b ∷ bs) → IsWithin (last_byte b bs)
last_within b [] h = h.0
last_within b (c ∷ cs) h = last_within c cs (h.1)

pub ends_ink : (b : ℕ) (bs : List ℕ) → AllByRecursion IsWithin (b ∷ bs) → (last_byte b bs == 32) ≡ false → EndsInk (b ∷ bs)
ends_ink b bs h e = let s = split_last b bs in record { body = s.0; last = last_byte b bs; split = s.1; ink = not_blank (last_byte b bs) e (last_within b bs h) }

info_kept : (x : List ℕ) → AllByRecursion IsWithin x → IsFlush x → without_last_blanks (without_first_blanks x) ≡ x
info_kept [] h f = refl
info_kept (b ∷ bs) h f =
    ap without_last_blanks (ap (λ (xs : List ℕ). drop (length xs) (b ∷ bs)) (inky b bs (not_blank b (f.0) (h.0))).front)
    ∙ end_kept (b ∷ bs) (ends_ink b bs h (f.1))

info_is : (token m : ℕ) (word : List ℕ) → AllByRecursion IsWithin word → IsFlush word → info (fence_of token m) (opener token m word) ≡ word
info_is token m word h f =
    let c : List ℕ = closer token m in
    let long : length c ≡ suc m = length-replicate (suc m) token in
    ap (λ n. without_last_blanks (without_first_blanks (drop n (c ++ word)))) (sym long)
    ∙ ap (λ (xs : List ℕ). without_last_blanks (without_first_blanks xs)) (drop_behind c word)
    ∙ info_kept word h f

pub opener_begins : (token m k : ℕ) (word : List ℕ) → AllByRecursion IsWithin (opener token m word) → IsToken token → 2 ≤ m → AllByRecursion (IsInfo token) word → IsFlush word → length (opener token m word) < 2 ^ 64
    → beginning (line_at k (opener token m word)) ≡ FenceLine (fence_of token m)
opener_begins token m k word within is least h flushed fits =
    near k x c i (cells_within 0 x within (omega (arith, fits)))
    ∙ ap (λ z. first_of_these p z (heading_at c 0) (fence_at c (first_cursor c)) html (is_rule c (tail_of c) 0) (marker_at c 0)) (token_no_quote token is)
    ∙ ap (λ z. first_of_these p false z (fence_at c (first_cursor c)) html (is_rule c (tail_of c) 0) (marker_at c 0)) (line.begins).heading
    ∙ ap (λ z. first_of_these p false None (fence_at c z) html (is_rule c (tail_of c) 0) (marker_at c 0)) (line.begins).ink
    ∙ ap (λ z. first_of_these p false None z html (is_rule c (tail_of c) 0) (marker_at c 0)) line.fence
    ∙ ap (λ n. FenceLine (let f : Fence = record { byte = token; count = suc m; indent = n } in f)) (flush k x i)
  where
    x : List ℕ
    x = opener token m word

    c : List Cell
    c = numbered 0 x

    p : Part
    p = part_at k x

    html : Option HtmlKind
    html = html_if (begins_with 60 x) x

    i : Inky x
    i = token_inky token (replicate m token ++ word) is

    l : ReadLine
    l = record { number = 0; start = 0; end = 0 + length x; next = 0 }

    line : IsOpened x c l (fence_of token m) (code_kind 0 token m word)
    line = open_line x token m word 0 0 0 (piece_between x [] x [] 0 (0 + length x) (sym (append-nil x)) refl refl) within is least h flushed (omega (arith, fits))

abbrev pub code_found : List ℕ → List (List ℕ) → ℕ → Found
code_found word ls at = ended (FencedCode word (code_text ls)) at (at + (length ls + 1))

pub code_takes : (token m : ℕ) (word : List ℕ) (ls : List (List ℕ)) → IsToken token → 2 ≤ m → AllByRecursion (IsInfo token) word → IsFlush word
    → AllByRecursion IsWithin (opener token m word) → AllByRecursion IsWithin word → AllByRecursion IsWithin (closer token m) → AllByRecursion (IsShort token m) ls
    → length (opener token m word) < 2 ^ 64 → length (closer token m) < 2 ^ 64
    → (bs : List Line → List Found) (at j k : ℕ) (rest : List Line)
    → first_block bs at (line_at j (opener token m word)) (lines_at k (ls ++ closer token m ∷ []) ++ rest) (beginning (line_at j (opener token m word)))
    ≡ taken (code_found word ls at) (suc (length (lines_at k (ls ++ closer token m ∷ []))))
code_takes token m word ls is least h flushed within word_within closer_within short fits closer_fits bs at j k rest =
    ap (first_block bs at (line_at j x) whole) (opener_begins token m j word within is least h flushed fits)
    ∙ ap (λ (t : List ℕ). fenced_code at f t whole) (whole_ink j x (token_inky token (replicate m token ++ word) is))
    ∙ ap (fenced_code at f x) split
    ∙ ap (fenced_code_of at f x (length parted)) (code_front token m k ls end rest is short (closer_ends token m k is closer_within closer_fits))
    ∙ ap (λ (t : List ℕ). made t (with_feeds (map (code_line 0) inside)) (min (length inside + 1) (length parted))) (info_is token m word word_within flushed)
    ∙ ap (λ (t : List ℕ). made word t (min (length inside + 1) (length parted))) (code_text_is k ls)
    ∙ ap (made word (code_text ls)) fewer
    ∙ ap (λ n. taken (code_found word ls at) n) count
  where
    f : Fence
    f = fence_of token m

    x : List ℕ
    x = opener token m word

    end : Line
    end = line_at k (closer token m)

    inside : List Line
    inside = lines_at k ls

    whole : List Line
    whole = lines_at k (ls ++ closer token m ∷ []) ++ rest

    parted : List Line
    parted = inside ++ end ∷ rest

    made : List ℕ → List ℕ → ℕ → Taken
    made w t n = taken (ended (FencedCode w t) at (at + n)) (n + 1)

    split : whole ≡ parted
    split = ap (λ (xs : List Line). xs ++ rest) (lines_both k ls (closer token m ∷ [])) ∙ append_assoc inside (end ∷ []) rest

    long : length inside ≡ length ls
    long = length-map ls (line_at k)

    wide : length parted ≡ length inside + suc (length rest)
    wide = length-append inside (end ∷ rest)

    fewer : min (length inside + 1) (length parted) ≡ length ls + 1
    fewer = omega (arith, long, wide)

    all : length (lines_at k (ls ++ closer token m ∷ [])) ≡ length ls + 1
    all = length-map (ls ++ closer token m ∷ []) (line_at k) ∙ length-append ls (closer token m ∷ [])

    count : length ls + 1 + 1 ≡ suc (length (lines_at k (ls ++ closer token m ∷ [])))
    count = omega (arith, all)
