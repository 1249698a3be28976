-- The lines of a text of lines, and how much fuel they need.
use Rattle.std.proofs.Common.{◌≡◌, ℕ, suc, ◌+◌, ◌<◌, Bool, true, false, ◌==◌, ◌&&◌, List, [], ◌∷◌, ◌++◌, length, refl, ap, sym, subst, ◌∙◌, arith, append_assoc, append-nil, length-append}
use Rattle.std.specs.List.{AllByRecursion, fold}
use Rattle.tocmark_commonmark.specs.Blocks.{size, blocks_from, blocks, blocks_of}
use Rattle.tocmark_commonmark.specs.Lines.{Line, line_bytes, last_line, plain_bytes, lines_after, lines_of}
use Rattle.tocmark_commonmark.specs.Tree.{Blocks, tree}
use Rattle.tocmark_document_laws.specs.DocumentLines.{joined}
use Rattle.tocmark_layout_laws.proofs.Starts.{line_at, lines_at, need, Becomes}

-- a byte that ends no line, and isn't U+0000
pub record IsBare (b : ℕ) : Type 0 where
  pub feed : (b == 10) ≡ false
  pub return : (b == 13) ≡ false
  pub zero_byte : (b == 0) ≡ false

abbrev pub AreBare : List ℕ → Type 0
AreBare l = AllByRecursion IsBare l

abbrev pub LinesBare : List (List ℕ) → Type 0
LinesBare ls = AllByRecursion AreBare ls

-- the last line has a byte
abbrev pub Ends : List (List ℕ) → Type 0
Ends [] = ⊥
Ends (l ∷ []) = 0 < length l
Ends (l ∷ m ∷ ms) = Ends (m ∷ ms)

pub ends_behind : (xs ys : List (List ℕ)) → Ends ys → Ends (xs ++ ys)
ends_behind [] ys h = h
ends_behind (x ∷ []) [] h = absurd h
ends_behind (x ∷ []) (y ∷ ys) h = h
ends_behind (x ∷ z ∷ zs) ys h = ends_behind (z ∷ zs) ys h

-- lines with a line feed between two
abbrev pub text_of : List (List ℕ) → List ℕ
text_of [] = []
text_of (l ∷ []) = l
text_of (l ∷ m ∷ ms) = l ++ 10 ∷ text_of (m ∷ ms)

pub joined_is : (ls : List (List ℕ)) → joined ls ≡ text_of ls
joined_is [] = refl
joined_is (l ∷ []) = append-nil l
joined_is (l ∷ m ∷ ms) = ap (λ (t : List ℕ). l ++ 10 ∷ t) (joined_is (m ∷ ms))

-- bytes that are kept as they are
abbrev AreKept : List ℕ → Type 0
AreKept xs = AllByRecursion (λ b. ((b == 13) ≡ false) × ((b == 0) ≡ false)) xs

never : (k : Bool) → k && false ≡ false
never true = refl
never false = refl

kept_same : (xs : List ℕ) → AreKept xs → plain_bytes false xs ≡ xs
kept_same [] h = refl
kept_same (b ∷ bs) h = rw ((h.0).0, never (b == 10), (h.0).1) (ap (λ (ys : List ℕ). b ∷ ys) (kept_same bs (h.1)))

line_kept : (l : List ℕ) (rest : List ℕ) → AreBare l → AreKept rest → AreKept (l ++ rest)
line_kept [] rest h k = k
line_kept (b ∷ bs) rest h k = (((h.0).return, (h.0).zero_byte), line_kept bs rest (h.1) k)

text_kept : (ls : List (List ℕ)) → LinesBare ls → AreKept (text_of ls)
text_kept [] h = tt
text_kept (l ∷ []) h = subst AreKept (append-nil l) (line_kept l [] (h.0) tt)
text_kept (l ∷ m ∷ ms) h = line_kept l (10 ∷ text_of (m ∷ ms)) (h.0) ((refl, refl), text_kept (m ∷ ms) (h.1))

-- a line goes on with its bytes
line_read : (part l rest : List ℕ) → AreBare l → lines_after part (l ++ rest) ≡ lines_after (part ++ l) rest
line_read part [] rest h = ap (λ (xs : List ℕ). lines_after xs rest) (sym (append-nil part))
line_read part (b ∷ bs) rest h = rw (h.0).feed (line_read (part ++ b ∷ []) bs rest (h.1) ∙ ap (λ (xs : List ℕ). lines_after xs rest) (append_assoc part (b ∷ []) bs))

last_is : (l : List ℕ) → 0 < length l → last_line l ≡ lines_at 0 (l ∷ [])
last_is [] h = absurd (omega (arith, h))
last_is (b ∷ bs) h = refl

text_lines : (ls : List (List ℕ)) → LinesBare ls → Ends ls → lines_after [] (text_of ls) ≡ lines_at 0 ls
text_lines [] h e = absurd e
text_lines (l ∷ []) h e = ap (lines_after []) (sym (append-nil l)) ∙ line_read [] l [] (h.0) ∙ last_is l e
text_lines (l ∷ m ∷ ms) h e = line_read [] l (10 ∷ text_of (m ∷ ms)) (h.0) ∙ ap (λ (xs : List Line). line_at 0 l ∷ xs) (text_lines (m ∷ ms) (h.1) e)

-- the lines of lines as one text are these lines
pub lines_are : (ls : List (List ℕ)) → LinesBare ls → Ends ls → lines_of (joined ls) ≡ lines_at 0 ls
lines_are ls h e = ap (λ (t : List ℕ). lines_after [] (plain_bytes false t)) (joined_is ls) ∙ ap (lines_after []) (kept_same (text_of ls) (text_kept ls h)) ∙ text_lines ls h e

size_from : (n : ℕ) (ls : List Line) → fold (λ (n : ℕ) (l : Line). n + length (line_bytes l) + 1) n ls ≡ n + need ls
size_from n [] = omega arith
size_from n (l ∷ ls) = let a = size_from (n + length (line_bytes l) + 1) ls in a ∙ omega arith

pub size_is : (ls : List Line) → size ls ≡ need ls
size_is ls = size_from 0 ls ∙ omega arith

-- each line is shorter than this
abbrev pub AreShort : ℕ → List (List ℕ) → Type 0
AreShort n ls = AllByRecursion (λ (l : List ℕ). length l < n) ls

pub text_short : (n : ℕ) (ls : List (List ℕ)) → length (text_of ls) < n → AreShort n ls
text_short n [] h = tt
text_short n (l ∷ []) h = (h, tt)
text_short n (l ∷ m ∷ ms) h =
    let both : length (l ++ 10 ∷ text_of (m ∷ ms)) ≡ length l + suc (length (text_of (m ∷ ms))) = length-append l (10 ∷ text_of (m ∷ ms)) in
    (omega (arith, both, h), text_short n (m ∷ ms) (omega (arith, both, h)))

-- what is true of all of two lists

pub all_both : {A : Type 0} (P : A → Type 0) (xs ys : List A) → AllByRecursion P xs → AllByRecursion P ys → AllByRecursion P (xs ++ ys)
all_both P [] ys h k = k
all_both P (x ∷ xs) ys h k = (h.0, all_both P xs ys (h.1) k)

pub all_front : {A : Type 0} (P : A → Type 0) (xs ys : List A) → AllByRecursion P (xs ++ ys) → AllByRecursion P xs
all_front P [] ys h = tt
all_front P (x ∷ xs) ys h = (h.0, all_front P xs ys (h.1))

pub all_behind : {A : Type 0} (P : A → Type 0) (xs ys : List A) → AllByRecursion P (xs ++ ys) → AllByRecursion P ys
all_behind P [] ys h = h
all_behind P (x ∷ xs) ys h = all_behind P xs ys (h.1)

-- the blocks of a text of such lines are those of the lines
pub text_declared : (ls : List (List ℕ)) (t : Blocks) → LinesBare ls → Ends ls → Becomes (lines_at 0 ls) t → blocks_of (joined ls) ≡ t
unfolding blocks_of blocks
text_declared ls t bare ends become =
    ap (λ (xs : List Line). tree (blocks_from (size xs) 0 xs)) (lines_are ls bare ends)
    ∙ become (size (lines_at 0 ls)) 0 (omega (arith, size_is (lines_at 0 ls)))
