-- Fenced code on a page: its opening line, the lines of its text, and its closing line.
use Rattle.std.proofs.Common.{◌≡◌, ℕ, zero, suc, ◌+◌, ◌-◌, ◌%◌, ◌^◌, ◌<◌, ◌≤◌, min, Bool, true, false, not, ◌==◌, ◌&&◌, cond, if◌then◌else◌, nat_lt, nat_le, List, [], ◌∷◌, ◌++◌, length, drop, replicate, refl, ap, sym, subst, ◌∙◌, arith, append_assoc, append-nil, length-append, eq-eqb, Some, None, Option, ◌⊎◌, inl, inr}
use Rattle.std.proofs.Math.Nat.{mod-lt}
use Rattle.std.proofs.Math.Seq.{take-length}
use Rattle.std.proofs.lemmas.List.{length-replicate}
use Rattle.std.proofs.lemmas.List.Sums.{take_while-cons}
use Rattle.std.proofs.lemmas.Bool.Decides.{nat_tests}
use Rattle.std.specs.List.{AllByRecursion}
use Rattle.std.specs.Prelude.{take_while, filter}
use Rattle.tocmark_read_scan.specs.Basic.{plus, bytes_between}
use Rattle.tocmark_read_scan.proofs.PlainPieces.{drop_behind}
use Rattle.tocmark_read_scan.proofs.PlainTests.{eq_of}
use Rattle.tocmark_read_scan.proofs.Repeats.{repeated_stop}
use Rattle.tocmark_read_scan.specs.PlainParts.{last_byte}
use Rattle.tocmark_read_lines.specs.Cells.{cell, filled, cells_of, cell_byte, cell_place, first_cursor, ink_from, indent_of, run_of, count_of, trailing, trimmed}
use Rattle.tocmark_read_lines.specs.Containers.{container_at, container_in, item_at, raised_at}
use Rattle.tocmark_read_lines.specs.DefinitionLists.{definition_start}
use Rattle.tocmark_read_lines.specs.Marks.{is_rule, is_rule_byte, is_behind, marker_at, bullet_at, ordered_at, heading_at, fence_at, is_fence_byte, closes_fence, tail_of}
use Rattle.tocmark_read_lines.specs.Footnotes.{note_start}
use Rattle.tocmark_read_lines.specs.declared.beginnings.Fence.{Fence}
use Rattle.tocmark_read_lines.specs.declared.cell.Cell.{Cell}
use Rattle.tocmark_read_lines.specs.declared.cell.Cursor.{Cursor}
use Rattle.tocmark_read_lines.specs.declared.line.Line.{Line}
use Rattle.tocmark_read_page.specs.Leaves.{is_paragraph}
use Rattle.tocmark_read_page.specs.Pages.{State, leaf_opened, leaf_closed, closed_to, times, list_left, begun, loosened, had_marked, list_of, is_apart, leaf_finished, finished, piece_taken}
use Rattle.tocmark_read_page.specs.Pieces.{piece_of, code_piece, is_split, keeps_line}
use Rattle.tocmark_read_page.specs.declared.leaf.Leaf.TheVariants as leaf
use Rattle.tocmark_read_page.specs.declared.page.Block.{Block}
use Rattle.tocmark_read_page.specs.declared.page.BlockKind.{BlockKind}
use Rattle.tocmark_read_page.specs.declared.page.BlockKind.TheVariants as kind
use Rattle.tocmark_read_page.specs.declared.page.HeaderLine.TheVariants.{Never}
use Rattle.tocmark_read_page.specs.declared.piece.Piece.{Piece}
use Rattle.tocmark_read_constructs.specs.Metadata.{metadata_in}
use Rattle.tocmark_read_constructs.specs.Quotes.{quote_kind_in, tag_in}
use Rattle.tocmark_read_constructs.specs.Tasks.{task_in}
use Rattle.tocmark_read_blocks.specs.Blocks.{core_known, turn_taken_in, leaf_ended, leaf_started_in, started_in, cells_taken_in, line_taken_in, leaf_started, started_at, passed_in, turn_in, turn_of, touched, cells_taken, line_taken, started}
use Rattle.tocmark_read_blocks.specs.Codes.{code_taken, fence_started, html_ended, info_of}
use Rattle.tocmark_read_blocks.specs.Containers.{container_once_in, container_once, containers_opened, goes_directly, begun_at}
use Rattle.tocmark_read_blocks.specs.Leaves.{leaf_at, mark_at, leaf_turn, metadata_or, task_or, quote_kind_or, tag_or}
use Rattle.tocmark_read_blocks.specs.declared.leaf.LeafStart.TheVariants as start
use Rattle.tocmark_read_blocks.specs.declared.leaf.Turn.TheVariants as turn
use Rattle.tocmark_read_blocks.proofs.PlainLines.{IsWithin, numbered, cells_within}
use Rattle.tocmark_read_blocks.proofs.PlainSteps.{front}
use Rattle.tocmark_laws.specs.CodeBlocks.{HasRun}
use Rattle.tocmark_laws.proofs.DocumentBlocks.{block, closed, here, get_last, set_last, piece_taken_whole}
use Rattle.tocmark_laws.proofs.DocumentHeadings.{numbered_append, numbered_length, part_whole, trimmed_none, past_last, place_behind, some_cells}

-- a fence is of backticks or tildes
abbrev pub IsToken : ℕ → Type 0
IsToken token = (token ≡ 96) ⊎ (token ≡ 126)

-- a byte of an info string that means itself
pub record IsInfo (token b : ℕ) : Type 0 where
  pub within : IsWithin b
  pub tick : (b == 96) ≡ false
  pub other : (b == token) ≡ false
  pub back : (b == 92) ≡ false
  pub amp : (b == 38) ≡ false

-- an info string has no space at its ends
abbrev pub IsFlush : List ℕ → Type 0
IsFlush [] = Unit {0}
IsFlush (b ∷ bs) = ((b == 32) ≡ false) × ((last_byte b bs == 32) ≡ false)

-- the opening and the closing line
abbrev pub opener : ℕ → ℕ → List ℕ → List ℕ
opener token m info = replicate (suc m) token ++ info

abbrev pub closer : ℕ → ℕ → List ℕ
closer token m = replicate (suc m) token

abbrev pub fence_of : ℕ → ℕ → Fence
fence_of token m = record { byte = token; count = suc m; indent = 0 }

-- the front of a line that a fence is

pub record IsFront (cells : List Cell) : Type 0 where
  pub some : nat_le (length cells) 0 ≡ false
  pub ink : first_cursor cells ≡ front
  pub quote : (cell_byte cells 0 == 62) ≡ false
  pub rule : is_rule cells (tail_of cells) 0 ≡ false
  pub marker : marker_at cells 0 ≡ None
  pub heading : heading_at cells 0 ≡ None

ticks_front : (at : ℕ) (bs : List ℕ) → IsFront (numbered at (96 ∷ bs))
unfolding first_cursor is_rule is_rule_byte marker_at bullet_at ordered_at heading_at is_behind
ticks_front at bs = record {
  some = some_cells (length (numbered (at + 1) bs));
  ink = refl;
  quote = refl;
  rule = refl;
  marker = refl;
  heading = rw (some_cells (length (numbered (at + 1) bs))) refl;
}

tildes_front : (at : ℕ) (bs : List ℕ) → IsFront (numbered at (126 ∷ bs))
unfolding first_cursor is_rule is_rule_byte marker_at bullet_at ordered_at heading_at is_behind
tildes_front at bs = record {
  some = some_cells (length (numbered (at + 1) bs));
  ink = refl;
  quote = refl;
  rule = refl;
  marker = refl;
  heading = rw (some_cells (length (numbered (at + 1) bs))) refl;
}

token_front : (token at : ℕ) (bs : List ℕ) → IsToken token → IsFront (numbered at (token ∷ bs))
token_front token at bs (inl e) = subst (λ t. IsFront (numbered at (t ∷ bs))) (sym e) (ticks_front at bs)
token_front token at bs (inr e) = subst (λ t. IsFront (numbered at (t ∷ bs))) (sym e) (tildes_front at bs)

token_no_space : (token : ℕ) → IsToken token → (token == 32) ≡ false
token_no_space token (inl e) = ap (λ t. t == 32) e
token_no_space token (inr e) = ap (λ t. t == 32) e

space_apart : (token : ℕ) → IsToken token → (32 == token) ≡ false
space_apart token (inl e) = ap (λ t. 32 == t) e
space_apart token (inr e) = ap (λ t. 32 == t) e

-- runs

abbrev StopsRun : ℕ → List ℕ → Type 0
StopsRun token [] = Unit {0}
StopsRun token (b ∷ bs) = (b == token) ≡ false

one_more : (token : ℕ) (c : Cell) (cs : List Cell) → (c.byte == token) ≡ true → take_while (λ (c : Cell). c.byte == token) (c ∷ cs) ≡ c ∷ take_while (λ (c : Cell). c.byte == token) cs
one_more token c cs h = take_while-cons (λ (c : Cell). c.byte == token) c cs ∙ ap (λ x. cond x (c ∷ take_while (λ (c : Cell). c.byte == token) cs) []) h

run_front : (n token at : ℕ) (bs : List ℕ) → StopsRun token bs → length (take_while (λ (c : Cell). c.byte == token) (numbered at (replicate n token ++ bs))) ≡ n
run_front zero token at [] h = refl
run_front zero token at (b ∷ bs) h = rw h refl
run_front (suc n) token at bs h = ap length (one_more token (cell token at) (numbered (at + 1) (replicate n token ++ bs)) (eq-eqb token token refl)) ∙ ap suc (run_front n token (at + 1) bs h)

none_filtered : (token at : ℕ) (info : List ℕ) → AllByRecursion (IsInfo token) info → length (filter (λ (c : Cell). c.byte == 96) (numbered at info)) ≡ 0
none_filtered token at [] h = refl
none_filtered token at (b ∷ bs) h = rw (h.0).tick (none_filtered token (at + 1) bs (h.1))

-- columns of bytes: for a tab some spaces, and for each other byte one column
abbrev Spreads : List Cell → List ℕ → Type 0
Spreads cells [] = cells ≡ []
Spreads cells (b ∷ bs) =
    ((n : ℕ) × (at : ℕ) × (cs : List Cell) × (cells ≡ replicate (suc n) (cell 32 at) ++ cs) × Spreads cs bs)
    ⊎ ((at : ℕ) × (cs : List Cell) × (cells ≡ cell b at ∷ cs) × Spreads cs bs)

spread_of : (pre : List Cell) (at : ℕ) (bs : List ℕ) → (tail : List Cell) × (cells_of pre at bs ≡ pre ++ tail) × Spreads tail bs
unfolding filled
spread_of pre at [] = ([], sym (append-nil pre), refl)
spread_of pre at (b ∷ bs) = by_tab (b == 9) refl (λ x. spread_of (pre ++ x) (plus at 1) bs)
  where
    Found : Type 0
    Found = (tail : List Cell) × (cells_of pre at (b ∷ bs) ≡ pre ++ tail) × Spreads tail (b ∷ bs)

    by_tab : (k : Bool) → (b == 9) ≡ k → ((x : List Cell) → (tail : List Cell) × (cells_of (pre ++ x) (plus at 1) bs ≡ (pre ++ x) ++ tail) × Spreads tail bs) → Found
    by_tab true e more =
        let n : ℕ = 4 - length pre % 4 - 1 in
        let low : length pre % 4 < 4 = mod-lt (length pre) (omega arith) in
        let some : 4 - length pre % 4 ≡ suc n = omega (arith, low) in
        let spaces : List Cell = replicate (suc n) (cell 32 at) in
        let rest = more spaces in (
          spaces ++ rest.0,
          ap (λ t. cells_of (if t then pre ++ replicate (4 - length pre % 4) (cell 32 at) else pre ++ cell b at ∷ []) (plus at 1) bs) e
              ∙ ap (λ k. cells_of (pre ++ replicate k (cell 32 at)) (plus at 1) bs) some
              ∙ rest.1
              ∙ append_assoc pre spaces (rest.0),
          inl (n, at, rest.0, refl, rest.2),
        )
    by_tab false e more =
        let rest = more (cell b at ∷ []) in (
          cell b at ∷ rest.0,
          ap (λ t. cells_of (if t then pre ++ replicate (4 - length pre % 4) (cell 32 at) else pre ++ cell b at ∷ []) (plus at 1) bs) e
              ∙ rest.1
              ∙ append_assoc pre (cell b at ∷ []) (rest.0),
          inr (at, rest.0, refl, rest.2),
        )

abbrev run_at : ℕ → List Cell → ℕ
run_at token cells = length (take_while (λ (c : Cell). c.byte == token) cells)

front_kept : (cells : List Cell) → drop 0 cells ≡ cells
front_kept [] = refl
front_kept (c ∷ cells) = refl

-- the run at the front of columns is at the front of their bytes
run_first : (token : ℕ) → (32 == token) ≡ false → (bs : List ℕ) (cells : List Cell) → Spreads cells bs → (after : List ℕ) × (bs ≡ replicate (run_at token cells) token ++ after)
run_first token apart [] cells e = ([], ap (λ (cs : List Cell). replicate (run_at token cs) token ++ []) (sym e))
run_first token apart (b ∷ bs) cells (inl h) =
    let n : ℕ = h.0 in
    let at : ℕ = h.1 in
    let cs : List Cell = h.2 in
    let none : run_at token (replicate (suc n) (cell 32 at) ++ cs) ≡ 0 = rw apart refl in
    (b ∷ bs, ap (λ k. replicate k token ++ b ∷ bs) (sym (ap (run_at token) (h.3) ∙ none)))
run_first token apart (b ∷ bs) cells (inr h) =
    let at : ℕ = h.0 in
    let cs : List Cell = h.1 in
    by_byte b bs at cs (b == token) refl (run_first token apart bs cs (h.3)) cells (h.2)
  where
    by_byte : (b : ℕ) (bs : List ℕ) (at : ℕ) (cs : List Cell) (k : Bool) → (b == token) ≡ k → ((after : List ℕ) × (bs ≡ replicate (run_at token cs) token ++ after)) → (cells : List Cell) → cells ≡ cell b at ∷ cs → (after : List ℕ) × (b ∷ bs ≡ replicate (run_at token cells) token ++ after)
    by_byte b bs at cs true e more cells is = (
      more.0,
      ap (λ (xs : List ℕ). b ∷ xs) (more.1)
          ∙ ap (λ c. c ∷ (replicate (run_at token cs) token ++ more.0)) (eq_of b token e)
          ∙ ap (λ n. replicate n token ++ more.0) (sym (ap (run_at token) is ∙ ap length (one_more token (cell b at) cs e))),
    )
    by_byte b bs at cs false e more cells is =
        let none : run_at token (cell b at ∷ cs) ≡ 0 = rw e refl in
        (b ∷ bs, ap (λ n. replicate n token ++ b ∷ bs) (sym (ap (run_at token) is ∙ none)))

later_run : (n token b : ℕ) (bs : List ℕ) → HasRun n token bs → HasRun n token (b ∷ bs)
later_run n token b bs h = record { before = b ∷ h.before; after = h.after; is = ap (λ (xs : List ℕ). b ∷ xs) h.is }

no_run : (token : ℕ) (bs : List ℕ) → HasRun 0 token bs
no_run token bs = record { before = []; after = bs; is = refl }

-- the run at any column is in the bytes
run_spread : (token : ℕ) → (32 == token) ≡ false → (bs : List ℕ) (cells : List Cell) → Spreads cells bs → (k : ℕ) → HasRun (run_at token (drop k cells)) token bs
run_spread token apart [] cells e k = subst (λ (cs : List Cell). HasRun (run_at token (drop k cs)) token []) (sym e) (none k)
  where
    none : (k : ℕ) → HasRun (run_at token (drop k [])) token []
    none zero = no_run token []
    none (suc k) = no_run token []
run_spread token apart (b ∷ bs) cells (inl h) k =
    subst (λ (cs : List Cell). HasRun (run_at token (drop k cs)) token (b ∷ bs)) (sym (h.3)) (among (λ j. run_spread token apart bs (h.2) (h.4) j) (suc (h.0)) k)
  where
    among : ((j : ℕ) → HasRun (run_at token (drop j (h.2))) token bs) → (n k : ℕ) → HasRun (run_at token (drop k (replicate n (cell 32 (h.1)) ++ h.2))) token (b ∷ bs)
    among more zero k = later_run (run_at token (drop k (h.2))) token b bs (more k)
    among more (suc n) zero =
        let none : run_at token (cell 32 (h.1) ∷ (replicate n (cell 32 (h.1)) ++ h.2)) ≡ 0 = rw apart refl in
        subst (λ r. HasRun r token (b ∷ bs)) (sym none) (no_run token (b ∷ bs))
    among more (suc n) (suc k) = among more n k
run_spread token apart (b ∷ bs) cells (inr h) zero =
    let first = run_first token apart (b ∷ bs) cells (inr h) in
    let whole : drop 0 cells ≡ cells = front_kept cells in
    subst (λ (cs : List Cell). HasRun (run_at token cs) token (b ∷ bs)) (sym whole) (record { before = []; after = first.0; is = first.1 })
run_spread token apart (b ∷ bs) cells (inr h) (suc k) =
    subst (λ (cs : List Cell). HasRun (run_at token (drop (suc k) cs)) token (b ∷ bs)) (sym (h.2)) (later_run (run_at token (drop k (h.1))) token b bs (run_spread token apart bs (h.1) (h.3) k))

-- no run of a line is as long as the fence
abbrev pub IsShort : ℕ → ℕ → List ℕ → Type 0
IsShort token m l = (n : ℕ) → HasRun n token l → n < suc m

abbrev pub cursor_of : List Cell → Cursor
cursor_of cells = record { column = 0; ink = ink_from cells 0 }

and_false : (a b : Bool) → (a && false && b) ≡ false
and_false true b = refl
and_false false b = refl

pub goes_on : (token m at : ℕ) (l : List ℕ) → IsToken token → IsShort token m l → closes_fence (cells_of [] at l) (cursor_of (cells_of [] at l)) (fence_of token m) ≡ false
unfolding closes_fence
goes_on token m at l is h =
    let cells : List Cell = cells_of [] at l in
    let ink : ℕ = ink_from cells 0 in
    let count : ℕ = run_of cells ink token in
    let spread = spread_of [] at l in
    let spreads : Spreads cells l = subst (λ (cs : List Cell). Spreads cs l) (sym (spread.1)) (spread.2) in
    let short : count < suc m = h count (run_spread token (space_apart token is) l cells spreads ink) in
    let less : nat_le (suc m) count ≡ false = grind (arith, short, nat_tests) in
    ap (λ b. nat_le (indent_of (cursor_of cells)) 3 && b && nat_le (length cells) (ink_from cells (plus ink count))) less
    ∙ and_false (nat_le (indent_of (cursor_of cells)) 3) (nat_le (length cells) (ink_from cells (plus ink count)))

-- the closing line
pub closes : (token m at : ℕ) → IsToken token → suc m < 2 ^ 64 → closes_fence (numbered at (closer token m)) (cursor_of (numbered at (closer token m))) (fence_of token m) ≡ true
unfolding closes_fence
closes token m at is fits =
    let cells : List Cell = numbered at (closer token m) in
    let tests : ℕ → ℕ → Bool = λ ink count. nat_le (ink - 0) 3 && nat_le (suc m) count && nat_le (length cells) (ink_from cells (plus ink count)) in
    let space : (token == 32) ≡ false = token_no_space token is in
    let ink : ink_from cells 0 ≡ 0 = rw space refl in
    let run : run_of cells 0 token ≡ suc m = ap (λ (bs : List ℕ). length (take_while (λ (c : Cell). c.byte == token) (numbered at bs))) (sym (append-nil (closer token m))) ∙ run_front (suc m) token at [] tt in
    let long : length cells ≡ suc m = numbered_length at (closer token m) ∙ length-replicate (suc m) token in
    let past : drop (suc m) cells ≡ [] = ap (λ n. drop n cells) (sym long) ∙ ap (drop (length cells)) (sym (append-nil cells)) ∙ drop_behind cells [] in
    let behind : plus 0 (suc m) ≡ suc m = omega (arith, fits) in
    let end : ink_from cells (plus 0 (suc m)) ≡ suc m =
    ap (ink_from cells) behind ∙ ap (λ (ds : List Cell). plus (suc m) (length (take_while (λ (c : Cell). c.byte == 32) ds))) past ∙ (let q : plus (suc m) 0 ≡ suc m = omega (arith, fits) in q)
    in
    let same : nat_le (suc m) (suc m) ≡ true = grind (arith, nat_tests) in
    let all : nat_le (length cells) (suc m) ≡ true = grind (arith, long, nat_tests) in
    ap (λ i. tests i (run_of cells i token)) ink
    ∙ ap (tests 0) run
    ∙ ap (λ n. nat_le (suc m) (suc m) && nat_le (length cells) n) end
    ∙ rw (same, all) refl

-- the opening line

abbrev fence_as : ℕ → ℕ → ℕ → Option Fence
fence_as b count more = if is_fence_byte b && nat_le 3 count && not ((b == 96) && nat_lt 0 more) then Some (record { byte = b; count = count; indent = 0 }) else None

fence_is : (token m : ℕ) → IsToken token → 2 ≤ m → fence_as token (suc m) 0 ≡ Some (fence_of token m)
unfolding is_fence_byte
fence_is token m (inl e) h =
    let least : nat_le 3 (suc m) ≡ true = grind (arith, h, nat_tests) in
    subst (λ t. fence_as t (suc m) 0 ≡ Some (fence_of t m)) (sym e) (rw least refl)
fence_is token m (inr e) h =
    let least : nat_le 3 (suc m) ≡ true = grind (arith, h, nat_tests) in
    subst (λ t. fence_as t (suc m) 0 ≡ Some (fence_of t m)) (sym e) (rw least refl)

stops : (token : ℕ) (info : List ℕ) → AllByRecursion (IsInfo token) info → StopsRun token info
stops token [] h = tt
stops token (b ∷ bs) h = (h.0).other

no_spaces : (at : ℕ) (info : List ℕ) → IsFlush info → length (take_while (λ (c : Cell). c.byte == 32) (numbered at info)) ≡ 0
no_spaces at [] h = refl
no_spaces at (b ∷ bs) h = rw (h.0) refl

pub split_last : (b : ℕ) (bs : List ℕ) → (body : List ℕ) × (b ∷ bs ≡ body ++ last_byte b bs ∷ [])
split_last b [] = ([], refl)
split_last b (c ∷ cs) = let more = split_last c cs in (b ∷ more.0, ap (λ (l : List ℕ). b ∷ l) (more.1))

trimmed_info : (fs : List Cell) (at : ℕ) (info : List ℕ) → IsFlush info → trimmed (fs ++ numbered at info) (length fs) (length (fs ++ numbered at info)) 32 ≡ length (fs ++ numbered at info)
unfolding trimmed
trimmed_info fs at [] h =
    let n : ℕ = length (fs ++ []) in
    ap (λ cs. n - trailing cs 32) (part_whole fs []) ∙ (let q : n - 0 ≡ n = omega arith in q)
trimmed_info fs at (b ∷ bs) h =
    let split = split_last b bs in
    let last : ℕ = last_byte b bs in
    let cells : numbered at (b ∷ bs) ≡ numbered at (split.0) ++ cell last (at + length (split.0)) ∷ [] = ap (numbered at) (split.1) ∙ numbered_append at (split.0) (last ∷ []) in
    subst (λ (cs : List Cell). trimmed (fs ++ cs) (length fs) (length (fs ++ cs)) 32 ≡ length (fs ++ cs)) (sym cells)
    (trimmed_none fs (numbered at (split.0)) (cell last (at + length (split.0))) 32 (h.1))

info_place : (fs : List Cell) (from : ℕ) (info : List ℕ) (end : ℕ) → end ≡ from + length info → cell_place (fs ++ numbered from info) (length fs) end ≡ from
info_place fs from [] end e = ap (λ (cs : List Cell). cell_place cs (length fs) end) (append-nil fs) ∙ past_last fs end ∙ e ∙ (let q : from + 0 ≡ from = omega arith in q)
info_place fs from (b ∷ bs) end e = place_behind fs (cell b from) (numbered (from + 1) bs) end

abbrev pub code_kind : ℕ → ℕ → ℕ → List ℕ → BlockKind
code_kind at token m info = kind.Fenced (at + suc m) (at + length (opener token m info))

-- the columns of the opening line
pub record IsOpened (text : List ℕ) (cells : List Cell) (l : Line) (f : Fence) (k : BlockKind) : Type 0 where
  pub columns : cells_of [] l.start (bytes_between text l.start l.end) ≡ cells
  pub place : cell_place cells 0 l.end ≡ l.start
  pub begins : IsFront cells
  pub fence : fence_at cells front ≡ Some f
  pub info : info_of cells front f l ≡ k

pub open_line : (text : List ℕ) (token m : ℕ) (info : List ℕ) (at next number : ℕ) → let bytes = opener token m info in
    bytes_between text at (at + length bytes) ≡ bytes → AllByRecursion IsWithin bytes → IsToken token → 2 ≤ m → AllByRecursion (IsInfo token) info → IsFlush info → at + length bytes < 2 ^ 64 →
    IsOpened text (numbered at bytes) (record { number = number; start = at; end = at + length bytes; next = next }) (fence_of token m) (code_kind at token m info)
unfolding fence_at info_of
open_line text token m info at next number e within is least h flush fits =
    let bytes : List ℕ = opener token m info in
    let end : ℕ = at + length bytes in
    let cells : List Cell = numbered at bytes in
    let fs : List Cell = numbered at (closer token m) in
    let from : ℕ = at + length (closer token m) in
    let count : length (closer token m) ≡ suc m = length-replicate (suc m) token in
    let long : length fs ≡ suc m = numbered_length at (closer token m) ∙ count in
    let parts : cells ≡ fs ++ numbered from info = numbered_append at (closer token m) info in
    let width : length bytes ≡ length (closer token m) + length info = length-append (closer token m) info in
    let small : suc m < 2 ^ 64 = omega (arith, width, count, fits) in
    let behind : plus 0 (suc m) ≡ suc m = omega (arith, small) in
    let rest : drop (suc m) cells ≡ numbered from info = ap (λ n. drop n cells) (sym long) ∙ ap (drop (length fs)) parts ∙ drop_behind fs (numbered from info) in
    let run : run_of cells 0 token ≡ suc m = run_front (suc m) token at info (stops token info h) in
    let ticks : count_of cells (plus 0 (suc m)) 96 ≡ 0 =
    ap (λ n. count_of cells n 96) behind ∙ ap (λ (cs : List Cell). length (filter (λ (c : Cell). c.byte == 96) cs)) rest ∙ none_filtered token from info h
    in
    let ink : ink_from cells (plus 0 (suc m)) ≡ length fs =
    ap (ink_from cells) behind
    ∙ ap (λ (cs : List Cell). plus (suc m) (length (take_while (λ (c : Cell). c.byte == 32) cs))) rest
    ∙ ap (plus (suc m)) (no_spaces from info flush)
    ∙ (let q : plus (suc m) 0 ≡ length fs = omega (arith, small, long) in q)
    in
    let to : trimmed cells (length fs) (length cells) 32 ≡ length cells = subst (λ (cs : List Cell). trimmed cs (length fs) (length cs) 32 ≡ length cs) (sym parts) (trimmed_info fs from info flush) in
    let made : ℕ → BlockKind = λ n. kind.Fenced (cell_place cells n end) (cell_place cells (trimmed cells n (length cells) 32) end) in
    record {
      columns = ap (cells_of [] at) e ∙ cells_within at bytes within fits;
      place = refl;
      begins = token_front token at (replicate m token ++ info) is;
      fence = ap (λ n. fence_as token n (count_of cells (plus 0 n) 96)) run ∙ ap (fence_as token (suc m)) ticks ∙ fence_is token m is least;
      info =
          ap made ink
          ∙ ap (λ n. kind.Fenced (cell_place cells (length fs) end) (cell_place cells n end)) to
          ∙ ap (λ n. kind.Fenced (cell_place cells (length fs) end) n) (past_last cells end)
          ∙ ap (λ (cs : List Cell). kind.Fenced (cell_place cs (length fs) end) end) parts
          ∙ ap (λ n. kind.Fenced n end) (info_place fs from info end (let q : at + length bytes ≡ from + length info = omega (arith, width) in q))
          ∙ ap (λ n. kind.Fenced (at + n) end) count;
    }

pub no_container : (cells : List Cell) (within : Bool) → IsFront cells → container_at cells (tail_of cells) front within ≡ None
unfolding container_at item_at
no_container cells within k = rw (k.some, k.quote, k.rule, k.marker) refl

opens_none : (text : List ℕ) (cells : List Cell) (l : Line) (s : State) → IsFront cells → containers_opened text cells l (tail_of cells) here s ≡ (s, here)
unfolding container_once_in container_in definition_start note_start
opens_none text cells l s k =
    let some : 0 < length cells = grind (arith, k.some) in
    repeated_stop (container_once text cells l (tail_of cells)) (length cells) here s s some
    (sym (ap (begun_at text cells l here s) (no_container cells (goes_directly 0 s) k)))

pub a_fence : (cells : List Cell) (bytes : List ℕ) (f : Fence) (within directly : Bool) → IsFront cells → fence_at cells front ≡ Some f → leaf_at cells bytes (tail_of cells) front within directly ≡ start.Fence f
unfolding leaf_at mark_at
a_fence cells bytes f within directly k e = rw (k.some, k.heading, e) refl

starts_fence : (text : List ℕ) (cells : List Cell) (l : Line) (f : Fence) (s : State) → IsFront cells → fence_at cells front ≡ Some f → leaf_started text cells l here s ≡ fence_started text cells l here f s
unfolding leaf_started_in started_in metadata_in metadata_or task_in task_or quote_kind_in quote_kind_or tag_in tag_or
starts_fence text cells l f s k e =
    ap (started_at text cells l (tail_of cells)) (opens_none text cells l s k)
    ∙ ap (λ x. started x text cells l (tail_of cells) here s) (a_fence cells (bytes_between text (cell_place cells 0 l.end) l.end) f (is_paragraph s.leaf) (goes_directly 0 s) k e)

-- a page with open code, which began after so many pieces
abbrev pub coding : List Block → ℕ → List Piece → Fence → BlockKind → ℕ → ℕ → ℕ → State
coding bs n qs f k at end number = record {
  blocks = bs ++ block k at at n n ∷ [];
  pieces = qs;
  definitions = [];
  opened = [];
  quotes = [];
  leaf = leaf.Fenced f;
  end = end;
  line = number;
  kept = length qs;
  header = Never;
  tried = 0;
  left = None;
  filled = 0;
}

pub fence_comes : (text : List ℕ) (cells : List Cell) (l : Line) (f : Fence) (k : BlockKind) (bs : List Block) (ps : List Piece) (end number : ℕ) → info_of cells front f l ≡ k → cell_place cells 0 l.end ≡ l.start → fence_started text cells l here f (closed bs ps end number) ≡ coding bs (length ps) ps f k l.start l.end l.number
unfolding fence_started leaf_opened closed_to leaf_closed times list_left begun loosened had_marked list_of is_apart
fence_comes text cells l f k bs ps end number e p =
    ap (λ x. coding bs (length ps) ps f x (cell_place cells 0 l.end) l.end l.number) e
    ∙ ap (λ at. coding bs (length ps) ps f k at l.end l.number) p

opened_line : (text : List ℕ) (cells : List Cell) (l : Line) (f : Fence) (k : BlockKind) (bs : List Block) (ps : List Piece) (end number : ℕ) → IsOpened text cells l f k → line_taken text (closed bs ps end number) l ≡ coding bs (length ps) ps f k l.start l.end l.number
unfolding line_taken_in cells_taken_in passed_in touched turn_in turn_of leaf_turn
opened_line text cells l f k bs ps end number h =
    let s : State = closed bs ps end number in
    ap (λ c. cells_taken text c l s) h.columns
    ∙ ap (λ c. leaf_started text cells l (record { cursor = c; depth = 0 }) s) (h.begins).ink
    ∙ starts_fence text cells l f s h.begins h.fence
    ∙ fence_comes text cells l f k bs ps end number h.info h.place

-- a line of the text

-- the first column is at the first byte
place_kept : (c : Cell) (cs : List Cell) (at : ℕ) (bs : List ℕ) (end : ℕ) → cell_place (cells_of (c ∷ cs) at bs) 0 end ≡ c.at
unfolding filled
place_kept c cs at [] end = refl
place_kept c cs at (b ∷ bs) end = by_tab (λ more. place_kept c more (plus at 1) bs end) (b == 9)
  where
    by_tab : ((more : List Cell) → cell_place (cells_of (c ∷ more) (plus at 1) bs) 0 end ≡ c.at) → (k : Bool) → cell_place (cells_of (if k then (c ∷ cs) ++ replicate (4 - length (c ∷ cs) % 4) (cell 32 at) else (c ∷ cs) ++ cell b at ∷ []) (plus at 1) bs) 0 end ≡ c.at
    by_tab more true = more (cs ++ replicate (4 - length (c ∷ cs) % 4) (cell 32 at))
    by_tab more false = more (cs ++ cell b at ∷ [])

first_place : (l : List ℕ) (at : ℕ) → cell_place (cells_of [] at l) 0 (at + length l) ≡ at
unfolding filled
first_place [] at = omega arith
first_place (b ∷ bs) at = by_tab (b == 9)
  where
    by_tab : (k : Bool) → cell_place (cells_of (if k then [] ++ replicate (4 - length {A = Cell} [] % 4) (cell 32 at) else [] ++ cell b at ∷ []) (plus at 1) bs) 0 (at + length (b ∷ bs)) ≡ at
    by_tab true = place_kept (cell 32 at) (replicate 3 (cell 32 at)) (plus at 1) bs (at + length (b ∷ bs))
    by_tab false = place_kept (cell b at) [] (plus at 1) bs (at + length (b ∷ bs))

pub whole_piece : (l : List ℕ) (at next number : ℕ) → code_piece (cells_of [] at l) 0 (record { number = number; start = at; end = at + length l; next = next }) ≡ piece_of 0 at (at + length l) next
unfolding code_piece is_split
whole_piece l at next number = ap (λ p. piece_of 0 p (at + length l) next) (first_place l at)

code_comes : (text : List ℕ) (l : List ℕ) (at next number : ℕ) (bs : List Block) (n : ℕ) (qs : List Piece) (f : Fence) (k : BlockKind) (from end0 number0 : ℕ) → nat_lt at next ≡ true → code_taken text (cells_of [] at l) 0 (record { number = number; start = at; end = at + length l; next = next }) (coding bs n qs f k from end0 number0) ≡ coding bs n (qs ++ piece_of 0 at (at + length l) next ∷ []) f k from (at + length l) number
unfolding code_taken html_ended keeps_line
code_comes text l at next number bs n qs f k from end0 number0 order =
    let s : State = coding bs n qs f k from end0 number0 in
    let here : Line = record { number = number; start = at; end = at + length l; next = next } in
    let p : Piece = piece_of 0 at (at + length l) next in
    ap (λ (x : Piece). html_ended (bytes_between text x.start x.end) (piece_taken x here true s)) (whole_piece l at next number)
    ∙ ap (html_ended (bytes_between text at (at + length l))) (piece_taken_whole p here s order refl)

pub line_coded : (text : List ℕ) (token m : ℕ) (l : List ℕ) (at next number : ℕ) (bs : List Block) (n : ℕ) (qs : List Piece) (k : BlockKind) (from end0 number0 : ℕ) →
    bytes_between text at (at + length l) ≡ l → nat_lt at next ≡ true → IsToken token → IsShort token m l →
    line_taken text (coding bs n qs (fence_of token m) k from end0 number0) (record { number = number; start = at; end = at + length l; next = next }) ≡ coding bs n (qs ++ piece_of 0 at (at + length l) next ∷ []) (fence_of token m) k from (at + length l) number
unfolding line_taken_in cells_taken_in touched turn_in turn_of leaf_turn first_cursor
line_coded text token m l at next number bs n qs k from end0 number0 e order is short =
    let f : Fence = fence_of token m in
    let s : State = coding bs n qs f k from end0 number0 in
    let here : Line = record { number = number; start = at; end = at + length l; next = next } in
    let cells : List Cell = cells_of [] at l in
    let c : Cursor = cursor_of cells in
    let column : plus 0 (min 0 (indent_of c)) ≡ 0 = omega arith in
    ap (λ cs. cells_taken text cs here s) (ap (cells_of [] at) e)
    ∙ ap (λ b. turn_taken_in core_known (if b then turn.Closes else turn.Takes (plus 0 (min 0 (indent_of c)))) text cells here (record { cursor = c; depth = 0 }) s) (goes_on token m at l is short)
    ∙ ap (λ x. code_taken text cells x here s) column
    ∙ code_comes text l at next number bs n qs f k from end0 number0 order

-- the closing line

code_finished : (bs : List Block) (n : ℕ) (qs : List Piece) (f : Fence) (k : BlockKind) (from end number : ℕ) → leaf_finished (coding bs n qs f k from end number) ≡ closed (bs ++ block k from end n (length qs) ∷ []) qs end number
unfolding leaf_finished finished raised_at
code_finished bs n qs f k from end number =
    let b : Block = block k from from n n in
    rw (take-length qs, get_last bs b, set_last bs b (block k from end n (length qs))) refl

pub line_closes : (text : List ℕ) (token m at next number : ℕ) (bs : List Block) (n : ℕ) (qs : List Piece) (k : BlockKind) (from end0 number0 : ℕ) → let l = closer token m in
    bytes_between text at (at + length l) ≡ l → AllByRecursion IsWithin l → at + length l < 2 ^ 64 → IsToken token →
    line_taken text (coding bs n qs (fence_of token m) k from end0 number0) (record { number = number; start = at; end = at + length l; next = next }) ≡ closed (bs ++ block k from (at + length l) n (length qs) ∷ []) qs (at + length l) number
unfolding line_taken_in cells_taken_in touched turn_in turn_of leaf_turn first_cursor leaf_ended
line_closes text token m at next number bs n qs k from end0 number0 e within fits is =
    let f : Fence = fence_of token m in
    let l : List ℕ = closer token m in
    let s : State = coding bs n qs f k from end0 number0 in
    let here : Line = record { number = number; start = at; end = at + length l; next = next } in
    let cells : List Cell = numbered at l in
    let c : Cursor = cursor_of cells in
    let small : suc m < 2 ^ 64 = omega (arith, fits, length-replicate (suc m) token) in
    ap (λ cs. cells_taken text cs here s) (ap (cells_of [] at) e ∙ cells_within at l within fits)
    ∙ ap (λ b. turn_taken_in core_known (if b then turn.Closes else turn.Takes (plus 0 (min 0 (indent_of c)))) text cells here (record { cursor = c; depth = 0 }) s) (closes token m at is small)
    ∙ code_finished bs n qs f k from (at + length l) number

pub line_opens : (text : List ℕ) (token m : ℕ) (info : List ℕ) (at next number : ℕ) (bs : List Block) (ps : List Piece) (end0 number0 : ℕ) → let l = opener token m info in
    bytes_between text at (at + length l) ≡ l → AllByRecursion IsWithin l → IsToken token → 2 ≤ m → AllByRecursion (IsInfo token) info → IsFlush info → at + length l < 2 ^ 64 →
    line_taken text (closed bs ps end0 number0) (record { number = number; start = at; end = at + length l; next = next }) ≡ coding bs (length ps) ps (fence_of token m) (code_kind at token m info) at (at + length l) number
line_opens text token m info at next number bs ps end0 number0 e within is least h flush fits =
    opened_line text (numbered at (opener token m info)) (record { number = number; start = at; end = at + length (opener token m info); next = next }) (fence_of token m) (code_kind at token m info) bs ps end0 number0
    (open_line text token m info at next number e within is least h flush fits)
