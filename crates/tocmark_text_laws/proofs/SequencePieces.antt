-- What a leaf keeps of a line that is in two texts, and the definitions that it has.
use Rattle.std.proofs.Common.{◌≡◌, ℕ, zero, suc, ◌+◌, ◌-◌, ◌^◌, ◌<◌, ◌≤◌, Bool, true, false, ◌==◌, ◌&&◌, if◌then◌else◌, nat_lt, List, [], ◌∷◌, ◌++◌, length, take, flat_map, append_assoc, refl, ap, sym, subst, ◌∙◌, arith, length-append}
use Rattle.std.specs.Prelude.{filter, Option, Some, None}
use Rattle.std.specs.Option.{option_map_or}
use Rattle.std.proofs.lemmas.Bool.Decides.{nat_tests}
use Rattle.std.proofs.lemmas.List.Elements.{filter-append}
use Rattle.tocmark_read_scan.specs.Basic.{plus, byte_at, bytes_between}
use Rattle.tocmark_read_scan.specs.Repeat.{going, repeated}
use Rattle.tocmark_read_lines.specs.Cells.{cell_place}
use Rattle.tocmark_read_lines.specs.declared.beginnings.Heading.{Heading}
use Rattle.tocmark_read_lines.specs.declared.cell.Cell.{Cell}
use Rattle.tocmark_read_lines.specs.declared.cell.Cursor.{Cursor}
use Rattle.tocmark_read_lines.specs.declared.line.Line.{Line}
use Rattle.tocmark_read_tokens.specs.Word.{definition_at}
use Rattle.tocmark_read_tokens.specs.declared.word.Definition.{Definition}
use Rattle.tocmark_read_page.specs.Definitions.{DefinitionView, found_view, begins_definition, replaced, joined_line, joined, define_once, counted, definitions_from}
use Rattle.tocmark_read_page.specs.Pieces.{is_split, same_place, piece_of, code_piece, text_piece, heading_piece}
use Rattle.tocmark_read_page.specs.declared.piece.Piece.{Piece}
use Rattle.tocmark_text_laws.proofs.Pairs.{Pairs}

-- how many line feeds are among bytes
abbrev pub feeds : List ℕ → ℕ
feeds xs = length (filter (λ b. b == 10) xs)

-- a line of a leaf in both texts
pub record PieceOn (t q : List ℕ) (there here : Piece) : Type 0 where
  pub same : there ≡ here
  pub words : bytes_between q here.start here.end ≡ bytes_between t here.start here.end
  pub whole : bytes_between q here.start here.next ≡ bytes_between t here.start here.next
  pub first : byte_at q here.start ≡ byte_at t here.start
  pub flat : feeds (bytes_between t here.start here.end) ≡ 0

-- a line that is in both texts, and its columns
pub record LineOn (t q : List ℕ) (line : Line) (cs : List Cell) : Type 0 where
  pub order : line.start ≤ line.end
  pub onto : line.end ≤ line.next
  pub few : line.number + 1 < 2 ^ 64 - 1
  pub low : line.end < 2 ^ 64 - 1
  pub begins : (c : ℕ) → line.start ≤ cell_place cs c line.end
  pub stops : (c : ℕ) → cell_place cs c line.end ≤ line.end
  pub tabs : (c : ℕ) → suc c < length cs → cell_place cs c 0 ≡ cell_place cs (suc c) 0 → cell_place cs (suc c) line.end + 1 ≤ line.end
  pub window : (i j : ℕ) → line.start ≤ i → j ≤ line.next → bytes_between q i j ≡ bytes_between t i j
  pub byte : (i : ℕ) → line.start ≤ i → i ≤ line.end → byte_at q i ≡ byte_at t i
  pub flat : (i j : ℕ) → line.start ≤ i → j ≤ line.end → feeds (bytes_between t i j) ≡ 0

-- a part of the line
part_on : (t q : List ℕ) (line : Line) (cs : List Cell) → LineOn t q line cs → (spaces from start end next : ℕ) → line.start ≤ start → start ≤ line.end → end ≤ line.end → next ≤ line.next
    → PieceOn t q (record { spaces = spaces; from = from; start = start; end = end; next = next }) (record { spaces = spaces; from = from; start = start; end = end; next = next })
part_on t q line cs h spaces from start end next low in_line before last = record {
  same = refl;
  words = h.window start end low (omega (arith, before, h.onto));
  whole = h.window start next low last;
  first = h.byte start low in_line;
  flat = h.flat start end low before;
}

pub code_on : (t q : List ℕ) (line : Line) (cs : List Cell) (c : ℕ) → LineOn t q line cs → PieceOn t q (code_piece cs c line) (code_piece cs c line)
unfolding code_piece is_split
code_on t q line cs c h = by (nat_lt 0 c) (nat_lt c (length cs)) (cell_place cs (c - 1) 0 == cell_place cs c 0) refl refl refl
  where
    at : ℕ
    at = cell_place cs c line.end

    whole : PieceOn t q (piece_of 0 at line.end line.next) (piece_of 0 at line.end line.next)
    whole = part_on t q line cs h 0 at at line.end line.next (h.begins c) (h.stops c) (omega arith) (omega arith)

    after : (n : ℕ) → at + 1 ≤ line.end → PieceOn t q (piece_of n (plus at 1) line.end line.next) (piece_of n (plus at 1) line.end line.next)
    after n k = part_on t q line cs h n (plus at 1) (plus at 1) line.end line.next (omega (arith, h.begins c, k, h.low)) (omega (arith, k)) (omega arith) (omega arith)

    inner : (d : ℕ) → suc d ≡ c → c < length cs → cell_place cs (c - 1) 0 ≡ cell_place cs c 0 → at + 1 ≤ line.end
    inner d e less k = subst (λ n. cell_place cs n line.end + 1 ≤ line.end) e (h.tabs d (omega (arith, e, less)) (before ∙ k ∙ ap (λ n. cell_place cs n 0) (sym e)))
      where
        before : cell_place cs d 0 ≡ cell_place cs (c - 1) 0
        before = let w : d ≡ c - 1 = omega (arith, e) in ap (λ n. cell_place cs n 0) w

    by : (x y z : Bool) → nat_lt 0 c ≡ x → nat_lt c (length cs) ≡ y → (cell_place cs (c - 1) 0 == cell_place cs c 0) ≡ z
        → PieceOn t q (if x && y && z then piece_of (same_place cs c at) (plus at 1) line.end line.next else piece_of 0 at line.end line.next) (if x && y && z then piece_of (same_place cs c at) (plus at 1) line.end line.next else piece_of 0 at line.end line.next)
    by false y z e k m = whole
    by true false z e k m = whole
    by true true false e k m = whole
    by true true true e k m =
        let a : 0 < c = grind (arith, e, nat_tests) in
        let b : c < length cs = grind (arith, k, nat_tests) in
        let s : cell_place cs (c - 1) 0 ≡ cell_place cs c 0 = grind (arith, m, nat_tests) in
        after (same_place cs c at) (inner (c - 1) (omega (arith, a)) b s)

pub text_on : (t q : List ℕ) (line : Line) (cs : List Cell) (c : Cursor) → LineOn t q line cs → PieceOn t q (text_piece cs c line) (text_piece cs c line)
unfolding text_piece
text_on t q line cs c h = part_on t q line cs h 0 _ (cell_place cs c.ink line.end) line.end line.next (h.begins c.ink) (h.stops c.ink) (omega arith) (omega arith)

pub heading_on : (t q : List ℕ) (line : Line) (cs : List Cell) (x : Heading) → LineOn t q line cs → PieceOn t q (heading_piece cs x line) (heading_piece cs x line)
unfolding heading_piece
heading_on t q line cs x h = part_on t q line cs h 0 (cell_place cs x.from line.end) (cell_place cs x.from line.end) (cell_place cs x.to line.end) (cell_place cs x.to line.end) (h.begins x.from) (h.stops x.from) (h.stops x.to) (omega (arith, h.stops x.to, h.onto))

-- line feeds

feeds_append : (xs ys : List ℕ) → feeds (xs ++ ys) ≡ feeds xs + feeds ys
feeds_append xs ys = ap (λ (zs : List ℕ). length zs) (filter-append (λ b. b == 10) xs ys) ∙ length-append (filter (λ b. b == 10) xs) (filter (λ b. b == 10) ys)

feeds_more : (b : ℕ) (xs : List ℕ) → feeds xs ≤ feeds (b ∷ xs)
feeds_more b xs = by (b == 10)
  where
    by : (k : Bool) → feeds xs ≤ length (if k then b ∷ filter (λ b. b == 10) xs else filter (λ b. b == 10) xs)
    by true = omega arith
    by false = omega arith

feeds_take : (n : ℕ) (xs : List ℕ) → feeds (take n xs) ≤ feeds xs
feeds_take zero xs = omega arith
feeds_take (suc n) [] = omega arith
feeds_take (suc n) (b ∷ xs) = by (b == 10) (feeds_take n xs)
  where
    by : (k : Bool) → feeds (take n xs) ≤ feeds xs → length (if k then b ∷ filter (λ b. b == 10) (take n xs) else filter (λ b. b == 10) (take n xs)) ≤ length (if k then b ∷ filter (λ b. b == 10) xs else filter (λ b. b == 10) xs)
    by true h = omega (arith, h)
    by false h = h

feeds_replaced : (xs : List ℕ) → feeds (flat_map replaced xs) ≤ feeds xs
unfolding replaced
feeds_replaced [] = omega arith
feeds_replaced (b ∷ xs) = by (b == 0) (feeds_replaced xs)
  where
    some : (k : Bool) → feeds (flat_map replaced xs) ≤ feeds xs → length (if k then b ∷ filter (λ b. b == 10) (flat_map replaced xs) else filter (λ b. b == 10) (flat_map replaced xs)) ≤ length (if k then b ∷ filter (λ b. b == 10) xs else filter (λ b. b == 10) xs)
    some true h = omega (arith, h)
    some false h = h

    by : (k : Bool) → feeds (flat_map replaced xs) ≤ feeds xs → feeds ((if k then 0xef ∷ 0xbf ∷ 0xbd ∷ [] else b ∷ []) ++ flat_map replaced xs) ≤ feeds (b ∷ xs)
    by true h = omega (arith, h, feeds_more b xs)
    by false h = some (b == 10) h

feeds_joined : (t q : List ℕ) (xs ys : List Piece) → Pairs (PieceOn t q) xs ys → feeds (joined t ys) ≤ length ys
feeds_joined t q [] [] h = omega arith
feeds_joined t q [] (y ∷ ys) h = absurd h
feeds_joined t q (x ∷ xs) [] h = absurd h
feeds_joined t q (x ∷ xs) (y ∷ ys) h =
    omega (arith, feeds_append (flat_map replaced words ++ 10 ∷ []) (joined t ys), feeds_append (flat_map replaced words) (10 ∷ []), feeds_replaced words, (h.0).flat, feeds_joined t q xs ys (h.1))
  where
    words : List ℕ
    words = bytes_between t y.start y.end

-- definitions of links

begins_on : (t q : List ℕ) (xs ys : List Piece) → Pairs (PieceOn t q) xs ys → begins_definition q xs ≡ begins_definition t ys
unfolding begins_definition
begins_on t q [] [] h = refl
begins_on t q [] (y ∷ ys) h = absurd h
begins_on t q (x ∷ xs) [] h = absurd h
begins_on t q (x ∷ xs) (y ∷ ys) h = ap (λ (p : Piece). byte_at q p.start == 91) (h.0).same ∙ ap (λ b. b == 91) (h.0).first

joined_on : (t q : List ℕ) (xs ys : List Piece) → Pairs (PieceOn t q) xs ys → joined q xs ≡ joined t ys
joined_on t q [] [] h = refl
joined_on t q [] (y ∷ ys) h = absurd h
joined_on t q (x ∷ xs) [] h = absurd h
joined_on t q (x ∷ xs) (y ∷ ys) h =
    ap (λ (p : Piece). joined_line q p ++ joined q xs) (h.0).same
    ∙ ap (λ bs. (flat_map replaced bs ++ 10 ∷ []) ++ joined q xs) (h.0).words
    ∙ ap (λ bs. joined_line t y ++ bs) (joined_on t q xs ys (h.1))

abbrev put_front : List DefinitionView → List DefinitionView × ℕ → List DefinitionView × ℕ
put_front front r = (front ++ r.0, r.1)

repeats_after : (content : List ℕ) (front : List DefinitionView) (n place : ℕ) (ds : List DefinitionView) → repeated (define_once content) n place (front ++ ds) ≡ put_front front (repeated (define_once content) n place ds)
unfolding repeated define_once
repeats_after content front zero place ds = refl
repeats_after content front (suc n) place ds = by (definition_at content place) (λ d us. repeats_after content front n d us)
  where
    rest : ℕ → List DefinitionView → List DefinitionView × ℕ
    rest = λ d u. repeated (define_once content) n d u

    by : (o : Option Definition) → ((d : ℕ) (us : List DefinitionView) → rest d (front ++ us) ≡ put_front front (rest d us))
        → going rest place (option_map_or (λ (d : Definition). ((front ++ ds) ++ found_view content d ∷ [], Some d.next)) o (front ++ ds, None)) ≡ put_front front (going rest place (option_map_or (λ (d : Definition). (ds ++ found_view content d ∷ [], Some d.next)) o (ds, None)))
    by None again = refl
    by (Some d) again = ap (rest d.next) (append_assoc front ds (found_view content d ∷ [])) ∙ again d.next (ds ++ found_view content d ∷ [])

pub definitions_on : (t q : List ℕ) (xs ys : List Piece) (front ds : List DefinitionView) → Pairs (PieceOn t q) xs ys → definitions_from q xs (front ++ ds) ≡ put_front front (definitions_from t ys ds)
unfolding definitions_from
definitions_on t q xs ys front ds h = rw (begins_on t q xs ys h, joined_on t q xs ys h) (by (begins_definition t ys))
  where
    content : List ℕ
    content = joined t ys

    by : (k : Bool) → (if k then counted content (repeated (define_once content) (length content) 0 (front ++ ds)) else (front ++ ds, 0)) ≡ put_front front (if k then counted content (repeated (define_once content) (length content) 0 ds) else (ds, 0))
    by true = ap (counted content) (repeats_after content front (length content) 0 ds)
    by false = refl

-- they have no more lines than there are
pub definitions_few : (t q : List ℕ) (xs ys : List Piece) (ds : List DefinitionView) → Pairs (PieceOn t q) xs ys → (definitions_from t ys ds).1 ≤ length ys
unfolding definitions_from
definitions_few t q xs ys ds h = by (begins_definition t ys)
  where
    content : List ℕ
    content = joined t ys

    by : (k : Bool) → (if k then counted content (repeated (define_once content) (length content) 0 ds) else (ds, 0)).1 ≤ length ys
    by true = omega (arith, feeds_take ((repeated (define_once content) (length content) 0 ds).1) content, feeds_joined t q xs ys h)
    by false = omega arith
