-- The columns of a heading on one line.
use Rattle.std.proofs.Common.{◌≡◌, ℕ, suc, ◌+◌, ◌-◌, ◌^◌, ◌<◌, Bool, true, false, ◌==◌, ◌||◌, nat_le, List, [], ◌∷◌, ◌++◌, length, replicate, codes, refl, ap, sym, subst, ◌∙◌, arith, append_assoc, length-append, Some, None, ◌⊎◌, inl, inr}
use Rattle.std.proofs.Math.Seq.{take-length}
use Rattle.std.specs.List.{AllByRecursion}
use Rattle.std.specs.Option.{option_map_or}
use Rattle.std.proofs.lemmas.List.{reverse-append}
use Rattle.std.proofs.lemmas.Bool.Decides.{nat_tests}
use Rattle.tocmark_event.specs.declared.event.HeadingLevel.{HeadingLevel}
use Rattle.tocmark_event.specs.declared.event.HeadingLevel.TheVariants as level
use Rattle.tocmark_read_scan.specs.Basic.{bytes_between}
use Rattle.tocmark_read_scan.proofs.PlainPieces.{drop_behind}
use Rattle.tocmark_read_lines.specs.Cells.{cell, cells_of, cell_byte, cell_place, first_cursor, part, trailing, trimmed}
use Rattle.tocmark_read_lines.specs.Marks.{is_rule, is_rule_byte, marker_at, bullet_at, ordered_at, heading_at, heading_from, heading_end_before, is_behind, level_of, tail_of}
use Rattle.tocmark_read_lines.specs.declared.cell.Cell.{Cell}
use Rattle.tocmark_read_lines.specs.declared.beginnings.Heading.{Heading}
use Rattle.tocmark_read_blocks.proofs.PlainLines.{IsWithin, numbered, cells_within}
use Rattle.tocmark_read_blocks.proofs.PlainSteps.{front}
use Rattle.tocmark_spelling.specs.Opening.{level_number}
use Rattle.tocmark_laws.proofs.DocumentBlocks.{IsHeadingLine, get_last}

pub numbered_append : (at : ℕ) (xs ys : List ℕ) → numbered at (xs ++ ys) ≡ numbered at xs ++ numbered (at + length xs) ys
numbered_append at [] ys = ap (λ n. numbered n ys) (let q : at ≡ at + 0 = omega arith in q)
numbered_append at (x ∷ xs) ys =
    let same : at + 1 + length xs ≡ at + suc (length xs) = omega arith in
    ap (λ cs. cell x at ∷ cs) (numbered_append (at + 1) xs ys ∙ ap (λ n. numbered (at + 1) xs ++ numbered n ys) same)

pub numbered_length : (at : ℕ) (xs : List ℕ) → length (numbered at xs) ≡ length xs
numbered_length at [] = refl
numbered_length at (x ∷ xs) = ap suc (numbered_length (at + 1) xs)

pub part_whole : (fs ds : List Cell) → part (fs ++ ds) (length fs) (length (fs ++ ds)) ≡ ds
part_whole fs ds =
    let all : length (fs ++ ds) ≡ length fs + length ds = length-append fs ds in
    let order : nat_le (length fs) (length (fs ++ ds)) ≡ true = grind (arith, all, nat_tests) in
    let fits : nat_le (length (fs ++ ds)) (length (fs ++ ds)) ≡ true = grind (arith, nat_tests) in
    let width : length (fs ++ ds) - length fs ≡ length ds = omega (arith, all) in
    rw (order, fits, width, drop_behind fs ds) (take-length ds)

trailing_none : (ds : List Cell) (c : Cell) (b : ℕ) → (c.byte == b) ≡ false → trailing (ds ++ c ∷ []) b ≡ 0
trailing_none ds c b h = rw (reverse-append ds (c ∷ []), h) refl

trailing_one : (ds : List Cell) (d c : Cell) (b : ℕ) → (c.byte == b) ≡ true → (d.byte == b) ≡ false → trailing ((ds ++ d ∷ []) ++ c ∷ []) b ≡ 1
trailing_one ds d c b h k = rw (reverse-append (ds ++ d ∷ []) (c ∷ []), h, reverse-append ds (d ∷ []), k) refl

pub trimmed_none : (fs ds : List Cell) (c : Cell) (b : ℕ) → (c.byte == b) ≡ false → trimmed (fs ++ (ds ++ c ∷ [])) (length fs) (length (fs ++ (ds ++ c ∷ []))) b ≡ length (fs ++ (ds ++ c ∷ []))
unfolding trimmed
trimmed_none fs ds c b h =
    let n : ℕ = length (fs ++ (ds ++ c ∷ [])) in
    ap (λ cs. n - trailing cs b) (part_whole fs (ds ++ c ∷ []))
    ∙ ap (λ k. n - k) (trailing_none ds c b h)
    ∙ (let q : n - 0 ≡ n = omega arith in q)

trimmed_one : (fs ds : List Cell) (d c : Cell) (b : ℕ) → (c.byte == b) ≡ true → (d.byte == b) ≡ false → trimmed (fs ++ ((ds ++ d ∷ []) ++ c ∷ [])) (length fs) (length (fs ++ ((ds ++ d ∷ []) ++ c ∷ []))) b ≡ length (fs ++ ((ds ++ d ∷ []) ++ c ∷ [])) - 1
unfolding trimmed
trimmed_one fs ds d c b h k =
    let n : ℕ = length (fs ++ ((ds ++ d ∷ []) ++ c ∷ [])) in
    ap (λ cs. n - trailing cs b) (part_whole fs ((ds ++ d ∷ []) ++ c ∷ []))
    ∙ ap (λ k. n - k) (trailing_one ds d c b h k)

last_byte_of : (fs : List Cell) (c : Cell) → cell_byte (fs ++ c ∷ []) (length (fs ++ c ∷ []) - 1) ≡ c.byte
last_byte_of fs c = ap (λ o. option_map_or (λ (x : Cell). x.byte) o 10) (get_last fs c)

-- the text of a heading that ends with neither a space nor `#`
end_bare : (fs ds : List Cell) (c : Cell) → (c.byte == 32) ≡ false → (c.byte == 35) ≡ false → heading_end_before (fs ++ (ds ++ c ∷ [])) (length fs) (length (fs ++ (ds ++ c ∷ []))) ≡ length (fs ++ (ds ++ c ∷ []))
unfolding heading_end_before
end_bare fs ds c s h =
    let cells : List Cell = fs ++ (ds ++ c ∷ []) in
    let all : length cells ≡ length fs + (length ds + 1) = length-append fs (ds ++ c ∷ []) ∙ ap (λ n. length fs + n) (length-append ds (c ∷ [])) in
    let more : nat_le (length cells) (length fs) ≡ false = grind (arith, all, nat_tests) in
    let last : (cell_byte cells (length cells - 1) == 32) ≡ false =
    ap (λ (cs : List Cell). cell_byte cs (length cs - 1) == 32) (sym (append_assoc fs ds (c ∷ []))) ∙ ap (λ x. x == 32) (last_byte_of (fs ++ ds) c) ∙ s
    in
    rw (trimmed_none fs ds c 32 s, trimmed_none fs ds c 35 h, more, last) refl

-- one that ends with `\#`
end_escaped : (fs ds : List Cell) (d c : Cell) → (c.byte == 35) ≡ true → (c.byte == 32) ≡ false → (d.byte == 35) ≡ false → (d.byte == 32) ≡ false → heading_end_before (fs ++ ((ds ++ d ∷ []) ++ c ∷ [])) (length fs) (length (fs ++ ((ds ++ d ∷ []) ++ c ∷ []))) ≡ length (fs ++ ((ds ++ d ∷ []) ++ c ∷ []))
unfolding heading_end_before
end_escaped fs ds d c h s k z =
    let cells : List Cell = fs ++ ((ds ++ d ∷ []) ++ c ∷ []) in
    let all : length cells ≡ length fs + (length ds + 1 + 1) = length-append fs ((ds ++ d ∷ []) ++ c ∷ []) ∙ ap (λ n. length fs + n) (length-append (ds ++ d ∷ []) (c ∷ []) ∙ ap (λ n. n + 1) (length-append ds (d ∷ []))) in
    let more : nat_le (length cells - 1) (length fs) ≡ false = grind (arith, all, nat_tests) in
    let shorter : length cells - 1 - 1 ≡ length ((fs ++ ds) ++ d ∷ []) - 1 = omega (arith, all, length-append (fs ++ ds) (d ∷ []), length-append fs ds) in
    let same : cells ≡ ((fs ++ ds) ++ d ∷ []) ++ c ∷ [] = sym (append_assoc fs (ds ++ d ∷ []) (c ∷ [])) ∙ ap (λ (cs : List Cell). cs ++ c ∷ []) (sym (append_assoc fs ds (d ∷ []))) in
    let inner : cell_byte (((fs ++ ds) ++ d ∷ []) ++ c ∷ []) (length (fs ++ ds)) ≡ d.byte = within_byte (fs ++ ds) d (c ∷ []) in
    let at : length cells - 1 - 1 ≡ length (fs ++ ds) = omega (arith, all, length-append fs ds) in
    let last : (cell_byte cells (length cells - 1 - 1) == 32) ≡ false =
    ap (λ n. cell_byte cells n == 32) at ∙ ap (λ (cs : List Cell). cell_byte cs (length (fs ++ ds)) == 32) same ∙ ap (λ x. x == 32) inner ∙ z
    in
    rw (trimmed_none fs (ds ++ d ∷ []) c 32 s, trimmed_one fs ds d c 35 h k, more, last) refl
  where
    within_byte : (xs : List Cell) (x : Cell) (ys : List Cell) → cell_byte ((xs ++ x ∷ []) ++ ys) (length xs) ≡ x.byte
    within_byte [] x ys = refl
    within_byte (w ∷ xs) x ys = within_byte xs x ys

-- the mark of a heading
abbrev pub marks : HeadingLevel → List ℕ
marks l = replicate (level_number l) 35 ++ codes " "

space_behind : (cells : List Cell) (column : ℕ) → (cell_byte cells column == 32) ≡ true → is_behind cells column ≡ true
unfolding is_behind
space_behind cells column h = by_case (nat_le (length cells) column)
  where
    by_case : (x : Bool) → (x || (cell_byte cells column == 32)) ≡ true
    by_case true = refl
    by_case false = h

heading_found : (l : HeadingLevel) (at b : ℕ) (bs : List ℕ) → (b == 32) ≡ false → heading_at (numbered at (marks l ++ b ∷ bs)) 0 ≡ Some (heading_from (numbered at (marks l ++ b ∷ bs)) (length (marks l)) l)
unfolding heading_at level_of
heading_found level.H1 at b bs h = rw (space_behind (numbered at (marks level.H1 ++ b ∷ bs)) 1 refl, h) refl
heading_found level.H2 at b bs h = rw (space_behind (numbered at (marks level.H2 ++ b ∷ bs)) 2 refl, h) refl
heading_found level.H3 at b bs h = rw (space_behind (numbered at (marks level.H3 ++ b ∷ bs)) 3 refl, h) refl
heading_found level.H4 at b bs h = rw (space_behind (numbered at (marks level.H4 ++ b ∷ bs)) 4 refl, h) refl
heading_found level.H5 at b bs h = rw (space_behind (numbered at (marks level.H5 ++ b ∷ bs)) 5 refl, h) refl
heading_found level.H6 at b bs h = rw (space_behind (numbered at (marks level.H6 ++ b ∷ bs)) 6 refl, h) refl

-- how the text of a heading ends: with no space, and with `#` only after a backslash
pub record EndsHeading (xs : List ℕ) : Type 0 where
  pub body : List ℕ
  pub last : ℕ
  pub split : xs ≡ body ++ last ∷ []
  pub space : (last == 32) ≡ false
  pub hash : ((last == 35) ≡ false) ⊎ ((last == 35) ≡ true) × ((more : List ℕ) × (body ≡ more ++ 92 ∷ []))

-- such a text ends where the line does
ends_whole : (fs : List Cell) (at : ℕ) (xs : List ℕ) → EndsHeading xs → heading_end_before (fs ++ numbered at xs) (length fs) (length (fs ++ numbered at xs)) ≡ length (fs ++ numbered at xs)
ends_whole fs at xs h =
    let end : List Cell → Type 0 = λ cs. heading_end_before (fs ++ cs) (length fs) (length (fs ++ cs)) ≡ length (fs ++ cs) in
    let cells : numbered at xs ≡ numbered at h.body ++ cell h.last (at + length h.body) ∷ [] = ap (numbered at) h.split ∙ numbered_append at h.body (h.last ∷ []) in
    subst end (sym cells) (by_hash h.body h.last h.space h.hash)
  where
    by_hash : (body : List ℕ) (last : ℕ) → (last == 32) ≡ false → ((last == 35) ≡ false) ⊎ ((last == 35) ≡ true) × ((more : List ℕ) × (body ≡ more ++ 92 ∷ [])) → heading_end_before (fs ++ (numbered at body ++ cell last (at + length body) ∷ [])) (length fs) (length (fs ++ (numbered at body ++ cell last (at + length body) ∷ []))) ≡ length (fs ++ (numbered at body ++ cell last (at + length body) ∷ []))
    by_hash body last s (inl e) = end_bare fs (numbered at body) (cell last (at + length body)) s e
    by_hash body last s (inr k) =
        let more : List ℕ = k.1.0 in
        let c : Cell = cell last (at + length body) in
        subst (λ cs. heading_end_before (fs ++ (cs ++ c ∷ [])) (length fs) (length (fs ++ (cs ++ c ∷ []))) ≡ length (fs ++ (cs ++ c ∷ [])))
        (sym (ap (numbered at) (k.1.1) ∙ numbered_append at more (92 ∷ [])))
        (end_escaped fs (numbered at more) (cell 92 (at + length more)) c (k.0) s refl refl)

pub past_last : (cells : List Cell) (end : ℕ) → cell_place cells (length cells) end ≡ end
past_last [] end = refl
past_last (c ∷ cells) end = past_last cells end

pub place_behind : (fs : List Cell) (c : Cell) (cs : List Cell) (end : ℕ) → cell_place (fs ++ c ∷ cs) (length fs) end ≡ c.at
place_behind [] c cs end = refl
place_behind (f ∷ fs) c cs end = place_behind fs c cs end

-- nothing else begins with a mark
record IsHashed (cells : List Cell) : Type 0 where
  some : nat_le (length cells) 0 ≡ false
  ink : first_cursor cells ≡ front
  quote : (cell_byte cells 0 == 62) ≡ false
  rule : is_rule cells (tail_of cells) 0 ≡ false
  marker : marker_at cells 0 ≡ None

pub some_cells : (n : ℕ) → nat_le (suc n) 0 ≡ false
some_cells n = grind (arith, nat_tests)

hashed : (at : ℕ) (bs : List ℕ) → IsHashed (numbered at (35 ∷ bs))
unfolding first_cursor is_rule is_rule_byte marker_at bullet_at ordered_at
hashed at bs = record {
  some = some_cells (length (numbered (at + 1) bs));
  ink = refl;
  quote = refl;
  rule = refl;
  marker = refl;
}

marks_hashed : (l : HeadingLevel) (at : ℕ) (xs : List ℕ) → IsHashed (numbered at (marks l ++ xs))
marks_hashed level.H1 at xs = hashed at (codes " " ++ xs)
marks_hashed level.H2 at xs = hashed at (35 ∷ (codes " " ++ xs))
marks_hashed level.H3 at xs = hashed at (35 ∷ 35 ∷ (codes " " ++ xs))
marks_hashed level.H4 at xs = hashed at (35 ∷ 35 ∷ 35 ∷ (codes " " ++ xs))
marks_hashed level.H5 at xs = hashed at (35 ∷ 35 ∷ 35 ∷ 35 ∷ (codes " " ++ xs))
marks_hashed level.H6 at xs = hashed at (35 ∷ 35 ∷ 35 ∷ 35 ∷ 35 ∷ (codes " " ++ xs))

first_mark : (l : HeadingLevel) (at : ℕ) (xs : List ℕ) (end : ℕ) → cell_place (numbered at (marks l ++ xs)) 0 end ≡ at
first_mark level.H1 at xs end = refl
first_mark level.H2 at xs end = refl
first_mark level.H3 at xs end = refl
first_mark level.H4 at xs end = refl
first_mark level.H5 at xs end = refl
first_mark level.H6 at xs end = refl

-- a heading on one line that is in a text
pub heading_line : (text : List ℕ) (l : HeadingLevel) (b : ℕ) (bs : List ℕ) (start next number : ℕ) → let bytes = marks l ++ b ∷ bs in
    bytes_between text start (start + length bytes) ≡ bytes → AllByRecursion IsWithin bytes → (b == 32) ≡ false → EndsHeading (b ∷ bs) → start + length bytes < 2 ^ 64 →
    IsHeadingLine text (numbered start bytes) (record { number = number; start = start; end = start + length bytes; next = next }) (record { level = l; from = length (marks l); to = length (numbered start bytes) }) (start + length (marks l)) (start + length bytes)
heading_line text l b bs start next number e within s ends fits =
    let bytes : List ℕ = marks l ++ b ∷ bs in
    let end : ℕ = start + length bytes in
    let fs : List Cell = numbered start (marks l) in
    let long : length fs ≡ length (marks l) = numbered_length start (marks l) in
    let cells : numbered start bytes ≡ fs ++ numbered (start + length (marks l)) (b ∷ bs) = numbered_append start (marks l) (b ∷ bs) in
    let k = marks_hashed l start (b ∷ bs) in
    let to : heading_end_before (numbered start bytes) (length (marks l)) (length (numbered start bytes)) ≡ length (numbered start bytes) =
    subst (λ n. heading_end_before (numbered start bytes) n (length (numbered start bytes)) ≡ length (numbered start bytes)) long
    (subst (λ cs. heading_end_before cs (length fs) (length cs) ≡ length cs) (sym cells) (ends_whole fs (start + length (marks l)) (b ∷ bs) ends))
    in
    let width : length bytes ≡ length (marks l) + suc (length bs) = length-append (marks l) (b ∷ bs) in
    record {
      columns = ap (cells_of [] start) e ∙ cells_within start bytes within fits;
      place = first_mark l start (b ∷ bs) end;
      some = k.some;
      ink = k.ink;
      quote = k.quote;
      rule = k.rule;
      marker = k.marker;
      heading = heading_found l start b bs s ∙ ap (λ n. Some (let h : Heading = record { level = l; from = length (marks l); to = n } in h)) to;
      from_place = ap (λ n. cell_place (numbered start bytes) n end) (sym long) ∙ ap (λ (cs : List Cell). cell_place cs (length fs) end) cells ∙ place_behind fs (cell b (start + length (marks l))) (numbered (start + length (marks l) + 1) bs) end;
      to_place = past_last (numbered start bytes) end;
      order = grind (arith, width, nat_tests);
    }
