-- The content of lines that have no mark in any reading, each after the one before.
use Rattle.std.proofs.Common.{◌≡◌, ℕ, suc, ◌+◌, ◌-◌, ◌^◌, ◌<◌, ◌≤◌, Bool, true, false, not, ◌==◌, ◌&&◌, nat_lt, nat_le, List, [], ◌∷◌, ◌++◌, length, map, take, drop, refl, ap, sym, ◌∙◌, arith, append_assoc, append-nil, length-append, true≢false}
use Rattle.std.proofs.lemmas.Bool.Decides.{nat_tests}
use Rattle.std.proofs.lemmas.List.{length-drop, length-take}
use Rattle.std.specs.List.{AllByRecursion, fold, list_all}
use Rattle.tocmark_read_scan.specs.Basic.{bytes_between}
use Rattle.tocmark_read_scan.specs.Class.{is_in}
use Rattle.tocmark_read_scan.specs.Content as content
use Rattle.tocmark_read_scan.specs.PlainParts.{Part, Bare, Feed, spelled, last_byte}
use Rattle.tocmark_read_scan.specs.declared.class.Class.TheVariants.{White}
use Rattle.tocmark_read_scan.proofs.PlainContent.{places_of, put_bytes_plain, trimmed_feed, length_places}
use Rattle.tocmark_read_scan.proofs.PlainTests.{both_true, is_not, all_from}
use Rattle.tocmark_read_page.specs.declared.piece.Piece.{Piece}
use Rattle.tocmark_read_inlines.specs.Scan.{is_quiet}
use Rattle.tocmark_reader.specs.Pages.{content_line}
use Rattle.tocmark_reader.specs.QuietLines.{is_text_byte, is_quiet_line, are_quiet_from}

-- the bytes of a line
abbrev pub bytes_of : List ℕ → Piece → List ℕ
bytes_of text l = bytes_between text l.start l.end

-- what is known of a line that is quiet
pub record IsQuietLine (text : List ℕ) (l : Piece) : Type 0 where
  pub bytes : AllByRecursion (λ b. is_text_byte b ≡ true) (bytes_of text l)
  pub ink : is_in White (last_byte 10 (bytes_of text l)) ≡ false
  pub width : l.start + length (bytes_of text l) ≡ l.end
  pub within : l.end ≤ length text

-- no line of white space ends in ink
white_feed : is_in White 10 ≡ true
unfolding is_in
white_feed = refl

slice_width : (text : List ℕ) (start end : ℕ) → start ≤ end → end ≤ length text → start + length (take (end - start) (drop start text)) ≡ end
slice_width text start end h k =
    let wide : length (take (end - start) (drop start text)) ≡ end - start = grind (arith, length-take, length-drop) in
    omega (arith, wide, h)

most_from : (a b : ℕ) → nat_le a b ≡ true → a ≤ b
most_from a b h = grind (arith, nat_tests)

below_from : (a b : ℕ) → nat_lt a b ≡ true → a < b
below_from a b h = grind (arith, nat_tests)

-- the range of a line that ends in ink
record IsRange (text : List ℕ) (start end : ℕ) : Type 0 where
  width : start + length (bytes_between text start end) ≡ end
  within : end ≤ length text

range_of : (text : List ℕ) (start end : ℕ) → is_in White (last_byte 10 (bytes_between text start end)) ≡ false → IsRange text start end
range_of text start end h = by_range (nat_le start end && nat_le end (length text)) refl
  where
    by_range : (t : Bool) → (nat_le start end && nat_le end (length text)) ≡ t → IsRange text start end
    by_range false e = absurd (true≢false (sym white_feed ∙ ap (λ (xs : List ℕ). is_in White (last_byte 10 xs)) (sym (outside e)) ∙ h))
      where
        outside : (nat_le start end && nat_le end (length text)) ≡ false → bytes_between text start end ≡ []
        outside f = rw f refl
    by_range true e =
        let both = both_true (nat_le start end) (nat_le end (length text)) e in
        let forth : start ≤ end = most_from start end (both.0) in
        let within : end ≤ length text = most_from end (length text) (both.1) in
        let same : bytes_between text start end ≡ take (end - start) (drop start text) = rw e refl in
        record { width = ap (λ (xs : List ℕ). start + length xs) same ∙ slice_width text start end forth within; within = within }

pub quiet_line : (text : List ℕ) (l : Piece) → is_quiet_line text l ≡ true → IsQuietLine text l
unfolding is_quiet_line
quiet_line text l h =
    let bytes : List ℕ = bytes_of text l in
    let both = both_true (list_all is_text_byte bytes) (not (is_in White (last_byte 10 bytes))) h in
    let ink : is_in White (last_byte 10 bytes) ≡ false = is_not (is_in White (last_byte 10 bytes)) (both.1) in
    let range = range_of text l.start l.end ink in
    record {
      bytes = all_from is_text_byte (λ b. is_text_byte b ≡ true) bytes (λ b k. k) (both.0);
      ink = ink;
      width = range.width;
      within = range.within;
    }

-- lines that are quiet, each after the one before
abbrev pub AreQuiet : List ℕ → Piece → List Piece → Type 0
AreQuiet text l [] = IsQuietLine text l
AreQuiet text l (n ∷ ns) = IsQuietLine text l × (l.end < n.start) × AreQuiet text n ns

pub are_quiet : (text : List ℕ) (l : Piece) (ls : List Piece) → are_quiet_from text l ls ≡ true → AreQuiet text l ls
are_quiet text l [] h = quiet_line text l h
are_quiet text l (n ∷ ns) h =
    let all = both_true (is_quiet_line text l && nat_lt l.end n.start) (are_quiet_from text n ns) h in
    let both = both_true (is_quiet_line text l) (nat_lt l.end n.start) (all.0) in
    (quiet_line text l (both.0), below_from l.end n.start (both.1), are_quiet text n ns (all.1))

-- bytes that stand for themselves, and what is after them
abbrev pub bares : List ℕ → List Part → List Part
bares [] rest = rest
bares (x ∷ xs) rest = Bare x ∷ bares xs rest

-- the parts of lines, with a line feed between two
abbrev pub line_parts : List ℕ → Piece → List Piece → List Part
line_parts text l [] = bares (bytes_of text l) []
line_parts text l (n ∷ ns) = bares (bytes_of text l) (Feed ∷ line_parts text n ns)

pub spelled_bares : (xs : List ℕ) (rest : List Part) → spelled (bares xs rest) ≡ xs ++ spelled rest
spelled_bares [] rest = refl
spelled_bares (x ∷ xs) rest = ap (λ (l : List ℕ). x ∷ l) (spelled_bares xs rest)

-- the bytes of lines
abbrev pub joined : List ℕ → Piece → List Piece → List ℕ
joined text l [] = bytes_of text l
joined text l (n ∷ ns) = bytes_of text l ++ 10 ∷ joined text n ns

pub spelled_lines : (text : List ℕ) (l : Piece) (ls : List Piece) → spelled (line_parts text l ls) ≡ joined text l ls
spelled_lines text l [] = spelled_bares (bytes_of text l) [] ∙ append-nil (bytes_of text l)
spelled_lines text l (n ∷ ns) = spelled_bares (bytes_of text l) (Feed ∷ line_parts text n ns) ∙ ap (λ (xs : List ℕ). bytes_of text l ++ 10 ∷ xs) (spelled_lines text n ns)

-- the ranges of these bytes
abbrev pub joined_places : List ℕ → Piece → List Piece → List (ℕ × ℕ)
joined_places text l [] = places_of l.start (bytes_of text l)
joined_places text l (n ∷ ns) = places_of l.start (bytes_of text l) ++ (l.end, l.next) ∷ joined_places text n ns

length_joined : (text : List ℕ) (l : Piece) (ls : List Piece) → length (joined_places text l ls) ≡ length (joined text l ls)
length_joined text l [] = length_places l.start (bytes_of text l)
length_joined text l (n ∷ ns) =
    let xs : List ℕ = bytes_of text l in
    length-append (places_of l.start xs) ((l.end, l.next) ∷ joined_places text n ns)
    ∙ ap (λ k. k + suc (length (joined_places text n ns))) (length_places l.start xs)
    ∙ ap (λ k. length xs + suc k) (length_joined text n ns)
    ∙ sym (length-append xs (10 ∷ joined text n ns))

-- where the last line ends, and what follows it begins
abbrev last_feed : Piece → List Piece → ℕ × ℕ
last_feed l [] = (l.end, l.next)
last_feed l (n ∷ ns) = last_feed n ns

no_zero : (b : ℕ) → is_text_byte b ≡ true → (b == 0) ≡ false
unfolding is_text_byte
no_zero b h = is_not (b == 0) ((both_true (is_quiet b) (not (b == 0)) h).1)

all_no_zeros : (xs : List ℕ) → AllByRecursion (λ b. is_text_byte b ≡ true) xs → AllByRecursion (λ b. (b == 0) ≡ false) xs
all_no_zeros [] h = tt
all_no_zeros (x ∷ xs) h = (no_zero x (h.0), all_no_zeros xs (h.1))

line_put : (text : List ℕ) (l : Piece) (s : content.State) → IsQuietLine text l → length text < 2 ^ 64 → content.put_line text s (content_line l) ≡ record { bytes = s.bytes ++ (bytes_of text l ++ 10 ∷ []); places = s.places ++ (places_of l.start (bytes_of text l) ++ (l.end, l.next) ∷ []) }
unfolding content.put_line content.put content_line
line_put text l s h fits =
    let xs : List ℕ = bytes_of text l in
    let width : l.start + length xs ≡ l.end = h.width in
    let within : l.end ≤ length text = h.within in
    ap (λ (t : content.State). content.put 10 l.end l.next t) (put_bytes_plain l.start s xs (all_no_zeros xs h.bytes) (let q : l.start + length xs < 2 ^ 64 = omega (arith, width, within, fits) in q))
    ∙ rw (append_assoc s.bytes xs (10 ∷ []), append_assoc s.places (places_of l.start xs) ((l.end, l.next) ∷ [])) refl

lines_put : (text : List ℕ) (l : Piece) (ls : List Piece) (s : content.State) → AreQuiet text l ls → length text < 2 ^ 64 → fold (content.put_line text) s (map content_line (l ∷ ls)) ≡ record { bytes = s.bytes ++ (joined text l ls ++ 10 ∷ []); places = s.places ++ (joined_places text l ls ++ last_feed l ls ∷ []) }
lines_put text l [] s h fits = line_put text l s h fits
lines_put text l (n ∷ ns) s h fits =
    let xs : List ℕ = bytes_of text l in
    let more : List ℕ = joined text n ns in
    let ps : List (ℕ × ℕ) = places_of l.start xs in
    let qs : List (ℕ × ℕ) = joined_places text n ns in
    let one : content.State = record { bytes = s.bytes ++ (xs ++ 10 ∷ []); places = s.places ++ (ps ++ (l.end, l.next) ∷ []) } in
    ap (λ (t : content.State). fold (content.put_line text) t (map content_line (n ∷ ns))) (line_put text l s (h.0) fits)
    ∙ lines_put text n ns one (h.2) fits
    ∙ rw (
      append_assoc s.bytes (xs ++ 10 ∷ []) (more ++ 10 ∷ []),
      append_assoc xs (10 ∷ []) (more ++ 10 ∷ []),
      append_assoc xs (10 ∷ more) (10 ∷ []),
      append_assoc s.places (ps ++ (l.end, l.next) ∷ []) (qs ++ last_feed n ns ∷ []),
      append_assoc ps ((l.end, l.next) ∷ []) (qs ++ last_feed n ns ∷ []),
      append_assoc ps ((l.end, l.next) ∷ qs) (last_feed n ns ∷ []),
    ) refl

-- bytes are those before the last one, and that one
pub split_last : (b : ℕ) (bs : List ℕ) → (body : List ℕ) × (b ∷ bs ≡ body ++ last_byte b bs ∷ [])
split_last b [] = ([], refl)
split_last b (c ∷ cs) = let more = split_last c cs in (b ∷ more.0, ap (λ (l : List ℕ). b ∷ l) (more.1))

-- a text and its last byte, which isn't white space
abbrev EndsInInk : List ℕ → Type 0
EndsInInk xs = (body : List ℕ) × (y : ℕ) × (xs ≡ body ++ y ∷ []) × (is_in White y ≡ false)

line_ends : (xs : List ℕ) → is_in White (last_byte 10 xs) ≡ false → EndsInInk xs
line_ends [] h = absurd (true≢false (sym white_feed ∙ h))
line_ends (x ∷ xs) h = let split = split_last x xs in (split.0, last_byte x xs, split.1, h)

lines_end : (text : List ℕ) (l : Piece) (ls : List Piece) → AreQuiet text l ls → EndsInInk (joined text l ls)
lines_end text l [] h = line_ends (bytes_of text l) h.ink
lines_end text l (n ∷ ns) h =
    let more = lines_end text n ns (h.2) in
    let xs : List ℕ = bytes_of text l in
    (xs ++ 10 ∷ more.0, more.1, ap (λ (ys : List ℕ). xs ++ 10 ∷ ys) (more.2) ∙ sym (append_assoc xs (10 ∷ more.0) (more.1 ∷ [])), more.3)

-- their content is their bytes, each with its range
pub content_of_quiet : (text : List ℕ) (l : Piece) (ls : List Piece) → AreQuiet text l ls → length text < 2 ^ 64 → content.content_of text (map content_line (l ∷ ls)) ≡ record { bytes = joined text l ls; places = joined_places text l ls }
unfolding content.content_of
content_of_quiet text l ls h fits =
    let all : List ℕ = joined text l ls in
    let ps : List (ℕ × ℕ) = joined_places text l ls in
    let end = lines_end text l ls h in
    let body : List ℕ = end.0 in
    let y : ℕ = end.1 in
    let split : all ≡ body ++ y ∷ [] = end.2 in
    ap content.trimmed (lines_put text l ls (record { bytes = []; places = [] }) h fits)
    ∙ ap (λ (xs : List ℕ). content.trimmed (record { bytes = xs ++ 10 ∷ []; places = ps ++ last_feed l ls ∷ [] })) split
    ∙ trimmed_feed body y ps (last_feed l ls) (length_joined text l ls ∙ ap length split) (end.3)
    ∙ ap (λ (xs : List ℕ). (let f : content.State = record { bytes = xs; places = ps } in f)) (sym split)
