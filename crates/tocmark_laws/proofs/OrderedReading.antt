-- Lines of words after numbers are read as a tight list with the first number.
use Rattle.std.proofs.Common.{◌≡◌, ℕ, suc, ◌+◌, ◌-◌, ◌*◌, ◌^◌, ◌<◌, ◌≤◌, min, true, false, ◌==◌, nat_lt, nat_le, List, [], ◌∷◌, ◌++◌, length, map, refl, ap, sym, subst, ◌∙◌, arith, append_assoc, length-append, Option, Some, true≢false}
use Rattle.std.proofs.Math.Nat.{pow-le-pow_right}
use Rattle.std.proofs.lemmas.Bool.Decides.{nat_tests}
use Rattle.std.proofs.lemmas.Int.Digits.{digits_value-lt}
use Rattle.std.proofs.lemmas.List.Sums.{take_while-cons}
use Rattle.std.specs.Char.{digit_value, is_ascii_alphabetic, is_ascii_digit}
use Rattle.std.specs.List.{AllByRecursion, fold, list_all, take_while}
use Rattle.std.specs.Str.Parse.{AllDigits, digits_value, digits_value_after}
use Rattle.tocmark_event.specs.View.{EventView, Start, End, ListOf, end_of as tag_end}
use Rattle.tocmark_read_scan.specs.Basic.{plus, bytes_between}
use Rattle.tocmark_read_scan.specs.declared.syntax.Syntax.{Syntax}
use Rattle.tocmark_read_scan.proofs.PlainPieces.{piece_between}
use Rattle.tocmark_read_scan.proofs.PlainTests.{both_true, all_true, turned, all_from}
use Rattle.tocmark_read_lines.specs.Cells.{bytes_of, cell, cell_byte, first_cursor, run_of}
use Rattle.tocmark_read_lines.specs.Containers.{container_at, item_at, item_gap}
use Rattle.tocmark_read_lines.specs.Marks.{is_rule, is_rule_byte, marker_at, bullet_at, ordered_at, digit_count, number_of, number_step, is_behind, tail_of}
use Rattle.tocmark_read_lines.specs.declared.cell.Cell.{Cell}
use Rattle.tocmark_read_lines.specs.declared.container.ContainerStart.TheVariants as begins
use Rattle.tocmark_read_blocks.proofs.PlainLines.{IsWithin, numbered}
use Rattle.tocmark_read_blocks.proofs.PlainSteps.{front}
use Rattle.tocmark_reader.specs.PlainTexts.{IsReadAs}
use Rattle.tocmark_reader.specs.Reading.{reading_of}
use Rattle.tocmark_reader.proofs.PlainReading.{IsPrintable}
use Rattle.tocmark_reader.proofs.PlainSources.{IsClean, AreClean, all_implied}
use Rattle.tocmark_laws.specs.Extensions.{is_word_line, lined}
use Rattle.tocmark_laws.specs.PlainLists.{items_events}
use Rattle.tocmark_laws.specs.OrderedLists.{NumberedLine, is_number, is_numbered_line, is_delimiter, numbered_line, ordered_list, ordered_events}
use Rattle.tocmark_laws.proofs.AttributedHeadings.{byte_numbered, bytes_numbered}
use Rattle.tocmark_laws.proofs.BreakReading.{all_both}
use Rattle.tocmark_laws.proofs.DocumentHeadings.{numbered_length}
use Rattle.tocmark_laws.proofs.ExtensionParagraphs.{free_note, within_byte, clean_byte, clean_feed}
use Rattle.tocmark_laws.proofs.InkAtColumn.{drop_numbered}
use Rattle.tocmark_laws.proofs.ListBlocks.{Begins, ItemLine, item_bytes, AreItems}
use Rattle.tocmark_laws.proofs.ListReading.{AreWordItems, list_read}
use Rattle.tocmark_laws.proofs.WordsReading.{IsWordByte, IsWordLine, AreWords, words_from}

-- ---- the number that digits write

abbrev pub IsDigit : ℕ → Type 0
IsDigit d = is_ascii_digit d ≡ true

value_of : (d : ℕ) → IsDigit d → digit_value d ≡ d - 48
value_of d h =
    let low : 48 ≤ d = grind (arith, h, nat_tests) in
    let high : d < 58 = grind (arith, h, nat_tests) in
    let not_below : nat_lt d 48 ≡ false = grind (arith, nat_tests) in
    let below : nat_lt d 58 ≡ true = grind (arith, nat_tests) in
    rw (not_below, below) refl

are_digits : (ds : List ℕ) → AllByRecursion IsDigit ds → AllDigits 10 ds
are_digits [] h = tt
are_digits (d ∷ ds) h =
    let value : digit_value d ≡ d - 48 = value_of d (h.0) in
    let high : d < 58 = grind (arith, h.0, nat_tests) in
    (omega (arith, value, high), are_digits ds (h.1))

-- where it stops at the greatest of 64 bits
abbrev stopped_at : ℕ → ℕ
stopped_at n = min n (2 ^ 64 - 1)

digits_read : (n : ℕ) (ds : List ℕ) → AllByRecursion IsDigit ds → fold number_step (stopped_at n) ds ≡ stopped_at (digits_value_after 10 n ds)
unfolding number_step
digits_read n [] h = refl
digits_read n (d ∷ ds) h =
    let value : digit_value d ≡ d - 48 = value_of d (h.0) in
    let one : min (min (min n (2 ^ 64 - 1) * 10) (2 ^ 64 - 1) + (d - 48)) (2 ^ 64 - 1) ≡ min (n * 10 + digit_value d) (2 ^ 64 - 1) = omega (arith, value) in
    ap (λ k. fold number_step k ds) one ∙ digits_read (n * 10 + digit_value d) ds (h.1)

number_read : (ds : List ℕ) → AllByRecursion IsDigit ds → length ds ≤ 9 → number_of ds ≡ digits_value 10 ds
number_read ds h few =
    let below : digits_value 10 ds < 10 ^ length ds = digits_value-lt 10 ds (are_digits ds h) in
    let most : 10 ^ length ds ≤ 10 ^ 9 = pow-le-pow_right (omega arith) few in
    let small : min (digits_value 10 ds) (2 ^ 64 - 1) ≡ digits_value 10 ds = omega (arith, below, most) in
    digits_read 0 ds h ∙ small

-- ---- an item after a number

digits_run : (k : ℕ) (ds : List ℕ) (c : ℕ) (rest : List ℕ) → AllByRecursion IsDigit ds → is_ascii_digit c ≡ false → length (take_while (λ (x : Cell). is_ascii_digit x.byte) (numbered k (ds ++ c ∷ rest))) ≡ length ds
digits_run k [] c rest h other = ap length (take_while-cons (λ (x : Cell). is_ascii_digit x.byte) (cell c k) (numbered (k + 1) rest)) ∙ rw other refl
digits_run k (d ∷ ds) c rest h other =
    ap length (take_while-cons (λ (x : Cell). is_ascii_digit x.byte) (cell d k) (numbered (k + 1) (ds ++ c ∷ rest)))
    ∙ rw (h.0) (ap suc (digits_run (k + 1) ds c rest (h.1) other))

-- one space is after the mark
one_space : (k : ℕ) (ds : List ℕ) (c b : ℕ) (bs : List ℕ) → (b == 32) ≡ false → run_of (numbered k (ds ++ c ∷ 32 ∷ b ∷ bs)) (length ds + 1) 32 ≡ 1
one_space k ds c b bs h =
    let pre : List ℕ = ds ++ c ∷ [] in
    let wide : length ds + 1 ≡ length pre = sym (length-append ds (c ∷ [])) in
    ap (λ (l : List ℕ). run_of (numbered k l) (length ds + 1) 32) (sym (append_assoc ds (c ∷ []) (32 ∷ b ∷ bs)))
    ∙ ap (λ n. run_of (numbered k (pre ++ 32 ∷ b ∷ bs)) n 32) wide
    ∙ ap (λ (cs : List Cell). length (take_while (λ (x : Cell). x.byte == 32) cs)) (drop_numbered k pre 32 (b ∷ bs))
    ∙ rw h refl

-- what is known of a number
pub record IsNumber (d : ℕ) (ds : List ℕ) : Type 0 where
  pub digits : AllByRecursion IsDigit (d ∷ ds)
  pub few : length (d ∷ ds) ≤ 9

no_digit : (c : ℕ) → is_delimiter c ≡ true → is_ascii_digit c ≡ false
no_digit c e = grind (arith, e, nat_tests)

item_found : (k d : ℕ) (ds : List ℕ) (delimiter b : ℕ) (bs : List ℕ) → IsNumber d ds → is_delimiter delimiter ≡ true → is_ascii_alphabetic b ≡ true → container_at (numbered k (d ∷ ds ++ delimiter ∷ 32 ∷ b ∷ bs)) (tail_of (numbered k (d ∷ ds ++ delimiter ∷ 32 ∷ b ∷ bs))) front false ≡ Some (begins.Item (record { sort = delimiter; number = Some (digits_value 10 (d ∷ ds)); width = length (d ∷ ds) + 2; next = length (d ∷ ds) + 2 }))
unfolding container_at item_at marker_at bullet_at ordered_at is_behind item_gap is_rule is_rule_byte
item_found k d ds delimiter b bs w h letter =
    let number : List ℕ = d ∷ ds in
    let n : ℕ = length number in
    let rest : List ℕ = delimiter ∷ 32 ∷ b ∷ bs in
    let cells : List Cell = numbered k (number ++ rest) in
    let few : n ≤ 9 = w.few in
    let first : is_ascii_digit d ≡ true = w.digits.0 in
    let space : (b == 32) ≡ false = turned is_ascii_alphabetic 32 b letter refl in
    let no_quote : (d == 62) ≡ false = turned is_ascii_digit 62 d first refl in
    let no_star : (d == 42) ≡ false = turned is_ascii_digit 42 d first refl in
    let no_minus : (d == 45) ≡ false = turned is_ascii_digit 45 d first refl in
    let no_line : (d == 95) ≡ false = turned is_ascii_digit 95 d first refl in
    let no_plus : (d == 43) ≡ false = turned is_ascii_digit 43 d first refl in
    let wide : length cells ≡ n + (length bs + 3) = numbered_length k (number ++ rest) ∙ length-append number rest ∙ (let q : n + suc (suc (suc (length bs))) ≡ n + (length bs + 3) = omega arith in q) in
    let some : nat_le (length cells) 0 ≡ false = grind (arith, wide, nat_tests) in
    let count : digit_count cells 0 ≡ n = digits_run k number delimiter (32 ∷ b ∷ bs) w.digits (no_digit delimiter h) in
    let last : plus 0 n ≡ n = omega (arith, few) in
    let least : nat_le 1 n ≡ true = grind (arith, nat_tests) in
    let most : nat_le n 9 ≡ true = grind (arith, few, nat_tests) in
    let sort : cell_byte cells n ≡ delimiter = byte_numbered k number (32 ∷ b ∷ bs) delimiter n refl in
    let one : plus n 1 ≡ n + 1 = omega (arith, few) in
    let split : number ++ rest ≡ (number ++ delimiter ∷ []) ++ 32 ∷ b ∷ bs = sym (append_assoc number (delimiter ∷ []) (32 ∷ b ∷ bs)) in
    let behind : cell_byte cells (n + 1) ≡ 32 = ap (λ (l : List ℕ). cell_byte (numbered k l) (n + 1)) split ∙ byte_numbered k (number ++ delimiter ∷ []) (b ∷ bs) 32 (n + 1) (sym (length-append number (delimiter ∷ []))) in
    let more : nat_le (length cells) (n + 1) ≡ false = grind (arith, wide, nat_tests) in
    let says : number_of (bytes_between (bytes_of cells) 0 n) ≡ digits_value 10 number = ap (λ (l : List ℕ). number_of (bytes_between l 0 n)) (bytes_numbered k (number ++ rest)) ∙ ap number_of (piece_between (number ++ rest) [] number rest 0 n refl refl (let q : n ≡ 0 + n = omega arith in q)) ∙ number_read number w.digits few in
    let zero : plus 0 (n + 1) ≡ n + 1 = omega (arith, few) in
    let run : run_of cells (n + 1) 32 ≡ 1 = one_space k number delimiter b bs space in
    let two : plus (n + 1) 1 ≡ n + 2 = omega (arith, few) in
    let ink : nat_le (length cells) (n + 2) ≡ false = grind (arith, wide, nat_tests) in
    let gap : n + 2 - (n + 1) ≡ 1 = omega arith in
    let width : plus 0 (n + 2) ≡ n + 2 = omega (arith, few) in
    let next : min (n + 2) (length cells) ≡ n + 2 = omega (arith, wide) in
    simp (some, no_quote, no_star, no_minus, no_line, no_plus, count, last, least, most, sort, one, h, behind, more, says, zero, run, two, ink, gap, width, next) refl

first_ink : (k d : ℕ) (rest : List ℕ) → IsDigit d → first_cursor (numbered k (d ∷ rest)) ≡ front
unfolding first_cursor
first_ink k d rest h = rw (turned is_ascii_digit 32 d h refl) refl

shown : (b : ℕ) → 32 ≤ b → b < 127 → IsPrintable b
shown b low high = record { low = low; high = high }

digit_shown : (d : ℕ) → IsDigit d → IsPrintable d
digit_shown d h = record { low = grind (arith, h, nat_tests); high = grind (arith, h, nat_tests) }

delimiter_shown : (c : ℕ) → is_delimiter c ≡ true → IsPrintable c
delimiter_shown c h = record { low = grind (arith, h, nat_tests); high = grind (arith, h, nat_tests) }

-- a mark
abbrev mark_of : ℕ → List ℕ → List ℕ
mark_of delimiter digits = digits ++ delimiter ∷ 32 ∷ []

mark_shown : (delimiter : ℕ) (digits : List ℕ) → is_delimiter delimiter ≡ true → AllByRecursion IsDigit digits → AllByRecursion IsPrintable (mark_of delimiter digits)
mark_shown delimiter digits h w =
    all_both IsPrintable digits (delimiter ∷ 32 ∷ []) (all_implied IsDigit IsPrintable digits digit_shown w) (delimiter_shown delimiter h, (shown 32 (omega arith) (omega arith), tt))

-- a number that begins an item
number_begins : (d : ℕ) (ds : List ℕ) (delimiter b : ℕ) (bs : List ℕ) → IsNumber d ds → is_delimiter delimiter ≡ true → IsWordLine b bs → Begins delimiter (Some (digits_value 10 (d ∷ ds))) (mark_of delimiter (d ∷ ds)) b bs
number_begins d ds delimiter b bs n h w =
    let digits : List ℕ = d ∷ ds in
    let mark : List ℕ = mark_of delimiter digits in
    let few : length digits ≤ 9 = n.few in
    let width : length mark ≡ length digits + 2 = length-append digits (delimiter ∷ 32 ∷ []) in
    let first : is_ascii_digit d ≡ true = n.digits.0 in
    let bracket : (91 == d) ≡ false = (let q : (d == 91) ≡ false = turned is_ascii_digit 91 d first refl in grind (arith, q, nat_tests)) in
    record {
      body = digits ++ delimiter ∷ [];
      final = 32;
      shape = sym (append_assoc digits (delimiter ∷ []) (32 ∷ []));
      short = omega (arith, width, few);
      within = all_both IsWithin mark (b ∷ bs) (all_implied IsPrintable IsWithin mark within_byte (mark_shown delimiter digits h n.digits)) (all_implied IsWordByte IsWithin (b ∷ bs) (λ x k. within_byte x k.printable) w.bytes);
      letter = w.letter;
      ink = λ k. first_ink k d ((ds ++ delimiter ∷ 32 ∷ []) ++ b ∷ bs) first;
      note = λ k. free_note k d ((ds ++ delimiter ∷ 32 ∷ []) ++ b ∷ bs) bracket;
      colon = λ k. turned is_ascii_digit 58 d first refl;
      item = λ k. ap (λ (l : List ℕ). container_at (numbered k l) (tail_of (numbered k l)) front false) (append_assoc digits (delimiter ∷ 32 ∷ []) (b ∷ bs))
          ∙ item_found k d ds delimiter b bs n h w.letter
          ∙ ap (λ m. Some (begins.Item (record { sort = delimiter; number = Some (digits_value 10 digits); width = m; next = m }))) (sym width);
    }

-- ---- all items

abbrev pub AreNumber : List ℕ → Type 0
AreNumber [] = ⊥
AreNumber (d ∷ ds) = IsNumber d ds

number_from : (ds : List ℕ) → is_number ds ≡ true → AreNumber ds
number_from [] h = absurd (true≢false (sym h))
number_from (d ∷ ds) h =
    let three = all_true (nat_le 1 (length (d ∷ ds))) (nat_le (length (d ∷ ds)) 9) (list_all is_ascii_digit (d ∷ ds)) h in
    let most : nat_le (length (d ∷ ds)) 9 ≡ true = three.1 in
    record { digits = all_from is_ascii_digit IsDigit (d ∷ ds) (λ x k. k) (three.2); few = grind (arith, most, nat_tests) }

pub record IsNumbered (i : NumberedLine) : Type 0 where
  pub number : AreNumber i.digits
  pub plain : AreWords i.line

from_test : (i : NumberedLine) → is_numbered_line i ≡ true → IsNumbered i
from_test i h =
    let two = both_true (is_number i.digits) (is_word_line i.line) h in
    record { number = number_from i.digits (two.0); plain = words_from i.line (two.1) }

abbrev AreNumbered : List NumberedLine → Type 0
AreNumbered is = AllByRecursion IsNumbered is

-- a line as an item; no line is empty
abbrev as_line : ℕ → List ℕ → List ℕ → ItemLine
as_line delimiter digits [] = record { number = Some (digits_value 10 digits); mark = mark_of delimiter digits; letter = 97; others = [] }
as_line delimiter digits (b ∷ bs) = record { number = Some (digits_value 10 digits); mark = mark_of delimiter digits; letter = b; others = bs }

abbrev as_item : ℕ → NumberedLine → ItemLine
as_item delimiter i = as_line delimiter i.digits i.line

line_is : (delimiter : ℕ) (digits l : List ℕ) → AreWords l → item_bytes (as_line delimiter digits l) ≡ digits ++ delimiter ∷ 32 ∷ l
line_is delimiter digits [] h = absurd h
line_is delimiter digits (b ∷ bs) h = append_assoc digits (delimiter ∷ 32 ∷ []) (b ∷ bs)

lines_are : (delimiter : ℕ) (is : List NumberedLine) → AreNumbered is → map item_bytes (map (as_item delimiter) is) ≡ map (numbered_line delimiter) is
lines_are delimiter [] h = refl
lines_are delimiter (i ∷ is) h =
    ap (λ (x : List ℕ). x ∷ map item_bytes (map (as_item delimiter) is)) (line_is delimiter i.digits i.line (h.0).plain) ∙ ap (λ (xs : List (List ℕ)). numbered_line delimiter i ∷ xs) (lines_are delimiter is (h.1))

words_is : (delimiter : ℕ) (digits l : List ℕ) → AreWords l → (let i : ItemLine = as_line delimiter digits l in i.letter ∷ i.others) ≡ l
words_is delimiter digits [] h = absurd h
words_is delimiter digits (b ∷ bs) h = refl

words_are : (delimiter : ℕ) (is : List NumberedLine) → AreNumbered is → map (λ (i : ItemLine). i.letter ∷ i.others) (map (as_item delimiter) is) ≡ map (λ (x : NumberedLine). x.line) is
words_are delimiter [] h = refl
words_are delimiter (i ∷ is) h =
    ap (λ (x : List ℕ). x ∷ map (λ (j : ItemLine). j.letter ∷ j.others) (map (as_item delimiter) is)) (words_is delimiter i.digits i.line (h.0).plain) ∙ ap (λ (xs : List (List ℕ)). i.line ∷ xs) (words_are delimiter is (h.1))

line_begins : (delimiter : ℕ) (digits l : List ℕ) → AreNumber digits → is_delimiter delimiter ≡ true → AreWords l → (let i : ItemLine = as_line delimiter digits l in Begins delimiter i.number i.mark i.letter i.others)
line_begins delimiter digits [] n h w = absurd w
line_begins delimiter [] (b ∷ bs) n h w = absurd n
line_begins delimiter (d ∷ ds) (b ∷ bs) n h w = number_begins d ds delimiter b bs n h w

all_begin : (delimiter : ℕ) (is : List NumberedLine) → is_delimiter delimiter ≡ true → AreNumbered is → AreItems delimiter (map (as_item delimiter) is)
all_begin delimiter [] h w = tt
all_begin delimiter (i ∷ is) h w = (line_begins delimiter i.digits i.line (w.0).number h (w.0).plain, all_begin delimiter is h (w.1))

line_words : (delimiter : ℕ) (digits l : List ℕ) → AreWords l → (let i : ItemLine = as_line delimiter digits l in IsWordLine i.letter i.others)
line_words delimiter digits [] w = absurd w
line_words delimiter digits (b ∷ bs) w = w

all_words : (delimiter : ℕ) (is : List NumberedLine) → AreNumbered is → AreWordItems (map (as_item delimiter) is)
all_words delimiter [] w = tt
all_words delimiter (i ∷ is) w = (line_words delimiter i.digits i.line (w.0).plain, all_words delimiter is (w.1))

clean_digits : (digits : List ℕ) → AreNumber digits → AreClean digits
clean_digits [] n = absurd n
clean_digits (d ∷ ds) n = all_implied IsDigit IsClean (d ∷ ds) (λ x k. clean_byte x (digit_shown x k)) n.digits

clean_words : (l : List ℕ) → AreWords l → AreClean l
clean_words [] w = tt
clean_words (b ∷ bs) w = all_implied IsWordByte IsClean (b ∷ bs) (λ x k. clean_byte x k.printable) w.bytes

clean_line : (delimiter : ℕ) (i : NumberedLine) → is_delimiter delimiter ≡ true → IsNumbered i → AreClean (numbered_line delimiter i)
clean_line delimiter i h w =
    all_both IsClean i.digits (delimiter ∷ 32 ∷ i.line) (clean_digits i.digits w.number) (clean_byte delimiter (delimiter_shown delimiter h), (clean_byte 32 (shown 32 (omega arith) (omega arith)), clean_words i.line w.plain))

clean_list : (delimiter : ℕ) (i : NumberedLine) (is : List NumberedLine) → is_delimiter delimiter ≡ true → AreNumbered (i ∷ is) → AreClean (ordered_list delimiter i is)
clean_list delimiter i [] h w = clean_line delimiter i h (w.0)
clean_list delimiter i (j ∷ js) h w = all_both IsClean (numbered_line delimiter i) (10 ∷ ordered_list delimiter j js) (clean_line delimiter i h (w.0)) (clean_feed, clean_list delimiter j js h (w.1))

first_number : (delimiter : ℕ) (digits l : List ℕ) → (as_line delimiter digits l).number ≡ Some (digits_value 10 digits)
first_number delimiter digits [] = refl
first_number delimiter digits (b ∷ bs) = refl

pub ordered_read : (syntax : Syntax) (delimiter : ℕ) (i : NumberedLine) (is : List NumberedLine) → is_delimiter delimiter ≡ true → list_all is_numbered_line (i ∷ is) ≡ true → length (ordered_list delimiter i is) < 2 ^ 64 → IsReadAs (reading_of syntax (ordered_list delimiter i is)) (ordered_events i is)
ordered_read syntax delimiter i is h all fits =
    let w : AreNumbered (i ∷ is) = all_from is_numbered_line IsNumbered (i ∷ is) from_test all in
    let first : ItemLine = as_item delimiter i in
    let others : List ItemLine = map (as_item delimiter) is in
    let text : List ℕ = lined (item_bytes first) (map item_bytes others) in
    let same : text ≡ ordered_list delimiter i is =
    ap (λ (x : List ℕ). lined x (map item_bytes others)) (line_is delimiter i.digits i.line (w.0).plain) ∙ ap (lined (numbered_line delimiter i)) (lines_are delimiter is (w.1))
    in
    let read = list_read syntax delimiter first others (all_begin delimiter (i ∷ is) h w) (all_words delimiter (i ∷ is) w) (subst AreClean (sym same) (clean_list delimiter i is h w)) (subst (λ (xs : List ℕ). length xs < 2 ^ 64) (sym same) fits) in
    let numbered_events : Option ℕ → List (List ℕ) → List EventView = λ n ls. Start (ListOf n) ∷ items_events ls ++ End (tag_end (ListOf n)) ∷ [] in
    let means : numbered_events first.number (map (λ (j : ItemLine). j.letter ∷ j.others) (first ∷ others)) ≡ ordered_events i is =
    ap (λ n. numbered_events n (map (λ (j : ItemLine). j.letter ∷ j.others) (first ∷ others))) (first_number delimiter i.digits i.line) ∙ ap (numbered_events (Some (digits_value 10 i.digits))) (words_are delimiter (i ∷ is) w)
    in
    subst (λ (xs : List ℕ). IsReadAs (reading_of syntax xs) (ordered_events i is)) same
    (subst (λ (es : List EventView). IsReadAs (reading_of syntax text) es) means read)
