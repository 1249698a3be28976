-- Lines of words after bullets are read as a tight list.
use Rattle.std.proofs.Common.{◌≡◌, ℕ, ◌+◌, ◌^◌, ◌<◌, min, true, false, ◌==◌, nat_le, List, [], ◌∷◌, ◌++◌, length, map, refl, ap, sym, subst, ◌∙◌, arith, None, Some, ◌⊎◌, inl, inr, true≢false}
use Rattle.std.proofs.lemmas.Bool.Decides.{nat_tests}
use Rattle.std.specs.Char.{is_ascii_alphabetic}
use Rattle.std.specs.List.{AllByRecursion, list_all}
use Rattle.tocmark_event.specs.View.{EventView}
use Rattle.tocmark_read_scan.specs.declared.syntax.Syntax.{Syntax}
use Rattle.tocmark_read_scan.proofs.PlainTests.{differs, turned, all_from, one_of_three, eq_of}
use Rattle.tocmark_read_lines.specs.Cells.{cell, first_cursor}
use Rattle.tocmark_read_lines.specs.Containers.{container_at, item_at, item_gap}
use Rattle.tocmark_read_lines.specs.Marks.{is_rule, marker_at, bullet_at, is_behind, tail_of}
use Rattle.tocmark_read_lines.specs.declared.cell.Cell.{Cell}
use Rattle.tocmark_read_lines.specs.declared.container.ContainerStart.TheVariants as begins
use Rattle.tocmark_read_blocks.proofs.PlainLines.{IsWithin, numbered}
use Rattle.tocmark_read_blocks.proofs.PlainSteps.{front}
use Rattle.tocmark_reader.specs.PlainTexts.{IsReadAs}
use Rattle.tocmark_reader.specs.Reading.{reading_of}
use Rattle.tocmark_reader.proofs.PlainReading.{IsPrintable}
use Rattle.tocmark_reader.proofs.PlainSources.{IsClean, AreClean, all_implied}
use Rattle.tocmark_laws.specs.Extensions.{is_word_line, lined}
use Rattle.tocmark_laws.specs.PlainLists.{is_bullet, bullet_line, bullet_list, bullet_events}
use Rattle.tocmark_laws.proofs.ExtensionParagraphs.{free_note, within_byte, clean_byte, clean_feed}
use Rattle.tocmark_laws.proofs.InkAtColumn.{no_rule_front}
use Rattle.tocmark_laws.proofs.ListBlocks.{Begins, ItemLine, item_bytes, AreItems}
use Rattle.tocmark_laws.proofs.ListReading.{AreWordItems, list_read}
use Rattle.tocmark_laws.proofs.WordsReading.{IsWordByte, IsWordLine, AreWords, words_from}

-- ---- an item after a bullet

item_found : (k bullet b : ℕ) (bs : List ℕ) → is_bullet bullet ≡ true → is_ascii_alphabetic b ≡ true → container_at (numbered k (bullet ∷ 32 ∷ b ∷ bs)) (tail_of (numbered k (bullet ∷ 32 ∷ b ∷ bs))) front false ≡ Some (begins.Item (record { sort = bullet; number = None; width = 2; next = 2 }))
unfolding container_at item_at marker_at bullet_at is_behind item_gap
item_found k bullet b bs h letter =
    let cells : List Cell = numbered k (bullet ∷ 32 ∷ b ∷ bs) in
    let space : (b == 32) ≡ false = turned is_ascii_alphabetic 32 b letter refl in
    let no_quote : (bullet == 62) ≡ false = turned is_bullet 62 bullet h refl in
    let other : (b == bullet) ≡ false = no_bullet (one_of_three (bullet == 45) (bullet == 43) (bullet == 42) h) in
    let none : is_rule cells (tail_of cells) 0 ≡ false = no_rule_front (cell bullet k ∷ cell 32 (k + 1) ∷ []) (cell b (k + 1 + 1)) (numbered (k + 1 + 1 + 1) bs) bullet (omega arith) refl space other in
    let some : nat_le (length cells) 0 ≡ false = grind (arith, nat_tests) in
    let more : nat_le (length cells) 1 ≡ false = grind (arith, nat_tests) in
    let ink : nat_le (length cells) 2 ≡ false = grind (arith, nat_tests) in
    let next : min 2 (length cells) ≡ 2 = omega arith in
    rw (some, no_quote, none, h, more, space, ink, next) refl
  where
    no_bullet : ((bullet == 45) ≡ true) ⊎ ((bullet == 43) ≡ true) ⊎ ((bullet == 42) ≡ true) → (b == bullet) ≡ false
    no_bullet (inl e) = ap (λ x. b == x) (eq_of bullet 45 e) ∙ turned is_ascii_alphabetic 45 b letter refl
    no_bullet (inr (inl e)) = ap (λ x. b == x) (eq_of bullet 43 e) ∙ turned is_ascii_alphabetic 43 b letter refl
    no_bullet (inr (inr e)) = ap (λ x. b == x) (eq_of bullet 42 e) ∙ turned is_ascii_alphabetic 42 b letter refl

first_ink : (k bullet : ℕ) (rest : List ℕ) → (bullet == 32) ≡ false → first_cursor (numbered k (bullet ∷ rest)) ≡ front
unfolding first_cursor
first_ink k bullet rest h = rw h refl

within_bullet : (bullet : ℕ) → is_bullet bullet ≡ true → IsWithin bullet
within_bullet bullet h = record { feed = turned is_bullet 10 bullet h refl; return = turned is_bullet 13 bullet h refl; tab = turned is_bullet 9 bullet h refl }

space_shown : IsPrintable 32
space_shown = record { low = omega arith; high = omega arith }

bullet_begins : (bullet b : ℕ) (bs : List ℕ) → is_bullet bullet ≡ true → IsWordLine b bs → Begins bullet None (bullet ∷ 32 ∷ []) b bs
bullet_begins bullet b bs h w = record {
  body = bullet ∷ [];
  final = 32;
  shape = refl;
  short = omega arith;
  within = (within_bullet bullet h, (within_byte 32 space_shown, all_implied IsWordByte IsWithin (b ∷ bs) (λ x k. within_byte x k.printable) w.bytes));
  letter = w.letter;
  ink = λ k. first_ink k bullet (32 ∷ b ∷ bs) (turned is_bullet 32 bullet h refl);
  note = λ k. free_note k bullet (32 ∷ b ∷ bs) (no_bracket bullet h);
  colon = λ k. turned is_bullet 58 bullet h refl;
  item = λ k. item_found k bullet b bs h w.letter;
}
  where
    no_bracket : (c : ℕ) → is_bullet c ≡ true → (91 == c) ≡ false
    no_bracket c e = differs is_bullet 91 c e refl

-- ---- all items

-- a line as an item; no line is empty
abbrev as_item : ℕ → List ℕ → ItemLine
as_item bullet [] = record { number = None; mark = bullet ∷ 32 ∷ []; letter = 97; others = [] }
as_item bullet (b ∷ bs) = record { number = None; mark = bullet ∷ 32 ∷ []; letter = b; others = bs }

abbrev as_items : ℕ → List (List ℕ) → List ItemLine
as_items bullet ls = map (as_item bullet) ls

item_is : (bullet : ℕ) (l : List ℕ) → AreWords l → item_bytes (as_item bullet l) ≡ bullet_line bullet l
item_is bullet [] h = absurd h
item_is bullet (b ∷ bs) h = refl

items_are : (bullet : ℕ) (ls : List (List ℕ)) → AllByRecursion AreWords ls → map item_bytes (as_items bullet ls) ≡ map (bullet_line bullet) ls
items_are bullet [] h = refl
items_are bullet (l ∷ ls) h =
    ap (λ (x : List ℕ). x ∷ map item_bytes (as_items bullet ls)) (item_is bullet l (h.0)) ∙ ap (λ (xs : List (List ℕ)). bullet_line bullet l ∷ xs) (items_are bullet ls (h.1))

words_are : (bullet : ℕ) (ls : List (List ℕ)) → AllByRecursion AreWords ls → map (λ (i : ItemLine). i.letter ∷ i.others) (as_items bullet ls) ≡ ls
words_are bullet [] h = refl
words_are bullet ([] ∷ ls) h = absurd (h.0)
words_are bullet ((b ∷ bs) ∷ ls) h = ap (λ (xs : List (List ℕ)). (b ∷ bs) ∷ xs) (words_are bullet ls (h.1))

all_begin : (bullet : ℕ) (ls : List (List ℕ)) → is_bullet bullet ≡ true → AllByRecursion AreWords ls → AreItems bullet (as_items bullet ls)
all_begin bullet [] h w = tt
all_begin bullet ([] ∷ ls) h w = absurd (w.0)
all_begin bullet ((b ∷ bs) ∷ ls) h w = (bullet_begins bullet b bs h (w.0), all_begin bullet ls h (w.1))

all_words : (bullet : ℕ) (ls : List (List ℕ)) → AllByRecursion AreWords ls → AreWordItems (as_items bullet ls)
all_words bullet [] w = tt
all_words bullet ([] ∷ ls) w = absurd (w.0)
all_words bullet ((b ∷ bs) ∷ ls) w = (w.0, all_words bullet ls (w.1))

clean_bullet : (bullet : ℕ) → is_bullet bullet ≡ true → IsClean bullet
clean_bullet bullet h = record { ascii = low (one_of_three (bullet == 45) (bullet == 43) (bullet == 42) h); some = turned is_bullet 0 bullet h refl; return = turned is_bullet 13 bullet h refl }
  where
    low : ((bullet == 45) ≡ true) ⊎ ((bullet == 43) ≡ true) ⊎ ((bullet == 42) ≡ true) → bullet < 128
    low (inl e) = let q : bullet ≡ 45 = eq_of bullet 45 e in omega (arith, q)
    low (inr (inl e)) = let q : bullet ≡ 43 = eq_of bullet 43 e in omega (arith, q)
    low (inr (inr e)) = let q : bullet ≡ 42 = eq_of bullet 42 e in omega (arith, q)

clean_words : (l : List ℕ) → AreWords l → AreClean l
clean_words [] w = tt
clean_words (b ∷ bs) w = all_implied IsWordByte IsClean (b ∷ bs) (λ x k. clean_byte x k.printable) w.bytes

all_both : (xs ys : List ℕ) → AreClean xs → AreClean ys → AreClean (xs ++ ys)
all_both [] ys h k = k
all_both (x ∷ xs) ys h k = (h.0, all_both xs ys (h.1) k)

clean_list : (bullet : ℕ) (l : List ℕ) (ms : List (List ℕ)) → is_bullet bullet ≡ true → AllByRecursion AreWords (l ∷ ms) → AreClean (bullet_list bullet l ms)
clean_list bullet l [] h w = (clean_bullet bullet h, (clean_byte 32 space_shown, clean_words l (w.0)))
clean_list bullet l (m ∷ ms) h w = (clean_bullet bullet h, (clean_byte 32 space_shown, all_both l (10 ∷ bullet_list bullet m ms) (clean_words l (w.0)) (clean_feed, clean_list bullet m ms h (w.1))))

pub bullets_read : (syntax : Syntax) (bullet : ℕ) (l : List ℕ) (ms : List (List ℕ)) → is_bullet bullet ≡ true → list_all is_word_line (l ∷ ms) ≡ true → length (bullet_list bullet l ms) < 2 ^ 64 → IsReadAs (reading_of syntax (bullet_list bullet l ms)) (bullet_events (l ∷ ms))
bullets_read syntax bullet [] ms h all fits = absurd (true≢false (sym all))
bullets_read syntax bullet (b ∷ bs) ms h all fits =
    let l : List ℕ = b ∷ bs in
    let w : AllByRecursion AreWords (l ∷ ms) = all_from is_word_line AreWords (l ∷ ms) words_from all in
    let same : lined (item_bytes (as_item bullet l)) (map item_bytes (as_items bullet ms)) ≡ bullet_list bullet l ms = ap (lined (bullet_line bullet l)) (items_are bullet ms (w.1)) in
    let means : bullet_events (map (λ (i : ItemLine). i.letter ∷ i.others) (as_items bullet (l ∷ ms))) ≡ bullet_events (l ∷ ms) = ap bullet_events (words_are bullet (l ∷ ms) w) in
    let read = list_read syntax bullet (as_item bullet l) (as_items bullet ms) (all_begin bullet (l ∷ ms) h w) (all_words bullet (l ∷ ms) w) (subst AreClean (sym same) (clean_list bullet l ms h w)) (subst (λ (xs : List ℕ). length xs < 2 ^ 64) (sym same) fits) in
    subst (λ (xs : List ℕ). IsReadAs (reading_of syntax xs) (bullet_events (l ∷ ms))) same
    (subst (λ (es : List EventView). IsReadAs (reading_of syntax (lined (item_bytes (as_item bullet l)) (map item_bytes (as_items bullet ms)))) es) means read)
