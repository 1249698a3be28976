-- Lines of words are read alike under every syntax.
use Rattle.std.proofs.Common.{◌≡◌, ℕ, ◌^◌, ◌<◌, ◌≤◌, true, false, not, ◌==◌, ◌&&◌, List, [], ◌∷◌, ◌++◌, length, map, codes, refl, ap, sym, subst, ◌∙◌, arith, append-nil, inl, inr, true≢false}
use Rattle.std.proofs.lemmas.Bool.Decides.{nat_tests}
use Rattle.std.specs.Char.{char_set_contains, is_ascii_alphabetic}
use Rattle.std.specs.List.{AllByRecursion, list_all}
use Rattle.tocmark_event.specs.Reading.{ReadingView}
use Rattle.tocmark_event.specs.View.{EventView}
use Rattle.tocmark_read_scan.specs.Class.{is_in}
use Rattle.tocmark_read_scan.specs.Content as content
use Rattle.tocmark_read_scan.specs.PlainParts.{Part, Bare, Feed, spelled, meant, last_byte}
use Rattle.tocmark_read_scan.specs.declared.class.Class.TheVariants.{White}
use Rattle.tocmark_read_scan.specs.declared.syntax.Syntax.{Syntax}
use Rattle.tocmark_read_scan.proofs.PlainContent.{places_of}
use Rattle.tocmark_read_scan.proofs.PlainPieces.{feed_joined, content_of_lines}
use Rattle.tocmark_read_scan.proofs.PlainTests.{both_true, is_not, differs, turned, all_from}
use Rattle.tocmark_read_blocks.proofs.PlainLines.{IsWithin}
use Rattle.tocmark_read_blocks.proofs.PlainStarts.{IsQuiet}
use Rattle.tocmark_read_inlines.specs.Inlines as inlines
use Rattle.tocmark_read_inlines.specs.Scan as scan
use Rattle.tocmark_read_inlines.proofs.PlainInlines.{IsInert}
use Rattle.tocmark_read_inlines.proofs.PlainLeaf.{known, parts_inlines}
use Rattle.tocmark_read_inlines.proofs.PlainNeighbours.{ArePlainParts, plain_parts_are_read}
use Rattle.tocmark_reader.specs.Emitted.{emitted}
use Rattle.tocmark_reader.specs.Pages.{task_nodes, with_block, block_tag}
use Rattle.tocmark_reader.specs.PlainTexts.{is_printable, text_parts, lines_paragraph, IsReadAs}
use Rattle.tocmark_reader.specs.Reading.{FoundView, first_entry, found_under, core_reading, reading_of}
use Rattle.tocmark_reader.proofs.PlainLeaves.{IsReadText, found_parts, found_text}
use Rattle.tocmark_reader.proofs.PlainReading.{IsPrintable, IsPlainLine, IsPlainText, read_text, plain_text_is_meant}
use Rattle.tocmark_reader.proofs.PlainSources.{all_implied}
use Rattle.tocmark_reader.proofs.PlainTests.{printable_from}
use Rattle.tocmark_reader.proofs.QuietInlines.{IsTextOrFeed, read_alike}
use Rattle.tocmark_laws.specs.Extensions.{lined, is_word_byte, is_word_line}
use Rattle.tocmark_laws.proofs.ExtensionBlocks.{IsFreeText}
use Rattle.tocmark_laws.proofs.ExtensionParagraphs.{IsFreeByte, begins_freely, no_inlines, found_of, paragraph_found, within_byte, no_returns, lined_is}

-- ---- lines of words

abbrev pub marks : List ℕ
marks = codes "!$&*<[\\]^_`~"

-- a byte of words
pub record IsWordByte (b : ℕ) : Type 0 where
  pub printable : IsPrintable b
  pub out : char_set_contains marks b ≡ false

pub word_byte : (b : ℕ) → is_word_byte b ≡ true → IsWordByte b
word_byte b h =
    let both = both_true (is_printable b) (not (char_set_contains marks b)) h in
    record { printable = printable_from b (both.0); out = is_not (char_set_contains marks b) (both.1) }

-- a line of words
pub record IsWordLine (b : ℕ) (bs : List ℕ) : Type 0 where
  pub letter : is_ascii_alphabetic b ≡ true
  pub bytes : AllByRecursion IsWordByte (b ∷ bs)
  pub last : (last_byte b bs == 32) ≡ false

abbrev pub AreWords : List ℕ → Type 0
AreWords [] = ⊥
AreWords (b ∷ bs) = IsWordLine b bs

pub words_from : (l : List ℕ) → is_word_line l ≡ true → AreWords l
words_from [] h = true≢false (sym h)
words_from (b ∷ bs) h =
    let two = both_true (is_ascii_alphabetic b && list_all is_word_byte (b ∷ bs)) (not (last_byte b bs == 32)) h in
    let one = both_true (is_ascii_alphabetic b) (list_all is_word_byte (b ∷ bs)) (two.0) in
    record { letter = one.0; bytes = all_from is_word_byte IsWordByte (b ∷ bs) word_byte (one.1); last = is_not (last_byte b bs == 32) (two.1) }

inert_byte : (b : ℕ) → IsWordByte b → IsInert b
inert_byte b h =
    let low : 32 ≤ b = h.printable.low in
    record {
      bracket = differs (char_set_contains marks) b 91 refl h.out;
      exclamation = differs (char_set_contains marks) b 33 refl h.out;
      closing = differs (char_set_contains marks) b 93 refl h.out;
      less = differs (char_set_contains marks) b 60 refl h.out;
      backslash = differs (char_set_contains marks) b 92 refl h.out;
      ampersand = differs (char_set_contains marks) b 38 refl h.out;
      feed = grind (arith, nat_tests);
      backtick = differs (char_set_contains marks) b 96 refl h.out;
      star = differs (char_set_contains marks) b 42 refl h.out;
      underscore = differs (char_set_contains marks) b 95 refl h.out;
    }

-- such a byte is one of a text in every syntax
pub text_byte : (b : ℕ) → IsWordByte b → scan.is_quiet b ≡ true
unfolding scan.is_any_mark scan.is_mark
text_byte b h =
    let i : IsInert b = inert_byte b h in
    let tilde : (b == 126) ≡ false = differs (char_set_contains marks) b 126 refl h.out in
    let caret : (b == 94) ≡ false = differs (char_set_contains marks) b 94 refl h.out in
    let dollar : (b == 36) ≡ false = differs (char_set_contains marks) b 36 refl h.out in
    rw (i.bracket, i.exclamation, i.closing, i.less, i.backtick, i.star, i.underscore, i.backslash, i.ampersand, i.feed, tilde, caret, dollar) refl

-- such a byte is white only as a space
pub ink_byte : (b : ℕ) → IsWordByte b → (b == 32) ≡ false → is_in White b ≡ false
unfolding is_in
ink_byte b h k =
    let low : 32 ≤ b = h.printable.low in
    let tab : (b == 9) ≡ false = grind (arith, nat_tests) in
    let feed : (b == 10) ≡ false = grind (arith, nat_tests) in
    rw (k, tab, feed) refl

pub quiet_letter : (b : ℕ) → is_ascii_alphabetic b ≡ true → IsQuiet b
quiet_letter b h = record {
  space = turned is_ascii_alphabetic 32 b h refl;
  greater = turned is_ascii_alphabetic 62 b h refl;
  less = turned is_ascii_alphabetic 60 b h refl;
  star = turned is_ascii_alphabetic 42 b h refl;
  minus = turned is_ascii_alphabetic 45 b h refl;
  plus = turned is_ascii_alphabetic 43 b h refl;
  equals = turned is_ascii_alphabetic 61 b h refl;
  underscore = turned is_ascii_alphabetic 95 b h refl;
  hash = turned is_ascii_alphabetic 35 b h refl;
  backtick = turned is_ascii_alphabetic 96 b h refl;
  tilde = turned is_ascii_alphabetic 126 b h refl;
  digit = let low : 65 ≤ b = grind (arith, h, nat_tests) in grind (arith, nat_tests);
}

pub free_letter : (b : ℕ) → is_ascii_alphabetic b ≡ true → IsFreeByte b
free_letter b h = record {
  bracket = differs is_ascii_alphabetic 91 b h refl;
  colon = turned is_ascii_alphabetic 58 b h refl;
  bar = turned is_ascii_alphabetic 124 b h refl;
  dash = turned is_ascii_alphabetic 45 b h refl;
  space = turned is_ascii_alphabetic 32 b h refl;
  less = turned is_ascii_alphabetic 60 b h refl;
}

all_within : (xs : List ℕ) → AllByRecursion IsWordByte xs → AllByRecursion IsWithin xs
all_within xs h = all_implied IsWordByte IsWithin xs (λ b k. within_byte b k.printable) h

pub free_line : (l : List ℕ) → AreWords l → IsFreeText l
free_line [] h = absurd h
free_line (b ∷ bs) h = record {
  within = all_within (b ∷ bs) h.bytes;
  begins = λ at. begins_freely at b bs (quiet_letter b h.letter) (free_letter b h.letter);
  first = b;
  rest = bs;
  shape = refl;
  dash = turned is_ascii_alphabetic 45 b h.letter refl;
  cross = turned is_ascii_alphabetic 43 b h.letter refl;
}

free_lines : (ls : List (List ℕ)) → AllByRecursion AreWords ls → AllByRecursion IsFreeText ls
free_lines [] h = tt
free_lines (l ∷ ls) h = (free_line l (h.0), free_lines ls (h.1))

-- ---- words as parts that mean themselves

abbrev pub bare : List ℕ → List Part
bare l = map Bare l

abbrev pub bares : List (List ℕ) → List (List Part)
bares ms = map bare ms

pub spelled_bare : (l : List ℕ) → spelled (bare l) ≡ l
spelled_bare [] = refl
spelled_bare (b ∷ bs) = ap (λ (xs : List ℕ). b ∷ xs) (spelled_bare bs)

spelled_then : (l : List ℕ) (more : List Part) → spelled (bare l ++ more) ≡ l ++ spelled more
spelled_then [] more = refl
spelled_then (b ∷ bs) more = ap (λ (xs : List ℕ). b ∷ xs) (spelled_then bs more)

meant_bare : (l : List ℕ) → meant (bare l) ≡ l
meant_bare [] = refl
meant_bare (b ∷ bs) = ap (λ (xs : List ℕ). b ∷ xs) (meant_bare bs)

spelled_bares : (ms : List (List ℕ)) → map spelled (bares ms) ≡ ms
spelled_bares [] = refl
spelled_bares (m ∷ ms) = ap (λ (x : List ℕ). x ∷ map spelled (bares ms)) (spelled_bare m) ∙ ap (λ (xs : List (List ℕ)). m ∷ xs) (spelled_bares ms)

meant_bares : (ms : List (List ℕ)) → map meant (bares ms) ≡ ms
meant_bares [] = refl
meant_bares (m ∷ ms) = ap (λ (x : List ℕ). x ∷ map meant (bares ms)) (meant_bare m) ∙ ap (λ (xs : List (List ℕ)). m ∷ xs) (meant_bares ms)

-- the parts of lines of words
abbrev pub parts_of : List ℕ → List (List ℕ) → List Part
parts_of l ms = text_parts (bare l) (bares ms)

spelled_parts : (l : List ℕ) (ms : List (List ℕ)) → spelled (parts_of l ms) ≡ feed_joined l ms
spelled_parts l [] = spelled_bare l
spelled_parts l (m ∷ ms) = spelled_then l (Feed ∷ parts_of m ms) ∙ ap (λ (xs : List ℕ). l ++ 10 ∷ xs) (spelled_parts m ms)

pub bare_plain : (before : ℕ) (xs : List ℕ) (more : List Part) → AllByRecursion IsWordByte xs → ArePlainParts (last_byte before xs) more → ArePlainParts before (bare xs ++ more)
bare_plain before [] more h k = k
bare_plain before (x ∷ xs) more h k = (inl (inert_byte x (h.0)), bare_plain x xs more (h.1) k)

words_plain : (before : ℕ) (l : List ℕ) (ms : List (List ℕ)) → AllByRecursion AreWords (l ∷ ms) → ArePlainParts before (parts_of l ms)
words_plain before [] ms h = absurd (h.0)
words_plain before (b ∷ bs) [] h = subst (ArePlainParts before) (append-nil (bare (b ∷ bs))) (bare_plain before (b ∷ bs) [] (h.0).bytes tt)
words_plain before (b ∷ bs) (m ∷ ms) h = bare_plain before (b ∷ bs) (Feed ∷ parts_of m ms) (h.0).bytes ((h.0).last, words_plain 10 m ms (h.1))

plain_line : (l : List ℕ) → AreWords l → IsPlainLine (bare l)
plain_line [] h = absurd h
plain_line (b ∷ bs) h =
    let back : b ∷ bs ≡ spelled (bare (b ∷ bs)) = sym (spelled_bare (b ∷ bs)) in
    record {
      printable = subst (AllByRecursion IsPrintable) back (all_implied IsWordByte IsPrintable (b ∷ bs) (λ x k. k.printable) h.bytes);
      begins = inl (quiet_letter b h.letter);
      last = ap (λ (xs : List ℕ). last_byte 10 xs == 32) (sym back) ∙ h.last;
    }

plain_lines : (ls : List (List ℕ)) → AllByRecursion AreWords ls → AllByRecursion IsPlainLine (bares ls)
plain_lines [] h = tt
plain_lines (l ∷ ls) h = (plain_line l (h.0), plain_lines ls (h.1))

plain_text : (l : List ℕ) (ms : List (List ℕ)) → AllByRecursion AreWords (l ∷ ms) → length (feed_joined l ms) < 2 ^ 64 → IsPlainText (bare l) (bares ms)
plain_text l ms h fits = record {
  parts = words_plain 10 l ms h;
  lines = plain_lines (l ∷ ms) h;
  fits = subst (λ (xs : List ℕ). length xs < 2 ^ 64) (sym (spelled_parts l ms)) fits;
}

-- ---- the law

texts_or_feeds : (xs ys : List ℕ) → AllByRecursion IsWordByte xs → AllByRecursion IsTextOrFeed ys → AllByRecursion IsTextOrFeed (xs ++ ys)
texts_or_feeds [] ys h k = k
texts_or_feeds (x ∷ xs) ys h k = (inl (text_byte x (h.0)), texts_or_feeds xs ys (h.1) k)

word_bytes : (l : List ℕ) → AreWords l → AllByRecursion IsWordByte l
word_bytes [] h = tt
word_bytes (b ∷ bs) h = h.bytes

all_texts : (l : List ℕ) (ms : List (List ℕ)) → AllByRecursion AreWords (l ∷ ms) → AllByRecursion IsTextOrFeed (feed_joined l ms)
all_texts l [] h = subst (AllByRecursion IsTextOrFeed) (append-nil l) (texts_or_feeds l [] (word_bytes l (h.0)) tt)
all_texts l (m ∷ ms) h = texts_or_feeds l (10 ∷ feed_joined m ms) (word_bytes l (h.0)) (inr refl, all_texts m ms (h.1))

-- the parts of such lines, as the core reader knows them
read_words : (l : List ℕ) (ms : List (List ℕ)) → AllByRecursion AreWords (l ∷ ms) → length (feed_joined l ms) < 2 ^ 64 → IsReadText l ms (parts_of l ms)
read_words l ms h fits =
    subst (λ (xs : List ℕ). IsReadText xs ms (parts_of l ms)) (spelled_bare l)
    (subst (λ (xs : List (List ℕ)). IsReadText (spelled (bare l)) xs (parts_of l ms)) (spelled_bares ms)
    (read_text (bare l) (bares ms) (plain_text l ms h fits)))

words_found : (syntax : Syntax) (l : List ℕ) (ms : List (List ℕ)) → AllByRecursion AreWords (l ∷ ms) → length (feed_joined l ms) < 2 ^ 64 → found_under syntax (feed_joined l ms) ≡ found_parts (length (feed_joined l ms)) (parts_of l ms)
unfolding with_block block_tag task_nodes
words_found syntax l ms h fits =
    let text : List ℕ = feed_joined l ms in
    let n : ℕ = length text in
    let parts : List Part = parts_of l ms in
    let find = first_entry syntax.undefined_notes [] [] in
    let leaf : List ℕ → content.State = λ bytes. record { bytes = bytes; places = places_of 0 bytes } in
    let found : inlines.State → FoundView = found_of text n in
    let read : IsReadText l ms parts = read_words l ms h fits in
    let room : length (spelled parts) < 2 ^ 64 = subst (λ (xs : List ℕ). length xs < 2 ^ 64) (sym (spelled_parts l ms)) fits in
    paragraph_found syntax l ms (leaf text) (free_lines (l ∷ ms) h) (no_returns text read.clean) fits read.bracket (content_of_lines l ms (read.last.0) (read.last.1) (read.last.2) (read.last.3) read.zeros fits)
    ∙ ap found (read_alike syntax (leaf text) 1 find no_inlines (all_texts l ms h))
    ∙ ap (λ (bytes : List ℕ). found (inlines.read_inlines (leaf bytes) 1 find no_inlines)) read.spells
    ∙ ap found (parts_inlines parts 1 find no_inlines (plain_parts_are_read (spelled parts) [] (known (spelled parts)) find 0 10 parts refl refl room refl (words_plain 10 l ms h)) room)

-- under each syntax such a text is read as the core reader reads it
words_alike : (syntax : Syntax) (l : List ℕ) (ms : List (List ℕ)) → AllByRecursion AreWords (l ∷ ms) → length (feed_joined l ms) < 2 ^ 64 → reading_of syntax (feed_joined l ms) ≡ core_reading (feed_joined l ms)
unfolding reading_of
words_alike syntax l ms h fits =
    let text : List ℕ = feed_joined l ms in
    ap (let g : FoundView → ReadingView = λ f. record { events = emitted text f.nodes; defined = f.defined; unresolved = f.unresolved } in g)
    (words_found syntax l ms h fits ∙ sym (found_text l ms (parts_of l ms) (read_words l ms h fits)))

pub words_read : (syntax : Syntax) (l : List ℕ) (ms : List (List ℕ)) → list_all is_word_line (l ∷ ms) ≡ true → length (lined l ms) < 2 ^ 64 → IsReadAs (reading_of syntax (lined l ms)) (lines_paragraph l ms)
words_read syntax l ms all room =
    let text : List ℕ = feed_joined l ms in
    let words : AllByRecursion AreWords (l ∷ ms) = all_from is_word_line AreWords (l ∷ ms) words_from all in
    let fits : length text < 2 ^ 64 = subst (λ (xs : List ℕ). length xs < 2 ^ 64) (lined_is l ms) room in
    let core : IsReadAs (core_reading (spelled (parts_of l ms))) (lines_paragraph (meant (bare l)) (map meant (bares ms))) = plain_text_is_meant (bare l) (bares ms) (plain_text l ms words fits) in
    let means : lines_paragraph (meant (bare l)) (map meant (bares ms)) ≡ lines_paragraph l ms =
    ap (λ (x : List ℕ). lines_paragraph x (map meant (bares ms))) (meant_bare l) ∙ ap (λ (xs : List (List ℕ)). lines_paragraph l xs) (meant_bares ms)
    in
    let reads : core_reading (spelled (parts_of l ms)) ≡ reading_of syntax (lined l ms) =
    ap core_reading (spelled_parts l ms) ∙ sym (words_alike syntax l ms words fits) ∙ ap (reading_of syntax) (sym (lined_is l ms))
    in
    subst (λ (r : ReadingView). IsReadAs r (lines_paragraph l ms)) reads (subst (λ (es : List EventView). IsReadAs (core_reading (spelled (parts_of l ms))) es) means core)

-- under each syntax the readings agree
pub words_agree : (syntax : Syntax) (l : List ℕ) (ms : List (List ℕ)) → list_all is_word_line (l ∷ ms) ≡ true → length (lined l ms) < 2 ^ 64 → reading_of syntax (lined l ms) ≡ core_reading (lined l ms)
words_agree syntax l ms all room =
    let words : AllByRecursion AreWords (l ∷ ms) = all_from is_word_line AreWords (l ∷ ms) words_from all in
    ap (reading_of syntax) (lined_is l ms)
    ∙ words_alike syntax l ms words (subst (λ (xs : List ℕ). length xs < 2 ^ 64) (lined_is l ms) room)
    ∙ ap core_reading (sym (lined_is l ms))
