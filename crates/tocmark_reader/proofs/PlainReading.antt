-- A text of plain lines, each of parts that mean themselves by their neighbours, is read as one paragraph of these lines.
use Rattle.std.proofs.Common.{◌≡◌, ℕ, suc, ◌+◌, ◌^◌, ◌<◌, ◌≤◌, false, ◌==◌, List, [], ◌∷◌, ◌++◌, length, map, encode_utf8, refl, ap, sym, subst, ◌∙◌, arith, append_assoc, append-nil, length-append, None, inl, inr}
use Rattle.std.proofs.lemmas.Bool.Decides.{nat_tests}
use Rattle.std.specs.List.{AllByRecursion}
use Rattle.tocmark_event.specs.Merged.{merged, after_text}
use Rattle.tocmark_event.specs.Reading.{ReadingView}
use Rattle.tocmark_event.specs.View.{EventView, Start, End, Leaf, Text, SoftBreak, Paragraph}
use Rattle.tocmark_event.specs.declared.event.TagEnd.{TagEnd}
use Rattle.tocmark_event.specs.declared.event.TagEnd.TheVariants as end
use Rattle.tocmark_read_scan.specs.Basic.{byte_at}
use Rattle.tocmark_read_scan.specs.Class.{is_in}
use Rattle.tocmark_read_scan.specs.declared.class.Class.TheVariants.{White}
use Rattle.tocmark_read_scan.proofs.PlainPieces.{feed_joined, AreNoZeros}
use Rattle.tocmark_read_blocks.proofs.PlainFronts.{BeginsPlainly, plainly_begins_nothing}
use Rattle.tocmark_read_blocks.proofs.PlainLines.{IsWithin}
use Rattle.tocmark_read_blocks.proofs.PlainTexts.{IsTextLine}
use Rattle.tocmark_read_inlines.proofs.PlainLeaf.{known}
use Rattle.tocmark_read_inlines.proofs.PlainNeighbours.{ArePlainParts, plain_parts_are_read}
use Rattle.tocmark_reader.specs.Reading.{core_reading, first_entry}
use Rattle.tocmark_reader.proofs.PlainEvents.{Marked, unplaced, events_of, said, merged_parts}
use Rattle.tocmark_reader.proofs.PlainLeaves.{IsReadText, parts_reading, text_is_read}
use Rattle.tocmark_reader.proofs.PlainSources.{IsClean, AreClean, all_behind, all_implied, sourced_parts}
use Rattle.tocmark_read_scan.specs.PlainParts.{Part, Bare, Escaped, Referred, Feed, spelled_part, spelled, meant, last_byte}
use Rattle.tocmark_reader.specs.PlainTexts.{text_parts, line_events, lines_paragraph, IsReadAs}

-- a byte that is printed, or a space
pub record IsPrintable (b : ℕ) : Type 0 where
  pub low : 32 ≤ b
  pub high : b < 127

-- a line of a plain text
pub record IsPlainLine (l : List Part) : Type 0 where
  pub printable : AllByRecursion IsPrintable (spelled l)
  pub begins : BeginsPlainly (spelled l)
  pub last : (last_byte 10 (spelled l) == 32) ≡ false

-- a text of plain lines, whose parts mean themselves by their neighbours
pub record IsPlainText (l : List Part) (ms : List (List Part)) : Type 0 where
  pub parts : ArePlainParts 10 (text_parts l ms)
  pub lines : AllByRecursion IsPlainLine (l ∷ ms)
  pub fits : length (spelled (text_parts l ms)) < 2 ^ 64

spelled_append : (xs ys : List Part) → spelled (xs ++ ys) ≡ spelled xs ++ spelled ys
spelled_append [] ys = refl
spelled_append (x ∷ xs) ys = ap (λ l. spelled_part x ++ l) (spelled_append xs ys) ∙ sym (append_assoc (spelled_part x) (spelled xs) (spelled ys))

-- lines of parts are spelled as their lines
pub spelled_text : (l : List Part) (ms : List (List Part)) → spelled (text_parts l ms) ≡ feed_joined (spelled l) (map spelled ms)
spelled_text l [] = refl
spelled_text l (m ∷ ms) = spelled_append l (Feed ∷ text_parts m ms) ∙ ap (λ xs. spelled l ++ 10 ∷ xs) (spelled_text m ms)

within_printable : (b : ℕ) → IsPrintable b → IsWithin b
within_printable b h = let low : 32 ≤ b = h.low in record { feed = grind (arith, nat_tests); return = grind (arith, nat_tests); tab = grind (arith, nat_tests) }

clean_printable : (b : ℕ) → IsPrintable b → IsClean b
clean_printable b h = let low : 32 ≤ b = h.low in let high : b < 127 = h.high in record { ascii = omega arith; some = grind (arith, nat_tests); return = grind (arith, nat_tests) }

no_zero : (b : ℕ) → IsPrintable b → (b == 0) ≡ false
no_zero b h = let low : 32 ≤ b = h.low in grind (arith, nat_tests)

pub some_front : (l : List ℕ) → BeginsPlainly l → 0 < length l
some_front [] h = absurd h
some_front (b ∷ bs) h = omega arith

text_line : (l : List Part) → length (spelled l) < 2 ^ 64 → IsPlainLine l → IsTextLine (spelled l)
text_line l fits h = record {
  some = some_front (spelled l) h.begins;
  within = all_implied IsPrintable IsWithin (spelled l) within_printable h.printable;
  begins = λ at. plainly_begins_nothing at (spelled l) fits h.begins;
}

text_lines : (l : List Part) (ms : List (List Part)) → length (feed_joined (spelled l) (map spelled ms)) < 2 ^ 64 → AllByRecursion IsPlainLine (l ∷ ms) → AllByRecursion IsTextLine (spelled l ∷ map spelled ms)
text_lines l [] fits h = (text_line l fits (h.0), tt)
text_lines l (m ∷ ms) fits h =
    let more : List ℕ = feed_joined (spelled m) (map spelled ms) in
    let width : length (spelled l ++ 10 ∷ more) ≡ length (spelled l) + suc (length more) = length-append (spelled l) (10 ∷ more) in (
      text_line l (let q : length (spelled l) < 2 ^ 64 = omega (arith, width, fits) in q) (h.0),
      text_lines m ms (let q : length more < 2 ^ 64 = omega (arith, width, fits) in q) (h.1),
    )

all_append : (P : ℕ → Type 0) (xs ys : List ℕ) → AllByRecursion P xs → AllByRecursion P ys → AllByRecursion P (xs ++ ys)
all_append P [] ys h k = k
all_append P (x ∷ xs) ys h k = (h.0, all_append P xs ys (h.1) k)

clean_feed : IsClean 10
clean_feed = record { ascii = omega arith; some = refl; return = refl }

pub clean_lines : (l : List Part) (ms : List (List Part)) → AllByRecursion IsPlainLine (l ∷ ms) → AreClean (feed_joined (spelled l) (map spelled ms))
clean_lines l [] h = all_implied IsPrintable IsClean (spelled l) clean_printable ((h.0).printable)
clean_lines l (m ∷ ms) h = all_append IsClean (spelled l) (10 ∷ feed_joined (spelled m) (map spelled ms)) (all_implied IsPrintable IsClean (spelled l) clean_printable ((h.0).printable)) (clean_feed, clean_lines m ms (h.1))

no_zeros : (ms : List (List Part)) → AllByRecursion IsPlainLine ms → AllByRecursion AreNoZeros (map spelled ms)
no_zeros [] h = tt
no_zeros (m ∷ ms) h = (all_implied IsPrintable (λ b. (b == 0) ≡ false) (spelled m) no_zero ((h.0).printable), no_zeros ms (h.1))

-- no first byte of such parts is a bracket
no_bracket : (before : ℕ) (parts : List Part) → ArePlainParts before parts → (byte_at (spelled parts) 0 == 91) ≡ false
no_bracket before [] h = refl
no_bracket before (Bare b ∷ parts) (inl h, more) = h.bracket
no_bracket before (Bare b ∷ parts) (inr (inl h), more) = let e : b ≡ 33 = h.0 in rw e refl
no_bracket before (Bare b ∷ parts) (inr (inr (inl h)), more) = let e : b ≡ 92 = h.0 in rw e refl
no_bracket before (Bare b ∷ parts) (inr (inr (inr h)), more) = let e : b ≡ 95 = h.0 in rw e refl
no_bracket before (Escaped b ∷ parts) h = refl
no_bracket before (Referred c bs ∷ parts) h = refl
no_bracket before (Feed ∷ parts) h = refl

-- bytes are those before the last one, and that one
split_last : (b : ℕ) (bs : List ℕ) → (body : List ℕ) × (b ∷ bs ≡ body ++ last_byte b bs ∷ [])
split_last b [] = ([], refl)
split_last b (c ∷ cs) = let more = split_last c cs in (b ∷ more.0, ap (λ (l : List ℕ). b ∷ l) (more.1))

-- the last byte of a text, and that it isn't white
abbrev EndsInInk : List ℕ → Type 0
EndsInInk text = (body : List ℕ) × (y : ℕ) × (text ≡ body ++ y ∷ []) × (is_in White y ≡ false)

no_white : (y : ℕ) → IsPrintable y → (y == 32) ≡ false → is_in White y ≡ false
unfolding is_in
no_white y h k = let low : 32 ≤ y = h.low in let tab : (y == 9) ≡ false = grind (arith, nat_tests) in let feed : (y == 10) ≡ false = grind (arith, nat_tests) in rw (k, tab, feed) refl

line_ends : (l : List ℕ) → AllByRecursion IsPrintable l → BeginsPlainly l → (last_byte 10 l == 32) ≡ false → EndsInInk l
line_ends [] p h k = absurd h
line_ends (b ∷ bs) p h k =
    let split = split_last b bs in
    let last : AllByRecursion IsPrintable (last_byte b bs ∷ []) = all_behind IsPrintable (split.0) (last_byte b bs ∷ []) (subst (λ xs. AllByRecursion IsPrintable xs) (split.1) p) in
    (split.0, last_byte b bs, split.1, no_white (last_byte b bs) (last.0) k)

text_ends : (l : List Part) (ms : List (List Part)) → AllByRecursion IsPlainLine (l ∷ ms) → EndsInInk (feed_joined (spelled l) (map spelled ms))
text_ends l [] h = line_ends (spelled l) (h.0).printable (h.0).begins (h.0).last
text_ends l (m ∷ ms) h =
    let more = text_ends m ms (h.1) in
    (spelled l ++ 10 ∷ more.0, more.1, ap (λ xs. spelled l ++ 10 ∷ xs) (more.2) ∙ sym (append_assoc (spelled l) (10 ∷ more.0) (more.1 ∷ [])), more.3)

pub read_text : (l : List Part) (ms : List (List Part)) → IsPlainText l ms → IsReadText (spelled l) (map spelled ms) (text_parts l ms)
read_text l ms h =
    let parts : List Part = text_parts l ms in
    let same : spelled parts ≡ feed_joined (spelled l) (map spelled ms) = spelled_text l ms in
    let fits : length (feed_joined (spelled l) (map spelled ms)) < 2 ^ 64 = subst (λ (xs : List ℕ). length xs < 2 ^ 64) same h.fits in
    record {
      lines = text_lines l ms fits h.lines;
      clean = clean_lines l ms h.lines;
      zeros = no_zeros (l ∷ ms) h.lines;
      fits = fits;
      bracket = subst (λ (xs : List ℕ). (byte_at xs 0 == 91) ≡ false) same (no_bracket 10 parts h.parts);
      last = text_ends l ms h.lines;
      spells = sym same;
      read = plain_parts_are_read (spelled parts) [] (known (spelled parts)) (first_entry false [] []) 0 10 parts refl refl h.fits refl h.parts;
    }

-- a plain text is read as one paragraph with the events of its parts
pub plain_text_is_read : (l : List Part) (ms : List (List Part)) → IsPlainText l ms → core_reading (spelled (text_parts l ms)) ≡ parts_reading (spelled (text_parts l ms)) (text_parts l ms)
plain_text_is_read l ms h =
    ap core_reading (spelled_text l ms)
    ∙ text_is_read (spelled l) (map spelled ms) (text_parts l ms) (read_text l ms h)
    ∙ ap (λ xs. parts_reading xs (text_parts l ms)) (sym (spelled_text l ms))

after_text_end : (t : List ℕ) (k : TagEnd) (es : List EventView) → after_text t (es ++ End k ∷ []) ≡ after_text t es ++ End k ∷ []
after_text_end t k [] = refl
after_text_end t k (Leaf (Text u) ∷ es) = refl
after_text_end t k (e ∷ es) = refl

merged_end : (k : TagEnd) (es : List EventView) → merged (es ++ End k ∷ []) ≡ merged es ++ End k ∷ []
merged_end k [] = refl
merged_end k (Leaf (Text t) ∷ es) = ap (after_text t) (merged_end k es) ∙ after_text_end t k (merged es)
merged_end k (e ∷ es) = ap (λ x. e ∷ x) (merged_end k es)

-- a line of parts has no line feed
abbrev pub AreNoFeeds : List Part → Type 0
AreNoFeeds [] = Unit {0}
AreNoFeeds (Feed ∷ parts) = ⊥
AreNoFeeds (a ∷ parts) = AreNoFeeds parts

pub no_feeds : (l : List Part) → AllByRecursion IsPrintable (spelled l) → AreNoFeeds l
no_feeds [] h = tt
no_feeds (Bare b ∷ l) h = no_feeds l (h.1)
no_feeds (Escaped b ∷ l) h = no_feeds l (h.1.1)
no_feeds (Referred c bs ∷ l) h = no_feeds l (all_behind IsPrintable bs (spelled l) (h.1))
no_feeds (Feed ∷ l) h = let low : 32 ≤ 10 = (h.0).low in absurd (omega arith)

-- a line of parts is merged to one text
merged_line : (a : Part) (l : List Part) (es : List EventView) (more : List Part) → AreNoFeeds (a ∷ l) → ((t : List ℕ) → after_text t (merged (said more)) ≡ Leaf (Text t) ∷ es) → merged (said ((a ∷ l) ++ more)) ≡ Leaf (Text (meant (a ∷ l))) ∷ es
merged_line (Bare b) [] es more n h = h (b ∷ [])
merged_line (Escaped b) [] es more n h = h (b ∷ [])
merged_line (Referred c bs) [] es more n h = h (encode_utf8 c) ∙ ap (λ t. Leaf (Text t) ∷ es) (sym (append-nil (encode_utf8 c)))
merged_line Feed l es more n h = absurd n
merged_line (Bare b) (x ∷ l) es more n h = ap (after_text (b ∷ [])) (merged_line x l es more n h)
merged_line (Escaped b) (x ∷ l) es more n h = ap (after_text (b ∷ [])) (merged_line x l es more n h)
merged_line (Referred c bs) (x ∷ l) es more n h = ap (after_text (encode_utf8 c)) (merged_line x l es more n h)

some_parts : (l : List Part) → BeginsPlainly (spelled l) → (a : Part) × (k : List Part) × (l ≡ a ∷ k)
some_parts [] h = absurd h
some_parts (a ∷ l) h = (a, l, refl)

merged_plain_line : (l more : List Part) (es : List EventView) → IsPlainLine l → ((t : List ℕ) → after_text t (merged (said more)) ≡ Leaf (Text t) ∷ es) → merged (said (l ++ more)) ≡ Leaf (Text (meant l)) ∷ es
merged_plain_line l more es h k = by_some l (no_feeds l h.printable) (some_parts l h.begins)
  where
    by_some : (x : List Part) → AreNoFeeds x → (a : Part) × (m : List Part) × (x ≡ a ∷ m) → merged (said (x ++ more)) ≡ Leaf (Text (meant x)) ∷ es
    by_some x n s = subst (λ z. merged (said (z ++ more)) ≡ Leaf (Text (meant z)) ∷ es) (sym (s.2)) (merged_line (s.0) (s.1) es more (subst AreNoFeeds (s.2) n) k)

-- what the parts of lines say, merged, is a text a line
pub merged_lines : (l : List Part) (ms : List (List Part)) → AllByRecursion IsPlainLine (l ∷ ms) → merged (said (text_parts l ms)) ≡ line_events (meant l) (map meant ms)
merged_lines l [] h = ap (λ x. merged (said x)) (sym (append-nil l)) ∙ merged_plain_line l [] [] (h.0) (λ t. refl)
merged_lines l (m ∷ ms) h =
    merged_plain_line l (Feed ∷ text_parts m ms) (Leaf SoftBreak ∷ merged (said (text_parts m ms))) (h.0) (λ t. refl)
    ∙ ap (λ es. Leaf (Text (meant l)) ∷ Leaf SoftBreak ∷ es) (merged_lines m ms (h.1))

unplaced_append : (xs ys : List Marked) → unplaced (xs ++ ys) ≡ unplaced xs ++ unplaced ys
unplaced_append [] ys = refl
unplaced_append (x ∷ xs) ys = ap (λ l. x.0 ∷ l) (unplaced_append xs ys)

-- merged, the reading of a plain text is the paragraph of its lines, with no labels
pub plain_text_is_meant : (l : List Part) (ms : List (List Part)) → IsPlainText l ms → IsReadAs (core_reading (spelled (text_parts l ms))) (lines_paragraph (meant l) (map meant ms))
plain_text_is_meant l ms h =
    let parts : List Part = text_parts l ms in
    let text : List ℕ = spelled parts in
    let read : core_reading text ≡ parts_reading text parts = plain_text_is_read l ms h in
    let clean : AreClean text = subst AreClean (sym (spelled_text l ms)) (clean_lines l ms h.lines) in
    let inner : merged (unplaced (events_of text 0 None parts)) ≡ line_events (meant l) (map meant ms) =
    merged_parts text 0 None parts (sourced_parts text [] [] None 0 parts clean refl refl refl) ∙ merged_lines l ms h.lines
    in
    let events : merged (unplaced (parts_reading text parts).events) ≡ lines_paragraph (meant l) (map meant ms) =
    ap (λ es. Start Paragraph ∷ merged es) (unplaced_append (events_of text 0 None parts) ((End end.Paragraph, (0, length text)) ∷ []))
    ∙ ap (λ es. Start Paragraph ∷ es) (merged_end end.Paragraph (unplaced (events_of text 0 None parts)))
    ∙ ap (λ es. Start Paragraph ∷ es ++ End end.Paragraph ∷ []) inner
    in
    record {
      events = ap (λ (r : ReadingView). merged (unplaced r.events)) read ∙ events;
      defined = ap (λ (r : ReadingView). r.defined) read;
      unresolved = ap (λ (r : ReadingView). r.unresolved) read;
    }
