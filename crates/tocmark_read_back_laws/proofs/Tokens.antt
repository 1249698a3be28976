-- The tokens that CommonMark declares of bytes that mean themselves, of escapes and of references.
use Rattle.std.proofs.Common.{◌≡◌, ℕ, zero, suc, ◌+◌, ◌-◌, ◌^◌, ◌<◌, Bool, true, false, cond, ◌==◌, ◌&&◌, if◌then◌else◌, nat_lt, List, [], ◌∷◌, ◌++◌, length, drop, codes, refl, ap, sym, subst, ◌∙◌, arith, append_assoc, length-append, true≢false}
use Rattle.std.proofs.lemmas.Bool.Decides.{nat_tests}
use Rattle.std.proofs.lemmas.List.Sums.{take_while-cons}
use Rattle.std.specs.Prelude.{Option, Some, take_while, encode_utf8}
use Rattle.std.specs.Char.{is_ascii_alphanumeric}
use Rattle.std.specs.List.{AllByRecursion}
use Rattle.tocmark_read_scan.specs.Basic.{plus, byte_at, bytes_between, starts_at}
use Rattle.tocmark_read_scan.specs.Class.{is_in, run_end}
use Rattle.tocmark_read_scan.specs.Repeat.{iterated}
use Rattle.tocmark_read_scan.specs.declared.class.Class.TheVariants.{Only, TagName}
use Rattle.tocmark_read_scan.specs.Side.{side_at, side_before}
use Rattle.tocmark_read_scan.specs.declared.side.Side.TheVariants.{Other as OtherSide}
use Rattle.tocmark_read_scan.proofs.PlainPieces.{piece_between}
use Rattle.tocmark_read_scan.proofs.PlainPlaces.{drop_at, byte_front, byte_dropped}
use Rattle.tocmark_read_scan.proofs.PlainSides.{side_at_letter, side_before_letter}
use Rattle.tocmark_read_tokens.specs.CharacterNames.{is_entry, next_line, entry_characters, characters_in, is_name, characters_of}
use Rattle.tocmark_read_tokens.specs.Entries.{entries_of}
use Rattle.tocmark_read_tokens.specs.Name.{name_end, name_at, named}
use Rattle.tocmark_read_tokens.specs.Reference.{is_escape, numeric, reference_at}
use Rattle.tocmark_read_tokens.specs.declared.reference.Reference.{Reference}
use Rattle.tocmark_read_tokens.proofs.PlainReferences.{space_reference}
use Rattle.tocmark_read_spans.specs.Run.{run_at, run_between, acts, flanks, is_space, is_punctuation}
use Rattle.tocmark_read_spans.specs.declared.run.Run.{Run as Delimiter}
use Rattle.tocmark_read_inlines.proofs.PlainInlines.{IsInert}
use Rattle.tocmark_read_inlines.proofs.PlainNeighbours.{before_at}
use Rattle.tocmark_commonmark.specs.InlineTree.{Delimiters, Text, SoftBreak, HardBreak}
use Rattle.tocmark_commonmark.specs.Tokens.{Backslash, Ampersand, Star, Exclamation, Space, LineFeed, Other, kind_of, is_other, Token, token, byte_token, token_at, ends_line, numbered, reference_if, ampersand}

-- the kinds of bytes

other_kind : (b : ℕ) → IsInert b → (b == 32) ≡ false → kind_of b ≡ Other
other_kind b h k = rw (h.backslash, h.ampersand, h.backtick, h.star, h.underscore, h.bracket, h.exclamation, h.closing, h.less, k, h.feed) refl

pub inert_kind : (b : ℕ) → IsInert b → (b == 32) ≡ false → kind_of b ≡ Other
inert_kind b h k = other_kind b h k

-- spaces, and bytes that begin nothing
abbrev pub is_blank_byte : ℕ → Bool
is_blank_byte b = is_in (Only 32) b

abbrev pub begins_nothing : ℕ → Bool
begins_nothing b = is_other (kind_of b)

-- a text of bytes that begin nothing
pub others_token : (bytes xs : List ℕ) (p b : ℕ) → take_while begins_nothing (drop p bytes) ≡ xs → token_at bytes p b Other ≡ token (Text xs) (p + length xs)
others_token bytes xs p b e = ap (λ ys. token (Text ys) (p + length ys)) e

-- spaces with no line ending after them
pub spaces_token : (bytes pre xs rest : List ℕ) (p b : ℕ) → bytes ≡ pre ++ (xs ++ rest) → p ≡ length pre → length bytes + 2 < 2 ^ 64 → take_while is_blank_byte (drop p bytes) ≡ xs → ends_line bytes (p + length xs) ≡ false → token_at bytes p b Space ≡ token (Text xs) (p + length xs)
unfolding run_end
spaces_token bytes pre xs rest p b e at fits taken ends =
    let all : length bytes ≡ length pre + (length xs + length rest) = ap length e ∙ length-append pre (xs ++ rest) ∙ ap (λ n. length pre + n) (length-append xs rest) in
    let end : plus p (length xs) ≡ p + length xs = omega (arith, all, fits, at) in
    rw (taken, end, ends, piece_between bytes pre xs rest p (p + length xs) e at (ap (λ n. n + length xs) at)) refl

-- a line feed
pub feed_token : (bytes : List ℕ) (p : ℕ) → token_at bytes p 10 LineFeed ≡ token SoftBreak (p + 1)
feed_token bytes p = refl

-- an escape
pub escape_token : (bytes : List ℕ) (p b : ℕ) → is_escape bytes p ≡ true → byte_at bytes (p + 1) ≡ b → token_at bytes p 92 Backslash ≡ token (Text (b ∷ [])) (p + 2)
escape_token bytes p b h k = rw (h, k) refl

-- a backslash that is text
pub backslash_token : (bytes : List ℕ) (p : ℕ) → is_escape bytes p ≡ false → (byte_at bytes (p + 1) == 10) ≡ false → token_at bytes p 92 Backslash ≡ byte_token 92 p
backslash_token bytes p h k = by (nat_lt (p + 1) (length bytes))
  where
    by : (c : Bool) → (if is_escape bytes p then token (Text (byte_at bytes (p + 1) ∷ [])) (p + 2) else (if c && (byte_at bytes (p + 1) == 10) then token (HardBreak) (p + 2) else byte_token 92 p)) ≡ byte_token 92 p
    by true = rw (h, k) refl
    by false = rw h refl

-- an exclamation mark that is text
pub exclamation_token : (bytes : List ℕ) (p : ℕ) → (byte_at bytes (p + 1) == 91) ≡ false → token_at bytes p 33 Exclamation ≡ byte_token 33 p
exclamation_token bytes p h = rw h refl

-- an underscore between letters or digits

alphanumeric_small : (c : ℕ) → is_ascii_alphanumeric c ≡ true → c < 123
alphanumeric_small c h = grind (arith, h, nat_tests)

alphanumeric_other : (c : ℕ) → is_ascii_alphanumeric c ≡ true → (c == 95) ≡ false
alphanumeric_other c h = grind (arith, h, nat_tests)

before_next : (bytes : List ℕ) (p : ℕ) → before_at bytes (suc p) ≡ byte_at bytes (suc p - 1)
before_next bytes p = let some : (suc p == 0) ≡ false = grind (arith, nat_tests) in rw some refl

letter_before : (bytes : List ℕ) (p : ℕ) → is_ascii_alphanumeric (before_at bytes p) ≡ true → side_before bytes p ≡ OtherSide
letter_before bytes zero h = absurd (true≢false (sym h))
letter_before bytes (suc p) h =
    let letter : is_ascii_alphanumeric (byte_at bytes (suc p - 1)) ≡ true = subst (λ b. is_ascii_alphanumeric b ≡ true) (before_next bytes p) h in
    side_before_letter bytes (suc p) (byte_at bytes (suc p - 1)) (omega arith) refl (alphanumeric_small (byte_at bytes (suc p - 1)) letter) letter

one_underscore : (bytes rest : List ℕ) (p c : ℕ) → drop p bytes ≡ 95 ∷ c ∷ rest → (c == 95) ≡ false → p + 1 < 2 ^ 64 → run_end bytes p (Only 95) ≡ p + 1
unfolding run_end is_in
one_underscore bytes rest p c e h fits = let next : plus p 1 ≡ p + 1 = omega arith in rw (e, h, next) refl

-- such a run neither opens nor closes emphasis
abbrev pub lone_run : ℕ → Delimiter
lone_run p = record { place = p; count = p + 1 - p; length = p + 1 - p; byte = 95; opens = false; closes = false; subscript = false }

inert_run : (bytes : List ℕ) (p : ℕ) → run_end bytes p (Only 95) ≡ p + 1 → side_before bytes p ≡ OtherSide → side_at bytes (p + 1) ≡ OtherSide → run_at bytes p 95 ≡ lone_run p
unfolding run_at run_between acts flanks is_space is_punctuation
inert_run bytes p e before after = rw (e, before, after) refl

pub underscore_token : (bytes rest : List ℕ) (p c : ℕ) → drop p bytes ≡ 95 ∷ c ∷ rest → drop (p + 1) bytes ≡ c ∷ rest → p + 1 < 2 ^ 64 → is_ascii_alphanumeric (before_at bytes p) ≡ true → is_ascii_alphanumeric c ≡ true → token_at bytes p 95 Star ≡ record { atom = Delimiters (lone_run p); end = p + 1 }
underscore_token bytes rest p c e k fits before after =
    let one : run_end bytes p (Only 95) ≡ p + 1 = one_underscore bytes rest p c e (alphanumeric_other c after) fits in
    ap (let f : Delimiter → Token = λ r. record { atom = Delimiters r; end = run_end bytes p (Only 95) } in f)
    (inert_run bytes p one (letter_before bytes p before) (side_at_letter bytes (p + 1) c (byte_front bytes (p + 1) (c ∷ rest) k) (alphanumeric_small c after) after))
    ∙ ap (let f : ℕ → Token = λ n. record { atom = Delimiters (lone_run p); end = n } in f) one

-- references

run_is : (g : ℕ → Bool) (xs ys : List ℕ) (y : ℕ) → AllByRecursion (λ c. g c ≡ true) xs → g y ≡ false → take_while g (xs ++ y ∷ ys) ≡ xs
run_is g [] ys y h ends = take_while-cons g y ys ∙ ap (λ z. cond z (y ∷ take_while g ys) []) ends
run_is g (x ∷ xs) ys y h ends = take_while-cons g x (xs ++ y ∷ ys) ∙ ap (λ z. cond z (x ∷ take_while g (xs ++ y ∷ ys)) []) (h.0) ∙ ap (λ zs. x ∷ zs) (run_is g xs ys y (h.1) ends)

amp_letters : AllByRecursion (λ c. is_in TagName c ≡ true) (codes "amp")
unfolding is_in
amp_letters = (refl, (refl, (refl, tt)))

semicolon : is_in TagName 59 ≡ false
unfolding is_in
semicolon = refl

amp : characters_of (codes "amp") ≡ Some (38 ∷ [])
unfolding characters_of is_name characters_in entries_of is_entry next_line entry_characters starts_at run_end is_in iterated
amp = refl

amp_end : (bytes rest : List ℕ) (p : ℕ) → drop (p + 1) bytes ≡ 97 ∷ 109 ∷ 112 ∷ 59 ∷ rest → p + 5 < 2 ^ 64 → name_end bytes p ≡ p + 4
unfolding name_end run_end
amp_end bytes rest p e fits =
    let one : plus p 1 ≡ p + 1 = omega arith in
    let end : plus (p + 1) 3 ≡ p + 4 = omega arith in
    ap (λ q. plus q (length (take_while (is_in TagName) (drop q bytes)))) one
    ∙ ap (λ (xs : List ℕ). plus (p + 1) (length (take_while (is_in TagName) xs))) e
    ∙ ap (λ (xs : List ℕ). plus (p + 1) (length xs)) (run_is (is_in TagName) (codes "amp") rest 59 amp_letters semicolon)
    ∙ end

amp_named : (bytes rest : List ℕ) (p : ℕ) → drop p bytes ≡ 38 ∷ 97 ∷ 109 ∷ 112 ∷ 59 ∷ rest → drop (p + 1) bytes ≡ 97 ∷ 109 ∷ 112 ∷ 59 ∷ rest → byte_at bytes (p + 4) ≡ 59 → bytes_between bytes (p + 1) (p + 4) ≡ codes "amp" → p + 5 < 2 ^ 64 → named bytes p ≡ Some (record { characters = 38 ∷ []; next = p + 5 })
unfolding named name_at
amp_named bytes rest p e k last mid fits =
    let one : plus p 1 ≡ p + 1 = omega arith in
    let five : plus (p + 4) 1 ≡ p + 5 = omega arith in
    rw (amp_end bytes rest p k fits, byte_dropped bytes p 38 (97 ∷ 109 ∷ 112 ∷ 59 ∷ rest) e, last, one, mid, amp, five) refl

amp_no_number : (bytes rest : List ℕ) (p : ℕ) → drop p bytes ≡ 38 ∷ 97 ∷ rest → starts_at bytes p (codes "&#") ≡ false
unfolding starts_at
amp_no_number bytes rest p e = rw e refl

-- `&amp;` is a reference to an ampersand, by its name
pub amp_name : (bytes pre rest : List ℕ) (p : ℕ) → bytes ≡ pre ++ 38 ∷ 97 ∷ 109 ∷ 112 ∷ 59 ∷ rest → p ≡ length pre → p + 5 < 2 ^ 64 → named bytes p ≡ Some (record { characters = 38 ∷ []; next = p + 5 })
amp_name bytes pre rest p e at fits =
    let here : drop p bytes ≡ 38 ∷ 97 ∷ 109 ∷ 112 ∷ 59 ∷ rest = drop_at bytes pre _ p e at in
    let one : bytes ≡ (pre ++ 38 ∷ []) ++ 97 ∷ 109 ∷ 112 ∷ 59 ∷ rest = e ∙ sym (append_assoc pre (38 ∷ []) (97 ∷ 109 ∷ 112 ∷ 59 ∷ rest)) in
    let width : p + 1 ≡ length (pre ++ 38 ∷ []) = ap (λ n. n + 1) at ∙ sym (length-append pre (38 ∷ [])) in
    let next : drop (p + 1) bytes ≡ 97 ∷ 109 ∷ 112 ∷ 59 ∷ rest = drop_at bytes (pre ++ 38 ∷ []) _ (p + 1) one width in
    let four : bytes ≡ (pre ++ 38 ∷ 97 ∷ 109 ∷ 112 ∷ []) ++ 59 ∷ rest = e ∙ sym (append_assoc pre (38 ∷ 97 ∷ 109 ∷ 112 ∷ []) (59 ∷ rest)) in
    let last : byte_at bytes (p + 4) ≡ 59 = byte_dropped bytes (p + 4) 59 rest (drop_at bytes (pre ++ 38 ∷ 97 ∷ 109 ∷ 112 ∷ []) _ (p + 4) four (ap (λ n. n + 4) at ∙ sym (length-append pre (38 ∷ 97 ∷ 109 ∷ 112 ∷ [])))) in
    let mid : bytes_between bytes (p + 1) (p + 4) ≡ codes "amp" = piece_between bytes (pre ++ 38 ∷ []) (codes "amp") (59 ∷ rest) (p + 1) (p + 4) one width (let q : p + 4 ≡ p + 1 + 3 = omega arith in q ∙ ap (λ n. n + 3) width) in
    amp_named bytes rest p here next last mid fits

-- so it is an ampersand
pub amp_token : (bytes pre rest : List ℕ) (p : ℕ) → bytes ≡ pre ++ 38 ∷ 97 ∷ 109 ∷ 112 ∷ 59 ∷ rest → p ≡ length pre → p + 5 < 2 ^ 64 → token_at bytes p 38 Ampersand ≡ token (Text (38 ∷ [])) (p + 5)
amp_token bytes pre rest p e at fits =
    ap (λ c. ampersand p (reference_if c bytes p)) (amp_no_number bytes (109 ∷ 112 ∷ 59 ∷ rest) p (drop_at bytes pre _ p e at))
    ∙ ap (ampersand p) (amp_name bytes pre rest p e at fits)

is_number : (bytes rest : List ℕ) (p : ℕ) → drop p bytes ≡ 38 ∷ 35 ∷ rest → starts_at bytes p (codes "&#") ≡ true
unfolding starts_at
is_number bytes rest p e = rw e refl

numeric_is : (bytes : List ℕ) (p : ℕ) → starts_at bytes p (codes "&#") ≡ true → numeric bytes p ≡ reference_at bytes p
unfolding reference_at
numeric_is bytes p h = rw h refl

-- `&#32;` is a space
pub space_token : (bytes pre rest : List ℕ) (p : ℕ) → bytes ≡ pre ++ 38 ∷ 35 ∷ 51 ∷ 50 ∷ 59 ∷ rest → p ≡ length pre → p + 5 < 2 ^ 64 → token_at bytes p 38 Ampersand ≡ token (Text (encode_utf8 32)) (p + 5)
space_token bytes pre rest p e at fits =
    let here : drop p bytes ≡ 38 ∷ 35 ∷ 51 ∷ 50 ∷ 59 ∷ rest = drop_at bytes pre _ p e at in
    let number : starts_at bytes p (codes "&#") ≡ true = is_number bytes (51 ∷ 50 ∷ 59 ∷ rest) p here in
    let five : p + 1 + 4 ≡ p + 5 = omega arith in
    ap (λ c. ampersand p (reference_if c bytes p)) number
    ∙ ap (λ (o : Option Reference). ampersand p (numbered o)) (numeric_is bytes p number ∙ space_reference bytes pre rest p e at fits)
    ∙ ap (λ n. token (Text (encode_utf8 32)) n) five
