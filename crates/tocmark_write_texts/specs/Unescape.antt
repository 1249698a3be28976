-- How Markdown reads backslash escapes and character references (CommonMark, sections 2.4 and 2.5), of the named
-- ones only four.
use Rattle.std.specs.Prelude.{ℕ, zero, suc, ◌+◌, not, ◌&&◌, ◌||◌, ◌==◌, nat_le, nat_eq, if◌then◌else◌, ◌≡◌, ◌≢◌, IsTrue, All, IsUtf8, chars, Option, Some, None, unwrap_or, List, [], ◌∷◌, codes, length, drop, take_while}
use Rattle.std.specs.Char.{is_digit, char_set_contains, IsScalar}
use Rattle.std.specs.List.{starts_with}
use Rattle.std.specs.Str.Parse.{digits_value}
use lib.Utf8.{scalar}
use Rattle.tocmark_write_texts.specs.Characters.{is_ascii_punctuation, ampersand, backslash, replacement}
use Rattle.tocmark_write_texts.specs.Escape.{Surroundings, escape, escaped}

-- a character that was read, and how many characters spell it after the first one
pub record Spelled : Type 0 where
  pub character : ℕ
  pub more : ℕ

-- the character with a number: U+FFFD for zero and for what is no character
abbrev pub numbered : ℕ → ℕ
numbered n = if n == 0 || not (scalar n) then replacement else n

-- a reference by number, of which these characters were read before the digits: one digit or more, at most so
-- many, and a semicolon
abbrev pub by_number : ℕ → ℕ → ℕ → List ℕ → Option Spelled
by_number radix most before text =
    let digits = take_while (λ c. is_digit c radix) text in
    if nat_le 1 (length digits) && nat_le (length digits) most && starts_with nat_eq (drop (length digits) text) (codes ";")
    then Some (record { character = numbered (digits_value radix digits); more = before + length digits + 1 })
    else None

-- a reference by name
abbrev pub by_name : List ℕ → Option Spelled
by_name text =
    if starts_with nat_eq text (codes "amp;") then Some (record { character = 38; more = 4 })
    else if starts_with nat_eq text (codes "lt;") then Some (record { character = 60; more = 3 })
    else if starts_with nat_eq text (codes "gt;") then Some (record { character = 62; more = 3 })
    else if starts_with nat_eq text (codes "quot;") then Some (record { character = 34; more = 5 })
    else None

-- a character reference, from what is after its ampersand
unfoldable pub referred : List ℕ → Option Spelled
referred text =
    if starts_with nat_eq text (codes "#x") || starts_with nat_eq text (codes "#X") then by_number 16 6 2 (drop 2 text)
    else if starts_with nat_eq text (codes "#") then by_number 10 7 1 (drop 1 text)
    else by_name text

-- an escape, from what is after its backslash
abbrev pub escaped_by : List ℕ → Option Spelled
escaped_by [] = None
escaped_by (c ∷ cs) = if is_ascii_punctuation c then Some (record { character = c; more = 1 }) else None

-- what a character and those after it begin with
abbrev pub spelled : ℕ → List ℕ → Spelled
spelled c text =
    let itself : Spelled = record { character = c; more = 0 } in
    if c == backslash then unwrap_or (escaped_by text) itself
    else if c == ampersand then unwrap_or (referred text) itself
    else itself

-- the characters that a text is read as, of which so many at its front belong to one that was read before
abbrev pub unescape_after : ℕ → List ℕ → List ℕ
unescape_after n [] = []
unescape_after zero (c ∷ cs) = (spelled c cs).character ∷ unescape_after (spelled c cs).more cs
unescape_after (suc n) (c ∷ cs) = unescape_after n cs

-- the characters that a text is read as
abbrev pub unescape : List ℕ → List ℕ
unescape text = unescape_after 0 text

-- a character that can be read back: any but NUL
abbrev pub IsReadable : ℕ → Type 0
IsReadable c = IsScalar c × (c ≢ 0)

-- with the marker `*` or `_` for emphasis each stretch is read back
abbrev pub EscapesReadBack : Type 0
EscapesReadBack = (p : Surroundings) (text : List ℕ) → IsTrue (char_set_contains (codes "*_") p.token) → All IsReadable text
    → unescape (escape p text) ≡ text

-- the same of the characters of a text and of the escaped text
abbrev pub EscapedTextsReadBack : Type 0
EscapedTextsReadBack = (p : Surroundings) (text : List ℕ) → IsTrue (char_set_contains (codes "*_") p.token) → IsUtf8 text
    → All (λ c. c ≢ 0) (chars text) → unescape (chars (escaped p text)) ≡ chars text
