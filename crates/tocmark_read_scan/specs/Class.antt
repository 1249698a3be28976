-- Sets of bytes, and the runs of their members.
use Rattle.std.specs.Prelude.{ℕ, Bool, not, ◌==◌, ◌&&◌, ◌||◌, nat_lt, List, length, drop, take_while}
use Rattle.std.specs.Char.{is_ascii_alphanumeric, is_ascii_alphabetic, is_ascii_digit, is_ascii_hexdigit, is_ascii_punctuation}
use Rattle.tocmark_read_scan.specs.Basic.{plus}
use Rattle.tocmark_read_scan.specs.declared.class.Class.{Class}
use Rattle.tocmark_read_scan.specs.declared.class.Class.TheVariants as class

-- a byte of an unquoted value of an attribute (CommonMark 6.6)
unfoldable pub is_unquoted : ℕ → Bool
is_unquoted b = not ((b == 32) || (b == 9) || (b == 10) || (b == 13) || (b == 34) || (b == 39) || (b == 61) || (b == 60) || (b == 62) || (b == 96))

-- a round, angle or square bracket
unfoldable pub is_bracket : ℕ → Bool
is_bracket b = (b == 40) || (b == 41) || (b == 60) || (b == 62) || (b == 91) || (b == 93)

-- a double quote, a comma, a colon, a semicolon, an @ or a backslash
unfoldable pub is_separator : ℕ → Bool
is_separator b = (b == 34) || (b == 44) || (b == 58) || (b == 59) || (b == 64) || (b == 92)

-- a byte of a mail address before the @ (CommonMark 6.5)
unfoldable pub is_mailbox : ℕ → Bool
is_mailbox b = (is_ascii_punctuation b && not (is_bracket b) && not (is_separator b)) || is_ascii_alphanumeric b

-- whether a byte is in the set
unfoldable pub is_in : Class → ℕ → Bool
is_in class.White b = (b == 32) || (b == 9) || (b == 10)
is_in class.Blank b = (b == 32) || (b == 9)
is_in class.Digit b = is_ascii_digit b
is_in class.HexDigit b = is_ascii_hexdigit b
is_in class.TagName b = is_ascii_alphanumeric b || (b == 45)
is_in class.AttributeStart b = is_ascii_alphabetic b || (b == 95) || (b == 58)
is_in class.AttributeName b = is_ascii_alphanumeric b || (b == 95) || (b == 46) || (b == 58) || (b == 45)
is_in class.Unquoted b = is_unquoted b
is_in class.Scheme b = is_ascii_alphanumeric b || (b == 43) || (b == 46) || (b == 45)
is_in class.Address b = nat_lt 32 b && not (b == 127) && not (b == 60) && not (b == 62)
is_in class.Mailbox b = is_mailbox b
is_in class.Domain b = is_ascii_alphanumeric b || (b == 46) || (b == 45)
is_in (class.Only one) b = b == one
is_in (class.Except one) b = not (b == one)

-- how many members of the set are at the front
abbrev pub run_length : Class → List ℕ → ℕ
run_length c bytes = length (take_while (is_in c) bytes)

-- the place after the members of the set at a place
unfoldable pub run_end : List ℕ → ℕ → Class → ℕ
run_end bytes place c = plus place (run_length c (drop place bytes))
