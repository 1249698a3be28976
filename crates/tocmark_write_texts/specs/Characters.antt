-- Characters by their codes, and their kinds.
use Rattle.std.specs.Prelude.{ℕ, Bool, ◌||◌, nat_lt, if◌then◌else◌}
use Rattle.std.specs.Char.{is_whitespace, is_ascii_alphanumeric}
use Rattle.ucd_category.specs.GeneralCategory.{general_category}
use Rattle.ucd_category.specs.GeneralCategoryGroup.{in_group}
use Rattle.ucd_category.specs.declared.GeneralCategoryGroup.TheVariants.{Number}
use Rattle.ucd_derived.specs.Binary.{is_alphabetic}
-- space, tab, line feed, form feed and carriage return
pub use Rattle.std.specs.Char.{is_ascii_whitespace as is_ascii_white_space}
-- the punctuation of ASCII (CommonMark, section 2.1)
pub use Rattle.std.specs.Char.{is_ascii_punctuation}

-- an ASCII letter or digit; past ASCII an alphabetic character or a number
unfoldable pub is_alphanumeric : ℕ → Bool
is_alphanumeric c =
    if nat_lt c 128 then is_ascii_alphanumeric c else is_alphabetic c || in_group Number (general_category c)

-- a character with the property White_Space
abbrev pub is_white_space : ℕ → Bool
is_white_space = is_whitespace

-- the tab
abbrev pub tab : ℕ
tab = 9

-- the line feed
abbrev pub line_feed : ℕ
line_feed = 10

-- the carriage return
abbrev pub carriage_return : ℕ
carriage_return = 13

-- the space
abbrev pub space : ℕ
space = 32

-- the exclamation mark, `!`
abbrev pub exclamation_mark : ℕ
exclamation_mark = 33

-- the quotation mark, `"`
abbrev pub quotation_mark : ℕ
quotation_mark = 34

-- the hash, `#`
abbrev pub hash : ℕ
hash = 35

-- the dollar sign, `$`
abbrev pub dollar : ℕ
dollar = 36

-- the ampersand, `&`
abbrev pub ampersand : ℕ
ampersand = 38

-- the opening parenthesis, `(`
abbrev pub opening_parenthesis : ℕ
opening_parenthesis = 40

-- the closing parenthesis, `)`
abbrev pub closing_parenthesis : ℕ
closing_parenthesis = 41

-- the colon, `:`
abbrev pub colon : ℕ
colon = 58

-- the semicolon, `;`
abbrev pub semicolon : ℕ
semicolon = 59

-- the less-than sign, `<`
abbrev pub less_than : ℕ
less_than = 60

-- the greater-than sign, `>`
abbrev pub greater_than : ℕ
greater_than = 62

-- the backslash, `\`
abbrev pub backslash : ℕ
backslash = 92

-- the caret, `^`
abbrev pub caret : ℕ
caret = 94

-- the underscore, `_`
abbrev pub underscore : ℕ
underscore = 95

-- the backtick, the character of code spans
abbrev pub backtick : ℕ
backtick = 96

-- the opening brace, `{`
abbrev pub opening_brace : ℕ
opening_brace = 123

-- the vertical bar, `|`
abbrev pub vertical_bar : ℕ
vertical_bar = 124

-- what a replaced character is read as
abbrev pub replacement : ℕ
replacement = 0xFFFD
