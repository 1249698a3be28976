-- The anchors that sites make of the words of headings.
use Rattle.std.specs.Prelude.{ℕ, ◌==◌, Bool, false, not, ◌||◌, List, [], ◌∷◌, ◌++◌, chars, encode_utf8_all, if◌then◌else◌}
use Rattle.std.specs.Char.{is_whitespace, is_ascii_whitespace, is_ascii_alphanumeric}
use Rattle.std.specs.Char.Unicode.Alphabetic.{is_alphabetic}
use Rattle.std.specs.Char.Unicode.Numeric.{is_numeric}
use Rattle.std.specs.List.{flat_map}
use Rattle.std.specs.Str.{trim}
use Rattle.std.specs.StrCase.Lower.{str_to_lowercase}
use Rattle.ucd_category.specs.GeneralCategory.{general_category, general_category_eq}
use Rattle.ucd_category.specs.GeneralCategoryGroup.{in_group}
use Rattle.ucd_category.specs.declared.GeneralCategory.TheVariants.{ConnectorPunctuation}
use Rattle.ucd_category.specs.declared.GeneralCategoryGroup.TheVariants.{Letter, Mark, Number}
use Rattle.unicode_normalization.specs.Forms.{nfkd}
use Rattle.tocmark_links.specs.declared.slug.Slugs.{Slugs}
use Rattle.tocmark_links.specs.declared.slug.Slugs.TheVariants.{GitHub, MdBook, Python}

-- letters, marks, numbers, connectors such as `_`, and `-`
abbrev pub stays_at_github : ℕ → Bool
stays_at_github c = (c == 45)
    || general_category_eq (general_category c) ConnectorPunctuation
    || in_group Letter (general_category c)
    || in_group Mark (general_category c)
    || in_group Number (general_category c)

-- what a rule makes of a character: itself, `-`, or nothing
unfoldable pub letters_of : Slugs → ℕ → List ℕ
letters_of GitHub c = if c == 32 then 45 ∷ [] else (if stays_at_github c then c ∷ [] else [])
letters_of MdBook c =
    if is_whitespace c then 45 ∷ [] else (if (c == 45) || (c == 95) || (is_alphabetic c || is_numeric c) then c ∷ [] else [])
letters_of Python c =
    if (c == 45) || (c == 95) || is_ascii_whitespace c || is_ascii_alphanumeric c then c ∷ [] else []

-- what a rule keeps of a text
abbrev pub lettered : Slugs → List ℕ → List ℕ
lettered slugs text = encode_utf8_all (flat_map (letters_of slugs) (chars text))

abbrev pub joins : ℕ → Bool
joins c = (c == 45) || is_ascii_whitespace c

-- a character, or the `-` that it begins, by whether one is in front
abbrev pub dash_of : Bool → ℕ → List ℕ
dash_of behind c = if not (joins c) then c ∷ [] else (if not behind then 45 ∷ [] else [])

-- one `-` for each stretch of white space and `-`
abbrev pub dashed : Bool → List ℕ → List ℕ
dashed behind [] = []
dashed behind (c ∷ cs) = dash_of behind c ++ dashed (joins c) cs

-- the anchor of words before it is numbered
unfoldable pub slug_of : Slugs → List ℕ → List ℕ
slug_of GitHub words = lettered GitHub (str_to_lowercase words)
slug_of MdBook words = lettered MdBook (str_to_lowercase words)
slug_of Python words =
    encode_utf8_all (dashed false (chars (trim (str_to_lowercase (lettered Python (encode_utf8_all (nfkd (chars words))))))))
