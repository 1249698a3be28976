-- How HTML blocks end (CommonMark, section 4.6).
use Rattle.std.specs.Prelude.{ℕ, Bool, false, not, ◌&&◌, ◌||◌, ◌==◌, if◌then◌else◌, Option, Some, None, List, [], ◌∷◌, ◌++◌, bytes_eq, codes, drop, take_while}
use Rattle.std.specs.List.{list_any}
use Rattle.std.specs.Str.{trim_start, str_to_ascii_lowercase}
use Rattle.tocmark_write_texts.specs.Characters.{is_ascii_white_space, greater_than}
use Rattle.tocmark_spelling.specs.Words.{begins_with, holds}

-- the tags of raw text
abbrev pub raw_names : List (List ℕ)
raw_names = codes "pre" ∷ codes "script" ∷ codes "style" ∷ codes "textarea" ∷ []

-- a text without the `<` that it begins with
abbrev pub without_bracket : List ℕ → List ℕ
without_bracket text = if begins_with text (codes "<") then drop 1 text else text

-- the name at the front of HTML, up to white space or `>`
abbrev pub name_of : List ℕ → List ℕ
name_of text = take_while (λ b. not (is_ascii_white_space b || b == greater_than)) (without_bracket text)

-- whether this is the name of a tag of raw text, in capitals or not (CommonMark, section 4.6)
abbrev pub is_raw_name : List ℕ → Bool
is_raw_name name = list_any (λ raw. bytes_eq (str_to_ascii_lowercase name) raw) raw_names

-- whether a blank line ends the block that begins so
abbrev pub ends_at_blank : List ℕ → Bool
ends_at_blank text = not (begins_with text (codes "<!") || begins_with text (codes "<?")) && not (is_raw_name (name_of text))

-- the same by its first HTML; without any, none does
abbrev pub is_blank_terminated : Option (List ℕ) → Bool
is_blank_terminated None = false
is_blank_terminated (Some html) = ends_at_blank (trim_start html)

-- whether the end tag of some raw text is in it, in capitals or not (CommonMark, section 4.6)
abbrev pub holds_end_tag : List ℕ → Bool
holds_end_tag text = list_any (λ raw. holds (str_to_ascii_lowercase text) (codes "</" ++ raw ++ codes ">")) raw_names

-- whether the end of the block that begins so is in it
abbrev pub holds_its_end : List ℕ → Bool
holds_its_end text =
    if begins_with text (codes "<!--") then holds text (codes "-->")
    else if begins_with text (codes "<?") then holds text (codes "?>")
    else if begins_with text (codes "<![CDATA[") then holds text (codes "]]>")
    else if begins_with text (codes "<!") then holds text (codes ">")
    else holds_end_tag text

-- the same of the joined HTML of a block
abbrev pub is_html_closed : List ℕ → Bool
is_html_closed html = holds_its_end (trim_start html)
