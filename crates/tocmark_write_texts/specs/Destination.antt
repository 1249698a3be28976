-- Destinations and titles of links (CommonMark, sections 6.3 and 4.7).
use Rattle.std.specs.Prelude.{ℕ, ◌+◌, ◌-◌, Bool, true, false, not, ◌&&◌, ◌||◌, ◌==◌, nat_lt, nat_le, if◌then◌else◌, List, [], ◌∷◌, ◌++◌, codes, length, flat_map}
use Rattle.std.specs.List.{list_any}
use Rattle.tocmark_event.specs.declared.event.LinkType.{LinkType}
use Rattle.tocmark_event.specs.declared.event.LinkType.TheVariants.{Shortcut}
use Rattle.tocmark_write_texts.specs.Characters.{line_feed, carriage_return, space, quotation_mark, ampersand, opening_parenthesis, closing_parenthesis, less_than, greater_than, backslash}

-- a character of a destination, escaped where it has to be (CommonMark, sections 2.4, 2.5 and 6.3)
abbrev pub destination_character : ℕ → List ℕ
destination_character c =
    if c == ampersand then codes "&amp;"
    else if c == line_feed then codes "&#10;"
    else if c == carriage_return then codes "&#13;"
    else if c == backslash || c == less_than || c == greater_than then backslash ∷ c ∷ []
    else c ∷ []

-- whether such a character isn't written as it is
abbrev pub is_escaped_in_destination : ℕ → Bool
is_escaped_in_destination c =
    c == ampersand || c == line_feed || c == carriage_return || c == backslash || c == less_than || c == greater_than

-- a destination without brackets, so that it is read back
abbrev pub destination_text : List ℕ → List ℕ
destination_text text = flat_map destination_character text

-- a space, or a control character other than a line ending
abbrev pub ends_destination : ℕ → Bool
ends_destination c = (nat_le c space && not (c == line_feed) && not (c == carriage_return)) || c == 0x7F

-- whether parentheses, so many of which are open, close too often, are more than three deep or stay open
abbrev pub is_unbalanced : ℕ → List ℕ → Bool
is_unbalanced open_ones [] = not (open_ones == 0)
is_unbalanced open_ones (c ∷ cs) =
    if c == opening_parenthesis then nat_lt 2 open_ones || is_unbalanced (open_ones + 1) cs
    else if c == closing_parenthesis then open_ones == 0 || is_unbalanced (open_ones - 1) cs
    else is_unbalanced open_ones cs

-- whether a destination is in `<` and `>`; the empty one is, in a definition
abbrev pub needs_brackets : Bool → List ℕ → Bool
needs_brackets in_definition text =
    (in_definition && length text == 0) || list_any ends_destination text || is_unbalanced 0 text

-- a destination, in a definition or not
unfoldable pub destination : Bool → List ℕ → List ℕ
destination in_definition text =
    if needs_brackets in_definition text then codes "<" ++ destination_text text ++ codes ">" else destination_text text

-- a character of a title in quotes, escaped where it has to be (CommonMark, sections 2.4, 2.5 and 6.3)
abbrev pub title_character : ℕ → List ℕ
title_character c =
    if c == ampersand then codes "&amp;"
    else if c == quotation_mark || c == backslash then backslash ∷ c ∷ []
    else c ∷ []

-- whether such a character isn't written as it is
abbrev pub is_escaped_in_title : ℕ → Bool
is_escaped_in_title c = c == ampersand || c == quotation_mark || c == backslash

-- what is between the quotes of a title
abbrev pub title_text : List ℕ → List ℕ
title_text text = flat_map title_character text

-- a space and the title in quotes; nothing for the empty one
unfoldable pub title : List ℕ → List ℕ
title text = if length text == 0 then [] else codes " \"" ++ title_text text ++ codes "\""

-- what closes an inline link with this destination and title
abbrev pub inline_closing : List ℕ → List ℕ → List ℕ
inline_closing dest title_of = codes "](" ++ destination false dest ++ title title_of ++ codes ")"

-- what is after the label of a link's definition
abbrev pub definition_closing : List ℕ → List ℕ → List ℕ
definition_closing dest title_of = codes "]: " ++ destination true dest ++ title title_of

-- what closes a link of this type after its text or label; a `Shortcut` is closed as a definition
abbrev pub link_closing : LinkType → List ℕ → List ℕ → List ℕ
link_closing Shortcut dest title_of = definition_closing dest title_of
link_closing k dest title_of = inline_closing dest title_of
