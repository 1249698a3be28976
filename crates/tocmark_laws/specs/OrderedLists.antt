-- Tight lists of one-line items with numbers: their text, and the events that it is read as.
use Rattle.std.specs.Prelude.{◌≡◌, ℕ, ◌^◌, ◌<◌, Bool, true, ◌==◌, ◌&&◌, ◌||◌, nat_le, Some, List, [], ◌∷◌, ◌++◌, length, map}
use Rattle.std.specs.Char.{is_ascii_digit}
use Rattle.std.specs.List.{list_all}
use Rattle.std.specs.Str.Parse.{digits_value}
use Rattle.tocmark_event.specs.View.{EventView, Start, End, ListOf}
use Rattle.tocmark_event.specs.declared.event.TagEnd.TheVariants as end
use Rattle.tocmark_read_scan.specs.declared.syntax.Syntax.{Syntax}
use Rattle.tocmark_reader.specs.PlainTexts.{IsReadAs}
use Rattle.tocmark_reader.specs.Reading.{reading_of}
use Rattle.tocmark_laws.specs.Extensions.{is_word_line, lined}
use Rattle.tocmark_laws.specs.PlainLists.{items_events}

-- an item: the digits of its number, and its line
pub record NumberedLine : Type 0 where
  pub digits : List ℕ
  pub line : List ℕ

-- one to nine digits
abbrev pub is_number : List ℕ → Bool
is_number digits = nat_le 1 (length digits) && nat_le (length digits) 9 && list_all is_ascii_digit digits

-- a number before a line of words
abbrev pub is_numbered_line : NumberedLine → Bool
is_numbered_line i = is_number i.digits && is_word_line i.line

-- `.` or `)`
abbrev pub is_delimiter : ℕ → Bool
is_delimiter b = (b == 46) || (b == 41)

-- an item after its number, a delimiter and a space
abbrev pub numbered_line : ℕ → NumberedLine → List ℕ
numbered_line delimiter i = i.digits ++ delimiter ∷ 32 ∷ i.line

-- each item on a line
abbrev pub ordered_list : ℕ → NumberedLine → List NumberedLine → List ℕ
ordered_list delimiter i is = lined (numbered_line delimiter i) (map (numbered_line delimiter) is)

-- a tight list with the first item's number
abbrev pub ordered_events : NumberedLine → List NumberedLine → List EventView
ordered_events i is = Start (ListOf (Some (digits_value 10 i.digits))) ∷ items_events (map (λ x. x.line) (i ∷ is)) ++ End (end.List true) ∷ []

-- under every syntax, such lines of words are a tight list that begins with the first number
abbrev pub OrderedListsAreRead : Type 0
OrderedListsAreRead =
    (syntax : Syntax) (delimiter : ℕ) (i : NumberedLine) (is : List NumberedLine) →
    is_delimiter delimiter ≡ true → list_all is_numbered_line (i ∷ is) ≡ true → length (ordered_list delimiter i is) < 2 ^ 64 →
    IsReadAs (reading_of syntax (ordered_list delimiter i is)) (ordered_events i is)
