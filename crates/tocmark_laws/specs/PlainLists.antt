-- Tight lists of one-line items: their text, and the events that it is read as.
use Rattle.std.specs.Prelude.{◌≡◌, ℕ, ◌^◌, ◌<◌, Bool, true, false, ◌==◌, ◌||◌, None, List, [], ◌∷◌, ◌++◌, length, map}
use Rattle.std.specs.List.{list_all}
use Rattle.tocmark_event.specs.View.{EventView, Start, End, Leaf, Item, ListOf, Text}
use Rattle.tocmark_event.specs.declared.event.TagEnd.TheVariants as end
use Rattle.tocmark_read_scan.specs.declared.syntax.Syntax.{Syntax}
use Rattle.tocmark_reader.specs.PlainTexts.{IsReadAs}
use Rattle.tocmark_reader.specs.Reading.{reading_of}
use Rattle.tocmark_laws.specs.Extensions.{is_word_line, lined}

-- the bullets of lists
abbrev pub is_bullet : ℕ → Bool
is_bullet b = (b == 45) || (b == 43) || (b == 42)

-- an item after a bullet and a space
abbrev pub bullet_line : ℕ → List ℕ → List ℕ
bullet_line bullet line = bullet ∷ 32 ∷ line

-- each item on a line
abbrev pub bullet_list : ℕ → List ℕ → List (List ℕ) → List ℕ
bullet_list bullet l ms = lined (bullet_line bullet l) (map (bullet_line bullet) ms)

-- the events of items: a text in each
abbrev pub items_events : List (List ℕ) → List EventView
items_events [] = []
items_events (l ∷ ls) = Start Item ∷ Leaf (Text l) ∷ End end.Item ∷ items_events ls

-- a tight list of these items, without numbers
abbrev pub bullet_events : List (List ℕ) → List EventView
bullet_events ls = Start (ListOf None) ∷ items_events ls ++ End (end.List false) ∷ []

-- under every syntax, lines of words after one of `-`, `+` and `*` are a tight list with an item for each
abbrev pub BulletListsAreRead : Type 0
BulletListsAreRead =
    (syntax : Syntax) (bullet : ℕ) (l : List ℕ) (ms : List (List ℕ)) →
    is_bullet bullet ≡ true → list_all is_word_line (l ∷ ms) ≡ true → length (bullet_list bullet l ms) < 2 ^ 64 →
    IsReadAs (reading_of syntax (bullet_list bullet l ms)) (bullet_events (l ∷ ms))
