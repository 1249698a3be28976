-- What links by a label say after the label's definition was changed.
use Rattle.std.specs.Prelude.{◌≡◌, ℕ, Bool, true, false, ◌&&◌, if◌then◌else◌, List, map, slice_get, bytes_eq, Option, None, Some}
use Rattle.tocmark_event.specs.Merged.{merged}
use Rattle.tocmark_event.specs.View.{EventView, TagView, Start, Link, Image}
use Rattle.tocmark_event.specs.declared.event.LinkType.{LinkType}
use Rattle.tocmark_event.specs.declared.event.LinkType.TheVariants as type
use Rattle.tocmark_event.specs.declared.event.flags.ParserOptions.{ParserOptions}
use Rattle.tocmark_compare.specs.Given.{found_events}
use Rattle.tocmark_read_scan.specs.declared.syntax.Names.TheVariants.{All}
use Rattle.tocmark_read_tokens.specs.Label.{first_place, key_of}
use Rattle.tocmark_reader.specs.Definitions.{SaidDefinition, definitions_of}
use Rattle.tocmark_reader.specs.Flags.{syntax_of}
use Rattle.tocmark_reader.specs.Reading.{reading_of}
use Rattle.tocmark_rewrite.specs.Edits.{leading_to}

-- whether a link of this type says what its label's definition says
abbrev pub is_by_label : LinkType → Bool
is_by_label type.Reference = true
is_by_label type.Collapsed = true
is_by_label type.Shortcut = true
is_by_label kind = false

-- the place of the first definition of a label
abbrev pub place_of_label : List SaidDefinition → List ℕ → Option ℕ
place_of_label definitions label = first_place 0 (map (λ d. key_of d.label) definitions) (key_of label)

-- the new definition, if the old one has this destination and this title
abbrev pub new_if : Option SaidDefinition → List ℕ → List ℕ → Option SaidDefinition → Option SaidDefinition
new_if None destination title new = None
new_if (Some old) destination title new = if bytes_eq old.destination destination && bytes_eq old.title title then new else None

-- the new definition at a place, if the old one there has this destination and this title
abbrev pub new_at : List SaidDefinition → List SaidDefinition → List ℕ → List ℕ → Option ℕ → Option SaidDefinition
new_at olds news destination title None = None
new_at olds news destination title (Some place) = new_if (slice_get olds place) destination title (slice_get news place)

-- the new definition of a label, if a link by it says what the old one did
abbrev pub new_of : List SaidDefinition → List SaidDefinition → LinkType → List ℕ → List ℕ → List ℕ → Option SaidDefinition
new_of olds news kind destination title label =
    if is_by_label kind then new_at olds news destination title (place_of_label olds label) else None

-- that of the label of a link or an image
abbrev pub new_of_tag : List SaidDefinition → List SaidDefinition → TagView → Option SaidDefinition
new_of_tag olds news (Link kind destination title id) = new_of olds news kind destination title id
new_of_tag olds news (Image kind destination title id) = new_of olds news kind destination title id
new_of_tag olds news tag = None

-- a link or an image with this title
abbrev pub entitled : List ℕ → TagView → TagView
entitled title (Link kind destination old id) = Link kind destination title id
entitled title (Image kind destination old id) = Image kind destination title id
entitled title tag = tag

-- a link or an image that says what a definition does
abbrev pub saying : SaidDefinition → TagView → TagView
saying d tag = entitled d.title (leading_to d.destination tag)

-- one that says what a definition does, if there is one
abbrev pub saying_if : Option SaidDefinition → TagView → TagView
saying_if None tag = tag
saying_if (Some d) tag = saying d tag

-- a tag after definitions were changed: a link that said what its label's old definition did says what the new one does
abbrev pub followed_tag : List SaidDefinition → List SaidDefinition → TagView → TagView
followed_tag olds news tag = saying_if (new_of_tag olds news tag) tag

-- an event after definitions were changed
abbrev pub followed : List SaidDefinition → List SaidDefinition → EventView → EventView
followed olds news (Start tag) = Start (followed_tag olds news tag)
followed olds news event = event

-- the definitions of a text
abbrev pub definitions_under : ParserOptions → List ℕ → List SaidDefinition
definitions_under flags text = definitions_of (syntax_of All flags) text

-- the events of a text
abbrev pub events_under : ParserOptions → List ℕ → List EventView
events_under flags text = found_events (reading_of (syntax_of All flags) text)

-- events after the definitions of one text became those of another one
abbrev pub followed_in : ParserOptions → List ℕ → List ℕ → List EventView → List EventView
followed_in flags old new = map (followed (definitions_under flags old) (definitions_under flags new))

-- the links of a new text say what its definitions do, and else it says what the old one did
abbrev pub IsFollowed : ParserOptions → List ℕ → List ℕ → Type 0
IsFollowed flags old new = merged (events_under flags new) ≡ merged (followed_in flags old new (events_under flags old))
