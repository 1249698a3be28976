-- Where the destination of a link is in its text.
use Rattle.std.specs.Prelude.{ℕ, zero, suc, Bool, false, not, ◌==◌, ◌&&◌, ◌||◌, ◌-◌, if◌then◌else◌, List, [], ◌∷◌, bytes_eq, codes, drop, length, take, Option, Some, None}
use Rattle.std.specs.Option.{option_map, option_or}
use Rattle.tocmark_event.specs.View.{EventView, Start, TagView, Link, Image}
use Rattle.tocmark_event.specs.declared.event.LinkType.{LinkType}
use Rattle.tocmark_event.specs.declared.event.LinkType.TheVariants.{Inline, Autolink, Email}
use Rattle.tocmark_read_scan.specs.Basic.{plus, bytes_between, starts_at}
use Rattle.tocmark_read_scan.specs.declared.syntax.Names.TheVariants.{All}
use Rattle.tocmark_read_spans.specs.Link.{inline_target}
use Rattle.tocmark_read_spans.specs.declared.link.InlineTarget.{InlineTarget}
use Rattle.tocmark_read_tokens.specs.Reference.{unescaped_in}
use Rattle.tocmark_read_tokens.specs.declared.word.Word.{Word}
use Rattle.tocmark_json.specs.Positions.{span_of}
use Rattle.tocmark_json.specs.declared.positions.Details.{Details}

-- a byte as a paragraph has it: a space for the sign of a quote at the front of a line, a line feed for each line ending
abbrev pub shown : Bool → ℕ → ℕ
shown front b = if front && (b == 62) then 32 else (if b == 13 then 10 else b)

-- whether a line has only blanks and signs of quotes up to here, after this byte
abbrev pub is_front : Bool → ℕ → Bool
is_front front b = (b == 10) || (b == 13) || (front && ((b == 32) || (b == 9) || (b == 62)))

-- bytes as a paragraph has them
abbrev pub unquoted : Bool → List ℕ → List ℕ
unquoted front [] = []
unquoted front (b ∷ bs) = shown front b ∷ unquoted (is_front front b) bs

-- a target ends its bytes, says this destination, and has a title if one is wanted
unfoldable pub is_wanted : List ℕ → List ℕ → List ℕ → InlineTarget → Bool
is_wanted bytes dest title t =
    (t.end == length bytes) && ((length title == 0) || not (t.title.start == t.title.end))
    && bytes_eq (unescaped_in All (bytes_between bytes t.destination.start t.destination.end)) dest

-- a destination with its angle brackets, if it has them
abbrev pub whole : Word → ℕ × ℕ
whole w = (if w.next == w.end then w.start else w.start - 1, w.next)

-- the place of a target's destination, if it is the wanted one
abbrev pub wanted_place : List ℕ → List ℕ → List ℕ → Option InlineTarget → Option (ℕ × ℕ)
wanted_place bytes dest title None = None
wanted_place bytes dest title (Some t) = if is_wanted bytes dest title t then Some (whole t.destination) else None

-- a place so many bytes later
abbrev pub later : ℕ → ℕ × ℕ → ℕ × ℕ
later n p = (plus n p.0, plus n p.1)

-- the place of a link's destination, if its text ends at the bracket at this place: what the reader finds after that
unfoldable pub place_after : List ℕ → List ℕ → List ℕ → ℕ → Option (ℕ × ℕ)
place_after link dest title at =
    let bytes = unquoted false (drop (plus at 1) link) in
    option_map (later (plus at 1)) (wanted_place bytes dest title (inline_target bytes 0))

-- the places before this one at which the text of a link can end, last first
abbrev pub ends_of_text : List ℕ → ℕ → List ℕ
ends_of_text link zero = []
ends_of_text link (suc n) = let others = ends_of_text link n in if starts_at link n (codes "](") then n ∷ others else others

-- the first answer
abbrev pub first_some : (ℕ → Option (ℕ × ℕ)) → List ℕ → Option (ℕ × ℕ)
first_some f [] = None
first_some f (x ∷ xs) = option_or (f x) (first_some f xs)

-- the place of the destination in a link: after the last bracket that can end its text, of the last 32 that are in it
unfoldable pub place_in : List ℕ → List ℕ → List ℕ → Option (ℕ × ℕ)
place_in link dest title = first_some (place_after link dest title) (take 32 (ends_of_text link (length link)))

-- the place of the destination of a link that has this range
unfoldable pub destination_by : List ℕ → ℕ × ℕ → LinkType → List ℕ → List ℕ → Option (ℕ × ℕ)
destination_by text r Inline dest title = option_map (later r.0) (place_in (bytes_between text r.0 r.1) dest title)
destination_by text r Autolink dest title = Some (plus r.0 1, r.1 - 1)
destination_by text r Email dest title = Some (plus r.0 1, r.1 - 1)
destination_by text r kind dest title = None

-- the place of the destination of a link or an image
abbrev pub destination_of : List ℕ → EventView → ℕ × ℕ → Option (ℕ × ℕ)
destination_of text (Start (Link kind dest title id)) r = destination_by text r kind dest title
destination_of text (Start (Image kind dest title id)) r = destination_by text r kind dest title
destination_of text event r = None

-- what is known of an event's range: its lines and columns, and where a link's destination is
abbrev pub details_of : List ℕ → EventView → ℕ × ℕ → Details
details_of text event r = record { span = span_of text r; destination = destination_of text event r }
