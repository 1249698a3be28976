-- Where the links of a text lead, as the reader finds it, and where they are to lead.
use Rattle.std.specs.Prelude.{ℕ, Bool, false, true, not, List, [], ◌∷◌, map, slice_set, Option, None, Some, String, string_bytes, ◌≡◌, if◌then◌else◌}
use Rattle.std.specs.Global.{Global}
use Rattle.std.specs.List.{filter_map, fold}
use Rattle.tocmark_event.specs.View.{EventView, TagView, Start, Link as link, Image as image}
use Rattle.tocmark_event.specs.declared.event.LinkType.TheVariants as type
use Rattle.tocmark_event.specs.declared.event.flags.ParserOptions.{ParserOptions}
use Rattle.tocmark_compare.specs.Given.{found_events}
use Rattle.tocmark_links.specs.declared.page.Link.{Link}
use Rattle.tocmark_links.specs.declared.page.LinkKind.{LinkKind}
use Rattle.tocmark_links.specs.declared.page.LinkKind.TheVariants.{Inline, Image, Definition, Html}
use Rattle.tocmark_read_scan.specs.declared.syntax.Names.TheVariants.{All}
use Rattle.tocmark_reader.specs.Definitions.{definitions_of}
use Rattle.tocmark_reader.specs.Flags.{syntax_of}
use Rattle.tocmark_reader.specs.Reading.{reading_of}

-- where a link or an image leads that has its own destination
abbrev pub own_of_tag : TagView → Option (List ℕ)
own_of_tag (link type.Inline destination title id) = Some destination
own_of_tag (image type.Inline destination title id) = Some destination
own_of_tag tag = None

-- where an event leads that begins such a link or image
abbrev pub own_destination : EventView → Option (List ℕ)
own_destination (Start tag) = own_of_tag tag
own_destination event = None

-- where a page's links lead
abbrev pub destinations : List Link → List (List ℕ)
destinations links = map (λ l. string_bytes l.destination) links

-- destinations in which each change replaces the one with its number
abbrev pub redirected : List (ℕ × String Global) → List (List ℕ) → List (List ℕ)
redirected changes all = fold (λ ds c. slice_set ds c.0 (string_bytes c.1)) all changes

-- whether a link is a definition, or else a link or an image with its own destination
abbrev pub is_of_sort : Bool → LinkKind → Bool
is_of_sort is_definition Inline = not is_definition
is_of_sort is_definition Image = not is_definition
is_of_sort is_definition Definition = is_definition
is_of_sort is_definition Html = false

-- the destinations of the links of one sort
abbrev pub of_sort : Bool → List Link → List (List ℕ) → List (List ℕ)
of_sort is_definition [] all = []
of_sort is_definition (l ∷ links) [] = []
of_sort is_definition (l ∷ links) (d ∷ all) =
    if is_of_sort is_definition l.kind then d ∷ of_sort is_definition links all else of_sort is_definition links all

-- the links and images of a text, and its definitions, lead to the destinations of these links, in this order
pub record LeadTo (flags : ParserOptions) (links : List Link) (all : List (List ℕ)) (text : List ℕ) : Type 0 where
  pub own : filter_map own_destination (found_events (reading_of (syntax_of All flags) text)) ≡ of_sort false links all
  pub defined : map (λ d. d.destination) (definitions_of (syntax_of All flags) text) ≡ of_sort true links all

-- the links of a page led to their destinations in the old text, and lead to those of the changes in the new one
pub record AreRedirected (flags : ParserOptions) (links : List Link) (changes : List (ℕ × String Global)) (old new : List ℕ) : Type 0 where
  pub led : LeadTo flags links (destinations links) old
  pub lead : LeadTo flags links (redirected changes (destinations links)) new
