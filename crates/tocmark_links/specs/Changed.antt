-- What new destinations leave of a page's events.
use Rattle.std.specs.Prelude.{ℕ, List, [], map, ◌≡◌}
use Rattle.tocmark_event.specs.Merged.{merged}
use Rattle.tocmark_event.specs.View.{EventView, TagView, Start, Leaf, Link, Image, Html, InlineHtml}
use Rattle.tocmark_event.specs.declared.event.flags.ParserOptions.{ParserOptions}
use Rattle.tocmark_compare.specs.Given.{found_events}
use Rattle.tocmark_read_scan.specs.declared.syntax.Names.TheVariants.{All}
use Rattle.tocmark_reader.specs.Flags.{syntax_of}
use Rattle.tocmark_reader.specs.Reading.{reading_of}

-- a container without where it leads
abbrev pub blank_tag : TagView → TagView
blank_tag (Link kind destination title id) = Link kind [] title id
blank_tag (Image kind destination title id) = Image kind [] title id
blank_tag tag = tag

-- an event without where it leads, and without HTML
abbrev pub blank : EventView → EventView
blank (Start tag) = Start (blank_tag tag)
blank (Leaf (Html html)) = Leaf (Html [])
blank (Leaf (InlineHtml html)) = Leaf (InlineHtml [])
blank event = event

-- what a page says, whatever its links lead to
abbrev pub blanked : ParserOptions → List ℕ → List EventView
blanked flags text = map blank (found_events (reading_of (syntax_of All flags) text))

-- two pages say the same, whatever their links lead to and their HTML says
abbrev pub SayTheSame : ParserOptions → List ℕ → List ℕ → Type 0
SayTheSame flags one other = merged (blanked flags one) ≡ merged (blanked flags other)
