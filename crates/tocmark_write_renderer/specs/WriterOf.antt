-- What is written of a unit: words of a renderer's value, and of its parts.
use Rattle.std.specs.Prelude.{◌≡◌, ℕ, false, List, [], ◌∷◌, string_bytes, ◌==◌, Option, Some, None, Result, Ok, Err, ◌++◌}
use Rattle.std.specs.Option.{option_map}
use Rattle.tocmark_event.specs.View.{EventView}
use Rattle.tocmark_spelling.specs.Marker.{ends_delimiter}
use Rattle.tocmark_spelling.specs.Stretch.{both}
use Rattle.tocmark_event.specs.declared.options.Error.{Error}
use Rattle.tocmark_event.specs.declared.options.Error.TheVariants as error
use Rattle.tocmark_spelling.specs.Page as page
use Rattle.tocmark_spelling.specs.Page.{Sheet, Trail, Path, Page, Site}
use Rattle.tocmark_write_renderer.specs.declared.parts.Reference.{Reference}
use Rattle.tocmark_write_renderer.specs.declared.parts.Held.{Held}

-- where a renderer is, and where it was at the mark, if one is set
pub record Rendering : Type 0 where
  pub site : Site
  pub at_mark : Option Site

-- where it is: its open containers and its page
abbrev pub site_of : Rendering → Site
site_of w = w.site

-- its open containers, the innermost first
abbrev pub levels_of : Rendering → Path
levels_of w = w.site.path

-- its page
abbrev pub page_of : Rendering → Page
page_of w = w.site.page

-- its text, and the line feeds at its end
abbrev pub sheet_of : Rendering → Sheet
sheet_of w = w.site.page.sheet

-- the empty page after so many line feeds, which finds this trail
abbrev pub blank_page : ℕ → Trail → Page
blank_page feeds trail = record { sheet = record { text = []; feeds = feeds }; trail = trail; references = []; held = None }

-- where no container is open on such a page
abbrev pub blank : ℕ → Trail → Site
blank feeds trail = record { path = []; page = blank_page feeds trail }

-- no line feed is in a text
abbrev pub HasNoFeed : List ℕ → Type 0
HasNoFeed [] = Unit {0}
HasNoFeed (b ∷ bs) = (b == 10 ≡ false) × HasNoFeed bs

-- a definition of a link that is still to be written, as a plain value (CommonMark, section 4.7)
abbrev pub reference_view : Reference → page.Reference
reference_view r = record { label = string_bytes r.label; destination = string_bytes r.destination; title = string_bytes r.title }

-- a stretch of texts that a renderer holds, as a plain value
abbrev pub held_view : Held → page.Held
held_view h = record { text = string_bytes h.text; source = option_map string_bytes h.source; after_close = h.after_close }

-- a stretch, longer by a text
abbrev pub longer : page.Held → List ℕ → Option (List ℕ) → page.Held
longer h text source = record { text = h.text ++ text; source = both h.source source; after_close = h.after_close }

-- a stretch that begins after this event
abbrev pub begun : List ℕ → Option (List ℕ) → Option EventView → page.Held
begun text source previous = record { text = text; source = source; after_close = ends_delimiter previous }

-- the stretch with one more text; where none was held, one begins
abbrev pub held_after : Option page.Held → List ℕ → Option (List ℕ) → Option EventView → page.Held
held_after None text source previous = begun text source previous
held_after (Some h) text source previous = longer h text source

-- the page with no stretch held
abbrev pub unheld : Page → Page
unheld p = record p { held = None }

-- the renderer has come to this page, in these open containers
pub record Stands (w : Rendering) (path : Path) (page : Page) : Type 0 where
  pub path_is : levels_of w ≡ path
  pub page_is : page_of w ≡ page

-- the renderer is where the definition is; never so where the definition refuses
abbrev pub Arrives : Rendering → Option Site → Type 0
Arrives w (Some here) = Stands w here.path here.page
Arrives w None = ⊥

-- what can't be written is unexpected; memory may run out at any call
abbrev pub IsRefusal : Error → Option Site → Type 0
IsRefusal error.OutOfMemory answer = Unit {0}
IsRefusal error.UnexpectedEvent answer = answer ≡ None
IsRefusal e answer = ⊥

-- the call came to where the definition does, or it refused what the definition refuses
abbrev pub Comes : {X : Type 0} → Result X Error → Rendering → Option Site → Type 0
Comes (Ok x) w answer = Arrives w answer
Comes (Err e) w answer = IsRefusal e answer
