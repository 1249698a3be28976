-- What a change makes of where a unit is.
use Rattle.std.specs.Prelude.{ℕ, Option, List, [], ◌∷◌, ◌++◌}
use Rattle.tocmark_spelling.specs.Page.{Held, Page, Path, Reference, Sheet, Site, with_trail}
use Rattle.tocmark_spelling.specs.TrailOf.{trail_of}
use Rattle.tocmark_spelling.specs.declared.trail.Carried.{Carried}

-- the place with its page changed
abbrev pub on_page : (Page → Page) → Site → Site
on_page f here = record { path = here.path; page = f here.page }

-- the place with its sheet changed
abbrev pub on_sheet : (Sheet → Sheet) → Site → Site
on_sheet f here = on_page (λ p. record p { sheet = f p.sheet }) here

-- the place with its open containers changed
abbrev pub on_path : (Path → Path) → Site → Site
on_path f here = record { path = f here.path; page = here.page }

-- the sheet with more text
abbrev pub with_more : List ℕ → Sheet → Sheet
with_more text s = record { text = s.text ++ text; feeds = s.feeds }

-- the sheet that ends with so many line feeds
abbrev pub with_feeds : ℕ → Sheet → Sheet
with_feeds n s = record { text = s.text; feeds = n }

-- the page on which this is carried along
abbrev pub carrying : Carried → Page → Page
carrying c p = with_trail (trail_of c p.trail.quote_line) p

-- the page on which this line goes on with a quote
abbrev pub quoting : Option (List ℕ) → Page → Page
quoting line p = with_trail (record p.trail { quote_line = line }) p

-- the page that holds this stretch
abbrev pub holding : Option Held → Page → Page
holding h p = record p { held = h }

-- the page with one more definition to be written
abbrev pub referring : Reference → Page → Page
referring r p = record p { references = p.references ++ r ∷ [] }
