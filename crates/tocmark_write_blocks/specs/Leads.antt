-- Where a closing leads, and which containers it closes.
use Rattle.std.specs.Prelude.{ℕ, Bool, true, false, None, if◌then◌else◌, List, ◌++◌, Result, OnOk, codes}
use Rattle.std.specs.declared.alloc.AllocError.{AllocError}
use Rattle.tocmark_event.specs.View.{TagView, Link, Image}
use Rattle.tocmark_spelling.specs.Closing.{alignment_cells, alignments_of, headers_of}
use Rattle.tocmark_spelling.specs.Kinds.{is_item}
use Rattle.tocmark_spelling.specs.Page.{Level, Path, Page, Site, Trail, with_trail}
use Rattle.tocmark_spelling.specs.Places.{is_in}
use Rattle.tocmark_write_renderer.specs.WriterOf.{Rendering, levels_of, page_of, Stands}

-- where this leads from where a renderer is
abbrev pub led_from : Rendering → (Path → Page → Site) → Site
led_from old row = row (levels_of old) (page_of old)

-- a renderer is where this leads from where the old one was
abbrev pub Leads : Rendering → Rendering → (Path → Page → Site) → Type 0
Leads old new row = Stands new (led_from old row).path (led_from old row).page

-- the same on Ok
abbrev pub Closes : Result (Unit {0}) AllocError → Rendering → Rendering → (Path → Page → Site) → Type 0
Closes result old new row = OnOk result (Leads old new row)

-- the page alone changed
abbrev pub OnPage : Rendering → Rendering → (Path → Page → Page) → Type 0
OnPage old new change = Stands new (levels_of old) (change (levels_of old) (page_of old))

-- the trail alone changed
abbrev pub OnTrail : Rendering → Rendering → (Trail → Trail) → Type 0
OnTrail old new change = OnPage old new (λ path p. with_trail (change p.trail) p)

-- the page on which a quote goes on only inside an item
abbrev pub with_quote_in_item : Path → Page → Page
with_quote_in_item path p =
    with_trail (record p.trail { quote_line = if is_in is_item path then p.trail.quote_line else None }) p

-- the row of dashes in a table
abbrev pub row_in : Level → List ℕ
row_in table = alignment_cells (alignments_of table.tag) (headers_of table.content) ++ codes "|"

-- all containers but links and images
abbrev pub is_closed : TagView → Bool
is_closed (Link kind dest title id) = false
is_closed (Image kind dest title id) = false
is_closed t = true
