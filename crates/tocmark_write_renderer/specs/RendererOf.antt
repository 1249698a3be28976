-- What the fields of a renderer mean, and what is true of them.
use Rattle.std.specs.Prelude.{◌≡◌, ◌≤◌, ℕ, List, ◌∷◌, Option, Some, None, [], IfSome, is_some, length, map, string_bytes, take, unwrap_or}
use Rattle.std.specs.Option.{option_map}
use Rattle.std.specs.Str.{IsCharBoundary}
use Rattle.tocmark_spelling.specs.Page.{Page, Path, Site}
use Rattle.tocmark_spelling.specs.TrailOf.{trail_of}
use Rattle.tocmark_write_renderer.specs.RunsOf.{AreNoted}
use Rattle.tocmark_write_renderer.specs.WriterOf.{Rendering, held_view, reference_view}
use Rattle.tocmark_write_renderer.specs.declared.renderer.Renderer.TheInside.{Inside}
use Rattle.tocmark_write_renderer.specs.declared.renderer.Snapshot.{Snapshot}

-- the page so far
abbrev pub page_now : Inside → Page
page_now a = record {
  sheet = record { text = string_bytes a.text; feeds = a.newlines };
  trail = trail_of a.carried (option_map string_bytes a.quote_line);
  references = map reference_view a.references.items;
  held = option_map held_view a.held;
}

-- what was at the mark: what a change noted, or else what is there still
abbrev pub noted : {X Y : Type 0} → (X → Y) → Option (Option X) → Option X → Option Y
noted f None now = option_map f now
noted f (Some old) now = option_map f old

-- the page at the mark: the notes taken back from the page so far
abbrev pub page_at : Inside → Snapshot → Page
page_at a m = record {
  sheet = record { text = take m.text (string_bytes a.text); feeds = m.newlines };
  trail = trail_of m.carried (noted string_bytes a.old_quote_line a.quote_line);
  references = map reference_view (take m.references a.references.items);
  held = noted held_view a.old_held a.held;
}

-- where it is now
abbrev pub site_now : Inside → Site
site_now a = record { path = a.containers.path; page = page_now a }

-- where it was at the mark
abbrev pub site_at : Inside → Snapshot → Site
site_at a m = record { path = unwrap_or a.containers.at_mark []; page = page_at a m }

-- where it is, and where it was at the mark, if one is set
abbrev pub rendering_of : Inside → Rendering
rendering_of a = record { site = site_now a; at_mark = option_map (site_at a) a.mark }

-- each opening ended where a text may be cut
abbrev pub AreCut : List ℕ → Path → Type 0
AreCut text [] = Unit {0}
AreCut text (l ∷ path) = IsCharBoundary text l.start × AreCut text path

-- what the mark needs: its text may be cut off, also where its openings ended, and its definitions are there
pub record Fits (a : Inside) (m : Snapshot) : Type 0 where
  pub cut : IsCharBoundary (string_bytes a.text) m.text
  pub references : m.references ≤ length a.references.items
  pub starts : AreCut (take m.text (string_bytes a.text)) (unwrap_or a.containers.at_mark [])

-- a mark is set on the containers where it is on the rest, what it needs is there, the text may be cut where each opening
-- ended, and the runs that are noted are those of the text's front
pub record IsNoted (a : Inside) : Type 0 where
  pub both : is_some a.mark ≡ is_some a.containers.at_mark
  pub fits : IfSome a.mark (λ m. Fits a m)
  pub starts : AreCut (string_bytes a.text) a.containers.path
  pub runs : AreNoted a.runs (string_bytes a.text)
