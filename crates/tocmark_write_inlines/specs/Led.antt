-- Where leaves lead.
use Rattle.std.specs.Prelude.{◌+◌, ◌&&◌, ◌||◌, Bool, if◌then◌else◌, List, Option, Some, ℕ, chars, codes, length, max}
use Rattle.tocmark_event.specs.Options.{OptionsView}
use Rattle.tocmark_event.specs.View.{EventView}
use Rattle.tocmark_event.specs.declared.event.flags.ParserOptions.{ParserOptions}
use Rattle.tocmark_write_texts.specs.Leaves.{code_span}
use Rattle.tocmark_spelling.specs.Kinds.{is_table}
use Rattle.tocmark_spelling.specs.Gap.{gap, is_inline, is_item_opening}
use Rattle.tocmark_spelling.specs.Page.{Held, Path, Page, Site, with_last, with_owed, written}
use Rattle.tocmark_spelling.specs.Places.{is_in, widened}
use Rattle.tocmark_spelling.specs.PlanOf.{shown}
use Rattle.tocmark_spelling.specs.Stretch.{rule_text}
use Rattle.tocmark_spelling.specs.declared.trail.Last.{Last}
use Rattle.tocmark_spelling.specs.declared.trail.Last.TheVariants.{Inline, Other}
use Rattle.tocmark_spelling.specs.declared.plan.TextSpelling.{TextSpelling}
use Rattle.tocmark_write_renderer.specs.WriterOf.{Rendering, Stands, unheld}

-- the renderer is at this place
abbrev pub StandsAt : Rendering → Site → Type 0
StandsAt w here = Stands w here.path here.page

-- an inline leaf with this text
abbrev pub spelled_on : EventView → List ℕ → Path → Page → Site
spelled_on e text path p = record { path = path; page = with_last Inline (written path text (gap e path p)) }

-- a code span after the gap of this event; the nearest cell is wider by its text and two backticks
abbrev pub code_led : EventView → List ℕ → Path → Page → Site
code_led e text path p =
    record (spelled_on e (code_span (is_in is_table path) text) path p) { path = widened (length (chars text) + 2) path }

-- a thematic break, in a bullet list with hyphens or not (CommonMark, section 4.1)
abbrev pub rule_text_in : Last → Bool → List ℕ
rule_text_in last in_hyphen_list = if is_inline last || (is_item_opening last && in_hyphen_list) then codes "***" else codes "---"

-- a thematic break without its gap, and the line feeds that it owes (CommonMark, section 4.1)
abbrev pub ruled_on : OptionsView → Path → Page → Site
ruled_on o path p = record {
  path = path;
  page = with_owed (max o.newlines_after_rule 1) (with_last Other (written path (rule_text p.trail.last path) p));
}

-- a thematic break after the gap of this event (CommonMark, section 4.1)
abbrev pub rule_led : OptionsView → EventView → Path → Page → Site
rule_led o e path p = ruled_on o path (gap e path p)

-- a stretch after the gap of this event; the nearest cell is wider by its characters
abbrev pub shown_on : OptionsView → ParserOptions → TextSpelling → Bool → Held → EventView → Option EventView → Path → Page → Site
shown_on o flags text source h e next path p = record {
  path = widened (length (chars h.text)) path;
  page = shown o flags text source h next path (gap e path (unheld p));
}

-- a text of a stretch: held while a further text follows, else the stretch is written
abbrev pub held_or_shown : Bool → OptionsView → ParserOptions → TextSpelling → Bool → Held → EventView → Option EventView → Path → Page → Site
held_or_shown more o flags text source h e next path p =
    if more then record { path = path; page = record p { held = Some h } } else shown_on o flags text source h e next path p
