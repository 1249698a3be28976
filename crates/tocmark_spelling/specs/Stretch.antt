-- The leaves: each with its gap, and a stretch of texts as one.
use Rattle.std.specs.Prelude.{ℕ, ◌+◌, Bool, true, false, ◌&&◌, ◌||◌, ◌==◌, if◌then◌else◌, nat_lt, Option, Some, None, is_none, List, [], ◌∷◌, ◌++◌, length, max, codes, chars}
use Rattle.tocmark_event.specs.View.{LeafView, Text, Code, InlineMath, DisplayMath, Html, InlineHtml, FootnoteReference, SoftBreak, HardBreak, Rule, TaskListMarker, SourcedLeaf, EventView, Leaf}
use Rattle.tocmark_write_texts.specs.Escape.{Surroundings, escaped}
use Rattle.tocmark_write_texts.specs.Leaves.{code_span, inline_math, display_math, task_marker, footnote_reference}
use Rattle.tocmark_spelling.specs.Plan.{Setting, Manner}
use Rattle.tocmark_spelling.specs.declared.plan.TextSpelling.{TextSpelling}
use Rattle.tocmark_spelling.specs.declared.plan.TextSpelling.TheVariants.{Literal, Entities, LiteralEntities}
use Rattle.tocmark_spelling.specs.Kinds.{is_table, is_heading, is_emphasis_or_strong, starts, is_text, and_is}
use Rattle.tocmark_spelling.specs.declared.trail.Last.{Last}
use Rattle.tocmark_spelling.specs.declared.trail.Last.TheVariants.{Other, Inline}
use Rattle.tocmark_spelling.specs.Page.{OpeningChoice, Listed, Path, Page, Site, Held, Around, front, following, written, with_last, with_owed}
use Rattle.tocmark_spelling.specs.Places.{is_in, is_after_opening, is_raw, widened}
use Rattle.tocmark_spelling.specs.Gap.{gap, is_inline, is_item_opening}
use Rattle.tocmark_spelling.specs.Marker.{ends_delimiter}
use Rattle.tocmark_spelling.specs.Words.{hyphen}

-- whether markers in texts stay as they are
abbrev pub is_literal : TextSpelling → Bool
is_literal Literal = true
is_literal LiteralEntities = true
is_literal t = false

-- whether characters beside markers are written as references (CommonMark, section 2.5)
abbrev pub has_entities : TextSpelling → Bool
has_entities Entities = true
has_entities LiteralEntities = true
has_entities t = false

-- the front of a line, of the unit, or of a container
abbrev pub at_front : Path → Page → Bool
at_front path p = nat_lt 0 p.sheet.feeds || length p.sheet.text == 0 || is_after_opening path p

-- where a stretch of texts is
abbrev pub place : Setting → Manner → Bool → Option EventView → Path → Page → Surroundings
place s m after_close next path p = record {
  flags = s.flags;
  token = s.options.emphasis_token;
  literal = is_literal m.plan.text;
  first_encoded = has_entities m.plan.text && after_close;
  last_encoded = has_entities m.plan.text && and_is (λ e. starts is_emphasis_or_strong e) next;
  at_front = at_front path p;
  in_table = is_in is_table path;
  in_heading = is_in is_heading path;
  next = next;
}

-- the text in the source, where it is wanted and known
abbrev pub from_source : Bool → Option (List ℕ) → Option (List ℕ)
from_source true source = source
from_source false source = None

-- the source text if there is one, else the text escaped
abbrev pub or_escaped : Option (List ℕ) → Surroundings → List ℕ → List ℕ
or_escaped (Some source) place text = source
or_escaped None place text = escaped place text

-- the text of a stretch: as it is where nothing is read in it, from the source where that is wanted and known, else escaped
abbrev pub stretch_text : Setting → Manner → Held → Option EventView → Path → Page → List ℕ
stretch_text s m h next path p =
    if is_raw path then h.text
    else or_escaped (from_source m.source h.source) (place s m h.after_close next path p) h.text

-- two texts joined; none unless both are known
abbrev pub both : Option (List ℕ) → Option (List ℕ) → Option (List ℕ)
both (Some t) (Some u) = Some (t ++ u)
both a b = None

-- a stretch, longer by a text
abbrev pub held_with : Option Held → List ℕ → Option (List ℕ) → Around → Held
held_with None text source a = record { text = text; source = source; after_close = ends_delimiter (front a.before) }
held_with (Some h) text source a = record { text = h.text ++ text; source = both h.source source; after_close = h.after_close }

-- a whole stretch, after its gap
abbrev pub stretch_on : Setting → Manner → Held → Option EventView → Path → Page → Site
stretch_on s m h next path p =
    let here = gap (Leaf (Text h.text)) path (record p { held = None }) in
    record { path = widened (length (chars h.text)) path; page = with_last Inline (written path (stretch_text s m h next path here) here) }

-- a text; it is held while another one follows
abbrev pub text_on : Setting → Manner → List ℕ → Option (List ℕ) → Around → Path → Page → Site
text_on s m text source a path p =
    let h = held_with p.held text source a in
    if and_is is_text (front a.after) then record { path = path; page = record p { held = Some h } }
    else stretch_on s m h (following a) path p

-- whether a container is a bullet list with hyphens as markers (CommonMark, section 5.2)
abbrev pub is_bullet_hyphen : OpeningChoice → Bool
is_bullet_hyphen (Listed c) = is_none c.number && (c.token == hyphen)
is_bullet_hyphen c = false

-- whether a bullet list with hyphens is open, at any depth (CommonMark, section 5.2)
abbrev pub is_in_hyphen_list : Path → Bool
is_in_hyphen_list [] = false
is_in_hyphen_list (l ∷ path) = is_bullet_hyphen l.content || is_in_hyphen_list path

-- a thematic break (CommonMark, section 4.1): asterisks where hyphens would underline a heading or be a list's marker
abbrev pub rule_text : Last → Path → List ℕ
rule_text last path = if is_inline last || (is_item_opening last && is_in_hyphen_list path) then codes "***" else codes "---"

-- a thematic break, after its gap (CommonMark, section 4.1)
abbrev pub rule_on : Setting → Path → Page → Site
rule_on s path p =
    let here = gap (Leaf Rule) path p in
    record { path = path; page = with_owed (max s.options.newlines_after_rule 1) (with_last Other (written path (rule_text here.trail.last path) here)) }

-- HTML, which has no gap
abbrev pub html_on : List ℕ → Path → Page → Site
html_on text path p = record { path = path; page = with_last Other (written path text p) }

-- an inline leaf with this text
abbrev pub inline_on : LeafView → List ℕ → Path → Page → Site
inline_on l text path p = record { path = path; page = with_last Inline (written path text (gap (Leaf l) path p)) }

-- a code span makes its cell wider by its text and two backticks
abbrev pub code_on : List ℕ → Path → Page → Site
code_on text path p =
    record (inline_on (Code text) (code_span (is_in is_table path) text) path p) { path = widened (length (chars text) + 2) path }

-- a leaf; `a` says where it is
abbrev pub leaf_text : Setting → Manner → LeafView → Option (List ℕ) → Around → Path → Page → Site
leaf_text s m (Text t) source a path p = text_on s m t source a path p
leaf_text s m (Code t) source a path p = code_on t path p
leaf_text s m (InlineMath t) source a path p = inline_on (InlineMath t) (inline_math (is_in is_table path) t) path p
leaf_text s m (DisplayMath t) source a path p = inline_on (DisplayMath t) (display_math (is_in is_table path) t) path p
leaf_text s m (Html t) source a path p = html_on t path p
leaf_text s m (InlineHtml t) source a path p = inline_on (InlineHtml t) t path p
leaf_text s m (FootnoteReference label) source a path p = inline_on (FootnoteReference label) (footnote_reference label) path p
leaf_text s m SoftBreak source a path p = inline_on SoftBreak (codes "\n") path p
leaf_text s m HardBreak source a path p = inline_on HardBreak (codes "  \n") path p
leaf_text s m Rule source a path p = rule_on s path p
leaf_text s m (TaskListMarker checked) source a path p = inline_on (TaskListMarker checked) (task_marker checked) path p

-- the same of a leaf with its source text
unfoldable pub leaf_on : Setting → Manner → SourcedLeaf → Around → Path → Page → Site
leaf_on s m l a path p = leaf_text s m l.leaf l.source a path p
