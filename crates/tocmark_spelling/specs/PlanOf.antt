-- What the fields of a request mean.
use Rattle.std.specs.Prelude.{ℕ, List, Bool, Option, ◌&&◌, if◌then◌else◌}
use Rattle.tocmark_event.specs.View.{EventView}
use Rattle.tocmark_write_texts.specs.Escape.{Surroundings}
use Rattle.tocmark_spelling.specs.Kinds.{is_table, is_heading, is_emphasis_or_strong, starts, and_is}
use Rattle.tocmark_spelling.specs.Page.{Held, Path, Page, with_last, written}
use Rattle.tocmark_spelling.specs.declared.trail.Last.TheVariants.{Inline}
use Rattle.tocmark_spelling.specs.Places.{is_in, is_raw}
use Rattle.tocmark_spelling.specs.Stretch.{is_literal, has_entities, at_front, from_source, or_escaped}
use Rattle.tocmark_event.specs.Options.{OptionsView}
use Rattle.tocmark_event.specs.Reading.{ReadingView}
use Rattle.tocmark_event.specs.declared.event.flags.ParserOptions.{ParserOptions}
use Rattle.tocmark_spelling.specs.Plan.{Setting, Manner}
use Rattle.tocmark_spelling.specs.declared.plan.TextSpelling.{TextSpelling}
use Rattle.tocmark_spelling.specs.declared.plan.Delimiters.{Delimiters}

-- what one spelling is asked for: a layout, a way with texts and two markers, from the source or not
abbrev pub manner_of : Delimiters → Bool → Manner
manner_of d source = record {
  plan = record { layout = d.layout; text = d.text };
  markers = record { emphasis = d.emphasis; strong = d.strong.now };
  source = source;
}

-- what is the same for all spellings of a unit: options, flags, the reader, and the reserved label if any
abbrev pub setting_of : OptionsView → ParserOptions → (List ℕ → ParserOptions → ReadingView) → Option (List ℕ) → Setting
setting_of options flags reading label = record { options = options; flags = flags; reading = reading; label = label }

-- where a stretch is; the definitions' place asks nothing more of the setting and the manner
abbrev pub stretch_place : OptionsView → ParserOptions → TextSpelling → Bool → Option EventView → Path → Page → Surroundings
stretch_place o flags text after_close next path p = record {
  flags = flags;
  token = o.emphasis_token;
  literal = is_literal text;
  first_encoded = has_entities text && after_close;
  last_encoded = has_entities text && and_is (λ e. starts is_emphasis_or_strong e) next;
  at_front = at_front path p;
  in_table = is_in is_table path;
  in_heading = is_in is_heading path;
  next = next;
}

-- the text of a stretch likewise
abbrev pub spelled_stretch : OptionsView → ParserOptions → TextSpelling → Bool → Held → Option EventView → Path → Page → List ℕ
spelled_stretch o flags text source h next path p =
    if is_raw path then h.text
    else or_escaped (from_source source h.source) (stretch_place o flags text h.after_close next path p) h.text

-- the page with a whole stretch written on it
abbrev pub shown : OptionsView → ParserOptions → TextSpelling → Bool → Held → Option EventView → Path → Page → Page
shown o flags text source h next path p = with_last Inline (written path (spelled_stretch o flags text source h next path p) p)
