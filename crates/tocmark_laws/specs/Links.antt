-- A paragraph with one link round one text, and what is handed for it.
use Rattle.std.specs.Prelude.{◌≡◌, ℕ, false, true, List, [], ◌∷◌, ◌++◌, Some, Ok, codes}
use Rattle.tocmark_event.specs.Options.{OptionsView}
use Rattle.tocmark_event.specs.Reading.{ReadingView}
use Rattle.tocmark_event.specs.View.{Start, End, Leaf, Link, Paragraph, Text}
use Rattle.tocmark_event.specs.declared.event.LinkType.TheVariants as link
use Rattle.tocmark_event.specs.declared.event.TagEnd.TheVariants as end
use Rattle.tocmark_event.specs.declared.event.flags.ParserOptions.{ParserOptions}
use Rattle.tocmark_write_texts.specs.Destination.{inline_closing}
use Rattle.tocmark_write_texts.specs.Escape.{Surroundings, escaped}
use Rattle.tocmark_state.specs.Ranges.{Pair, unranged}
use Rattle.tocmark_state.specs.WorkView.{rendering}
use Rattle.tocmark_state.specs.Walk.{Walk, Done, done, nothing_yet, script}

-- a paragraph with one inline link round one text, without ranges
abbrev pub link_events : List ℕ → List ℕ → List ℕ → List ℕ → List Pair
link_events dest title id text =
    unranged (Start Paragraph) ∷ unranged (Start (Link link.Inline dest title id)) ∷ unranged (Leaf (Text text))
    ∷ unranged (End end.Link) ∷ unranged (End end.Paragraph) ∷ []

-- where the text is: at the front of a link, and before its End
abbrev pub place_in_link : OptionsView → ParserOptions → Surroundings
place_in_link o flags = record {
  flags = flags;
  token = o.emphasis_token;
  literal = false;
  first_encoded = false;
  last_encoded = false;
  at_front = true;
  in_table = false;
  in_heading = false;
  next = Some (End end.Link);
}

-- the link in Markdown (CommonMark, section 6.3)
abbrev pub link_text : OptionsView → ParserOptions → List ℕ → List ℕ → List ℕ → List ℕ
link_text o flags dest title text = codes "[" ++ escaped (place_in_link o flags) text ++ inline_closing dest title

-- the walk that hands exactly this text
abbrev pub one_text_walk : List ℕ → Walk Done
one_text_walk text = record { texts = text ∷ []; outcome = Ok done }

-- exactly the link is handed and nothing is refused: under all flags, over each reader, and under all options that don't
-- ask that plain blocks be checked
abbrev pub LinksAreClosed : Type 0
LinksAreClosed =
    (options : OptionsView) (reading : List ℕ → ParserOptions → ReadingView) (flags : ParserOptions) (source dest title id text : List ℕ) →
    options.check_plain_blocks ≡ false → script (rendering options reading) source (nothing_yet flags) (link_events dest title id text)
    ≡ one_text_walk (link_text options flags dest title text)
