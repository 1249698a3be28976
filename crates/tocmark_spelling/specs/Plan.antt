-- What a spelling is asked for.
use Rattle.std.specs.Prelude.{ℕ, List, Bool, Option}
use Rattle.tocmark_event.specs.Options.{OptionsView}
use Rattle.tocmark_event.specs.Reading.{ReadingView}
use Rattle.tocmark_event.specs.declared.event.flags.ParserOptions.{ParserOptions}
use Rattle.tocmark_spelling.specs.declared.plan.Layout.{Layout}
use Rattle.tocmark_spelling.specs.declared.plan.TextSpelling.{TextSpelling}

-- how a unit is spelled: how the markers of emphasis are chosen, and how texts are written;
-- the truth values of `Layout.Shared` are, in this order, ends, adjacent and split
pub record Plan : Type 0 where
  pub layout : Layout
  pub text : TextSpelling

-- the marker of Emphasis, a character, and that of Strong, as bytes
pub record Markers : Type 0 where
  pub emphasis : ℕ
  pub strong : List ℕ

-- what is the same for all spellings of a unit; the label is the one that is reserved for lists, if there is one
pub record Setting : Type 0 where
  pub options : OptionsView
  pub flags : ParserOptions
  pub reading : List ℕ → ParserOptions → ReadingView
  pub label : Option (List ℕ)

-- what one spelling is asked for; `source` says whether texts are taken from the source where it is known
pub record Manner : Type 0 where
  pub plan : Plan
  pub markers : Markers
  pub source : Bool
