-- What calls that take events with ranges hand to the writer, one after the other.
use Rattle.std.specs.Prelude.{◌≡◌, ℕ, flat_map, Result, Ok, Err, Option, Some, None, List, [], ◌∷◌}
use Rattle.tocmark_event.specs.declared.event.flags.ParserOptions.{ParserOptions}
use Rattle.tocmark_event.specs.declared.options.Error.{Error}
use Rattle.tocmark_spelling.specs.Page.{Reference}
use Rattle.tocmark_spelling.specs.Plan.{Setting}
use Rattle.tocmark_write_labels.specs.Definitions.{definitions_text}
use Rattle.tocmark_write_labels.specs.Document.{DocumentView}
use Rattle.tocmark_write_labels.specs.Ending.{holds_raw_block}
use Rattle.tocmark_write_pending.specs.Units.{waits}
use Rattle.tocmark_choose.specs.Chosen.{chosen}
use Rattle.tocmark_state.specs.Ranges.{Pair}
use Rattle.tocmark_state.specs.Walk.{Done, done, Kept, Rendering, Standing, walk, ended, script, nothing_yet}
use Rattle.tocmark_state.specs.WorkView.{rendering_behind}

-- the texts that each call handed, and the error that ended them, if one did
pub record Answers : Type 0 where
  pub handed : List (List (List ℕ))
  pub error : Option Error

-- the flags stay with the document
abbrev pub keeping : ParserOptions → Result (List ℕ × DocumentView) Error → Result (List ℕ × Kept) Error
keeping flags (Ok x) = Ok (x.0, record { flags = flags; document = x.1 })
keeping flags (Err e) = Err e

-- how units are written in a setting
abbrev pub written_in : Setting → Rendering
written_in s = record {
  choice = λ kept unit next. keeping kept.flags (chosen s kept.document unit next);
  waits = waits;
  definitions = λ kept. definitions_text kept.document.references kept.document.feeds;
  holds_raw = holds_raw_block;
}

-- the texts of a call, and what the calls after it hand, unless it is refused
abbrev pub then_answers : {S : Type 0} → List (List ℕ) → Result S Error → (S → Answers) → Answers
then_answers texts (Ok s) rest = record { handed = texts ∷ (rest s).handed; error = (rest s).error }
then_answers texts (Err e) rest = record { handed = texts ∷ []; error = Some e }

-- no call is left
abbrev pub no_more : Done → Answers
no_more d = record { handed = []; error = None }

-- what calls hand, each with the pairs that it takes, and then the call that ends the events
abbrev pub answers : Rendering → List ℕ → Standing → List (List Pair) → Answers
answers how source s [] = then_answers (ended how s).texts (ended how s).outcome no_more
answers how source s (c ∷ cs) =
    then_answers (walk how source s c).texts (walk how source s c).outcome (λ t. answers how source t cs)

-- an example: a setting, a source, the pairs that each call takes, and what the calls hand
pub record Calls : Type 0 where
  pub setting : Setting
  pub source : List ℕ
  pub calls : List (List Pair)
  pub answers : Answers

-- call by call
abbrev pub IsAnswered : Calls → Type 0
IsAnswered r = answers (written_in r.setting) r.source (nothing_yet r.setting.flags) r.calls ≡ r.answers

-- the end of the events, with this error or without one
abbrev pub ends_with : Option Error → Result Done Error
ends_with None = Ok done
ends_with (Some e) = Err e

-- the same texts and the same end for all events as one list
abbrev pub IsScript : Calls → Type 0
IsScript r =
    script (written_in r.setting) r.source (nothing_yet r.setting.flags) (flat_map (λ c. c) r.calls)
    ≡ record { texts = flat_map (λ c. c) r.answers.handed; outcome = ends_with r.answers.error }

-- each is answered as it says
unfoldable pub AreAnswered : List Calls → Type 0
AreAnswered [] = Unit {0}
AreAnswered (r ∷ rs) = IsAnswered r × IsScript r × AreAnswered rs

-- an example in a document that has these definitions of links already
pub record CallsBehind : Type 0 where
  pub defined : List Reference
  pub calls : Calls

-- how units are written after these definitions in a setting
abbrev pub written_behind : List Reference → Setting → Rendering
written_behind defined s = rendering_behind defined s.options s.reading

-- call by call
abbrev pub IsAnsweredBehind : CallsBehind → Type 0
IsAnsweredBehind r =
    answers (written_behind r.defined r.calls.setting) r.calls.source (nothing_yet r.calls.setting.flags) r.calls.calls ≡ r.calls.answers

-- each is answered as it says
unfoldable pub AreAnsweredBehind : List CallsBehind → Type 0
AreAnsweredBehind [] = Unit {0}
AreAnsweredBehind (r ∷ rs) = IsAnsweredBehind r × AreAnsweredBehind rs
