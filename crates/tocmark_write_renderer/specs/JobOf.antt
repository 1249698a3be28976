-- What is asked of the writer of a unit, as plain values.
use Rattle.std.specs.Prelude.{ℕ, List, Option}
use Rattle.std.specs.Option.{option_map}
use Rattle.tocmark_event.specs.Options.{options_view, OptionsView}
use Rattle.tocmark_event.specs.Reading.{ReadingView}
use Rattle.tocmark_event.specs.declared.event.flags.ParserOptions.{ParserOptions}
use Rattle.tocmark_spelling.specs.Plan as plan
use Rattle.tocmark_spelling.specs.Plan.{Setting}
use Rattle.tocmark_spelling.specs.declared.plan.TextSpelling.{TextSpelling}
use Rattle.tocmark_spelling.specs.PlanOf.{setting_of, manner_of}
use Rattle.tocmark_write_renderer.specs.declared.job.Job.{Job}
use Rattle.tocmark_write_renderer.specs.declared.job.Manner.{Manner}

-- what a reader finds in a text, under these flags
abbrev pub Reading : Type 0
Reading = List ℕ → ParserOptions → ReadingView

-- the options of a job
abbrev pub options_in : Job → OptionsView
options_in job = options_view job.options.now

-- the label that is reserved for lists, if there is one
abbrev pub label_in : Job → Option (List ℕ)
label_in job = option_map (λ l. l.now) job.label

-- a job with this reader
abbrev pub setting_in : Job → Reading → Setting
setting_in job reading = setting_of (options_in job) job.flags reading (label_in job)

-- how one spelling is written
abbrev pub manner_view : Manner → plan.Manner
manner_view manner = manner_of manner.delimiters manner.source

-- how its texts are written
abbrev pub text_in : Manner → TextSpelling
text_in manner = manner.delimiters.text
