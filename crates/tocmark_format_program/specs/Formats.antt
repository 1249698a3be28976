-- What is written for a text, and for standard input.
use Rattle.std.specs.Prelude.{◌≡◌, ◌≢◌, ◌↔◌, ◌||◌, IsTrue, ℕ, Bool, true, false, List, Option, IfSome, string_bytes}
use Rattle.std.specs.Io.KnownBytes.{Appends}
use Rattle.tocmark_event.specs.declared.event.ParserOptions.{ParserOptions}
use Rattle.tocmark_event.specs.Reading.{ReadingView}
use Rattle.tocmark_judge.specs.Letters.{letters}
use Rattle.tocmark_judge.specs.LinkDefinitions.{DefinedLink}
use Rattle.tocmark_judge.specs.Marks.{after_mark, has_mark}
use Rattle.tocmark_judge.specs.Same.{SaySame}
use Rattle.tocmark_judge.specs.Shape.{HaveSameShapes}
use Rattle.tocmark_print.specs.Fills.{fills}
use Rattle.tocmark_print.specs.declared.style.Wrap.{Wrap}
use Rattle.tocmark_files.specs.Replaced.{IsGiven, steps_on}
use Rattle.tocmark_files.specs.declared.place.OpenFile.{OpenFile}
use Rattle.tocmark_settings.specs.AlsoRead.{also_flags}
use Rattle.tocmark_settings.specs.declared.settings.Settings.{Settings}
use Rattle.tocmark_format_program.specs.declared.arguments.Task.{Task}
use Rattle.tocmark_format_program.specs.declared.decide.Decision.{Decision}
use Rattle.tocmark_format_program.specs.declared.fault.Fault.{Fault}
use Rattle.tocmark_format_program.specs.declared.fault.Fault.TheVariants as fault

-- a reader finds in both texts what counts as the same under a style; a byte order mark at the front is no text
abbrev pub SaysTheSame : Wrap → (List ℕ → ReadingView) → List ℕ → List ℕ → Type 0
SaysTheSame wrap reading old new = SaySame (fills wrap) (reading (after_mark new)) (reading (after_mark old))

-- what a decision writes says the same as the text that was read
abbrev pub KeepsWhatItSays : (List ℕ → ParserOptions → ReadingView) → Decision → Type 0
KeepsWhatItSays reading d = IfSome d.new (λ new. SaysTheSame d.settings.style.wrap
    (λ t. reading t d.settings.flags) (string_bytes d.old) (string_bytes new))

-- a text as it is formatted under these settings: what a reader finds in both, and their letters; and whether it is another one
pub record IsForm (settings : Settings) (reading : List ℕ → ParserOptions → ReadingView)
    (definitions : List ℕ → ParserOptions → List DefinedLink) (is_changed : Bool) (old new : List ℕ) : Type 0 where
  pub same : SaysTheSame settings.style.wrap (λ t. reading t settings.flags) old new
  pub same_links : definitions (after_mark new) settings.flags ≡ definitions (after_mark old) settings.flags
  pub same_blocks : HaveSameShapes reading (also_flags settings.also) (after_mark new) (after_mark old)
  pub same_mark : has_mark new ≡ has_mark old
  pub same_letters : letters new ≡ letters old
  pub counted : IsTrue is_changed ↔ (new ≢ old)

-- the input as it is formatted comes after what the output held
pub record IsFormatted (settings : Settings) (reading : List ℕ → ParserOptions → ReadingView)
    (definitions : List ℕ → ParserOptions → List DefinedLink) (is_changed : Bool) (input : List ℕ)
    (old new : Option (List ℕ)) : Type 0 where
  pub text : List ℕ
  pub form : IsForm settings reading definitions is_changed input text
  pub appended : Appends old new text

-- a file got another text, which is the one that it was found to have, as it is formatted
pub record IsReformatted (settings : Settings) (reading : List ℕ → ParserOptions → ReadingView)
    (definitions : List ℕ → ParserOptions → List DefinedLink) (syncs : Bool) (before after : OpenFile) : Type 0 where
  pub old : List ℕ
  pub new : List ℕ
  pub form : IsForm settings reading definitions true old new
  pub given : IsGiven old new syncs before after

-- a file was formatted under these settings, if it is said to be changed, and else left alone
abbrev pub IsFormattedBy : Settings → (List ℕ → ParserOptions → ReadingView) → (List ℕ → ParserOptions → List DefinedLink) → Bool → Bool → OpenFile → OpenFile → Type 0
IsFormattedBy settings reading definitions syncs true before after = IsReformatted settings reading definitions syncs before after
IsFormattedBy settings reading definitions syncs false before after = steps_on after ≡ steps_on before

-- whether no file is changed
abbrev pub is_dry : Task → Bool
is_dry task = task.terms.checks || task.shows

-- the output could not be written whole
abbrev pub IsOutputFault : Fault → Type 0
IsOutputFault (fault.Read e) = ⊥
IsOutputFault (fault.NotUtf8 line) = ⊥
IsOutputFault fault.Name = ⊥
IsOutputFault fault.NameWithin = ⊥
IsOutputFault fault.NotRegular = ⊥
IsOutputFault fault.NotIncluded = ⊥
IsOutputFault fault.Glob = ⊥
IsOutputFault (fault.Ignores e) = ⊥
IsOutputFault (fault.Replace e) = ⊥
IsOutputFault (fault.Output e) = Unit {0}
IsOutputFault fault.OutOfMemory = ⊥
