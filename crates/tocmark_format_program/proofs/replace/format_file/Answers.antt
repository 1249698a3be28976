use Rattle.std.proofs.Common.{◌≡◌, ◌≢◌, ◌↔◌, ℕ, Bool, true, false, List, Option, None, Some, IfSome, IsSome, IsTrue, MatchOption, String, string_bytes, refl, subst}
use Rattle.std.specs.Global.{Global}
use Rattle.tocmark_event.specs.Reading.{ReadingView}
use Rattle.tocmark_event.specs.declared.event.ParserOptions.{ParserOptions}
use Rattle.tocmark_judge.specs.Letters.{letters}
use Rattle.tocmark_judge.specs.LinkDefinitions.{DefinedLink}
use Rattle.tocmark_judge.specs.Marks.{after_mark, has_mark}
use Rattle.tocmark_judge.specs.Shape.{HaveSameShapes}
use Rattle.tocmark_files.specs.Replaced.{IsGiven, steps_on}
use Rattle.tocmark_files.specs.declared.place.OpenFile.{OpenFile}
use Rattle.tocmark_settings.specs.AlsoRead.{also_flags}
use Rattle.tocmark_settings.specs.declared.settings.Settings.{Settings}
use Rattle.tocmark_format_program.specs.Formats.{IsFormattedBy, SaysTheSame}
use Rattle.tocmark_format_program.proofs.replace.format_file.Goals as goal

-- a decision that is carried out formats the file under the settings that it has, if it is said to change it
formatted : (settings s : Settings) (reading : List ℕ → ParserOptions → ReadingView) (definitions : List ℕ → ParserOptions → List DefinedLink) (syncs is_changed : Bool) (before after : OpenFile) (old : List ℕ) (new : Option (String Global)) → s ≡ settings
    → (IsTrue is_changed ↔ IsSome new)
    → IfSome new (λ n. SaysTheSame s.style.wrap (λ t. reading t s.flags) old (string_bytes n))
    → IfSome new (λ n. string_bytes n ≢ old)
    → IfSome new (λ n. definitions (after_mark (string_bytes n)) settings.flags ≡ definitions (after_mark old) settings.flags)
    → IfSome new (λ n. HaveSameShapes reading (also_flags settings.also) (after_mark (string_bytes n)) (after_mark old))
    → IfSome new (λ n. has_mark (string_bytes n) ≡ has_mark old)
    → IfSome new (λ n. letters (string_bytes n) ≡ letters old)
    → MatchOption new (steps_on after ≡ steps_on before) (λ n. IsGiven old (string_bytes n) syncs before after)
    → IsFormattedBy settings reading definitions syncs is_changed before after
formatted settings s reading definitions syncs false before after old None asked counts same changed linked also marked lettered given = given
formatted settings s reading definitions syncs true before after old None asked counts same changed linked also marked lettered given = absurd (let is = counts.0 refl in cc)
formatted settings s reading definitions syncs false before after old (Some n) asked counts same changed linked also marked lettered given = absurd (let is = counts.1 refl in cc)
formatted settings s reading definitions syncs true before after old (Some n) asked counts same changed linked also marked lettered given = record {
  old = old;
  new = string_bytes n;
  form = record {
    same = subst (λ (v : Settings). SaysTheSame v.style.wrap (λ t. reading t v.flags) old (string_bytes n)) asked same;
    same_links = linked;
    same_blocks = also;
    same_mark = marked;
    same_letters = lettered;
    counted = ((λ is. changed), (λ is. refl));
  };
  given = given;
}

pub returns-in-Ok-clause-given : goal.returns-in-Ok-clause-given
returns-in-Ok-clause-given g c =
    let d = c.in_ok-decision in
    let ask = d.ensures in
    formatted c.args.target.now.settings d.decision.settings (g.R.Reader.reading c.args.reader.now) (g.R.PartReader.definitions c.args.reader.now) c.args.syncs c.passed_by.result.outcome.is_changed c.args.file.now c.replace_text.new.file
    (string_bytes d.decision.old) d.decision.new ask.asked c.passed_by.ensures.changed ask.same ask.changed ask.definitions ask.also ask.mark ask.letters c.in-Ok.ensures.given
