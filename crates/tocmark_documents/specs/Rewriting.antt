-- When a document is rewritten to the events of a JSON text, and why it isn't.
use Rattle.std.specs.Prelude.{◌≡◌, ◌++◌, if◌then◌else◌, ℕ, List, [], string_bytes}
use Rattle.tocmark_event.specs.Reading.{ReadingView}
use Rattle.tocmark_event.specs.View.{EventView}
use Rattle.tocmark_event.specs.declared.event.flags.ParserOptions.{ParserOptions}
use Rattle.tocmark_documents.specs.Document.{without_range}
use Rattle.tocmark_documents.specs.Interchange.{IsNoEvents, IsTextOf}
use Rattle.tocmark_documents.specs.declared.fault.RewriteError.{RewriteError}
use Rattle.tocmark_documents.specs.declared.fault.RewriteError.TheVariants as rewrite_error
use Rattle.tocmark_documents.specs.declared.fault.WriteError.TheVariants as write_error
use Rattle.tocmark_judge.specs.Marks.{after_mark, has_mark, mark}
use Rattle.tocmark_read_scan.specs.declared.syntax.Names.TheVariants.{All}
use Rattle.tocmark_reader.specs.Flags.{syntax_of}
use Rattle.tocmark_reader.specs.Reading.{reading_of}
use Rattle.tocmark_rewrite.specs.Edited.{IsChanged, IsTriedInVain, IsWrittenFor}
use Rattle.tocmark_rewrite.specs.declared.answer.Rewritten.{Rewritten}
use Rattle.tocmark_state.specs.Ranges.{Pair}

-- how the reader of extensions reads under these flags
abbrev pub reading_under : ParserOptions → List ℕ → ReadingView
reading_under flags text = reading_of (syntax_of All flags) text

-- the byte order mark at the front of a text, if it has one
abbrev pub mark_of : List ℕ → List ℕ
mark_of text = if has_mark text then mark else []

-- the answer for what follows the mark of a source, with this mark in front of its text
pub record IsAfterMark (source : List ℕ) (rest answer : Rewritten) : Type 0 where
  pub text : string_bytes answer.text ≡ mark_of source ++ string_bytes rest.text
  pub parts : answer.parts ≡ rest.parts
  pub trees : answer.trees ≡ rest.trees

-- what follows the mark of a source is rewritten to these events, and the mark stays
pub record IsWrittenAfterMark (reading : List ℕ → ReadingView) (source : List ℕ) (given : List EventView) (answer : Rewritten) : Type 0 where
  pub rest : Rewritten
  pub is_written : IsWrittenFor reading (after_mark source) given rest
  pub is_marked : IsAfterMark source rest answer

-- the source is rewritten to the events that a text has as JSON, whatever their ranges
pub record IsRewrittenFrom (flags : ParserOptions) (source input : List ℕ) (answer : Rewritten) : Type 0 where
  pub pairs : List Pair
  pub is_text : IsTextOf input pairs
  pub is_written : IsWrittenAfterMark (reading_under flags) source (without_range pairs) answer

-- the text of such an answer
pub record IsRewrittenText (flags : ParserOptions) (source input output : List ℕ) : Type 0 where
  pub answer : Rewritten
  pub is_rewritten : IsRewrittenFrom flags source input answer
  pub is_its_text : output ≡ string_bytes answer.text

-- the events that were given aren't those of the source, and a text was tried that doesn't say what they do
abbrev pub AreTriedInVain : (List ℕ → ReadingView) → List ℕ → List EventView → Type 0
AreTriedInVain reading source given = IsChanged reading source given × IsTriedInVain reading (reading source).defined source given

-- why a source isn't rewritten to these events
abbrev pub IsOfBlock : (List ℕ → ReadingView) → List ℕ → List EventView → RewriteError → Type 0
IsOfBlock reading source given (rewrite_error.NotJson e) = ⊥
IsOfBlock reading source given (rewrite_error.NotEvents e) = ⊥
IsOfBlock reading source given (rewrite_error.Refused p e) = IsChanged reading source given
IsOfBlock reading source given (rewrite_error.ReadOtherwise p) = AreTriedInVain reading source given
IsOfBlock reading source given rewrite_error.OutOfMemory = Unit {0}

-- the events that a text has as JSON aren't those of what follows the mark of the source
abbrev pub IsEdited : ParserOptions → List ℕ → List ℕ → Type 0
IsEdited flags source input = (pairs : List Pair) × IsTextOf input pairs × IsChanged (reading_under flags) (after_mark source) (without_range pairs)

-- nor does a text say what they do that was tried
abbrev pub IsEditedInVain : ParserOptions → List ℕ → List ℕ → Type 0
IsEditedInVain flags source input = (pairs : List Pair) × IsTextOf input pairs × AreTriedInVain (reading_under flags) (after_mark source) (without_range pairs)

-- why a document is not rewritten: the text is not the JSON of events, or it is, and they were changed
abbrev pub IsRewriteCause : ParserOptions → List ℕ → List ℕ → RewriteError → Type 0
IsRewriteCause flags source input (rewrite_error.NotJson e) = IsNoEvents input (write_error.NotJson e)
IsRewriteCause flags source input (rewrite_error.NotEvents e) = IsNoEvents input (write_error.NotEvents e)
IsRewriteCause flags source input (rewrite_error.Refused p e) = IsEdited flags source input
IsRewriteCause flags source input (rewrite_error.ReadOtherwise p) = IsEditedInVain flags source input
IsRewriteCause flags source input rewrite_error.OutOfMemory = Unit {0}
