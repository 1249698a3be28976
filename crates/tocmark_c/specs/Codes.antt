-- The codes of what goes wrong, and their texts.
use Rattle.std.specs.Prelude.{◌==◌, if◌then◌else◌, ℕ, ℤ, pos, negsuc, List, int_lt, unsigned_abs, codes}
use Rattle.tocmark_event.specs.declared.options.Error.{Error}
use Rattle.tocmark_event.specs.declared.options.Error.TheVariants as error
use Rattle.tocmark_definitions.specs.declared.fault.Fault.{Fault}
use Rattle.tocmark_definitions.specs.declared.fault.Fault.TheVariants as fault
use Rattle.tocmark_documents.specs.declared.fault.DocumentError.{DocumentError}
use Rattle.tocmark_documents.specs.declared.fault.DocumentError.TheVariants as document_error
use Rattle.tocmark_documents.specs.declared.fault.OptionsTextError.{OptionsTextError}
use Rattle.tocmark_documents.specs.declared.fault.OptionsTextError.TheVariants as options_error
use Rattle.tocmark_documents.specs.declared.fault.RewriteError.{RewriteError}
use Rattle.tocmark_documents.specs.declared.fault.RewriteError.TheVariants as rewrite_error
use Rattle.tocmark_documents.specs.declared.fault.WriteError.{WriteError}
use Rattle.tocmark_documents.specs.declared.fault.WriteError.TheVariants as write_error
use Rattle.tocmark_documents.specs.declared.packed_writing.PackedWriteError.{PackedWriteError}
use Rattle.tocmark_documents.specs.declared.packed_writing.PackedWriteError.TheVariants as packed_error
use Rattle.tocmark_c.specs.declared.cause.Cause.{Cause}
use Rattle.tocmark_c.specs.declared.cause.Cause.TheVariants as cause

-- the number of a cause, in their order from 0
abbrev pub order_of : Cause → ℕ
order_of cause.OutOfMemory = 0
order_of cause.NotUtf8 = 1
order_of cause.SourceNotUtf8 = 2
order_of cause.OptionsNotUtf8 = 3
order_of cause.NotJson = 4
order_of cause.NotEvents = 5
order_of cause.OptionsNotJson = 6
order_of cause.NotOptions = 7
order_of cause.InvalidOptions = 8
order_of cause.UnexpectedEvent = 9
order_of cause.Unrepresentable = 10
order_of cause.InvalidSourceRange = 11
order_of cause.Finished = 12
order_of cause.Failed = 13
order_of cause.InvalidStyle = 14
order_of cause.Changed = 15
order_of cause.TooLong = 16
order_of cause.NotDefinitions = 17
order_of cause.NoDefinition = 18

-- the code of a cause: -1 and below
abbrev pub code_of : Cause → ℤ
code_of c = negsuc (order_of c)

-- the cause that an error of the writer is
abbrev pub refusal_cause : Error → Cause
refusal_cause (error.FormatFailed f) = cause.OutOfMemory
refusal_cause error.UnexpectedEvent = cause.UnexpectedEvent
refusal_cause error.Unrepresentable = cause.Unrepresentable
refusal_cause error.InvalidSourceRange = cause.InvalidSourceRange
refusal_cause error.Finished = cause.Finished
refusal_cause error.Failed = cause.Failed
refusal_cause error.OutOfMemory = cause.OutOfMemory

-- the cause that events are not written
abbrev pub write_cause : WriteError → Cause
write_cause (write_error.NotJson e) = cause.NotJson
write_cause (write_error.NotEvents e) = cause.NotEvents
write_cause (write_error.Refused p e) = refusal_cause e
write_cause write_error.OutOfMemory = cause.OutOfMemory

-- the cause that packed events are not written
abbrev pub packed_cause : PackedWriteError → Cause
packed_cause (packed_error.NotPacked n) = cause.NotEvents
packed_cause (packed_error.Refused p e) = refusal_cause e
packed_cause packed_error.OutOfMemory = cause.OutOfMemory

-- the cause that events are not written as a document that says the same
abbrev pub document_cause : DocumentError → Cause
document_cause (document_error.Write e) = write_cause e
document_cause (document_error.Changed n) = cause.Changed

-- the cause that a source is not rewritten
abbrev pub rewriting_cause : RewriteError → Cause
rewriting_cause (rewrite_error.NotJson e) = cause.NotJson
rewriting_cause (rewrite_error.NotEvents e) = cause.NotEvents
rewriting_cause (rewrite_error.Refused p e) = refusal_cause e
rewriting_cause (rewrite_error.ReadOtherwise p) = cause.Changed
rewriting_cause rewrite_error.OutOfMemory = cause.OutOfMemory

-- the cause that definitions are not redefined
abbrev pub redefining_cause : Fault → Cause
redefining_cause (fault.NotJson e) = cause.NotJson
redefining_cause fault.NotAList = cause.NotDefinitions
redefining_cause (fault.Wanted index key wanted) = cause.NotDefinitions
redefining_cause (fault.NoDefinition index) = cause.NoDefinition
redefining_cause (fault.Misread line) = cause.Changed
redefining_cause fault.OutOfMemory = cause.OutOfMemory

-- the cause that a text has no options
abbrev pub options_cause : OptionsTextError → Cause
options_cause (options_error.NotJson e) = cause.OptionsNotJson
options_cause (options_error.NotOptions line) = cause.NotOptions
options_cause (options_error.Invalid e) = cause.InvalidOptions
options_cause options_error.OutOfMemory = cause.OutOfMemory

-- the number of a negative code, and 0 for what is none
abbrev pub number_of : ℤ → ℕ
number_of code = if int_lt code (pos 0) then unsigned_abs code else 0

-- what a code of this number means
abbrev pub error_text : ℕ → List ℕ
error_text n =
    if n == 1 then codes "out of memory"
    else if n == 2 then codes "the text is not UTF-8"
    else if n == 3 then codes "the source is not UTF-8"
    else if n == 4 then codes "the options are not UTF-8"
    else if n == 5 then codes "the text is no JSON"
    else if n == 6 then codes "the JSON is not that of events"
    else if n == 7 then codes "the options are no JSON"
    else if n == 8 then codes "the JSON of the options is not that of options"
    else if n == 9 then codes "these options and flags cannot be written under"
    else if n == 10 then codes "an event stands where it cannot"
    else if n == 11 then codes "no spelling of a block of events reads back"
    else if n == 12 then codes "a range is none of the source"
    else if n == 13 then codes "events after the end"
    else if n == 14 then codes "a call after one that was refused"
    else if n == 15 then codes "the style is too small, or has a number that means nothing"
    else if n == 16 then codes "the document would say something else than the events"
    else if n == 17 then codes "the events are too long for Python"
    else if n == 18 then codes "the JSON is not that of definitions of links"
    else if n == 19 then codes "a definition is none of the source"
    else codes "no error of tocmark"
