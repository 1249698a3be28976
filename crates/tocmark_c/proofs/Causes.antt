-- The causes of the library's errors are those of the codes.
use Rattle.std.proofs.Common.{◌≡◌, ℕ, List, sym, subst}
use Rattle.tocmark_event.specs.Options.{OptionsView}
use Rattle.tocmark_event.specs.Validation.{fault_of}
use Rattle.tocmark_event.specs.declared.options.Error.TheVariants as error
use Rattle.tocmark_documents.specs.Interchange.{AreOptions, IsCause, IsOptionsCause}
use Rattle.tocmark_documents.specs.declared.fault.OptionsTextError.{OptionsTextError}
use Rattle.tocmark_documents.specs.declared.fault.OptionsTextError.TheVariants as options_error
use Rattle.tocmark_documents.specs.declared.fault.WriteError.{WriteError}
use Rattle.tocmark_documents.specs.declared.fault.WriteError.TheVariants as write_error
use Rattle.tocmark_c.specs.declared.cause.Cause.{Cause}
use Rattle.tocmark_c.specs.declared.cause.Cause.TheVariants as cause
use Rattle.tocmark_documents.specs.Document.{IsDocumentCause}
use Rattle.tocmark_documents.specs.declared.fault.DocumentError.{DocumentError}
use Rattle.tocmark_documents.specs.declared.fault.DocumentError.TheVariants as document_error
use Rattle.tocmark_c.specs.Calls.{IsDocumentCauseOf, IsWriteCause, flags_of, has_source}
use Rattle.tocmark_c.specs.Codes.{document_cause, options_cause, write_cause}

-- why events are not written
write_by_error : (bits : ℕ) (source options json : List ℕ) (o : OptionsView) → AreOptions options o → (e : WriteError) → IsCause o (flags_of bits) (has_source source) source json e → IsWriteCause bits source options json (write_cause e)
write_by_error bits source options json o are (write_error.NotJson x) h = h
write_by_error bits source options json o are (write_error.NotEvents x) h = (h.0, h.1, x, h.2)
write_by_error bits source options json o are (write_error.Refused p (error.FormatFailed f)) h = absurd h.2.comes
write_by_error bits source options json o are (write_error.Refused p error.UnexpectedEvent) h = (o, are, h.0, h.1, h.2.comes)
write_by_error bits source options json o are (write_error.Refused p error.Unrepresentable) h = (o, are, h.0, h.1, h.2.comes)
write_by_error bits source options json o are (write_error.Refused p error.InvalidSourceRange) h = (o, are, h.0, h.1, h.2.comes)
write_by_error bits source options json o are (write_error.Refused p error.Finished) h = (o, are, h.0, h.1, h.2.comes)
write_by_error bits source options json o are (write_error.Refused p error.Failed) h = (o, are, h.0, h.1, h.2.comes)
write_by_error bits source options json o are (write_error.Refused p error.OutOfMemory) h = absurd h.2.comes
write_by_error bits source options json o are write_error.OutOfMemory h = tt

-- why a text has no options
options_by_error : (bits : ℕ) (source options json : List ℕ) (e : OptionsTextError) → IsOptionsCause (flags_of bits) options e → IsWriteCause bits source options json (options_cause e)
options_by_error bits source options json (options_error.NotJson x) h = h
options_by_error bits source options json (options_error.NotOptions line) h = (h.0, h.1, h.2)
options_by_error bits source options json (options_error.Invalid x) h = (h.0, h.1, fault_of x, h.2)
options_by_error bits source options json options_error.OutOfMemory h = tt

-- the same of the cause that is told
pub write_told : (bits : ℕ) (source options json : List ℕ) (o : OptionsView) (e : WriteError) (cause : Cause) → AreOptions options o → cause ≡ write_cause e → IsCause o (flags_of bits) (has_source source) source json e → IsWriteCause bits source options json cause
write_told bits source options json o e cause are is h =
    subst (λ (c : Cause). IsWriteCause bits source options json c) (sym is) (write_by_error bits source options json o are e h)

pub options_told : (bits : ℕ) (source options json : List ℕ) (e : OptionsTextError) (cause : Cause) → cause ≡ options_cause e → IsOptionsCause (flags_of bits) options e → IsWriteCause bits source options json cause
options_told bits source options json e cause is h =
    subst (λ (c : Cause). IsWriteCause bits source options json c) (sym is) (options_by_error bits source options json e h)

-- what events are not written for keeps them from being a document, too
pub document_too : (bits : ℕ) (source options json : List ℕ) (c : Cause) → IsWriteCause bits source options json c → IsDocumentCauseOf bits source options json c
document_too bits source options json cause.OutOfMemory h = h
document_too bits source options json cause.NotUtf8 h = h
document_too bits source options json cause.SourceNotUtf8 h = h
document_too bits source options json cause.OptionsNotUtf8 h = h
document_too bits source options json cause.NotJson h = h
document_too bits source options json cause.NotEvents h = h
document_too bits source options json cause.OptionsNotJson h = h
document_too bits source options json cause.NotOptions h = h
document_too bits source options json cause.InvalidOptions h = h
document_too bits source options json cause.UnexpectedEvent h = h
document_too bits source options json cause.Unrepresentable h = h
document_too bits source options json cause.InvalidSourceRange h = h
document_too bits source options json cause.Finished h = h
document_too bits source options json cause.Failed h = h
document_too bits source options json cause.InvalidStyle h = absurd h
document_too bits source options json cause.Changed h = absurd h
document_too bits source options json cause.TooLong h = absurd h
document_too bits source options json cause.NotDefinitions h = absurd h
document_too bits source options json cause.NoDefinition h = absurd h

-- why events are no document that says the same
document_by_error : (bits : ℕ) (source options json : List ℕ) (o : OptionsView) → AreOptions options o → (e : DocumentError) → IsDocumentCause o (flags_of bits) (has_source source) source json e → IsDocumentCauseOf bits source options json (document_cause e)
document_by_error bits source options json o are (document_error.Write e) h =
    document_too bits source options json (write_cause e) (write_by_error bits source options json o are e h)
document_by_error bits source options json o are (document_error.Changed n) h = (o, are, n, h)

-- the same of the cause that is told
pub document_told : (bits : ℕ) (source options json : List ℕ) (o : OptionsView) (e : DocumentError) (cause : Cause) → AreOptions options o → cause ≡ document_cause e → IsDocumentCause o (flags_of bits) (has_source source) source json e → IsDocumentCauseOf bits source options json cause
document_told bits source options json o e cause are is h =
    subst (λ (c : Cause). IsDocumentCauseOf bits source options json c) (sym is) (document_by_error bits source options json o are e h)

pub options_told_of_document : (bits : ℕ) (source options json : List ℕ) (e : OptionsTextError) (cause : Cause) → cause ≡ options_cause e → IsOptionsCause (flags_of bits) options e → IsDocumentCauseOf bits source options json cause
options_told_of_document bits source options json e cause is h =
    document_too bits source options json cause (options_told bits source options json e cause is h)
