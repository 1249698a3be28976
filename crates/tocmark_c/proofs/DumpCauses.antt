-- Why events that Python gives are not written, from what the library says.
use Rattle.std.proofs.Common.{◌≡◌, ℕ, List, sym, subst}
use Rattle.tocmark_event.specs.Options.{OptionsView}
use Rattle.tocmark_event.specs.Validation.{fault_of}
use Rattle.tocmark_event.specs.declared.options.Error.TheVariants as error
use Rattle.tocmark_documents.specs.Interchange.{AreOptions, IsOptionsCause}
use Rattle.tocmark_documents.specs.MarshalWriting.{IsDumpCause}
use Rattle.tocmark_documents.specs.declared.fault.OptionsTextError.{OptionsTextError}
use Rattle.tocmark_documents.specs.declared.fault.OptionsTextError.TheVariants as options_error
use Rattle.tocmark_documents.specs.declared.fault.WriteError.{WriteError}
use Rattle.tocmark_documents.specs.declared.fault.WriteError.TheVariants as write_error
use Rattle.tocmark_c.specs.Calls.{flags_of, has_source}
use Rattle.tocmark_c.specs.Codes.{options_cause, write_cause}
use Rattle.tocmark_c.specs.MarshalWriting.{IsDumpWriteCause}
use Rattle.tocmark_c.specs.declared.cause.Cause.{Cause}

dump_by_error : (bits : ℕ) (source options bytes : List ℕ) (o : OptionsView) → AreOptions options o → (e : WriteError) → IsDumpCause o (flags_of bits) (has_source source) source bytes e → IsDumpWriteCause bits source options bytes (write_cause e)
dump_by_error bits source options bytes o are (write_error.NotJson x) h = absurd h
dump_by_error bits source options bytes o are (write_error.NotEvents x) h = (x, h)
dump_by_error bits source options bytes o are (write_error.Refused p (error.FormatFailed f)) h = absurd h.2.comes
dump_by_error bits source options bytes o are (write_error.Refused p error.UnexpectedEvent) h = (o, are, h.0, h.1, h.2.comes)
dump_by_error bits source options bytes o are (write_error.Refused p error.Unrepresentable) h = (o, are, h.0, h.1, h.2.comes)
dump_by_error bits source options bytes o are (write_error.Refused p error.InvalidSourceRange) h = (o, are, h.0, h.1, h.2.comes)
dump_by_error bits source options bytes o are (write_error.Refused p error.Finished) h = (o, are, h.0, h.1, h.2.comes)
dump_by_error bits source options bytes o are (write_error.Refused p error.Failed) h = (o, are, h.0, h.1, h.2.comes)
dump_by_error bits source options bytes o are (write_error.Refused p error.OutOfMemory) h = absurd h.2.comes
dump_by_error bits source options bytes o are write_error.OutOfMemory h = tt

options_by_error : (bits : ℕ) (source options bytes : List ℕ) (e : OptionsTextError) → IsOptionsCause (flags_of bits) options e → IsDumpWriteCause bits source options bytes (options_cause e)
options_by_error bits source options bytes (options_error.NotJson x) h = h
options_by_error bits source options bytes (options_error.NotOptions line) h = (h.0, h.1, h.2)
options_by_error bits source options bytes (options_error.Invalid x) h = (h.0, h.1, fault_of x, h.2)
options_by_error bits source options bytes options_error.OutOfMemory h = tt

-- the same of the cause that is told
pub dump_told : (bits : ℕ) (source options bytes : List ℕ) (o : OptionsView) (e : WriteError) (cause : Cause) → AreOptions options o → cause ≡ write_cause e → IsDumpCause o (flags_of bits) (has_source source) source bytes e → IsDumpWriteCause bits source options bytes cause
dump_told bits source options bytes o e cause are is h =
    subst (λ (c : Cause). IsDumpWriteCause bits source options bytes c) (sym is) (dump_by_error bits source options bytes o are e h)

pub dump_options_told : (bits : ℕ) (source options bytes : List ℕ) (e : OptionsTextError) (cause : Cause) → cause ≡ options_cause e → IsOptionsCause (flags_of bits) options e → IsDumpWriteCause bits source options bytes cause
dump_options_told bits source options bytes e cause is h =
    subst (λ (c : Cause). IsDumpWriteCause bits source options bytes c) (sym is) (options_by_error bits source options bytes e h)
