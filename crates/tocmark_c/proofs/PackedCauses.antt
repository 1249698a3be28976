-- Why packed events are not written, from what the library says.
use Rattle.std.proofs.Common.{◌≡◌, ℕ, List, sym, subst}
use Rattle.tocmark_event.specs.Options.{OptionsView}
use Rattle.tocmark_event.specs.Validation.{fault_of}
use Rattle.tocmark_event.specs.declared.options.Error.TheVariants as error
use Rattle.tocmark_documents.specs.Interchange.{AreOptions, IsOptionsCause}
use Rattle.tocmark_documents.specs.PackedWriting.{IsPackedCause}
use Rattle.tocmark_documents.specs.declared.fault.OptionsTextError.{OptionsTextError}
use Rattle.tocmark_documents.specs.declared.fault.OptionsTextError.TheVariants as options_error
use Rattle.tocmark_documents.specs.declared.packed_writing.PackedWriteError.{PackedWriteError}
use Rattle.tocmark_documents.specs.declared.packed_writing.PackedWriteError.TheVariants as packed_error
use Rattle.tocmark_c.specs.Calls.{flags_of, has_source}
use Rattle.tocmark_c.specs.Codes.{options_cause, packed_cause}
use Rattle.tocmark_c.specs.PackedCalls.{IsPackedWriteCause}
use Rattle.tocmark_c.specs.declared.cause.Cause.{Cause}

packed_by_error : (bits : ℕ) (source options packed : List ℕ) (o : OptionsView) → AreOptions options o → (e : PackedWriteError) → IsPackedCause o (flags_of bits) (has_source source) source packed e → IsPackedWriteCause bits source options packed (packed_cause e)
packed_by_error bits source options packed o are (packed_error.NotPacked n) h = (n, h)
packed_by_error bits source options packed o are (packed_error.Refused p (error.FormatFailed f)) h = absurd h.2.comes
packed_by_error bits source options packed o are (packed_error.Refused p error.UnexpectedEvent) h = (o, are, h.0, h.1, h.2.comes)
packed_by_error bits source options packed o are (packed_error.Refused p error.Unrepresentable) h = (o, are, h.0, h.1, h.2.comes)
packed_by_error bits source options packed o are (packed_error.Refused p error.InvalidSourceRange) h = (o, are, h.0, h.1, h.2.comes)
packed_by_error bits source options packed o are (packed_error.Refused p error.Finished) h = (o, are, h.0, h.1, h.2.comes)
packed_by_error bits source options packed o are (packed_error.Refused p error.Failed) h = (o, are, h.0, h.1, h.2.comes)
packed_by_error bits source options packed o are (packed_error.Refused p error.OutOfMemory) h = absurd h.2.comes
packed_by_error bits source options packed o are packed_error.OutOfMemory h = tt

options_by_error : (bits : ℕ) (source options packed : List ℕ) (e : OptionsTextError) → IsOptionsCause (flags_of bits) options e → IsPackedWriteCause bits source options packed (options_cause e)
options_by_error bits source options packed (options_error.NotJson x) h = h
options_by_error bits source options packed (options_error.NotOptions line) h = (h.0, h.1, h.2)
options_by_error bits source options packed (options_error.Invalid x) h = (h.0, h.1, fault_of x, h.2)
options_by_error bits source options packed options_error.OutOfMemory h = tt

-- the same of the cause that is told
pub packed_told : (bits : ℕ) (source options packed : List ℕ) (o : OptionsView) (e : PackedWriteError) (cause : Cause) → AreOptions options o → cause ≡ packed_cause e → IsPackedCause o (flags_of bits) (has_source source) source packed e → IsPackedWriteCause bits source options packed cause
packed_told bits source options packed o e cause are is h =
    subst (λ (c : Cause). IsPackedWriteCause bits source options packed c) (sym is) (packed_by_error bits source options packed o are e h)

pub packed_options_told : (bits : ℕ) (source options packed : List ℕ) (e : OptionsTextError) (cause : Cause) → cause ≡ options_cause e → IsOptionsCause (flags_of bits) options e → IsPackedWriteCause bits source options packed cause
packed_options_told bits source options packed e cause is h =
    subst (λ (c : Cause). IsPackedWriteCause bits source options packed c) (sym is) (options_by_error bits source options packed e h)
