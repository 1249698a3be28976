-- What rewriting comes to, from what the library says.
use Rattle.std.proofs.Common.{◌≡◌, ℕ, List, None, sym, subst, string_bytes}
use Rattle.tocmark_event.specs.Options.{OptionsView}
use Rattle.tocmark_event.specs.Validation.{fault_of, validation}
use Rattle.tocmark_event.specs.declared.options.Error.TheVariants as error
use Rattle.tocmark_documents.specs.Interchange.{AreOptions, IsOptionsCause}
use Rattle.tocmark_documents.specs.Rewriting.{IsRewriteCause, IsRewrittenFrom}
use Rattle.tocmark_documents.specs.declared.fault.OptionsTextError.{OptionsTextError}
use Rattle.tocmark_documents.specs.declared.fault.OptionsTextError.TheVariants as options_error
use Rattle.tocmark_documents.specs.declared.fault.RewriteError.{RewriteError}
use Rattle.tocmark_documents.specs.declared.fault.RewriteError.TheVariants as rewrite_error
use Rattle.tocmark_rewrite.specs.declared.answer.Rewritten.{Rewritten}
use Rattle.tocmark_c.specs.Calls.{flags_of}
use Rattle.tocmark_c.specs.Codes.{options_cause, rewriting_cause}
use Rattle.tocmark_c.specs.Rewriting.{IsRewriteCauseOf, IsRewrittenOf}
use Rattle.tocmark_c.specs.declared.cause.Cause.{Cause}

-- the text of an answer
pub rewritten_told : (bits : ℕ) (source options json output : List ℕ) (o : OptionsView) (answer : Rewritten) → AreOptions options o → validation o (flags_of bits) ≡ None → IsRewrittenFrom (flags_of bits) source json answer → output ≡ string_bytes answer.text → IsRewrittenOf bits source options json output
rewritten_told bits source options json output o answer are valid is text =
    (o, are, valid, record { answer = answer; is_rewritten = is; is_its_text = text })

-- why a source is not rewritten
rewriting_by_error : (bits : ℕ) (source options json : List ℕ) (e : RewriteError) → IsRewriteCause (flags_of bits) source json e → IsRewriteCauseOf bits source options json (rewriting_cause e)
rewriting_by_error bits source options json (rewrite_error.NotJson x) h = h
rewriting_by_error bits source options json (rewrite_error.NotEvents x) h = (h.0, h.1, x, h.2)
rewriting_by_error bits source options json (rewrite_error.Refused p (error.FormatFailed f)) h = tt
rewriting_by_error bits source options json (rewrite_error.Refused p error.UnexpectedEvent) h = h
rewriting_by_error bits source options json (rewrite_error.Refused p error.Unrepresentable) h = h
rewriting_by_error bits source options json (rewrite_error.Refused p error.InvalidSourceRange) h = h
rewriting_by_error bits source options json (rewrite_error.Refused p error.Finished) h = h
rewriting_by_error bits source options json (rewrite_error.Refused p error.Failed) h = h
rewriting_by_error bits source options json (rewrite_error.Refused p error.OutOfMemory) h = tt
rewriting_by_error bits source options json (rewrite_error.ReadOtherwise p) h = h
rewriting_by_error bits source options json rewrite_error.OutOfMemory h = tt

-- why a text has no options
options_by_error : (bits : ℕ) (source options json : List ℕ) (e : OptionsTextError) → IsOptionsCause (flags_of bits) options e → IsRewriteCauseOf bits source options json (options_cause e)
options_by_error bits source options json (options_error.NotJson x) h = h
options_by_error bits source options json (options_error.NotOptions line) h = (h.0, h.1, h.2)
options_by_error bits source options json (options_error.Invalid x) h = (h.0, h.1, fault_of x, h.2)
options_by_error bits source options json options_error.OutOfMemory h = tt

-- the same of the cause that is told
pub rewriting_told : (bits : ℕ) (source options json : List ℕ) (e : RewriteError) (cause : Cause) → cause ≡ rewriting_cause e → IsRewriteCause (flags_of bits) source json e → IsRewriteCauseOf bits source options json cause
rewriting_told bits source options json e cause is h =
    subst (λ (c : Cause). IsRewriteCauseOf bits source options json c) (sym is) (rewriting_by_error bits source options json e h)

pub options_told : (bits : ℕ) (source options json : List ℕ) (e : OptionsTextError) (cause : Cause) → cause ≡ options_cause e → IsOptionsCause (flags_of bits) options e → IsRewriteCauseOf bits source options json cause
options_told bits source options json e cause is h =
    subst (λ (c : Cause). IsRewriteCauseOf bits source options json c) (sym is) (options_by_error bits source options json e h)
