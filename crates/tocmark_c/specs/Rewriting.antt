-- What rewriting a source writes, and what causes each error.
use Rattle.std.specs.Prelude.{◌≡◌, ℕ, List, None}
use Rattle.tocmark_event.specs.Options.{OptionsView}
use Rattle.tocmark_event.specs.Validation.{validation}
use Rattle.tocmark_documents.specs.Interchange.{AreOptions}
use Rattle.tocmark_documents.specs.Rewriting.{IsEdited, IsEditedInVain, IsRewrittenText}
use Rattle.tocmark_c.specs.Calls.{IsWriteCause, flags_of}
use Rattle.tocmark_c.specs.declared.cause.Cause.{Cause}
use Rattle.tocmark_c.specs.declared.cause.Cause.TheVariants as cause

-- a text is the source, rewritten to the events of a JSON text, under options that can be written under
abbrev pub IsRewrittenOf : ℕ → List ℕ → List ℕ → List ℕ → List ℕ → Type 0
IsRewrittenOf bits source options json output = (o : OptionsView) × AreOptions options o × (validation o (flags_of bits) ≡ None) × IsRewrittenText (flags_of bits) source json output

-- why a source is not rewritten: the events were changed and a block of them has no text, or one of the causes that writing has
abbrev pub IsRewriteCauseOf : ℕ → List ℕ → List ℕ → List ℕ → Cause → Type 0
IsRewriteCauseOf bits source options json cause.UnexpectedEvent = IsEdited (flags_of bits) source json
IsRewriteCauseOf bits source options json cause.Unrepresentable = IsEdited (flags_of bits) source json
IsRewriteCauseOf bits source options json cause.InvalidSourceRange = IsEdited (flags_of bits) source json
IsRewriteCauseOf bits source options json cause.Finished = IsEdited (flags_of bits) source json
IsRewriteCauseOf bits source options json cause.Failed = IsEdited (flags_of bits) source json
IsRewriteCauseOf bits source options json cause.Changed = IsEditedInVain (flags_of bits) source json
IsRewriteCauseOf bits source options json c = IsWriteCause bits source options json c
