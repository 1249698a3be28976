-- The texts of the errors.
use Rattle.std.specs.Prelude.{ℕ, List, Option, Some, None, codes}
use Rattle.tocmark_event.specs.declared.options.Error.{Error}
use Rattle.tocmark_event.specs.declared.options.Error.TheVariants.{FormatFailed, UnexpectedEvent, Unrepresentable, InvalidSourceRange, Finished, Failed, OutOfMemory}

-- what an error is shown as; the text of a writer's own fault is std's
abbrev pub error_text : Error → Option (List ℕ)
error_text (FormatFailed _) = None
error_text UnexpectedEvent = Some (codes "Unexpected event while reconstructing Markdown")
error_text Unrepresentable = Some (codes "Cannot preserve this event block with the supplied parser options")
error_text InvalidSourceRange = Some (codes "Invalid Markdown source range")
error_text Finished = Some (codes "Markdown serializer has already finished")
error_text Failed = Some (codes "Markdown serializer cannot be used after an error")
error_text OutOfMemory = Some (codes "Out of memory while reconstructing Markdown")
