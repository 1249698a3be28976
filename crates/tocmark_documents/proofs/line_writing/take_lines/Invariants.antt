use Rattle.std.proofs.Common.{List, [], string_bytes}
use Rattle.std.specs.Iterator.Adapters.{enumerate_count, enumerate_source}
use Rattle.std.specs.Str.Iter.{lines_steps}
use Rattle.tocmark_event.specs.Options.{OptionsView}
use Rattle.tocmark_event.specs.declared.event.flags.ParserOptions.{ParserOptions}
use Rattle.tocmark_state.specs.Ranges.{Pair}
use Rattle.tocmark_documents.specs.Interchange.{in_source}
use Rattle.tocmark_documents.specs.LineWriting.{HasTaken}
use Rattle.tocmark_documents.proofs.LinesPassed.{IsPassed}
use Rattle.tocmark_documents.proofs.line_writing.take_lines.Given as goal

-- the state took the events of the lines that were passed
abbrev pub invariant-loop-number : goal.invariant-loop-number
invariant-loop-number l =
    (pairs : List Pair)
    × IsPassed lines_steps l.text (enumerate_source l.number-iterator) (enumerate_count l.number-iterator) pairs
    × ((options : OptionsView) (flags : ParserOptions) → HasTaken options flags l.source [] l.fn.state (string_bytes l.fn.output) → HasTaken options flags l.source (in_source l.has_source pairs) l.state (string_bytes l.output))
