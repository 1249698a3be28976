use Rattle.std.proofs.Common.{map}
use Rattle.std.specs.Iterator.Adapters.{enumerate_count, enumerate_source}
use Rattle.std.specs.Str.Iter.{lines_steps}
use Rattle.tocmark_event.specs.Text.{text_of}
use Rattle.tocmark_json.specs.Json.{pair_view}
use Rattle.tocmark_documents.proofs.LinesPassed.{IsPassed}
use Rattle.tocmark_documents.proofs.line_events.pairs_in_lines.Given as goal

-- the lines that were passed are those of the events so far
abbrev pub invariant-loop-number : goal.invariant-loop-number
invariant-loop-number l =
    IsPassed lines_steps l.text (enumerate_source l.number-iterator) (enumerate_count l.number-iterator) (map (pair_view text_of) l.pairs.items)
