use Rattle.std.proofs.Common.{IfErr, List, Option, map, subst, ℕ}
use Rattle.tocmark_event.specs.Options.{options_view}
use Rattle.tocmark_event.specs.Text.{ParserEvent, text_of}
use Rattle.tocmark_json.specs.Json.{pair_view}
use Rattle.tocmark_documents.specs.Interchange.{IsPairsCause, in_source}
use Rattle.tocmark_documents.proofs.LinesPassed.{not_written}
use Rattle.tocmark_documents.proofs.line_writing.written_at_once.Goals as goal

pub returns-clause-cause : goal.returns-clause-cause
returns-clause-cause c =
    not_written (options_view c.args.options) c.args.flags c.args.has_source c.args.source.now c.args.text.now (map (pair_view text_of) c.in_ok-pairs.pairs.items) c.written_pairs.result c.in_ok-pairs.ensures.pairs
    (subst (λ (xs : List (ParserEvent × Option (ℕ × ℕ))). IfErr c.written_pairs.result (IsPairsCause (options_view c.args.options) c.args.flags c.args.source.now (in_source c.args.has_source (map (pair_view text_of) xs)))) c.lent.ensures c.written_pairs.ensures.cause)
