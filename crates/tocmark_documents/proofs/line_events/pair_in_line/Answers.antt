use Rattle.std.proofs.Common.{arith}
use Rattle.tocmark_documents.proofs.line_events.pair_in_line.Goals as goal

pub returns-in-Err-NotJson-clause-cause : goal.returns-in-Err-NotJson-clause-cause
returns-in-Err-NotJson-clause-cause c =
    c.not_json.ensures c.args.has_ranges (c.from_str.ensures.refused (grind arith))
