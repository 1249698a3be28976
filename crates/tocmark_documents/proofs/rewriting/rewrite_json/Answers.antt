use Rattle.tocmark_documents.proofs.Rewritten.{blocks_of, written_from}
use Rattle.tocmark_documents.proofs.rewriting.rewrite_json.Goals as goal

pub returns-in-Ok-clause-cause : goal.returns-in-Ok-clause-cause
returns-in-Ok-clause-cause c =
    blocks_of c.args.flags c.args.source.now c.args.json.now c.in-Ok.pairs.items c.rewritten_source.result c.in-Ok.ensures.pairs c.rewritten_source.ensures.block

pub returns-in-Ok-clause-edited : goal.returns-in-Ok-clause-edited
returns-in-Ok-clause-edited c =
    written_from c.args.flags c.args.source.now c.args.json.now c.in-Ok.pairs.items c.rewritten_source.result c.in-Ok.ensures.pairs c.rewritten_source.ensures.edited

pub returns-in-Err-clause-cause : goal.returns-in-Err-clause-cause
returns-in-Err-clause-cause c = c.not_events.ensures c.args.flags c.args.source.now c.args.json.now c.in-Err.ensures.cause
