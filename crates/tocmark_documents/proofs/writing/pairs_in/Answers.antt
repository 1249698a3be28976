use Rattle.std.proofs.Common.{map}
use Rattle.tocmark_event.specs.Text.{text_of}
use Rattle.tocmark_json.specs.Json.{pair_view}
use Rattle.tocmark_documents.proofs.Again.{text_of_list}
use Rattle.tocmark_documents.proofs.writing.pairs_in.Goals as goal

pub returns-in-Ok-clause-pairs : goal.returns-in-Ok-clause-pairs
returns-in-Ok-clause-pairs c =
    text_of_list c.in-Ok.list.has_ranges c.args.json.now (map (pair_view text_of) c.in-Ok.list.events.items) c.in-Ok.ensures.list
