use Rattle.std.proofs.Common.{List, map, subst}
use Rattle.tocmark_event.specs.Options.{options_view}
use Rattle.tocmark_event.specs.Text.{text_of}
use Rattle.tocmark_json.specs.Json.{pair_view}
use Rattle.tocmark_documents.specs.Interchange.{IsRefusal, in_source, writing}
use Rattle.tocmark_state.specs.Ranges.{Pair}
use Rattle.tocmark_documents.proofs.writing.written_pairs.Goals as goal

pub returns-in-Ok-refusal-clause-cause : goal.returns-in-Ok-refusal-clause-cause
returns-in-Ok-refusal-clause-cause c =
    let pairs = in_source c.args.has_source (map (pair_view text_of) c.args.pairs.now) in
    let is : IsRefusal (writing (options_view c.args.options) c.args.flags c.args.source.now pairs) c.in-Err.error =
    subst (λ (ps : List Pair). IsRefusal (writing (options_view c.args.options) c.args.flags c.args.source.now ps) c.in-Err.error) c.new-placed.ensures c.in-Err.ensures.refusal in
    record { comes = c.in-Some.ensures (writing (options_view c.args.options) c.args.flags c.args.source.now pairs) is; is_place = c.in-Ok-refusal.ensures }
