use Rattle.tocmark_event.specs.Options.{options_view}
use Rattle.tocmark_documents.specs.Interchange.{places_left}
use Rattle.tocmark_documents.proofs.Refused.{made_of, refused}
use Rattle.tocmark_documents.proofs.Taken.{all_written}
use Rattle.tocmark_documents.proofs.writing.written.Goals as goal
use Rattle.tocmark_documents.proofs.writing.written.Tie as tie

pub returns-in-Ok-clause-written : goal.returns-in-Ok-clause-written
returns-in-Ok-clause-written c =
    let h = made_of (options_view c.args.options) c.args.source.now c.args.flags _ ((tie.ghosts-1-0-3-2 (c.before.before.before.cmark_with_source_range_and_options).lifetimes).refuses) c.new-output.result c.cmark_with_source_range_and_options.new.writer c.args.pairs c.in-Ok.ensures.made in
    all_written (options_view c.args.options) c.args.source.now c.args.flags h.0 (places_left c.args.pairs) c.new-output.result c.cmark_with_source_range_and_options.new.writer h.1 c.new-output.ensures.bytes h.2 h.3

pub returns-in-Err-clause-refusal : goal.returns-in-Err-clause-refusal
returns-in-Err-clause-refusal c =
    refused (options_view c.args.options) c.args.source.now c.args.flags _ ((tie.ghosts-1-0-3-2 (c.before.before.before.cmark_with_source_range_and_options).lifetimes).refuses) c.new-output.result c.cmark_with_source_range_and_options.new.writer c.args.pairs c.in-Err.error c.in-Err.ensures.made
