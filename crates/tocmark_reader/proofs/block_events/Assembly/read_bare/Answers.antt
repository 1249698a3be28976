use Rattle.std.proofs.Common.{ap, sym, ◌∙◌}
use Rattle.std.proofs.lemmas.Result.{on_ok_weaker}
use Rattle.tocmark_read_spans.specs.Definitions.{entry_of}
use Rattle.tocmark_reader.specs.Pages.{assembly_view, leaf_inlines_in, written_by}
use Rattle.tocmark_reader.proofs.Behind.{Find, bare_behind}
use Rattle.tocmark_reader.proofs.block_events.Assembly.read_bare.Goals as goal

pub returns : goal.returns
returns c =
    let find : Find = entry_of c.args.document.now.definitions.now in
    on_ok_weaker c.read_leaf.result
    (λ read.
    read
    ∙ ap (written_by c.args.document.now.text.now (leaf_inlines_in c.args.document.now.syntax c.args.document.now.text.now find c.args.pieces.now _)) c.in_ok-take_task.ensures
    ∙ sym (bare_behind c.args.document.now.syntax c.args.document.now.text.now find c.args.pieces.now c.args.block (assembly_view c.args.self.now)))
    c.read_leaf.ensures
