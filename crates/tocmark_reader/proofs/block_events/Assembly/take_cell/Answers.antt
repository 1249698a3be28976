use Rattle.std.proofs.Common.{ap, sym, ◌∙◌}
use Rattle.std.proofs.lemmas.Result.{on_ok_weaker}
use Rattle.tocmark_read_spans.specs.Definitions.{entry_of}
use Rattle.tocmark_reader.specs.Pages.{assembly_view, cell_inlines_in, written_by}
use Rattle.tocmark_reader.proofs.Behind.{Find, cell_behind}
use Rattle.tocmark_reader.proofs.block_events.Assembly.take_cell.Goals as goal

pub returns : goal.returns
returns c =
    let find : Find = entry_of c.args.document.now.definitions.now in
    on_ok_weaker c.read_cell.result
    (λ read.
    read
    ∙ ap (written_by c.args.document.now.text.now (cell_inlines_in c.args.document.now.syntax c.args.document.now.text.now find c.args.block)) c.in_ok-open.ensures
    ∙ sym (cell_behind c.args.document.now.syntax c.args.document.now.text.now find c.args.block (assembly_view c.args.self.now)))
    c.read_cell.ensures
