use Rattle.std.proofs.Common.{◌≡◌, ◌∙◌, ap, map}
use Rattle.std.proofs.lemmas.Result.{IfOk-weaker}
use Rattle.tocmark_event.specs.Options.{options_view}
use Rattle.tocmark_write_renderer.specs.WriterOf.{reference_view}
use Rattle.tocmark_state.specs.StateView.{rendering_of}
use Rattle.tocmark_state.specs.WorkView.{rendering_behind}
use Rattle.tocmark_state.proofs.state.State.with_defined.Goals as goal

pub returns-clause-same : goal.returns-clause-same
returns-clause-same g c =
    let reading = g.R.Reader.reading c.args.reader in
    IfOk-weaker c.begun.result (λ state. rendering_of g.R.Reader.reading state ≡ rendering_behind (map reference_view c.in_ok-copies.copies.items) (options_view c.args.options) reading) _
    (λ state h. h ∙ ap (λ d. rendering_behind d (options_view c.args.options) reading) c.in_ok-copies.ensures) c.begun.ensures.same
