use Rattle.std.proofs.Common.{◌∙◌, sym, ap, reverse, string_bytes}
use Rattle.std.specs.Option.{option_map}
use Rattle.tocmark_event.specs.View.{event_view}
use Rattle.tocmark_spelling.specs.Buffered.{sourced}
use Rattle.tocmark_spelling.specs.Scans.{closer_of}
use Rattle.tocmark_write_pending.proofs.Closers.{popped-is}
use Rattle.tocmark_write_pending.proofs.ends.go_back.Goals as goal

pub returns-in-Start-clause-end : goal.returns-in-Start-clause-end
returns-in-Start-clause-end c =
    let closers = c.args.closers.now in
    popped-is closers.items c.pop.new.self.items c.pop.result closers.len c.pop.new.self.len c.pop.ensures.items closers.ok.0 c.pop.ensures.cases
    ∙ ap (λ e. closer_of (sourced (event_view string_bytes e) (option_map string_bytes c.args.event.now.source)) (reverse closers.items)) (sym c.in-Start.is)
