use Rattle.std.proofs.Common.{ℕ, List, map, string_bytes}
use Rattle.tocmark_compare.specs.Given.{given_events}
use Rattle.tocmark_rewrite.specs.Edited.{IsVain}
use Rattle.tocmark_rewrite.proofs.Causes.{err-from}
use Rattle.tocmark_rewrite.proofs.rewrite.side_by_side.Goals as goal

pub returns-in_err-pieces-clause-refused : goal.returns-in_err-pieces-clause-refused
returns-in_err-pieces-clause-refused g c =
    err-from
    (IsVain (λ (text : List ℕ). g.R.Reader.reading c.args.tools.now.reader.now text c.args.tools.now.flags) (map string_bytes c.args.work.now.defined.now) c.args.source.now (given_events c.args.events.now))
    c.from_residual-in_err-pieces.result
    c.in_err-pieces.field-0.0
    c.from_residual-in_err-pieces.ensures.1
    (c.in_err-pieces.ensures (λ (text : List ℕ). g.R.Reader.reading c.args.tools.now.reader.now text c.args.tools.now.flags) (map string_bytes c.args.work.now.defined.now) c.args.source.now (given_events c.args.events.now))
