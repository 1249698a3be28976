use Rattle.std.proofs.Common.{arith, ◌∙◌}
use Rattle.tocmark_read_scan.specs.declared.syntax.TheConstants.{CORE}
use Rattle.tocmark_read_spans.specs.Definitions.{entry_of}
use Rattle.tocmark_read_inlines.specs.Scan.{scan, ahead_view}
use Rattle.tocmark_read_inlines.proofs.Quiet.{begun, jumped}
use Rattle.tocmark_read_inlines.proofs.scan.Scanner.run_core.Goals as goal

pub loop-byte-init : goal.loop-byte-init
loop-byte-init c =
    begun CORE c.args.text.now.bytes.now (ahead_view c.args.text.now.ahead.now) (entry_of c.args.text.now.definitions.now) (scan c.args.self.now) c.args.text.now.bytes.now c.skip_quiet-place.result.1.now c.skip_quiet-place.result.0 c.skip_quiet-place.ensures.place c.skip_quiet-place.ensures.bytes (omega arith)

pub loop-byte-preserved : goal.loop-byte-preserved
loop-byte-preserved c =
    jumped CORE c.args.text.now.bytes.now (ahead_view c.args.text.now.ahead.now) (entry_of c.args.text.now.definitions.now) (scan c.loop-byte.self) (scan c.core_step.new.self) c.loop-byte.left.now c.in-Some.behind.now c.skip_quiet-further.result.1.now c.in-Some.byte.now c.loop-byte.place c.in_ok-next.next c.skip_quiet-further.result.0 c.in-Some.ensures.cases.0 c.in_ok-next.ensures c.skip_quiet-further.ensures.place c.skip_quiet-further.ensures.bytes (omega arith)
    ∙ c.loop-byte.invariant
