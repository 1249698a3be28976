use Rattle.std.proofs.Common.{◌∙◌, sym}
use Rattle.tocmark_links.proofs.Cutting.{scheme-here, scheme-more, scheme-end}
use Rattle.tocmark_links.proofs.destination.ends_scheme.Goals as goal

pub returns-then-not-is_scheme_byte : goal.returns-then-not-is_scheme_byte
returns-then-not-is_scheme_byte c =
    scheme-here c.args.bytes.now c.loop-byte.byte-index _ c.loop-byte-test.true c.loop-byte.invariant (sym c.is_scheme_byte.ensures ∙ c.if-not-is_scheme_byte.true)

pub loop-byte-preserved : goal.loop-byte-preserved
loop-byte-preserved c =
    scheme-more c.args.bytes.now c.loop-byte.byte-index _ c.loop-byte-test.true c.loop-byte.invariant (sym c.is_scheme_byte.ensures ∙ c.if-not-is_scheme_byte.false)

pub returns : goal.returns
returns c = scheme-end c.args.bytes.now c.loop-byte.byte-index c.loop-byte-test.false c.loop-byte.invariant
