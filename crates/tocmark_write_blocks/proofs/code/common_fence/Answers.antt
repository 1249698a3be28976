use Rattle.std.proofs.lemmas.Option.{IfSome_then}
use Rattle.tocmark_write_blocks.proofs.Texts.{ticks_fence}
use Rattle.tocmark_write_blocks.proofs.code.common_fence.Goals as goal

pub returns-then-token-eq96 : goal.returns-then-token-eq96
returns-then-token-eq96 c =
    IfSome_then c.few_ticks.result c.few_ticks.ensures.ticks
    (λ fence h. ticks_fence c.args.length c.args.token fence.now c.if-token-eq96.true h)
