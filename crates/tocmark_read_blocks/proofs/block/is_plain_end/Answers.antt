use Rattle.std.proofs.Common.{sym, ◌∙◌, arith}
use Rattle.std.proofs.lemmas.Bool.Decides.{nat_tests}
use Rattle.tocmark_read_page.specs.Pages.{page}
use Rattle.tocmark_read_blocks.proofs.EmptyLines.{empty_by_tests}
use Rattle.tocmark_read_blocks.proofs.block.is_plain_end.Goals as goal

pub returns : goal.returns
returns c h =
    empty_by_tests c.args.source.now.known c.args.source.now.text.now c.args.line (page c.args.so_far.now)
    (grind (arith, nat_tests, c.if-line.false))
    (grind (arith, nat_tests, c.if-len-ne0.false))
    (grind (arith, nat_tests, c.if-source.false))
    (sym c.ends_at_blank.ensures ∙ h)
