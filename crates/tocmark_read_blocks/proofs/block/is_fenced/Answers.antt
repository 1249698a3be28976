use Rattle.std.proofs.Common.{ap, sym, ◌∙◌, arith}
use Rattle.std.proofs.lemmas.Bool.Decides.{nat_tests}
use Rattle.std.specs.List.{find}
use Rattle.tocmark_read_page.specs.Pages.{page}
use Rattle.tocmark_read_blocks.proofs.FencedLines.{is_ink, fenced_by_tests}
use Rattle.tocmark_read_blocks.proofs.block.is_fenced.Goals as goal

pub returns-in-Some : goal.returns-in-Some
returns-in-Some c h =
    fenced_by_tests c.args.source.now.known c.args.source.now.text.now c.args.line (page c.args.so_far.now) c.in-Fenced.fence c.in-Some.byte
    c.in-Fenced.is
    (grind (arith, nat_tests, c.if-len-ne0.false))
    (grind (arith, nat_tests, c.if-fence-ne0.false))
    (sym (c.first_ink.ensures ∙ ap (find is_ink) c.bytes_between.ensures) ∙ c.in-Some.is)
    h
