use Rattle.std.proofs.Common.{◌∙◌, ap, arith, length, map, sym}
use Rattle.std.proofs.lemmas.Bool.Decides.{nat_tests}
use Rattle.tocmark_event.specs.Options.{options_view}
use Rattle.tocmark_spelling.specs.Buffered.{buffered_view}
use Rattle.tocmark_write_blocks.proofs.RawLemmas.{no-raw, not-true, silent-raw}
use Rattle.tocmark_write_blocks.proofs.raw_facts.raw_facts.Goals as goal

pub returns-then-not-kinds-2 : goal.returns-then-not-kinds-2
returns-then-not-kinds-2 c =
    no-raw (options_view c.args.options.now) (map buffered_view c.args.events.now) c.new.result.items
    (sym c.kinds_in-kinds.ensures.fenced ∙ not-true c.kinds_in-kinds.result.fenced c.if-not-kinds.true)
    (sym c.kinds_in-kinds.ensures.html ∙ not-true c.kinds_in-kinds.result.html c.if-not-kinds-2.true)

pub returns-then-is_empty-2 : goal.returns-then-is_empty-2
returns-then-is_empty-2 c =
    let preferred = c.in_ok-preferred.preferred in
    let tildes = c.in_ok-tildes.tildes in
    silent-raw (options_view c.args.options.now) (map buffered_view c.args.events.now) preferred.items tildes.items c.new-then-is_empty-2.result.items
    c.in_ok-preferred.ensures c.in_ok-tildes.ensures
    (sym c.kinds_in-kinds.ensures.html ∙ not-true c.kinds_in-kinds.result.html c.if-not-kinds-3.true)
    (grind (arith, nat_tests, c.if-is_empty.ensures, preferred.ok.0))
    (grind (arith, nat_tests, c.if-is_empty-2.ensures, tildes.ok.0))
    (ap length c.new-then-is_empty-2.ensures.items)
