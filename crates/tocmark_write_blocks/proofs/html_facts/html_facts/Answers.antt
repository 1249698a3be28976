use Rattle.std.proofs.Common.{◌∙◌, sym, map}
use Rattle.tocmark_spelling.specs.Buffered.{buffered_view}
use Rattle.tocmark_write_blocks.proofs.RawLemmas.{no-html}
use Rattle.tocmark_write_blocks.proofs.html_facts.html_facts.Goals as goal

pub returns-then-not-there : goal.returns-then-not-there
returns-then-not-there c =
    no-html (map buffered_view c.args.events.now) c.new.result.items (sym c.requires.there ∙ c.if-not-there.true)
