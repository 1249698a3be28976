use Rattle.std.proofs.Common.{◌∙◌, lit<, sym}
use Rattle.tocmark_write_texts.proofs.SpanLemmas.{longest_run-chars, no_run}
use Rattle.tocmark_write_texts.proofs.text_modifications.longest_ticks.Goals as goal

pub returns-then-not-holds_backtick : goal.returns-then-not-holds_backtick
returns-then-not-holds_backtick c = no_run c.args.text.now (sym c.holds_backtick.ensures ∙ c.if-not-holds_backtick.true)

pub returns : goal.returns
returns c = c.max_consecutive_chars.ensures ∙ longest_run-chars 96 c.args.text.now (lit< tt) c.utf8.text
