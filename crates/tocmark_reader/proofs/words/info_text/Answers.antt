use Rattle.std.proofs.Common.{length, sym, ◌∙◌}
use Rattle.std.proofs.lemmas.Bool.{eqb-true}
use Rattle.tocmark_reader.proofs.Zeros.{no_info}
use Rattle.tocmark_reader.proofs.words.info_text.Goals as goal

pub returns-then-is_empty : goal.returns-then-is_empty
returns-then-is_empty c = c.new.ensures.bytes ∙ sym (no_info c.args.names c.args.bytes.now (eqb-true (length c.args.bytes.now) 0 (sym c.if-is_empty.ensures)))
