use Rattle.tocmark_state.specs.StringWriters.{held}
use Rattle.tocmark_laws.proofs.Handed.{kept_in_parts}
use Rattle.tocmark_laws.proofs.written.string_writers_keep_their_texts.Goals as goal

pub returns-clause-texts : goal.returns-clause-texts
returns-clause-texts c w v texts h = kept_in_parts held (λ before text after has. has) texts w v h
