use Rattle.tocmark_spelling.proofs.Follows.{spells, same-spelling}
use Rattle.tocmark_spelling.proofs.machine_laws.machine_follows_trees.Goals as goal

pub returns-clause-follows : goal.returns-clause-follows
returns-clause-follows c = spells

pub returns-clause-agree : goal.returns-clause-agree
returns-clause-agree c = same-spelling
