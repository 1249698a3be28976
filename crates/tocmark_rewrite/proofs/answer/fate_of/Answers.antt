use Rattle.tocmark_rewrite.proofs.answer.fate_of.Goals as goal

pub returns-in_default-clause-told : goal.returns-in_default-clause-told
returns-in_default-clause-told c = λ r given h t a b. c.changed.ensures r given c.args.parts.now t

pub returns-in_default-part_of-clause-told : goal.returns-in_default-part_of-clause-told
returns-in_default-part_of-clause-told c = λ r given h t a b. c.changed-in_default-part_of.ensures r given c.args.parts.now t
