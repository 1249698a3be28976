use Rattle.tocmark_documents.proofs.writing.write_json.Goals as goal

pub returns-in-Some-clause-cause : goal.returns-in-Some-clause-cause
returns-in-Some-clause-cause c = rw c.in-Some.is c.write_over.ensures.cause

pub returns-in-None-clause-cause : goal.returns-in-None-clause-cause
returns-in-None-clause-cause c = rw c.in-None.is c.write_over-in-None.ensures.cause
