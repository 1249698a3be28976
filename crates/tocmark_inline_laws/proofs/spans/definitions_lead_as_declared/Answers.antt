use Rattle.tocmark_inline_laws.proofs.LabelsLead.{all_lead}
use Rattle.tocmark_inline_laws.proofs.spans.definitions_lead_as_declared.Goals as goal

pub returns : goal.returns
returns c = all_lead
