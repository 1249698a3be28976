use Rattle.std.proofs.Common.{refl}
use Rattle.tocmark_laws.proofs.WrittenUnits.{end-reads, pairs-read, script-reads}
use Rattle.tocmark_laws.proofs.written.what_is_written_reads_back.Goals as goal

pub returns-clause-handed : goal.returns-clause-handed
returns-clause-handed c options reading source kept p standard accepts = pairs-read options reading kept.flags standard accepts source kept p refl

pub returns-clause-last : goal.returns-clause-last
returns-clause-last c = end-reads

pub returns-clause-script : goal.returns-clause-script
returns-clause-script c = script-reads
