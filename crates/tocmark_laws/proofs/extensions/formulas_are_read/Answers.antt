use Rattle.tocmark_laws.proofs.FormulaReading.{formula_read}
use Rattle.tocmark_laws.proofs.extensions.formulas_are_read.Goals as goal

pub returns : goal.returns
returns c syntax formula math is fits = formula_read syntax formula math is fits
