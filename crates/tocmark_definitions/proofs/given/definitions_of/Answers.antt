use Rattle.std.proofs.Common.{sym}
use Rattle.std.proofs.lemmas.Result.{err_from_is_err_and}
use Rattle.tocmark_definitions.proofs.Missing.{of_element}
use Rattle.tocmark_definitions.proofs.given.definitions_of.Goals as goal

pub returns-in_err-definition_in-clause-fault : goal.returns-in_err-definition_in-clause-fault
returns-in_err-definition_in-clause-fault c =
    let p = err_from_is_err_and c.from_residual-in_err-definition_in.result c.from_residual-in_err-definition_in.ensures.1 in
    rw (p.1, p.2) (of_element c.args.values.now c.loop-value.value-index c.value-item.result c.in_err-definition_in.field-0.0 c.loop-value-test.true (sym c.value-item.is) c.in_err-definition_in.ensures.fault)
