use Rattle.std.proofs.Common.{◌∙◌, ◌++◌, ap, drop, sym}
use Rattle.std.proofs.lemmas.List.{take-append-drop}
use Rattle.tocmark_documents.specs.Packed.{packed_number}
use Rattle.tocmark_documents.proofs.PackedCuts.{number_short}
use Rattle.tocmark_documents.proofs.packed.Packed.number.Goals as goal

pub returns-in-Some-clause-read : goal.returns-in-Some-clause-read
returns-in-Some-clause-read c =
    let bytes = c.args.self.now.rest.now in
    let n = c.number_of.result in
    sym (take-append-drop 8 bytes) ∙ (ap (λ d. d ++ drop 8 bytes) (sym c.in-Some.ensures.cases.0 ∙ c.number_of.ensures) ∙ ap (λ r. packed_number n ++ r) (sym c.in-Some.ensures.cases.1))

pub returns-in-None-clause-refused : goal.returns-in-None-clause-refused
returns-in-None-clause-refused c = number_short c.args.self.now.rest.now c.in-None.ensures.cases
