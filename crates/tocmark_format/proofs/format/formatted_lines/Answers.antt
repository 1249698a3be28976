use Rattle.std.proofs.Common.{IfOk, string_bytes, subst}
use Rattle.tocmark_format.specs.Formatted.{SaysAsBefore}
use Rattle.tocmark_format.proofs.Saying.{as-before}
use Rattle.tocmark_format.proofs.format.formatted_lines.Goals as goal

pub returns-clause-says : goal.returns-clause-says
returns-clause-says g c =
    let read = g.R.Reader.reading c.args.reader.now in
    let defined = g.R.PartReader.definitions c.args.reader.now in
    subst (λ folds. IfOk c.format_document.result (λ answer. SaysAsBefore folds c.args.flags c.args.also.now read defined c.args.text.now (string_bytes answer.text)))
    c.fills.ensures
    (as-before c.format_document.result c.fills.result c.args.flags c.args.also.now read defined c.args.text.now c.format_document.ensures.mark c.format_document.ensures.letters c.format_document.ensures.alike)
