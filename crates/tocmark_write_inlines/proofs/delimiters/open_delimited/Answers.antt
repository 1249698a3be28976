use Rattle.std.proofs.Common.{Option, ap, subst, sym}
use Rattle.std.specs.Prelude.{OnOk}
use Rattle.tocmark_write_renderer.specs.WriterOf.{levels_of, page_of, Arrives}
use Rattle.tocmark_spelling.specs.Page.{Site}
use Rattle.tocmark_write_inlines.proofs.delimiters.open_delimited.Goals as goal

pub returns-clause-stands : goal.returns-clause-stands
returns-clause-stands c =
    let path = levels_of c.args.renderer.now in
    let page = page_of c.args.renderer.now in
    let P : Option Site → Type 0 = λ answer. OnOk c.open_between.result (Arrives c.open_between.new.renderer answer) in
    λ reading l. subst P (sym (c.delimiter_of-delimiter.ensures reading l path page (sym (ap (λ o. o.in_double) c.outside.ensures)))) c.open_between.ensures.stands
