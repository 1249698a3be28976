use Rattle.std.proofs.Common.{◌≡◌, ◌++◌, [], ◌∙◌, sym, ap, append-nil, string_bytes}
use Rattle.std.proofs.lemmas.Slice.Zip.{either_empty_from_Zip}
use Rattle.std.specs.Iterator.Adapters.{zip_first, zip_second}
use Rattle.std.specs.Slice.Iter.{iter_rest}
use Rattle.tocmark_spelling.specs.Closing.{alignment_cells}
use Rattle.tocmark_write_tables.proofs.Cells.{cells-none}
use Rattle.tocmark_write_tables.proofs.tables.push_cells.Goals as goal

pub returns : goal.returns
returns c =
    let rest = c.loop-alignment.alignment-iterator in
    let row = string_bytes c.loop-alignment.row in
    let none : alignment_cells (iter_rest (zip_first rest)) (iter_rest (zip_second rest)) ≡ [] =
    cells-none (iter_rest (zip_first rest)) (iter_rest (zip_second rest)) (either_empty_from_Zip rest c.next.new.self c.next.result c.in-None.is c.next.ensures.steps) in
    sym (append-nil row) ∙ ap (λ x. row ++ x) (sym none) ∙ c.loop-alignment.invariant
