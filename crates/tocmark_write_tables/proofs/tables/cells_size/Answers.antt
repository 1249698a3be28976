use Rattle.std.proofs.Common.{◌≡◌, [], ap, length, arith}
use Rattle.std.proofs.lemmas.Slice.Zip.{either_empty_from_Zip}
use Rattle.std.specs.Iterator.Adapters.{zip_first, zip_second}
use Rattle.std.specs.Slice.Iter.{iter_rest}
use Rattle.tocmark_spelling.specs.Closing.{alignment_cells}
use Rattle.tocmark_write_tables.proofs.Cells.{cells-none}
use Rattle.tocmark_write_tables.proofs.tables.cells_size.Goals as goal

pub returns : goal.returns
returns c =
    let rest = c.loop-alignment.alignment-iterator in
    let none : alignment_cells (iter_rest (zip_first rest)) (iter_rest (zip_second rest)) ≡ [] =
    cells-none (iter_rest (zip_first rest)) (iter_rest (zip_second rest)) (either_empty_from_Zip rest c.next.new.self c.next.result c.in-None.is c.next.ensures.steps) in
    omega (arith, c.loop-alignment.invariant, ap length none)
