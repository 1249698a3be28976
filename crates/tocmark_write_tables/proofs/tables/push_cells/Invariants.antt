use Rattle.std.proofs.Common.{◌≡◌, ◌++◌, string_bytes}
use Rattle.std.specs.Iterator.Adapters.{zip_first, zip_second}
use Rattle.std.specs.Slice.Iter.{iter_rest}
use Rattle.tocmark_spelling.specs.Closing.{alignment_cells}
use Rattle.tocmark_write_tables.proofs.tables.push_cells.Given as goal

abbrev pub invariant-loop-alignment : goal.invariant-loop-alignment
invariant-loop-alignment l =
    string_bytes l.row ++ alignment_cells (iter_rest (zip_first l.alignment-iterator)) (iter_rest (zip_second l.alignment-iterator))
    ≡ string_bytes l.initial.row ++ alignment_cells l.alignments l.widths
