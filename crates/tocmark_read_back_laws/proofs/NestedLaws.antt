-- The laws of every text on which the layout of documents with lists rests.
use Rattle.std.proofs.Common.{[], ◌∷◌, ◌++◌, arith, length-append}
use Rattle.tocmark_text_laws.specs.Sequence.{after_lines}
use Rattle.tocmark_text_laws.proofs.QuotedRun.{quoted_blocks}
use Rattle.tocmark_text_laws.proofs.ItemRun.{item_blocks}
use Rattle.tocmark_text_laws.proofs.OneBlock.{one_block}
use Rattle.tocmark_text_laws.proofs.LooseRun.{loose_item, loose_near}
use Rattle.tocmark_text_laws.proofs.SequenceRun.{texts_row}
use Rattle.tocmark_text_laws.proofs.SequenceBlank.{blank_between}
use Rattle.tocmark_text_laws.proofs.ListEndsRun.{list_near}
use Rattle.tocmark_text_laws.proofs.OneMoreLeft.{ends_same, items_leave}
use Rattle.tocmark_text_laws.proofs.OneMoreRun.{one_more}
use Rattle.tocmark_text_laws.proofs.SequenceStates.{closed_states, quiet_closed, quiet_states, closed_quiet, quiet_ends}
use Rattle.tocmark_text_laws.proofs.ListEndsStates.{list_states, list_stays}
use Rattle.tocmark_document_laws.proofs.ReadBackTexts.{quote_quiet}
use Rattle.tocmark_read_back_laws.proofs.NestedBare.{bare}
use Rattle.tocmark_read_back_laws.proofs.NestedTexts.{Laws}

pub laws : Laws
laws = record {
  closed_row = λ t u c small.
      let s = texts_row t u c (omega (arith, small, length-append t u)) in
      record { trees = s.trees; definitions = s.definitions; ends = ends_same (after_lines (t ++ u)) (after_lines u) (closed_states t u c (omega (arith, small, length-append t u))) };
  quiet_row = λ t u c small.
      let s = blank_between t u c (omega (arith, small, length-append t (10 ∷ u))) in
      record { trees = s.trees; definitions = s.definitions; ends = ends_same (after_lines (t ++ 10 ∷ u)) (after_lines u) (quiet_states t u c (omega (arith, small, length-append t (10 ∷ u)))) };
  list_row = λ t u mark c ends ink other small.
      let s = list_near t u mark c ends ink other (omega (arith, small, length-append t (10 ∷ u))) in
      record { trees = s.trees; definitions = s.definitions; ends = ends_same (after_lines (t ++ 10 ∷ u)) (after_lines u) (list_states t u mark c ends ink other (omega (arith, small, length-append t (10 ∷ u)))) };
  list_blank = λ t mark c ends small.
      let s = list_stays t mark c ends (omega (arith, small, length-append t (10 ∷ []))) in
      record { leaves = s.leaves; ends = s.ends; trees = s.trees; definitions = s.definitions };
  quiet_blank = λ t c small. quiet_closed t c (omega (arith, small, length-append t (10 ∷ [])));
  closed_quiet = closed_quiet;
  quiet_ends = quiet_ends;
  feed = bare.feed_closed;
  feed_has = record { trees_are = bare.feed.trees; undefined = bare.feed.definitions };
  nothing_has = record { trees_are = bare.nothing.trees; undefined = bare.nothing.definitions };
  quote = quoted_blocks;
  quote_quiet = λ marks t line some fits plain are. record { line = line; ends = quote_quiet marks t some fits plain are };
  item = item_blocks;
  item_leaves = items_leave;
  tight = one_block;
  loose = loose_item;
  list_loose = loose_near;
  one_more = one_more;
}
