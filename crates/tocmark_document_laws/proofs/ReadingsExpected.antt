-- What the core reader reads is never refused as unexpected.
use Rattle.std.proofs.Common.{ℕ, List, [], map, refl, sym, subst}
use Rattle.std.specs.List.{fold}
use Rattle.tocmark_event.specs.Forest.{IsBalanced}
use Rattle.tocmark_read_scan.specs.declared.syntax.Syntax.{Syntax}
use Rattle.tocmark_read_scan.specs.declared.syntax.TheConstants.{CORE}
use Rattle.tocmark_reader.specs.Emitted.{NodeView, Writing, emitted, step}
use Rattle.tocmark_reader.specs.Reading.{core_reading, found_under, reading_of}
use Rattle.tocmark_reader.proofs.EmitLaws.{leads_closed, leads_fold, levels}
use Rattle.tocmark_text_laws.proofs.Assembling.{readings_proper}
use Rattle.tocmark_text_laws.proofs.ShortTexts.{short_counted}
use Rattle.tocmark_document_laws.specs.ProperLists.{IsProper, ProperListsAreExpected, ReadingsAreExpected, ShortReadingsAreExpected}
use Rattle.tocmark_document_laws.proofs.ProperLists.{proper_expected}

nodes_balanced : (text : List ℕ) (nodes : List NodeView) → IsBalanced (map (λ e. e.0) (emitted text nodes))
nodes_balanced text nodes =
    let start : Writing = record { events = []; stack = [] } in
    levels [] (emitted text nodes) (leads_closed 0 (fold (step text) start nodes) (leads_fold text nodes start refl))

reading_balanced : (syntax : Syntax) (text : List ℕ) → IsBalanced (map (λ e. e.0) (reading_of syntax text).events)
unfolding reading_of
reading_balanced syntax text = nodes_balanced text (found_under syntax text).nodes

pub lists_expected : ProperListsAreExpected
lists_expected options reading flags source p is = proper_expected options reading flags source p is

pub readings_expected : ReadingsAreExpected
readings_expected options reading flags source text p counted same =
    let is : IsProper (map (λ e. e.0) (core_reading text).events) = record { balanced = reading_balanced CORE text; placed = readings_proper text counted } in
    proper_expected options reading flags source p (subst IsProper (sym same) is)

pub short_readings_expected : ShortReadingsAreExpected
short_readings_expected options reading flags source text p short same = readings_expected options reading flags source text p (short_counted text short) same
