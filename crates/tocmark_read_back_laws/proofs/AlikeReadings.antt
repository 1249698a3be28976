-- Both readers read a text alike whose words are those of plain parts, and no label is defined in it or unresolved.
use Rattle.std.proofs.Common.{◌≡◌, ℕ, ◌+◌, ◌^◌, ◌<◌, List, [], length, refl, ap, sym, ◌∙◌}
use Rattle.tocmark_event.specs.Reading.{ReadingView}
use Rattle.tocmark_read_scan.specs.declared.syntax.Names.TheVariants.{Four, All}
use Rattle.tocmark_read_scan.specs.declared.syntax.Syntax.{Syntax}
use Rattle.tocmark_read_scan.specs.declared.syntax.TheConstants.{CORE}
use Rattle.tocmark_read_blocks.specs.Blocks.{BlocksView, blocks_in}
use Rattle.tocmark_read_spans.specs.Definitions as defs
use Rattle.tocmark_reader.specs.Emitted.{NodeView, emitted}
use Rattle.tocmark_reader.specs.Pages.{State, assembled_in, start_state}
use Rattle.tocmark_reader.specs.Reading.{FoundView, collected_from, collected_in, core_reading, first_entry, found_under, reading_of}
use Rattle.tocmark_block_laws.specs.Quotes.{IsPlain}
use Rattle.tocmark_block_laws.specs.Trees.{read_tree}
use Rattle.tocmark_block_laws.proofs.NamedBlocks.{names-change-none}
use Rattle.tocmark_inline_laws.specs.Said.{commonmark}
use Rattle.tocmark_standard_laws.specs.Contents.{HasNoZero}
use Rattle.tocmark_standard_laws.proofs.FitWalk.{Found, found_fits}
use Rattle.tocmark_standard_laws.proofs.LineBlocks.{IsWhole}
use Rattle.tocmark_standard_laws.proofs.WholeLines.{lines_give}
use Rattle.tocmark_read_back_laws.proofs.AgreedBlocks.{AreKnown, blocks_plain}
use Rattle.tocmark_read_back_laws.proofs.AlikeBlocks.{AreAlike, all_put}

-- a text of CommonMark's blocks whose words are those of plain parts, without definitions of links
pub record HasKnownBlocks (text : List ℕ) : Type 0 where
  pub plain : IsPlain text
  pub zeros : HasNoZero text
  pub known : AreKnown (read_tree text (blocks_in CORE text))
  pub undefined : (blocks_in CORE text).definitions ≡ []
  pub small : length text + 3 < 2 ^ 64

-- what is found of these blocks and these definitions
abbrev page_of : Syntax → List ℕ → BlocksView → defs.State → State
page_of syntax text v c = assembled_in syntax text (first_entry syntax.undefined_notes c.keys c.entries) v.blocks v.pieces c.texts

abbrev found_of : Syntax → List ℕ → BlocksView → defs.State → FoundView
found_of syntax text v c =
    let page = page_of syntax text v c in
    record {
      nodes = page.nodes;
      defined = defs.distinct_labels c.texts c.labels;
      unresolved = defs.distinct_labels page.inlines.texts page.inlines.missed;
    }

found_is : (syntax : Syntax) (text : List ℕ) → found_under syntax text ≡ found_of syntax text (blocks_in syntax text) (collected_from syntax text (blocks_in syntax text))
unfolding found_under
found_is syntax text = refl

one_collected : (text : List ℕ) (v : BlocksView) → v.definitions ≡ [] → collected_from commonmark text v ≡ defs.collected_none
unfolding collected_from
one_collected text v e = ap (collected_in All) e

two_collected : (text : List ℕ) (v : BlocksView) → v.definitions ≡ [] → collected_from CORE text v ≡ defs.collected_none
unfolding collected_from
two_collected text v e = ap (collected_in Four) e

-- nodes, and no labels
abbrev nodes_alone : State → FoundView
nodes_alone page = record { nodes = page.nodes; defined = []; unresolved = [] }

no_labels : (syntax : Syntax) (text : List ℕ) (v : BlocksView) → (page_of syntax text v defs.collected_none).inlines.missed ≡ [] → found_of syntax text v defs.collected_none ≡ nodes_alone (page_of syntax text v defs.collected_none)
no_labels syntax text v e =
    let page : State = page_of syntax text v defs.collected_none in
    ap (let f : List (List ℕ) → FoundView = λ ls. record { nodes = page.nodes; defined = []; unresolved = ls } in f) (ap (defs.distinct_labels page.inlines.texts) e)

pages_alike : (text : List ℕ) → HasKnownBlocks text → AreAlike (page_of commonmark text (blocks_in CORE text) defs.collected_none) (page_of CORE text (blocks_in CORE text) defs.collected_none)
pages_alike text h =
    let v : BlocksView = blocks_in CORE text in
    let found : Found (IsWhole text) v.blocks v.pieces = found_fits (IsWhole text) text (lines_give text h.small h.zeros h.plain) in
    all_put text (first_entry commonmark.undefined_notes [] []) (first_entry CORE.undefined_notes [] []) v.blocks v.pieces v.blocks (start_state []) (start_state [])
    (blocks_plain text v.pieces v.blocks h.zeros h.small found.nest found.lasts h.known)
    (record { nodes = refl; one_written = refl; two_written = refl; one_missed = refl; two_missed = refl })

one_found : (text : List ℕ) → HasKnownBlocks text → found_under commonmark text ≡ nodes_alone (page_of commonmark text (blocks_in CORE text) defs.collected_none)
one_found text h =
    let v : BlocksView = blocks_in CORE text in
    found_is commonmark text
    ∙ ap (λ (x : BlocksView). found_of commonmark text x (collected_from commonmark text x)) (names-change-none All text)
    ∙ ap (found_of commonmark text v) (one_collected text v h.undefined)
    ∙ no_labels commonmark text v (pages_alike text h).one_missed

two_found : (text : List ℕ) → HasKnownBlocks text → found_under CORE text ≡ nodes_alone (page_of CORE text (blocks_in CORE text) defs.collected_none)
two_found text h =
    let v : BlocksView = blocks_in CORE text in
    found_is CORE text
    ∙ ap (found_of CORE text v) (two_collected text v h.undefined)
    ∙ no_labels CORE text v (pages_alike text h).two_missed

-- the reading of what is found
abbrev reading_from : List ℕ → FoundView → ReadingView
reading_from text found = record { events = emitted text found.nodes; defined = found.defined; unresolved = found.unresolved }

-- both readers read such a text alike
pub readings_alike : (text : List ℕ) → HasKnownBlocks text → reading_of commonmark text ≡ core_reading text
unfolding reading_of
readings_alike text h =
    ap (reading_from text) (one_found text h)
    ∙ ap (let f : List NodeView → ReadingView = λ ns. record { events = emitted text ns; defined = []; unresolved = [] } in f) (pages_alike text h).nodes
    ∙ ap (reading_from text) (sym (two_found text h))

-- no label is defined in it, or unresolved
pub none_defined : (text : List ℕ) → HasKnownBlocks text → (core_reading text).defined ≡ []
unfolding reading_of
none_defined text h = ap (λ (f : FoundView). f.defined) (two_found text h)

pub none_unresolved : (text : List ℕ) → HasKnownBlocks text → (core_reading text).unresolved ≡ []
unfolding reading_of
none_unresolved text h = ap (λ (f : FoundView). f.unresolved) (two_found text h)
