-- Labels lead to what is declared.
use Rattle.std.proofs.Common.{◌≡◌, ℕ, List, ap, sym, ◌∙◌, subst}
use Rattle.tocmark_read_scan.specs.declared.syntax.Names.TheVariants.{All}
use Rattle.tocmark_read_spans.specs.Definitions.{State, distinct_labels}
use Rattle.tocmark_reader.specs.Reading.{collected_in, collected_from, first_entry, found_under, reading_of}
use Rattle.tocmark_commonmark.specs.Links.{destinations}
use Rattle.tocmark_block_laws.specs.Quotes.{Agrees}
use Rattle.tocmark_block_laws.proofs.NamedBlocks.{names-change-none}
use Rattle.tocmark_block_laws.proofs.Read.{quotes-declared}
use Rattle.tocmark_block_laws.proofs.ShortDefinitions.{definitions-short}
use Rattle.tocmark_inline_laws.specs.Said.{commonmark}
use Rattle.tocmark_inline_laws.specs.Statement.{LeadAlike}
use Rattle.tocmark_inline_laws.proofs.LabelsLead.{all_lead}
use Rattle.tocmark_standard_laws.specs.Labels.{collected_of, entry_in, definitions_of, destinations_of, LabelsAreDeclared, DefinedLabelsAreDeclared}

-- the reader collects the declared definitions, where it finds the declared blocks
agreed_collects : (text : List ℕ) → Agrees text → collected_of text ≡ collected_in All (definitions_of text)
unfolding collected_from
agreed_collects text agrees = ap (collected_in All) (ap (λ v. v.definitions) (names-change-none All text) ∙ agrees.definitions)

-- so labels lead to what is declared
pub agreed_leads : (text : List ℕ) → Agrees text → LeadAlike (collected_of text).texts (entry_in text) (destinations_of text)
agreed_leads text agrees =
    subst (λ (c : State). LeadAlike c.texts (first_entry commonmark.undefined_notes c.keys c.entries) (destinations (definitions_of text))) (sym (agreed_collects text agrees))
    (all_lead (definitions_of text) (definitions-short text))

pub labels-declared : LabelsAreDeclared
labels-declared text h = agreed_leads text (quotes-declared text h.fits h.covered)

pub defined-declared : DefinedLabelsAreDeclared
unfolding reading_of found_under
defined-declared text h = ap (λ (c : State). distinct_labels c.texts c.labels) (agreed_collects text (quotes-declared text h.fits h.covered))
