-- What a call that writes pairs hands is what the definition lists for them.
use Rattle.std.proofs.Common.{◌≡◌, ℕ, List, [], ◌++◌, ap, ◌∙◌, subst, string_bytes, Ok, String, Option}
use Rattle.std.specs.Borrow.{Bor}
use Rattle.std.specs.Global.{Global}
use Rattle.std.specs.Iterator.{DrainsIf, YieldsFirstBy}
use Rattle.std.specs.List.{FoldsTo, concat}
use Rattle.tocmark_event.specs.Text.{ParserEvent}
use Rattle.tocmark_event.specs.declared.event.flags.ParserOptions.{ParserOptions}
use Rattle.tocmark_reader.specs.Reading.{reading_of}
use Rattle.tocmark_reader.specs.Flags.{unit_syntax_of}
use Rattle.tocmark_read_scan.specs.declared.syntax.Names.TheVariants.{All}
use Rattle.tocmark_laws.proofs.Handed.{drained, written_in_parts}
use Rattle.tocmark_event.specs.Options.{OptionsView}
use Rattle.tocmark_event.specs.Reading.{lent_pair}
use Rattle.tocmark_state.specs.Ranges.{Pair, Range}
use Rattle.tocmark_state.specs.WorkView.{rendering, ranged_pairs}
use Rattle.tocmark_state.specs.Walk.{Walk, Done, done, nothing_yet, script}
use Rattle.tocmark_documents.specs.Interchange.{IsWritten, places_left, writing}
use Rattle.tocmark_documents.specs.declared.pairs.EventPairs.{EventPairs}

abbrev pub walked : OptionsView → List ℕ → ParserOptions → List Pair → Walk Done
walked options source flags q = script (rendering options (λ t f. reading_of (unit_syntax_of All f) t)) source (nothing_yet flags) q

-- the pairs of a call that took all of them
pub pairs_taken : (xs : List (Bor ParserEvent × Option Range)) (it : EventPairs) → DrainsIf (YieldsFirstBy lent_pair places_left) (Unit {0}) it xs → ranged_pairs xs ≡ places_left it
pairs_taken xs it h = drained lent_pair places_left xs it h

-- the texts of the script of all pairs, one after the other, are what is written
pub all_written : (options : OptionsView) (source : List ℕ) (flags : ParserOptions) (q pairs : List Pair) (start output : String Global) → q ≡ pairs → string_bytes start ≡ [] → (walked options source flags q).outcome ≡ Ok done → FoldsTo (λ s t u. string_bytes u ≡ string_bytes s ++ t) start (walked options source flags q).texts output → IsWritten options flags source pairs (string_bytes output)
all_written options source flags q pairs start output same empty ended folded =
    let all : walked options source flags q ≡ writing options flags source pairs =
    ap (λ (p : List Pair). walked options source flags p) same in
    record {
      ends_well = subst (λ (w : Walk Done). w.outcome ≡ Ok done) all ended;
      joined =
          written_in_parts string_bytes (walked options source flags q).texts start output folded
          ∙ ap (λ (b : List ℕ). b ++ concat (walked options source flags q).texts) empty
          ∙ ap (λ (w : Walk Done). concat w.texts) all;
    }
