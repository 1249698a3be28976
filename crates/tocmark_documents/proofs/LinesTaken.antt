-- What a state made of events that came one after the other.
use Rattle.std.proofs.Common.{◌≡◌, ℕ, List, [], ◌∷◌, ◌++◌, Ok, Option, Some, refl, ap, sym, subst, ◌∙◌, append_assoc, string_bytes, String}
use Rattle.std.proofs.lemmas.List.{map-id}
use Rattle.std.proofs.lemmas.List.Folds.{concat-append}
use Rattle.std.proofs.lemmas.Iterator.{items_from_drains}
use Rattle.std.proofs.lemmas.Iterator.Adapters.{YieldsList-from_once}
use Rattle.std.specs.Borrow.{Bor}
use Rattle.std.specs.Global.{Global}
use Rattle.std.specs.Iterator.{DrainsIf}
use Rattle.std.specs.Iterator.Adapters.{once_item, once_steps}
use Rattle.std.specs.List.{FoldsTo, concat}
use Rattle.tocmark_event.specs.Options.{OptionsView}
use Rattle.tocmark_event.specs.Reading.{ReadingView}
use Rattle.tocmark_event.specs.Text.{ParserEvent}
use Rattle.tocmark_event.specs.declared.event.flags.ParserOptions.{ParserOptions}
use Rattle.tocmark_event.specs.declared.options.Error.{Error}
use Rattle.tocmark_reader.specs.Flags.{unit_syntax_of}
use Rattle.tocmark_reader.specs.Reading.{reading_of}
use Rattle.tocmark_reader.specs.declared.unit_reader.UnitReader.{UnitReader}
use Rattle.tocmark_state.specs.Ranges.{Pair, Range}
use Rattle.tocmark_state.specs.StateView.{place_of, rendering_of, status_of}
use Rattle.tocmark_state.specs.Walk.{Rendering, done, nothing_yet, script, walk}
use Rattle.tocmark_state.specs.WorkView.{ranged_pair, ranged_pairs}
use Rattle.tocmark_state.specs.declared.state.State.{State}
use Rattle.tocmark_documents.specs.Interchange.{IsWritten}
use Rattle.tocmark_documents.specs.LineWriting.{HasTaken, unit_rendering}

abbrev Text : Type 0
Text = String Global

-- a string takes a text after what it holds
abbrev pub takes : Text → List ℕ → Text → Type 0
takes s t u = string_bytes u ≡ string_bytes s ++ t

-- the readings of a reader of units
abbrev pub units : UnitReader → List ℕ → ParserOptions → ReadingView
units r t f = reading_of (unit_syntax_of r.names f) t

-- texts taken one after the other
all_taken : (texts : List (List ℕ)) (s u : Text) → FoldsTo takes s texts u → string_bytes u ≡ string_bytes s ++ concat texts
all_taken [] s u h = ap string_bytes (sym h) ∙ sym (nothing (string_bytes s))
  where
    nothing : (xs : List ℕ) → xs ++ [] ≡ xs
    nothing [] = refl
    nothing (x ∷ xs) = ap (λ (l : List ℕ). x ∷ l) (nothing xs)
all_taken (t ∷ ts) s u (v, first, others) =
    all_taken ts v u others ∙ ap (λ (l : List ℕ). l ++ concat ts) first ∙ append_assoc (string_bytes s) t (concat ts)

-- a string to which further texts were handed
handed_on : (before after : Text) (first all more : List (List ℕ)) → string_bytes before ≡ concat first → all ≡ first ++ more → FoldsTo takes before more after → string_bytes after ≡ concat all
handed_on before after first all more h is folds =
    all_taken more before after folds ∙ ap (λ (l : List ℕ). l ++ concat more) h ∙ sym (concat-append first more) ∙ ap concat (sym is)

module _ (options : OptionsView) (flags : ParserOptions) (source : List ℕ) (old : State UnitReader) (before after : Text) (texts : List (List ℕ)) where
  -- further pairs were taken
  pub more_taken : (new : State UnitReader) (taken more : List Pair) → HasTaken options flags source taken old (string_bytes before) → status_of new ≡ status_of old → rendering_of units new ≡ rendering_of units old → (walk (rendering_of units old) source (nothing_yet flags) (taken ++ more)).texts ≡ (walk (rendering_of units old) source (nothing_yet flags) taken).texts ++ texts → (walk (rendering_of units old) source (nothing_yet flags) (taken ++ more)).outcome ≡ Ok (place_of new) → FoldsTo takes before texts after → HasTaken options flags source (taken ++ more) new (string_bytes after)
  more_taken new taken more h active same added stands folds = record {
    stands = record {
      active = active ∙ h.stands.active;
      standing = subst (λ (how : Rendering). (walk how source (nothing_yet flags) (taken ++ more)).outcome ≡ Ok (place_of new)) (sym same) stands;
    };
    same = same ∙ h.same;
    handed =
        handed_on before after (walk (unit_rendering options) source (nothing_yet flags) taken).texts (walk (unit_rendering options) source (nothing_yet flags) (taken ++ more)).texts texts h.handed
        (subst (λ (how : Rendering). (walk how source (nothing_yet flags) (taken ++ more)).texts ≡ (walk how source (nothing_yet flags) taken).texts ++ texts) h.same added) folds;
  }

  -- the events have ended
  pub all_written : (all : List Pair) → HasTaken options flags source all old (string_bytes before) → (script (rendering_of units old) source (nothing_yet flags) all).texts ≡ (walk (rendering_of units old) source (nothing_yet flags) all).texts ++ texts → (script (rendering_of units old) source (nothing_yet flags) all).outcome ≡ Ok done → FoldsTo takes before texts after → IsWritten options flags source all (string_bytes after)
  all_written all h added ends folds = record {
    ends_well = subst (λ (how : Rendering). (script how source (nothing_yet flags) all).outcome ≡ Ok done) h.same ends;
    joined =
        handed_on before after (walk (unit_rendering options) source (nothing_yet flags) all).texts (script (unit_rendering options) source (nothing_yet flags) all).texts texts h.handed
        (subst (λ (how : Rendering). (script how source (nothing_yet flags) all).texts ≡ (walk how source (nothing_yet flags) all).texts ++ texts) h.same added) folds;
  }

-- an iterator over one item gave just this
pub one_given : (xs : List (Bor ParserEvent × Option Range)) (item : Bor ParserEvent × Option Range) {s : _} → once_item s ≡ Some item → DrainsIf once_steps (Unit {0}) s xs → ranged_pairs xs ≡ ranged_pair item ∷ []
one_given xs item is drains = ap ranged_pairs (sym (map-id xs) ∙ items_from_drains xs drains (YieldsList-from_once (Some item) is))
