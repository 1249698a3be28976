-- Events of a list with their ranges, and those that are kept of them.
use Rattle.std.proofs.Common.{◌≡◌, ◌∙◌, ◌-◌, ◌≤◌, ap, Bool, Err, IfOk, length, List, map, None, Ok, Option, option_and_then, option_map, refl, Result, slice_get, Some, subst, sym, ℕ}
use Rattle.std.specs.declared.alloc.AllocError.{AllocError}
use Rattle.std.proofs.lemmas.List.{length-map}
use Rattle.std.proofs.lemmas.Option.{slice_get-map}
use Rattle.tocmark_event.specs.Text.{ParserEvent, text_of}
use Rattle.tocmark_json.specs.Json.{pair_view}
use Rattle.tocmark_state.specs.Ranges.{Pair, Range}
use Rattle.tocmark_documents.specs.Interchange.{in_source, kept}
use Rattle.tocmark_documents.specs.Places.{IsPlaceIn, lines_at, range_at}
use Rattle.tocmark_rewrite.specs.declared.fault.Place.{Place}

one_kept : (has_source : Bool) (o : Option (ParserEvent × Option Range)) → option_and_then (λ (p : Pair). p.1) (option_map (λ (p : Pair). (p.0, kept has_source p.1)) (option_map (pair_view text_of) o)) ≡ option_and_then (λ p. kept has_source p.1) o
one_kept has_source None = refl
one_kept has_source (Some p) = refl

-- the range of an event is the one that is kept of its own
pub range_kept : (has_source : Bool) (ps : List (ParserEvent × Option Range)) (n : ℕ) → range_at (in_source has_source (map (pair_view text_of) ps)) n ≡ option_and_then (λ p. kept has_source p.1) (slice_get ps n)
range_kept has_source ps n =
    ap (option_and_then (λ (p : Pair). p.1)) (slice_get-map (λ (p : Pair). (p.0, kept has_source p.1)) (map (pair_view text_of) ps) n ∙ ap (option_map (λ (p : Pair). (p.0, kept has_source p.1))) (slice_get-map (pair_view text_of) ps n))
    ∙ one_kept has_source (slice_get ps n)

-- as many events
pub length_kept : (has_source : Bool) (ps : List (ParserEvent × Option Range)) → length (in_source has_source (map (pair_view text_of) ps)) ≡ length ps
length_kept has_source ps =
    length-map (map (pair_view text_of) ps) (λ (p : Pair). (p.0, kept has_source p.1)) ∙ length-map ps (pair_view text_of)

-- a place of an event of these
pub place_known : (source : List ℕ) (pairs : List Pair) (event : ℕ) (r : Result Place AllocError) → event ≤ length pairs - 1 → IfOk r (λ place. place.event ≡ event) → IfOk r (λ place. place.lines ≡ lines_at source pairs event) → IfOk r (IsPlaceIn source pairs)
place_known source pairs event (Err e) within is lines = tt
place_known source pairs event (Ok place) within is lines =
    record { within = subst (λ (n : ℕ). n ≤ length pairs - 1) (sym is) within; lines = lines ∙ ap (lines_at source pairs) (sym is) }
