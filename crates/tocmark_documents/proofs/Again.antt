-- Lists that are written again, in the form that they have.
use Rattle.std.proofs.Common.{◌≡◌, ◌∙◌, ℕ, List, [], ◌∷◌, Bool, true, false, ap, inl, inr, map, refl, sym}
use Rattle.serde_json.specs.Data.{Data}
use Rattle.serde_json.specs.Written.{compact_text}
use Rattle.tocmark_event.specs.View.{EventView}
use Rattle.tocmark_json.specs.Elements.{IsListIn, IsListOf, alone}
use Rattle.tocmark_json.specs.Json.{events_json, pairs_json}
use Rattle.tocmark_documents.specs.Interchange.{IsAgain, IsJsonOf, IsTextOf}
use Rattle.tocmark_state.specs.Ranges.{Pair}

-- events without ranges are those that were given none
same_events : (es : List EventView) → map (λ (p : Pair). p.0) (map alone es) ≡ es
same_events [] = refl
same_events (e ∷ es) = ap (λ xs. e ∷ xs) (same_events es)

pub plain : (value : Data) (pairs : List Pair) (es : List EventView) (output : List ℕ) → es ≡ map (λ (p : Pair). p.0) pairs → output ≡ compact_text (events_json es) → IsListOf false value pairs → IsAgain value output
plain value pairs es output are order (fs, is, alike) =
    let same : fs ≡ es = sym (are ∙ ap (map (λ (p : Pair). p.0)) alike ∙ same_events fs) in
    (events_json es, inr (es, is ∙ ap events_json same, refl), order)

pub ranged : (value : Data) (pairs : List Pair) (output : List ℕ) → output ≡ compact_text (pairs_json pairs) → IsListOf true value pairs → IsAgain value output
ranged value pairs output order is = (pairs_json pairs, inl (pairs, is, refl), order)

json_of : (b : Bool) (value : Data) (pairs : List Pair) → IsListOf b value pairs → IsJsonOf value pairs
json_of true value pairs h = inl h
json_of false value pairs h = inr h

pub text_of_list : (b : Bool) (text : List ℕ) (pairs : List Pair) → IsListIn b text pairs → IsTextOf text pairs
text_of_list b text pairs h = record { value = h.value; is_read = h.is_read; is_json = json_of b h.value pairs h.is_list }
