-- Events one after the other.
use Rattle.std.proofs.Common.{◌≡◌, ◌∙◌, ◌<◌, ◌+◌, ℕ, List, [], ◌∷◌, ◌++◌, Option, None, Some, ap, append-nil, append_assoc, arith, length, map, sym}
use Rattle.std.proofs.lemmas.List.{length-append, length-map, map-append}
use Rattle.std.proofs.lemmas.List.Concat.{flat_map-append}
use Rattle.tocmark_event.specs.Text.{ParserEvent, text_of}
use Rattle.tocmark_event.specs.View.{EventView}
use Rattle.tocmark_json.specs.Json.{pair_view}
use Rattle.tocmark_documents.specs.Packed.{packed_event, packed_number, packed_option, packed_pair, packed_pairs, packed_range}
use Rattle.tocmark_documents.specs.Unpacked.{BeginsNone, IsNotPacked, own_event, own_pair}
use Rattle.tocmark_documents.specs.declared.packed.PackedError.TheVariants as error
use Rattle.tocmark_documents.proofs.PackedCuts.{Cuts, number_cut, option_cuts}

-- so many events are read
abbrev pub HasPairs : List (ParserEvent × Option (ℕ × ℕ)) → ℕ → List ℕ → List ℕ → Type 0
HasPairs pairs len bytes rest = (bytes ≡ packed_pairs (map (pair_view text_of) pairs) ++ rest) × (length pairs ≡ len)

pub pairs_begun : (pairs : List (ParserEvent × Option (ℕ × ℕ))) (len : ℕ) (bytes : List ℕ) → pairs ≡ [] → len ≡ 0 → HasPairs pairs len bytes bytes
pairs_begun pairs len bytes none size =
    let empty : length pairs ≡ 0 = ap length none in
    let same : length pairs ≡ len = omega arith in
    (ap (λ z. packed_pairs (map (pair_view text_of) z) ++ bytes) (sym none), same)

-- one more event
pub pairs_more : (pairs : List (ParserEvent × Option (ℕ × ℕ))) (len : ℕ) (bytes old : List ℕ) → HasPairs pairs len bytes old → (x : ParserEvent × Option (ℕ × ℕ)) (new : List ℕ) → old ≡ packed_pair (pair_view text_of x) ++ new → (more : List (ParserEvent × Option (ℕ × ℕ))) → more ≡ pairs ++ x ∷ [] → (size : ℕ) → size ≡ len + 1 → HasPairs more size bytes new
pairs_more pairs len bytes old has x new read more pushed size longer =
    let before = packed_pairs (map (pair_view text_of) pairs) in
    let here = packed_pair (pair_view text_of x) in
    let joined : packed_pairs (map (pair_view text_of) more) ≡ before ++ here = ap (λ z. packed_pairs (map (pair_view text_of) z)) pushed ∙ (ap packed_pairs (map-append (pair_view text_of) pairs (x ∷ [])) ∙ (flat_map-append packed_pair (map (pair_view text_of) pairs) (pair_view text_of x ∷ []) ∙ ap (λ z. before ++ z) (append-nil here))) in
    let grown : length more ≡ length pairs + 1 = ap length pushed ∙ length-append pairs (x ∷ []) in
    let counted : length pairs ≡ len = has.1 in
    let same : length more ≡ size = omega arith in
    (has.0 ∙ (ap (λ z. before ++ z) read ∙ (sym (append_assoc before here new) ∙ ap (λ z. z ++ new) (sym joined))), same)

-- an event takes a byte or more
pub pair_smaller : (p : EventView × Option (ℕ × ℕ)) (old new : List ℕ) → old ≡ packed_pair p ++ new → length new < length old
pair_smaller (e, None) old new h =
    let size : length old ≡ length (0 ∷ (packed_event e ++ new)) = ap length h in
    let parts : length (packed_event e ++ new) ≡ length (packed_event e) + length new = length-append (packed_event e) new in
    omega arith
pair_smaller (e, Some r) old new h =
    let size : length old ≡ length (1 ∷ (packed_range r ++ packed_event e ++ new)) = ap length h in
    let parts : length (packed_range r ++ packed_event e ++ new) ≡ length (packed_range r ++ packed_event e) + length new = length-append (packed_range r ++ packed_event e) new in
    omega arith

pub pairs_read : (pairs : List (ParserEvent × Option (ℕ × ℕ))) (len : ℕ) (bytes rest : List ℕ) → HasPairs pairs len bytes rest → length rest ≡ 0 → bytes ≡ packed_pairs (map (pair_view text_of) pairs)
pairs_read pairs len bytes [] has size = has.0 ∙ append-nil (packed_pairs (map (pair_view text_of) pairs))
pairs_read pairs len bytes (b ∷ rest) has size = absurd (omega arith)

-- the first event that is none
pub pairs_end : (pairs : List (ParserEvent × Option (ℕ × ℕ))) (len : ℕ) (bytes rest : List ℕ) → HasPairs pairs len bytes rest → (number : ℕ) → number ≡ len → BeginsNone own_pair rest → IsNotPacked bytes (error.Event number)
pairs_end pairs len bytes rest has number is lacks =
    (map (pair_view text_of) pairs, rest, has.0, is ∙ (sym has.1 ∙ sym (length-map pairs (pair_view text_of))), lacks)

-- ---- a pair

range_cuts : Cuts packed_range packed_range
range_cuts x a r s h =
    let first = number_cut x.0 a.0 (packed_number x.1 ++ r) (packed_number a.1 ++ s) (sym (append_assoc (packed_number x.0) (packed_number x.1) r) ∙ (h ∙ append_assoc (packed_number a.0) (packed_number a.1) s)) in
    let second = number_cut x.1 a.1 r s first.1 in
    second.1

pub range_none : (old : List ℕ) → BeginsNone (packed_option packed_range) old → BeginsNone own_pair old
range_none old lacks p e h = lacks p.1 (own_event p.0 ++ e) (h ∙ append_assoc (packed_option packed_range p.1) (own_event p.0) e)

pub event_none : (range : Option (ℕ × ℕ)) (old mid : List ℕ) → old ≡ packed_option packed_range range ++ mid → BeginsNone own_event mid → BeginsNone own_pair old
event_none range old mid read lacks p e h =
    lacks p.0 e (option_cuts packed_range packed_range range_cuts range p.1 mid (own_event p.0 ++ e) (sym read ∙ (h ∙ append_assoc (packed_option packed_range p.1) (own_event p.0) e)))
