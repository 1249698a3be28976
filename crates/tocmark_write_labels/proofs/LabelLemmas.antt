-- A set of folded labels grows as the definition says.
use Rattle.std.proofs.Common.{◌≡◌, ◌<◌, ◌+◌, ℕ, Bool, true, false, ◌||◌, if◌then◌else◌, List, [], ◌∷◌, ◌++◌, append_assoc, drop, get_or, length, map, take, refl, sym, ap, ◌∙◌, string_bytes, String}
use Rattle.std.specs.Global.{Global}
use Rattle.std.specs.Prelude.{bytes_eq, string_eq}
use Rattle.std.specs.List.{list_any, AllZip}
use Rattle.std.proofs.lemmas.Bool.Decides.{same_from_decides, Decides-like}
use Rattle.std.proofs.lemmas.List.{append-nil, drop_more, map-append}
use Rattle.std.proofs.Math.Seq.{take-append_seam}
use Rattle.std.proofs.lemmas.Slice.Eq.{bytes_eq-Decides}
use Rattle.indexmap.specs.IndexSet.{insert_key}
use Rattle.tocmark_write_labels.specs.Document.{folded, is_among, with_label, with_labels}
use Rattle.tocmark_write_labels.specs.LabelsOf.{Begins}

bytes_eq-flip : (a b : List ℕ) → bytes_eq a b ≡ bytes_eq b a
bytes_eq-flip a b = same_from_decides _ _ (bytes_eq-Decides a b) (Decides-like _ (λ e. sym e) (λ e. sym e) (bytes_eq-Decides b a))

among-keys : (f : String Global) (keys : List (String Global)) → list_any (string_eq f) keys ≡ list_any (λ l. bytes_eq l (string_bytes f)) (map string_bytes keys)
among-keys f [] = refl
among-keys f (k ∷ ks) =
    ap (λ b. b || list_any (string_eq f) ks) (bytes_eq-flip (string_bytes f) (string_bytes k))
    ∙ ap (λ b. bytes_eq (string_bytes k) (string_bytes f) || b) (among-keys f ks)

inserted : (b : Bool) (f : String Global) (keys : List (String Global)) → map string_bytes (if b then keys else keys ++ f ∷ []) ≡ (if b then map string_bytes keys else map string_bytes keys ++ string_bytes f ∷ [])
inserted true f keys = refl
inserted false f keys = map-append string_bytes keys (f ∷ [])

pub label-inserted : (f : String Global) (keys : List (String Global)) (label : List ℕ) → string_bytes f ≡ folded label
    → map string_bytes (insert_key string_eq keys f) ≡ with_label (map string_bytes keys) label
label-inserted f keys label e =
    inserted (list_any (string_eq f) keys) f keys
    ∙ ap (λ b. if b then map string_bytes keys else map string_bytes keys ++ string_bytes f ∷ []) (among-keys f keys)
    ∙ ap (λ x. if list_any (λ l. bytes_eq l x) (map string_bytes keys) then map string_bytes keys else map string_bytes keys ++ x ∷ []) e

pub label-among : (f : String Global) (keys : List (String Global)) (label : List ℕ) → string_bytes f ≡ folded label → list_any (string_eq f) keys ≡ is_among (map string_bytes keys) label
label-among f keys label e = among-keys f keys ∙ ap (λ x. list_any (λ l. bytes_eq l x) (map string_bytes keys)) e

-- copies of texts hold the same bytes
pub labels-copied : (keys copies : List (String Global)) → AllZip (λ s t. string_bytes t ≡ string_bytes s) keys copies → map string_bytes copies ≡ map string_bytes keys
labels-copied [] [] h = refl
labels-copied [] (c ∷ cs) h = absurd h
labels-copied (k ∷ ks) [] h = absurd h
labels-copied (k ∷ ks) (c ∷ cs) h = ap (λ x. x ∷ map string_bytes cs) h.0 ∙ ap (λ xs. string_bytes k ∷ xs) (labels-copied ks cs h.1)

-- a list begins with itself
pub begins-whole : (labels : List (List ℕ)) → Begins labels labels
begins-whole labels = ([], sym (append-nil labels))

-- what a list begins with, it begins with one label more
pub begins-more : (front labels : List (List ℕ)) (l : List ℕ) → Begins front labels → Begins front (with_label labels l)
begins-more front labels l h = by (is_among labels l)
  where
    by : (b : Bool) → Begins front (if b then labels else labels ++ folded l ∷ [])
    by true = h
    by false = (h.0 ++ folded l ∷ [], ap (λ x. x ++ folded l ∷ []) h.1 ∙ append_assoc front h.0 (folded l ∷ []))

-- as many labels as a list begins with are those
pub front-taken : (front labels : List (List ℕ)) → Begins front labels → take (length front) labels ≡ front
front-taken front labels h = ap (take (length front)) h.1 ∙ take-append_seam front h.0

-- one more label of a list is added
pub labels-more : (ls : List (String Global)) (i : ℕ) (l : String Global) (old new whole : List (List ℕ)) → i < length ls → l ≡ get_or ls i l → new ≡ with_label old (string_bytes l)
    → with_labels old (map string_bytes (drop i ls)) ≡ whole → with_labels new (map string_bytes (drop (i + 1) ls)) ≡ whole
labels-more ls i l old new whole lt is e inv =
    ap (λ x. with_labels x (map string_bytes (drop (i + 1) ls))) e
    ∙ ap (λ x. with_labels (with_label old (string_bytes x)) (map string_bytes (drop (i + 1) ls))) is
    ∙ ap (λ x. with_labels old (map string_bytes x)) (sym (drop_more ls i l lt))
    ∙ inv
