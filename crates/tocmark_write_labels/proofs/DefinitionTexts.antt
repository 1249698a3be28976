-- The definitions of references, as they are gathered and written.
use Rattle.std.proofs.Common.{◌≡◌, ◌∙◌, sym, ap, refl, ℕ, ◌+◌, ◌<◌, Bool, true, false, ◌&&◌, ◌||◌, if◌then◌else◌, List, [], ◌∷◌, ◌++◌, bytes_eq, codes, length, map, drop, get_or, reverse, append_assoc, append-nil, string_bytes, String}
use Rattle.std.specs.Global.{Global}
use Rattle.std.specs.List.{list_any}
use Rattle.std.specs.Fmt.{WritesInCalls}
use Rattle.std.proofs.lemmas.Fmt.{contents_after_writes}
use Rattle.std.proofs.lemmas.List.{map-append, drop_more, reverse-append}
use Rattle.std.proofs.lemmas.List.Folds.{list_any-append}
use Rattle.indexmap.specs.IndexSet.{insert_key}
use Rattle.tocmark_spelling.specs.Page as page
use Rattle.tocmark_write_renderer.specs.WriterOf.{reference_view}
use Rattle.tocmark_write_renderer.specs.declared.parts.Reference.{Reference}
use Rattle.tocmark_write_labels.specs.Definitions.{definition, distinct_after, lines_of, same_reference}
use Rattle.tocmark_write_labels.specs.DefinitionsOf.{key_view, same_key}
use Rattle.tocmark_write_labels.specs.declared.definitions.Key.{Key}

-- the calls of a writer that is a text append to it
pub written-text : (w v : String Global) (bs : List ℕ) → WritesInCalls (λ s bs t. string_bytes t ≡ string_bytes s ++ bs) w bs v → string_bytes v ≡ string_bytes w ++ bs
written-text w v bs = contents_after_writes _ string_bytes (λ w l v t. t) w bs v

-- definitions that are left, after others or as the first ones
abbrev pub lines_left : Bool → List page.Reference → List ℕ
lines_left true rs = lines_of rs
lines_left false [] = []
lines_left false (r ∷ rs) = codes "\n" ++ lines_of (r ∷ rs)

lines-first : (r : page.Reference) (rs : List page.Reference) → lines_of (r ∷ rs) ≡ definition r ++ lines_left false rs
lines-first r [] = sym (append-nil (definition r))
lines-first r (q ∷ rs) = append_assoc (definition r) (codes "\n") (lines_of (q ∷ rs))

line-behind : (b : Bool) (old : List ℕ) (r : page.Reference) (rs : List page.Reference) → ((if b then old else old ++ codes "\n") ++ definition r) ++ lines_left false rs ≡ old ++ lines_left b (r ∷ rs)
line-behind true old r rs = append_assoc old (definition r) (lines_left false rs) ∙ ap (λ x. old ++ x) (sym (lines-first r rs))
line-behind false old r rs =
    append_assoc (old ++ codes "\n") (definition r) (lines_left false rs) ∙ append_assoc old (codes "\n") (definition r ++ lines_left false rs)
    ∙ ap (λ x. old ++ (codes "\n" ++ x)) (sym (lines-first r rs))

-- one more line
pub line-more : (keys : List Key) (i : ℕ) (d : Key) (old new whole : List ℕ) (b : Bool) → i < length keys
    → new ≡ (if b then old else old ++ codes "\n") ++ definition (key_view (get_or keys i d))
    → old ++ lines_left b (map key_view (drop i keys)) ≡ whole → new ++ lines_left false (map key_view (drop (i + 1) keys)) ≡ whole
line-more keys i d old new whole b lt is_new inv =
    ap (λ x. x ++ lines_left false rest) is_new
    ∙ line-behind b old (key_view (get_or keys i d)) rest
    ∙ ap (λ rs. old ++ lines_left b rs) (sym (ap (map key_view) (drop_more keys i d lt)))
    ∙ inv
  where
    rest : List page.Reference
    rest = map key_view (drop (i + 1) keys)

-- a test doesn't ask for the order
any-last : (b c : Bool) → (b || (c || false)) ≡ (c || b)
any-last true true = refl
any-last true false = refl
any-last false true = refl
any-last false false = refl

any-reverse : (p : page.Reference → Bool) (xs : List page.Reference) → list_any p (reverse xs) ≡ list_any p xs
any-reverse p [] = refl
any-reverse p (x ∷ xs) =
    ap (list_any p) (reverse-append (x ∷ []) xs) ∙ list_any-append p (reverse xs) (x ∷ []) ∙ any-last (list_any p (reverse xs)) (p x) ∙ ap (λ b. p x || b) (any-reverse p xs)

and-assoc : (b c d : Bool) → (b && (c && d)) ≡ ((b && c) && d)
and-assoc true c d = refl
and-assoc false c d = refl

tells : (a b : Key) → same_key a b ≡ same_reference (key_view a) (key_view b)
tells a b = and-assoc (bytes_eq a.label.now b.label.now) (bytes_eq a.destination.now b.destination.now) (bytes_eq a.title.now b.title.now)

any-key : (k : Key) (keys : List Key) → list_any (same_key k) keys ≡ list_any (same_reference (key_view k)) (map key_view keys)
any-key k [] = refl
any-key k (x ∷ keys) = ap (λ b. b || list_any (same_key k) keys) (tells k x) ∙ ap (λ b. same_reference (key_view k) (key_view x) || b) (any-key k keys)

abbrev pub gathered : List Key → List page.Reference → List page.Reference
gathered keys rs = map key_view keys ++ distinct_after (reverse (map key_view keys)) rs

-- one more reference
pub key-inserted : (k : Key) (keys : List Key) (rs : List page.Reference) → gathered (insert_key same_key keys k) rs ≡ gathered keys (key_view k ∷ rs)
key-inserted k keys rs =
    by (list_any (same_key k) keys)
    ∙ ap (λ b. map key_view keys ++ (if b then distinct_after earlier rs else key_view k ∷ distinct_after (key_view k ∷ earlier) rs)) (any-key k keys ∙ sym (any-reverse (same_reference (key_view k)) (map key_view keys)))
  where
    earlier : List page.Reference
    earlier = reverse (map key_view keys)

    by : (b : Bool) → gathered (if b then keys else keys ++ k ∷ []) rs ≡ map key_view keys ++ (if b then distinct_after earlier rs else key_view k ∷ distinct_after (key_view k ∷ earlier) rs)
    by true = refl
    by false =
        ap (λ ks. ks ++ distinct_after (reverse ks) rs) (map-append key_view keys (k ∷ []))
        ∙ ap (λ e. (map key_view keys ++ key_view k ∷ []) ++ distinct_after e rs) (reverse-append (map key_view keys) (key_view k ∷ []))
        ∙ append_assoc (map key_view keys) (key_view k ∷ []) (distinct_after (key_view k ∷ earlier) rs)

pub key-more : (references : List Reference) (i : ℕ) (r : Reference) (k : Key) (keys new : List Key) (whole : List page.Reference) → i < length references → r ≡ get_or references i r → key_view k ≡ reference_view r
    → new ≡ insert_key same_key keys k → gathered keys (map reference_view (drop i references)) ≡ whole → gathered new (map reference_view (drop (i + 1) references)) ≡ whole
key-more references i r k keys new whole lt is is_key is_new inv =
    ap (λ ks. gathered ks rest) is_new ∙ key-inserted k keys rest
    ∙ ap (gathered keys) (ap (λ x. x ∷ rest) (is_key ∙ ap reference_view is) ∙ sym (ap (map reference_view) (drop_more references i r lt)))
    ∙ inv
  where
    rest : List page.Reference
    rest = map reference_view (drop (i + 1) references)
