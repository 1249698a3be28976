-- What a forest's events say of the forest: whether it has delimiters, and texts whose source is known.
use Rattle.std.proofs.Common.{◌≡◌, ℕ, suc, arith, Bool, true, false, not, List, [], ◌∷◌, length, refl, sym, ap, ◌∙◌}
use Rattle.std.specs.Prelude.{◌||◌, ◌==◌}
use Rattle.std.specs.List.{list_any}
use Rattle.std.proofs.lemmas.Bool.Decides.{nat_tests}
use Rattle.tocmark_event.specs.Forest.{empty, leaf, node, flat, flat_onto}
use Rattle.tocmark_event.specs.View.{SourcedEvent, End, end_of}
use Rattle.tocmark_spelling.specs.Body.{Trees, some_leaf}
use Rattle.tocmark_choose.specs.Candidates.{has_event, has_source, is_delimiter_block, is_delimiter_tag, is_math, is_sourced, some_tag}
use Rattle.tocmark_write_unit.specs.CensusOf.{is_delimiter_event, is_sourced_event}

or-assoc : (a b c : Bool) → (a || b) || c ≡ a || (b || c)
or-assoc true b c = refl
or-assoc false b c = refl

or-false : (b : Bool) → b || false ≡ b
or-false true = refl
or-false false = refl

source-onto : (f : Trees) (r : List SourcedEvent) → list_any is_sourced_event (flat_onto f r) ≡ has_source f || list_any is_sourced_event r
source-onto empty r = refl
source-onto (leaf l f) r =
    ap (λ b. is_sourced l || b) (source-onto f r) ∙ sym (or-assoc (is_sourced l) (has_source f) (list_any is_sourced_event r))
source-onto (node t kids f) r =
    source-onto kids (End (end_of t) ∷ flat_onto f r)
    ∙ ap (λ b. has_source kids || b) (source-onto f r)
    ∙ sym (or-assoc (has_source kids) (has_source f) (list_any is_sourced_event r))

-- the source of some text in a forest is known just where that of an event is
pub source-flat : (es : List SourcedEvent) (f : Trees) → flat f ≡ es → has_source f ≡ list_any is_sourced_event es
source-flat es f e = sym (or-false (has_source f)) ∙ sym (source-onto f []) ∙ ap (list_any is_sourced_event) e

-- a leaf's test goes in front of what is asked of the rest
leaf-delimiters : (m a b r : Bool) → m || ((a || b) || r) ≡ (a || (m || b)) || r
leaf-delimiters true true b r = refl
leaf-delimiters true false b r = refl
leaf-delimiters false a b r = refl

-- a tag's test goes in front of what is asked of the body and the rest
node-delimiters : (t a b c e r : Bool) → t || ((a || b) || ((c || e) || r)) ≡ (t || a || c || (b || e)) || r
node-delimiters true a b c e r = refl
node-delimiters false true b c e r = refl
node-delimiters false false true true e r = refl
node-delimiters false false true false e r = refl
node-delimiters false false false c e r = refl

delimiters-onto : (f : Trees) (r : List SourcedEvent) → list_any is_delimiter_event (flat_onto f r) ≡ is_delimiter_block f || list_any is_delimiter_event r
delimiters-onto empty r = refl
delimiters-onto (leaf l f) r =
    ap (λ b. is_math l.leaf || b) (delimiters-onto f r)
    ∙ leaf-delimiters (is_math l.leaf) (some_tag is_delimiter_tag f) (some_leaf is_math f) (list_any is_delimiter_event r)
delimiters-onto (node t kids f) r =
    ap (λ b. is_delimiter_tag t || b) (delimiters-onto kids (End (end_of t) ∷ flat_onto f r))
    ∙ ap (λ b. is_delimiter_tag t || (is_delimiter_block kids || b)) (delimiters-onto f r)
    ∙ node-delimiters (is_delimiter_tag t) (some_tag is_delimiter_tag kids) (some_leaf is_math kids) (some_tag is_delimiter_tag f) (some_leaf is_math f) (list_any is_delimiter_event r)

-- a forest has delimiters just where one of its events is written by some
pub delimiters-flat : (es : List SourcedEvent) (f : Trees) → flat f ≡ es → is_delimiter_block f ≡ list_any is_delimiter_event es
delimiters-flat es f e = sym (or-false (is_delimiter_block f)) ∙ sym (delimiters-onto f []) ∙ ap (list_any is_delimiter_event) e

some-length : (n : ℕ) → true ≡ not (suc n == 0)
some-length n = grind (arith, nat_tests)

event-onto : (f : Trees) → has_event f ≡ not (length (flat_onto f []) == 0)
event-onto empty = refl
event-onto (leaf l f) = some-length (length (flat_onto f []))
event-onto (node t kids f) = some-length (length (flat_onto kids (End (end_of t) ∷ flat_onto f [])))

-- a forest has an event just where its list of events does
pub event-flat : (es : List SourcedEvent) (f : Trees) → flat f ≡ es → has_event f ≡ not (length es == 0)
event-flat es f e = event-onto f ∙ ap (λ (xs : List SourcedEvent). not (length xs == 0)) e
