-- What the leaves of a body come to, in trees and in the flat list.
use Rattle.std.proofs.Common.{◌≡◌, ℕ, zero, suc, false, Option, Some, None, List, [], ◌∷◌, ◌++◌, refl, sym, ap, ◌∙◌, take}
use Rattle.std.proofs.lemmas.List.{append_assoc, append-nil}
use Rattle.tocmark_event.specs.View.{TagView, SourcedEvent, LeafView, Start, End, Leaf}
use Rattle.tocmark_write_pending.specs.Ahead.{ends_here, begins_with_paragraph, texts_of, first_of}
use Rattle.tocmark_spelling.specs.Body.{Trees, is_empty, begins_paragraph, joined_by, first_html, html_in}
use Rattle.tocmark_spelling.specs.Kinds.{is_paragraph}
use Rattle.tocmark_spelling.specs.Machine.{Layers, layers, with_node, kids_of}
use Rattle.tocmark_spelling.specs.Scans.{span}
use Rattle.tocmark_spelling.specs.Words.{or_else}

node-empty : (t : TagView) (kids : Trees) (fs : List Trees) → false ≡ is_empty (with_node t kids fs).inner
node-empty t kids [] = refl
node-empty t kids (f ∷ fs) = refl

pub empty-scan : (es : List SourcedEvent) → ends_here es ≡ is_empty (kids_of es)
empty-scan [] = refl
empty-scan (Leaf l ∷ es) = refl
empty-scan (End k ∷ es) = refl
empty-scan (Start t ∷ es) = node-empty t (layers es).inner (layers es).outer

node-begins : (t : TagView) (kids : Trees) (fs : List Trees) → is_paragraph t ≡ begins_paragraph (with_node t kids fs).inner
node-begins t kids [] = refl
node-begins t kids (f ∷ fs) = refl

pub begins-scan : (es : List SourcedEvent) → begins_with_paragraph es ≡ begins_paragraph (kids_of es)
begins-scan [] = refl
begins-scan (Leaf l ∷ es) = refl
begins-scan (End k ∷ es) = refl
begins-scan (Start t ∷ es) = node-begins t (layers es).inner (layers es).outer

module _ (text : LeafView → List ℕ) where
  abbrev outer_texts : ℕ → List Trees → List ℕ
  outer_texts d [] = []
  outer_texts zero (f ∷ fs) = []
  outer_texts (suc d) (f ∷ fs) = joined_by text f ++ outer_texts d fs

  abbrev layer_texts : ℕ → Layers → List ℕ
  layer_texts d x = joined_by text x.inner ++ outer_texts d x.outer

  node-texts : (t : TagView) (d : ℕ) (kids : Trees) (fs : List Trees) → joined_by text kids ++ outer_texts (suc d) fs ≡ layer_texts d (with_node t kids fs)
  node-texts t d kids [] = sym (append-nil (joined_by text kids ++ []))
  node-texts t d kids (f ∷ fs) = sym (append_assoc (joined_by text kids) (joined_by text f) (outer_texts d fs))

  texts-scan : (es : List SourcedEvent) (d : ℕ) → texts_of text (take (span d es) es) ≡ layer_texts d (layers es)
  texts-scan [] zero = refl
  texts-scan [] (suc d) = refl
  texts-scan (Leaf l ∷ es) zero = ap (λ b. text l.leaf ++ b) (texts-scan es zero) ∙ sym (append_assoc (text l.leaf) (joined_by text (kids_of es)) (outer_texts zero (layers es).outer))
  texts-scan (Leaf l ∷ es) (suc d) = ap (λ b. text l.leaf ++ b) (texts-scan es (suc d)) ∙ sym (append_assoc (text l.leaf) (joined_by text (kids_of es)) (outer_texts (suc d) (layers es).outer))
  texts-scan (Start t ∷ es) d = texts-scan es (suc d) ∙ node-texts t d (layers es).inner (layers es).outer
  texts-scan (End k ∷ es) zero = refl
  texts-scan (End k ∷ es) (suc d) = texts-scan es d

  no-outer : (fs : List Trees) → outer_texts zero fs ≡ []
  no-outer [] = refl
  no-outer (f ∷ fs) = refl

  -- the texts of a body joined
  pub joined-scan : (es : List SourcedEvent) → texts_of text (take (span 0 es) es) ≡ joined_by text (kids_of es)
  joined-scan es = texts-scan es 0 ∙ ap (λ b. joined_by text (kids_of es) ++ b) (no-outer (layers es).outer) ∙ append-nil (joined_by text (kids_of es))

or-assoc : (a b c : Option (List ℕ)) → or_else (or_else a b) c ≡ or_else a (or_else b c)
or-assoc None b c = refl
or-assoc (Some x) b c = refl

or-none : (a : Option (List ℕ)) → or_else a None ≡ a
or-none None = refl
or-none (Some x) = refl

abbrev outer_first : ℕ → List Trees → Option (List ℕ)
outer_first d [] = None
outer_first zero (f ∷ fs) = None
outer_first (suc d) (f ∷ fs) = or_else (first_html f) (outer_first d fs)

abbrev layer_first : ℕ → Layers → Option (List ℕ)
layer_first d x = or_else (first_html x.inner) (outer_first d x.outer)

node-first : (t : TagView) (d : ℕ) (kids : Trees) (fs : List Trees) → or_else (first_html kids) (outer_first (suc d) fs) ≡ layer_first d (with_node t kids fs)
node-first t d kids [] = sym (or-none (or_else (first_html kids) None))
node-first t d kids (f ∷ fs) = sym (or-assoc (first_html kids) (first_html f) (outer_first d fs))

first-layers : (es : List SourcedEvent) (d : ℕ) → first_of html_in (take (span d es) es) ≡ layer_first d (layers es)
first-layers [] zero = refl
first-layers [] (suc d) = refl
first-layers (Leaf l ∷ es) zero = ap (λ b. or_else (html_in l.leaf) b) (first-layers es zero) ∙ sym (or-assoc (html_in l.leaf) (first_html (kids_of es)) (outer_first zero (layers es).outer))
first-layers (Leaf l ∷ es) (suc d) = ap (λ b. or_else (html_in l.leaf) b) (first-layers es (suc d)) ∙ sym (or-assoc (html_in l.leaf) (first_html (kids_of es)) (outer_first (suc d) (layers es).outer))
first-layers (Start t ∷ es) d = first-layers es (suc d) ∙ node-first t d (layers es).inner (layers es).outer
first-layers (End k ∷ es) zero = refl
first-layers (End k ∷ es) (suc d) = first-layers es d

none-outer : (fs : List Trees) → outer_first zero fs ≡ None
none-outer [] = refl
none-outer (f ∷ fs) = refl

-- the first HTML of a body
pub first-scan : (es : List SourcedEvent) → first_of html_in (take (span 0 es) es) ≡ first_html (kids_of es)
first-scan es = first-layers es 0 ∙ ap (λ b. or_else (first_html (kids_of es)) b) (none-outer (layers es).outer) ∙ or-none (first_html (kids_of es))
