-- The definitions that a document has already: how they are looked up, and which references are left.
use Rattle.std.proofs.Common.{◌≡◌, ◌∙◌, sym, ap, refl, arith, ℕ, ◌+◌, ◌<◌, ◌==◌, Bool, true, false, not, cond, if◌then◌else◌, Option, Some, List, [], ◌∷◌, bytes_eq, length, map, drop, get_or, string_bytes}
use Rattle.std.specs.Option.{option_map}
use Rattle.std.proofs.lemmas.Bool.Decides.{nat_tests}
use Rattle.std.proofs.lemmas.List.{drop_more}
use Rattle.indexmap.specs.IndexSet.{insert_key}
use Rattle.tocmark_spelling.specs.Page as page
use Rattle.tocmark_write_renderer.specs.WriterOf.{reference_view}
use Rattle.tocmark_write_renderer.specs.declared.parts.Reference.{Reference}
use Rattle.tocmark_write_labels.specs.Defined.{definition_for, is_defined, undefined}
use Rattle.tocmark_write_labels.specs.Definitions.{definitions_text, distinct}
use Rattle.tocmark_write_labels.specs.DefinitionsOf.{key_view, lines_behind, same_key}
use Rattle.tocmark_write_labels.specs.Document.{with_label, with_labels}
use Rattle.tocmark_write_labels.specs.Matched.{label_key}
use Rattle.tocmark_write_labels.specs.declared.definitions.Key.{Key}
use Rattle.tocmark_write_labels.proofs.DefinitionTexts.{gathered, key-inserted}

-- no definition defines a reference
pub none-defined : (rs : List page.Reference) → undefined [] rs ≡ rs
none-defined [] = refl
none-defined (r ∷ rs) = ap (λ x. r ∷ x) (none-defined rs)

pub without-definitions : (defined : List Reference) (rs : List page.Reference) → (length defined == 0) ≡ true → undefined (map reference_view defined) rs ≡ rs
without-definitions [] rs h = none-defined rs
without-definitions (d ∷ ds) rs h = absurd (grind (arith, nat_tests))

-- what is written of distinct references is what is written of all
pub distinct-lines : (rs : List page.Reference) (feeds : ℕ) → lines_behind (distinct rs) feeds ≡ definitions_text rs feeds
unfolding definitions_text
distinct-lines [] feeds = refl
distinct-lines (r ∷ rs) feeds = refl

-- one more label of a list is added
pub labels-added : (defined : List Reference) (i : ℕ) (d : Reference) (old new whole : List (List ℕ)) → i < length defined → d ≡ get_or defined i d → new ≡ with_label old (string_bytes d.label)
    → with_labels old (map (λ r. r.label) (map reference_view (drop i defined))) ≡ whole → with_labels new (map (λ r. r.label) (map reference_view (drop (i + 1) defined))) ≡ whole
labels-added defined i d old new whole lt is e inv =
    ap (λ x. with_labels x (map (λ r. r.label) (map reference_view (drop (i + 1) defined)))) e
    ∙ ap (λ (x : Reference). with_labels (with_label old (string_bytes x.label)) (map (λ r. r.label) (map reference_view (drop (i + 1) defined)))) is
    ∙ ap (λ (x : List Reference). with_labels old (map (λ r. r.label) (map reference_view x))) (sym (drop_more defined i d lt))
    ∙ inv

mapped-cond : (b : Bool) (k : Key) (o : Option Key) → option_map key_view (cond b (Some k) o) ≡ cond b (Some (key_view k)) (option_map key_view o)
mapped-cond true k o = refl
mapped-cond false k o = refl

-- one more definition, in front of those after it
pub definition-before : (defined : List Reference) (p : ℕ) (r : Reference) (k : Key) (f q : List ℕ) (old new : Option Key) → p < length defined → r ≡ get_or defined p r → key_view k ≡ reference_view r → f ≡ label_key k.label.now
    → new ≡ cond (bytes_eq f q) (Some k) old → option_map key_view old ≡ definition_for (map reference_view (drop (p + 1) defined)) q
    → option_map key_view new ≡ definition_for (map reference_view (drop p defined)) q
definition-before defined p r k f q old new lt is is_key is_label is_new behind =
    ap (λ o. option_map key_view o) is_new
    ∙ mapped-cond (bytes_eq f q) k old
    ∙ ap (λ o. cond (bytes_eq f q) (Some (key_view k)) o) behind
    ∙ ap (λ x. cond (bytes_eq x q) (Some (key_view k)) rest) is_label
    ∙ ap (λ (x : page.Reference). cond (bytes_eq (label_key x.label) q) (Some x) rest) (is_key ∙ ap reference_view is)
    ∙ sym (ap (λ (x : List Reference). definition_for (map reference_view x) q) (drop_more defined p r lt))
  where
    rest : Option page.Reference
    rest = definition_for (map reference_view (drop (p + 1) defined)) q

module _ (defined : List page.Reference) where
  left-step : (r : page.Reference) (rs : List page.Reference) (b : Bool) → b ≡ is_defined defined r → undefined defined (r ∷ rs) ≡ cond (not b) (r ∷ undefined defined rs) (undefined defined rs)
  left-step r rs b h = ap (λ c. cond (not c) (r ∷ undefined defined rs) (undefined defined rs)) (sym h)

  key-left : (k : Key) (keys : List Key) (rs : List page.Reference) (b : Bool) → b ≡ is_defined defined (key_view k) → gathered (if b then keys else insert_key same_key keys k) (undefined defined rs) ≡ gathered keys (undefined defined (key_view k ∷ rs))
  key-left k keys rs true h = ap (gathered keys) (sym (left-step (key_view k) rs true h))
  key-left k keys rs false h = key-inserted k keys (undefined defined rs) ∙ ap (gathered keys) (sym (left-step (key_view k) rs false h))

  -- one more reference
  pub left-more : (references : List Reference) (i : ℕ) (r : Reference) (k : Key) (keys new : List Key) (b : Bool) (whole : List page.Reference) → i < length references → r ≡ get_or references i r → key_view k ≡ reference_view r
      → b ≡ is_defined defined (key_view k) → new ≡ (if b then keys else insert_key same_key keys k)
      → gathered keys (undefined defined (map reference_view (drop i references))) ≡ whole → gathered new (undefined defined (map reference_view (drop (i + 1) references))) ≡ whole
  left-more references i r k keys new b whole lt is is_key is_defined is_new inv =
      ap (λ ks. gathered ks (undefined defined rest)) is_new ∙ key-left k keys rest b is_defined
      ∙ ap (λ (x : List page.Reference). gathered keys (undefined defined x)) (ap (λ x. x ∷ rest) (is_key ∙ ap reference_view is) ∙ sym (ap (map reference_view) (drop_more references i r lt)))
      ∙ inv
    where
      rest : List page.Reference
      rest = map reference_view (drop (i + 1) references)
