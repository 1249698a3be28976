-- What the code's scans over flat events find of a body as trees.
use Rattle.std.proofs.Common.{◌≡◌, ℕ, zero, suc, ◌<◌, ◌≤◌, Bool, true, false, Some, None, List, [], ◌∷◌, refl, sym, ap, ◌∙◌, take, drop, length, arith}
use Rattle.std.specs.Prelude.{◌||◌}
use Rattle.std.specs.List.{list_any}
use Rattle.tocmark_event.specs.View.{TagView, SourcedEvent, LeafView, Start, End, Leaf}
use Rattle.tocmark_spelling.specs.Body.{Trees, some_leaf}
use Rattle.tocmark_spelling.specs.Machine.{Layers, layers, with_node, kids_of, behind_end}
use Rattle.tocmark_spelling.specs.Scans.{span, is_leaf}

pub behind-span : (es : List SourcedEvent) (d : ℕ) → span d es < length es → behind_end d es ≡ Some (drop (suc (span d es)) es)
behind-span [] d h = absurd (omega arith)
behind-span (Start t ∷ es) d h = behind-span es (suc d) (omega arith)
behind-span (Leaf l ∷ es) zero h = behind-span es zero (omega arith)
behind-span (Leaf l ∷ es) (suc d) h = behind-span es (suc d) (omega arith)
behind-span (End k ∷ es) zero h = refl
behind-span (End k ∷ es) (suc d) h = behind-span es d (omega arith)

pub behind-open : (es : List SourcedEvent) (d : ℕ) → length es ≤ span d es → behind_end d es ≡ None
behind-open [] d h = refl
behind-open (Start t ∷ es) d h = behind-open es (suc d) (omega arith)
behind-open (Leaf l ∷ es) zero h = behind-open es zero (omega arith)
behind-open (Leaf l ∷ es) (suc d) h = behind-open es (suc d) (omega arith)
behind-open (End k ∷ es) zero h = absurd (omega arith)
behind-open (End k ∷ es) (suc d) h = behind-open es d (omega arith)

or_assoc : (a b c : Bool) → (a || b) || c ≡ a || (b || c)
or_assoc true b c = refl
or_assoc false b c = refl

or_false : (b : Bool) → b || false ≡ b
or_false true = refl
or_false false = refl

module _ (test : LeafView → Bool) where
  abbrev some_outer : ℕ → List Trees → Bool
  some_outer d [] = false
  some_outer zero (f ∷ fs) = false
  some_outer (suc d) (f ∷ fs) = some_leaf test f || some_outer d fs

  abbrev some_layer : ℕ → Layers → Bool
  some_layer d x = some_leaf test x.inner || some_outer d x.outer

  some-node : (t : TagView) (d : ℕ) (kids : Trees) (fs : List Trees) → some_leaf test kids || some_outer (suc d) fs ≡ some_layer d (with_node t kids fs)
  some-node t d kids [] = sym (or_false (some_leaf test kids || false))
  some-node t d kids (f ∷ fs) = sym (or_assoc (some_leaf test kids) _ _)

  scan : (es : List SourcedEvent) (d : ℕ) → list_any (is_leaf test) (take (span d es) es) ≡ some_layer d (layers es)
  scan [] zero = refl
  scan [] (suc d) = refl
  scan (Leaf l ∷ es) zero = ap (λ b. test l.leaf || b) (scan es zero) ∙ sym (or_assoc (test l.leaf) _ _)
  scan (Leaf l ∷ es) (suc d) = ap (λ b. test l.leaf || b) (scan es (suc d)) ∙ sym (or_assoc (test l.leaf) _ _)
  scan (Start t ∷ es) d = scan es (suc d) ∙ some-node t d (layers es).inner (layers es).outer
  scan (End k ∷ es) zero = refl
  scan (End k ∷ es) (suc d) = scan es d

  outer-zero : (fs : List Trees) → some_outer zero fs ≡ false
  outer-zero [] = refl
  outer-zero (f ∷ fs) = refl

  -- a leaf of the body
  pub leaf-scan : (es : List SourcedEvent) → list_any (is_leaf test) (take (span 0 es) es) ≡ some_leaf test (kids_of es)
  leaf-scan es = scan es 0 ∙ ap (λ b. some_leaf test (kids_of es) || b) (outer-zero (layers es).outer) ∙ or_false _
