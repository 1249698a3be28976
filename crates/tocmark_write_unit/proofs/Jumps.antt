-- A body that is skipped, since its id is in its place, can be passed at once.
use Rattle.std.proofs.Common.{◌≡◌, ℕ, zero, suc, ◌<◌, List, [], ◌∷◌, ◌++◌, Option, refl, sym, ap, ◌∙◌, append_assoc, take, drop, length, reverse, arith}
use Rattle.std.proofs.lemmas.List.{reverse-append}
use Rattle.tocmark_event.specs.View.{EventView, SourcedEvent, Start, End, Leaf}
use Rattle.tocmark_spelling.specs.Machine.{going, skipping, run}
use Rattle.tocmark_spelling.specs.Page.{Site}
use Rattle.tocmark_spelling.specs.Plan.{Setting, Manner}
use Rattle.tocmark_spelling.specs.Scans.{span}

-- these events, the last one first, and then those before
abbrev onto : List SourcedEvent → List SourcedEvent → List SourcedEvent
onto [] before = before
onto (e ∷ es) before = onto es (e ∷ before)

onto-reverse : (es before : List SourcedEvent) → onto es before ≡ reverse es ++ before
onto-reverse [] before = refl
onto-reverse (e ∷ es) before =
    onto-reverse es (e ∷ before)
    ∙ sym (append_assoc (reverse es) (e ∷ []) before)
    ∙ ap (λ x. x ++ before) (sym (reverse-append (e ∷ []) es))

module _ (s : Setting) (m : Manner) (next : Option EventView) where
  jumps : (es : List SourcedEvent) (d : ℕ) (here : Site) (before : List SourcedEvent) → span d es < length es → run s m next es (skipping d here before) ≡ run s m next (drop (span d es) es) (going here (onto (take (span d es) es) before))
  jumps [] d here before h = absurd (omega arith)
  jumps (Start t ∷ es) d here before h = jumps es (suc d) here (Start t ∷ before) (omega arith)
  jumps (Leaf l ∷ es) zero here before h = jumps es zero here (Leaf l ∷ before) (omega arith)
  jumps (Leaf l ∷ es) (suc d) here before h = jumps es (suc d) here (Leaf l ∷ before) (omega arith)
  jumps (End k ∷ es) zero here before h = refl
  jumps (End k ∷ es) (suc d) here before h = jumps es d here (End k ∷ before) (omega arith)

  -- from its End on, the machine goes on as if it had come there
  pub passes-body : (es : List SourcedEvent) (here : Site) (before : List SourcedEvent) → span 0 es < length es → run s m next es (skipping 0 here before) ≡ run s m next (drop (span 0 es) es) (going here (reverse (take (span 0 es) es) ++ before))
  passes-body es here before h = jumps es 0 here before h ∙ ap (λ x. run s m next (drop (span 0 es) es) (going here x)) (onto-reverse (take (span 0 es) es) before)
