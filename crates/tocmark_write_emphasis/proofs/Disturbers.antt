-- The starts of the nodes that disturb, one event after the other.
use Rattle.std.proofs.Common.{◌≡◌, ℕ, suc, ◌+◌, Bool, Option, List, [], ◌∷◌, ◌++◌, refl, sym, ap, ◌∙◌, take, drop, reverse, arith}
use Rattle.std.specs.Prelude.{◌&&◌}
use Rattle.std.proofs.lemmas.List.{append_assoc, drop-drop}
use Rattle.tocmark_event.specs.View.{SourcedEvent, TagView, Start, End, Leaf}
use Rattle.tocmark_spelling.specs.Plan.{Setting}
use Rattle.tocmark_spelling.specs.Runs.{start_width, close_width, counts, disturbs_at}
use Rattle.tocmark_spelling.specs.Scans.{span}
use Rattle.tocmark_write_pending.specs.Ahead.{behind_body, character_before, character_after, starts_disturber, disturbers}
use Rattle.tocmark_write_emphasis.specs.Marks.{mark_of}
use Rattle.tocmark_write_pending.proofs.Ahead.{place-rest, place-before}

mark-is : (s : Setting) (runs : Bool) (e : SourcedEvent) (before rest : List SourcedEvent) (b f a : Option ℕ)
    → b ≡ character_before runs before → f ≡ character_after runs start_width rest
    → ((t : TagView) → e ≡ Start t → a ≡ character_after runs close_width (behind_body rest))
    → mark_of s runs e b f a ≡ starts_disturber s runs before e rest
mark-is s runs (Start t) before rest b f a p q r = let behind = r t refl in λ i. counts runs t && disturbs_at s (p i) (q i) (behind i)
mark-is s runs (End k) before rest b f a p q r = refl
mark-is s runs (Leaf l) before rest b f a p q r = refl

module _ (es rest : List SourcedEvent) (n : ℕ) (e : SourcedEvent) (at : drop n es ≡ e ∷ rest) where
  -- the event at a place
  pub mark-at : (s : Setting) (runs : Bool) (end : ℕ) (m : Bool) → ((t : TagView) → drop n es ≡ Start t ∷ rest → end ≡ n + 1 + span 0 rest)
      → m ≡ mark_of s runs e (character_before runs (reverse (take n es))) (character_after runs start_width (drop (n + 1) es)) (character_after runs close_width (drop (end + 1) es))
      → m ≡ starts_disturber s runs (reverse (take n es)) e rest
  mark-at s runs end m reach is =
      let next : drop (n + 1) es ≡ rest = place-rest es rest n e at in
      let beyond : (t : TagView) → e ≡ Start t → drop (end + 1) es ≡ behind_body rest = λ t start.
      let place : end + 1 ≡ n + 1 + suc (span 0 rest) = omega (arith, reach t (at ∙ ap (λ x. x ∷ rest) start)) in
      ap (λ k. drop k es) place ∙ sym (drop-drop (suc (span 0 rest)) (n + 1) es) ∙ ap (drop (suc (span 0 rest))) next in
      is ∙ mark-is s runs e (reverse (take n es)) rest (character_before runs (reverse (take n es))) (character_after runs start_width (drop (n + 1) es)) (character_after runs close_width (drop (end + 1) es))
      refl (ap (character_after runs start_width) next) (λ t start. ap (character_after runs close_width) (beyond t start))

  -- one mark more
  pub marks-step : (s : Setting) (runs : Bool) (marks new whole : List Bool) (m : Bool) → new ≡ marks ++ m ∷ [] → m ≡ starts_disturber s runs (reverse (take n es)) e rest
      → marks ++ disturbers s runs (reverse (take n es)) (drop n es) ≡ whole → new ++ disturbers s runs (reverse (take (n + 1) es)) (drop (n + 1) es) ≡ whole
  marks-step s runs marks new whole m add is h =
      ap (λ x. x ++ disturbers s runs (reverse (take (n + 1) es)) (drop (n + 1) es)) add
      ∙ append_assoc marks (m ∷ []) (disturbers s runs (reverse (take (n + 1) es)) (drop (n + 1) es))
      ∙ ap (λ x. marks ++ m ∷ disturbers s runs x (drop (n + 1) es)) (place-before es rest n e at)
      ∙ ap (λ x. marks ++ m ∷ disturbers s runs (e ∷ reverse (take n es)) x) (place-rest es rest n e at)
      ∙ ap (λ x. marks ++ x ∷ disturbers s runs (e ∷ reverse (take n es)) rest) is
      ∙ ap (λ x. marks ++ disturbers s runs (reverse (take n es)) x) (sym at)
      ∙ h
