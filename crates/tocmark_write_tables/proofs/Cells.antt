-- The cells of the row of dashes.
use Rattle.std.proofs.Common.{◌≡◌, ℕ, List, [], ◌∷◌, refl, ap, inl, inr, ◌⊎◌}
use Rattle.tocmark_event.specs.declared.event.Alignment.{Alignment}
use Rattle.tocmark_spelling.specs.Closing.{alignment_cells}

pub cells-none : (as' : List Alignment) (ns : List ℕ) → (as' ≡ []) ⊎ (ns ≡ []) → alignment_cells as' ns ≡ []
cells-none as' ns (inl e) = ap (λ x. alignment_cells x ns) e
cells-none [] ns (inr e) = refl
cells-none (a ∷ as') ns (inr e) = ap (alignment_cells (a ∷ as')) e
