-- What a writer that keeps what it takes holds after a call that handed exactly one text.
use Rattle.std.proofs.Common.{◌≡◌, ℕ, List, ◌++◌, ap, ◌∙◌, append-nil}
use Rattle.std.specs.List.{FoldsTo, concat}
use Rattle.tocmark_laws.proofs.Handed.{kept_in_parts}
use Rattle.tocmark_laws.specs.Paragraphs.{Keeps}
use Rattle.tocmark_state.specs.Walk.{Walk, Done}
use Rattle.tocmark_laws.specs.Links.{one_text_walk}

-- the text is after what it held
pub appended : {W : Type 0} {takes : W → List ℕ → W → Type 0} (contents : W → List ℕ) (keeps : Keeps takes contents) (w v : W) (walk : Walk Done) (text : List ℕ) → walk ≡ one_text_walk text → FoldsTo takes w walk.texts v → contents v ≡ contents w ++ text
appended contents keeps w v walk text is took =
    kept_in_parts contents keeps walk.texts w v took
    ∙ ap (λ (u : Walk Done). contents w ++ concat u.texts) is
    ∙ ap (λ t. contents w ++ t) (append-nil text)
