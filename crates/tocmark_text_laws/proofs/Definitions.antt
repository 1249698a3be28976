-- Definitions of links in a text after one more byte.
use Rattle.std.proofs.Common.{◌≡◌, ℕ, List, [], ◌∷◌, ◌++◌, map, flat_map, refl, ap, ◌∙◌}
use Rattle.tocmark_read_page.specs.Definitions.{DefinitionView, begins_definition, replaced, joined_line, joined, definitions_from}
use Rattle.tocmark_read_page.specs.declared.piece.Piece.{Piece}
use Rattle.tocmark_text_laws.specs.Further.{piece_on}
use Rattle.tocmark_text_laws.proofs.LinesFurther.{between_on}

same_begins : (t : List ℕ) (b : ℕ) (ls : List Piece) → begins_definition (b ∷ t) (map piece_on ls) ≡ begins_definition t ls
unfolding begins_definition
same_begins t b [] = refl
same_begins t b (l ∷ ls) = refl

pub same_joined : (t : List ℕ) (b : ℕ) (ls : List Piece) → joined (b ∷ t) (map piece_on ls) ≡ joined t ls
same_joined t b [] = refl
same_joined t b (l ∷ ls) =
    ap (λ bs. (flat_map replaced bs ++ 10 ∷ []) ++ joined (b ∷ t) (map piece_on ls)) (between_on t b l.start l.end)
    ∙ ap (λ bs. joined_line t l ++ bs) (same_joined t b ls)

pub same_definitions : (t : List ℕ) (b : ℕ) (ls : List Piece) (ds : List DefinitionView) → definitions_from (b ∷ t) (map piece_on ls) ds ≡ definitions_from t ls ds
unfolding definitions_from
same_definitions t b ls ds = rw (same_begins t b ls, same_joined t b ls) refl
