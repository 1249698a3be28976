-- One more definition is said.
use Rattle.std.proofs.Common.{◌≡◌, ◌∙◌, sym, ap, ℕ, ◌+◌, ◌<◌, List, [], ◌∷◌, ◌++◌, append_assoc, drop, get_or, length, map, slice_get, unwrap_or}
use Rattle.std.proofs.lemmas.List.{drop_more, map-append}
use Rattle.tocmark_read_scan.specs.Basic.{plus}
use Rattle.tocmark_read_scan.specs.declared.syntax.Names.{Names}
use Rattle.tocmark_read_page.specs.Definitions.{definition_view}
use Rattle.tocmark_read_page.specs.declared.definition.LinkDefinition.{LinkDefinition}
use Rattle.tocmark_reader.specs.Definitions.{SaidDefinition, no_place, said_at, said_from, said_view}
use Rattle.tocmark_reader.specs.declared.definitions.DefinitionPlace.{DefinitionPlace}
use Rattle.tocmark_reader.specs.declared.definitions.ReferenceDefinition.{ReferenceDefinition}

pub said-more : (names : Names) (text : List ℕ) (places : List DefinitionPlace) (at next i : ℕ) (all : List ReferenceDefinition) (x : ReferenceDefinition) (found : List LinkDefinition) (one : LinkDefinition) (place : DefinitionPlace) (whole : List SaidDefinition) → i < length found → one ≡ get_or found i one → next ≡ plus at 1 → place ≡ unwrap_or (slice_get places at) no_place → said_view x ≡ said_at names text (definition_view one) place → map said_view all ++ said_from names text places at (map definition_view (drop i found)) ≡ whole → map said_view (all ++ x ∷ []) ++ said_from names text places next (map definition_view (drop (i + 1) found)) ≡ whole
said-more names text places at next i all x found one place whole lt is n p s h =
    let rest = said_from names text places (plus at 1) (map definition_view (drop (i + 1) found)) in
    let here : said_from names text places at (map definition_view (drop i found)) ≡ said_view x ∷ rest =
    ap (λ (ds : List LinkDefinition). said_from names text places at (map definition_view ds)) (drop_more found i one lt ∙ ap (λ (d : LinkDefinition). d ∷ drop (i + 1) found) (sym is))
    ∙ ap (λ (q : DefinitionPlace). said_at names text (definition_view one) q ∷ rest) (sym p)
    ∙ ap (λ (v : SaidDefinition). v ∷ rest) (sym s) in
    ap (λ (m : ℕ). map said_view (all ++ x ∷ []) ++ said_from names text places m (map definition_view (drop (i + 1) found))) n
    ∙ ap (λ (xs : List SaidDefinition). xs ++ rest) (map-append said_view all (x ∷ []))
    ∙ append_assoc (map said_view all) (said_view x ∷ []) rest
    ∙ ap (λ (xs : List SaidDefinition). map said_view all ++ xs) (sym here)
    ∙ h
