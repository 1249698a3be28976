-- Texts that are alike.
use Rattle.std.proofs.Common.{◌≡◌, ◌∙◌, ℕ, Bool, List, ◌++◌, false, refl, subst, sym}
use Rattle.tocmark_event.specs.Reading.{ReadingView}
use Rattle.tocmark_event.specs.declared.event.flags.ParserOptions.{ParserOptions}
use Rattle.tocmark_judge.specs.Alike.{AreAlike}
use Rattle.tocmark_judge.specs.LinkDefinitions.{DefinedLink}
use Rattle.tocmark_judge.specs.Marks.{after_mark, has_mark, mark}
use Rattle.tocmark_judge.proofs.Marking.{rest-marked, rest-unmarked}

-- those that have the same bytes
pub same-alike : (folds : Bool) (flags : ParserOptions) (also : List ParserOptions) (reading : List ℕ → ParserOptions → ReadingView) (definitions : List ℕ → ParserOptions → List DefinedLink) (one other : List ℕ) → one ≡ other → AreAlike folds flags also reading definitions one other
same-alike folds flags also reading definitions one other e =
    subst (λ text. AreAlike folds flags also reading definitions one text) e (refl, refl, (λ k d l. refl), refl, refl)

-- one is alike what comes after the mark of another
pub rest-alike : (folds : Bool) (flags : ParserOptions) (also : List ParserOptions) (reading : List ℕ → ParserOptions → ReadingView) (definitions : List ℕ → ParserOptions → List DefinedLink) (one text rest : List ℕ) → text ≡ mark ++ rest → AreAlike folds flags also reading definitions one rest → AreAlike folds flags also reading definitions one (after_mark text)
rest-alike folds flags also reading definitions one text rest e h =
    subst (λ t. AreAlike folds flags also reading definitions one t) (sym (rest-marked text rest e)) h

-- and what comes after the mark of another is alike one
pub alike-rest : (folds : Bool) (flags : ParserOptions) (also : List ParserOptions) (reading : List ℕ → ParserOptions → ReadingView) (definitions : List ℕ → ParserOptions → List DefinedLink) (one text rest : List ℕ) → text ≡ mark ++ rest → AreAlike folds flags also reading definitions rest one → AreAlike folds flags also reading definitions (after_mark text) one
alike-rest folds flags also reading definitions one text rest e h =
    subst (λ t. AreAlike folds flags also reading definitions t one) (sym (rest-marked text rest e)) h

-- texts without a mark
pub bare-alike : (folds : Bool) (flags : ParserOptions) (also : List ParserOptions) (reading : List ℕ → ParserOptions → ReadingView) (definitions : List ℕ → ParserOptions → List DefinedLink) (one other : List ℕ) → has_mark other ≡ false → AreAlike folds flags also reading definitions one other → AreAlike folds flags also reading definitions (after_mark one) (after_mark other)
bare-alike folds flags also reading definitions one other none h =
    subst (λ t. AreAlike folds flags also reading definitions t (after_mark other)) (sym (rest-unmarked one (h.3 ∙ none)))
    (subst (λ t. AreAlike folds flags also reading definitions one t) (sym (rest-unmarked other none)) h)
