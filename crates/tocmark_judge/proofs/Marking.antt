-- A text with a byte order mark, and without.
use Rattle.std.proofs.Common.{◌≡◌, ◌∙◌, ap, sym, refl, ℕ, List, ◌++◌, true, false, Option, Some, None, MatchOption}
use Rattle.std.proofs.lemmas.Str.Pattern.{starts_text}
use Rattle.std.specs.Str.Pattern.{FindsTextPrefix, StripsPrefix}
use denote.Ref.{Bor}
use Rattle.tocmark_judge.specs.Marks.{after_mark, has_mark, mark}

pub marked : (text rest : List ℕ) → text ≡ mark ++ rest → has_mark text ≡ true
marked text rest e = ap has_mark e

pub rest-marked : (text rest : List ℕ) → text ≡ mark ++ rest → after_mark text ≡ rest
rest-marked text rest e = ap after_mark e

pub rest-unmarked : (text : List ℕ) → has_mark text ≡ false → after_mark text ≡ text
rest-unmarked text e = rw e refl

pub stripped : (text : List ℕ) (r : Option (Bor (List ℕ))) → MatchOption r (FindsTextPrefix mark text None) (λ x. StripsPrefix (FindsTextPrefix mark) text x.now) → MatchOption r (has_mark text ≡ false) (λ x. text ≡ mark ++ x.now)
stripped text None h = sym (starts_text false mark text h)
stripped text (Some x) h = h.1.1 ∙ ap (λ rest. mark ++ rest) (sym h.2)
