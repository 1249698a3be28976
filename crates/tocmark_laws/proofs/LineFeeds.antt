-- The line feeds that end what is laid on a sheet.
use Rattle.std.proofs.Common.{◌≡◌, ℕ, ◌==◌, ◌+◌, cond, if◌then◌else◌, Bool, true, false, List, [], ◌∷◌, ◌++◌, refl, ap, sym, ◌∙◌, append_assoc, append-nil, arith, flat_map}
use Rattle.std.proofs.lemmas.List.{reverse-append}
use Rattle.std.specs.List.{prefix_len}
use Rattle.tocmark_spelling.specs.Page.{Sheet, laid, put_byte, feeds_after}
use Rattle.tocmark_laws.specs.LineFeeds.{Part, ending_feeds, laid_in_turn}

one-behind : (b : Bool) (n : ℕ) → (if b then n + 1 else 0) ≡ cond b (1 + n) 0
one-behind true n = omega arith
one-behind false n = refl

-- one byte more
feeds-byte : (before : List ℕ) (b : ℕ) → feeds_after b (ending_feeds before) ≡ ending_feeds (before ++ b ∷ [])
feeds-byte before b = one-behind (b == 10) (ending_feeds before) ∙ ap (prefix_len (λ c. c == 10)) (sym (reverse-append before (b ∷ [])))

pub feeds_more : (prefix text before : List ℕ) (s : Sheet) → s.feeds ≡ ending_feeds before → (laid prefix text s).feeds ≡ ending_feeds (before ++ text)
feeds_more prefix [] before s is = is ∙ ap ending_feeds (sym (append-nil before))
feeds_more prefix (b ∷ bs) before s is =
    feeds_more prefix bs (before ++ b ∷ []) (put_byte prefix b s) (ap (feeds_after b) is ∙ feeds-byte before b)
    ∙ ap ending_feeds (append_assoc before (b ∷ []) bs)

feeds-behind : (parts : List Part) (before : List ℕ) (s : Sheet) → s.feeds ≡ ending_feeds before → (laid_in_turn parts s).feeds ≡ ending_feeds (before ++ flat_map (λ p. p.text) parts)
feeds-behind [] before s is = is ∙ ap ending_feeds (sym (append-nil before))
feeds-behind (p ∷ ps) before s is =
    feeds-behind ps (before ++ p.text) (laid p.prefix p.text s) (feeds_more p.prefix p.text before s is)
    ∙ ap ending_feeds (append_assoc before p.text (flat_map (λ p. p.text) ps))

pub feeds_all : (parts : List Part) → (laid_in_turn parts (record { text = []; feeds = 0 })).feeds ≡ ending_feeds (flat_map (λ p. p.text) parts)
feeds_all parts = feeds-behind parts [] (record { text = []; feeds = 0 }) refl
