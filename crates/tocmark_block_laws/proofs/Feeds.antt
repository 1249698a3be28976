-- No line has a line feed in it.
use Rattle.std.proofs.Common.{◌≡◌, ℕ, zero, suc, Bool, true, false, ◌==◌, List, [], ◌∷◌, ◌++◌, drop, refl}
use Rattle.std.specs.List.{AllByRecursion, list_any}
use Rattle.tocmark_read_scan.proofs.PlainTests.{both_false}
use Rattle.tocmark_commonmark.specs.Lines.{Line, line_bytes, plain_bytes, last_line, line_ended, lines_after, lines_of}

-- a line feed
abbrev pub is_feed : ℕ → Bool
is_feed b = b == 10

-- some byte is a line feed
abbrev pub has_feed : List ℕ → Bool
has_feed xs = list_any is_feed xs

pub feed_drop : (n : ℕ) (xs : List ℕ) → has_feed xs ≡ false → has_feed (drop n xs) ≡ false
feed_drop zero xs h = h
feed_drop (suc n) [] h = refl
feed_drop (suc n) (x ∷ xs) h = feed_drop n xs ((both_false (is_feed x) (has_feed xs) h).1)

feed_more : (xs : List ℕ) (b : ℕ) → has_feed xs ≡ false → is_feed b ≡ false → has_feed (xs ++ b ∷ []) ≡ false
feed_more [] b h k = rw k refl
feed_more (x ∷ xs) b h k = let both = both_false (is_feed x) (has_feed xs) h in rw (both.0) (feed_more xs b (both.1) k)

-- such a line
abbrev pub IsFeedless : Line → Type 0
IsFeedless l = has_feed (line_bytes l) ≡ false

feedless_last : (line : List ℕ) → has_feed line ≡ false → AllByRecursion IsFeedless (last_line line)
feedless_last [] h = tt
feedless_last (b ∷ bs) h = (h, tt)

feedless_after : (line bs : List ℕ) → has_feed line ≡ false → AllByRecursion IsFeedless (lines_after line bs)
feedless_after line [] h = feedless_last line h
feedless_after line (b ∷ bs) h = by (is_feed b) refl (feedless_after [] bs refl) (λ e. feedless_after (line ++ b ∷ []) bs (feed_more line b h e))
  where
    by : (k : Bool) → is_feed b ≡ k → AllByRecursion IsFeedless (lines_after [] bs) → (is_feed b ≡ false → AllByRecursion IsFeedless (lines_after (line ++ b ∷ []) bs)) → AllByRecursion IsFeedless (line_ended (λ l. lines_after l bs) line b k)
    by true e next more = (h, next)
    by false e next more = more e

pub feedless_lines : (text : List ℕ) → AllByRecursion IsFeedless (lines_of text)
feedless_lines text = feedless_after [] (plain_bytes false text) refl
