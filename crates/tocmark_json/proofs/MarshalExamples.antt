-- Examples: what events and numbers are for Python, with Python's own answers.
use Rattle.std.proofs.Common.{◌≡◌, ◌^◌, [], ◌∷◌, codes, refl, length}
use Rattle.tocmark_event.specs.View.{Leaf, Rule, Start, Strong, Text}
use Rattle.tocmark_json.specs.Marshal.{digit, event_bytes, five_digits, four_digits, long_bytes, longer_bytes, names, reference, size_bytes, text_bytes, three_digits}

-- a text: `{`, `Text`, `u`, a length, `hi`, `0`
hi : event_bytes (Leaf (Text (codes "hi"))) ≡ 123 ∷ 114 ∷ 2 ∷ 0 ∷ 0 ∷ 0 ∷ 117 ∷ 2 ∷ 0 ∷ 0 ∷ 0 ∷ 104 ∷ 105 ∷ 48 ∷ []
unfolding reference text_bytes
hi = refl

-- `Rule` is the name 11, and `Strong` the name 29
rule : event_bytes (Leaf Rule) ≡ 114 ∷ 11 ∷ 0 ∷ 0 ∷ 0 ∷ []
unfolding reference
rule = refl

strong : event_bytes (Start Strong) ≡ 123 ∷ 114 ∷ 0 ∷ 0 ∷ 0 ∷ 0 ∷ 114 ∷ 29 ∷ 0 ∷ 0 ∷ 0 ∷ 48 ∷ []
unfolding reference
strong = refl

-- 258, 2 ^ 31 and 2 ^ 45
small : size_bytes 258 ≡ 105 ∷ 2 ∷ 1 ∷ 0 ∷ 0 ∷ []
unfolding size_bytes
small = refl

long : size_bytes (2 ^ 31) ≡ 108 ∷ 3 ∷ 0 ∷ 0 ∷ 0 ∷ 0 ∷ 0 ∷ 0 ∷ 0 ∷ 2 ∷ 0 ∷ []
unfolding size_bytes long_bytes three_digits
long = refl

longer : size_bytes (2 ^ 45) ≡ 108 ∷ 4 ∷ 0 ∷ 0 ∷ 0 ∷ 0 ∷ 0 ∷ 0 ∷ 0 ∷ 0 ∷ 0 ∷ 1 ∷ 0 ∷ []
unfolding size_bytes long_bytes longer_bytes three_digits four_digits
longer = refl
