-- Examples: bytes of Python's own `marshal.dumps(.., 2)`.
use Rattle.std.proofs.Common.{◌≡◌, [], ◌∷◌, None, Some, codes, refl}
use Rattle.std.specs.Str.{chars, is_utf8}
use Rattle.tocmark_event.specs.View.{Leaf, Rule, Text}
use Rattle.tocmark_json.specs.Json.{event_json}
use Rattle.tocmark_json.specs.Unmarshal.{IsDumped, key, list_length, members, natural, place, placed, plain, range, size, text, value, values}

-- `{`, `u`, a length, `Text`, `u`, a length, `hi`, `0`
hi : value 1 (123 ∷ 117 ∷ 4 ∷ 0 ∷ 0 ∷ 0 ∷ 84 ∷ 101 ∷ 120 ∷ 116 ∷ 117 ∷ 2 ∷ 0 ∷ 0 ∷ 0 ∷ 104 ∷ 105 ∷ 48 ∷ []) ≡ Some (event_json (Leaf (Text (codes "hi"))), [])
unfolding value members key plain text size is_utf8 chars lib.Utf8.encode
hi = refl

-- -1 is refused, and so is a dictionary that is nested too deep
negative : value 1 (105 ∷ 255 ∷ 255 ∷ 255 ∷ 255 ∷ []) ≡ None
unfolding value plain natural size
negative = refl

deep : value 0 (123 ∷ 48 ∷ []) ≡ None
unfolding value
deep = refl

-- a rule with the range from 0 to 5: `[`, 3, `i`, 0, `i`, 5, `u`, a length, `Rule`
rule : IsDumped (91 ∷ 3 ∷ 0 ∷ 0 ∷ 0 ∷ 105 ∷ 0 ∷ 0 ∷ 0 ∷ 0 ∷ 105 ∷ 5 ∷ 0 ∷ 0 ∷ 0 ∷ 117 ∷ 4 ∷ 0 ∷ 0 ∷ 0 ∷ 82 ∷ 117 ∷ 108 ∷ 101 ∷ []) ((Leaf Rule, Some (0, 5)) ∷ [])
unfolding list_length values placed range place natural value plain text size is_utf8 chars lib.Utf8.encode
rule = (105 ∷ 0 ∷ 0 ∷ 0 ∷ 0 ∷ 105 ∷ 5 ∷ 0 ∷ 0 ∷ 0 ∷ 117 ∷ 4 ∷ 0 ∷ 0 ∷ 0 ∷ 82 ∷ 117 ∷ 108 ∷ 101 ∷ [], refl, refl)
