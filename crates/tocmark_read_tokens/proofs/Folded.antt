-- A text of ASCII is folded by its capitals alone.
use Rattle.std.proofs.Common.{◌≡◌, ℕ, List, IsAscii, chars, encode_utf8_all, map, ap, ◌∙◌, sym}
use Rattle.std.proofs.lemmas.Str.{chars-IsAscii, encodes-IsAscii}
use Rattle.std.proofs.lemmas.Str.Ascii.{All-from_ascii, IsAscii-map, lowercase_ascii}
use Rattle.std.specs.Char.{to_ascii_lowercase}
use Rattle.caseless.specs.Caseless.{default_case_fold}
use Rattle.caseless.proofs.CaselessLemmas.{default_case_fold-ascii}

pub ascii_folded : (bs : List ℕ) → IsAscii bs → map to_ascii_lowercase bs ≡ encode_utf8_all (default_case_fold (chars bs))
ascii_folded bs h =
    sym (ap (λ x. encode_utf8_all (default_case_fold x)) (chars-IsAscii bs h)
    ∙ ap encode_utf8_all (default_case_fold-ascii bs (All-from_ascii bs h))
    ∙ encodes-IsAscii (map to_ascii_lowercase bs) (IsAscii-map to_ascii_lowercase bs lowercase_ascii h))
