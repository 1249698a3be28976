-- First places in a list, from the back.
use Rattle.std.proofs.Common.{◌≡◌, ℕ, suc, ◌+◌, ◌<◌, List, length, drop, map, get_or, cond, Some, String, string_bytes, bytes_eq, Global, ap, ◌∙◌, sym, add-one}
use Rattle.std.proofs.Math.Seq.{drop-cons}
use Rattle.tocmark_read_tokens.specs.Label.{first_place}

pub first_place_at : (keys : List (String Global)) (p : ℕ) (k : String Global) (q : List ℕ) → p < length keys → k ≡ get_or keys p k → first_place p (map string_bytes (drop p keys)) q ≡ cond (bytes_eq (string_bytes k) q) (Some p) (first_place (p + 1) (map string_bytes (drop (p + 1) keys)) q)
first_place_at keys p k q h e =
    ap (λ (l : List (String Global)). first_place p (map string_bytes l) q) (drop-cons keys p k h)
    ∙ ap (λ (x : String Global). cond (bytes_eq (string_bytes x) q) (Some p) (first_place (p + 1) (map string_bytes (drop (suc p) keys)) q)) (sym e)
    ∙ ap (λ n. cond (bytes_eq (string_bytes k) q) (Some p) (first_place (p + 1) (map string_bytes (drop n keys)) q)) (sym (add-one p))
