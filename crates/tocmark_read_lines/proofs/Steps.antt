-- How words are in a line.
use Rattle.std.proofs.Common.{◌≡◌, ℕ, ◌+◌, ◌<◌, List, length, drop, map, ap}
use Rattle.std.proofs.lemmas.List.{drop_more}
use Rattle.std.proofs.lemmas.Slice.Eq.{bytes_eq-Decides}
use Rattle.std.specs.Bool.{IsTrue, one_answer}
use Rattle.std.specs.Char.{to_ascii_lowercase}
use Rattle.std.specs.Prelude.{Bool, if◌then◌else◌, true}
use Rattle.tocmark_read_scan.specs.Basic.{plus, bytes_between}
use Rattle.tocmark_read_lines.specs.Html.{same_word, holds_from}

pub holds_more : (line word : List ℕ) (place : ℕ) → place < length line → holds_from line word place (drop place line) ≡ (if same_word (bytes_between line place (plus place (length word))) word then true else holds_from line word (place + 1) (drop (place + 1) line))
holds_more line word place h = ap (holds_from line word place) (drop_more line place 0 h)

pub same_word_by : (r : Bool) (a b : List ℕ) → ((IsTrue r → map to_ascii_lowercase a ≡ map to_ascii_lowercase b) × (map to_ascii_lowercase a ≡ map to_ascii_lowercase b → IsTrue r)) → r ≡ same_word a b
unfolding same_word
same_word_by r a b h = one_answer r _ h (bytes_eq-Decides (map to_ascii_lowercase a) (map to_ascii_lowercase b))
