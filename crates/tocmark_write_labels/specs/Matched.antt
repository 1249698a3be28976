-- What labels that match have in common (CommonMark, section 6.3).
use Rattle.std.specs.Prelude.{ℕ, Bool, true, false, ◌||◌, ◌==◌, List, [], ◌∷◌, chars, codes, encode_utf8_all, filter}
use Rattle.std.specs.List.{join_by, slice_split}
use Rattle.caseless.specs.Caseless.{default_case_fold}

-- white space in a label: a space, a tab or a line ending
abbrev pub is_blank : ℕ → Bool
is_blank c = (c == 32) || (c == 9) || (c == 10) || (c == 13)

-- a part between white space is a word if it isn't empty
abbrev pub is_word : List ℕ → Bool
is_word [] = false
is_word (c ∷ cs) = true

-- the words of a label
abbrev pub words : List ℕ → List (List ℕ)
words label = filter is_word (slice_split is_blank label)

-- a label's words with one space between them
abbrev pub collapsed : List ℕ → List ℕ
collapsed label = join_by (λ w. w) (codes " ") (words label)

-- a label's words with one space between them, in Unicode's default case folding
abbrev pub label_key : List ℕ → List ℕ
label_key label = encode_utf8_all (default_case_fold (collapsed (chars label)))
