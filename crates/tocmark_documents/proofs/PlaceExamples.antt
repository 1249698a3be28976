-- Examples: the lines of a text, and the first wrong key of options.
use Rattle.std.proofs.Common.{◌≡◌, ◌∷◌, [], Some, codes, refl}
use Rattle.serde_json.specs.Data.{member, no_members, null, string}
use Rattle.tocmark_json.specs.Positions.{behind}
use Rattle.tocmark_documents.specs.Options.{first_wrong}
use Rattle.tocmark_documents.specs.Places.{lines_of}

-- a carriage return and a line feed end one line together, and each alone ends one
lines_counted : lines_of (codes "a\r\nb\rc\nd") (3, 8) ≡ (2, 4)
unfolding behind
lines_counted = refl

-- a range up to a line's end has no part of the next line
end_left_out : lines_of (codes "a\r\nb\rc\nd") (0, 3) ≡ (1, 1)
unfolding behind
end_left_out = refl

-- a range without a byte is on one line
no_byte : lines_of (codes "a\n\nb") (2, 2) ≡ (2, 2)
unfolding behind
no_byte = refl

-- an option with a value that it takes is passed over
wrong_key_named : first_wrong (member (codes "list_token") (string (codes "-")) (member (codes "wrap") null (member (codes "zero") null no_members))) ≡ Some (codes "wrap")
wrong_key_named = refl

-- a known key is named for its value
wrong_value_named : first_wrong (member (codes "list_token") (string (codes "=")) no_members) ≡ Some (codes "list_token")
wrong_value_named = refl
