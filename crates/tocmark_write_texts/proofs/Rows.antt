-- What the definitions give on examples of the CommonMark specification.
use Rattle.std.proofs.Common.{◌≡◌, Some, None, [], ◌∷◌, ◌++◌, codes, refl}
use Rattle.tocmark_write_texts.specs.Unescape.{referred, unescape}
use Rattle.tocmark_write_texts.specs.Leaves.{unspan}

escapes : unescape (codes "\\!\\\"\\#\\$\\&\\'\\(\\)\\*\\+\\,\\-\\.\\/\\:\\;\\<\\=\\>\\?\\@\\[\\\\\\]\\^\\_\\`\\{\\|\\}\\~")
    ≡ codes "!\"#$&'()*+,-./:;<=>?@[\\]^_`{|}~"
escapes = refl

no_escapes : unescape (codes "\\A\\a\\ \\3\\") ≡ codes "\\A\\a\\ \\3\\"
no_escapes = refl

names : unescape (codes "&amp; &lt; &gt; &quot; &copy;") ≡ codes "& < > \" &copy;"
unfolding referred
names = refl

decimal_numbers : unescape (codes "&#35; &#1234; &#992; &#0;") ≡ codes "# " ++ (1234 ∷ codes " " ++ (992 ∷ codes " " ++ (0xFFFD ∷ [])))
unfolding referred
decimal_numbers = refl

hexadecimal_numbers : unescape (codes "&#X22; &#XD06; &#xcab;") ≡ codes "\" " ++ (0xD06 ∷ codes " " ++ (0xCAB ∷ []))
unfolding referred
hexadecimal_numbers = refl

no_references : unescape (codes "&nbsp &x; &#; &#x; &#87654321; &#abcdef0; &hi?;") ≡ codes "&nbsp &x; &#; &#x; &#87654321; &#abcdef0; &hi?;"
unfolding referred
no_references = refl

span_plain : unspan (codes "`foo`") ≡ Some (codes "foo")
span_plain = refl

span_with_backtick : unspan (codes "`` foo ` bar ``") ≡ Some (codes "foo ` bar")
span_with_backtick = refl

span_of_two : unspan (codes "` `` `") ≡ Some (codes "``")
span_of_two = refl

span_one_space_less : unspan (codes "`  ``  `") ≡ Some (codes " `` ")
span_one_space_less = refl

span_one_side : unspan (codes "` a`") ≡ Some (codes " a")
span_one_side = refl

span_of_spaces : unspan (codes "`  `") ≡ Some (codes "  ")
span_of_spaces = refl

no_span : unspan (codes "`foo``") ≡ None
no_span = refl

no_single_span : unspan (codes "`a`b`") ≡ None
no_single_span = refl
