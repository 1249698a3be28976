-- The JSON value of options: an object with a key for each field.
use Rattle.std.specs.Prelude.{◌≡◌, ◌&&◌, ◌++◌, if◌then◌else◌, ℕ, List, [], ◌∷◌, Bool, true, false, Option, Some, None, bytes_eq, codes, option_and_then}
use Rattle.std.specs.Char.{encode_utf8}
use Rattle.std.specs.List.{list_any}
use Rattle.serde_json.specs.Data.{Data, boolean, number, unsigned, string, object, Members, no_members, member, put}
use Rattle.serde_json.specs.Find.{as_object}
use Rattle.tocmark_event.specs.Options.{OptionsView, default_options}
use Rattle.tocmark_json.specs.Json.{size_json}
use Rattle.tocmark_documents.specs.declared.fault.OptionFault.{OptionFault}
use Rattle.tocmark_documents.specs.declared.fault.OptionFault.TheVariants as fault

-- a character is a string of its own
abbrev pub token_json : ℕ → Data
token_json c = string (encode_utf8 c)

-- the members of an object are in the order of their keys
abbrev pub options_members : OptionsView → Members
options_members o =
    member (codes "check_plain_blocks") (boolean o.check_plain_blocks)
    (member (codes "code_block_token") (token_json o.code_block_token)
    (member (codes "code_block_token_count") (size_json o.code_block_token_count)
    (member (codes "emphasis_token") (token_json o.emphasis_token)
    (member (codes "increment_ordered_list_bullets") (boolean o.increment_ordered_list_bullets)
    (member (codes "list_token") (token_json o.list_token)
    (member (codes "newlines_after_blockquote") (size_json o.newlines_after_blockquote)
    (member (codes "newlines_after_codeblock") (size_json o.newlines_after_codeblock)
    (member (codes "newlines_after_headline") (size_json o.newlines_after_headline)
    (member (codes "newlines_after_htmlblock") (size_json o.newlines_after_htmlblock)
    (member (codes "newlines_after_list") (size_json o.newlines_after_list)
    (member (codes "newlines_after_metadata") (size_json o.newlines_after_metadata)
    (member (codes "newlines_after_paragraph") (size_json o.newlines_after_paragraph)
    (member (codes "newlines_after_rest") (size_json o.newlines_after_rest)
    (member (codes "newlines_after_rule") (size_json o.newlines_after_rule)
    (member (codes "newlines_after_table") (size_json o.newlines_after_table)
    (member (codes "ordered_list_token") (token_json o.ordered_list_token)
    (member (codes "strong_token") (string o.strong_token)
    (member (codes "use_html_for_super_sub_script") (boolean o.use_html_for_super_sub_script) no_members))))))))))))))))))

-- members put over others, one after the other
abbrev pub put_all : Members → Members → Members
put_all no_members found = found
put_all (member key d ms) found = put_all ms (put key d found)

-- the options with one member put over theirs are the new ones; where it can't be, they stay
abbrev pub IsPut : Bool → List ℕ → Data → OptionsView → OptionsView → Type 0
IsPut true key d old new = put key d (options_members old) ≡ options_members new
IsPut false key d old new = new ≡ old

-- an object whose members, put over those of the default options, are those of these options
abbrev pub IsOptionsJson : Data → OptionsView → Type 0
IsOptionsJson value options = (ms : Members) × (value ≡ object ms) × (put_all ms (options_members default_options) ≡ options_members options)

-- the keys at which true or false is
abbrev pub truth_keys : List (List ℕ)
truth_keys =
    codes "increment_ordered_list_bullets" ∷
    codes "use_html_for_super_sub_script" ∷
    codes "check_plain_blocks" ∷
    []

-- the keys at which a whole number is, from 0 on
abbrev pub count_keys : List (List ℕ)
count_keys =
    codes "newlines_after_headline" ∷
    codes "newlines_after_paragraph" ∷
    codes "newlines_after_codeblock" ∷
    codes "newlines_after_htmlblock" ∷
    codes "newlines_after_table" ∷
    codes "newlines_after_rule" ∷
    codes "newlines_after_list" ∷
    codes "newlines_after_blockquote" ∷
    codes "newlines_after_rest" ∷
    codes "newlines_after_metadata" ∷
    codes "code_block_token_count" ∷
    []

-- the keys at which a token is, each with the tokens that it takes
abbrev pub tokens : List (List ℕ × List ℕ)
tokens =
    (codes "code_block_token", codes "`") ∷
    (codes "code_block_token", codes "~") ∷
    (codes "list_token", codes "*") ∷
    (codes "list_token", codes "-") ∷
    (codes "list_token", codes "+") ∷
    (codes "ordered_list_token", codes ".") ∷
    (codes "ordered_list_token", codes ")") ∷
    (codes "emphasis_token", codes "*") ∷
    (codes "emphasis_token", codes "_") ∷
    (codes "strong_token", codes "**") ∷
    (codes "strong_token", codes "__") ∷
    []

-- whether an option has this key and takes this value
abbrev pub is_option : List ℕ → Data → Bool
is_option key (boolean b) = list_any (λ k. bytes_eq key k) truth_keys
is_option key (number (unsigned n)) = list_any (λ k. bytes_eq key k) count_keys
is_option key (string s) = list_any (λ t. bytes_eq key t.0 && bytes_eq s t.1) tokens
is_option key d = false

-- whether each member is an option with a value that it takes
abbrev pub are_options : Members → Bool
are_options no_members = true
are_options (member key d ms) = is_option key d && are_options ms

-- whether a value is an object of options, each with a value that it takes
abbrev pub is_options_object : Data → Bool
is_options_object (object ms) = are_options ms
is_options_object d = false

-- the first key, in their order, that is no option's or has a value that its option doesn't take
abbrev pub first_wrong : Members → Option (List ℕ)
first_wrong no_members = None
first_wrong (member key d ms) = if is_option key d then first_wrong ms else Some key

-- a fault names this key
abbrev pub NamesKey : List ℕ → OptionFault → Type 0
NamesKey key fault.NotAnObject = ⊥
NamesKey key (fault.Wanted k wanted) = k.now ≡ key

-- why a value is not that of options: it is no object, or the key that is named is the first wrong one
abbrev pub IsOptionFault : Data → OptionFault → Type 0
IsOptionFault value fault.NotAnObject = as_object value ≡ None
IsOptionFault value (fault.Wanted key wanted) = option_and_then first_wrong (as_object value) ≡ Some key.now

-- the line of a fault
abbrev pub fault_line : OptionFault → List ℕ
fault_line fault.NotAnObject = codes "expected an object of options"
fault_line (fault.Wanted key wanted) = key.now ++ codes ": expected " ++ wanted.now
