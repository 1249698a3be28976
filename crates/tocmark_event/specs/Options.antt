-- The options.
use Rattle.std.specs.Prelude.{◌≡◌, ℕ, List, false, codes, String, string_bytes}
use Rattle.std.specs.Borrow.{Bor}
use Rattle.std.specs.Global.{Global}
use Rattle.tocmark_event.specs.declared.options.OptionsOf.{OptionsOf}

-- the options as plain values: tokens are characters, the strong token its bytes
abbrev pub OptionsView : Type 0
OptionsView = OptionsOf (List ℕ)

-- the same options with another strong token
abbrev pub with_token : {T U : Type 0} → U → OptionsOf T → OptionsOf U
with_token token o = record {
  newlines_after_headline = o.newlines_after_headline;
  newlines_after_paragraph = o.newlines_after_paragraph;
  newlines_after_codeblock = o.newlines_after_codeblock;
  newlines_after_htmlblock = o.newlines_after_htmlblock;
  newlines_after_table = o.newlines_after_table;
  newlines_after_rule = o.newlines_after_rule;
  newlines_after_list = o.newlines_after_list;
  newlines_after_blockquote = o.newlines_after_blockquote;
  newlines_after_rest = o.newlines_after_rest;
  newlines_after_metadata = o.newlines_after_metadata;
  code_block_token_count = o.code_block_token_count;
  code_block_token = o.code_block_token;
  list_token = o.list_token;
  ordered_list_token = o.ordered_list_token;
  increment_ordered_list_bullets = o.increment_ordered_list_bullets;
  emphasis_token = o.emphasis_token;
  strong_token = token;
  use_html_for_super_sub_script = o.use_html_for_super_sub_script;
  check_plain_blocks = o.check_plain_blocks;
}

-- options as plain values
abbrev pub options_view : OptionsOf (Bor (List ℕ)) → OptionsView
options_view o = with_token o.strong_token.now o

-- options that own their strong token, as plain values
abbrev pub owned_options_view : OptionsOf (String Global) → OptionsView
owned_options_view o = with_token (string_bytes o.strong_token) o

-- what `Options::default` gives
abbrev pub default_options : OptionsView
default_options = record {
  newlines_after_headline = 2;
  newlines_after_paragraph = 2;
  newlines_after_codeblock = 2;
  newlines_after_htmlblock = 1;
  newlines_after_table = 2;
  newlines_after_rule = 2;
  newlines_after_list = 2;
  newlines_after_blockquote = 2;
  newlines_after_rest = 1;
  newlines_after_metadata = 1;
  code_block_token_count = 4;
  code_block_token = 96;
  list_token = 42;
  ordered_list_token = 46;
  increment_ordered_list_bullets = false;
  emphasis_token = 42;
  strong_token = codes "**";
  use_html_for_super_sub_script = false;
  check_plain_blocks = false;
}

-- two line feeds after most blocks, fences of four backticks, `*` wherever there is a choice, and only units with
-- delimiters are checked
abbrev pub IsDefault : OptionsOf (Bor (List ℕ)) → Type 0
IsDefault o = options_view o ≡ default_options
