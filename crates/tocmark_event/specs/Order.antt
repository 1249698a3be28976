-- The order of options.
use Rattle.std.specs.Prelude.{List, [], ◌∷◌}
use Rattle.std.specs.Ordering.{bool_cmp, nat_cmp, ordering_then}
use Rattle.std.specs.declared.cmp.Ordering.{Ordering}
use Rattle.std.specs.declared.cmp.Ordering.TheVariants.{Equal}
use Rattle.std.specs.Cmp.Lexicographic.{slice_cmp}
use Rattle.tocmark_event.specs.Options.{OptionsView}

-- the first answer that tells two things apart; they are equal where none does
abbrev pub first_difference : List Ordering → Ordering
first_difference [] = Equal
first_difference (answer ∷ later) = ordering_then answer (first_difference later)

-- which of two options comes first: that with the smaller field, at the first field in which they differ. Tokens go by
-- their characters' numbers, the strong one by its bytes, and what is off comes before what is on
abbrev pub options_order : OptionsView → OptionsView → Ordering
options_order x y = first_difference
    (nat_cmp x.newlines_after_headline y.newlines_after_headline
    ∷ nat_cmp x.newlines_after_paragraph y.newlines_after_paragraph
    ∷ nat_cmp x.newlines_after_codeblock y.newlines_after_codeblock
    ∷ nat_cmp x.newlines_after_htmlblock y.newlines_after_htmlblock
    ∷ nat_cmp x.newlines_after_table y.newlines_after_table
    ∷ nat_cmp x.newlines_after_rule y.newlines_after_rule
    ∷ nat_cmp x.newlines_after_list y.newlines_after_list
    ∷ nat_cmp x.newlines_after_blockquote y.newlines_after_blockquote
    ∷ nat_cmp x.newlines_after_rest y.newlines_after_rest
    ∷ nat_cmp x.newlines_after_metadata y.newlines_after_metadata
    ∷ nat_cmp x.code_block_token_count y.code_block_token_count
    ∷ nat_cmp x.code_block_token y.code_block_token
    ∷ nat_cmp x.list_token y.list_token
    ∷ nat_cmp x.ordered_list_token y.ordered_list_token
    ∷ bool_cmp x.increment_ordered_list_bullets y.increment_ordered_list_bullets
    ∷ nat_cmp x.emphasis_token y.emphasis_token
    ∷ slice_cmp nat_cmp x.strong_token y.strong_token
    ∷ bool_cmp x.use_html_for_super_sub_script y.use_html_for_super_sub_script
    ∷ bool_cmp x.check_plain_blocks y.check_plain_blocks
    ∷ [])
