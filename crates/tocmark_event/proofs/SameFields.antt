-- Options are equal where each of their fields is.
use Rattle.std.proofs.Common.{◌≡◌, ap, Bool, nat_eq, ◌&&◌, List, ℕ}
use Rattle.std.specs.Bool.{Decides, beq}
use Rattle.std.specs.Cmp.{unsigned_Decides, booleans_Decides}
use Rattle.std.specs.Cmp.Lexicographic.{pointwise}
use Rattle.std.proofs.lemmas.Bool.{and_parts, and_from}
use Rattle.std.proofs.lemmas.Slice.Eq.{bytes_eq-Decides}
use Rattle.tocmark_event.specs.Options.{OptionsView}

both : {P Q : Type 0} {s t : Bool} → Decides s P → Decides t Q → Decides (s && t) (P × Q)
both {P} {Q} {s} {t} p q = (λ h. (p.0 (and_parts s t h).0, q.0 (and_parts s t h).1), λ h. and_from s t (p.1 h.0) (q.1 h.1))

texts_Decides : (x y : List ℕ) → Decides (pointwise nat_eq x y) (x ≡ y)
texts_Decides = bytes_eq-Decides

-- what `==` tests, field by field
abbrev pub same_fields : OptionsView → OptionsView → Bool
same_fields x y = nat_eq x.newlines_after_headline y.newlines_after_headline && (nat_eq x.newlines_after_paragraph y.newlines_after_paragraph && (nat_eq x.newlines_after_codeblock y.newlines_after_codeblock && (nat_eq x.newlines_after_htmlblock y.newlines_after_htmlblock && (nat_eq x.newlines_after_table y.newlines_after_table && (nat_eq x.newlines_after_rule y.newlines_after_rule && (nat_eq x.newlines_after_list y.newlines_after_list && (nat_eq x.newlines_after_blockquote y.newlines_after_blockquote && (nat_eq x.newlines_after_rest y.newlines_after_rest && (nat_eq x.newlines_after_metadata y.newlines_after_metadata && (nat_eq x.code_block_token_count y.code_block_token_count && (nat_eq x.code_block_token y.code_block_token && (nat_eq x.list_token y.list_token && (nat_eq x.ordered_list_token y.ordered_list_token && (beq x.increment_ordered_list_bullets y.increment_ordered_list_bullets && (nat_eq x.emphasis_token y.emphasis_token && (pointwise nat_eq x.strong_token y.strong_token && (beq x.use_html_for_super_sub_script y.use_html_for_super_sub_script && (beq x.check_plain_blocks y.check_plain_blocks))))))))))))))))))

abbrev SameFields : OptionsView → OptionsView → Type 0
SameFields x y = (x.newlines_after_headline ≡ y.newlines_after_headline) × ((x.newlines_after_paragraph ≡ y.newlines_after_paragraph) × ((x.newlines_after_codeblock ≡ y.newlines_after_codeblock) × ((x.newlines_after_htmlblock ≡ y.newlines_after_htmlblock) × ((x.newlines_after_table ≡ y.newlines_after_table) × ((x.newlines_after_rule ≡ y.newlines_after_rule) × ((x.newlines_after_list ≡ y.newlines_after_list) × ((x.newlines_after_blockquote ≡ y.newlines_after_blockquote) × ((x.newlines_after_rest ≡ y.newlines_after_rest) × ((x.newlines_after_metadata ≡ y.newlines_after_metadata) × ((x.code_block_token_count ≡ y.code_block_token_count) × ((x.code_block_token ≡ y.code_block_token) × ((x.list_token ≡ y.list_token) × ((x.ordered_list_token ≡ y.ordered_list_token) × ((x.increment_ordered_list_bullets ≡ y.increment_ordered_list_bullets) × ((x.emphasis_token ≡ y.emphasis_token) × ((x.strong_token ≡ y.strong_token) × ((x.use_html_for_super_sub_script ≡ y.use_html_for_super_sub_script) × ((x.check_plain_blocks ≡ y.check_plain_blocks)))))))))))))))))))

fields_Decides : (x y : OptionsView) → Decides (same_fields x y) (SameFields x y)
fields_Decides x y = both (unsigned_Decides x.newlines_after_headline y.newlines_after_headline) (both (unsigned_Decides x.newlines_after_paragraph y.newlines_after_paragraph) (both (unsigned_Decides x.newlines_after_codeblock y.newlines_after_codeblock) (both (unsigned_Decides x.newlines_after_htmlblock y.newlines_after_htmlblock) (both (unsigned_Decides x.newlines_after_table y.newlines_after_table) (both (unsigned_Decides x.newlines_after_rule y.newlines_after_rule) (both (unsigned_Decides x.newlines_after_list y.newlines_after_list) (both (unsigned_Decides x.newlines_after_blockquote y.newlines_after_blockquote) (both (unsigned_Decides x.newlines_after_rest y.newlines_after_rest) (both (unsigned_Decides x.newlines_after_metadata y.newlines_after_metadata) (both (unsigned_Decides x.code_block_token_count y.code_block_token_count) (both (unsigned_Decides x.code_block_token y.code_block_token) (both (unsigned_Decides x.list_token y.list_token) (both (unsigned_Decides x.ordered_list_token y.ordered_list_token) (both (booleans_Decides x.increment_ordered_list_bullets y.increment_ordered_list_bullets) (both (unsigned_Decides x.emphasis_token y.emphasis_token) (both (texts_Decides x.strong_token y.strong_token) (both (booleans_Decides x.use_html_for_super_sub_script y.use_html_for_super_sub_script) (booleans_Decides x.check_plain_blocks y.check_plain_blocks))))))))))))))))))

from_fields : (x y : OptionsView) → SameFields x y → x ≡ y
from_fields x y e = λ i. record { newlines_after_headline = e.0 i; newlines_after_paragraph = e.1.0 i; newlines_after_codeblock = e.1.1.0 i; newlines_after_htmlblock = e.1.1.1.0 i; newlines_after_table = e.1.1.1.1.0 i; newlines_after_rule = e.1.1.1.1.1.0 i; newlines_after_list = e.1.1.1.1.1.1.0 i; newlines_after_blockquote = e.1.1.1.1.1.1.1.0 i; newlines_after_rest = e.1.1.1.1.1.1.1.1.0 i; newlines_after_metadata = e.1.1.1.1.1.1.1.1.1.0 i; code_block_token_count = e.1.1.1.1.1.1.1.1.1.1.0 i; code_block_token = e.1.1.1.1.1.1.1.1.1.1.1.0 i; list_token = e.1.1.1.1.1.1.1.1.1.1.1.1.0 i; ordered_list_token = e.1.1.1.1.1.1.1.1.1.1.1.1.1.0 i; increment_ordered_list_bullets = e.1.1.1.1.1.1.1.1.1.1.1.1.1.1.0 i; emphasis_token = e.1.1.1.1.1.1.1.1.1.1.1.1.1.1.1.0 i; strong_token = e.1.1.1.1.1.1.1.1.1.1.1.1.1.1.1.1.0 i; use_html_for_super_sub_script = e.1.1.1.1.1.1.1.1.1.1.1.1.1.1.1.1.1.0 i; check_plain_blocks = e.1.1.1.1.1.1.1.1.1.1.1.1.1.1.1.1.1.1 i }

to_fields : (x y : OptionsView) → x ≡ y → SameFields x y
to_fields x y e = (ap (λ o. o.newlines_after_headline) e, (ap (λ o. o.newlines_after_paragraph) e, (ap (λ o. o.newlines_after_codeblock) e, (ap (λ o. o.newlines_after_htmlblock) e, (ap (λ o. o.newlines_after_table) e, (ap (λ o. o.newlines_after_rule) e, (ap (λ o. o.newlines_after_list) e, (ap (λ o. o.newlines_after_blockquote) e, (ap (λ o. o.newlines_after_rest) e, (ap (λ o. o.newlines_after_metadata) e, (ap (λ o. o.code_block_token_count) e, (ap (λ o. o.code_block_token) e, (ap (λ o. o.list_token) e, (ap (λ o. o.ordered_list_token) e, (ap (λ o. o.increment_ordered_list_bullets) e, (ap (λ o. o.emphasis_token) e, (ap (λ o. o.strong_token) e, (ap (λ o. o.use_html_for_super_sub_script) e, ap (λ o. o.check_plain_blocks) e))))))))))))))))))

pub options_Decides : (x y : OptionsView) → Decides (same_fields x y) (x ≡ y)
options_Decides x y = (λ h. from_fields x y ((fields_Decides x y).0 h), λ e. (fields_Decides x y).1 (to_fields x y e))
