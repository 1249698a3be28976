-- The inlines of leaves are those that are declared.
use Rattle.std.proofs.Common.{◌≡◌, ℕ, Bool, true, false, not, ◌==◌, ◌&&◌, ◌||◌, List, [], ◌∷◌, ◌++◌, refl, ap, sym, ◌∙◌, subst, append_assoc}
use Rattle.std.specs.Prelude.{Option, Some, None}
use Rattle.std.specs.List.{list_any, list_all}
use Rattle.tocmark_read_scan.proofs.PlainTests.{both_false}
use Rattle.tocmark_read_spans.specs.declared.definitions.Entry.{Entry}
use Rattle.tocmark_commonmark.specs.Beginnings.{beginning}
use Rattle.tocmark_commonmark.specs.Lines.{lines_of}
use Rattle.tocmark_commonmark.specs.Links.{Destination, first_of}
use Rattle.tocmark_block_laws.specs.Quotes.{is_special, is_leaf, content_of, is_covered, ends_with_feed}
use Rattle.tocmark_block_laws.specs.Trees.{leaf_text}
use Rattle.tocmark_inline_laws.specs.Said.{words, said}
use Rattle.tocmark_inline_laws.specs.Statement.{SaysWhat, LeadAlike}
use Rattle.tocmark_inline_laws.proofs.EachToken.{all_declared}
use Rattle.tocmark_standard_laws.specs.Contents.{HasNoZero}
use Rattle.tocmark_standard_laws.specs.Labels.{collected_of, entry_in, destinations_of}
use Rattle.tocmark_standard_laws.specs.Leaves.{LeavesAreReadAsDeclared}
use Rattle.tocmark_standard_laws.proofs.Contents.{contents-declared}
use Rattle.tocmark_standard_laws.proofs.Labels.{labels-declared}

-- labels lead to the same, also with further texts
says_further : (texts more : List ℕ) (o : Option Entry) (d : Option Destination) → SaysWhat texts o d → SaysWhat (texts ++ more) o d
says_further texts more None None h = h
says_further texts more (Some e) None h = absurd h
says_further texts more None (Some d) h = absurd h
says_further texts more (Some e) (Some d) h = λ further. subst (λ ts. (words ts e.destination ≡ d.destination) × (words ts e.title ≡ d.title)) (sym (append_assoc texts more further)) (h (more ++ further))

pub lead_further : (texts more : List ℕ) (definitions : List ℕ → Option Entry) (labels : List Destination) → LeadAlike texts definitions labels → LeadAlike (texts ++ more) definitions labels
lead_further texts more definitions labels h key = says_further texts more (definitions key) (first_of labels key) (h key)

-- a covered text has no U+0000
pub no_zero : (text : List ℕ) → list_any is_special text ≡ false → HasNoZero text
no_zero [] h = refl
no_zero (b ∷ bs) h =
    let both = both_false (is_special b) (list_any is_special bs) h in
    let one = both_false ((b == 9) || (b == 13)) (b == 0) (both.0) in
    rw (one.1) (no_zero bs (both.1))

pub covered_zero_free : (text : List ℕ) → is_covered text ≡ true → HasNoZero text
unfolding is_covered
covered_zero_free text h = no_zero text (plain (list_any is_special text) (list_all (λ l. is_leaf (ends_with_feed text) (beginning (content_of l))) (lines_of text)) h)
  where
    plain : (a b : Bool) → (not a && b) ≡ true → a ≡ false
    plain true b e = sym e
    plain false b e = refl

pub leaves-declared : LeavesAreReadAsDeclared
leaves-declared text h ps feedless fits targets further missed =
    ap (λ bytes. said bytes (entry_in text) targets ((collected_of text).texts ++ further) missed) (contents-declared text ps (covered_zero_free text h.covered) feedless)
    ∙ all_declared (leaf_text text ps) fits (destinations_of text) (entry_in text) targets ((collected_of text).texts ++ further) missed
    (lead_further (collected_of text).texts further (entry_in text) (destinations_of text) (labels-declared text h))
