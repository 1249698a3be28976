-- How the definitions that are left come to be at the end.
use Rattle.std.specs.Prelude.{ℕ, Bool, true, false, ◌==◌, List, [], ◌∷◌, ◌++◌, drop, take, codes}
use Rattle.std.specs.List.{list_any, prefix_len}
use Rattle.tocmark_event.specs.View.{TagView, CodeBlock, HtmlBlock, SourcedEvent, Start}

-- a code block or an HTML block (CommonMark, sections 4.4 to 4.6)
abbrev pub is_raw_block : TagView → Bool
is_raw_block (CodeBlock kind) = true
is_raw_block HtmlBlock = true
is_raw_block t = false

-- whether an event starts one
abbrev pub starts_raw_block : SourcedEvent → Bool
starts_raw_block (Start t) = is_raw_block t
starts_raw_block e = false

-- whether a unit holds one
abbrev pub holds_raw_block : List SourcedEvent → Bool
holds_raw_block unit = list_any starts_raw_block unit

-- how many line feeds a text begins with
abbrev pub leading_feeds : List ℕ → ℕ
leading_feeds text = prefix_len (λ b. b == 10) text

-- definitions after a text's leading line feeds, without their own, and then a blank line
abbrev pub with_definitions_in_front : List ℕ → List ℕ → List ℕ
with_definitions_in_front defs text =
    take (leading_feeds text) text ++ drop (leading_feeds defs) defs ++ codes "\n\n" ++ drop (leading_feeds text) text

-- a text, unless it is empty
abbrev pub unless_empty : List ℕ → List (List ℕ)
unless_empty [] = []
unless_empty (b ∷ bs) = (b ∷ bs) ∷ []

-- the texts at the end: the last unit's, and the definitions that are left, which are in the former where it holds raw text,
-- since they couldn't follow it
abbrev pub last_texts : Bool → List ℕ → List ℕ → List (List ℕ)
last_texts raw [] text = unless_empty text
last_texts false (b ∷ defs) text = unless_empty text ++ (b ∷ defs) ∷ []
last_texts true (b ∷ defs) text = with_definitions_in_front (b ∷ defs) text ∷ []
