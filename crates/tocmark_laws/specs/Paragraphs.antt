-- A paragraph with one text or one code span, and what is handed for it.
use Rattle.std.specs.Prelude.{◌≡◌, ℕ, ◌<◌, false, List, [], ◌∷◌, ◌++◌, Some, Ok, chars, length}
use Rattle.std.specs.List.{concat}
use Rattle.tocmark_event.specs.View.{Start, End, Leaf, LeafView, Paragraph, Text}
use Rattle.tocmark_event.specs.declared.event.TagEnd.TheVariants as end
use Rattle.tocmark_write_texts.specs.Escape.{Surroundings, escaped}
use Rattle.tocmark_write_texts.specs.Leaves.{code_span, unspan}
use Rattle.tocmark_write_texts.specs.Unescape.{unescape}
use Rattle.tocmark_state.specs.Ranges.{Pair, unranged}
use Rattle.tocmark_state.specs.Walk.{Walk, Done, done}

-- a paragraph with one leaf, without ranges
abbrev pub paragraph_with : LeafView → List Pair
paragraph_with l = unranged (Start Paragraph) ∷ unranged (Leaf l) ∷ unranged (End end.Paragraph) ∷ []

-- a paragraph with one text
abbrev pub paragraph_of : List ℕ → List Pair
paragraph_of text = paragraph_with (Text text)

-- the texts of a walk join to an escape of the text, which is read as the text
pub record ReadsAs (text : List ℕ) (walk : Walk Done) : Type 0 where
  pub ends_well : walk.outcome ≡ Ok done
  pub place : Surroundings
  pub escape : concat walk.texts ≡ escaped place text
  pub read : unescape (chars (concat walk.texts)) ≡ chars text

-- the texts of a walk join to the code span of the text (CommonMark, section 6.1), which is read as the text if that isn't empty
pub record ReadsAsSpan (text : List ℕ) (walk : Walk Done) : Type 0 where
  pub ends_well : walk.outcome ≡ Ok done
  pub span : concat walk.texts ≡ code_span false text
  pub read : 0 < length text → unspan (concat walk.texts) ≡ Some text

-- a writer keeps each text that it takes after those before it, as a String does
abbrev pub Keeps : {W : Type 0} → (W → List ℕ → W → Type 0) → (W → List ℕ) → Type 0
Keeps {W} takes contents = (w : W) (text : List ℕ) (v : W) → takes w text v → contents v ≡ contents w ++ text

-- after what was there is something that is read as the text
pub record AppendsTo (old new text : List ℕ) : Type 0 where
  pub more : List ℕ
  pub behind : new ≡ old ++ more
  pub read : unescape (chars more) ≡ chars text
