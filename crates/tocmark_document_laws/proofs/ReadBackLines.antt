-- The lines of documents without lists: only the line feeds before blocks matter.
use Rattle.std.proofs.Common.{◌≡◌, ℕ, List, [], ◌∷◌, ◌++◌, map, refl, ap, ◌∙◌}
use Rattle.std.specs.Prelude.{None}
use Rattle.tocmark_event.specs.Options.{OptionsView}
use Rattle.tocmark_event.specs.declared.event.flags.ParserOptions.{ParserOptions}
use Rattle.tocmark_laws.specs.Documents.{PlainParagraph, PlainHeading, PlainRule, PlainCode}
use Rattle.tocmark_document_laws.specs.Blocks.{Blocks, Nothing, PlainThen, QuoteThen, BulletsThen, ItemThen}
use Rattle.tocmark_document_laws.specs.DocumentLines.{Line, Below, block_lines, document_lines, feeds_below, feeds_below_quote, gap_lines, lines_of, no_lists, quoted}
use Rattle.tocmark_document_laws.specs.ReadBack.{HasNoList}

-- the lines of blocks, the first of which is so many line feeds below what is before it; lists have none here
abbrev pub lines_below : OptionsView → ParserOptions → ℕ → Blocks → List Line
lines_below o flags feeds Nothing = []
lines_below o flags feeds (PlainThen b f) = gap_lines feeds ++ block_lines o flags b ++ lines_below o flags (feeds_below o b) f
lines_below o flags feeds (QuoteThen kids f) =
    gap_lines feeds ++ map quoted ([] ∷ lines_below o flags 1 kids) ++ lines_below o flags (feeds_below_quote o) f
lines_below o flags feeds (BulletsThen items f) = []
lines_below o flags feeds (ItemThen kids f) = []

-- those of a document: a block quote or code at its front is below an empty line
abbrev pub front_lines : OptionsView → ParserOptions → Blocks → List Line
front_lines o flags (QuoteThen kids f) = [] ∷ lines_below o flags 1 (QuoteThen kids f)
front_lines o flags (PlainThen (PlainCode info lines) f) = [] ∷ lines_below o flags 1 (PlainThen (PlainCode info lines) f)
front_lines o flags f = lines_below o flags 1 f

module _ (o : OptionsView) (flags : ParserOptions) where
  abbrev below : ℕ → Blocks → List Line
  below n f = lines_below o flags n f

  abbrev laid : ℕ → Blocks → List Line
  laid n f = lines_of o flags no_lists (Below n None) f

  same_quote : (gap : List Line) (n m : ℕ) (kids f : Blocks) → laid n kids ≡ below n kids → laid m f ≡ below m f
      → (gap ++ map quoted ([] ∷ laid n kids)) ++ laid m f ≡ (gap ++ map quoted ([] ∷ below n kids)) ++ below m f
  same_quote gap n m kids f p q =
      ap (λ (ls : List Line). (gap ++ map quoted ([] ∷ ls)) ++ laid m f) p
      ∙ ap (λ (ls : List Line). (gap ++ map quoted ([] ∷ below n kids)) ++ ls) q

  same_below : (n : ℕ) (f : Blocks) → HasNoList f → laid n f ≡ below n f
  same_below n Nothing h = refl
  same_below n (PlainThen (PlainParagraph l ms) f) h = ap (λ (ls : List Line). (gap_lines n ++ block_lines o flags (PlainParagraph l ms)) ++ ls) (same_below (feeds_below o (PlainParagraph l ms)) f h)
  same_below n (PlainThen (PlainHeading level ts) f) h = ap (λ (ls : List Line). (gap_lines n ++ block_lines o flags (PlainHeading level ts)) ++ ls) (same_below (feeds_below o (PlainHeading level ts)) f h)
  same_below n (PlainThen PlainRule f) h = ap (λ (ls : List Line). (gap_lines n ++ block_lines o flags PlainRule) ++ ls) (same_below (feeds_below o PlainRule) f h)
  same_below n (PlainThen (PlainCode info lines) f) h = ap (λ (ls : List Line). (gap_lines n ++ block_lines o flags (PlainCode info lines)) ++ ls) (same_below (feeds_below o (PlainCode info lines)) f h)
  same_below n (QuoteThen kids f) h = same_quote (gap_lines n) 1 (feeds_below_quote o) kids f (same_below 1 kids (h.0)) (same_below (feeds_below_quote o) f (h.1))
  same_below n (BulletsThen items f) h = absurd h
  same_below n (ItemThen kids f) h = absurd h

  -- the lines of a document are these
  pub same_front : (f : Blocks) → HasNoList f → document_lines o flags f ≡ front_lines o flags f
  same_front Nothing h = refl
  same_front (PlainThen (PlainParagraph l ms) f) h = ap (λ (ls : List Line). block_lines o flags (PlainParagraph l ms) ++ ls) (same_below (feeds_below o (PlainParagraph l ms)) f h)
  same_front (PlainThen (PlainHeading level ts) f) h = ap (λ (ls : List Line). block_lines o flags (PlainHeading level ts) ++ ls) (same_below (feeds_below o (PlainHeading level ts)) f h)
  same_front (PlainThen PlainRule f) h = ap (λ (ls : List Line). block_lines o flags PlainRule ++ ls) (same_below (feeds_below o PlainRule) f h)
  same_front (PlainThen (PlainCode info lines) f) h = ap (λ (ls : List Line). ([] ∷ block_lines o flags (PlainCode info lines)) ++ ls) (same_below (feeds_below o (PlainCode info lines)) f h)
  same_front (QuoteThen kids f) h = same_quote ([] ∷ []) 1 (feeds_below_quote o) kids f (same_below 1 kids (h.0)) (same_below (feeds_below_quote o) f (h.1))
  same_front (BulletsThen items f) h = absurd h
  same_front (ItemThen kids f) h = absurd h
