-- The labels that a reader looks up in vain in texts, one after the other.
use Rattle.std.proofs.Common.{◌≡◌, ℕ, ◌+◌, ◌<◌, ◌∙◌, List, [], ◌∷◌, ◌++◌, refl, sym, ap, length, map, drop, get_or, string_bytes, String}
use Rattle.std.proofs.lemmas.List.{drop_more}
use Rattle.std.specs.Global.{Global}
use Rattle.tocmark_event.specs.Reading.{ReadingView}
use Rattle.tocmark_event.specs.declared.event.flags.ParserOptions.{ParserOptions}
use Rattle.tocmark_write_labels.specs.Document.{with_labels, with_literal}

module _ (reading : List ℕ → ParserOptions → ReadingView) (flags : ParserOptions) where
  -- with one text more
  pub literal-more : (labels texts : List (List ℕ)) (text : List ℕ) → with_literal reading flags labels (texts ++ text ∷ []) ≡ with_labels (with_literal reading flags labels texts) (reading text flags).unresolved
  literal-more labels [] text = refl
  literal-more labels (t ∷ ts) text = literal-more (with_labels labels (reading t flags).unresolved) ts text

  -- the next one of some texts is read
  pub literal-next : (texts : List (String Global)) (i : ℕ) (text : String Global) (labels new whole : List (List ℕ)) → i < length texts → text ≡ get_or texts i text → new ≡ with_labels labels (reading (string_bytes text) flags).unresolved
      → with_literal reading flags labels (map string_bytes (drop i texts)) ≡ whole → with_literal reading flags new (map string_bytes (drop (i + 1) texts)) ≡ whole
  literal-next texts i text labels new whole lt is added before =
      ap (λ x. with_literal reading flags x (map string_bytes (drop (i + 1) texts))) added
      ∙ ap (λ x. with_literal reading flags (with_labels labels (reading (string_bytes x) flags).unresolved) (map string_bytes (drop (i + 1) texts))) is
      ∙ ap (λ x. with_literal reading flags labels (map string_bytes x)) (sym (drop_more texts i text lt))
      ∙ before
