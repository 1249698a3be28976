-- Inlines (CommonMark 0.31.2, chapter 6): the tree of a leaf's content, and what the content is while it is scanned.
use Rattle.std.specs.Prelude.{ℕ, Bool, true, false, List, [], ◌∷◌, replicate}
use Rattle.tocmark_event.specs.declared.event.LinkType.{LinkType}
use Rattle.tocmark_read_spans.specs.declared.run.Run.{Run}

-- An inline. A link and an image have their type, destination, title and label.
mutual
  pub data Inline : Type 0 where
    Text : List ℕ → Inline
    Code : List ℕ → Inline
    RawHtml : List ℕ → Inline
    SoftBreak : Inline
    HardBreak : Inline
    Emphasis : Inlines → Inline
    Strong : Inlines → Inline
    Link : LinkType → List ℕ → List ℕ → List ℕ → Inlines → Inline
    Image : LinkType → List ℕ → List ℕ → List ℕ → Inlines → Inline

  pub data Inlines : Type 0 where
    none : Inlines
    more : Inline → Inlines → Inlines

-- 6.3, 6.4: an opening bracket: whether it is that of an image, where its content begins, and whether it may begin a link
pub record Bracket : Type 0 where
  pub is_image : Bool
  pub inner : ℕ
  pub is_active : Bool

-- An atom: an inline that is whole, a delimiter run (6.2), or an opening bracket.
pub data Atom : Type 0 where
  Whole : Inline → Atom
  Delimiters : Run → Atom
  Opening : Bracket → Atom

-- `![` or `[`
abbrev pub bracket_text : Bool → List ℕ
bracket_text true = 33 ∷ 91 ∷ []
bracket_text false = 91 ∷ []

-- delimiters and brackets that no rule takes are text (6.9)
abbrev pub as_inline : Atom → Inline
as_inline (Whole i) = i
as_inline (Delimiters r) = Text (replicate r.count r.byte)
as_inline (Opening b) = Text (bracket_text b.is_image)

-- the inlines that atoms are
abbrev pub inlines_of : List Atom → Inlines
inlines_of [] = none
inlines_of (a ∷ rest) = more (as_inline a) (inlines_of rest)
