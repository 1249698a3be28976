-- What the mark needs is kept where the text grows.
use Rattle.std.proofs.Common.{◌≡◌, ◌∙◌, ap, sym, [], take, unwrap_or, ℕ, ◌<◌, ◌≤◌, Option, Some, None, List, ◌++◌, length, length-append, refl, subst, arith, string_bytes, IfSome, String, ◌⊎◌, inl, inr}
use Rattle.std.specs.declared.alloc.Global.{Global}
use Rattle.std.specs.Str.{IsCharBoundary, IsUtf8}
use Rattle.std.proofs.lemmas.List.{get_or_append_left, take-append-le}
use Rattle.std.proofs.lemmas.Str.{IsCharBoundary-at_seam}
use Rattle.tocmark_write_renderer.specs.Changes.{on_sheet, with_feeds, with_more}
use Rattle.tocmark_write_renderer.specs.RendererOf.{AreCut, Fits, rendering_of, site_now}
use Rattle.tocmark_write_renderer.specs.WriterOf.{Rendering, site_of}
use Rattle.tocmark_write_renderer.specs.declared.renderer.Renderer.TheInside.{Inside}
use Rattle.tocmark_write_renderer.specs.declared.renderer.Snapshot.{Snapshot}

cut-by : (bs more : List ℕ) (n : ℕ) → IsUtf8 more → (n ≤ length bs) → ((n < length bs) ⊎ (n ≡ length bs)) → IsCharBoundary bs n → IsCharBoundary (bs ++ more) n
cut-by bs more n u l (inl less) c = (
  omega (arith, length-append bs more),
  λ _ high. rw (get_or_append_left bs more 0 n less) (c.1 less (subst (λ v. 128 ≤ v) (get_or_append_left bs more 0 n less) high)),
)
cut-by bs more n u l (inr same) c = rw same (IsCharBoundary-at_seam (bs ++ more) bs more refl u)

below-or-at : (n m : ℕ) → n ≤ m → ((n < m) ⊎ (n ≡ m))
below-or-at n m l = grind arith

-- where a text may be cut, it may be cut when it has grown
pub cut-grows : (bs more : List ℕ) (n : ℕ) → IsUtf8 more → IsCharBoundary bs n → IsCharBoundary (bs ++ more) n
cut-grows bs more n u c = cut-by bs more n u c.0 (below-or-at n (length bs) c.0) c

-- what is kept where the text has grown
pub text-grows : (a : Inside) (s : String Global) (more : List ℕ) (o : Option Snapshot) → IsUtf8 more → string_bytes s ≡ string_bytes a.text ++ more → IfSome o (λ m. Fits a m) → IfSome o (λ m. Fits (record a { text = s }) m)
text-grows a s more None u e f = f
text-grows a s more (Some m) u e f = record {
  cut = rw e (cut-grows (string_bytes a.text) more m.text u f.cut);
  references = f.references;
  starts = subst (λ t. AreCut t (unwrap_or a.containers.at_mark [])) (sym (ap (take m.text) e ∙ take-append-le m.text (string_bytes a.text) more f.cut.0)) f.starts;
}

-- a renderer with this text, at whose end no line feed is
abbrev pub with_text : Inside → String Global → Inside
with_text a s = record a { text = s; newlines = 0 }

-- the mark asks nothing of the line feeds
pub line-grows : (a : Inside) (s : String Global) (more : List ℕ) → IsUtf8 more → string_bytes s ≡ string_bytes a.text ++ more → IfSome a.mark (λ m. Fits a m) → IfSome a.mark (λ m. Fits (with_text a s) m)
line-grows a s more u e f = text-grows (record a { newlines = 0 }) s more a.mark u e (by a.mark f)
  where
    by : (o : Option Snapshot) → IfSome o (λ m. Fits a m) → IfSome o (λ m. Fits (record a { newlines = 0 }) m)
    by None h = h
    by (Some m) h = record { cut = h.cut; references = h.references; starts = h.starts }

-- where it is then
pub line-stands : (a : Inside) (s : String Global) (more : List ℕ) (w : Rendering) → string_bytes s ≡ string_bytes a.text ++ more → rendering_of a ≡ w → site_of (rendering_of (with_text a s)) ≡ on_sheet (with_feeds 0) (on_sheet (with_more more) (site_of w))
line-stands a s more w e is =
    ap (λ t. on_sheet (λ _. record { text = t; feeds = 0 }) (site_now a)) e
    ∙ ap (λ (x : Rendering). on_sheet (with_feeds 0) (on_sheet (with_more more) (site_of x))) is
