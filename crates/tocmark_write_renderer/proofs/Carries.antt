-- A change of what is carried along is one of the trail.
use Rattle.std.proofs.Common.{◌≡◌, ap, ◌∙◌}
use Rattle.tocmark_spelling.specs.Page.{Site, Trail, with_trail}
use Rattle.tocmark_spelling.specs.TrailOf.{Becomes, trail_of}
use Rattle.tocmark_spelling.specs.declared.trail.Carried.{Carried}
use Rattle.tocmark_write_renderer.specs.Changes.{carrying, on_page}
use Rattle.tocmark_write_renderer.specs.WriterOf.{Rendering, Stands, levels_of, page_of, site_of}

pub carries : (c new : Carried) (change : Trail → Trail) (old w : Rendering) → trail_of c (page_of old).trail.quote_line ≡ (page_of old).trail → Becomes c new change → site_of w ≡ on_page (carrying new) (site_of old) → Stands w (levels_of old) (with_trail (change (page_of old).trail) (page_of old))
carries c new change old w is becomes set = record {
  path_is = ap (λ (x : Site). x.path) set;
  page_is = ap (λ (x : Site). x.page) set ∙ ap (λ t. with_trail t (page_of old)) (becomes (page_of old).trail.quote_line ∙ ap change is);
}
