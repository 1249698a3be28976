use Rattle.std.proofs.Common.{◌∙◌, Some, ap, sym}
use Rattle.tocmark_event.specs.Text.{text_of}
use Rattle.tocmark_event.specs.View.{Image, Link, Start, tag_view}
use Rattle.tocmark_compare.proofs.digest.link_parts.Goals as goal

pub returns-in-Link : goal.returns-in-Link
returns-in-Link c =
    record {
      more = c.link_mark.ensures.more c.as_ref.result.now;
      all = c.link_mark.ensures.all c.as_ref.result.now c.as_ref-in-Link.result.now c.as_ref-in-Link-2.result.now
          ∙ ap (λ d. Some (Start (Link c.in-Link.link_type d c.as_ref-in-Link.result.now c.as_ref-in-Link-2.result.now))) c.as_ref.ensures.value
          ∙ ap (λ d. Some (Start (Link c.in-Link.link_type (text_of c.in-Link.dest_url) d c.as_ref-in-Link-2.result.now))) c.as_ref-in-Link.ensures.value
          ∙ ap (λ d. Some (Start (Link c.in-Link.link_type (text_of c.in-Link.dest_url) (text_of c.in-Link.title) d))) c.as_ref-in-Link-2.ensures.value
          ∙ sym (ap (λ t. Some (Start (tag_view text_of t))) c.in-Link.is);
    }

pub returns-in-Image : goal.returns-in-Image
returns-in-Image c =
    record {
      more = c.image_mark.ensures.more c.as_ref-in-Image.result.now;
      all = c.image_mark.ensures.all c.as_ref-in-Image.result.now c.as_ref-in-Image-2.result.now c.as_ref-in-Image-3.result.now
          ∙ ap (λ d. Some (Start (Image c.in-Image.link_type d c.as_ref-in-Image-2.result.now c.as_ref-in-Image-3.result.now))) c.as_ref-in-Image.ensures.value
          ∙ ap (λ d. Some (Start (Image c.in-Image.link_type (text_of c.in-Image.dest_url) d c.as_ref-in-Image-3.result.now))) c.as_ref-in-Image-2.ensures.value
          ∙ ap (λ d. Some (Start (Image c.in-Image.link_type (text_of c.in-Image.dest_url) (text_of c.in-Image.title) d))) c.as_ref-in-Image-3.ensures.value
          ∙ sym (ap (λ t. Some (Start (tag_view text_of t))) c.in-Image.is);
    }
