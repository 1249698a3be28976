use Rattle.std.proofs.Common.{◌≡◌, ◌∙◌, Option, ap, encode_utf8, sym}
use Rattle.tocmark_write_renderer.specs.WriterOf.{page_of, site_of}
use Rattle.tocmark_spelling.specs.Marker.{is_token, token_of}
use Rattle.tocmark_spelling.specs.Page.{Level, Site}
use Rattle.tocmark_spelling.specs.Runs.{last_run}
use Rattle.tocmark_spelling.specs.Words.{last_byte, last_character}
use Rattle.tocmark_write_emphasis.proofs.place.place_of.Goals as goal

pub returns-clause-place : goal.returns-clause-place
returns-clause-place c = λ l next.
    let stays : site_of c.asked_last_run.new.renderer ≡ site_of c.args.renderer.now = c.in_ok-last_run.ensures.site ∙ c.in_ok-parent.ensures.site in
    let text : c.text-text.result.now ≡ (page_of c.args.renderer.now).sheet.text = c.text-text.ensures ∙ ap (λ (x : Site). x.page.sheet.text) stays in
    record {
      last_character = sym (c.last_character.ensures ∙ ap last_character text);
      last_byte = sym (c.last_byte.ensures ∙ ap last_byte text);
      last_run = λ asks. sym (c.in_ok-last_run.ensures.run asks ∙ ap (λ (x : Site). last_run x.page.sheet.text) c.in_ok-parent.ensures.site);
      in_same = sym (c.in_ok-in_same.ensures ∙ ap (λ (o : Option Level). is_token (token_of o) (encode_utf8 c.args.delimiters.now.emphasis)) c.nearest_emphasis.ensures);
      parent = c.in_ok-parent.ensures.parent l next;
    }
