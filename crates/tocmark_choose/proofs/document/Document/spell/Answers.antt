use Rattle.std.proofs.Common.{◌∙◌, Ok, ap, string_bytes, subst, sym}
use Rattle.tocmark_write_labels.specs.Document.{DocumentView}
use Rattle.tocmark_write_renderer.specs.WriterOf.{page_of, site_of}
use Rattle.tocmark_choose.specs.Choice.{choice, document_after}
use Rattle.tocmark_choose.specs.DocumentOf.{document_at, document_view, passed}
use Rattle.tocmark_choose.specs.TrialOf.{Refuses, asked_of}
use Rattle.tocmark_choose.proofs.Documents.{passed-noted}
use Rattle.tocmark_choose.proofs.document.Document.spell.Goals as goal

pub returns-in-Ok-clause-chosen : goal.returns-in-Ok-clause-chosen
returns-in-Ok-clause-chosen g c =
    let q = asked_of g.R.Reader.reading c.args.trial.now in
    let s = q.setting in
    let here = site_of c.begin-renderer.result in
    let d = document_view c.begin-renderer.new.self in
    let p = page_of c.write_chosen.new.renderer in
    let began = c.begin-renderer.ensures.view ∙ c.in_ok-make_room.ensures.view in
    let left = sym (passed-noted s d here p) ∙ ap (λ x. passed x p) (sym c.in-Ok.ensures.noted) ∙ sym c.pass.ensures.view in
    ap (λ x. choice s x q.unit q.next) (sym began) ∙ c.in-Ok.ensures.chosen.written
    ∙ ap (λ t. Ok (t, document_after s (document_at c.begin-renderer.new.self here) p)) (sym c.pass.ensures.text)
    ∙ ap (λ x. Ok (string_bytes c.pass.result, x)) left

pub returns-in-Err-clause-chosen : goal.returns-in-Err-clause-chosen
returns-in-Err-clause-chosen g c =
    let q = asked_of g.R.Reader.reading c.args.trial.now in
    let began = c.begin-renderer.ensures.view ∙ c.in_ok-make_room.ensures.view in
    subst (λ (x : DocumentView). Refuses c.in-Err.error (choice q.setting x q.unit q.next)) began c.in-Err.ensures.chosen.refused

pub returns-in-Err-clause-stays : goal.returns-in-Err-clause-stays
returns-in-Err-clause-stays g c =
    let here = site_of c.begin-renderer.result in
    let began = c.begin-renderer.ensures.view ∙ c.in_ok-make_room.ensures.view in
    c.take_back.ensures.view ∙ ap (document_at c.write_chosen.new.self) c.in-Err.ensures.chosen.kept
    ∙ ap (λ (d : DocumentView). record d { trail = here.page.trail; feeds = here.page.sheet.feeds }) c.in-Err.ensures.stays ∙ began
