use Rattle.std.proofs.Common.{◌∙◌, ap, encode_utf8_all, sym}
use Rattle.std.proofs.lemmas.Result.{IfOk-weaker}
use Rattle.std.proofs.lemmas.Str.{chars_from_encodes}
use Rattle.caseless.specs.Caseless.{default_case_fold}
use Rattle.tocmark_write_labels.proofs.matched.label_key.Goals as goal

pub returns : goal.returns
returns c =
    let spelled = chars_from_encodes _ _ c.as_str.utf8 (sym (c.as_str.ensures.value ∙ c.in_ok-text.ensures)) in
    IfOk-weaker c.default_case_fold_str.result _ _
    (λ key e. e ∙ ap (λ cs. encode_utf8_all (default_case_fold cs)) (sym spelled))
    c.default_case_fold_str.ensures
