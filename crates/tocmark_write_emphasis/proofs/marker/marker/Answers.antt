use Rattle.std.proofs.Common.{◌∙◌, ap, encode_utf8, subst}
use Rattle.std.proofs.lemmas.Result.{IfOk-weaker}
use Rattle.tocmark_spelling.specs.Marker.{asked_marker}
use Rattle.tocmark_spelling.specs.declared.plan.Layout.TheVariants.{Preferred, Runs, Uniform}
use Rattle.tocmark_spelling.specs.PlanOf.{setting_of, manner_of}
use Rattle.tocmark_write_emphasis.specs.Facts.{tag_of, HasLow, IsPlace}
use Rattle.tocmark_write_emphasis.proofs.Layouts.{in-layout, shared-is, three-is}
use Rattle.tocmark_write_emphasis.proofs.marker.marker.Goals as goal

pub returns-in-Preferred : goal.returns-in-Preferred
returns-in-Preferred g c = λ source l path p node place low o flags label.
    let s = setting_of o flags (g.R.Reader.reading c.args.reader.now) label in
    let m = manner_of c.args.delimiters.now source in
    let t = tag_of c.args.node.now.strong in
    let is = c.in-Preferred.is in
    let there = subst (λ x. IsPlace x c.args.place.now (encode_utf8 c.args.delimiters.now.emphasis) l path p) is place in
    IfOk-weaker c.in_preferred.result _ _ (λ text h. h ∙ in-layout s m t l path p Preferred is)
    (c.in_preferred.ensures source l path p node there o flags label)

pub returns-in-Runs : goal.returns-in-Runs
returns-in-Runs g c = λ source l path p node place low o flags label.
    let s = setting_of o flags (g.R.Reader.reading c.args.reader.now) label in
    let m = manner_of c.args.delimiters.now source in
    let t = tag_of c.args.node.now.strong in
    let is = c.in-Runs.is in
    let ascii = subst (λ x. HasLow x (asked_marker m.markers t) c.args.node.now c.args.place.now) is low in
    let there = subst (λ x. IsPlace x c.args.place.now (encode_utf8 c.args.delimiters.now.emphasis) l path p) is place in
    IfOk-weaker c.in_runs.result _ _ (λ text h. h ∙ in-layout s m t l path p Runs is)
    (c.in_runs.ensures source l path p node there ascii o flags label)

pub returns-in-Uniform : goal.returns-in-Uniform
returns-in-Uniform g c = λ source l path p node place low o flags label.
    let s = setting_of o flags (g.R.Reader.reading c.args.reader.now) label in
    let m = manner_of c.args.delimiters.now source in
    let t = tag_of c.args.node.now.strong in
    IfOk-weaker c.asked_token.result _ _ (λ text h. h ∙ in-layout s m t l path p Uniform c.in-Uniform.is)
    c.asked_token.ensures

pub returns-in-Shared : goal.returns-in-Shared
returns-in-Shared g c = λ source l path p node place low o flags label.
    let s = setting_of o flags (g.R.Reader.reading c.args.reader.now) label in
    let m = manner_of c.args.delimiters.now source in
    let t = tag_of c.args.node.now.strong in
    let is = c.in-Shared.is in
    let ascii = subst (λ x. HasLow x (asked_marker m.markers t) c.args.node.now c.args.place.now) is low in
    IfOk-weaker c.in_sharing.result _ _ (λ text h. h ∙ shared-is s m t l path p _ _ _ is)
    (c.in_sharing.ensures source l path p node place ascii o flags label)

pub returns-in-RuleThree : goal.returns-in-RuleThree
returns-in-RuleThree g c = λ source l path p node place low o flags label.
    let s = setting_of o flags (g.R.Reader.reading c.args.reader.now) label in
    let m = manner_of c.args.delimiters.now source in
    let t = tag_of c.args.node.now.strong in
    let is = c.in-RuleThree.is in
    let ascii = subst (λ x. HasLow x (asked_marker m.markers t) c.args.node.now c.args.place.now) is low in
    IfOk-weaker c.in_sharing-in-RuleThree.result _ _ (λ text h. h ∙ three-is s m t l path p is)
    (c.in_sharing-in-RuleThree.ensures source l path p node place ascii o flags label)
