use Rattle.std.proofs.Common.{◌∙◌, ap, sym, Bool, if◌then◌else◌}
use Rattle.std.proofs.lemmas.Result.{IfOk-weaker}
use Rattle.std.specs.Prelude.{◌||◌, ◌&&◌}
use Rattle.tocmark_spelling.specs.Marker.{same_finish, shares_start, shares_finish, completes_three}
use Rattle.tocmark_spelling.specs.PlanOf.{setting_of}
use Rattle.tocmark_write_emphasis.specs.Facts.{tag_of}
use Rattle.tocmark_write_emphasis.proofs.sharing.shares_marker.Goals as goal

pub returns-then-parent : goal.returns-then-parent
returns-then-parent g c = λ l level p node parent o flags label.
    let s = setting_of o flags (g.R.Reader.reading c.args.reader.now) label in
    let layout = c.args.layout in
    let t = tag_of c.args.node.now.strong in
    let apart = completes_three layout l level p || (same_finish level l && shares_finish layout) in
    let starts : Bool → Bool = λ finish. shares_start s layout t l finish in
    IfOk-weaker c.shares_start.result _ _
    (λ x h. h ∙ ap starts (sym parent.same_finish) ∙ ap (λ b. if b then starts (same_finish level l) else apart) (sym (parent.same_start ∙ c.if-parent.true)))
    (c.shares_start.ensures l node o flags label)
