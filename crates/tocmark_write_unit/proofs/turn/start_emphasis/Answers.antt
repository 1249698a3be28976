use Rattle.std.proofs.Common.{List, ap, arith, length, sym, subst, Option, OnOk, string_bytes}
use Rattle.tocmark_write_emphasis.specs.Low.{OpensLow}
use Rattle.tocmark_write_emphasis.specs.ColumnsOf.{AreColumns}
use Rattle.tocmark_write_emphasis.specs.NodeOf.{Begins, IsNodeOf}
use Rattle.tocmark_event.specs.View.{SourcedEvent, Start, tag_view}
use Rattle.tocmark_spelling.proofs.Turns.{length-events}
use Rattle.tocmark_write_renderer.specs.JobOf.{label_in, manner_view, options_in, setting_in}
use Rattle.tocmark_write_renderer.specs.WriterOf.{levels_of, page_of, Arrives}
use Rattle.tocmark_spelling.specs.Opening.{opening, opening_of}
use Rattle.tocmark_spelling.specs.Page.{Page, Path, Site}
use Rattle.tocmark_write_unit.proofs.Found.{begins, emphasis-row, some-at}
use Rattle.tocmark_write_unit.specs.CensusOf.{starts_emphasis}
use Rattle.tocmark_write_unit.specs.NeighboursOf.{look_in, next_in, rest_in, unit_in}
use Rattle.tocmark_write_unit.proofs.turn.start_emphasis.Goals as goal

pub node_at-node-requires : goal.node_at-node-requires
node_at-node-requires g c =
    let is = c.requires.around in
    omega (arith, is.within, ap length is.pending, length-events c.args.around.unit.now)

pub returns-clause-stands : goal.returns-clause-stands
unfolding opening
returns-clause-stands g c = λ f forest opens.
    let a = c.args in
    let n = a.around in
    let is = c.requires.around in
    let t = tag_view string_bytes a.tag.now in
    let reading = g.R.Reader.reading a.task.now.reader.now in
    let s = setting_in a.task.now.job reading in
    let m = manner_view a.task.now.manner in
    let l = look_in s m t n in
    let begun = begins f (unit_in n) n.place t (rest_in n) forest is.at c.requires.delimits in
    let columns = is.found.emphasis (some-at starts_emphasis (unit_in n) n.place (Start t) (rest_in n) is.at c.requires.delimits) in
    let same = is.pending in
    let node = subst (λ (es : List SourcedEvent). Begins es n.place t (rest_in n) → IsNodeOf reading es n.place c.is_preferred-preferred.result t (rest_in n) (next_in n) c.node_at-node.result) same
    (c.node_at-node.ensures.node reading (subst (λ (es : List SourcedEvent). AreColumns reading es n.found.now.emphasis) (sym same) columns) t (rest_in n)) begun in
    let low = c.node_at-node.ensures.low in
    let told = node.told (options_in a.task.now.job) a.task.now.job.flags (label_in a.task.now.job) m (sym c.is_preferred-preferred.ensures) in
    let behind = sym (c.next_in_unit-behind.ensures t (rest_in n) begun) in
    let path = levels_of a.renderer.now in
    let mid = c.set_last.new.self in
    let at = c.set_last.ensures.stands in
    let Low : Path → Type 0 = OpensLow a.task.now.manner.delimiters in
    let O : Option Site → Type 0 = λ o. OnOk c.open_emphasis.result (Arrives c.open_emphasis.new.renderer o) in
    let P : Path → Type 0 = λ x. O (opening_of s m t l x (page_of mid)) in
    let Q : Page → Type 0 = λ x. O (opening_of s m t l path x) in
    let opened = c.open_emphasis.ensures.stands l c.requires.asked (subst Low (sym at.path_is) opens) low (sym node.tag) told behind in
    subst Q at.page_is (subst P at.path_is (subst O (emphasis-row s m t l (levels_of mid) (page_of mid) c.requires.delimits) opened))
