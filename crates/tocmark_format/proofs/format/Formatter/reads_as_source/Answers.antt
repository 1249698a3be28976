use Rattle.std.proofs.Common.{◌≡◌, ℕ, List, IfOk, IsTrue, map, subst}
use Rattle.tocmark_compare.specs.Given.{found_events}
use Rattle.tocmark_judge.specs.Alike.{AreAlike}
use Rattle.tocmark_judge.specs.LinkDefinitions.{link_defined}
use Rattle.tocmark_judge.specs.Summaries.{Sums}
use Rattle.tocmark_format.proofs.format.Formatter.reads_as_source.Goals as goal

pub returns : goal.returns
returns g c =
    let f = c.args.self.now in
    let read = g.R.Reader.reading f.judge.reader.now in
    let defined = g.R.PartReader.definitions f.judge.reader.now in
    let source = c.args.source.now in
    let old = c.args.printed.now.source in
    let new = c.args.found.now in
    subst (λ (t : List ℕ). IfOk c.finds_the_same.result (λ same. IsTrue same
    → Sums new.says (found_events (read t f.judge.flags))
    → map link_defined new.definitions.items ≡ defined t f.judge.flags
    → Sums old.says (found_events (read source f.judge.flags))
    → map link_defined old.definitions.items ≡ defined source f.judge.flags
    → AreAlike f.judge.folds f.judge.flags f.judge.also.now read defined t source))
    c.as_str-new.ensures.value c.finds_the_same.ensures
