use Rattle.tocmark_judge.proofs.Alike.{same-alike}
use Rattle.tocmark_judge.proofs.judge.Judge.are_alike.Goals as goal

pub returns-then-is_same_text : goal.returns-then-is_same_text
returns-then-is_same_text g c = λ _.
    let f = c.args.self.now in
    same-alike f.folds f.flags f.also.now (g.R.Reader.reading f.reader.now) (g.R.PartReader.definitions f.reader.now) c.args.one.now c.args.other.now (c.is_same_text.ensures c.if-is_same_text.true)
