use Rattle.std.proofs.Common.{◌≡◌, map, take}
use Rattle.tocmark_event.proofs.event.copied_texts.Given as goal

abbrev pub invariant-loop-text : goal.invariant-loop-text
invariant-loop-text g l = map g.U.Words.bytes l.copies.items ≡ map g.T.Words.bytes (take l.text-index l.texts)
