use Rattle.std.proofs.Common.{◌∙◌, ap, sym, arith, false, map, slice_index_or}
use Rattle.std.proofs.lemmas.List.{length-map}
use Rattle.tocmark_spelling.specs.Buffered.{buffered_view}
use Rattle.tocmark_spelling.specs.PlanOf.{setting_of}
use Rattle.tocmark_write_inlines.proofs.Names.{none-named, name-more, all-named}
use Rattle.tocmark_write_inlines.proofs.named.named.Goals as goal

pub returns-then-not-ask_reader : goal.returns-then-not-ask_reader
returns-then-not-ask_reader g c =
    record {
      at = λ o label i.
          ap (λ bs. slice_index_or bs i false) c.new-found.ensures.items
          ∙ none-named (setting_of o c.args.flags (g.R.Reader.reading c.args.reader.now) label) (map buffered_view c.args.events.now) i (sym c.ask_reader.ensures ∙ c.if-not-ask_reader.true);
    }

pub loop-i-preserved : goal.loop-i-preserved
loop-i-preserved g c =
    record {
      within = omega (arith, c.loop-i-test.true);
      same = λ o label.
          name-more (setting_of o c.args.flags (g.R.Reader.reading c.args.reader.now) label) (map buffered_view c.args.events.now) c.loop-i.found.items c.push.new.self.items c.loop-i.i c.in_ok-is_named_at.field-0
          (omega (arith, c.loop-i-test.true, length-map c.args.events.now buffered_view)) c.in_ok-push.ensures.items (c.in_ok-is_named_at.ensures o label) (c.loop-i.invariant.same o label);
    }

pub returns : goal.returns
returns g c =
    record {
      at = λ o label k.
          all-named (setting_of o c.args.flags (g.R.Reader.reading c.args.reader.now) label) (map buffered_view c.args.events.now) c.loop-i.found.items c.loop-i.i k
          (omega (arith, c.loop-i-test.false, length-map c.args.events.now buffered_view)) (c.loop-i.invariant.same o label);
    }
