use Rattle.std.proofs.Common.{◌≡◌, Some, map, string_bytes}
use Rattle.std.proofs.lemmas.Result.{IfOk-weaker}
use Rattle.serde_json.specs.Data.{Data}
use Rattle.serde_json.specs.Read.{read}
use Rattle.serde_json.specs.Written.{IsInOrder, compact_text}
use Rattle.tocmark_json.specs.Json.{pairs_json, ranged_view}
use Rattle.tocmark_json.proofs.Adding.{text_added, value_order, value_read}
use Rattle.tocmark_json.proofs.Shallow.{pairs_shallow}
use Rattle.tocmark_json.proofs.printing.ranged_to_text.Goals as goal

pub returns-clause-text : goal.returns-clause-text
returns-clause-text g c =
    let d : Data = pairs_json (map (ranged_view g.T.Words.bytes) c.args.pairs.now) in
    IfOk-weaker c.text_of.result (λ text. string_bytes text ≡ c.print_ranged_events.new.out.items) (λ text. string_bytes text ≡ compact_text d) (λ text is. text_added d c.new-out.result.items c.print_ranged_events.new.out.items (string_bytes text) c.new-out.ensures.items c.in_ok-print_ranged_events.ensures is) c.text_of.ensures

pub returns-clause-order : goal.returns-clause-order
returns-clause-order g c =
    let d : Data = pairs_json (map (ranged_view g.T.Words.bytes) c.args.pairs.now) in
    IfOk-weaker c.text_of.result (λ text. string_bytes text ≡ c.print_ranged_events.new.out.items) (λ text. IsInOrder (string_bytes text) d) (λ text is. value_order d (string_bytes text) c.in_ok-print_ranged_events.ensures.sound (text_added d c.new-out.result.items c.print_ranged_events.new.out.items (string_bytes text) c.new-out.ensures.items c.in_ok-print_ranged_events.ensures is)) c.text_of.ensures

pub returns-clause-reads_back : goal.returns-clause-reads_back
returns-clause-reads_back g c =
    let d : Data = pairs_json (map (ranged_view g.T.Words.bytes) c.args.pairs.now) in
    IfOk-weaker c.text_of.result (λ text. string_bytes text ≡ c.print_ranged_events.new.out.items) (λ text. read (string_bytes text) ≡ Some d) (λ text is. value_read d (string_bytes text) c.in_ok-print_ranged_events.ensures.sound (text_added d c.new-out.result.items c.print_ranged_events.new.out.items (string_bytes text) c.new-out.ensures.items c.in_ok-print_ranged_events.ensures is) (pairs_shallow (map (ranged_view g.T.Words.bytes) c.args.pairs.now))) c.text_of.ensures
