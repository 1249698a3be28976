use Rattle.std.proofs.Common.{◌≡◌, true, false, codes, [], List, ap, subst}
use Rattle.std.specs.Borrow.{Bor}
use Rattle.std.specs.Result.{IfOk}
use Rattle.std.specs.Char.{char_set_contains}
use Rattle.tocmark_event.specs.Options.{OptionsView, default_options, options_view}
use Rattle.tocmark_event.specs.Text.{ParserEvent}
use Rattle.tocmark_state.specs.Walk.{done, nothing_yet, script}
use Rattle.tocmark_state.specs.WorkView.{pairs, rendering}
use Rattle.tocmark_state.specs.Writes.{Makes}
use Rattle.tocmark_state.specs.StateView.{rendering_of}
use Rattle.tocmark_laws.proofs.BlockWalks.{blocks_made}
use Rattle.tocmark_laws.proofs.DocumentsReadBack.{document_made}
use Rattle.tocmark_laws.proofs.PlainDocument.{lines_handed}
use Rattle.tocmark_laws.proofs.SingleBlocks.{code_span_made, fenced_code_made, link_made}
use Rattle.tocmark.specs.Writing.{TakesEvents}
use Rattle.tocmark.proofs.Written.{taken}
use Rattle.tocmark.proofs.cmark.Given as given
use Rattle.tocmark.proofs.cmark.Goals as goal

-- what follows for events from the script that is made of them holds of those that the call took
of_events : (g : given.Over) (c : goal.After-cmark_with_options g) (Holds : List (Bor ParserEvent) → Type 0)
    → ((xs : List (Bor ParserEvent)) → Makes g.W.Taker.takes g.W.Taker.refuses c.args.writer.now c.cmark_with_options.new.writer c.cmark_with_options.result done (script (rendering (options_view c.default-defaults.result) (g.R.Reader.reading c.args.reader)) [] (nothing_yet c.args.parser_options) (pairs xs)) → Holds xs)
    → TakesEvents g.I.IntoIterator.into_iter_gives g.I.IntoIter.Iterator.next_gives c.args.events c.cmark_with_options.result Holds
of_events g c Holds holds =
    taken g.I.IntoIterator.into_iter_gives g.I.IntoIter.Iterator.next_gives c.args.events g.W.Taker.takes g.W.Taker.refuses c.args.writer.now c.cmark_with_options.new.writer c.cmark_with_options.result (rendering (options_view c.default-defaults.result) (g.R.Reader.reading c.args.reader)) c.args.parser_options Holds holds c.cmark_with_options.ensures.made

pub returns-clause-lines : goal.returns-clause-lines
returns-clause-lines g c =
    let default : options_view c.default-defaults.result ≡ default_options = c.default-defaults.ensures in
    let token : char_set_contains (codes "*_") (options_view c.default-defaults.result).emphasis_token ≡ true =
    ap (λ (o : OptionsView). char_set_contains (codes "*_") o.emphasis_token) default
    in
    let off : (options_view c.default-defaults.result).check_plain_blocks ≡ false = ap (λ (o : OptionsView). o.check_plain_blocks) default in
    of_events g c _ (λ xs made l ms lines same. lines_handed g.W.Taker.takes g.W.Taker.refuses c.args.writer.now c.cmark_with_options.new.writer c.cmark_with_options.result (options_view c.default-defaults.result) (g.R.Reader.reading c.args.reader) c.args.parser_options (pairs xs) l ms off token lines same made)

pub returns-clause-blocks : goal.returns-clause-blocks
returns-clause-blocks g c =
    of_events g c _ (λ xs made. blocks_made g.W.Taker.takes g.W.Taker.refuses c.args.writer.now c.cmark_with_options.new.writer c.cmark_with_options.result (options_view c.default-defaults.result) (g.R.Reader.reading c.args.reader) c.args.parser_options (pairs xs) c.default-defaults.ensures made)

pub returns-clause-documents : goal.returns-clause-documents
returns-clause-documents g c =
    of_events g c _ (λ xs made. document_made g.W.Taker.takes g.W.Taker.refuses c.args.writer.now c.cmark_with_options.new.writer c.cmark_with_options.result (options_view c.default-defaults.result) (g.R.Reader.reading c.args.reader) c.args.parser_options (pairs xs) c.default-defaults.ensures made)

pub returns-clause-code : goal.returns-clause-code
returns-clause-code g c =
    of_events g c _ (λ xs made. code_span_made g.W.Taker.takes g.W.Taker.refuses c.args.writer.now c.cmark_with_options.new.writer c.cmark_with_options.result (options_view c.default-defaults.result) (g.R.Reader.reading c.args.reader) c.args.parser_options (pairs xs) c.default-defaults.ensures made)

pub returns-clause-link : goal.returns-clause-link
returns-clause-link g c =
    of_events g c _ (λ xs made. link_made g.W.Taker.takes g.W.Taker.refuses c.args.writer.now c.cmark_with_options.new.writer c.cmark_with_options.result (options_view c.default-defaults.result) (g.R.Reader.reading c.args.reader) c.args.parser_options (pairs xs) c.default-defaults.ensures made)

pub returns-clause-fence : goal.returns-clause-fence
returns-clause-fence g c =
    of_events g c _ (λ xs made. fenced_code_made g.W.Taker.takes g.W.Taker.refuses c.args.writer.now c.cmark_with_options.new.writer c.cmark_with_options.result (options_view c.default-defaults.result) (g.R.Reader.reading c.args.reader) c.args.parser_options (pairs xs) c.default-defaults.ensures made)

pub returns-clause-same : goal.returns-clause-same
returns-clause-same g c =
    subst (λ (o : OptionsView). IfOk c.cmark_with_options.result (λ state. rendering_of g.R.Reader.reading state ≡ rendering o (g.R.Reader.reading c.args.reader))) c.default-defaults.ensures c.cmark_with_options.ensures.same
