use Rattle.std.proofs.Common.{[], ◌++◌, ◌∙◌, refl, rules, sym, encode_utf8_all}
use Rattle.std.proofs.Output.{has_written_append, has_written_of_eq}
use Rattle.std.specs.Str.Iter.{chars_rest}
use Rattle.tocmark_write_texts.specs.Destination.{title_character}
use Rattle.tocmark_write_texts.proofs.CharacterLemmas.{title-stays, title_rule, written_more, nothing_left}
use Rattle.tocmark_write_texts.proofs.text_modifications.EscapeLinkTitleDisplay.fmt.Goals as goal

pub returns-then-not-holds_escaped_in_title-clause-writes : goal.returns-then-not-holds_escaped_in_title-clause-writes
returns-then-not-holds_escaped_in_title-clause-writes g c = λ plain ok.
    let same = title-stays c.args.self.now.0.now (sym c.holds_escaped_in_title.ensures ∙ c.if-not-holds_escaped_in_title.true) in
    has_written_of_eq _ _ _ _ _ (sym same) (c.write_str.ensures.writes plain ok)

pub loop-c-init : goal.loop-c-init
loop-c-init g c = λ plain. ([], search rules, search rules)

pub loop-c-preserved : goal.loop-c-preserved
loop-c-preserved g c = λ plain.
    let so_far = c.loop-c.invariant plain in (
      so_far.0 ++ encode_utf8_all (title_character c.in-Some.c),
      has_written_append _ _ _ _ _ _ so_far.1 (search rules),
      written_more title_character title_rule _ _ so_far.0 _ _ c.in-Some.c c.in-Some.ensures.steps.0 refl so_far.2,
    )

pub returns-clause-writes : goal.returns-clause-writes
returns-clause-writes g c = λ plain _.
    let so_far = c.loop-c.invariant plain in
    has_written_of_eq _ _ _ _ _ (nothing_left title_character (chars_rest c.loop-c.c-iterator) so_far.0 _ c.in-None.ensures.steps.0.0 so_far.2) so_far.1
