use Rattle.std.proofs.Common.{◌∙◌, ◌++◌, [], sym, ap, chars, length, encode_utf8, encode_utf8_all, append-nil, arith, rules, string_bytes}
use Rattle.std.proofs.lemmas.Str.{IsUtf8-past_char}
use Rattle.tocmark_write_texts.specs.Escape.{place_of, escaped}
use Rattle.tocmark_write_texts.proofs.EscapeLemmas.{escape_on-is, escape_on-more, chars_of_empty}
use Rattle.tocmark_write_texts.proofs.Fronts.{begins-still, begins-whole, escaped-utf8, longer}
use Rattle.tocmark_write_texts.proofs.Runs.{escape_on-run, run_rest}
use Rattle.tocmark_write_texts.proofs.escape.push_characters.Goals as goal

pub loop-character-init : goal.loop-character-init
unfolding escaped
loop-character-init c = record {
  is_text = search rules;
  longer = omega (arith, ap length c.in_ok-reserve.ensures.bytes);
  same = rw (c.in_ok-reserve.ensures.bytes, c.chars-rest.ensures.rest)
      (ap (λ cs. string_bytes c.args.to.now ++ encode_utf8_all cs) (escape_on-is (place_of c.args.place.now) [] (chars c.args.text.now)));
}

pub loop-character-preserved : goal.loop-character-preserved
loop-character-preserved c =
    let held = c.loop-character.invariant in
    let place = place_of c.args.place.now in
    let parts = c.in-Some.ensures.steps.0 ∙ ap (λ x. encode_utf8 c.in-Some.character ++ x) (sym c.as_str-after.ensures) in
    let is_text = IsUtf8-past_char _ _ c.in-Some.character held.is_text parts in
    let one = escape_on-more place c.loop-character.before c.loop-character.only_digits
    c.is_digits-only_digits.result _ _ _ _ _ c.in-Some.character held.is_text parts
    c.is_digits-only_digits.ensures
    (rw (← c.spot_from-spot.ensures) c.in_ok-push_character.ensures) held.same in
    let rest = c.chars-rest-in-Some.ensures.rest ∙ c.cut_bare.ensures.back in
    record {
      is_text = run_rest place c.is_digits-only_digits.result _ _ is_text rest;
      longer = longer _ _ _ _ (longer _ _ _ _ held.longer c.in_ok-push_character.ensures) c.in_ok-push_run.ensures;
      same = escape_on-run place c.in-Some.character c.last_of.result c.is_digits-only_digits.result
          _ _ _ _ _ _ is_text c.cut_bare.ensures.front rest c.last_of.ensures
          c.in_ok-push_run.ensures one;
    }

pub returns : goal.returns
returns c =
    let written = sym (append-nil _) ∙ rw (chars_of_empty _ c.in_default.ensures.steps.0.0) at c.loop-character.invariant.same in
    record {
      bytes = written;
      front = begins-whole _ _ _ written (escaped-utf8 (place_of c.args.place.now) c.args.text.now c.utf8.text);
    }

pub returns-in_err-push_character-clause-front : goal.returns-in_err-push_character-clause-front
returns-in_err-push_character-clause-front c =
    let held = c.loop-character.invariant in
    begins-still _ _ _ _ _ c.in_err-push_character.ensures held.same held.longer (escaped-utf8 (place_of c.args.place.now) c.args.text.now c.utf8.text)

pub returns-in_err-push_run-clause-front : goal.returns-in_err-push_run-clause-front
returns-in_err-push_run-clause-front c =
    let held = c.loop-character.invariant in
    let place = place_of c.args.place.now in
    let parts = c.in-Some.ensures.steps.0 ∙ ap (λ x. encode_utf8 c.in-Some.character ++ x) (sym c.as_str-after.ensures) in
    let one = escape_on-more place c.loop-character.before c.loop-character.only_digits
    c.is_digits-only_digits.result _ _ _ _ _ c.in-Some.character held.is_text parts
    c.is_digits-only_digits.ensures
    (rw (← c.spot_from-spot.ensures) c.in_ok-push_character.ensures) held.same in
    begins-still _ _ _ _ _ c.in_err-push_run.ensures one (longer _ _ _ _ held.longer c.in_ok-push_character.ensures)
    (escaped-utf8 place c.args.text.now c.utf8.text)
