use Rattle.std.proofs.Common.{flat_map, map, ◌++◌, ◌∷◌, ◌∙◌, ap, length, refl, sym}
use Rattle.std.proofs.lemmas.List.{length-map}
use Rattle.tocmark_json.specs.Marshal.{text_bytes}
use Rattle.tocmark_json.specs.Marshal.{four}
use Rattle.tocmark_json.proofs.Marshalled.{more_come, all_come}
use Rattle.tocmark_json.proofs.marshalling.push_classes.Goals as goal

pub loop-class-preserved : goal.loop-class-preserved
loop-class-preserved g c =
    let l = c.loop-class in
    more_come (λ x. text_bytes (g.T.Words.bytes x)) (λ ys. flat_map text_bytes (map g.T.Words.bytes ys)) (λ x ys. refl) refl c.args.classes.now l.class-index c.push_length.new.out.items l.out.items c.push_text.new.out.items l.invariant c.class-item.result c.loop-class-test.true c.class-item.is c.in_ok-push_text.ensures

pub returns : goal.returns
returns g c =
    let l = c.loop-class in
    all_come (λ x. text_bytes (g.T.Words.bytes x)) (λ ys. flat_map text_bytes (map g.T.Words.bytes ys)) (λ x ys. refl) refl c.args.classes.now l.class-index c.push_length.new.out.items l.out.items l.out.items l.invariant c.args.out.now.items (91 ∷ four (length ((map g.T.Words.bytes c.args.classes.now)))) c.loop-class-test.false (c.in_ok-push_length.ensures ∙ ap (λ n. c.args.out.now.items ++ 91 ∷ four n) (sym (length-map c.args.classes.now g.T.Words.bytes)))
