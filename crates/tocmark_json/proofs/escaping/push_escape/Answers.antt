use Rattle.std.proofs.Common.{◌≡◌, ℕ, List, [], ◌∷◌, rules, subst}
use Rattle.std.specs.Prelude.{OnOk}
use Rattle.json.specs.Print.{escape_byte}
use Rattle.tocmark_json.specs.Printed.{Grows}
use Rattle.tocmark_json.proofs.escaping.push_escape.Goals as goal

pub returns-then-letter-gt0 : goal.returns-then-letter-gt0
unfolding escape_byte
returns-then-letter-gt0 c =
    let same : 92 ∷ c.letter_of-letter.result ∷ [] ≡ escape_byte c.args.byte = search rules in
    subst (λ (bytes : List ℕ). OnOk c.push.result (Grows bytes c.args.out.now.items c.push.new.out.items)) same c.push.ensures

pub returns-then-byte-ge32 : goal.returns-then-byte-ge32
unfolding escape_byte
returns-then-byte-ge32 c =
    let same : c.args.byte ∷ [] ≡ escape_byte c.args.byte = search rules in
    subst (λ (bytes : List ℕ). OnOk c.push-then-byte-ge32.result (Grows bytes c.args.out.now.items c.push-then-byte-ge32.new.out.items)) same c.push-then-byte-ge32.ensures

pub returns : goal.returns
unfolding escape_byte
returns c =
    let same : 92 ∷ 117 ∷ 48 ∷ 48 ∷ c.digit_of-first.result ∷ c.digit_of-second.result ∷ [] ≡ escape_byte c.args.byte = search rules in
    subst (λ (bytes : List ℕ). OnOk c.push-2.result (Grows bytes c.args.out.now.items c.push-2.new.out.items)) same c.push-2.ensures
