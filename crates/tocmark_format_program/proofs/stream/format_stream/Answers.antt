use Rattle.std.proofs.Common.{ℕ, IfSome, List, Option, None, Some, subst}
use Rattle.std.specs.Prelude.{string_bytes}
use Rattle.std.specs.Io.KnownBytes.{Appends}
use Rattle.tocmark_format_program.proofs.stream.format_stream.Goals as goal

-- what is said of the bytes that are known leads to something else
over : {P Q : List ℕ → Type 0} (o : Option (List ℕ)) → IfSome o P → ((bytes : List ℕ) → P bytes → Q bytes) → IfSome o Q
over None p f = tt
over (Some bytes) p f = f bytes p

pub returns-in-Ok-clause-same : goal.returns-in-Ok-clause-same
returns-in-Ok-clause-same c d =
    over (c.I.Read.remaining d.args.input.now) d.in_ok-text.ensures.form
    (λ bytes form. record {
      text = string_bytes d.in_ok-text.text;
      form = form;
      appended = subst (λ (t : List ℕ). Appends (c.O.Write.contents d.args.output.now) (c.O.Write.contents d.write_out.new.output) t) d.as_str.ensures.value d.in-Ok.ensures;
    })
