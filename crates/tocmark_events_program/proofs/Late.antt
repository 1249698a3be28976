-- What is after what was there where a call fails.
use Rattle.std.proofs.Common.{◌≡◌, ◌∙◌, ℕ, List, [], Option, None, Some, Result, Ok, Err, append-nil, inr, subst, sym}
use Rattle.std.specs.Prelude.{IfSome, OnErr}
use Rattle.std.specs.Io.KnownBytes.{Keeps}
use Rattle.std.proofs.KnownBytes.{Appends-kept}
use Rattle.tocmark_documents.specs.Lines.{AppendsFront}
use Rattle.tocmark_events_program.specs.Events.{IsAnswered, IsOutput, WritesLate}
use Rattle.tocmark_events_program.specs.declared.arguments.Call.{Call}

-- a front of the output was written
pub front_written : {T E O : Type 0} (contents : O → Option (List ℕ)) (r : Result T E) (call : Call) (source input : List ℕ) (old new : O) (output : List ℕ) → IsOutput call source input output → AppendsFront (contents old) (contents new) output → OnErr r (WritesLate contents call source (Some input) old new)
front_written contents (Ok x) call source input old new output is front = tt
front_written contents (Err e) call source input old new output is front = inr (record { output = output; is_output = is; appended = front })

-- all of the output was written, and it can't be flushed
pub flushed_late : {O : Type 0} (contents : O → Option (List ℕ)) (call : Call) (source lent text : List ℕ) (remaining : Option (List ℕ)) (old mid new : O) → lent ≡ text → IfSome remaining (λ bytes. text ≡ bytes) → IsAnswered call source lent (contents old) (contents mid) → Keeps (contents mid) (contents new) → WritesLate contents call source remaining old new
flushed_late contents call source lent text None old mid new same read answered kept = tt
flushed_late contents call source lent text (Some bytes) old mid new same read answered kept = inr (record {
  output = answered.output;
  is_output = subst (λ (input : List ℕ). IsOutput call source input answered.output) (same ∙ read) answered.is_output;
  appended = ([], (answered.output, sym (append-nil answered.output), Appends-kept (contents old) (contents mid) (contents new) answered.output answered.appended kept));
})
