use Rattle.std.proofs.Common.{rules, ◌≡◌, ℕ, List, [], false, length, map, refl, ap, string_bytes, true}
use Rattle.std.specs.Prelude.{◌==◌}
use Rattle.std.proofs.lemmas.Bool.{eqb-true}
use Rattle.std.proofs.lemmas.List.{nil_from_length}
use Rattle.tocmark_event.specs.Text.{ParserEvent}
use Rattle.tocmark_reader.specs.Emitted.{emission_view, shown}
use Rattle.tocmark_reader.specs.Left.{is_empty}
use Rattle.tocmark_reader.specs.declared.block_reading.BlockReading.{BlockReading}
use Rattle.tocmark_reader.specs.declared.emit.Emission.{Emission}
use Rattle.tocmark_reader.proofs.BlocksLeft.{handed, none_left, some_shown, writing}
use Rattle.tocmark_reader.proofs.block_reading.BlockReading.hand_out.Goals as goal

pub returns-then-is_empty-clause-none : goal.returns-then-is_empty-clause-none
returns-then-is_empty-clause-none c h =
    let empty : is_empty c.args.self.now ≡ true = search rules in
    record { events = none_left c.args.self.now (h empty) empty; same = refl }

pub returns-clause-some : goal.returns-clause-some
returns-clause-some c =
    let r : BlockReading = c.args.self.now in
    let some : (length r.assembly.emission.events.items == 0) ≡ false = search rules in
    let left : Emission = record { events = c.new.result; stack = r.assembly.emission.stack } in
    let none : emission_view left ≡ writing r.assembly.emission.stack.items [] = ap (λ l. writing r.assembly.emission.stack.items (map shown l)) c.new.ensures.items in
    rw (c.replace.ensures.value, c.replace.ensures.after) (record {
      first = handed r left none;
      some = some_shown r.assembly.emission.events.items some;
      defined = ap (map string_bytes) c.new-2.ensures.items;
      unresolved = ap (map string_bytes) c.new-3.ensures.items;
    })

pub returns-then-is_empty-clause-between : goal.returns-then-is_empty-clause-between
returns-then-is_empty-clause-between c h =
    let made : List (ParserEvent × (ℕ × ℕ)) = c.args.self.now.assembly.emission.events.items in
    let empty : is_empty c.args.self.now ≡ true = search rules in
    record { events = nil_from_length made (eqb-true (length made) 0 empty); stack = h.closed }

pub returns-clause-between : goal.returns-clause-between
returns-clause-between c h = rw c.replace.ensures.after (record { events = c.new.ensures.items; stack = h.closed })
