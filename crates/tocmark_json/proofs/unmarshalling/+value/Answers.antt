use Rattle.std.proofs.Common.{◌≡◌, ◌∙◌, ◌-◌, ◌<◌, ◌==◌, ap, false, arith, inl, inr, length, map, sym, None, Some}
use Rattle.serde_json.specs.Data.{array, object}
use Rattle.serde_json.specs.View.{items_of}
use Rattle.tocmark_json.specs.Node.{members_view, view}
use Rattle.tocmark_json.specs.Unmarshal.{byte, counted, dict, key, members, parse_map, value}
use Rattle.tocmark_json.proofs.Nodes.{members_view-more, view-Array, view-Object}
use Rattle.tocmark_json.proofs.Unmarshalled.{counted_none, key_refused, member_read, member_refused, members_over, returned, value_dict, value_flat, value_list, value_plain, value_unread, values_begun, values_pushed}
use Rattle.tocmark_json.proofs.unmarshalling.+value.Goals as goal

-- ---- members

pub members-returns-in_err-name-clause-refused : goal.members-returns-in_err-name-clause-refused
members-returns-in_err-name-clause-refused t c =
    let l = c.members in
    let p = value c.args.depth in
    let bytes = c.args.dumped.now.rest.now in
    returned c.from_residual.result c.in_err-name.field-0.0 c.from_residual.ensures.1 (key l.dumped.rest.now) (dict p bytes)
    (λ none. l.invariant.2 ∙ key_refused p (members_view l.found.items) l.invariant.0 l.dumped.rest.now none) c.in_err-name.ensures.refused

pub members-returns-in_err-member-clause-refused : goal.members-returns-in_err-member-clause-refused
members-returns-in_err-member-clause-refused t c =
    let l = c.members in
    let p = value c.args.depth in
    let bytes = c.args.dumped.now.rest.now in
    let named : key l.dumped.rest.now ≡ Some (Some c.in-Some.name.now, c.key.new.self.rest.now) = grind arith in
    returned c.from_residual-in_err-member.result c.in_err-member.field-0.0 c.from_residual-in_err-member.ensures.1 (p c.key.new.self.rest.now) (dict p bytes)
    (λ none. l.invariant.2 ∙ member_refused p (members_view l.found.items) l.invariant.0 c.in-Some.name.now l.dumped.rest.now c.key.new.self.rest.now named none) c.in_err-member.ensures.refused

pub members-members-preserved : goal.members-members-preserved
members-members-preserved t c =
    let l = c.members in
    let p = value c.args.depth in
    let n = l.invariant.0 in
    let named : key l.dumped.rest.now ≡ Some (Some c.in-Some.name.now, c.key.new.self.rest.now) = grind arith in
    let less : length c.key.new.self.rest.now < length l.dumped.rest.now = c.in_ok-name.ensures.shorter in
    let lesser = c.in_ok-member.ensures.shorter in
    let inserted = ap members_view c.in_ok-push.ensures.items ∙ members_view-more l.found.items (c.in-Some.name, c.in_ok-member.member) in (
      n - 1,
      omega (arith, l.invariant.1, less, lesser),
      l.invariant.2 ∙ member_read p (members_view l.found.items) n c.in-Some.name.now l.dumped.rest.now c.key.new.self.rest.now c.value.new.dumped.rest.now (view c.in_ok-member.member) (omega (arith, l.invariant.1, less)) named c.in_ok-member.ensures.read
          ∙ ap (λ found. members p (n - 1) found c.value.new.dumped.rest.now) (sym inserted),
      omega (arith, l.invariant.3, less, lesser),
    )

pub members-returns-clause-read : goal.members-returns-clause-read
members-returns-clause-read t c =
    let l = c.members in
    let p = value c.args.depth in
    let n = l.invariant.0 in
    let less : length c.key.new.self.rest.now < length l.dumped.rest.now = c.in_ok-name.ensures.shorter in
    let over : key l.dumped.rest.now ≡ Some (None, c.key.new.self.rest.now) = grind arith in
    l.invariant.2 ∙ members_over p (members_view l.found.items) n l.dumped.rest.now c.key.new.self.rest.now (omega (arith, l.invariant.1, less)) over

-- ---- values one after the other

pub values-values-init : goal.values-values-init
values-values-init t c =
    (values_begun view (value c.args.depth) c.new-found.result.items c.size.new.self.rest.now c.new-found.ensures.items, grind (arith, c.new-found.ensures.items), omega arith)

pub values-returns-in_err-node-clause-refused : goal.values-returns-in_err-node-clause-refused
values-returns-in_err-node-clause-refused t c =
    let l = c.values in
    let p = value c.args.depth in
    let bytes = c.args.dumped.now.rest.now in
    returned c.from_residual.result c.in_err-node.field-0.0 c.from_residual.ensures.1 (p l.dumped.rest.now) (counted p bytes)
    (λ none. counted_none p bytes c.in-Some.count (length l.found.items) c.size.new.self.rest.now l.dumped.rest.now (map view l.found.items) c.in-Some.ensures.read l.invariant.0 (grind arith) none) c.in_err-node.ensures.refused

pub values-values-preserved : goal.values-values-preserved
values-values-preserved t c =
    let l = c.values in
    let p = value c.args.depth in
    let lesser = c.in_ok-node.ensures.shorter in (
      values_pushed view p l.found.items c.push.new.self.items c.in_ok-node.node c.size.new.self.rest.now l.dumped.rest.now c.value.new.dumped.rest.now c.in_ok-push.ensures.items l.invariant.0 c.in_ok-node.ensures.read,
      grind (arith, c.in_ok-push.ensures.items),
      omega (arith, l.invariant.2, lesser),
    )

-- ---- a value

pub value-returns-then-depth-eq0-clause-refused : goal.value-returns-then-depth-eq0-clause-refused
value-returns-then-depth-eq0-clause-refused t c =
    value_flat c.args.dumped.now.rest.now c.byte.new.self.rest.now c.args.depth c.in-Some.letter (omega arith) (inl c.in-91.is) c.in-Some.ensures.read

pub value-returns-then-depth-eq0-2-clause-refused : goal.value-returns-then-depth-eq0-2-clause-refused
value-returns-then-depth-eq0-2-clause-refused t c =
    value_flat c.args.dumped.now.rest.now c.byte.new.self.rest.now c.args.depth c.in-Some.letter (omega arith) (inr c.in-123.is) c.in-Some.ensures.read

pub value-returns-in_err-values-in-91-clause-refused : goal.value-returns-in_err-values-in-91-clause-refused
value-returns-in_err-values-in-91-clause-refused t c =
    let bytes = c.args.dumped.now.rest.now in
    let rest = c.byte.new.self.rest.now in
    let first : byte bytes ≡ Some (91, rest) = c.in-Some.ensures.read ∙ ap (λ b. Some (b, rest)) c.in-91.is in
    returned c.from_residual.result c.in_err-values-in-91.field-0.0 c.from_residual.ensures.1 (counted (value (c.args.depth - 1)) rest) (value c.args.depth bytes)
    (λ none. value_list bytes rest c.args.depth (omega arith) first ∙ ap (parse_map (λ ds. array (items_of ds))) none) c.in_err-values-in-91.ensures.refused

pub value-returns-in_err-members-in-123-clause-refused : goal.value-returns-in_err-members-in-123-clause-refused
value-returns-in_err-members-in-123-clause-refused t c =
    let bytes = c.args.dumped.now.rest.now in
    let rest = c.byte.new.self.rest.now in
    let first : byte bytes ≡ Some (123, rest) = c.in-Some.ensures.read ∙ ap (λ b. Some (b, rest)) c.in-123.is in
    returned c.from_residual-in_err-members-in-123.result c.in_err-members-in-123.field-0.0 c.from_residual-in_err-members-in-123.ensures.1 (dict (value (c.args.depth - 1)) rest) (value c.args.depth bytes)
    (λ none. value_dict bytes rest c.args.depth (omega arith) first ∙ ap (parse_map object) none) c.in_err-members-in-123.ensures.refused

pub value-returns-in_ok-values-in-91-clause-read : goal.value-returns-in_ok-values-in-91-clause-read
value-returns-in_ok-values-in-91-clause-read t c =
    let bytes = c.args.dumped.now.rest.now in
    let rest = c.byte.new.self.rest.now in
    let first : byte bytes ≡ Some (91, rest) = c.in-Some.ensures.read ∙ ap (λ b. Some (b, rest)) c.in-91.is in
    let found = c.in_ok-values-in-91 in
    value_list bytes rest c.args.depth (omega arith) first ∙ ap (parse_map (λ ds. array (items_of ds))) found.ensures.read ∙ ap (λ d. Some (d, c.values.new.dumped.rest.now)) (sym (view-Array found.field-0))

pub value-returns-in_ok-members-in-123-clause-read : goal.value-returns-in_ok-members-in-123-clause-read
value-returns-in_ok-members-in-123-clause-read t c =
    let bytes = c.args.dumped.now.rest.now in
    let rest = c.byte.new.self.rest.now in
    let first : byte bytes ≡ Some (123, rest) = c.in-Some.ensures.read ∙ ap (λ b. Some (b, rest)) c.in-123.is in
    let found = c.in_ok-members-in-123 in
    value_dict bytes rest c.args.depth (omega arith) first ∙ ap (parse_map object) found.ensures.read ∙ ap (λ d. Some (d, c.members.new.dumped.rest.now)) (sym (view-Object found.field-0))

pub value-returns-in_default-clause-refused : goal.value-returns-in_default-clause-refused
value-returns-in_default-clause-refused t c = value_unread c.args.dumped.now.rest.now c.args.depth c.in_default.ensures.none

pub value-returns-in-Some-plain-clause-read : goal.value-returns-in-Some-plain-clause-read
value-returns-in-Some-plain-clause-read t c =
    let letter = c.in-Some.letter in
    let no_list : (letter == 91) ≡ false = grind arith in
    let no_dict : (letter == 123) ≡ false = grind arith in
    value_plain c.args.dumped.now.rest.now c.byte.new.self.rest.now c.args.depth letter no_list no_dict c.in-Some.ensures.read ∙ c.in-Some-plain.ensures.read

pub value-returns-in-None-clause-refused : goal.value-returns-in-None-clause-refused
value-returns-in-None-clause-refused t c =
    let letter = c.in-Some.letter in
    let no_list : (letter == 91) ≡ false = grind arith in
    let no_dict : (letter == 123) ≡ false = grind arith in
    value_plain c.args.dumped.now.rest.now c.byte.new.self.rest.now c.args.depth letter no_list no_dict c.in-Some.ensures.read ∙ c.in-None.ensures.none
