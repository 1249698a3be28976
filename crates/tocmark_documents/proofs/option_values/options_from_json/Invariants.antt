use Rattle.std.proofs.Common.{◌≡◌}
use Rattle.serde_json.specs.View.{members_view}
use Rattle.tocmark_event.specs.Options.{default_options, options_view}
use Rattle.tocmark_documents.specs.Options.{are_options, first_wrong, options_members, put_all}
use Rattle.tocmark_documents.proofs.option_values.options_from_json.Given as goal

-- the members that are left, put over what is there, make what all of them make of the default options; those that were
-- passed are options, so the first wrong key is left
abbrev pub invariant-loop-key : goal.invariant-loop-key
invariant-loop-key l =
    (put_all (members_view l.key-iterator) (options_members (options_view l.options)) ≡ put_all (members_view l.initial.key-iterator) (options_members default_options))
    × (are_options (members_view l.key-iterator) ≡ are_options (members_view l.initial.key-iterator))
    × (first_wrong (members_view l.key-iterator) ≡ first_wrong (members_view l.initial.key-iterator))
