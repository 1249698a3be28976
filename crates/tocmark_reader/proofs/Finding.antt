-- Look-ups in a map are those in the list that it was made of.
use Rattle.std.proofs.Common.{◌≡◌, ℕ, List, ap}
use Rattle.std.specs.HashMap.{get_by_text}
use mathlib.Core.Path.{fun_ext}
use Rattle.tocmark_read_tokens.specs.Label.{first_place}
use Rattle.tocmark_read_spans.specs.Definitions.{entry_of, entry_at, leads_to}
use Rattle.tocmark_read_spans.specs.declared.definitions.Definitions.{Definitions}
use Rattle.tocmark_reader.specs.Reading.{first_entry}

pub entry_of_first : (d : Definitions) (keys : List (List ℕ)) → ((q : List ℕ) → get_by_text d.places q ≡ first_place 0 keys q) → entry_of d ≡ first_entry d.has_all_notes keys d.entries.items
entry_of_first d keys h = fun_ext (λ q. ap (λ place. leads_to d.has_all_notes (entry_at d.entries.items place) q) (h q))
