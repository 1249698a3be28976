-- Examples: lines of which the first is of one form and the second of the other.
use Rattle.std.proofs.Common.{◌≡◌, ◌∙◌, [], ◌∷◌, ◌++◌, ap, Bool, codes, length, List, None, Some, false, refl, subst, sym, true, ℕ}
use Rattle.std.specs.Borrow.{Bor}
use Rattle.std.specs.Str.Lines.{lines}
use Rattle.json.specs.Json.{value}
use Rattle.json.specs.Lex.{lex, punctuate}
use Rattle.json.specs.Text.{content}
use Rattle.json.specs.Word.{word}
use Rattle.serde_json.specs.Data.{Data, array, item, no_items, null, string}
use Rattle.serde_json.specs.Read.{read}
use Rattle.tocmark_event.specs.View.{Leaf, Rule}
use Rattle.tocmark_json.specs.Elements.{IsElement, RefusesElement}
use Rattle.tocmark_json.specs.declared.fault.Fault.TheVariants as fault
use Rattle.tocmark_json.specs.declared.fault.JsonError.TheVariants as error
use Rattle.tocmark_documents.specs.Lines.{IsFirstBadLine, IsNoLine, have_ranges}
use Rattle.tocmark_documents.specs.declared.fault.WriteError.TheVariants as write_error

-- `"Rule"` is an event alone, and `["Rule",null]` a pair
abbrev event : List ℕ
event = codes "\"Rule\""

abbrev pair : List ℕ
pair = codes "[\"Rule\",null]"

abbrev event_value : Data
event_value = string (codes "Rule")

abbrev pair_value : Data
pair_value = array (item event_value (item null no_items))

event_read : read event ≡ Some event_value
unfolding value lex punctuate content word
event_read = refl

pair_read : read pair ≡ Some pair_value
unfolding value lex punctuate content word
pair_read = refl

-- the one on the first line and the other on the second
abbrev event_first : List ℕ
event_first = codes "\"Rule\"\n[\"Rule\",null]\n"

abbrev pair_first : List ℕ
pair_first = codes "[\"Rule\",null]\n\"Rule\"\n"

as_events : have_ranges event_first ≡ false
unfolding value lex punctuate content word
as_events = refl

as_pairs : have_ranges pair_first ≡ true
unfolding value lex punctuate content word
as_pairs = refl

empty_as_events : have_ranges [] ≡ false
empty_as_events = refl

module _ (key wanted : Bor (List ℕ)) where
  -- an error that names the first line says that it is not what it decides itself
  refused : (input first : List ℕ) (others before after : List (List ℕ)) (line : List ℕ) (d : Data) → lines input ≡ first ∷ others → read first ≡ Some d → lines input ≡ before ++ line ∷ after → IsNoLine (have_ranges input) line (length before) (write_error.NotEvents (error.Event 0 key wanted)) → RefusesElement (have_ranges input) d (fault.Wanted key wanted)
  refused input first others [] after line d begins is_read split (e, e_read, (count, lacks)) =
      let same : first ∷ others ≡ line ∷ after = sym begins ∙ split in
      let line_is : line ≡ first = cc in
      let read_is : Some e ≡ Some d = sym e_read ∙ ap read line_is ∙ is_read in
      let d_is : e ≡ d = cc in
      subst (λ (x : Data). RefusesElement (have_ranges input) x (fault.Wanted key wanted)) d_is lacks
  refused input first others (b ∷ before) after line d begins is_read split (e, e_read, (count, lacks)) = absurd cc

  -- so no error names the first line here, although a pair is no event alone, and an event no pair
  pair_is_not_named : IsFirstBadLine pair_first (write_error.NotEvents (error.Event 0 key wanted)) → ⊥
  pair_is_not_named h =
      subst (λ (b : Bool). RefusesElement b pair_value (fault.Wanted key wanted)) as_pairs
      (refused pair_first pair (event ∷ []) h.before h.after h.line pair_value refl pair_read h.split h.is_bad)
      ((Leaf Rule, None), None) refl

  event_is_not_named : IsFirstBadLine event_first (write_error.NotEvents (error.Event 0 key wanted)) → ⊥
  event_is_not_named h =
      subst (λ (b : Bool). RefusesElement b event_value (fault.Wanted key wanted)) as_events
      (refused event_first event (pair ∷ []) h.before h.after h.line event_value refl event_read h.split h.is_bad)
      (Leaf Rule) refl

  -- but the second one
  event_is_named : IsFirstBadLine pair_first (write_error.NotEvents (error.Event 1 key wanted))
  event_is_named =
      record {
        before = pair ∷ [];
        line = event;
        after = [];
        pairs = (Leaf Rule, None) ∷ [];
        split = refl;
        are_lines = ((pair_value, pair_read, subst (λ (b : Bool). IsElement b pair_value (Leaf Rule, None)) (sym as_pairs) (None, refl)), tt);
        is_bad = (event_value, event_read, (refl, subst (λ (b : Bool). RefusesElement b event_value (fault.Wanted key wanted)) (sym as_pairs) (λ l is. absurd cc)));
      }
