-- What was handed so far, block by block, is the front of what all blocks come to.
use Rattle.std.proofs.Common.{◌≡◌, ℕ, List, [], ◌∷◌, ◌++◌, map, Some, refl, ap, sym, subst, ◌∙◌, append_assoc, append-nil, arith, length, ◌+◌, ◌<◌, string_bytes, Result, Ok, Err, String, None}
use Rattle.std.proofs.lemmas.List.{length-append, nil_from_length}
use Rattle.std.specs.Global.{Global}
use Rattle.std.specs.List.{FoldsTo, concat}
use Rattle.std.specs.Prelude.{IsOk, OnOk, IfNone, Option}
use Rattle.tocmark_event.specs.Options.{OptionsView, default_options}
use Rattle.tocmark_event.specs.Reading.{ReadingView}
use Rattle.tocmark_event.specs.View.{EventView}
use Rattle.tocmark_event.specs.declared.options.Error.{Error}
use Rattle.tocmark_event.specs.declared.event.flags.ParserOptions.{ParserOptions}
use Rattle.tocmark_reader.specs.Left.{IsAtEnd, IsPart, behind, reading_left}
use Rattle.tocmark_reader.specs.Reading.{core_reading}
use Rattle.tocmark_reader.specs.declared.block_reading.BlockReading.{BlockReading}
use Rattle.tocmark_reader.specs.declared.reader.CoreReader.{CoreReader}
use Rattle.tocmark_state.specs.Ranges.{Pair, unranged}
use Rattle.tocmark_state.specs.StateView.{Adds, Ends, Stands, place_of, rendering_of, status_of}
use Rattle.tocmark_state.specs.Walk.{Rendering, done, nothing_yet, script, walk}
use Rattle.tocmark_state.specs.WorkView.{rendering}
use Rattle.tocmark_state.specs.declared.state.State.{State}
use Rattle.tocmark_state.specs.declared.work.Progress.{Progress}
use Rattle.tocmark_laws.proofs.Handed.{written_in_parts}
use Rattle.tocmark_program.specs.Program.{IsRewritten, IsWritten, IsWriting, as_pairs, events_in, plain_rendering}
use Rattle.tocmark_program.specs.declared.arguments.Spelling.{Spelling}
use Rattle.tocmark_program.specs.declared.arguments.Spelling.TheVariants.{Escaped, FromSource}

abbrev Text : Type 0
Text = String Global

-- a string takes a text after what it holds
abbrev pub takes : Text → List ℕ → Text → Type 0
takes s t u = string_bytes u ≡ string_bytes s ++ t

concat_append : (xs ys : List (List ℕ)) → concat (xs ++ ys) ≡ concat xs ++ concat ys
concat_append [] ys = refl
concat_append (x ∷ xs) ys = ap (λ l. x ++ l) (concat_append xs ys) ∙ sym (append_assoc x (concat xs) (concat ys))

-- the reading of a state over the core reader
abbrev core : CoreReader → List ℕ → ParserOptions → ReadingView
core r t flags = core_reading t

-- a string to which further texts of a walk were handed
handed_on : (before after : Text) (first all more : List (List ℕ)) → string_bytes before ≡ concat first → all ≡ first ++ more → FoldsTo takes before more after → string_bytes after ≡ concat all
handed_on before after first all more h is folds =
    written_in_parts string_bytes more before after folds
    ∙ ap (λ l. l ++ concat more) h
    ∙ sym (concat_append first more)
    ∙ ap concat (sym is)

-- one more block
pub one_more : {refuses : Text → List ℕ → Text → Type 0} (text : List ℕ) (old new : State CoreReader) (before after : Text) (r : Result Progress Error) (taken more : List Pair) → IsWritten text taken old (string_bytes before) → OnOk r (status_of new ≡ status_of old) → rendering_of core new ≡ rendering_of core old → Adds takes refuses before after (rendering_of core old) (record { 0 = 0 }) text r (place_of new) taken more → OnOk r (IsWritten text (taken ++ more) new (string_bytes after))
one_more text old new before after (Err e) taken more h active same a = tt
one_more text old new before after (Ok n) taken more h active same a =
    record {
      stands = record {
        active = active ∙ h.stands.active;
        standing = subst (λ (how : Rendering). (walk how text (nothing_yet (record { 0 = 0 })) (taken ++ more)).outcome ≡ Ok (place_of new)) (sym same) a.made.0;
      };
      same = same ∙ h.same;
      handed = handed_on before after (walk plain_rendering text (nothing_yet (record { 0 = 0 })) taken).texts (walk plain_rendering text (nothing_yet (record { 0 = 0 })) (taken ++ more)).texts a.more h.handed
          (subst (λ (how : Rendering). (walk how text (nothing_yet (record { 0 = 0 })) (taken ++ more)).texts ≡ (walk how text (nothing_yet (record { 0 = 0 })) taken).texts ++ a.more) h.same a.added) a.made.1;
    }

-- the end of all blocks
pub all_ended : {refuses : Text → List ℕ → Text → Type 0} (text : List ℕ) (old : State CoreReader) (before after : Text) (n : Progress) (all : List Pair) → IsWritten text all old (string_bytes before) → Ends takes refuses before after (rendering_of core old) (record { 0 = 0 }) text (Ok n) all → ((script plain_rendering text (nothing_yet (record { 0 = 0 })) all).outcome ≡ Ok done) × (string_bytes after ≡ concat (script plain_rendering text (nothing_yet (record { 0 = 0 })) all).texts)
all_ended text old before after n all h b = (
  subst (λ (how : Rendering). (script how text (nothing_yet (record { 0 = 0 })) all).outcome ≡ Ok done) h.same b.made.0,
  handed_on before after (walk plain_rendering text (nothing_yet (record { 0 = 0 })) all).texts (script plain_rendering text (nothing_yet (record { 0 = 0 })) all).texts b.more h.handed
      (subst (λ (how : Rendering). (script how text (nothing_yet (record { 0 = 0 })) all).texts ≡ (walk how text (nothing_yet (record { 0 = 0 })) all).texts ++ b.more) h.same b.added) b.made.1,
)

map_append : {X Y : Type 0} (f : X → Y) (xs ys : List X) → map f (xs ++ ys) ≡ map f xs ++ map f ys
map_append f [] ys = refl
map_append f (x ∷ xs) ys = ap (λ l. f x ∷ l) (map_append f xs ys)

pairs_append : (spelling : Spelling) (xs ys : List (EventView × (ℕ × ℕ))) → as_pairs spelling (xs ++ ys) ≡ as_pairs spelling xs ++ as_pairs spelling ys
pairs_append Escaped xs ys = map_append (λ e. unranged e.0) xs ys
pairs_append FromSource xs ys = map_append (λ e. (e.0, Some e.1)) xs ys

-- a block was written
pub block_written : (spelling : Spelling) (text : List ℕ) (all : List Pair) (state : State CoreReader) (old new : BlockReading) (output : List ℕ) (taken : List Pair) (part : List (EventView × (ℕ × ℕ))) → reading_left old ≡ behind part (reading_left new) → taken ++ as_pairs spelling (reading_left old).events ≡ all → IsWritten text (taken ++ as_pairs spelling part) state output → IsWriting spelling text all state new output
block_written spelling text all state old new output taken part first whole written = record {
  taken = taken ++ as_pairs spelling part;
  written = written;
  whole =
      append_assoc taken (as_pairs spelling part) (as_pairs spelling (reading_left new).events)
      ∙ ap (λ l. taken ++ l) (sym (pairs_append spelling part (reading_left new).events) ∙ ap (λ (v : ReadingView). as_pairs spelling v.events) (sym first))
      ∙ whole;
}

no_pairs : (spelling : Spelling) → as_pairs spelling [] ≡ []
no_pairs Escaped = refl
no_pairs FromSource = refl

-- no blocks are left
pub all_written : (spelling : Spelling) (text : List ℕ) (all : List Pair) (state : State CoreReader) (blocks : BlockReading) (output : List ℕ) → (reading_left blocks).events ≡ [] → IsWriting spelling text all state blocks output → IsWritten text all state output
all_written spelling text all state blocks output none h =
    subst (λ (p : List Pair). IsWritten text p state output)
    (sym (append-nil h.taken) ∙ ap (λ l. h.taken ++ l) (sym (ap (as_pairs spelling) none ∙ no_pairs spelling)) ∙ h.whole)
    h.written

-- the events of a reading are those that are asked for
pub asked_pairs : (spelling : Spelling) (text : List ℕ) (v : ReadingView) → v ≡ core_reading text → as_pairs spelling v.events ≡ events_in spelling text
asked_pairs Escaped text v h = ap (λ (r : ReadingView). map (λ e. unranged e.0) r.events) h
asked_pairs FromSource text v h = ap (λ (r : ReadingView). map (λ e. (e.0, Some e.1)) r.events) h

-- one more block in a loop over all
pub goes_on : (spelling : Spelling) (text : List ℕ) (s t u : State CoreReader) (b c d : BlockReading) (o p q : List ℕ) (block : ReadingView) → ((all : List Pair) → IsWriting spelling text all s b o → IsWriting spelling text all t c p) → IsPart block (reading_left c) (reading_left d) → ((taken : List Pair) → IsWritten text taken t p → IsWritten text (taken ++ as_pairs spelling block.events) u q) → (all : List Pair) → IsWriting spelling text all s b o → IsWriting spelling text all u d q
goes_on spelling text s t u b c d o p q block before part written all h =
    let w = before all h in
    block_written spelling text all u c d q w.taken block.events part.first w.whole (written w.taken w.written)

-- the end of that loop
pub goes_to_end : (spelling : Spelling) (text : List ℕ) (s t : State CoreReader) (b c d : BlockReading) (o p : List ℕ) → ((all : List Pair) → IsWriting spelling text all s b o → IsWriting spelling text all t c p) → IsAtEnd (reading_left c) (reading_left d) → (all : List Pair) → IsWriting spelling text all s b o → IsWritten text all t p
goes_to_end spelling text s t b c d o p before at all h = all_written spelling text all t c p at.events (before all h)

longer : (m n k : ℕ) → m ≡ n + k → (n ≡ 0 → ⊥) → k < m
longer m n k h some = omega arith

-- each block leaves fewer events
pub fewer_left : (block old new : ReadingView) → IsPart block old new → length new.events < length old.events
fewer_left block old new part =
    longer (length old.events) (length block.events) (length new.events)
    (ap (λ (v : ReadingView). length v.events) part.first ∙ length-append block.events new.events)
    (λ none. part.some (nil_from_length block.events none))

-- where all blocks are written and `finish` succeeded
pub all_rewritten : {refuses : Text → List ℕ → Text → Type 0} (spelling : Spelling) (text : List ℕ) (old : State CoreReader) (before after : Text) (n : Progress) → IsWritten text (events_in spelling text) old (string_bytes before) → ((flags : ParserOptions) (source : List ℕ) (p : List Pair) → Stands core flags source old p → Ends takes refuses before after (rendering_of core old) flags source (Ok n) p) → IsRewritten spelling text (string_bytes after)
all_rewritten spelling text old before after n h ends =
    let both = all_ended text old before after n (events_in spelling text) h (ends (record { 0 = 0 }) text (events_in spelling text) h.stands) in
    record { ends_well = both.0; joined = both.1 }

-- where nothing is written yet
pub begun : (spelling : Spelling) (text : List ℕ) (flags : ParserOptions) (options : OptionsView) (state : State CoreReader) (blocks : BlockReading) (output : List ℕ) → flags ≡ record { 0 = 0 } → options ≡ default_options → ((source : List ℕ) → Stands core flags source state []) → rendering_of core state ≡ rendering options (λ t f. core_reading t) → reading_left blocks ≡ core_reading text → output ≡ [] → IsWriting spelling text (events_in spelling text) state blocks output
begun spelling text flags options state blocks output none default stands same left empty = record {
  taken = [];
  written = record {
    stands = subst (λ (f : ParserOptions). Stands core f text state []) none (stands text);
    same = same ∙ ap (λ (o : OptionsView). rendering o (λ t f. core_reading t)) default;
    handed = empty;
  };
  whole = asked_pairs spelling text (reading_left blocks) left;
}

-- what holds where nothing was found
pub none_left : {X : Type 0} (found : Option X) (P : Type 0) → ((x : X) → found ≡ Some x → ⊥) → IfNone found P → P
none_left None P other holds = holds
none_left (Some x) P other holds = absurd (other x refl)
