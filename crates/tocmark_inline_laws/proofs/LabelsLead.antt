-- What labels lead to: the first definition of each, in both.
use Rattle.std.proofs.Common.{◌≡◌, ℕ, ◌+◌, Bool, true, false, if◌then◌else◌, List, [], ◌∷◌, ◌++◌, length, refl, ap, sym, subst, ◌∙◌, append_assoc, append-nil, length-append}
use Rattle.std.specs.Prelude.{Option, Some, None, bytes_eq}
use Rattle.std.specs.List.{fold, AllByRecursion}
use Rattle.tocmark_read_scan.specs.declared.syntax.Names.TheVariants.{All}
use Rattle.tocmark_read_tokens.specs.Label.{collapsed, key_of, first_place}
use Rattle.tocmark_read_tokens.specs.Reference.{unescaped_in}
use Rattle.tocmark_read_page.specs.Definitions.{DefinitionView}
use Rattle.tocmark_read_inlines.specs.Scan.{stretch}
use Rattle.tocmark_read_spans.specs.Definitions.{State, entry_at, defined_with_in, collected_none}
use Rattle.tocmark_read_spans.specs.declared.definitions.Entry.{Entry}
use Rattle.tocmark_reader.specs.Reading.{define_step_in, collected_in}
use Rattle.tocmark_commonmark.specs.Links.{Destination, destination_of, destinations, first_of, this_or}
use Rattle.tocmark_commonmark.specs.Tokens.{resolved}
use Rattle.tocmark_inline_laws.specs.Said.{words}
use Rattle.tocmark_inline_laws.specs.Statement.{SaysWhat, IsShort, DefinitionsLeadAsDeclared}
use Rattle.tocmark_inline_laws.proofs.Ampersands.{kept_words}
use Rattle.tocmark_inline_laws.proofs.Resolved.{resolved_so}
use Rattle.tocmark_inline_laws.proofs.Stack.{get_here}

-- keys and entries, one by one, are those of what is declared
abbrev Aligned : List ℕ → List (List ℕ) → List Entry → List Destination → Type 0
Aligned texts keys entries [] = (keys ≡ []) × (entries ≡ [])
Aligned texts keys entries (d ∷ ds) =
    (k : List ℕ) × (ks : List (List ℕ)) × (e : Entry) × (es : List Entry) × (keys ≡ k ∷ ks) × (entries ≡ e ∷ es) × (k ≡ d.key) × SaysWhat texts (Some e) (Some d) × Aligned texts ks es ds

-- so they lead to the same
lead_on : (texts : List ℕ) (before : List Entry) (ds : List Destination) (keys : List (List ℕ)) (entries : List Entry) → Aligned texts keys entries ds → (q : List ℕ) → SaysWhat texts (entry_at (before ++ entries) (first_place (length before) keys q)) (first_of ds q)
lead_on texts before [] keys entries h q = subst (λ (ks : List (List ℕ)). SaysWhat texts (entry_at (before ++ entries) (first_place (length before) ks q)) None) (sym (h.0)) tt
lead_on texts before (d ∷ ds) keys entries h q =
    subst (λ (ks : List (List ℕ)). SaysWhat texts (entry_at (before ++ entries) (first_place (length before) ks q)) (first_of (d ∷ ds) q)) (sym (h.4))
    (subst (λ (es : List Entry). SaysWhat texts (entry_at (before ++ es) (first_place (length before) (h.0 ∷ h.1) q)) (first_of (d ∷ ds) q)) (sym (h.5))
    (subst (λ (k : List ℕ). SaysWhat texts (entry_at (before ++ h.2 ∷ h.3) (first_place (length before) (k ∷ h.1) q)) (first_of (d ∷ ds) q)) (sym (h.6))
    (by (lead_on texts (before ++ h.2 ∷ []) ds (h.1) (h.3) (h.8) q) (bytes_eq d.key q))))
  where
    by : SaysWhat texts (entry_at ((before ++ h.2 ∷ []) ++ h.3) (first_place (length (before ++ h.2 ∷ [])) (h.1) q)) (first_of ds q) → (z : Bool) → SaysWhat texts (entry_at (before ++ h.2 ∷ h.3) (if z then Some (length before) else first_place (length before + 1) (h.1) q)) (this_or z d (first_of ds q))
    by later true = subst (λ (o : Option Entry). SaysWhat texts o (Some d)) (sym (get_here before (h.3) (h.2))) (h.7)
    by later false =
        subst (λ n. SaysWhat texts (entry_at (before ++ h.2 ∷ h.3) (first_place n (h.1) q)) (first_of ds q)) (length-append before (h.2 ∷ []))
        (subst (λ (es : List Entry). SaysWhat texts (entry_at es (first_place (length (before ++ h.2 ∷ [])) (h.1) q)) (first_of ds q)) (append_assoc before (h.2 ∷ []) (h.3)) later)

-- further texts change nothing
says_more : (texts more : List ℕ) (e : Entry) (d : Destination) → SaysWhat texts (Some e) (Some d) → SaysWhat (texts ++ more) (Some e) (Some d)
says_more texts more e d h further = subst (λ ts. (words ts e.destination ≡ d.destination) × (words ts e.title ≡ d.title)) (sym (append_assoc texts more further)) (h (more ++ further))

aligned_more : (texts more : List ℕ) (ds : List Destination) (keys : List (List ℕ)) (entries : List Entry) → Aligned texts keys entries ds → Aligned (texts ++ more) keys entries ds
aligned_more texts more [] keys entries h = h
aligned_more texts more (d ∷ ds) keys entries h = ((h.0), (h.1), (h.2), (h.3), (h.4), (h.5), (h.6), says_more texts more (h.2) d (h.7), aligned_more texts more ds (h.1) (h.3) (h.8))

-- one more
aligned_last : (texts : List ℕ) (ds : List Destination) (keys : List (List ℕ)) (entries : List Entry) (k : List ℕ) (e : Entry) (d : Destination) → Aligned texts keys entries ds → k ≡ d.key → SaysWhat texts (Some e) (Some d) → Aligned texts (keys ++ k ∷ []) (entries ++ e ∷ []) (ds ++ d ∷ [])
aligned_last texts [] keys entries k e d h same says = (k, [], e, [], ap (λ ks. ks ++ k ∷ []) (h.0), ap (λ (es : List Entry). es ++ e ∷ []) (h.1), same, says, (refl, refl))
aligned_last texts (x ∷ ds) keys entries k e d h same says =
    ((h.0), (h.1 ++ k ∷ []), (h.2), (h.3 ++ e ∷ []), ap (λ ks. ks ++ k ∷ []) (h.4), ap (λ (es : List Entry). es ++ e ∷ []) (h.5), (h.6), (h.7), aligned_last texts ds (h.1) (h.3) k e d (h.8) same says)

-- the state after a definition
abbrev after : State → List ℕ → List ℕ → List ℕ → List ℕ → State
after s key label destination title = record {
  keys = s.keys ++ key ∷ [];
  labels = s.labels ++ stretch (length s.texts) (length (s.texts ++ label)) ∷ [];
  entries = s.entries ++ record { destination = stretch (length (s.texts ++ label)) (length ((s.texts ++ label) ++ destination)); title = stretch (length ((s.texts ++ label) ++ destination)) (length (((s.texts ++ label) ++ destination) ++ title)) } ∷ [];
  texts = ((s.texts ++ label) ++ destination) ++ title;
}

defined_so : (s : State) (d : DefinitionView) → IsShort d → define_step_in All s d ≡ after s (key_of d.label) (collapsed d.label) (resolved d.destination) (resolved d.title)
unfolding define_step_in defined_with_in
defined_so s d short = ap (λ u. after s (key_of d.label) (collapsed d.label) u (unescaped_in All d.title)) (resolved_so d.destination (short.0)) ∙ ap (λ u. after s (key_of d.label) (collapsed d.label) (resolved d.destination) u) (resolved_so d.title (short.1))

aligned_after : (s : State) (ds : List Destination) (d : DefinitionView) → Aligned s.texts s.keys s.entries ds → (label : List ℕ) → Aligned (((s.texts ++ label) ++ resolved d.destination) ++ resolved d.title) (after s (key_of d.label) label (resolved d.destination) (resolved d.title)).keys (after s (key_of d.label) label (resolved d.destination) (resolved d.title)).entries (ds ++ destination_of d ∷ [])
aligned_after s ds d h label =
    aligned_last (((s.texts ++ label) ++ resolved d.destination) ++ resolved d.title) ds s.keys s.entries (key_of d.label) entry (destination_of d)
    (aligned_more ((s.texts ++ label) ++ resolved d.destination) (resolved d.title) ds s.keys s.entries (aligned_more (s.texts ++ label) (resolved d.destination) ds s.keys s.entries (aligned_more s.texts label ds s.keys s.entries h)))
    refl
    (λ further. (
      ap (λ ts. words ts entry.destination) (append_assoc ((s.texts ++ label) ++ resolved d.destination) (resolved d.title) further) ∙ kept_words (s.texts ++ label) (resolved d.destination) (resolved d.title ++ further),
      kept_words ((s.texts ++ label) ++ resolved d.destination) (resolved d.title) further,
    ))
  where
    entry : Entry
    entry = record { destination = stretch (length (s.texts ++ label)) (length ((s.texts ++ label) ++ resolved d.destination)); title = stretch (length ((s.texts ++ label) ++ resolved d.destination)) (length (((s.texts ++ label) ++ resolved d.destination) ++ resolved d.title)) }

all_aligned : (all : List DefinitionView) (s : State) (ds : List Destination) → AllByRecursion IsShort all → Aligned s.texts s.keys s.entries ds → Aligned (fold (define_step_in All) s all).texts (fold (define_step_in All) s all).keys (fold (define_step_in All) s all).entries (ds ++ destinations all)
all_aligned [] s ds short h = subst (Aligned s.texts s.keys s.entries) (sym (append-nil ds)) h
all_aligned (d ∷ all) s ds short h =
    subst (λ (xs : List Destination). Aligned (fold (define_step_in All) (define_step_in All s d) all).texts (fold (define_step_in All) (define_step_in All s d) all).keys (fold (define_step_in All) (define_step_in All s d) all).entries xs) (append_assoc ds (destination_of d ∷ []) (destinations all))
    (all_aligned all (define_step_in All s d) (ds ++ destination_of d ∷ []) (short.1)
    (subst (λ (t : State). Aligned t.texts t.keys t.entries (ds ++ destination_of d ∷ [])) (sym (defined_so s d (short.0))) (aligned_after s ds d h (collapsed d.label))))

pub all_lead : DefinitionsLeadAsDeclared
all_lead all short q = lead_on (collected_in All all).texts [] (destinations all) (collected_in All all).keys (collected_in All all).entries (all_aligned all collected_none [] short (refl, refl)) q
