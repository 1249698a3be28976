-- What a closing bracket and the opening one before it are: a link or an image, or text.
use Rattle.std.proofs.Common.{◌≡◌, ℕ, ◌+◌, ◌-◌, ◌^◌, ◌<◌, ◌≤◌, min, Bool, true, false, ◌==◌, ◌&&◌, ◌||◌, nat_le, if◌then◌else◌, ◌⊎◌, inl, inr, List, [], ◌∷◌, ◌++◌, length, drop, refl, ap, sym, subst, ◌∙◌, arith, append_assoc, append-nil, length-take, true≢false}
use Rattle.std.proofs.lemmas.Bool.Decides.{nat_tests}
use Rattle.std.specs.Prelude.{Option, Some, None}
use Rattle.tocmark_read_scan.specs.Basic.{plus, byte_at, bytes_between}
use Rattle.tocmark_read_scan.specs.declared.syntax.Names.TheVariants.{All}
use Rattle.tocmark_read_inlines.specs.Scan.{State, stretch, kept, kept_resolved_in, linked, inline_to, closed_inline_in, missing, label_target, looked_up_as, looked_up, closed_asked, closed_by_label, closed_found_in, closed_active_in}
use Rattle.tocmark_read_spans.specs.Link.{inline_target, ending_at, own_label, own_from, own_asked, asked_or, label_asked}
use Rattle.tocmark_read_spans.specs.declared.definitions.Entry.{Entry}
use Rattle.tocmark_read_spans.specs.declared.link.Asked.{Asked}
use Rattle.tocmark_read_spans.specs.declared.link.Bracket.{Bracket}
use Rattle.tocmark_read_spans.specs.declared.link.InlineTarget.{InlineTarget}
use Rattle.tocmark_read_spans.specs.declared.role.Stretch.{Stretch}
use Rattle.tocmark_read_spans.specs.declared.role.Target.{Target}
use Rattle.tocmark_read_tokens.specs.Label.{collapsed, key_of}
use Rattle.tocmark_read_tokens.specs.Reference.{unescaped_in}
use Rattle.tocmark_read_tokens.specs.Word.{word, enclosed, closing_of, is_label_text, label_to, label_from, label}
use Rattle.tocmark_read_tokens.specs.declared.word.Word.{Word}
use Rattle.tocmark_commonmark.specs.InlineTree.{Bracket as AtomBracket}
use Rattle.tocmark_commonmark.specs.Tokens.{resolved}
use Rattle.tocmark_commonmark.specs.Links as declared
use Rattle.tocmark_commonmark.specs.Links.{Destination, first_of, word_text, asked, target_or, target_if}
use Rattle.tocmark_inline_laws.specs.Said.{words}
use Rattle.tocmark_inline_laws.specs.Statement.{SaysWhat, LeadAlike}
use Rattle.tocmark_inline_laws.proofs.Ampersands.{kept_words}
use Rattle.tocmark_inline_laws.proofs.Phases.{bracket_from}
use Rattle.tocmark_inline_laws.proofs.Resolved.{resolved_so}
use Rattle.tocmark_inline_laws.proofs.Sim.{Grown}
use Rattle.tocmark_inline_laws.proofs.Stretches.{between_none, between_within, drop_length}
use Rattle.tocmark_inline_laws.proofs.TargetEnds.{Ended, inline_ends, asked_ends}

-- a link or an image in both
pub record Links (bytes : List ℕ) (p : ℕ) (x : Bracket) (s looked : State) (found : Option declared.Target) : Type 0 where
  pub further : List ℕ
  pub target : Target
  pub as_declared : declared.Target
  pub found_is : found ≡ Some as_declared
  pub looked_is : looked ≡ linked x target as_declared.end (record s { texts = s.texts ++ further })
  pub link_type : target.link_type ≡ as_declared.link_type
  pub destination : (more : List ℕ) → words ((s.texts ++ further) ++ more) target.destination ≡ as_declared.destination
  pub title : (more : List ℕ) → words ((s.texts ++ further) ++ more) target.title ≡ as_declared.title
  pub id : (more : List ℕ) → words ((s.texts ++ further) ++ more) target.id ≡ as_declared.label
  pub ends : Ended bytes p as_declared.end

-- a text in both
pub record Fails (s looked : State) (found : Option declared.Target) : Type 0 where
  pub further : List ℕ
  pub missed : List Stretch
  pub found_is : found ≡ None
  pub looked_is : looked ≡ record s { texts = s.texts ++ further; missed = missed }

abbrev pub Outcome : List ℕ → ℕ → Bracket → State → State → Option declared.Target → Type 0
Outcome bytes p x s looked found = Links bytes p x s looked found ⊎ Fails s looked found

nothing_done : (s : State) → s ≡ record s { texts = s.texts ++ []; missed = s.missed }
nothing_done s = ap (λ (ts : List ℕ). record s { texts = ts }) (sym (append-nil s.texts))

between_short : (bytes : List ℕ) (i j : ℕ) → length (bytes_between bytes i j) ≤ length bytes
between_short bytes i j = by (nat_le i j) (nat_le j (length bytes)) refl refl
  where
    none : (x y : Bool) → (x && y) ≡ false → nat_le i j ≡ x → nat_le j (length bytes) ≡ y → length (bytes_between bytes i j) ≤ length bytes
    none true true k e f = absurd (true≢false k)
    none true false k e f = rw (e, f) (omega arith)
    none false y k e f = rw e (omega arith)

    by : (x y : Bool) → nat_le i j ≡ x → nat_le j (length bytes) ≡ y → length (bytes_between bytes i j) ≤ length bytes
    by true true e f =
        let a : i ≤ j = grind (arith, nat_tests, e) in
        let b : j ≤ length bytes = grind (arith, nat_tests, f) in
        let l : length (bytes_between bytes i j) ≡ min (j - i) (length (drop i bytes)) = ap length (between_within bytes i j a b) ∙ length-take (j - i) (drop i bytes) in
        let m : length (drop i bytes) + i ≡ length bytes = drop_length bytes i (omega arith) in
        omega (arith, l, m)
    by true false e f = none true false refl e f
    by false y e f = none false y refl e f

resolved_text : (bytes : List ℕ) (w : Word) → length bytes + 2 < 2 ^ 64 → unescaped_in All (bytes_between bytes w.start w.end) ≡ resolved (word_text bytes w)
resolved_text bytes w fits = resolved_so (bytes_between bytes w.start w.end) (let l : length (bytes_between bytes w.start w.end) ≤ length bytes = between_short bytes w.start w.end in omega (arith, l))

-- 6.3: a destination in parentheses
inline_so : (bytes : List ℕ) (x : Bracket) (found : InlineTarget) (s : State) (d t : List ℕ) → unescaped_in All (bytes_between bytes found.destination.start found.destination.end) ≡ d → unescaped_in All (bytes_between bytes found.title.start found.title.end) ≡ t → closed_inline_in All bytes x found s ≡ linked x (inline_to (stretch (length s.texts) (length (s.texts ++ d))) (stretch (length (s.texts ++ d)) (length ((s.texts ++ d) ++ t)))) found.end (record s { texts = (s.texts ++ d) ++ t })
unfolding closed_inline_in kept_resolved_in kept
inline_so bytes x found s d t d_is t_is =
    ap (λ (u : List ℕ). linked x (inline_to (stretch (length s.texts) (length (s.texts ++ u))) (stretch (length (s.texts ++ u)) (length ((s.texts ++ u) ++ unescaped_in All (bytes_between bytes found.title.start found.title.end))))) found.end (record s { texts = (s.texts ++ u) ++ unescaped_in All (bytes_between bytes found.title.start found.title.end) })) d_is
    ∙ ap (λ (u : List ℕ). linked x (inline_to (stretch (length s.texts) (length (s.texts ++ d))) (stretch (length (s.texts ++ d)) (length ((s.texts ++ d) ++ u)))) found.end (record s { texts = (s.texts ++ d) ++ u })) t_is

inline_links : (bytes : List ℕ) (p : ℕ) (x : Bracket) (s : State) (found : InlineTarget) → p < length bytes → length bytes + 2 < 2 ^ 64 → inline_target bytes (p + 1) ≡ Some found → Links bytes p x s (closed_inline_in All bytes x found s) (Some (declared.inline_link bytes found))
inline_links bytes p x s found inner fits e = record {
  further = d ++ t;
  target = inline_to (stretch (length s.texts) (length (s.texts ++ d))) (stretch (length (s.texts ++ d)) (length ((s.texts ++ d) ++ t)));
  as_declared = declared.inline_link bytes found;
  found_is = refl;
  looked_is = inline_so bytes x found s d t (resolved_text bytes found.destination fits) (resolved_text bytes found.title fits)
      ∙ ap (λ (ts : List ℕ). linked x (inline_to (stretch (length s.texts) (length (s.texts ++ d))) (stretch (length (s.texts ++ d)) (length ((s.texts ++ d) ++ t)))) found.end (record s { texts = ts })) (append_assoc s.texts d t);
  link_type = refl;
  destination = λ more. ap (λ ts. words ts (stretch (length s.texts) (length (s.texts ++ d)))) (ap (λ ts. ts ++ more) (sym (append_assoc s.texts d t)) ∙ append_assoc (s.texts ++ d) t more) ∙ kept_words s.texts d (t ++ more);
  title = λ more. ap (λ ts. words ts (stretch (length (s.texts ++ d)) (length ((s.texts ++ d) ++ t)))) (ap (λ ts. ts ++ more) (sym (append_assoc s.texts d t))) ∙ kept_words (s.texts ++ d) t more;
  id = λ more. between_none ((s.texts ++ (d ++ t)) ++ more) 0 (omega arith);
  ends = inline_ends bytes p found inner fits e;
}
  where
    d : List ℕ
    d = resolved (word_text bytes found.destination)

    t : List ℕ
    t = resolved (word_text bytes found.title)

-- 6.3: a label
looked_so : (bytes : List ℕ) (defs : List ℕ → Option Entry) (x : Bracket) (a : Asked) (s : State) → looked_up bytes defs x a s ≡ looked_up_as (word_text bytes a.label) x a s (defs (key_of (word_text bytes a.label)))
unfolding looked_up
looked_so bytes defs x a s = refl

entry_so : (label : List ℕ) (x : Bracket) (a : Asked) (s : State) (e : Entry) → looked_up_as label x a s (Some e) ≡ linked x (label_target a e (stretch (length s.texts) (length (s.texts ++ label)))) a.end (record s { texts = s.texts ++ label })
unfolding kept
entry_so label x a s e = refl

missing_so : (label : List ℕ) (s : State) → missing label s ≡ record s { texts = s.texts ++ collapsed label; missed = s.missed ++ stretch (length s.texts) (length (s.texts ++ collapsed label)) ∷ [] }
unfolding missing kept
missing_so label s = refl

label_outcome : (bytes : List ℕ) (defs : List ℕ → Option Entry) (labels : List Destination) (base : List ℕ) (b : AtomBracket) (p : ℕ) (x : Bracket) (s : State) (a : Asked) → LeadAlike base defs labels → Grown base s → p < length bytes → length bytes + 2 < 2 ^ 64 → byte_at bytes p ≡ 93 → asked bytes b p (label bytes (p + 1)) ≡ Some a → Outcome bytes p x s (looked_up bytes defs x a s) (declared.looked_up bytes labels (Some a))
label_outcome bytes defs labels base b p x s a alike grown inner fits is e = by (defs (key_of text)) (first_of labels (key_of text)) refl refl (alike (key_of text))
  where
    text : List ℕ
    text = word_text bytes a.label

    by : (o : Option Entry) (d : Option Destination) → defs (key_of text) ≡ o → first_of labels (key_of text) ≡ d → SaysWhat base o d → Outcome bytes p x s (looked_up bytes defs x a s) (declared.looked_up bytes labels (Some a))
    by None None f g says = inr (record {
      further = collapsed text;
      missed = s.missed ++ stretch (length s.texts) (length (s.texts ++ collapsed text)) ∷ [];
      found_is = ap (declared.reference_link a text) g;
      looked_is = looked_so bytes defs x a s ∙ ap (looked_up_as text x a s) f ∙ missing_so text s;
    })
    by (Some o) None f g says = absurd says
    by None (Some d) f g says = absurd says
    by (Some o) (Some d) f g says = inl (record {
      further = text;
      target = label_target a o (stretch (length s.texts) (length (s.texts ++ text)));
      as_declared = record { link_type = a.link_type; destination = d.destination; title = d.title; label = text; end = a.end };
      found_is = ap (declared.reference_link a text) g;
      looked_is = looked_so bytes defs x a s ∙ ap (looked_up_as text x a s) f ∙ entry_so text x a s o;
      link_type = refl;
      destination = λ more. ap (λ ts. words ts o.destination) (far more) ∙ (says (grown.0 ++ (text ++ more))).0;
      title = λ more. ap (λ ts. words ts o.title) (far more) ∙ (says (grown.0 ++ (text ++ more))).1;
      id = λ more. kept_words s.texts text more;
      ends = asked_ends bytes b p a inner fits is e;
    })
      where
        far : (more : List ℕ) → (s.texts ++ text) ++ more ≡ base ++ (grown.0 ++ (text ++ more))
        far more = append_assoc s.texts text more ∙ ap (λ ts. ts ++ (text ++ more)) (grown.1) ∙ append_assoc base (grown.0) (text ++ more)

-- a bracket that has another in it has no label of its own
own_none : (bytes : List ℕ) (inner p : ℕ) → bracket_from bytes false inner < p → ending_at p (label_from bytes inner) ≡ None
unfolding label_from enclosed closing_of
own_none bytes inner p l = by (byte_at bytes end == 93)
  where
    end : ℕ
    end = bracket_from bytes false inner

    apart : (end == p) ≡ false
    apart = grind (arith, nat_tests)

    of : (z : Bool) → ending_at p (if z then Some (word inner end (plus end 1)) else None) ≡ None
    of true = ap (λ (z : Bool). if z then Some (word inner end (plus end 1)) else None) apart
    of false = refl

    by : (z : Bool) → ending_at p (label_to bytes inner (if z then Some end else None)) ≡ None
    by true = of (is_label_text (bytes_between bytes inner end))
    by false = refl

pub own_so : (bytes : List ℕ) (x : Bracket) (p : ℕ) → (x.nested ≡ true → bracket_from bytes false x.inner < p) → own_label bytes x p ≡ ending_at p (label_from bytes x.inner)
unfolding own_label
own_so bytes x p h = by x.nested refl
  where
    by : (z : Bool) → x.nested ≡ z → (if z then None else ending_at p (label_from bytes x.inner)) ≡ ending_at p (label_from bytes x.inner)
    by true e = sym (own_none bytes x.inner p (h e))
    by false e = refl

asked_so : (bytes : List ℕ) (b : AtomBracket) (x : Bracket) (p : ℕ) → plus p 1 ≡ p + 1 → x.inner ≡ b.inner → (x.nested ≡ true → bracket_from bytes false x.inner < p) → label_asked bytes x p ≡ asked bytes b p (label bytes (p + 1))
unfolding label_asked own_asked
asked_so bytes b x p one same h = ap (λ q. asked_or bytes x p (label bytes q)) one ∙ by (label bytes (p + 1))
  where
    by : (o : Option Word) → asked_or bytes x p o ≡ asked bytes b p o
    by None = ap (own_from bytes p) (own_so bytes x p h ∙ ap (λ q. ending_at p (label_from bytes q)) same)
    by (Some l) = refl

active_so : (bytes : List ℕ) (defs : List ℕ → Option Entry) (x : Bracket) (s : State) → closed_active_in All false bytes defs x s ≡ closed_found_in All false bytes defs x s (inline_target bytes (plus s.place 1))
unfolding closed_active_in
active_so bytes defs x s = refl

by_label_so : (bytes : List ℕ) (defs : List ℕ → Option Entry) (x : Bracket) (s : State) → closed_by_label bytes defs x s ≡ closed_asked bytes defs x s (label_asked bytes x s.place)
unfolding closed_by_label
by_label_so bytes defs x s = refl

pub outcome : (bytes : List ℕ) (defs : List ℕ → Option Entry) (labels : List Destination) (base : List ℕ) (b : AtomBracket) (p : ℕ) (x : Bracket) (s : State) → LeadAlike base defs labels → Grown base s → p < length bytes → length bytes + 2 < 2 ^ 64 → byte_at bytes p ≡ 93 → s.place ≡ p → x.inner ≡ b.inner → (x.nested ≡ true → bracket_from bytes false x.inner < p) → Outcome bytes p x s (if b.is_image || b.is_active then closed_active_in All false bytes defs x s else s) (declared.target bytes labels b p)
outcome bytes defs labels base b p x s alike grown inner fits is at same nested = by (b.is_image || b.is_active)
  where
    one : plus p 1 ≡ p + 1
    one = omega arith

    asks : (o : Option Asked) → asked bytes b p (label bytes (p + 1)) ≡ o → Outcome bytes p x s (closed_asked bytes defs x s o) (declared.looked_up bytes labels o)
    asks None e = inr (record { further = []; missed = s.missed; found_is = refl; looked_is = nothing_done s })
    asks (Some a) e = label_outcome bytes defs labels base b p x s a alike grown inner fits is e

    finds : (o : Option InlineTarget) → inline_target bytes (p + 1) ≡ o → Outcome bytes p x s (closed_found_in All false bytes defs x s o) (target_or bytes labels b p o)
    finds (Some found) e = inl (inline_links bytes p x s found inner fits e)
    finds None e =
        subst (λ (u : State). Outcome bytes p x s u (declared.looked_up bytes labels (asked bytes b p (label bytes (p + 1)))))
        (sym (by_label_so bytes defs x s ∙ ap (λ q. closed_asked bytes defs x s (label_asked bytes x q)) at ∙ ap (closed_asked bytes defs x s) (asked_so bytes b x p one same nested)))
        (asks (asked bytes b p (label bytes (p + 1))) refl)

    by : (z : Bool) → Outcome bytes p x s (if z then closed_active_in All false bytes defs x s else s) (target_if z bytes labels b p)
    by true =
        subst (λ (u : State). Outcome bytes p x s u (target_or bytes labels b p (inline_target bytes (p + 1))))
        (sym (active_so bytes defs x s ∙ ap (λ q. closed_found_in All false bytes defs x s (inline_target bytes (plus q 1))) at ∙ ap (λ q. closed_found_in All false bytes defs x s (inline_target bytes q)) one))
        (finds (inline_target bytes (p + 1)) refl)
    by false = inr (record { further = []; missed = s.missed; found_is = refl; looked_is = nothing_done s })
