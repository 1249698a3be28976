-- A digest that grows.
use Rattle.std.proofs.Common.{◌≡◌, ◌∙◌, ◌-◌, ◌<◌, sym, ap, ap₂, refl, arith, ℕ, Bool, true, false, nat_lt, Option, option_map, slice_get, ◌||◌, List, [], ◌∷◌, ◌++◌, ◌==◌, map, Some, None, is_some, if◌then◌else◌}
use Rattle.std.proofs.lemmas.Bool.{false≢true}
use Rattle.std.proofs.lemmas.Bool.Decides.{nat_tests}
use Rattle.std.proofs.lemmas.List.{append-nil, append_assoc}
use Rattle.std.proofs.lemmas.Option.{slice_get_within}
use Rattle.std.specs.List.{list_any}
use Rattle.tocmark_event.specs.Merged.{after_text, merged}
use Rattle.tocmark_event.specs.Text.{text_of}
use Rattle.tocmark_event.specs.View.{Text, Code, InlineMath, DisplayMath, Html, InlineHtml, FootnoteReference, SoftBreak, HardBreak, Rule, TaskListMarker, EventView, Start, End, Leaf, event_view}
use Rattle.tocmark_event.proofs.Merging.{after_text-twice}
use Rattle.tocmark_compare.specs.declared.digest.Digest.{Digest}
use Rattle.tocmark_compare.specs.Digest.{IsLinkOf, IsTextOf, SaysFirst, Texts, Mark, Words, linked, marked, marks, next_said, next_spelled, said, says, spelled, worded}

-- what is merged after further events
pub merged-behind : (zs xs ys : List EventView) → merged xs ≡ merged ys → merged (zs ++ xs) ≡ merged (zs ++ ys)
merged-behind [] xs ys h = h
merged-behind (Start t ∷ zs) xs ys h = ap (λ es. Start t ∷ es) (merged-behind zs xs ys h)
merged-behind (End k ∷ zs) xs ys h = ap (λ es. End k ∷ es) (merged-behind zs xs ys h)
merged-behind (Leaf (Text t) ∷ zs) xs ys h = ap (after_text t) (merged-behind zs xs ys h)
merged-behind (Leaf (Code t) ∷ zs) xs ys h = ap (λ es. Leaf (Code t) ∷ es) (merged-behind zs xs ys h)
merged-behind (Leaf (InlineMath t) ∷ zs) xs ys h = ap (λ es. Leaf (InlineMath t) ∷ es) (merged-behind zs xs ys h)
merged-behind (Leaf (DisplayMath t) ∷ zs) xs ys h = ap (λ es. Leaf (DisplayMath t) ∷ es) (merged-behind zs xs ys h)
merged-behind (Leaf (Html t) ∷ zs) xs ys h = ap (λ es. Leaf (Html t) ∷ es) (merged-behind zs xs ys h)
merged-behind (Leaf (InlineHtml t) ∷ zs) xs ys h = ap (λ es. Leaf (InlineHtml t) ∷ es) (merged-behind zs xs ys h)
merged-behind (Leaf (FootnoteReference t) ∷ zs) xs ys h = ap (λ es. Leaf (FootnoteReference t) ∷ es) (merged-behind zs xs ys h)
merged-behind (Leaf SoftBreak ∷ zs) xs ys h = ap (λ es. Leaf SoftBreak ∷ es) (merged-behind zs xs ys h)
merged-behind (Leaf HardBreak ∷ zs) xs ys h = ap (λ es. Leaf HardBreak ∷ es) (merged-behind zs xs ys h)
merged-behind (Leaf Rule ∷ zs) xs ys h = ap (λ es. Leaf Rule ∷ es) (merged-behind zs xs ys h)
merged-behind (Leaf (TaskListMarker b) ∷ zs) xs ys h = ap (λ es. Leaf (TaskListMarker b) ∷ es) (merged-behind zs xs ys h)

-- a byte as a text
single : ℕ → EventView
single b = Leaf (Text (b ∷ []))

neither : (a b : Bool) → (a || b) ≡ false → (a ≡ false) × (b ≡ false)
neither true b h = absurd (false≢true (sym h))
neither false b h = (refl, h)

-- bytes of a text are read as texts of one byte each
singles-said : (t : List ℕ) → list_any (λ b. b == 255) t ≡ false → (bytes : List ℕ) (others : List EventView) → said Texts (t ++ bytes) others ≡ map single t ++ said Texts bytes others
unfolding single
singles-said [] h bytes others = refl
singles-said (b ∷ t) h bytes others =
    let parts = neither (b == 255) (list_any (λ c. c == 255) t) h in
    ap (λ c. if c then said Mark (t ++ bytes) others else Leaf (Text (b ∷ [])) ∷ said Texts (t ++ bytes) others) parts.0
    ∙ ap (λ es. Leaf (Text (b ∷ [])) ∷ es) (singles-said t parts.1 bytes others)

-- and these are merged to the text
singles-merged : (b : ℕ) (t : List ℕ) (es : List EventView) → merged (map single (b ∷ t) ++ es) ≡ after_text (b ∷ t) (merged es)
unfolding single
singles-merged b [] es = refl
singles-merged b (c ∷ t) es = ap (after_text (b ∷ [])) (singles-merged c t es) ∙ after_text-twice (b ∷ []) (c ∷ t) (merged es)

none-some : (e : EventView) → None ≡ Some e → ⊥
none-some e h = false≢true (ap is_some h)

-- bytes and events that are read as an event
abbrev pub Spells : List ℕ → List EventView → EventView → Type 0
Spells more further e =
    (bytes : List ℕ) (others : List EventView) → merged (said Texts (more ++ bytes) (further ++ others)) ≡ merged (e ∷ said Texts bytes others)

spells-text : (t : List ℕ) (e : EventView) → IsTextOf t e → Spells t [] e
spells-text [] e h bytes others = absurd (false≢true (sym h.some))
spells-text (b ∷ t) e h bytes others =
    ap merged (singles-said (b ∷ t) h.plain bytes others)
    ∙ singles-merged b t (said Texts bytes others)
    ∙ ap (λ f. merged (f ∷ said Texts bytes others)) (sym h.text)

-- the marks of events without texts are before those of events with some
early : (m : ℕ) (e : EventView) → marked m ≡ Some e → nat_lt 75 m ≡ false
early m e h =
    let within : m < 75 = slice_get_within marks m e h in
    grind (arith, nat_tests)

spells-mark : (m : ℕ) (e : EventView) → marked m ≡ Some e → Spells (255 ∷ m ∷ []) [] e
spells-mark m e h bytes others =
    ap merged
    (ap (λ c. if c then said (Words m [] []) bytes others else next_said (marked m) (said Texts bytes) others) (early m e h)
    ∙ ap (λ o. next_said o (said Texts bytes) others) h)

-- the rest of a text after a mark
words-said : (m : ℕ) (texts : List (List ℕ)) (t u : List ℕ) → list_any (λ b. b == 255) t ≡ false → (bytes : List ℕ) (others : List EventView) → said (Words m texts u) (t ++ 255 ∷ bytes) others ≡ next_spelled (spelled m (texts ++ (u ++ t) ∷ [])) (said Texts bytes others) (said (Words m (texts ++ (u ++ t) ∷ []) []) bytes others)
words-said m texts [] u h bytes others =
    ap (λ t. next_spelled (spelled m (texts ++ t ∷ [])) (said Texts bytes others) (said (Words m (texts ++ t ∷ []) []) bytes others)) (sym (append-nil u))
words-said m texts (b ∷ t) u h bytes others =
    let parts = neither (b == 255) (list_any (λ c. c == 255) t) h in
    ap (λ c. if c then next_spelled (spelled m (texts ++ u ∷ [])) (said Texts (t ++ 255 ∷ bytes) others) (said (Words m (texts ++ u ∷ []) []) (t ++ 255 ∷ bytes) others) else said (Words m texts (u ++ b ∷ [])) (t ++ 255 ∷ bytes) others) parts.0
    ∙ words-said m texts t (u ++ b ∷ []) parts.1 bytes others
    ∙ ap (λ v. next_spelled (spelled m (texts ++ v ∷ [])) (said Texts bytes others) (said (Words m (texts ++ v ∷ []) []) bytes others)) (append_assoc u (b ∷ []) t)

-- a mark from 76 on, after which is a text
late-one : (c : Bool) (o : Option EventView) (e : EventView) → (if c then o else None) ≡ Some e → c ≡ true
late-one true o e h = refl
late-one false o e h = absurd (none-some e h)

first-said : (m : ℕ) (t : List ℕ) → nat_lt 75 m ≡ true → list_any (λ b. b == 255) t ≡ false → (bytes : List ℕ) (others : List EventView) → said Texts (255 ∷ m ∷ t ++ 255 ∷ bytes) others ≡ next_spelled (spelled m (t ∷ [])) (said Texts bytes others) (said (Words m (t ∷ []) []) bytes others)
first-said m t late plain bytes others =
    ap (λ c. if c then said (Words m [] []) (t ++ 255 ∷ bytes) others else next_said (marked m) (said Texts (t ++ 255 ∷ bytes)) others) late
    ∙ words-said m [] t [] plain bytes others

spells-word : (m : ℕ) (t : List ℕ) (e : EventView) → list_any (λ b. b == 255) t ≡ false → spelled m (t ∷ []) ≡ Some e → Spells (((255 ∷ m ∷ []) ++ t) ++ 255 ∷ []) [] e
spells-word m t e plain is bytes others =
    ap (λ xs. merged (said Texts (255 ∷ m ∷ xs) others)) (append_assoc t (255 ∷ []) bytes)
    ∙ ap merged
    (first-said m t (late-one (nat_lt 75 m) (option_map (λ f. f t) (slice_get worded (m - 76))) e is) plain bytes others
    ∙ ap (λ o. next_spelled o (said Texts bytes others) (said (Words m (t ∷ []) []) bytes others)) is)

-- three texts after a mark
abbrev pub three : ℕ → List ℕ → List ℕ → List ℕ → List ℕ
three m d t i = 255 ∷ m ∷ (d ++ 255 ∷ (t ++ 255 ∷ (i ++ 255 ∷ [])))

three-apart : (m : ℕ) (d t i bytes : List ℕ) → three m d t i ++ bytes ≡ 255 ∷ m ∷ (d ++ 255 ∷ (t ++ 255 ∷ (i ++ 255 ∷ bytes)))
three-apart m d t i bytes =
    ap (λ xs. 255 ∷ m ∷ xs)
    (append_assoc d (255 ∷ (t ++ 255 ∷ (i ++ 255 ∷ []))) bytes
    ∙ ap (λ xs. d ++ 255 ∷ xs)
    (append_assoc t (255 ∷ (i ++ 255 ∷ [])) bytes ∙ ap (λ xs. t ++ 255 ∷ xs) (append_assoc i (255 ∷ []) bytes)))

pub record Plain (d t i : List ℕ) : Type 0 where
  pub first : list_any (λ b. b == 255) d ≡ false
  pub second : list_any (λ b. b == 255) t ≡ false
  pub third : list_any (λ b. b == 255) i ≡ false

spells-link : (m : ℕ) (d t i : List ℕ) (e : EventView) → Plain d t i → IsLinkOf m d t i e → Spells (three m d t i) [] e
spells-link m d t i e plain is bytes others =
    ap (λ xs. merged (said Texts xs others)) (three-apart m d t i bytes)
    ∙ ap merged
    (first-said m d (late-one (nat_lt 75 m) (option_map (λ f. Start (f d t i)) (slice_get linked (m - 86))) e is.all) plain.first (t ++ 255 ∷ (i ++ 255 ∷ bytes)) others
    ∙ ap (λ o. next_spelled o (said Texts (t ++ 255 ∷ (i ++ 255 ∷ bytes)) others) (said (Words m (d ∷ []) []) (t ++ 255 ∷ (i ++ 255 ∷ bytes)) others)) is.more
    ∙ words-said m (d ∷ []) t [] plain.second (i ++ 255 ∷ bytes) others
    ∙ words-said m (d ∷ t ∷ []) i [] plain.third bytes others
    ∙ ap (λ o. next_spelled o (said Texts bytes others) (said (Words m (d ∷ t ∷ i ∷ []) []) bytes others)) is.all)

spells-other : (e : EventView) → Spells (255 ∷ 75 ∷ []) (e ∷ []) e
spells-other e bytes others = refl

-- one more event
says-more : (old new : Digest) (more : List ℕ) (further : List EventView) (e : EventView) → new.bytes.items ≡ old.bytes.items ++ more → map (event_view text_of) new.others.items ≡ map (event_view text_of) old.others.items ++ further → Spells more further e → (events : List EventView) → SaysFirst old events → SaysFirst new (events ++ e ∷ [])
says-more old new more further e longer wider spelled events before = λ bytes others.
    ap (λ xs. merged (said Texts (xs ++ bytes) (map (event_view text_of) new.others.items ++ others))) longer
    ∙ ap (λ os. merged (said Texts ((old.bytes.items ++ more) ++ bytes) (os ++ others))) wider
    ∙ ap (λ xs. merged (said Texts xs ((map (event_view text_of) old.others.items ++ further) ++ others))) (append_assoc old.bytes.items more bytes)
    ∙ ap (λ os. merged (said Texts (old.bytes.items ++ (more ++ bytes)) os)) (append_assoc (map (event_view text_of) old.others.items) further others)
    ∙ before (more ++ bytes) (further ++ others)
    ∙ merged-behind events (said Texts (more ++ bytes) (further ++ others)) (e ∷ said Texts bytes others) (spelled bytes others)
    ∙ ap merged (sym (append_assoc events (e ∷ []) (said Texts bytes others)))

pub text-put : (old new : Digest) (t : List ℕ) (e : EventView) → IsTextOf t e → new.bytes.items ≡ old.bytes.items ++ t → new.others ≡ old.others → (events : List EventView) → SaysFirst old events → SaysFirst new (events ++ e ∷ [])
text-put old new t e is longer same =
    says-more old new t [] e longer
    (ap (λ os. map (event_view text_of) os.items) same ∙ sym (append-nil (map (event_view text_of) old.others.items)))
    (spells-text t e is)

pub mark-put : (old new : Digest) (m : ℕ) (e : EventView) → marked m ≡ Some e → new.bytes.items ≡ old.bytes.items ++ 255 ∷ m ∷ [] → new.others ≡ old.others → (events : List EventView) → SaysFirst old events → SaysFirst new (events ++ e ∷ [])
mark-put old new m e is longer same =
    says-more old new (255 ∷ m ∷ []) [] e longer
    (ap (λ os. map (event_view text_of) os.items) same ∙ sym (append-nil (map (event_view text_of) old.others.items)))
    (spells-mark m e is)

pub word-put : (old new : Digest) (m : ℕ) (t : List ℕ) (e : EventView) → list_any (λ b. b == 255) t ≡ false → spelled m (t ∷ []) ≡ Some e → new.bytes.items ≡ ((old.bytes.items ++ 255 ∷ m ∷ []) ++ t) ++ 255 ∷ [] → new.others ≡ old.others → (events : List EventView) → SaysFirst old events → SaysFirst new (events ++ e ∷ [])
word-put old new m t e plain is longer same =
    says-more old new (((255 ∷ m ∷ []) ++ t) ++ 255 ∷ []) [] e
    (longer
    ∙ ap (λ xs. xs ++ 255 ∷ []) (append_assoc old.bytes.items (255 ∷ m ∷ []) t)
    ∙ append_assoc old.bytes.items ((255 ∷ m ∷ []) ++ t) (255 ∷ []))
    (ap (λ os. map (event_view text_of) os.items) same ∙ sym (append-nil (map (event_view text_of) old.others.items)))
    (spells-word m t e plain is)

-- the bytes of a link, as they are put one after the other
three-put : (m : ℕ) (d t i bytes : List ℕ) → ((((((bytes ++ 255 ∷ m ∷ []) ++ d) ++ 255 ∷ []) ++ t) ++ 255 ∷ []) ++ i) ++ 255 ∷ [] ≡ bytes ++ three m d t i
three-put m d t i bytes =
    append_assoc (((((bytes ++ 255 ∷ m ∷ []) ++ d) ++ 255 ∷ []) ++ t) ++ 255 ∷ []) i (255 ∷ [])
    ∙ append_assoc ((((bytes ++ 255 ∷ m ∷ []) ++ d) ++ 255 ∷ []) ++ t) (255 ∷ []) (i ++ 255 ∷ [])
    ∙ append_assoc (((bytes ++ 255 ∷ m ∷ []) ++ d) ++ 255 ∷ []) t (255 ∷ (i ++ 255 ∷ []))
    ∙ append_assoc ((bytes ++ 255 ∷ m ∷ []) ++ d) (255 ∷ []) (t ++ 255 ∷ (i ++ 255 ∷ []))
    ∙ append_assoc (bytes ++ 255 ∷ m ∷ []) d (255 ∷ (t ++ 255 ∷ (i ++ 255 ∷ [])))
    ∙ append_assoc bytes (255 ∷ m ∷ []) (d ++ 255 ∷ (t ++ 255 ∷ (i ++ 255 ∷ [])))

pub link-put : (old new : Digest) (m : ℕ) (d t i : List ℕ) (e : EventView) → Plain d t i → IsLinkOf m d t i e → new.bytes.items ≡ ((((((old.bytes.items ++ 255 ∷ m ∷ []) ++ d) ++ 255 ∷ []) ++ t) ++ 255 ∷ []) ++ i) ++ 255 ∷ [] → new.others ≡ old.others → (events : List EventView) → SaysFirst old events → SaysFirst new (events ++ e ∷ [])
link-put old new m d t i e plain is longer same =
    says-more old new (three m d t i) [] e
    (longer ∙ three-put m d t i old.bytes.items)
    (ap (λ os. map (event_view text_of) os.items) same ∙ sym (append-nil (map (event_view text_of) old.others.items)))
    (spells-link m d t i e plain is)

pub other-put : (old new : Digest) (e : EventView) → new.bytes.items ≡ old.bytes.items ++ 255 ∷ 75 ∷ [] → map (event_view text_of) new.others.items ≡ map (event_view text_of) old.others.items ++ e ∷ [] → (events : List EventView) → SaysFirst old events → SaysFirst new (events ++ e ∷ [])
other-put old new e longer wider = says-more old new (255 ∷ 75 ∷ []) (e ∷ []) e longer wider (spells-other e)

pub says-all : (d : Digest) (events : List EventView) → SaysFirst d events → says d ≡ merged events
says-all d events all =
    ap₂ (λ xs os. merged (said Texts xs os)) (sym (append-nil d.bytes.items)) (sym (append-nil (map (event_view text_of) d.others.items)))
    ∙ all [] []
    ∙ ap merged (append-nil events)
