-- Of a definition at least three bytes come before its destination, and places stop at the greatest number of 64 bits.
use Rattle.std.proofs.Common.{◌≡◌, ℕ, zero, suc, ◌+◌, ◌-◌, ◌^◌, ◌<◌, ◌≤◌, Bool, true, false, ◌==◌, ◌&&◌, if◌then◌else◌, nat_le, nat_lt, List, [], ◌∷◌, ◌++◌, length, map, take, drop, refl, ap, sym, subst, ◌∙◌, arith, length-take, true≢false}
use Rattle.std.specs.Prelude.{Option, Some, None}
use Rattle.std.specs.List.{AllByRecursion}
use Rattle.std.proofs.lemmas.Bool.Decides.{nat_tests}
use Rattle.tocmark_event.specs.declared.event.HeadingLevel.{HeadingLevel}
use Rattle.tocmark_read_scan.specs.Basic.{plus, byte_at, bytes_between}
use Rattle.tocmark_read_scan.specs.Class.{run_end}
use Rattle.tocmark_read_scan.specs.Repeat.{going, repeated}
use Rattle.tocmark_read_scan.specs.declared.class.Class.TheVariants.{White}
use Rattle.tocmark_read_tokens.specs.Word.{closing_of, ends_enclosed, escapes, enclosed_end, enclosed, ends_bare, depth_after, bare, word, bare_word, word_to, enclosed_word, destination, enclosure_of, title_in, title, is_label_text, label_to, label_from, label, line_end, with_next, title_ended, title_on_line, untitled, or_untitled, titled, not_empty, defined_destination, before_colon, defined_label, definition_with, definition_to, definition_of, definition_at}
use Rattle.tocmark_read_tokens.specs.declared.word.Word.{Word}
use Rattle.tocmark_read_tokens.specs.declared.word.Definition.{Definition}
use Rattle.tocmark_read_tokens.specs.declared.word.Enclosure.{Enclosure}
use Rattle.tocmark_read_tokens.specs.declared.word.Enclosure.TheVariants.{Angled, Bracketed}
use Rattle.tocmark_read_page.specs.Definitions.{DefinitionView, found_view, define_once}
use Rattle.tocmark_commonmark.specs.Lines.{Line, with_feeds}
use Rattle.tocmark_commonmark.specs.Tree.{Blocks, Found, tree, defined, defined_in}
use Rattle.tocmark_commonmark.specs.Beginnings.{Beginning, BlankLine, CodeLine, QuoteLine, HeadingLine, FenceLine, HtmlLine, RuleLine, ItemLine, TextLine, LazyLine, ItemMark, beginning}
use Rattle.tocmark_commonmark.specs.Leaves.{definitions, definitions_found, paragraph_left, paragraph_with}
use Rattle.tocmark_commonmark.specs.Lists.{item_block, and_siblings, items, list_block}
use Rattle.tocmark_commonmark.specs.Blocks.{first_block, blocks_from, blocks, blocks_of}
use Rattle.tocmark_block_laws.specs.Short.{IsShort, DefinitionsAreShort}
use Rattle.tocmark_block_laws.proofs.LinkDefinitions.{stepped, steps_as}
use Rattle.tocmark_block_laws.proofs.Open.{all_append}

-- a place after three bytes
abbrev IsLate : ℕ → Type 0
IsLate n = (3 ≤ n) × (n < 2 ^ 64)

late_plus : (a b : ℕ) → IsLate a → IsLate (plus a b)
late_plus a b h = let low : 3 ≤ a = h.0 in let high : a < 2 ^ 64 = h.1 in (omega (arith, low, high), omega arith)

end_late : (k : Enclosure) (escaped : Bool) (place : ℕ) (bs : List ℕ) → IsLate place → IsLate (enclosed_end k escaped place bs)
end_late k escaped place [] h = h
end_late k escaped place (b ∷ bs) h = by (ends_enclosed k escaped b) (end_late k (escapes escaped b) (plus place 1) bs (late_plus place 1 h))
  where
    by : (e : Bool) → IsLate (enclosed_end k (escapes escaped b) (plus place 1) bs) → IsLate (if e then place else enclosed_end k (escapes escaped b) (plus place 1) bs)
    by true g = h
    by false g = g

bare_late : (depth : ℕ) (escaped : Bool) (place : ℕ) (bs : List ℕ) → IsLate place → IsLate ((bare depth escaped place bs).1)
bare_late depth escaped place [] h = h
bare_late depth escaped place (b ∷ bs) h = by (ends_bare depth escaped b) (bare_late (depth_after depth escaped b) (escapes escaped b) (plus place 1) bs (late_plus place 1 h))
  where
    by : (e : Bool) → IsLate ((bare (depth_after depth escaped b) (escapes escaped b) (plus place 1) bs).1) → IsLate ((if e then (depth, place) else bare (depth_after depth escaped b) (escapes escaped b) (plus place 1) bs).1)
    by true g = h
    by false g = g

-- a word after three bytes
record LateWord (w : Word) : Type 0 where
  start : IsLate w.start
  end : IsLate w.end
  next : IsLate w.next

enclosed_late : (c : List ℕ) (place : ℕ) (k : Enclosure) (w : Word) → IsLate place → enclosed_word c place k ≡ Some w → LateWord w
unfolding enclosed_word enclosed
enclosed_late c place k w h e = by (byte_at c end == closing_of k) e
  where
    end : ℕ
    end = enclosed_end k false (plus place 1) (drop (plus place 1) c)

    late : IsLate end
    late = end_late k false (plus place 1) (drop (plus place 1) c) (late_plus place 1 h)

    by : (t : Bool) → word_to (plus place 1) (if t then Some end else None) ≡ Some w → LateWord w
    by false g = absurd cc
    by true g = let same : word (plus place 1) end (plus end 1) ≡ w = cc in subst LateWord same (record { start = late_plus place 1 h; end = late; next = late_plus end 1 late })

bare_word_late : (c : List ℕ) (place : ℕ) (w : Word) → IsLate place → bare_word c place ≡ Some w → LateWord w
unfolding bare_word
bare_word_late c place w h e = by (found.0 == 0) e
  where
    found : ℕ × ℕ
    found = bare 0 false place (drop place c)

    late : IsLate (found.1)
    late = bare_late 0 false place (drop place c) h

    by : (t : Bool) → (if t then Some (word place (found.1) (found.1)) else None) ≡ Some w → LateWord w
    by false g = absurd cc
    by true g = let same : word place (found.1) (found.1) ≡ w = cc in subst LateWord same (record { start = h; end = late; next = late })

run_late : (c : List ℕ) (place : ℕ) → IsLate place → IsLate (run_end c place White)
unfolding run_end
run_late c place h = late_plus place _ h

destination_late : (c : List ℕ) (q : ℕ) (w : Word) → IsLate q → defined_destination c q ≡ Some w → LateWord w
unfolding defined_destination destination
destination_late c q w h e = by (byte_at c start == 60) e
  where
    start : ℕ
    start = run_end c q White

    late : IsLate start
    late = run_late c q h

    some : (o : Option Word) → ((v : Word) → o ≡ Some v → LateWord v) → not_empty start o ≡ Some w → LateWord w
    some None g i = absurd cc
    some (Some v) g i = kept (v.next == start) i
      where
        kept : (t : Bool) → (if t then None else Some v) ≡ Some w → LateWord w
        kept true j = absurd cc
        kept false j = let same : v ≡ w = cc in subst LateWord same (g v refl)

    by : (t : Bool) → not_empty start (if t then enclosed_word c start Angled else bare_word c start) ≡ Some w → LateWord w
    by true g = some (enclosed_word c start Angled) (λ v i. enclosed_late c start Angled v late i) g
    by false g = some (bare_word c start) (λ v i. bare_word_late c start v late i) g

-- the title, or none, after a destination
next_late : (v w : Word) (n : ℕ) (o : Option ℕ) → LateWord v → with_next v o ≡ Some (w, n) → LateWord w
next_late v w n None h e = absurd cc
next_late v w n (Some m) h e = let pair : (v, m) ≡ (w, n) = cc in subst LateWord (ap (λ (x : Word × ℕ). x.0) pair) h

titled_late : (c : List ℕ) (q : ℕ) (w : Word) (n : ℕ) → IsLate q → titled c q ≡ Some (w, n) → LateWord w
unfolding titled untitled title_on_line title
titled_late c q w n h e = by (title_on_line c q) refl e
  where
    start : ℕ
    start = run_end c q White

    ended : (o : Option Word) → ((v : Word) → o ≡ Some v → LateWord v) → title_ended c o ≡ Some (w, n) → LateWord w
    ended None g i = absurd cc
    ended (Some v) g i = next_late v w n (line_end c v.next) (g v refl) i

    opened : (t : Option Enclosure) (v : Word) → title_in c start t ≡ Some v → LateWord v
    opened None v g = absurd cc
    opened (Some k) v g = enclosed_late c start k v (run_late c q h) g

    on_line : (t : Bool) → (if t then None else title_ended c (title_in c start (enclosure_of (byte_at c start)))) ≡ Some (w, n) → LateWord w
    on_line true g = absurd cc
    on_line false g = ended (title_in c start (enclosure_of (byte_at c start))) (λ v i. opened (enclosure_of (byte_at c start)) v i) g

    by : (o : Option (Word × ℕ)) → title_on_line c q ≡ o → or_untitled c q o ≡ Some (w, n) → LateWord w
    by None g i = next_late (word q q q) w n (line_end c q) (record { start = h; end = h; next = h }) i
    by (Some x) g i = on_line (start == q) (g ∙ i)

-- a label isn't empty, and has brackets
no_label : is_label_text [] ≡ false
unfolding is_label_text
no_label = refl

nothing_between : (c : List ℕ) (s e : ℕ) → e ≤ s → bytes_between c s e ≡ []
nothing_between c s e h =
    let none : e - s ≡ 0 = omega (arith, h) in
    ap (λ n. if nat_le s e && nat_le e (length c) then take n (drop s c) else []) none ∙ by (nat_le s e && nat_le e (length c))
  where
    by : (t : Bool) → (if t then take 0 (drop s c) else []) ≡ []
    by true = refl
    by false = refl

label_late : (c : List ℕ) (p : ℕ) (w : Word) → label c p ≡ Some w → IsLate w.next
unfolding label label_from
label_late c p w h = by (byte_at c p == 91) (enclosed c s Bracketed) h
  where
    s : ℕ
    s = plus p 1

    ends : (e : ℕ) (t : Bool) → is_label_text (bytes_between c s e) ≡ t → (if t then Some (word s e (plus e 1)) else None) ≡ Some w → IsLate w.next
    ends e false q g = absurd cc
    ends e true q g = further (nat_lt s e) refl
      where
        same : word s e (plus e 1) ≡ w
        same = cc

        further : (k : Bool) → nat_lt s e ≡ k → IsLate w.next
        further true i =
            let less : s < e = grind (arith, i, nat_tests) in
            let one : 1 ≤ s = omega arith in
            subst (λ (v : Word). IsLate v.next) same (omega (arith, less, one), omega arith)
        further false i =
            let low : e ≤ s = grind (arith, i, nat_tests) in
            absurd (true≢false (sym q ∙ ap is_label_text (nothing_between c s e low) ∙ no_label))

    by : (t : Bool) (o : Option ℕ) → (if t then label_to c s o else None) ≡ Some w → IsLate w.next
    by false o g = absurd cc
    by true None g = absurd cc
    by true (Some e) g = ends e (is_label_text (bytes_between c s e)) refl g

-- the parts of a definition
record LateParts (d : Definition) : Type 0 where
  destination : LateWord d.destination
  title : LateWord d.title

definition_late : (c : List ℕ) (p : ℕ) (d : Definition) → definition_at c p ≡ Some d → LateParts d
unfolding definition_at defined_label
definition_late c p d h = by (label c p) refl h
  where
    with_title : (l w : Word) (o : Option (Word × ℕ)) → LateWord w → titled c w.next ≡ o → definition_with l w o ≡ Some d → LateParts d
    with_title l w None g i e = absurd cc
    with_title l w (Some (t, n)) g i e =
        let same : record { label = l; destination = w; title = t; next = n } ≡ d = cc in
        subst LateParts same (record { destination = g; title = titled_late c w.next t n g.next i })

    with_destination : (l : Word) (o : Option Word) → IsLate l.next → defined_destination c (plus l.next 1) ≡ o → definition_to c l o ≡ Some d → LateParts d
    with_destination l None g i e = absurd cc
    with_destination l (Some w) g i e = with_title l w (titled c w.next) (destination_late c (plus l.next 1) w (late_plus l.next 1 g) i) refl e

    colon : (l : Word) (t : Bool) → IsLate l.next → definition_of c (if t then Some l else None) ≡ Some d → LateParts d
    colon l false g e = absurd cc
    colon l true g e = with_destination l (defined_destination c (plus l.next 1)) g refl e

    by : (o : Option Word) → label c p ≡ o → definition_of c (before_colon c o) ≡ Some d → LateParts d
    by None i e = absurd cc
    by (Some l) i e = colon l (byte_at c l.next == 58) (label_late c p l i) e

-- their texts are short

between_short : (c : List ℕ) (w : Word) → LateWord w → length (bytes_between c w.start w.end) + 2 < 2 ^ 64
between_short c w h = by (nat_le w.start w.end && nat_le w.end (length c))
  where
    from : 3 ≤ w.start
    from = h.start.0

    to : w.end < 2 ^ 64
    to = h.end.1

    by : (t : Bool) → length (if t then take (w.end - w.start) (drop w.start c) else []) + 2 < 2 ^ 64
    by true = omega (arith, length-take (w.end - w.start) (drop w.start c), from, to)
    by false = omega arith

view_short : (c : List ℕ) (p : ℕ) (d : Definition) → definition_at c p ≡ Some d → IsShort (found_view c d)
view_short c p d h = let l : LateParts d = definition_late c p d h in (between_short c d.destination l.destination, between_short c d.title l.title)

repeats_short : (c : List ℕ) (n p : ℕ) (xs : List DefinitionView) → AllByRecursion IsShort xs → AllByRecursion IsShort ((repeated (define_once c) n p xs).0)
unfolding repeated
repeats_short c zero p xs h = h
repeats_short c (suc n) p xs h =
    subst (λ (r : List DefinitionView × ℕ). AllByRecursion IsShort (r.0)) (sym (steps_as c n p xs (definition_at c p) refl))
    (by (definition_at c p) refl (λ q ys g. repeats_short c n q ys g))
  where
    by : (o : Option Definition) → definition_at c p ≡ o → ((q : ℕ) (ys : List DefinitionView) → AllByRecursion IsShort ys → AllByRecursion IsShort ((repeated (define_once c) n q ys).0))
        → AllByRecursion IsShort ((going (λ q ys. repeated (define_once c) n q ys) p (stepped c xs o)).0)
    by None e again = h
    by (Some d) e again = again d.next (xs ++ found_view c d ∷ []) (all_append IsShort xs (found_view c d ∷ []) h (view_short c p d e, tt))

definitions_short : (ts : List (List ℕ)) → AllByRecursion IsShort ((definitions ts).0)
definitions_short ts = repeats_short (with_feeds ts) (length (with_feeds ts)) 0 [] tt

-- and so are those of blocks

abbrev AreShort : List Found → Type 0
AreShort fs = AllByRecursion IsShort (defined (tree fs))

all_front : {A : Type 0} (P : A → Type 0) (xs ys : List A) → AllByRecursion P (xs ++ ys) → AllByRecursion P xs
all_front P [] ys h = tt
all_front P (x ∷ xs) ys h = (h.0, all_front P xs ys (h.1))

all_rest : {A : Type 0} (P : A → Type 0) (xs ys : List A) → AllByRecursion P (xs ++ ys) → AllByRecursion P ys
all_rest P [] ys h = h
all_rest P (x ∷ xs) ys h = all_rest P xs ys (h.1)

short_append : (fs gs : List Found) → AreShort fs → AreShort gs → AreShort (fs ++ gs)
short_append [] gs h k = k
short_append (f ∷ fs) gs h k =
    all_append IsShort (defined_in f.block) (defined (tree (fs ++ gs))) (all_front IsShort (defined_in f.block) (defined (tree fs)) h)
    (short_append fs gs (all_rest IsShort (defined_in f.block) (defined (tree fs)) h) k)

short_one : (ds : List DefinitionView) → AllByRecursion IsShort ds → AllByRecursion IsShort (ds ++ [])
short_one ds h = all_append IsShort ds [] h tt

found_short : (at : ℕ) (ds : List DefinitionView) (n : ℕ) → AllByRecursion IsShort ds → AreShort (definitions_found at ds n)
found_short at [] n h = tt
found_short at (d ∷ ds) n h = short_one (d ∷ ds) h

left_short : (at : ℕ) (us : List (List ℕ)) → AreShort (paragraph_left at us)
left_short at [] = tt
left_short at (u ∷ us) = tt

paragraph_short : (at : ℕ) (ts : List (List ℕ)) (u : Option HeadingLevel) (d : List DefinitionView × ℕ) → AllByRecursion IsShort (d.0) → AreShort (paragraph_with at ts u d).found
paragraph_short at ts None d h = short_append (definitions_found at (d.0) (d.1)) (paragraph_left (at + d.1) (drop (d.1) ts)) (found_short at (d.0) (d.1) h) (left_short (at + d.1) (drop (d.1) ts))
paragraph_short at ts (Some level) d h = short_append (definitions_found at (d.0) (d.1)) _ (found_short at (d.0) (d.1) h) tt

items_short : (bs : List Line → List Found) → ((ls : List Line) → AreShort (bs ls)) → (fuel first : ℕ) (m : ItemMark × List Line) → AreShort (map item_block (items bs fuel first m))
items_short bs h zero first m = tt
items_short bs h (suc fuel) first m =
    all_append IsShort _ _ (h _) (next _ _ (λ n s. items_short bs h fuel n s))
  where
    next : (o : Option (ItemMark × List Line)) (n : ℕ) → ((k : ℕ) (s : ItemMark × List Line) → AreShort (map item_block (items bs fuel k s))) → AreShort (map item_block (and_siblings (λ s. items bs fuel n s) o))
    next None n again = tt
    next (Some s) n again = again n s

list_short : (m : ItemMark) (n : Option ℕ) (tight : Bool) (bs : Blocks) → AllByRecursion IsShort (defined bs) → AllByRecursion IsShort (defined_in (list_block m n tight bs))
list_short m None tight bs h = h
list_short m (Some n) tight bs h = h

first_short : (bs : List Line → List Found) → ((ls : List Line) → AreShort (bs ls)) → (at : ℕ) (l : Line) (ls : List Line) (k : Beginning) → AreShort (first_block bs at l ls k).found
first_short bs h at l ls BlankLine = tt
first_short bs h at l ls CodeLine = tt
first_short bs h at l ls QuoteLine = short_one _ (h _)
first_short bs h at l ls (HeadingLine x) = tt
first_short bs h at l ls (FenceLine f) = tt
first_short bs h at l ls (HtmlLine x) = tt
first_short bs h at l ls RuleLine = tt
first_short bs h at l ls (ItemLine m) = short_one _ (list_short m m.number _ _ (items_short bs h (length ls + 1) at (m, ls)))
first_short bs h at l ls TextLine = paragraph_short at _ _ _ (definitions_short _)
first_short bs h at l ls LazyLine = paragraph_short at _ _ _ (definitions_short _)

blocks_short : (fuel at : ℕ) (ls : List Line) → AreShort (blocks_from fuel at ls)
unfolding blocks_from
blocks_short zero at ls = tt
blocks_short (suc fuel) at [] = tt
blocks_short (suc fuel) at (l ∷ ls) =
    short_append (first_block (λ x. blocks_from fuel 0 x) at l ls (beginning l)).found _ (first_short (λ x. blocks_from fuel 0 x) (λ x. blocks_short fuel 0 x) at l ls (beginning l)) (blocks_short fuel _ _)

pub definitions-short : DefinitionsAreShort
unfolding blocks blocks_of
definitions-short text = blocks_short _ 0 _
