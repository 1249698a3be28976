-- Which definitions of links are found in lines: those of lines that are all definitions, whatever comes after an underline below.
use Rattle.std.proofs.Common.{◌≡◌, ℕ, zero, suc, ◌+◌, ◌^◌, ◌<◌, ◌≤◌, Bool, true, false, ◌==◌, ◌||◌, cond, if◌then◌else◌, min, nat_lt, List, [], ◌∷◌, ◌++◌, length, map, take, refl, ap, sym, subst, ◌∙◌, arith, append-nil, length-append, ◌⊎◌, inl, inr}
use Rattle.std.specs.Prelude.{filter, Option, Some, None}
use Rattle.std.specs.List.{AllByRecursion, flat_map}
use Rattle.std.specs.Option.{option_map_or}
use Rattle.std.proofs.lemmas.Bool.Decides.{nat_tests}
use Rattle.std.proofs.lemmas.Grind.{flat_map-append}
use Rattle.std.proofs.lemmas.List.{take_all}
use Rattle.std.proofs.lemmas.List.Elements.{filter-append}
use Rattle.tocmark_read_scan.specs.Basic.{plus, byte_at, bytes_between}
use Rattle.tocmark_read_scan.specs.Class.{is_in, run_end}
use Rattle.tocmark_read_scan.specs.Repeat.{going, repeated}
use Rattle.tocmark_read_scan.specs.declared.class.Class.TheVariants.{White, Blank}
use Rattle.tocmark_read_scan.proofs.PlainContent.{byte_behind, take_front}
use Rattle.tocmark_read_scan.proofs.PlainTests.{both_false, eq_of, one_of_two}
use Rattle.tocmark_read_scan.proofs.Repeats.{repeated_stop, repeated_zero}
use Rattle.tocmark_read_tokens.specs.Word.{enclosure_of, title, line_end, with_next, title_ended, title_on_line, untitled, or_untitled, titled, label, defined_label, defined_destination, definition_with, definition_to, definition_of, definition_at}
use Rattle.tocmark_read_tokens.specs.declared.word.Word.{Word}
use Rattle.tocmark_read_tokens.specs.declared.word.Definition.{Definition}
use Rattle.tocmark_read_page.specs.Definitions.{DefinitionView, found_view, replaced, joined, define_once, begins_definition, definitions_from}
use Rattle.tocmark_read_page.specs.declared.piece.Piece.{Piece}
use Rattle.tocmark_commonmark.specs.Lines.{with_feeds}
use Rattle.tocmark_commonmark.specs.Beginnings.{begins_with}
use Rattle.tocmark_commonmark.specs.Leaves.{counted, definitions_in, definitions}
use Rattle.tocmark_block_laws.specs.Quotes.{IsPlain}
use Rattle.tocmark_block_laws.specs.Trees.{line_text}
use Rattle.tocmark_block_laws.proofs.Apart.{repeats_after}
use Rattle.tocmark_block_laws.proofs.Fronts.{byte_first}
use Rattle.tocmark_block_laws.proofs.TextLines.{Plain, plain_head, between_plain}
use Rattle.tocmark_block_laws.proofs.Feeds.{has_feed, is_feed}
use Rattle.tocmark_block_laws.proofs.Longer.{between_front, IsFed, IsNext, Follows, Stays, definition_stays}

-- no definition, if none begins at the first byte

define_none : (content : List ℕ) → definition_at content 0 ≡ None → define_once content 0 [] ≡ ([], None)
unfolding define_once
define_none content h = rw h refl

none_in : (content : List ℕ) → definition_at content 0 ≡ None → definitions_in content ≡ ([], 0)
none_in [] h = ap (counted []) (repeated_zero (define_once []) 0 0 [] refl)
none_in (b ∷ bs) h = ap (counted (b ∷ bs)) (repeated_stop (define_once (b ∷ bs)) (suc (length bs)) 0 [] [] (omega arith) (sym (define_none (b ∷ bs) h)))

no_bracket : (content : List ℕ) (p : ℕ) → (byte_at content p == 91) ≡ false → definition_at content p ≡ None
unfolding definition_at defined_label label
no_bracket content p h = rw h refl

pub brackets_none : (t : List ℕ) (ts : List (List ℕ)) → begins_with 91 t ≡ false → definitions (t ∷ ts) ≡ ([], 0)
brackets_none [] ts h = none_in (10 ∷ with_feeds ts) (no_bracket (10 ∷ with_feeds ts) 0 refl)
brackets_none (b ∷ bs) ts h = none_in (b ∷ ((bs ++ 10 ∷ []) ++ with_feeds ts)) (no_bracket (b ∷ ((bs ++ 10 ∷ []) ++ with_feeds ts)) 0 h)

-- the reader looks for definitions in the same content

replaced_same : (xs : List ℕ) → IsPlain xs → flat_map replaced xs ≡ xs
unfolding replaced
replaced_same [] h = refl
replaced_same (b ∷ bs) h = let p : Plain b bs = plain_head b bs h in rw p.zero_byte (ap (λ ys. b ∷ ys) (replaced_same bs p.more))

joined_same : (text : List ℕ) (ps : List Piece) → IsPlain text → joined text ps ≡ with_feeds (map (line_text text) ps)
joined_same text [] h = refl
joined_same text (p ∷ ps) h =
    ap (λ xs. (xs ++ 10 ∷ []) ++ joined text ps) (replaced_same (bytes_between text p.start p.end) (between_plain text p.start p.end h))
    ∙ ap (λ xs. (bytes_between text p.start p.end ++ 10 ∷ []) ++ xs) (joined_same text ps h)

begins_first : (text : List ℕ) (p : Piece) (t : List ℕ) → line_text text p ≡ t → (byte_at text p.start == 91) ≡ false → begins_with 91 t ≡ false
begins_first text p [] e h = refl
begins_first text p (b ∷ bs) e h = sym (ap (λ x. x == 91) (byte_first text p.start p.end b bs e)) ∙ h

-- it finds those that are declared
pub reads_same : (text : List ℕ) (ps : List Piece) → IsPlain text → definitions_from text ps [] ≡ definitions (map (line_text text) ps)
unfolding definitions_from begins_definition
reads_same text [] plain = sym (ap (counted []) (repeated_zero (define_once []) 0 0 [] refl))
reads_same text (p ∷ ps) plain = by (byte_at text p.start == 91) refl
  where
    by : (k : Bool) → (byte_at text p.start == 91) ≡ k → (if k then definitions_in (joined text (p ∷ ps)) else ([], 0)) ≡ definitions (map (line_text text) (p ∷ ps))
    by true e = ap definitions_in (joined_same text (p ∷ ps) plain)
    by false e = sym (brackets_none (line_text text p) (map (line_text text) ps) (begins_first text p (line_text text p) refl e))

-- a definition ends in its content

line_end_low : (c : List ℕ) (q n : ℕ) → line_end c q ≡ Some n → (n ≤ length c) × (n < 2 ^ 64)
unfolding line_end
line_end_low c q n h = by (byte_at c (run_end c q Blank) == 10) h
  where
    by : (k : Bool) → (if k then Some (min (plus (run_end c q Blank) 1) (length c)) else None) ≡ Some n → (n ≤ length c) × (n < 2 ^ 64)
    by false e = absurd cc
    by true e =
        let same : min (plus (run_end c q Blank) 1) (length c) ≡ n = cc in
        (omega (arith, same), omega (arith, same))

next_low : (c : List ℕ) (v w : Word) (q n : ℕ) → with_next v (line_end c q) ≡ Some (w, n) → (n ≤ length c) × (n < 2 ^ 64)
next_low c v w q n h = by (line_end c q) refl h
  where
    by : (o : Option ℕ) → line_end c q ≡ o → with_next v o ≡ Some (w, n) → (n ≤ length c) × (n < 2 ^ 64)
    by None g e = absurd cc
    by (Some m) g e =
        let pair : (v, m) ≡ (w, n) = cc in
        line_end_low c q n (g ∙ ap (λ x. Some x) (ap (λ (x : Word × ℕ). x.1) pair))

titled_low : (c : List ℕ) (q : ℕ) (w : Word) (n : ℕ) → titled c q ≡ Some (w, n) → (n ≤ length c) × (n < 2 ^ 64)
unfolding titled untitled title_on_line
titled_low c q w n h = by (title_on_line c q) refl h
  where
    start : ℕ
    start = run_end c q White

    ended : (o : Option Word) → title_ended c o ≡ Some (w, n) → (n ≤ length c) × (n < 2 ^ 64)
    ended None e = absurd cc
    ended (Some v) e = next_low c v w v.next n e

    on_line : (k : Bool) (o : Option Word) → (if k then None else title_ended c o) ≡ Some (w, n) → (n ≤ length c) × (n < 2 ^ 64)
    on_line true o e = absurd cc
    on_line false o e = ended o e

    by : (o : Option (Word × ℕ)) → title_on_line c q ≡ o → or_untitled c q o ≡ Some (w, n) → (n ≤ length c) × (n < 2 ^ 64)
    by None g e = next_low c (record { start = q; end = q; next = q }) w q n e
    by (Some x) g e = on_line (start == q) (title c start) (g ∙ e)

definition_low : (c : List ℕ) (p : ℕ) (d : Definition) → definition_at c p ≡ Some d → (d.next ≤ length c) × (d.next < 2 ^ 64)
unfolding definition_at
definition_low c p d h = by (defined_label c p) h
  where
    with_title : (l w : Word) (o : Option (Word × ℕ)) → titled c w.next ≡ o → definition_with l w o ≡ Some d → (d.next ≤ length c) × (d.next < 2 ^ 64)
    with_title l w None g e = absurd cc
    with_title l w (Some (t, n)) g e =
        let same : record { label = l; destination = w; title = t; next = n } ≡ d = cc in
        let at : n ≡ d.next = ap (λ (x : Definition). x.next) same in
        subst (λ m. (m ≤ length c) × (m < 2 ^ 64)) at (titled_low c w.next t n g)

    with_destination : (l : Word) (o : Option Word) → definition_to c l o ≡ Some d → (d.next ≤ length c) × (d.next < 2 ^ 64)
    with_destination l None e = absurd cc
    with_destination l (Some w) e = with_title l w (titled c w.next) refl e

    by : (o : Option Word) → definition_of c o ≡ Some d → (d.next ≤ length c) × (d.next < 2 ^ 64)
    by None e = absurd cc
    by (Some l) e = with_destination l (defined_destination c (plus l.next 1)) e

-- and it begins with a bracket
definition_bracket : (c : List ℕ) (p : ℕ) (d : Definition) → definition_at c p ≡ Some d → (byte_at c p == 91) ≡ true
definition_bracket c p d h = by (byte_at c p == 91) refl
  where
    by : (k : Bool) → (byte_at c p == 91) ≡ k → (byte_at c p == 91) ≡ true
    by true e = e
    by false e = let none : None ≡ Some d = sym (no_bracket c p e) ∙ h in absurd cc

-- one definition after the other

-- what one step makes of the definition that it finds
abbrev pub stepped : List ℕ → List DefinitionView → Option Definition → List DefinitionView × Option ℕ
stepped c xs o = option_map_or (λ (d : Definition). (xs ++ found_view c d ∷ [], Some d.next)) o (xs, None)

once_as : (c : List ℕ) (p : ℕ) (xs : List DefinitionView) (o : Option Definition) → definition_at c p ≡ o → define_once c p xs ≡ stepped c xs o
unfolding define_once
once_as c p xs o h = ap (stepped c xs) h

pub steps_as : (c : List ℕ) (n p : ℕ) (xs : List DefinitionView) (o : Option Definition) → definition_at c p ≡ o → repeated (define_once c) (suc n) p xs ≡ going (λ q ys. repeated (define_once c) n q ys) p (stepped c xs o)
unfolding repeated
steps_as c n p xs o h = ap (going (λ q ys. repeated (define_once c) n q ys) p) (once_as c p xs o h)

stops_at : (c : List ℕ) (n p : ℕ) (xs : List DefinitionView) → definition_at c p ≡ None → repeated (define_once c) n p xs ≡ (xs, p)
unfolding repeated
stops_at c zero p xs h = refl
stops_at c (suc n) p xs h = steps_as c n p xs None h

-- the place after the definitions
places_low : (c : List ℕ) (n p : ℕ) (xs : List DefinitionView) → p ≤ length c → p < 2 ^ 64 → ((repeated (define_once c) n p xs).1 ≤ length c) × ((repeated (define_once c) n p xs).1 < 2 ^ 64)
unfolding repeated
places_low c zero p xs h k = (h, k)
places_low c (suc n) p xs h k =
    subst (λ (r : List DefinitionView × ℕ). (r.1 ≤ length c) × (r.1 < 2 ^ 64)) (sym (steps_as c n p xs (definition_at c p) refl))
    (by (definition_at c p) refl (λ q ys i j. places_low c n q ys i j))
  where
    by : (o : Option Definition) → definition_at c p ≡ o → ((q : ℕ) (ys : List DefinitionView) → q ≤ length c → q < 2 ^ 64 → ((repeated (define_once c) n q ys).1 ≤ length c) × ((repeated (define_once c) n q ys).1 < 2 ^ 64))
        → ((going (λ q ys. repeated (define_once c) n q ys) p (stepped c xs o)).1 ≤ length c) × ((going (λ q ys. repeated (define_once c) n q ys) p (stepped c xs o)).1 < 2 ^ 64)
    by None e again = (h, k)
    by (Some d) e again = let low = definition_low c p d e in again d.next (xs ++ found_view c d ∷ []) (low.0) (low.1)

-- all of a content is definitions
abbrev IsAll : List ℕ → ℕ → ℕ → List DefinitionView → List DefinitionView → Type 0
IsAll c n p xs r = repeated (define_once c) n p xs ≡ (r, length c)

next_of : (c : List ℕ) (n p : ℕ) (xs r : List DefinitionView) → IsAll c n p xs r → IsNext c p
unfolding repeated
next_of c zero p xs r h = inl (ap (λ (x : List DefinitionView × ℕ). x.1) h)
next_of c (suc n) p xs r h = by (definition_at c p) refl
  where
    by : (o : Option Definition) → definition_at c p ≡ o → IsNext c p
    by None e = inl (ap (λ (x : List DefinitionView × ℕ). x.1) (sym (stops_at c (suc n) p xs e) ∙ h))
    by (Some d) e = inr (definition_bracket c p d e)

view_stays : (c u : List ℕ) (p : ℕ) (d : Definition) → Stays c u p d → found_view (c ++ u) d ≡ found_view c d
view_stays c u p d s =
    rw (between_front c u d.label.start d.label.end s.label, between_front c u d.destination.start d.destination.end s.destination, between_front c u d.title.start d.title.end s.title) refl

end_none : (c : List ℕ) (b : ℕ) (bs : List ℕ) → (b == 91) ≡ false → definition_at (c ++ b ∷ bs) (length c) ≡ None
end_none c b bs h = no_bracket (c ++ b ∷ bs) (length c) (ap (λ x. x == 91) (byte_behind c bs b (length c) refl) ∙ h)

-- a longer content has them, too, if no definition begins after them
all_longer : (c : List ℕ) (b : ℕ) (bs : List ℕ) (n m p : ℕ) (xs r : List DefinitionView) → Follows c b → (b == 91) ≡ false → n ≤ m → IsAll c n p xs r → repeated (define_once (c ++ b ∷ bs)) m p xs ≡ (r, length c)
unfolding repeated
all_longer c b bs zero m p xs r f other few h =
    ap (λ q. repeated (define_once (c ++ b ∷ bs)) m q xs) there ∙ stops_at (c ++ b ∷ bs) m (length c) xs (end_none c b bs other) ∙ ap (λ (ys : List DefinitionView). (ys, length c)) (ap (λ (x : List DefinitionView × ℕ). x.0) h)
  where
    there : p ≡ length c
    there = ap (λ (x : List DefinitionView × ℕ). x.1) h
all_longer c b bs (suc n) zero p xs r f other few h = absurd (omega (arith, few))
all_longer c b bs (suc n) (suc m) p xs r f other few h = by (definition_at c p) refl (λ q ys g. all_longer c b bs n m q ys r f other (let k : suc n ≤ suc m = few in omega (arith, k)) g)
  where
    whole : List ℕ
    whole = c ++ b ∷ bs

    by : (o : Option Definition) → definition_at c p ≡ o → ((q : ℕ) (ys : List DefinitionView) → IsAll c n q ys r → repeated (define_once whole) m q ys ≡ (r, length c)) → repeated (define_once whole) (suc m) p xs ≡ (r, length c)
    by None e again =
        let same : (xs, p) ≡ (r, length c) = sym (stops_at c (suc n) p xs e) ∙ h in
        let there : p ≡ length c = ap (λ (x : List DefinitionView × ℕ). x.1) same in
        stops_at whole (suc m) p xs (ap (definition_at whole) there ∙ end_none c b bs other) ∙ same
    by (Some d) e again =
        let later : IsAll c n d.next (xs ++ found_view c d ∷ []) r = sym (steps_as c n p xs (Some d) e) ∙ h in
        let s : Stays c (b ∷ bs) p d = definition_stays c b bs p d f e (next_of c n d.next (xs ++ found_view c d ∷ []) r later) in
        steps_as whole m p xs (Some d) s.same
        ∙ ap (λ v. repeated (define_once whole) m d.next (xs ++ v ∷ [])) (view_stays c (b ∷ bs) p d s)
        ∙ again d.next (xs ++ found_view c d ∷ []) later

-- line feeds are counted

abbrev feeds : List ℕ → ℕ
feeds xs = length (filter is_feed xs)

abbrev one_if : Bool → ℕ
one_if true = 1
one_if false = 0

feeds_cons : (x : ℕ) (xs : List ℕ) → feeds (x ∷ xs) ≡ one_if (is_feed x) + feeds xs
feeds_cons x xs = by (is_feed x) (filter is_feed xs)
  where
    by : (k : Bool) (ys : List ℕ) → length (cond k (x ∷ ys) ys) ≡ one_if k + length ys
    by true ys = omega arith
    by false ys = omega arith

feeds_append : (xs ys : List ℕ) → feeds (xs ++ ys) ≡ feeds xs + feeds ys
feeds_append xs ys = ap (λ (zs : List ℕ). length zs) (filter-append is_feed xs ys) ∙ length-append (filter is_feed xs) (filter is_feed ys)

feeds_none : (xs : List ℕ) → has_feed xs ≡ false → feeds xs ≡ 0
feeds_none [] h = refl
feeds_none (x ∷ xs) h =
    let both = both_false (is_feed x) (has_feed xs) h in
    feeds_cons x xs ∙ ap (λ k. one_if k + feeds xs) (both.0) ∙ (let q : 0 + feeds xs ≡ 0 = omega (arith, feeds_none xs (both.1)) in q)

-- lines without one
abbrev pub AreFeedless : List (List ℕ) → Type 0
AreFeedless ts = AllByRecursion (λ t. has_feed t ≡ false) ts

feeds_all : (ts : List (List ℕ)) → AreFeedless ts → feeds (with_feeds ts) ≡ length ts
feeds_all [] h = refl
feeds_all (t ∷ ts) h =
    let one : feeds (10 ∷ []) ≡ 1 = refl in
    let all : feeds ((t ++ 10 ∷ []) ++ with_feeds ts) ≡ feeds (t ++ 10 ∷ []) + feeds (with_feeds ts) = feeds_append (t ++ 10 ∷ []) (with_feeds ts) in
    let line : feeds (t ++ 10 ∷ []) ≡ feeds t + feeds (10 ∷ []) = feeds_append t (10 ∷ []) in
    omega (arith, all, line, one, feeds_none t (h.0), feeds_all ts (h.1))

feeds_take : (n : ℕ) (xs : List ℕ) → feeds (take n xs) ≤ feeds xs
feeds_take zero xs = omega arith
feeds_take (suc n) [] = omega arith
feeds_take (suc n) (x ∷ xs) = omega (arith, feeds_cons x (take n xs), feeds_cons x xs, feeds_take n xs)

-- the last line feed isn't in a front
feeds_front : (n : ℕ) (x : ℕ) (xs : List ℕ) → IsFed (x ∷ xs) → n < suc (length xs) → feeds (take n (x ∷ xs)) < feeds (x ∷ xs)
feeds_front zero x [] fed h = omega (arith, feeds_cons x [], ap (λ b. one_if (is_feed b)) (fed 0 refl))
feeds_front zero x (y ∷ ys) fed h =
    let more : feeds [] < feeds (y ∷ ys) = feeds_front zero y ys (λ k e. fed (suc k) (ap suc e)) (omega arith) in
    omega (arith, feeds_cons x (y ∷ ys), more)
feeds_front (suc n) x [] fed h = absurd (let k : suc n < 1 = h in omega (arith, k))
feeds_front (suc n) x (y ∷ ys) fed h =
    let less : suc n < suc (suc (length ys)) = h in
    let more : feeds (take n (y ∷ ys)) < feeds (y ∷ ys) = feeds_front n y ys (λ k e. fed (suc k) (ap suc e)) (omega (arith, less)) in
    omega (arith, feeds_cons x (take n (y ∷ ys)), feeds_cons x (y ∷ ys), more)

all_feeds : (n : ℕ) (xs : List ℕ) → IsFed xs → n ≤ length xs → feeds (take n xs) ≡ feeds xs → n ≡ length xs
all_feeds n [] fed low same = omega (arith, low)
all_feeds n (x ∷ xs) fed low same = by (nat_lt n (suc (length xs))) refl
  where
    most : n ≤ suc (length xs)
    most = low

    by : (k : Bool) → nat_lt n (suc (length xs)) ≡ k → n ≡ suc (length xs)
    by true e = absurd (let less : feeds (take n (x ∷ xs)) < feeds (x ∷ xs) = feeds_front n x xs fed (grind (arith, e, nat_tests)) in omega (arith, less, same))
    by false e = grind (arith, e, most, nat_tests)

-- lines with a line feed each end with one

fed_append : (xs ys : List ℕ) → IsFed ys → 0 < length ys → IsFed (xs ++ ys)
fed_append [] ys h some k e = h k e
fed_append (x ∷ xs) ys h some zero e = absurd (omega (arith, e, length-append xs ys, some))
fed_append (x ∷ xs) ys h some (suc k) e = fed_append xs ys h some k (let q : suc (suc k) ≡ suc (length (xs ++ ys)) = e in omega (arith, q))

fed_one : IsFed (10 ∷ [])
fed_one zero e = refl
fed_one (suc k) e = absurd (let q : suc (suc k) ≡ 1 = e in omega (arith, q))

fed_lines : (t : List ℕ) (ts : List (List ℕ)) → IsFed (with_feeds (t ∷ ts))
fed_lines t [] = subst IsFed (sym (append-nil (t ++ 10 ∷ []))) (fed_append t (10 ∷ []) fed_one (omega arith))
fed_lines t (u ∷ us) = fed_append (t ++ 10 ∷ []) (with_feeds (u ∷ us)) (fed_lines u us) (omega (arith, length-append (u ++ 10 ∷ []) (with_feeds us), length-append u (10 ∷ [])))

-- no more lines are definitions than there are
pub count_low : (ts : List (List ℕ)) → AreFeedless ts → (definitions ts).1 ≤ length ts
count_low ts h =
    let c : List ℕ = with_feeds ts in
    let place : ℕ = (repeated (define_once c) (length c) 0 []).1 in
    let few : feeds (take place c) ≤ feeds c = feeds_take place c in
    omega (arith, few, feeds_all ts h)

-- without definitions no line is one

nothing_found : (c : List ℕ) (n p : ℕ) → (repeated (define_once c) n p []).0 ≡ [] → (repeated (define_once c) n p []).1 ≡ p
unfolding repeated
nothing_found c zero p h = refl
nothing_found c (suc n) p h = by (definition_at c p) refl
  where
    by : (o : Option Definition) → definition_at c p ≡ o → (repeated (define_once c) (suc n) p []).1 ≡ p
    by None e = ap (λ (r : List DefinitionView × ℕ). r.1) (stops_at c (suc n) p [] e)
    by (Some d) e =
        let some : found_view c d ∷ (repeated (define_once c) n d.next []).0 ≡ [] =
        sym (ap (λ (r : List DefinitionView × ℕ). r.0) (steps_as c n p [] (Some d) e ∙ repeats_after c n d.next (found_view c d ∷ []) [])) ∙ h in
        absurd cc

pub none_counted : (ts : List (List ℕ)) → (definitions ts).0 ≡ [] → (definitions ts).1 ≡ 0
none_counted ts h =
    let c : List ℕ = with_feeds ts in
    ap (λ n. feeds (take n c)) (nothing_found c (length c) 0 h)

-- a line that may be an underline
pub record HasMark (u : List ℕ) : Type 0 where
  pub mark : ℕ
  pub rest : List ℕ
  pub is : u ≡ mark ∷ rest
  pub kind : ((mark == 61) || (mark == 45)) ≡ true

pub mark_none : (u : List ℕ) (us : List (List ℕ)) → HasMark u → definitions (u ∷ us) ≡ ([], 0)
mark_none u us m = brackets_none u us (ap (begins_with 91) m.is ∙ by (one_of_two (m.mark == 61) (m.mark == 45) m.kind))
  where
    by : ((m.mark == 61) ≡ true) ⊎ ((m.mark == 45) ≡ true) → (m.mark == 91) ≡ false
    by (inl e) = ap (λ b. b == 91) (eq_of m.mark 61 e)
    by (inr e) = ap (λ b. b == 91) (eq_of m.mark 45 e)

mark_follows : (c : List ℕ) (b : ℕ) → ((b == 61) || (b == 45)) ≡ true → length c < 2 ^ 64 → IsFed c → Follows c b × ((b == 91) ≡ false)
unfolding is_in enclosure_of
mark_follows c b h fits fed = by (one_of_two (b == 61) (b == 45) h)
  where
    at : (x : ℕ) → (b == x) ≡ true → Follows c x × ((x == 91) ≡ false) → Follows c b × ((b == 91) ≡ false)
    at x e g = subst (λ y. Follows c y × ((y == 91) ≡ false)) (sym (eq_of b x e)) g

    by : ((b == 61) ≡ true) ⊎ ((b == 45) ≡ true) → Follows c b × ((b == 91) ≡ false)
    by (inl e) = at 61 e (record { fits = fits; fed = fed; white = refl; blank = refl; opens = refl }, refl)
    by (inr e) = at 45 e (record { fits = fits; fed = fed; white = refl; blank = refl; opens = refl }, refl)

-- such a line below lines that are all definitions changes none of them
pub definitions_longer : (ts : List (List ℕ)) (u : List ℕ) (us : List (List ℕ)) → AreFeedless ts → HasMark u → (definitions ts).1 ≡ length ts → definitions (ts ++ u ∷ us) ≡ definitions ts
definitions_longer [] u us h m all = mark_none u us m ∙ sym (ap (counted []) (repeated_zero (define_once []) 0 0 [] refl))
definitions_longer (t ∷ ts) u us h m all =
    ap definitions_in (flat_map-append (λ (b : List ℕ). b ++ 10 ∷ []) (t ∷ ts) (u ∷ us) ∙ ap (λ (v : List ℕ). c ++ ((v ++ 10 ∷ []) ++ with_feeds us)) m.is)
    ∙ ap (counted (c ++ later)) longer
    ∙ ap (λ (ys : List ℕ). (r.0, length (filter is_feed ys))) (take_front c later ∙ sym (take_all (length c) c (omega arith)))
    ∙ sym (ap (counted c) same)
  where
    c : List ℕ
    c = with_feeds (t ∷ ts)

    rest : List ℕ
    rest = (m.rest ++ 10 ∷ []) ++ with_feeds us

    later : List ℕ
    later = m.mark ∷ rest

    r : List DefinitionView × ℕ
    r = repeated (define_once c) (length c) 0 []

    low : (r.1 ≤ length c) × (r.1 < 2 ^ 64)
    low = places_low c (length c) 0 [] (omega arith) (omega arith)

    there : r.1 ≡ length c
    there = all_feeds (r.1) c (fed_lines t ts) (low.0) (all ∙ sym (feeds_all (t ∷ ts) h))

    same : r ≡ (r.0, length c)
    same = ap (λ n. (r.0, n)) there

    both : Follows c m.mark × ((m.mark == 91) ≡ false)
    both = mark_follows c m.mark m.kind (subst (λ n. n < 2 ^ 64) there (low.1)) (fed_lines t ts)

    longer : repeated (define_once (c ++ later)) (length (c ++ later)) 0 [] ≡ (r.0, length c)
    longer = all_longer c m.mark rest (length c) (length (c ++ later)) 0 [] (r.0) (both.0) (both.1) (omega (arith, length-append c later)) same
