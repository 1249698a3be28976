-- Character references of a content.
use Rattle.std.proofs.Common.{◌≡◌, ℕ, suc, ◌+◌, ◌^◌, ◌<◌, ◌≤◌, Bool, true, false, cond, ◌==◌, ◌&&◌, ◌||◌, nat_lt, nat_le, if◌then◌else◌, List, [], ◌∷◌, ◌++◌, length, drop, codes, refl, ap, sym, ◌∙◌, arith, append_assoc, append-nil, length-append, true≢false}
use Rattle.std.proofs.lemmas.Bool.Decides.{nat_tests}
use Rattle.std.proofs.lemmas.List.Sums.{take_while-cons}
use Rattle.std.specs.Prelude.{Option, Some, None, take_while, nat_eq, encode_utf8}
use Rattle.std.specs.List.{AllByRecursion, starts_with}
use Rattle.tocmark_read_scan.specs.Basic.{plus, byte_at, bytes_between, starts_at}
use Rattle.tocmark_read_scan.specs.Class.{is_in, run_end}
use Rattle.tocmark_read_scan.specs.Repeat.{iterated}
use Rattle.tocmark_read_scan.specs.declared.class.Class.TheVariants.{TagName, Digit, HexDigit}
use Rattle.tocmark_read_scan.proofs.PlainPieces.{piece_between}
use Rattle.tocmark_read_scan.proofs.PlainPlaces.{byte_dropped}
use Rattle.tocmark_read_scan.proofs.PlainTests.{eq_of, both_true}
use Rattle.tocmark_read_tokens.specs.CharacterNames.{is_entry, next_line, entry_characters, characters_in, is_name, characters_of}
use Rattle.tocmark_read_tokens.specs.Entries.{entries_of}
use Rattle.tocmark_read_tokens.specs.Name as name
use Rattle.tocmark_read_tokens.specs.Name.{Named, name_end, name_at}
use Rattle.tocmark_read_tokens.specs.Reference as number
use Rattle.tocmark_read_tokens.specs.Reference.{reference_at, numeric, closed_number}
use Rattle.tocmark_read_tokens.specs.declared.reference.Reference.{Reference}
use Rattle.tocmark_read_inlines.specs.Scan as scan
use Rattle.tocmark_read_inlines.specs.Scan.{State, Known, is_mark, put_leaf, kept, name_put, named_taken, referred, referred_to, looked_all, stretch}
use Rattle.tocmark_read_spans.specs.declared.definitions.Entry.{Entry}
use Rattle.tocmark_read_spans.specs.declared.role.Leaf.TheVariants as leaf
use Rattle.tocmark_commonmark.specs.InlineTree.{Text, Atom}
use Rattle.tocmark_commonmark.specs.Tokens.{ampersand, numbered, reference_if, reference}
use Rattle.tocmark_inline_laws.specs.Said.{letters, words}
use Rattle.tocmark_inline_laws.proofs.Phases.{Passes, passes_by}
use Rattle.tocmark_inline_laws.proofs.Places.{clean_after, past_end}
use Rattle.tocmark_inline_laws.proofs.Plains.{drop_more, drop_past, past_within, between_text}
use Rattle.tocmark_inline_laws.proofs.Sim.{Clean, Sim, Goes}
use Rattle.tocmark_inline_laws.proofs.Tokens.{byte_passes, byte_goes, leaf_goes}

-- what is kept among the texts is there, also when more are added
pub kept_words : (xs ys zs : List ℕ) → words (xs ++ ys ++ zs) (stretch (length xs) (length (xs ++ ys))) ≡ ys
kept_words xs ys zs = piece_between (xs ++ ys ++ zs) xs ys zs (length xs) (length (xs ++ ys)) (append_assoc xs ys zs) refl (length-append xs ys)

-- a word that is here
pub record Here (bytes : List ℕ) (p : ℕ) (word : List ℕ) : Type 0 where
  pub rest : List ℕ
  pub here : drop p bytes ≡ word ++ rest

starts_split : (word xs : List ℕ) → starts_with nat_eq xs word ≡ true → (rest : List ℕ) × (xs ≡ word ++ rest)
starts_split [] xs h = (xs, refl)
starts_split (w ∷ word) [] h = absurd (true≢false (sym h))
starts_split (w ∷ word) (x ∷ xs) h =
    let both : ((w == x) ≡ true) × (starts_with nat_eq xs word ≡ true) = both_true (w == x) (starts_with nat_eq xs word) h in
    let more : (rest : List ℕ) × (xs ≡ word ++ rest) = starts_split word xs (both.1) in
    (more.0, ap (λ ys. x ∷ ys) (more.1) ∙ ap (λ y. y ∷ (word ++ more.0)) (sym (eq_of w x (both.0))))

pub starts_here : (bytes : List ℕ) (p : ℕ) (word : List ℕ) → starts_at bytes p word ≡ true → Here bytes p word
unfolding starts_at
starts_here bytes p word h = let s : (rest : List ℕ) × (drop p bytes ≡ word ++ rest) = starts_split word (drop p bytes) h in record { rest = s.0; here = s.1 }

-- a run ends at the first byte that isn't in it
run_is : (g : ℕ → Bool) (xs ys : List ℕ) (y : ℕ) → AllByRecursion (λ c. g c ≡ true) xs → g y ≡ false → take_while g (xs ++ y ∷ ys) ≡ xs
run_is g [] ys y h ends = take_while-cons g y ys ∙ ap (λ z. cond z (y ∷ take_while g ys) []) ends
run_is g (x ∷ xs) ys y h ends = take_while-cons g x (xs ++ y ∷ ys) ∙ ap (λ z. cond z (x ∷ take_while g (xs ++ y ∷ ys)) []) (h.0) ∙ ap (λ zs. x ∷ zs) (run_is g xs ys y (h.1) ends)

name_ends : (bytes word rest : List ℕ) (p y : ℕ) → p ≤ length bytes → length bytes + 1 < 2 ^ 64 → drop p bytes ≡ 38 ∷ (word ++ y ∷ rest) → AllByRecursion (λ c. is_in TagName c ≡ true) word → is_in TagName y ≡ false → name_end bytes p ≡ p + suc (length word)
unfolding name_end run_end
name_ends bytes word rest p y in_it fits e h ends =
    ap (λ q. plus q (length (take_while (is_in TagName) (drop q bytes)))) one
    ∙ ap (λ xs. plus (suc p) (length (take_while (is_in TagName) xs))) (drop_more bytes p 38 (word ++ y ∷ rest) e)
    ∙ ap (λ xs. plus (suc p) (length xs)) (run_is (is_in TagName) word rest y h ends)
    ∙ (let k : plus (suc p) (length word) ≡ p + suc (length word) = omega (arith, m) in k)
  where
    m : p + suc (length word) + suc (length rest) ≡ length bytes
    m = past_within bytes (38 ∷ word) (y ∷ rest) p in_it e

    one : plus p 1 ≡ suc p
    one = omega (arith, m)

-- a name of which the table has the characters
known : (bytes word rest cs : List ℕ) (p : ℕ) → p ≤ length bytes → length bytes + 1 < 2 ^ 64 → drop p bytes ≡ 38 ∷ (word ++ 59 ∷ rest) → AllByRecursion (λ c. is_in TagName c ≡ true) word → is_in TagName 59 ≡ false → characters_of word ≡ Some cs → name_at bytes p ≡ Some cs
unfolding name_at
known bytes word rest cs p in_it fits e h ends table =
    ap (λ q. if (byte_at bytes p == 38) && (byte_at bytes q == 59) then characters_of (bytes_between bytes (plus p 1) q) else None) (name_ends bytes word rest p 59 in_it fits e h ends)
    ∙ ap (λ c. if (c == 38) && (byte_at bytes (p + suc (length word)) == 59) then characters_of (bytes_between bytes (plus p 1) (p + suc (length word))) else None) (byte_dropped bytes p 38 (word ++ 59 ∷ rest) e)
    ∙ ap (λ c. if c == 59 then characters_of (bytes_between bytes (plus p 1) (p + suc (length word))) else None) (byte_dropped bytes (p + suc (length word)) 59 rest (drop_past bytes (38 ∷ word) (59 ∷ rest) p e))
    ∙ ap (λ q. characters_of (bytes_between bytes q (p + suc (length word)))) one
    ∙ ap (λ q. characters_of (bytes_between bytes (suc p) q)) (let k : p + suc (length word) ≡ suc p + length word = omega arith in k)
    ∙ ap characters_of (between_text bytes word (59 ∷ rest) (suc p) (omega (arith, m)) (drop_more bytes p 38 (word ++ 59 ∷ rest) e))
    ∙ table
  where
    m : p + suc (length word) + suc (length rest) ≡ length bytes
    m = past_within bytes (38 ∷ word) (59 ∷ rest) p in_it e

    one : plus p 1 ≡ suc p
    one = omega (arith, m)

colon : is_in TagName 59 ≡ false
unfolding is_in
colon = refl

-- the four names are among all
amp : characters_of (codes "amp") ≡ Some (38 ∷ [])
unfolding characters_of is_name characters_in entries_of is_entry next_line entry_characters starts_at run_end is_in iterated
amp = refl

lt : characters_of (codes "lt") ≡ Some (60 ∷ [])
unfolding characters_of is_name characters_in entries_of is_entry next_line entry_characters starts_at run_end is_in iterated
lt = refl

gt : characters_of (codes "gt") ≡ Some (62 ∷ [])
unfolding characters_of is_name characters_in entries_of is_entry next_line entry_characters starts_at run_end is_in iterated
gt = refl

quot : characters_of (codes "quot") ≡ Some (34 ∷ [])
unfolding characters_of is_name characters_in entries_of is_entry next_line entry_characters starts_at run_end is_in iterated
quot = refl

amp_letters : AllByRecursion (λ c. is_in TagName c ≡ true) (codes "amp")
unfolding is_in
amp_letters = (refl, (refl, (refl, tt)))

lt_letters : AllByRecursion (λ c. is_in TagName c ≡ true) (codes "lt")
unfolding is_in
lt_letters = (refl, (refl, tt))

gt_letters : AllByRecursion (λ c. is_in TagName c ≡ true) (codes "gt")
unfolding is_in
gt_letters = (refl, (refl, tt))

quot_letters : AllByRecursion (λ c. is_in TagName c ≡ true) (codes "quot")
unfolding is_in
quot_letters = (refl, (refl, (refl, (refl, tt))))

pub some_none : {A : Type 0} (x : A) → Some x ≡ None → ⊥
some_none x e = let k : Some x ≡ None = e in cc

pub same_some : {A : Type 0} (x y : A) → Some x ≡ Some y → x ≡ y
same_some x y e = let k : Some x ≡ Some y = e in cc

-- a name that isn't known is none of the four
pub none_of_four : (bytes : List ℕ) (p : ℕ) → p ≤ length bytes → length bytes + 1 < 2 ^ 64 → name_at bytes p ≡ None → number.named bytes p ≡ None
unfolding number.named
none_of_four bytes p in_it fits unknown = by (starts_at bytes p (codes "&amp;")) (starts_at bytes p (codes "&lt;")) (starts_at bytes p (codes "&gt;")) (starts_at bytes p (codes "&quot;")) refl refl refl refl
  where
    never : (word cs : List ℕ) → AllByRecursion (λ c. is_in TagName c ≡ true) word → characters_of word ≡ Some cs → starts_at bytes p (38 ∷ (word ++ 59 ∷ [])) ≡ true → ⊥
    never word cs h table s =
        let w : Here bytes p (38 ∷ (word ++ 59 ∷ [])) = starts_here bytes p (38 ∷ (word ++ 59 ∷ [])) s in
        some_none cs (sym (known bytes word w.rest cs p in_it fits (w.here ∙ ap (λ xs. 38 ∷ xs) (append_assoc word (59 ∷ []) w.rest)) h colon table) ∙ unknown)

    by : (a b c d : Bool) → starts_at bytes p (codes "&amp;") ≡ a → starts_at bytes p (codes "&lt;") ≡ b → starts_at bytes p (codes "&gt;") ≡ c → starts_at bytes p (codes "&quot;") ≡ d → (if a then number.referred 38 (plus p 5) else (if b then number.referred 60 (plus p 4) else (if c then number.referred 62 (plus p 4) else (if d then number.referred 34 (plus p 6) else None)))) ≡ None
    by true b c d e f g h = absurd (never (codes "amp") (38 ∷ []) amp_letters amp e)
    by false true c d e f g h = absurd (never (codes "lt") (60 ∷ []) lt_letters lt f)
    by false false true d e f g h = absurd (never (codes "gt") (62 ∷ []) gt_letters gt g)
    by false false false true e f g h = absurd (never (codes "quot") (34 ∷ []) quot_letters quot h)
    by false false false false e f g h = refl

hash : is_in TagName 35 ≡ false
unfolding is_in
hash = refl

-- a numeric reference is none by a name
pub none_named : (bytes : List ℕ) (p : ℕ) → p ≤ length bytes → length bytes + 1 < 2 ^ 64 → starts_at bytes p (codes "&#") ≡ true → name.named bytes p ≡ None
unfolding name.named name_at
none_named bytes p in_it fits s =
    ap (λ q. name.named_to (plus (name_end bytes p) 1) (if (byte_at bytes p == 38) && (byte_at bytes q == 59) then characters_of (bytes_between bytes (plus p 1) (name_end bytes p)) else None)) (name_ends bytes [] w.rest p 35 in_it fits w.here tt hash)
    ∙ ap (λ c. name.named_to (plus (name_end bytes p) 1) (if c && (byte_at bytes (p + 1) == 59) then characters_of (bytes_between bytes (plus p 1) (name_end bytes p)) else None)) (ap (λ c. c == 38) (byte_dropped bytes p 38 (35 ∷ w.rest) w.here))
    ∙ ap (λ c. name.named_to (plus (name_end bytes p) 1) (if c == 59 then characters_of (bytes_between bytes (plus p 1) (name_end bytes p)) else None)) (byte_dropped bytes (p + 1) 35 w.rest (drop_past bytes (38 ∷ []) (35 ∷ w.rest) p w.here))
  where
    w : Here bytes p (38 ∷ 35 ∷ [])
    w = starts_here bytes p (38 ∷ 35 ∷ []) s

-- what a reference ends with
pub record Closed (bytes : List ℕ) (p next : ℕ) : Type 0 where
  pub end : ℕ
  pub semicolon : byte_at bytes end ≡ 59
  pub next_is : next ≡ plus end 1
  pub behind : p < end

closed_is : (bytes : List ℕ) (start end base most : ℕ) (r : Reference) → closed_number bytes start end base most ≡ Some r → Closed bytes start r.next
unfolding closed_number
closed_is bytes start end base most r h = by (nat_lt start end) (nat_le end (plus start most)) (byte_at bytes end == 59) refl refl refl h
  where
    made : Reference
    made = record { character = number.character (number.number base (bytes_between bytes start end)); next = plus end 1 }

    by : (x y z : Bool) → nat_lt start end ≡ x → nat_le end (plus start most) ≡ y → (byte_at bytes end == 59) ≡ z → (if x && y && z then Some made else None) ≡ Some r → Closed bytes start r.next
    by true true true e f g k = record {
      end = end;
      semicolon = eq_of (byte_at bytes end) 59 g;
      next_is = ap (λ (x : Reference). x.next) (same_some r made (sym k));
      behind = grind (arith, nat_tests, e);
    }
    by true true false e f g k = absurd (some_none r (sym k))
    by true false z e f g k = absurd (some_none r (sym k))
    by false y z e f g k = absurd (some_none r (sym k))

pub numeric_is : (bytes : List ℕ) (p : ℕ) (r : Reference) → p < length bytes → length bytes + 2 < 2 ^ 64 → numeric bytes p ≡ Some r → Closed bytes p r.next
unfolding numeric
numeric_is bytes p r in_it fits h = by ((byte_at bytes (plus p 2) == 120) || (byte_at bytes (plus p 2) == 88)) h
  where
    sooner : (q : ℕ) → p ≤ q → Closed bytes q r.next → Closed bytes p r.next
    sooner q l c = record { end = c.end; semicolon = c.semicolon; next_is = c.next_is; behind = let b : q < c.end = c.behind in omega arith }

    by : (x : Bool) → (if x then closed_number bytes (plus (plus p 2) 1) (run_end bytes (plus (plus p 2) 1) HexDigit) 16 6 else closed_number bytes (plus p 2) (run_end bytes (plus p 2) Digit) 10 7) ≡ Some r → Closed bytes p r.next
    by true k = sooner (plus (plus p 2) 1) (omega arith) (closed_is bytes (plus (plus p 2) 1) (run_end bytes (plus (plus p 2) 1) HexDigit) 16 6 r k)
    by false k = sooner (plus p 2) (omega arith) (closed_is bytes (plus p 2) (run_end bytes (plus p 2) Digit) 10 7 r k)

name_late : (bytes : List ℕ) (p : ℕ) → p < length bytes → length bytes + 2 < 2 ^ 64 → p < name_end bytes p
unfolding name_end run_end
name_late bytes p in_it fits = omega arith

pub named_is : (bytes : List ℕ) (p : ℕ) (n : Named) → p < length bytes → length bytes + 2 < 2 ^ 64 → name.named bytes p ≡ Some n → Closed bytes p n.next
unfolding name.named name_at
named_is bytes p n in_it fits h = by (byte_at bytes p == 38) (byte_at bytes (name_end bytes p) == 59) refl h
  where
    from : (o : Option (List ℕ)) → byte_at bytes (name_end bytes p) ≡ 59 → name.named_to (plus (name_end bytes p) 1) o ≡ Some n → Closed bytes p n.next
    from None e k = absurd (some_none n (sym k))
    from (Some cs) e k = record {
      end = name_end bytes p;
      semicolon = e;
      next_is = ap (λ (x : Named). x.next) (same_some n (record { characters = cs; next = plus (name_end bytes p) 1 }) (sym k));
      behind = name_late bytes p in_it fits;
    }

    by : (x y : Bool) → (byte_at bytes (name_end bytes p) == 59) ≡ y → name.named_to (plus (name_end bytes p) 1) (if x && y then characters_of (bytes_between bytes (plus p 1) (name_end bytes p)) else None) ≡ Some n → Closed bytes p n.next
    by true true e k = from (characters_of (bytes_between bytes (plus p 1) (name_end bytes p))) (eq_of (byte_at bytes (name_end bytes p)) 59 e) k
    by true false e k = absurd (some_none n (sym k))
    by false y e k = absurd (some_none n (sym k))

-- places of a reference
pub record Ended (bytes : List ℕ) (p next : ℕ) : Type 0 where
  pub further : p < next
  pub within : next ≤ length bytes
  pub clean : Clean bytes next
  pub passes : Passes bytes p next

pub ends_well : (bytes : List ℕ) (p next : ℕ) → length bytes + 2 < 2 ^ 64 → Closed bytes p next → Ended bytes p next
ends_well bytes p next fits c = record {
  further = let b : p < c.end = c.behind in omega (arith, at);
  within = omega (arith, at, inner);
  clean = clean_after bytes c.end next at (ap (λ x. x == 32) c.semicolon);
  passes = passes_by bytes p next c.end (omega arith) at (let b : p < c.end = c.behind in omega arith) inner (ap (λ x. x == 92) c.semicolon);
}
  where
    inner : c.end < length bytes
    inner = by (nat_lt c.end (length bytes)) refl
      where
        by : (z : Bool) → nat_lt c.end (length bytes) ≡ z → c.end < length bytes
        by true e = grind (arith, nat_tests, e)
        by false e = absurd (let k : 59 ≡ 10 = sym c.semicolon ∙ past_end bytes c.end (let l : length bytes ≤ c.end = grind (arith, nat_tests, e) in l) in omega (arith, k))

    at : next ≡ suc c.end
    at = let k : next ≡ plus c.end 1 = c.next_is in omega (arith, k, inner)

-- an ampersand
ampersand_looked : (bytes : List ℕ) (ahead : Known) (defs : List ℕ → Option Entry) (s : State) → looked_all bytes ahead defs 38 s ≡ scan.named_to bytes s (name.named bytes s.place)
unfolding looked_all named_taken
ampersand_looked bytes ahead defs s = refl

referred_so : (bytes : List ℕ) (s : State) → referred bytes s ≡ referred_to s (if starts_at bytes s.place (codes "&#") then numeric bytes s.place else number.named bytes s.place)
unfolding referred reference_at
referred_so bytes s = refl

put_so : (chars : List ℕ) (next : ℕ) (s : State) → name_put chars next s ≡ put_leaf (leaf.Text (stretch (length s.texts) (length (s.texts ++ chars)))) next (record s { texts = s.texts ++ chars })
unfolding name_put kept
put_so chars next s = refl

ampersand_marks : is_mark 38 ≡ true
unfolding is_mark
ampersand_marks = refl

pub unnamed : (bytes : List ℕ) (p : ℕ) → name.named bytes p ≡ None → name_at bytes p ≡ None
unfolding name.named
unnamed bytes p h = by (name_at bytes p) h
  where
    by : (o : Option (List ℕ)) → name.named_to (plus (name_end bytes p) 1) o ≡ None → o ≡ None
    by None k = refl
    by (Some cs) k = absurd (some_none (record { characters = cs; next = plus (name_end bytes p) 1 }) k)

pub ampersand_goes : (bytes : List ℕ) (ahead : Known) (defs : List ℕ → Option Entry) (p : ℕ) (s : State) (done : List Atom) → Sim bytes p s done → p < length bytes → length bytes + 2 < 2 ^ 64 → byte_at bytes p ≡ 38 → Goes bytes ahead defs p s done (ampersand p (reference bytes p))
ampersand_goes bytes ahead defs p s done a in_it fits is = by (starts_at bytes p (codes "&#")) refl
  where
    looked_so : looked_all bytes ahead defs 38 s ≡ scan.named_to bytes s (name.named bytes p)
    looked_so = ampersand_looked bytes ahead defs s ∙ ap (λ q. scan.named_to bytes s (name.named bytes q)) a.place

    numbers_so : (z : Bool) → starts_at bytes p (codes "&#") ≡ z → name.named bytes p ≡ None → looked_all bytes ahead defs 38 s ≡ referred_to s (if z then numeric bytes p else number.named bytes p)
    numbers_so z e none =
        looked_so ∙ ap (λ o. scan.named_to bytes s o) none ∙ referred_so bytes s
        ∙ ap (λ q. referred_to s (if starts_at bytes q (codes "&#") then numeric bytes q else number.named bytes q)) a.place
        ∙ ap (λ (x : Bool). referred_to s (if x then numeric bytes p else number.named bytes p)) e

    same : s ≡ record s { texts = s.texts ++ [] }
    same = ap (λ (ts : List ℕ). record s { texts = ts }) (sym (append-nil s.texts))

    numbers : (o : Option Reference) → numeric bytes p ≡ o → starts_at bytes p (codes "&#") ≡ true → Goes bytes ahead defs p s done (ampersand p (numbered o))
    numbers None e z = byte_goes bytes ahead defs p 38 s done a in_it (omega arith) is ampersand_marks refl (byte_passes bytes p 38 in_it (omega arith) is refl) (numbers_so true z (none_named bytes p (omega arith) (omega arith) z) ∙ ap (referred_to s) e)
    numbers (Some r) e z =
        leaf_goes bytes ahead defs p 38 r.next s s done (leaf.Character r.character) (Text (encode_utf8 r.character)) [] a w.further w.within (omega arith) is ampersand_marks
        (numbers_so true z (none_named bytes p (omega arith) (omega arith) z) ∙ ap (referred_to s) e) same w.clean w.passes (λ ts d. refl)
      where
        w : Ended bytes p r.next
        w = ends_well bytes p r.next fits (numeric_is bytes p r in_it fits e)

    names : (o : Option Named) → name.named bytes p ≡ o → starts_at bytes p (codes "&#") ≡ false → Goes bytes ahead defs p s done (ampersand p o)
    names None e z = byte_goes bytes ahead defs p 38 s done a in_it (omega arith) is ampersand_marks refl (byte_passes bytes p 38 in_it (omega arith) is refl) (numbers_so false z e ∙ ap (referred_to s) (none_of_four bytes p (omega arith) (omega arith) (unnamed bytes p e)))
    names (Some n) e z =
        leaf_goes bytes ahead defs p 38 n.next s (record s { texts = s.texts ++ n.characters }) done (leaf.Text (stretch (length s.texts) (length (s.texts ++ n.characters)))) (Text n.characters) n.characters a w.further w.within (omega arith) is ampersand_marks
        (looked_so ∙ ap (λ o. scan.named_to bytes s o) e ∙ put_so n.characters n.next s) refl w.clean w.passes
        (λ ts d. ap (letters d) (kept_words s.texts n.characters ts))
      where
        w : Ended bytes p n.next
        w = ends_well bytes p n.next fits (named_is bytes p n in_it fits e)

    by : (z : Bool) → starts_at bytes p (codes "&#") ≡ z → Goes bytes ahead defs p s done (ampersand p (reference_if z bytes p))
    by true z = numbers (numeric bytes p) refl z
    by false z = names (name.named bytes p) refl z
