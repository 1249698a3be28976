-- The runs in a text are those of its parts joined.
use Rattle.std.proofs.Common.{◌≡◌, ◌≢◌, ◌⊎◌, inl, inr, ℕ, suc, ◌+◌, ◌<◌, ◌≤◌, Bool, true, false, cond, List, [], ◌∷◌, ◌++◌, refl, sym, ap, ◌∙◌, max, chars, arith, length, get_or, take, encode_utf8, encode_utf8_all, IsUtf8}
use Rattle.std.specs.Prelude.{◌==◌, ◌||◌}
use Rattle.std.specs.List.{list_any}
use Rattle.std.proofs.lemmas.Bool.{cases_lt, false≢true, ne_eqb, or_parts}
use Rattle.std.proofs.lemmas.List.{take_more}
use Rattle.std.proofs.lemmas.Str.{chars-nil, chars-append, encode_ascii, encodes-chars, length-encode, len_utf8_bounds}
use Rattle.tocmark_write_texts.proofs.CharacterLemmas.{bytes_past_ascii}
use Rattle.tocmark_event.specs.View.{LeafView, Text, Code, InlineMath, DisplayMath, Html, InlineHtml, FootnoteReference, SoftBreak, HardBreak, Rule, TaskListMarker}
use Rattle.tocmark_event.specs.Forest.{empty, leaf, node}
use Rattle.tocmark_write_texts.specs.Leaves.{run_length, longest_run}
use Rattle.tocmark_spelling.specs.Body.{Trees, joined_by, text_of_leaf}
use Rattle.tocmark_write_blocks.specs.TokenRuns.{no_runs, one_run, joined_runs, runs_in, leaf_runs, runs_of, IsLeafText}
use Rattle.tocmark_write_blocks.specs.declared.token_runs.TokenRuns.{TokenRuns}

abbrev pub runs : ℕ → ℕ → ℕ → Bool → TokenRuns
runs f b l w = record { front = f; back = b; longest = l; whole = w }

same : (f f' b b' l l' : ℕ) (w : Bool) → f ≡ f' → b ≡ b' → l ≡ l' → runs f b l w ≡ runs f' b' l' w
same f f' b b' l l' w p q r = ap (λ x. runs x b l w) p ∙ ap (λ x. runs f' x l w) q ∙ ap (λ x. runs f' b' x w) r

-- the runs of some text: at front and end they are within the longest one, and both are all of it where all is tokens
pub record IsSound (x : TokenRuns) : Type 0 where
  pub even : x.whole ≡ true → x.front ≡ x.back
  pub front_in : x.front ≤ x.longest
  pub back_in : x.back ≤ x.longest

pub sound-none : IsSound no_runs
sound-none = record { even = λ e. refl; front_in = omega arith; back_in = omega arith }

pub sound-one : (b : Bool) → IsSound (one_run b)
sound-one true = record { even = λ e. refl; front_in = omega arith; back_in = omega arith }
sound-one false = record { even = λ e. refl; front_in = omega arith; back_in = omega arith }

sound-at : (aw bw : Bool) (af ab al bf bb bl : ℕ) → af ≤ al → bb ≤ bl → IsSound (joined_runs (runs af ab al aw) (runs bf bb bl bw))
sound-at true true af ab al bf bb bl p q = record { even = λ e. refl; front_in = omega arith; back_in = omega arith }
sound-at true false af ab al bf bb bl p q = record { even = λ e. absurd (false≢true e); front_in = omega arith; back_in = omega arith }
sound-at false true af ab al bf bb bl p q = record { even = λ e. absurd (false≢true e); front_in = omega arith; back_in = omega arith }
sound-at false false af ab al bf bb bl p q = record { even = λ e. absurd (false≢true e); front_in = omega arith; back_in = omega arith }

pub sound-joined : (a b : TokenRuns) → IsSound a → IsSound b → IsSound (joined_runs a b)
sound-joined a b p q = sound-at a.whole b.whole a.front a.back a.longest b.front b.back b.longest p.front_in q.back_in

pub sound-in : (token : ℕ) (cs : List ℕ) → IsSound (runs_in token cs)
sound-in token [] = sound-none
sound-in token (c ∷ cs) = sound-joined (one_run (c == token)) (runs_in token cs) (sound-one (c == token)) (sound-in token cs)

left-at : (w : Bool) (f b l : ℕ) → (w ≡ true → f ≡ b) → f ≤ l → joined_runs no_runs (runs f b l w) ≡ runs f b l w
left-at true f b l e p = let both : f ≡ b = e refl in same (0 + f) f (0 + f) b (max (max 0 l) (0 + f)) l true (omega arith) (omega arith) (omega arith)
left-at false f b l e p = same (0 + f) f b b (max (max 0 l) (0 + f)) l false (omega arith) refl (omega arith)

pub none-left : (x : TokenRuns) → IsSound x → joined_runs no_runs x ≡ x
none-left x s = left-at x.whole x.front x.back x.longest s.even s.front_in

right-at : (w : Bool) (f b l : ℕ) → (w ≡ true → f ≡ b) → b ≤ l → joined_runs (runs f b l w) no_runs ≡ runs f b l w
right-at true f b l e p = let both : f ≡ b = e refl in same (b + 0) f (b + 0) b (max (max l 0) (b + 0)) l true (omega arith) (omega arith) (omega arith)
right-at false f b l e p = same f f (b + 0) b (max (max l 0) (b + 0)) l false refl (omega arith) (omega arith)

pub none-right : (x : TokenRuns) → IsSound x → joined_runs x no_runs ≡ x
none-right x s = right-at x.whole x.front x.back x.longest s.even s.back_in

assoc-at : (aw bw rw : Bool) (af ab al bf bb bl rf rb rl : ℕ) → (bw ≡ true → bf ≡ bb)
    → joined_runs (joined_runs (runs af ab al aw) (runs bf bb bl bw)) (runs rf rb rl rw)
    ≡ joined_runs (runs af ab al aw) (joined_runs (runs bf bb bl bw) (runs rf rb rl rw))
assoc-at true true true af ab al bf bb bl rf rb rl h = let e : bf ≡ bb = h refl in same _ _ _ _ _ _ true (omega arith) (omega arith) (omega arith)
assoc-at true true false af ab al bf bb bl rf rb rl h = let e : bf ≡ bb = h refl in same _ _ _ _ _ _ false (omega arith) (omega arith) (omega arith)
assoc-at true false true af ab al bf bb bl rf rb rl h = same _ _ _ _ _ _ false (omega arith) (omega arith) (omega arith)
assoc-at true false false af ab al bf bb bl rf rb rl h = same _ _ _ _ _ _ false (omega arith) (omega arith) (omega arith)
assoc-at false true true af ab al bf bb bl rf rb rl h = let e : bf ≡ bb = h refl in same _ _ _ _ _ _ false (omega arith) (omega arith) (omega arith)
assoc-at false true false af ab al bf bb bl rf rb rl h = let e : bf ≡ bb = h refl in same _ _ _ _ _ _ false (omega arith) (omega arith) (omega arith)
assoc-at false false true af ab al bf bb bl rf rb rl h = same _ _ _ _ _ _ false (omega arith) (omega arith) (omega arith)
assoc-at false false false af ab al bf bb bl rf rb rl h = same _ _ _ _ _ _ false (omega arith) (omega arith) (omega arith)

pub joined-assoc : (a b r : TokenRuns) → IsSound b → joined_runs (joined_runs a b) r ≡ joined_runs a (joined_runs b r)
joined-assoc a b r s =
    assoc-at a.whole b.whole r.whole a.front a.back a.longest b.front b.back b.longest r.front r.back r.longest s.even

pub runs-append : (token : ℕ) (xs ys : List ℕ) → runs_in token (xs ++ ys) ≡ joined_runs (runs_in token xs) (runs_in token ys)
runs-append token [] ys = sym (none-left (runs_in token ys) (sound-in token ys))
runs-append token (x ∷ xs) ys =
    ap (joined_runs (one_run (x == token))) (runs-append token xs ys)
    ∙ sym (joined-assoc (one_run (x == token)) (runs_in token xs) (runs_in token ys) (sound-in token xs))

-- one element more
pub runs-more : (token : ℕ) (xs : List ℕ) (i x : ℕ) (old new : TokenRuns) → i < length xs → x ≡ get_or xs i 0 → old ≡ runs_in token (take i xs)
    → new ≡ joined_runs old (one_run (x == token)) → new ≡ runs_in token (take (i + 1) xs)
runs-more token xs i x old new lt at was is =
    let more : take i xs ++ x ∷ [] ≡ take (i + 1) xs = ap (λ y. take i xs ++ y ∷ []) at ∙ sym (take_more xs i 0 lt) in
    is ∙ ap (λ r. joined_runs r (one_run (x == token))) was
    ∙ ap (joined_runs (runs_in token (take i xs))) (sym (none-right (one_run (x == token)) (sound-one (x == token))))
    ∙ sym (runs-append token (take i xs) (x ∷ [])) ∙ ap (runs_in token) more

-- where no token is

none-more : (w : Bool) → joined_runs (one_run false) (runs 0 0 0 w) ≡ runs 0 0 0 false
none-more true = refl
none-more false = refl

not-zero : (n : ℕ) → 0 < n → (n == 0) ≡ false
not-zero n lt = let differ : n ≢ 0 = omega arith in ne_eqb n 0 differ

pub without : (token : ℕ) (xs : List ℕ) → list_any (λ x. x == token) xs ≡ false → runs 0 0 0 (length xs == 0) ≡ runs_in token xs
without token [] h = refl
without token (x ∷ xs) h =
    let parts = or_parts (x == token) (list_any (λ x. x == token) xs) h in
    ap (runs 0 0 0) (not-zero (suc (length xs)) (omega arith)) ∙ sym (none-more (length xs == 0))
    ∙ ap (joined_runs (one_run false)) (without token xs parts.1)
    ∙ ap (λ b. joined_runs (one_run b) (runs_in token xs)) (sym parts.0)

-- a token of ASCII among the bytes of a text

none-high : (token : ℕ) → token < 128 → (xs : List ℕ) → ((k : ℕ) → k < length xs → 128 ≤ get_or xs k 0) → list_any (λ x. x == token) xs ≡ false
none-high token low [] h = refl
none-high token low (x ∷ xs) h =
    let big : 128 ≤ x = h 0 (omega arith) in
    let differ : x ≢ token = omega arith in
    let tail : (k : ℕ) → k < length xs → 128 ≤ get_or xs k 0 = λ k l. h (suc k) (omega arith) in
    ap (λ b. b || list_any (λ x. x == token) xs) (ne_eqb x token differ) ∙ none-high token low xs tail

encoded : (token c : ℕ) → token < 128 → ((c < 128) ⊎ (128 ≤ c)) → runs_in token (encode_utf8 c) ≡ one_run (c == token)
encoded token c low (inl small) = ap (runs_in token) (encode_ascii c small) ∙ none-right (one_run (c == token)) (sound-one (c == token))
encoded token c low (inr high) =
    let differ : c ≢ token = omega arith in
    let some : 0 < length (encode_utf8 c) = omega (arith, length-encode c, (len_utf8_bounds c).0) in
    sym (without token (encode_utf8 c) (none-high token low (encode_utf8 c) (bytes_past_ascii c high)))
    ∙ ap (runs 0 0 0) (not-zero (length (encode_utf8 c)) some)
    ∙ ap one_run (sym (ne_eqb c token differ))

all-encoded : (token : ℕ) (cs : List ℕ) → token < 128 → runs_in token (encode_utf8_all cs) ≡ runs_in token cs
all-encoded token [] low = refl
all-encoded token (c ∷ cs) low =
    runs-append token (encode_utf8 c) (encode_utf8_all cs)
    ∙ ap (λ x. joined_runs x (runs_in token (encode_utf8_all cs))) (encoded token c low (cases_lt c 128))
    ∙ ap (joined_runs (one_run (c == token))) (all-encoded token cs low)

-- the runs among the bytes of a text are those among its characters
pub by-bytes : (token : ℕ) (bs : List ℕ) → token < 128 → IsUtf8 bs → runs_in token bs ≡ runs_in token (chars bs)
by-bytes token bs low u = ap (runs_in token) (sym (encodes-chars bs u)) ∙ all-encoded token (chars bs) low

-- the longest run

front-at : (b : Bool) (x : TokenRuns) (n : ℕ) → x.front ≡ n → (joined_runs (one_run b) x).front ≡ cond b (1 + n) 0
front-at true x n e = ap (λ k. 1 + k) e
front-at false x n e = refl

front-is : (token : ℕ) (cs : List ℕ) → (runs_in token cs).front ≡ run_length token cs
front-is token [] = refl
front-is token (c ∷ cs) = front-at (c == token) (runs_in token cs) (run_length token cs) (front-is token cs)

longest-at : (b : Bool) (x : TokenRuns) (n m : ℕ) → x.front ≡ n → x.longest ≡ m → x.front ≤ x.longest
    → (joined_runs (one_run b) x).longest ≡ max (cond b (1 + n) 0) m
longest-at true x n m e h l = omega arith
longest-at false x n m e h l = omega arith

pub longest-is : (token : ℕ) (cs : List ℕ) → (runs_in token cs).longest ≡ longest_run token cs
longest-is token [] = refl
longest-is token (c ∷ cs) =
    longest-at (c == token) (runs_in token cs) (run_length token cs) (longest_run token cs) (front-is token cs) (longest-is token cs)
    (sound-in token cs).front_in

-- texts of leaves

pub leaf-runs : (token : ℕ) (l : LeafView) → leaf_runs token l ≡ runs_in token (chars (text_of_leaf l))
leaf-runs token (Text t) = refl
leaf-runs token (Code t) = ap (runs_in token) (sym chars-nil)
leaf-runs token (InlineMath t) = ap (runs_in token) (sym chars-nil)
leaf-runs token (DisplayMath t) = ap (runs_in token) (sym chars-nil)
leaf-runs token (Html t) = ap (runs_in token) (sym chars-nil)
leaf-runs token (InlineHtml t) = ap (runs_in token) (sym chars-nil)
leaf-runs token (FootnoteReference t) = ap (runs_in token) (sym chars-nil)
leaf-runs token SoftBreak = ap (runs_in token) (sym chars-nil)
leaf-runs token HardBreak = ap (runs_in token) (sym chars-nil)
leaf-runs token Rule = ap (runs_in token) (sym chars-nil)
leaf-runs token (TaskListMarker b) = ap (runs_in token) (sym chars-nil)

no-chars : (rest : List ℕ) → chars ([] ++ rest) ≡ chars [] ++ chars rest
no-chars rest = sym (ap (λ x. x ++ chars rest) chars-nil)

pub leaf-chars : (l : LeafView) (rest : List ℕ) → IsLeafText l → chars (text_of_leaf l ++ rest) ≡ chars (text_of_leaf l) ++ chars rest
leaf-chars (Text t) rest u = chars-append t rest u
leaf-chars (Code t) rest u = no-chars rest
leaf-chars (InlineMath t) rest u = no-chars rest
leaf-chars (DisplayMath t) rest u = no-chars rest
leaf-chars (Html t) rest u = no-chars rest
leaf-chars (InlineHtml t) rest u = no-chars rest
leaf-chars (FootnoteReference t) rest u = no-chars rest
leaf-chars SoftBreak rest u = no-chars rest
leaf-chars HardBreak rest u = no-chars rest
leaf-chars Rule rest u = no-chars rest
leaf-chars (TaskListMarker b) rest u = no-chars rest

-- the characters of a leaf's text
abbrev pub leaf_chars : LeafView → List ℕ
leaf_chars l = chars (text_of_leaf l)

pub runs-joined : (token : ℕ) (f : Trees) → runs_of token f ≡ runs_in token (joined_by leaf_chars f)
runs-joined token empty = refl
runs-joined token (leaf l f) =
    ap (λ x. joined_runs x (runs_of token f)) (leaf-runs token l.leaf)
    ∙ ap (joined_runs (runs_in token (leaf_chars l.leaf))) (runs-joined token f)
    ∙ sym (runs-append token (leaf_chars l.leaf) (joined_by leaf_chars f))
runs-joined token (node t kids f) =
    ap (λ x. joined_runs x (runs_of token f)) (runs-joined token kids)
    ∙ ap (joined_runs (runs_in token (joined_by leaf_chars kids))) (runs-joined token f)
    ∙ sym (runs-append token (joined_by leaf_chars kids) (joined_by leaf_chars f))
