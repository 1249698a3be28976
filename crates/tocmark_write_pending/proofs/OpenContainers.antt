-- One event more: which containers are open then, and where the others end.
use Rattle.std.proofs.Common.{◌≡◌, ℕ, zero, suc, ◌+◌, ◌-◌, ◌≤◌, ◌<◌, true, false, Option, Some, None, List, [], ◌∷◌, ◌++◌, refl, sym, ap, ◌∙◌, subst, length, drop, if◌then◌else◌, arith, unwrap_or, ⊎_elim, length-append}
use Rattle.std.specs.Prelude.{nat_lt}
use Rattle.std.proofs.lemmas.Bool.{cases_lt}
use Rattle.std.proofs.lemmas.Bool.Decides.{nat_tests}
use Rattle.std.proofs.lemmas.List.{drop_all}
use Rattle.tocmark_event.specs.View.{SourcedEvent, TagView, Start, End, Leaf, unsourced}
use Rattle.tocmark_event.specs.declared.event.TagEnd.{TagEnd}
use Rattle.tocmark_spelling.specs.Scans.{end_from, span}
use Rattle.tocmark_write_pending.specs.OpenContainers.{AreOpenFrom, IsOpenAt, left_open, opened}

-- what one event more makes of the number of open containers
abbrev pub open_after : SourcedEvent → Option ℕ → Option ℕ
open_after e None = None
open_after (Start t) (Some d) = Some (suc d)
open_after (End k) (Some zero) = None
open_after (End k) (Some (suc d)) = Some d
open_after (Leaf l) (Some d) = Some d

pub some-same : {A : Type 0} (a b : A) → Some a ≡ Some b → a ≡ b
some-same a b e = ap (λ o. unwrap_or o a) e

pub never : {A : Type 0} (a : A) → None ≡ Some a → ⊥
never a h = cc

pub empty-not : (e : SourcedEvent) (es : List SourcedEvent) → [] ≡ e ∷ es → ⊥
empty-not e es h = cc

pub open-more : (d : ℕ) (es : List SourcedEvent) (e : SourcedEvent) → left_open d (es ++ e ∷ []) ≡ open_after e (left_open d es)
open-more d [] (Start t) = refl
open-more zero [] (End k) = refl
open-more (suc d) [] (End k) = refl
open-more d [] (Leaf l) = refl
open-more d (Start t ∷ es) e = open-more (suc d) es e
open-more zero (End k ∷ es) e = refl
open-more (suc d) (End k ∷ es) e = open-more d es e
open-more zero (Leaf l ∷ es) e = open-more zero es e
open-more (suc d) (Leaf l ∷ es) e = open-more (suc d) es e

-- where it is ended
pub record IsEnded (d : ℕ) (es ys : List SourcedEvent) : Type 0 where
  pub span_same : span d (es ++ ys) ≡ span d es
  pub inside : span d es < length es
  pub still : left_open d (es ++ ys) ≡ None

pub ended : (d : ℕ) (es ys : List SourcedEvent) → left_open d es ≡ None → IsEnded d es ys
ended d [] ys h = absurd (never d (sym h))
ended d (Start t ∷ es) ys h = let r = ended (suc d) es ys h in record { span_same = ap suc r.span_same; inside = omega (arith, r.inside); still = r.still }
ended zero (End k ∷ es) ys h = record { span_same = refl; inside = omega arith; still = refl }
ended (suc d) (End k ∷ es) ys h = let r = ended d es ys h in record { span_same = ap suc r.span_same; inside = omega (arith, r.inside); still = r.still }
ended zero (Leaf l ∷ es) ys h = let r = ended zero es ys h in record { span_same = ap suc r.span_same; inside = omega (arith, r.inside); still = r.still }
ended (suc d) (Leaf l ∷ es) ys h = let r = ended (suc d) es ys h in record { span_same = ap suc r.span_same; inside = omega (arith, r.inside); still = r.still }

-- where it isn't, they are all inside it
pub unended : (d : ℕ) (es : List SourcedEvent) (k : ℕ) → left_open d es ≡ Some k → span d es ≡ length es
unended d [] k h = refl
unended d (Start t ∷ es) k h = ap suc (unended (suc d) es k h)
unended zero (End x ∷ es) k h = absurd (never k h)
unended (suc d) (End x ∷ es) k h = ap suc (unended d es k h)
unended zero (Leaf l ∷ es) k h = ap suc (unended zero es k h)
unended (suc d) (Leaf l ∷ es) k h = ap suc (unended (suc d) es k h)

-- in more containers as many more are open
pub shifted : (es : List SourcedEvent) (a b d j m : ℕ) → b ≡ a + d → m ≡ j + d → left_open a es ≡ Some j → left_open b es ≡ Some m
shifted [] a b d j m e f h = let same : a ≡ j = some-same a j h in ap Some (omega (arith, e, f, same))
shifted (Start t ∷ es) a b d j m e f h = shifted es (suc a) (suc b) d j m (omega (arith, e)) f h
shifted (End k ∷ es) zero b d j m e f h = absurd (never j h)
shifted (End k ∷ es) (suc a) zero d j m e f h = absurd (omega (arith, e))
shifted (End k ∷ es) (suc a) (suc b) d j m e f h = shifted es a b d j m (omega (arith, e)) f h
shifted (Leaf l ∷ es) zero zero d j m e f h = shifted es zero zero d j m e f h
shifted (Leaf l ∷ es) zero (suc b) d j m e f h = shifted es zero (suc b) d j m e f h
shifted (Leaf l ∷ es) (suc a) zero d j m e f h = absurd (omega (arith, e))
shifted (Leaf l ∷ es) (suc a) (suc b) d j m e f h = shifted es (suc a) (suc b) d j m e f h

-- a container inside has fewer open ones inside it
pub inner-fewer : (es : List SourcedEvent) (d n k j : ℕ) (t : TagView) (rest : List SourcedEvent) → left_open d es ≡ Some k → drop n es ≡ Start t ∷ rest → left_open 0 rest ≡ Some j → j < k
inner-fewer [] d zero k j t rest h s o = absurd (empty-not (Start t) rest s)
inner-fewer [] d (suc n) k j t rest h s o = absurd (empty-not (Start t) rest s)
inner-fewer (x ∷ es) d zero k j t rest h s o = by (subst (λ (xs : List SourcedEvent). left_open d xs ≡ Some k) s h)
  where
    by : left_open (suc d) rest ≡ Some k → j < k
    by i = let same : suc d + j ≡ k = some-same (suc d + j) k (sym (shifted rest 0 (suc d) (suc d) j (suc d + j) (omega arith) (omega arith) o) ∙ i) in omega (arith, same)
inner-fewer (Start u ∷ es) d (suc n) k j t rest h s o = inner-fewer es (suc d) n k j t rest h s o
inner-fewer (End u ∷ es) zero (suc n) k j t rest h s o = absurd (never k h)
inner-fewer (End u ∷ es) (suc d) (suc n) k j t rest h s o = inner-fewer es d n k j t rest h s o
inner-fewer (Leaf l ∷ es) zero (suc n) k j t rest h s o = inner-fewer es zero n k j t rest h s o
inner-fewer (Leaf l ∷ es) (suc d) (suc n) k j t rest h s o = inner-fewer es (suc d) n k j t rest h s o

pub drop-behind : (es : List SourcedEvent) (i m : ℕ) (x : SourcedEvent) (rest : List SourcedEvent) → drop i es ≡ x ∷ rest → drop m rest ≡ drop (suc (i + m)) es
drop-behind [] zero m x rest h = absurd (empty-not x rest h)
drop-behind [] (suc i) m x rest h = absurd (empty-not x rest h)
drop-behind (e ∷ es) zero m x rest h = let same : es ≡ rest = cc in ap (drop m) (sym same) ∙ (let q : m ≡ 0 + m = omega arith in ap (λ n. drop (suc n) (e ∷ es)) q)
drop-behind (e ∷ es) (suc i) m x rest h = drop-behind es i m x rest h ∙ (let q : suc (i + m) ≡ suc i + m = omega arith in ap (λ n. drop n es) q)

-- only one container is open with none inside it
pub innermost : (es : List SourcedEvent) (i p : ℕ) → IsOpenAt es i 0 → IsOpenAt es p 0 → i ≡ p
innermost es i p a b =
    ⊎_elim
    (λ (lt : i < p).
    let q : suc (i + (p - (i + 1))) ≡ p = omega arith in
    let at : drop (p - (i + 1)) a.rest ≡ Start b.tag ∷ b.rest = drop-behind es i (p - (i + 1)) (Start a.tag) a.rest a.starts ∙ ap (λ n. drop n es) q ∙ b.starts in
    let less = inner-fewer a.rest 0 (p - (i + 1)) 0 0 b.tag b.rest a.within at b.within in
    absurd (omega (arith, less)))
    (λ (le : p ≤ i).
    ⊎_elim
    (λ (lt : p < i).
    let q : suc (p + (i - (p + 1))) ≡ i = omega arith in
    let at : drop (i - (p + 1)) b.rest ≡ Start a.tag ∷ a.rest = drop-behind es p (i - (p + 1)) (Start b.tag) b.rest b.starts ∙ ap (λ n. drop n es) q ∙ a.starts in
    let less = inner-fewer b.rest 0 (i - (p + 1)) 0 0 a.tag a.rest b.within at a.within in
    absurd (omega (arith, less)))
    (λ (ge : i ≤ p). omega arith)
    (cases_lt p i))
    (cases_lt i p)

-- ---- the places of the open containers

pub drop-more : (es : List SourcedEvent) (i : ℕ) (x : SourcedEvent) (rest ys : List SourcedEvent) → drop i es ≡ x ∷ rest → drop i (es ++ ys) ≡ x ∷ (rest ++ ys)
drop-more [] zero x rest ys h = absurd (empty-not x rest h)
drop-more [] (suc i) x rest ys h = absurd (empty-not x rest h)
drop-more (e ∷ es) zero x rest ys h = ap (λ zs. zs ++ ys) h
drop-more (e ∷ es) (suc i) x rest ys h = drop-more es i x rest ys h

pub drop-last : (es : List SourcedEvent) (x : SourcedEvent) → drop (length es) (es ++ x ∷ []) ≡ x ∷ []
drop-last [] x = refl
drop-last (e ∷ es) x = drop-last es x

still-open : (es : List SourcedEvent) (i k m : ℕ) (e : SourcedEvent) → open_after e (Some k) ≡ Some m → IsOpenAt es i k → IsOpenAt (es ++ e ∷ []) i m
still-open es i k m e h a = record {
  tag = a.tag;
  rest = a.rest ++ e ∷ [];
  starts = drop-more es i (Start a.tag) a.rest (e ∷ []) a.starts;
  within = open-more 0 a.rest e ∙ ap (open_after e) a.within ∙ h;
}

pub opens-leaf : (es : List SourcedEvent) (k : ℕ) (is : List ℕ) (l : _) → AreOpenFrom es k is → AreOpenFrom (es ++ Leaf l ∷ []) k is
opens-leaf es k [] l a = tt
opens-leaf es k (i ∷ is) l a = (still-open es i k k (Leaf l) refl a.0, opens-leaf es (suc k) is l a.1)

opens-inner : (es : List SourcedEvent) (k : ℕ) (is : List ℕ) (t : TagView) → AreOpenFrom es k is → AreOpenFrom (es ++ Start t ∷ []) (suc k) is
opens-inner es k [] t a = tt
opens-inner es k (i ∷ is) t a = (still-open es i k (suc k) (Start t) refl a.0, opens-inner es (suc k) is t a.1)

pub opens-start : (es : List SourcedEvent) (is : List ℕ) (t : TagView) → AreOpenFrom es 0 is → AreOpenFrom (es ++ Start t ∷ []) 0 (length es ∷ is)
opens-start es is t a = (record { tag = t; rest = []; starts = drop-last es (Start t); within = refl }, opens-inner es 0 is t a)

pub opens-end : (es : List SourcedEvent) (k : ℕ) (is : List ℕ) (x : TagEnd) → AreOpenFrom es (suc k) is → AreOpenFrom (es ++ End x ∷ []) k is
opens-end es k [] x a = tt
opens-end es k (i ∷ is) x a = (still-open es i (suc k) k (End x) refl a.0, opens-end es (suc k) is x a.1)

-- an open container starts among the events
pub place-inside : (es : List SourcedEvent) (p k : ℕ) → IsOpenAt es p k → p < length es
place-inside es p k a =
    ⊎_elim (λ (lt : p < length es). lt) (λ (le : length es ≤ p). absurd (empty-not (Start a.tag) a.rest (sym (drop_all p es le) ∙ a.starts))) (cases_lt p (length es))

-- one event more, of whatever kind
pub opens-more : (es : List SourcedEvent) (is : List ℕ) (e : SourcedEvent) → AreOpenFrom es 0 is → AreOpenFrom (es ++ e ∷ []) 0 (opened (unsourced e) (length es) is)
opens-more es is (Start t) a = opens-start es is t a
opens-more es [] (End k) a = tt
opens-more es (p ∷ is) (End k) a = opens-end es 0 is k a.1
opens-more es is (Leaf l) a = opens-leaf es 0 is l a

-- ---- where containers end

-- where a container ended, it ends there with one event more
pub end-kept : (i : ℕ) (rest : List SourcedEvent) (e : SourcedEvent) → left_open 0 rest ≡ None → end_from 0 (i + 1) (rest ++ e ∷ []) ≡ end_from 0 (i + 1) rest
end-kept i rest e h =
    let r = ended 0 rest (e ∷ []) h in
    let a : nat_lt (span 0 (rest ++ e ∷ [])) (length (rest ++ e ∷ [])) ≡ true = grind (arith, nat_tests, r.span_same, r.inside, length-append rest (e ∷ [])) in
    let b : nat_lt (span 0 rest) (length rest) ≡ true = grind (arith, nat_tests, r.inside) in
    (λ j. if a j then Some (i + 1 + r.span_same j) else None) ∙ (λ j. if sym b j then Some (i + 1 + span 0 rest) else None)

-- where it is open, it doesn't end
pub end-open : (i : ℕ) (rest : List SourcedEvent) (k : ℕ) → left_open 0 rest ≡ Some k → end_from 0 (i + 1) rest ≡ None
end-open i rest k h =
    let s = unended 0 rest k h in
    let b : nat_lt (span 0 rest) (length rest) ≡ false = grind (arith, nat_tests, s) in
    λ j. if b j then Some (i + 1 + span 0 rest) else None

span-last : (d : ℕ) (rest : List SourcedEvent) (x : TagEnd) → left_open d rest ≡ Some 0 → span d (rest ++ End x ∷ []) ≡ length rest
span-last zero [] x h = refl
span-last (suc d) [] x h = absurd (omega (arith, some-same (suc d) 0 h))
span-last d (Start t ∷ es) x h = ap suc (span-last (suc d) es x h)
span-last zero (End k ∷ es) x h = absurd (never 0 h)
span-last (suc d) (End k ∷ es) x h = ap suc (span-last d es x h)
span-last zero (Leaf l ∷ es) x h = ap suc (span-last zero es x h)
span-last (suc d) (Leaf l ∷ es) x h = ap suc (span-last (suc d) es x h)

-- an End ends the container that is open with none inside it
pub end-now : (i : ℕ) (rest : List SourcedEvent) (x : TagEnd) → left_open 0 rest ≡ Some 0 → end_from 0 (i + 1) (rest ++ End x ∷ []) ≡ Some (i + 1 + length rest)
end-now i rest x h =
    let s = span-last 0 rest x h in
    let a : nat_lt (span 0 (rest ++ End x ∷ [])) (length (rest ++ End x ∷ [])) ≡ true = grind (arith, nat_tests, s, length-append rest (End x ∷ [])) in
    (λ j. if a j then Some (i + 1 + span 0 (rest ++ End x ∷ [])) else None) ∙ ap (λ n. Some (i + 1 + n)) s
