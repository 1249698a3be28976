-- The roles of emphasis: what they say, and how a match makes them of plain ones.
use Rattle.std.proofs.Common.{◌≡◌, ℕ, zero, suc, ◌+◌, ◌-◌, ◌<◌, Bool, true, false, if◌then◌else◌, List, [], ◌∷◌, ◌++◌, length, replicate, ap, sym, ◌∙◌, arith, append_assoc, append-nil, length-append}
use Rattle.std.proofs.lemmas.List.{length-replicate}
use Rattle.std.proofs.lemmas.List.Sums.{fold-append}
use Rattle.std.specs.Prelude.{slice_set}
use Rattle.std.specs.List.{fold}
use Rattle.tocmark_event.specs.View.{Start, Emphasis as EmphasisTag, Strong as StrongTag}
use Rattle.tocmark_read_scan.specs.Basic.{byte_at}
use Rattle.tocmark_read_spans.specs.declared.role.Role.{Role}
use Rattle.tocmark_read_spans.specs.declared.role.Role.TheVariants as role
use Rattle.tocmark_read_spans.specs.declared.role.Span.{Span}
use Rattle.tocmark_read_spans.specs.declared.role.Span.TheVariants as span
use Rattle.tocmark_read_spans.specs.declared.role.Target.{Target}
use Rattle.tocmark_commonmark.specs.InlineTree.{Inline, Inlines, none, more, Text, Emphasis, Strong}
use Rattle.tocmark_inline_laws.specs.Said.{Piece, letters, declared, declared_one}
use Rattle.tocmark_inline_laws.proofs.Atoms.{with_more, flow_at, Shows}
use Rattle.tocmark_inline_laws.proofs.Flow.{Flow, Beside, flow_step}
use Rattle.tocmark_inline_laws.proofs.Places.{set_here, set_next}

-- roles from a place on say inlines, whatever is added to texts and targets
abbrev pub ShowsAll : Beside → ℕ → List Role → Inlines → Type 0
ShowsAll e p seg is =
    (ts : List ℕ) (gs : List Target) (depth : ℕ) (out : List Piece)
    → fold (flow_step (with_more e ts gs)) (flow_at depth p out) seg ≡ flow_at depth (p + length seg) (out ++ declared depth is)

pub none_show : (e : Beside) (p : ℕ) → ShowsAll e p [] none
none_show e p ts gs depth out = ap (λ q. flow_at depth q out) (let k : p ≡ p + 0 = omega arith in k) ∙ ap (λ ps. flow_at depth (p + 0) ps) (sym (append-nil out))

pub more_show : (e : Beside) (p : ℕ) (seg mid : List Role) (i : Inline) (is : Inlines) → Shows e p seg i → ShowsAll e (p + length seg) mid is → ShowsAll e p (seg ++ mid) (more i is)
more_show e p seg mid i is h k ts gs depth out =
    fold-append (flow_step (with_more e ts gs)) (flow_at depth p out) seg mid
    ∙ ap (λ (f : Flow). fold (flow_step (with_more e ts gs)) f mid) (h ts gs depth out)
    ∙ k ts gs depth (out ++ declared_one depth i)
    ∙ ap (λ ps. flow_at depth (p + length seg + length mid) ps) (append_assoc out (declared_one depth i) (declared depth is))
    ∙ ap (λ q. flow_at depth q (out ++ declared depth (more i is))) (let l : length (seg ++ mid) ≡ length seg + length mid = length-append seg mid in let q : p + length seg + length mid ≡ p + length (seg ++ mid) = omega arith in q)

-- plain bytes that are all the same
filled_flow : (e : Beside) (p b n depth : ℕ) (out : List Piece) → ((i : ℕ) → i < n → byte_at e.bytes (p + i) ≡ b) → fold (flow_step e) (flow_at depth p out) (replicate n role.Plain) ≡ flow_at depth (p + n) (out ++ letters depth (replicate n b))
unfolding flow_step
filled_flow e p b zero depth out h = ap (λ q. flow_at depth q out) (let k : p ≡ p + 0 = omega arith in k) ∙ ap (λ ps. flow_at depth (p + 0) ps) (sym (append-nil out))
filled_flow e p b (suc n) depth out h =
    ap (λ c. fold (flow_step e) (flow_at depth (suc p) (out ++ letters depth (c ∷ []))) (replicate n role.Plain)) (ap (λ m. byte_at e.bytes m) (let k : p ≡ p + 0 = omega arith in k) ∙ h 0 (omega arith))
    ∙ filled_flow e (suc p) b n depth (out ++ letters depth (b ∷ [])) (λ i l. ap (λ m. byte_at e.bytes m) (let k : suc p + i ≡ p + suc i = omega arith in k) ∙ h (suc i) (omega arith))
    ∙ ap (λ ps. flow_at depth (suc p + n) ps) (append_assoc out (letters depth (b ∷ [])) (letters depth (replicate n b)))
    ∙ ap (λ q. flow_at depth q (out ++ letters depth (replicate (suc n) b))) (let k : suc p + n ≡ p + suc n = omega arith in k)

pub filled_shows : (e : Beside) (p b n : ℕ) → ((i : ℕ) → i < n → byte_at e.bytes (p + i) ≡ b) → Shows e p (replicate n role.Plain) (Text (replicate n b))
filled_shows e p b n h ts gs depth out =
    filled_flow (with_more e ts gs) p b n depth out h
    ∙ ap (λ m. flow_at depth (p + m) (out ++ letters depth (replicate n b))) (sym (length-replicate n role.Plain))

-- strong emphasis or emphasis
abbrev pub width_by : Bool → ℕ
width_by z = if z then 2 else 1

abbrev pub span_by : Bool → Span
span_by true = span.Strong
span_by false = span.Emphasis

abbrev pub emphasis_by : Bool → Inlines → Inline
emphasis_by true is = Strong is
emphasis_by false is = Emphasis is

-- the roles of its delimiters
abbrev pub opening_roles : Bool → ℕ → List Role
opening_roles true end = role.Open span.Strong end ∷ role.Hidden ∷ []
opening_roles false end = role.Open span.Emphasis end ∷ []

abbrev pub closing_roles : Bool → ℕ → List Role
closing_roles true end = role.Hidden ∷ role.Close end ∷ []
closing_roles false end = role.Close end ∷ []

-- after a container nothing is skipped
closes_so : (depth q end : ℕ) (out : List Piece) → end ≡ suc q → record { depth = suc depth - 1; place = suc q; skip = end - suc q; out = out } ≡ flow_at depth end out
closes_so depth q end out h =
    ap (λ (d : ℕ). record (flow_at depth (suc q) out) { depth = d; skip = end - suc q }) (let k : suc depth - 1 ≡ depth = omega arith in k)
    ∙ ap (λ (n : ℕ). record (flow_at depth (suc q) out) { skip = n }) (let k : end - suc q ≡ 0 = omega arith in k)
    ∙ ap (λ q. flow_at depth q out) (sym h)

pub span_shows : (e : Beside) (p : ℕ) (z : Bool) (mid : List Role) (is : Inlines) (end : ℕ) → end ≡ p + (width_by z + length mid + width_by z) → ShowsAll e (p + width_by z) mid is → Shows e p (opening_roles z end ++ (mid ++ closing_roles z end)) (emphasis_by z is)
unfolding flow_step
span_shows e p false mid is end far h ts gs depth out =
    fold-append (flow_step (with_more e ts gs)) (flow_at (suc depth) (suc p) (out ++ (depth, Start EmphasisTag) ∷ [])) mid (role.Close end ∷ [])
    ∙ ap (λ q. fold (flow_step (with_more e ts gs)) (fold (flow_step (with_more e ts gs)) (flow_at (suc depth) q (out ++ (depth, Start EmphasisTag) ∷ [])) mid) (role.Close end ∷ [])) (let k : suc p ≡ p + 1 = omega arith in k)
    ∙ ap (λ (f : Flow). fold (flow_step (with_more e ts gs)) f (role.Close end ∷ [])) (h ts gs (suc depth) (out ++ (depth, Start EmphasisTag) ∷ []))
    ∙ closes_so depth (p + 1 + length mid) end ((out ++ (depth, Start EmphasisTag) ∷ []) ++ declared (suc depth) is) (omega (arith, far))
    ∙ ap (λ ps. flow_at depth end ps) (append_assoc out ((depth, Start EmphasisTag) ∷ []) (declared (suc depth) is))
    ∙ ap (λ q. flow_at depth q (out ++ declared_one depth (Emphasis is))) (let l : length (mid ++ role.Close end ∷ []) ≡ length mid + 1 = length-append mid (role.Close end ∷ []) in let k : end ≡ p + suc (length (mid ++ role.Close end ∷ [])) = omega (arith, far) in k)
span_shows e p true mid is end far h ts gs depth out =
    fold-append (flow_step (with_more e ts gs)) (flow_at (suc depth) (suc (suc p)) (out ++ (depth, Start StrongTag) ∷ [])) mid (role.Hidden ∷ role.Close end ∷ [])
    ∙ ap (λ q. fold (flow_step (with_more e ts gs)) (fold (flow_step (with_more e ts gs)) (flow_at (suc depth) q (out ++ (depth, Start StrongTag) ∷ [])) mid) (role.Hidden ∷ role.Close end ∷ [])) (let k : suc (suc p) ≡ p + 2 = omega arith in k)
    ∙ ap (λ (f : Flow). fold (flow_step (with_more e ts gs)) f (role.Hidden ∷ role.Close end ∷ [])) (h ts gs (suc depth) (out ++ (depth, Start StrongTag) ∷ []))
    ∙ closes_so depth (suc (p + 2 + length mid)) end ((out ++ (depth, Start StrongTag) ∷ []) ++ declared (suc depth) is) (omega (arith, far))
    ∙ ap (λ ps. flow_at depth end ps) (append_assoc out ((depth, Start StrongTag) ∷ []) (declared (suc depth) is))
    ∙ ap (λ q. flow_at depth q (out ++ declared_one depth (Strong is))) (let l : length (mid ++ role.Hidden ∷ role.Close end ∷ []) ≡ length mid + 2 = length-append mid (role.Hidden ∷ role.Close end ∷ []) in let k : end ≡ p + suc (suc (length (mid ++ role.Hidden ∷ role.Close end ∷ []))) = omega (arith, far) in k)

-- a match of plain delimiters, with what is between them
pub match_roles : (z : Bool) (before mid after : List Role) (end a b c d : ℕ) → b ≡ length before → suc a ≡ b + width_by z → c ≡ b + width_by z + length mid → suc d ≡ c + width_by z → slice_set (slice_set (slice_set (slice_set (before ++ (replicate (width_by z) role.Plain ++ (mid ++ (replicate (width_by z) role.Plain ++ after)))) a role.Hidden) b (role.Open (span_by z) end)) c role.Hidden) d (role.Close end) ≡ before ++ (opening_roles z end ++ (mid ++ (closing_roles z end ++ after)))
match_roles false before mid after end a b c d first second third fourth =
    ap (λ rs. slice_set (slice_set (slice_set rs b start) c role.Hidden) d (role.Close end)) (set_here before (mid ++ role.Plain ∷ after) role.Plain role.Hidden a (omega arith))
    ∙ ap (λ rs. slice_set (slice_set rs c role.Hidden) d (role.Close end)) (set_here before (mid ++ role.Plain ∷ after) role.Hidden start b (omega arith))
    ∙ ap (λ rs. slice_set (slice_set rs c role.Hidden) d (role.Close end)) (sym (append_assoc before (start ∷ mid) (role.Plain ∷ after)))
    ∙ ap (λ rs. slice_set rs d (role.Close end)) (set_here (before ++ start ∷ mid) after role.Plain role.Hidden c (omega (arith, long)))
    ∙ set_here (before ++ start ∷ mid) after role.Hidden (role.Close end) d (omega (arith, long))
    ∙ append_assoc before (start ∷ mid) (role.Close end ∷ after)
  where
    start : Role
    start = role.Open span.Emphasis end

    long : length (before ++ start ∷ mid) ≡ length before + suc (length mid)
    long = length-append before (start ∷ mid)
match_roles true before mid after end a b c d first second third fourth =
    ap (λ rs. slice_set (slice_set (slice_set rs b start) c role.Hidden) d (role.Close end)) (set_next before (mid ++ role.Plain ∷ role.Plain ∷ after) role.Plain role.Plain role.Hidden a (omega arith))
    ∙ ap (λ rs. slice_set (slice_set rs c role.Hidden) d (role.Close end)) (set_here before (role.Hidden ∷ (mid ++ role.Plain ∷ role.Plain ∷ after)) role.Plain start b (omega arith))
    ∙ ap (λ rs. slice_set (slice_set rs c role.Hidden) d (role.Close end)) (sym (append_assoc before (start ∷ role.Hidden ∷ mid) (role.Plain ∷ role.Plain ∷ after)))
    ∙ ap (λ rs. slice_set rs d (role.Close end)) (set_here (before ++ start ∷ role.Hidden ∷ mid) (role.Plain ∷ after) role.Plain role.Hidden c (omega (arith, long)))
    ∙ set_next (before ++ start ∷ role.Hidden ∷ mid) after role.Hidden role.Plain (role.Close end) d (omega (arith, long))
    ∙ append_assoc before (start ∷ role.Hidden ∷ mid) (role.Hidden ∷ role.Close end ∷ after)
  where
    start : Role
    start = role.Open span.Strong end

    long : length (before ++ start ∷ role.Hidden ∷ mid) ≡ length before + suc (suc (length mid))
    long = length-append before (start ∷ role.Hidden ∷ mid)
