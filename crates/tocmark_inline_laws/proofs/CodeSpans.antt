-- Code spans of a content.
use Rattle.std.proofs.Common.{◌≡◌, ℕ, ◌+◌, ◌-◌, ◌^◌, ◌<◌, ◌≤◌, Bool, true, false, ◌==◌, nat_lt, if◌then◌else◌, List, [], ◌∷◌, ◌++◌, length, drop, replicate, refl, ap, sym, subst, ◌∙◌, arith, append_assoc, append-nil, true≢false}
use Rattle.std.proofs.lemmas.Bool.Decides.{nat_tests}
use Rattle.std.proofs.lemmas.List.{length-replicate, replicate-append-replicate}
use Rattle.std.specs.Prelude.{Option, Some, None}
use Rattle.tocmark_event.specs.View as view
use Rattle.tocmark_event.specs.View.{Leaf}
use Rattle.tocmark_read_scan.specs.Basic.{plus, byte_at, bytes_between}
use Rattle.tocmark_read_scan.specs.Class.{run_end}
use Rattle.tocmark_read_scan.specs.Repeat.{iterated}
use Rattle.tocmark_read_scan.specs.declared.class.Class.TheVariants.{Only}
use Rattle.tocmark_read_scan.proofs.PlainTests.{eq_of}
use Rattle.tocmark_read_inlines.specs.Scan.{State, Known, is_mark, put_leaf, kept_code, code_put, coded, coded_to, looked, looked_mark, looked_all, next_place, ticks_of, stretch}
use Rattle.tocmark_read_spans.specs.Tick.{next_run, tick_end, push_shown, shown, stripped, last_ticks}
use Rattle.tocmark_read_spans.specs.declared.definitions.Entry.{Entry}
use Rattle.tocmark_read_spans.specs.declared.role.Leaf.TheVariants as leaf
use Rattle.tocmark_read_spans.specs.declared.role.Role.TheVariants as role
use Rattle.tocmark_commonmark.specs.InlineTree.{Text, Code, Atom}
use Rattle.tocmark_commonmark.specs.Tokens.{code_of, code_from, token}
use Rattle.tocmark_inline_laws.specs.Said.{Piece}
use Rattle.tocmark_inline_laws.proofs.Ampersands.{kept_words}
use Rattle.tocmark_inline_laws.proofs.Atoms.{Shows}
use Rattle.tocmark_inline_laws.proofs.Passes.{step_look}
use Rattle.tocmark_inline_laws.proofs.Phases.{passes_by}
use Rattle.tocmark_inline_laws.proofs.Places.{clean_after, any_byte}
use Rattle.tocmark_inline_laws.proofs.Plains.{plains_show}
use Rattle.tocmark_inline_laws.proofs.Sim.{beside, Sim, Goes, goes_by}
use Rattle.tocmark_inline_laws.proofs.Stretches.{cut, cut_length}
use Rattle.tocmark_inline_laws.proofs.TickRuns.{Spans, ticks_to, ticks_at, ticks_span, others_span, value_at, RunEnd, Looked}
use Rattle.tocmark_inline_laws.proofs.TickRuns as ticks
use Rattle.tocmark_inline_laws.proofs.Tokens.{added, leaf_goes}

-- bytes are shown after others
pub pushed : (out xs : List ℕ) → push_shown out xs ≡ out ++ push_shown [] xs
pushed out [] = sym (append-nil out)
pushed out (x ∷ xs) =
    pushed (out ++ shown x ∷ []) xs
    ∙ append_assoc out (shown x ∷ []) (push_shown [] xs)
    ∙ ap (λ ys. out ++ ys) (sym (pushed (shown x ∷ []) xs))

-- the runs are known, because there is one
ticks_known : (bytes : List ℕ) (p : ℕ) → p < length bytes → byte_at bytes p ≡ 96 → ticks_of bytes ≡ last_ticks bytes
unfolding ticks_of
ticks_known bytes p l h = ap (λ (z : Bool). if z then last_ticks bytes else []) (any_byte (λ b. b == 96) bytes p l (ap (λ c. c == 96) h))

code_looked : (bytes : List ℕ) (ahead : Known) (defs : List ℕ → Option Entry) (s : State) → looked_all bytes ahead defs 96 s ≡ coded bytes ahead.ticks s
unfolding looked_all looked looked_mark
code_looked bytes ahead defs s = refl

coded_so : (bytes ticks : List ℕ) (s : State) → coded bytes ticks s ≡ coded_to bytes (ticks_to bytes s.place) (ticks_to bytes s.place - s.place) s (if nat_lt (ticks_to bytes s.place) (value_at ticks (ticks_to bytes s.place - s.place)) then Some (iterated (next_run bytes (ticks_to bytes s.place - s.place)) (length bytes) (ticks_at bytes (ticks_to bytes s.place))) else None)
unfolding coded tick_end
coded_so bytes ticks s = refl

put_so : (bytes : List ℕ) (from to count : ℕ) (s : State) → code_put bytes from to count s ≡ put_leaf (leaf.Code (stretch (length s.texts) (length (push_shown s.texts (stripped (bytes_between bytes from to)))))) (plus to count) (record s { texts = push_shown s.texts (stripped (bytes_between bytes from to)) })
unfolding code_put kept_code
put_so bytes from to count s = refl

tick_marks : is_mark 96 ≡ true
unfolding is_mark
tick_marks = refl

abbrev said_code : ℕ → List ℕ → List Piece
said_code d w = (d, Leaf (view.Code w)) ∷ []

-- 6.1: backticks
pub code_goes : (bytes : List ℕ) (ahead : Known) (defs : List ℕ → Option Entry) (p : ℕ) (s : State) (done : List Atom) → Sim bytes p s done → p < length bytes → length bytes + 2 < 2 ^ 64 → byte_at bytes p ≡ 96 → ahead.ticks ≡ ticks_of bytes → Goes bytes ahead defs p s done (code_from bytes p (run_end bytes p (Only 96)))
code_goes bytes ahead defs p s done a in_it fits is knows = by (nat_lt end (length bytes)) refl
  where
    from : ℕ
    from = ticks_to bytes p

    count : ℕ
    count = ticks_to bytes p - p

    end : ℕ
    end = iterated (next_run bytes (ticks_to bytes p - p)) (length bytes) (ticks_at bytes (ticks_to bytes p))

    span : Spans bytes (λ c. c == 96) p (ticks_to bytes p)
    span = ticks_span bytes p (omega arith) (omega arith)

    here : (byte_at bytes p == 96) ≡ true
    here = ap (λ c. c == 96) is

    some : p < ticks_to bytes p
    some = near (nat_lt p (ticks_to bytes p)) refl
      where
        near : (z : Bool) → nat_lt p (ticks_to bytes p) ≡ z → p < ticks_to bytes p
        near true e = grind (arith, nat_tests, e)
        near false e =
            let same : ticks_to bytes p ≡ p = (let k : ticks_to bytes p ≤ p = grind (arith, nat_tests, e) in let l : p ≤ ticks_to bytes p = span.from in omega arith) in
            absurd (true≢false (sym here ∙ ap (λ n. byte_at bytes n == 96) (sym same) ∙ span.stop (subst (λ n. n < length bytes) (sym same) in_it)))

    last_tick : byte_at bytes (ticks_to bytes p - 1) ≡ 96
    last_tick = eq_of (byte_at bytes (ticks_to bytes p - 1)) 96 (span.each (ticks_to bytes p - 1) (omega (arith, some)) (omega (arith, some)))

    search : Looked bytes (ticks_to bytes p - p) (ticks_to bytes p) (value_at (last_ticks bytes) (ticks_to bytes p - p)) end
    search = ticks.looked bytes (ticks_to bytes p - p) (ticks_to bytes p) fits (record { start = p; behind = some; span = span })

    looked_so : looked_all bytes ahead defs 96 s ≡ coded_to bytes (ticks_to bytes p) (ticks_to bytes p - p) s (if nat_lt end (length bytes) then Some end else None)
    looked_so =
        code_looked bytes ahead defs s
        ∙ ap (λ ts. coded bytes ts s) (knows ∙ ticks_known bytes p in_it is)
        ∙ coded_so bytes (last_ticks bytes) s
        ∙ ap (λ q. coded_to bytes (ticks_to bytes q) (ticks_to bytes q - q) s (if nat_lt (ticks_to bytes q) (value_at (last_ticks bytes) (ticks_to bytes q - q)) then Some (iterated (next_run bytes (ticks_to bytes q - q)) (length bytes) (ticks_at bytes (ticks_to bytes q))) else None)) a.place
        ∙ ap (λ (z : Bool). coded_to bytes (ticks_to bytes p) (ticks_to bytes p - p) s (if z then Some end else None)) search.same

    room : ticks_to bytes p ≤ length bytes
    room = span.within

    by : (z : Bool) → nat_lt end (length bytes) ≡ z → Goes bytes ahead defs p s done (if z then token (code_of (bytes_between bytes (ticks_to bytes p) end)) (end + (ticks_to bytes p - p)) else token (Text (bytes_between bytes p (ticks_to bytes p))) (ticks_to bytes p))
    by true e =
        leaf_goes bytes ahead defs p 96 (end + (ticks_to bytes p - p)) s (record s { texts = s.texts ++ push_shown [] text }) done
        (leaf.Code (stretch (length s.texts) (length (s.texts ++ push_shown [] text)))) (Code (push_shown [] text)) (push_shown [] text) a
        (omega (arith, begun, some)) (omega (arith, there)) (omega arith) is tick_marks
        (looked_so ∙ ap (λ (z : Bool). coded_to bytes (ticks_to bytes p) (ticks_to bytes p - p) s (if z then Some end else None)) e
        ∙ put_so bytes (ticks_to bytes p) end (ticks_to bytes p - p) s
        ∙ ap (λ (ts : List ℕ). put_leaf (leaf.Code (stretch (length s.texts) (length ts))) (plus end (ticks_to bytes p - p)) (record s { texts = ts })) (pushed s.texts text)
        ∙ ap (λ n. put_leaf (leaf.Code (stretch (length s.texts) (length (s.texts ++ push_shown [] text)))) n (record s { texts = s.texts ++ push_shown [] text })) (let k : plus end (ticks_to bytes p - p) ≡ end + (ticks_to bytes p - p) = omega (arith, there) in k))
        refl
        (clean_after bytes (end + (ticks_to bytes p - p) - 1) (end + (ticks_to bytes p - p)) (omega (arith, some)) (ap (λ c. c == 32) closing))
        (passes_by bytes p (end + (ticks_to bytes p - p)) (end + (ticks_to bytes p - p) - 1) (omega arith) (omega (arith, some)) (omega (arith, begun, some)) (omega (arith, there, some)) (ap (λ c. c == 92) closing))
        (λ ts d. ap (said_code d) (kept_words s.texts (push_shown [] text) ts))
      where
        text : List ℕ
        text = stripped (bytes_between bytes (ticks_to bytes p) end)

        inner : end < length bytes
        inner = grind (arith, nat_tests, e)

        begun : ticks_to bytes p ≤ end
        begun = search.begun

        run : Spans bytes (λ c. c == 96) end (ticks_to bytes end)
        run = ticks_span bytes end search.within (omega arith)

        long : ticks_to bytes end ≡ end + (ticks_to bytes p - p)
        long = search.long inner

        there : end + (ticks_to bytes p - p) ≤ length bytes
        there = subst (λ n. n ≤ length bytes) long run.within

        closing : byte_at bytes (end + (ticks_to bytes p - p) - 1) ≡ 96
        closing = eq_of (byte_at bytes (end + (ticks_to bytes p - p) - 1)) 96 (run.each (end + (ticks_to bytes p - p) - 1) (omega (arith, some)) (omega (arith, some, long)))
    by false e =
        goes_by bytes ahead defs p (ticks_to bytes p) 96 s t done (replicate (ticks_to bytes p - p) role.Plain) (Text (bytes_between bytes p (ticks_to bytes p))) a
        (added bytes p (ticks_to bytes p) s t a.front (replicate (ticks_to bytes p - p) role.Plain) (Text (bytes_between bytes p (ticks_to bytes p)))
        (a.roles ∙ ap (λ rs. a.front ++ rs) split)
        (ap (λ n. p + n) (length-replicate (ticks_to bytes p - p) role.Plain) ∙ (let k : p + (ticks_to bytes p - p) ≡ ticks_to bytes p = omega (arith, some) in k))
        refl refl
        (subst (λ n. Shows (beside bytes s) p (replicate n role.Plain) (Text (bytes_between bytes p (ticks_to bytes p)))) (cut_length bytes p (ticks_to bytes p) (omega (arith, some)) room) (plains_show (beside bytes s) (bytes_between bytes p (ticks_to bytes p)) (drop (ticks_to bytes p) bytes) p (cut bytes p (ticks_to bytes p) (omega (arith, some)) room)))
        (omega arith) refl)
        (clean_after bytes (ticks_to bytes p - 1) (ticks_to bytes p) (omega (arith, some)) (ap (λ c. c == 32) last_tick))
        (passes_by bytes p (ticks_to bytes p) (ticks_to bytes p - 1) (omega arith) (omega (arith, some)) (omega (arith, some)) (omega (arith, some, room)) (ap (λ c. c == 92) last_tick))
        refl refl
        some room (omega arith) is
        (step_look bytes ahead defs s 96 tick_marks (let q : s.resume ≤ p = a.resume in let r : s.place ≡ p = a.place in omega arith)
        ∙ ap next_place (looked_so ∙ ap (λ (z : Bool). coded_to bytes (ticks_to bytes p) (ticks_to bytes p - p) s (if z then Some end else None)) e))
        a.place (omega arith)
      where
        t : State
        t = record s { resume = ticks_to bytes p }

        split : replicate (length bytes - p) role.Plain ≡ replicate (ticks_to bytes p - p) role.Plain ++ replicate (length bytes - ticks_to bytes p) role.Plain
        split = ap (λ n. replicate n role.Plain) (let k : length bytes - p ≡ (ticks_to bytes p - p) + (length bytes - ticks_to bytes p) = omega (arith, some, room) in k) ∙ sym (replicate-append-replicate (ticks_to bytes p - p) (length bytes - ticks_to bytes p) role.Plain)
