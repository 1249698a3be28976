-- Parts of paths: what is between slashes, and how loops over parts go on.
use Rattle.std.proofs.Common.{◌≡◌, refl, sym, true≢false, ◌∙◌, ap, ℕ, suc, ◌<◌, ◌+◌, ◌≢◌, ◌==◌, Bool, true, false, List, [], ◌∷◌, ◌++◌, length, get_or, map, drop, arith, Option, None, Some, if◌then◌else◌, append_assoc, drop-drop, codes, Bor}
use Rattle.std.specs.List.{fold}
use Rattle.std.specs.Str.{bytes_eq}
use Rattle.std.proofs.lemmas.List.{map-append, drop_more, drop-map}
use Rattle.std.specs.Option.{option_map}
use Rattle.tocmark_links.specs.Paths.{parts_of, gone, is_next, common, climbed, or_here, between, joined, led, begins_at_root, resolved}

-- out of the root leads nowhere back
pub gone-none : (parts : List (List ℕ)) → fold gone None parts ≡ None
gone-none [] = refl
gone-none (part ∷ parts) = gone-none parts

-- no byte is a slash
abbrev pub Lacks : List ℕ → Type 0
Lacks [] = Unit {0}
Lacks (b ∷ bytes) = ((b == 47) ≡ false) × Lacks bytes

pub lacks : (bytes : List ℕ) → ((i : ℕ) → i < length bytes → get_or bytes i 0 ≢ 47) → Lacks bytes
lacks [] h = tt
lacks (b ∷ bytes) h = (grind (arith, h 0 (omega arith)), lacks bytes (λ i within. h (suc i) (omega arith)))

pub parts-slash : (part rest : List ℕ) → Lacks part → parts_of (part ++ (47 ∷ rest)) ≡ part ∷ parts_of rest
parts-slash [] rest h = refl
parts-slash (b ∷ part) rest h = rw (h.0, parts-slash part rest h.1) refl

pub parts-whole : (part : List ℕ) → Lacks part → parts_of part ≡ part ∷ []
parts-whole [] h = refl
parts-whole (b ∷ part) h = rw (h.0, parts-whole part h.1) refl

-- the next part before a slash
pub parts-step : (all : List (Bor (List ℕ))) (part next : Bor (List ℕ)) (rest whole : List ℕ) → rest ≡ part.now ++ (47 ∷ next.now) → Lacks part.now → map (λ p. p.now) all ++ parts_of rest ≡ parts_of whole → map (λ p. p.now) (all ++ (part ∷ [])) ++ parts_of next.now ≡ parts_of whole
parts-step all part next rest whole e l h =
    ap (λ xs. xs ++ parts_of next.now) (map-append (λ p. p.now) all (part ∷ []))
    ∙ append_assoc (map (λ p. p.now) all) (part.now ∷ []) (parts_of next.now)
    ∙ ap (λ xs. map (λ p. p.now) all ++ xs) (sym (ap parts_of e ∙ parts-slash part.now next.now l))
    ∙ h

-- the last part
pub parts-end : (all : List (Bor (List ℕ))) (rest : Bor (List ℕ)) (whole : List ℕ) → Lacks rest.now → map (λ p. p.now) all ++ parts_of rest.now ≡ parts_of whole → map (λ p. p.now) (all ++ (rest ∷ [])) ≡ parts_of whole
parts-end all rest whole l h =
    map-append (λ p. p.now) all (rest ∷ [])
    ∙ ap (λ xs. map (λ p. p.now) all ++ xs) (sym (parts-whole rest.now l))
    ∙ h

-- a part that leads out of the root
pub gone_out : (x y : List (List ℕ)) (parts : List (Bor (List ℕ))) (i : ℕ) (d : Bor (List ℕ)) → fold gone (Some x) (map (λ p. p.now) (drop i parts)) ≡ fold gone (Some y) (map (λ p. p.now) parts) → i < length parts → gone (Some x) ((get_or parts i d).now) ≡ None → fold gone (Some y) (map (λ p. p.now) parts) ≡ None
gone_out x y parts i d h within out =
    sym h
    ∙ ap (λ ps. fold gone (Some x) (map (λ p. p.now) ps)) (drop_more parts i d within)
    ∙ ap (λ o. fold gone o (map (λ p. p.now) (drop (i + 1) parts))) out
    ∙ gone-none (map (λ p. p.now) (drop (i + 1) parts))

-- the first of some parts
pub is_next_first : (part : List ℕ) (parts others : List (Bor (List ℕ))) (first : Bor (List ℕ)) → parts ≡ first ∷ others → is_next part (map (λ p. p.now) parts) ≡ bytes_eq first.now part
is_next_first part parts others first e = ap (λ ps. is_next part (map (λ p. p.now) ps)) e

-- one more part in common
pub common_more : (one : List (Bor (List ℕ))) (others : List (List ℕ)) (i whole : ℕ) (d : Bor (List ℕ)) → i < length one → i + common (map (λ p. p.now) (drop i one)) (drop i others) ≡ whole → is_next ((get_or one i d).now) (drop i others) ≡ true → i + 1 + common (map (λ p. p.now) (drop (i + 1) one)) (drop (i + 1) others) ≡ whole
common_more one others i whole d within h next =
    let e : common (map (λ p. p.now) (drop i one)) (drop i others) ≡ suc (common (map (λ p. p.now) (drop (i + 1) one)) (drop 1 (drop i others))) =
    ap (λ ps. common (map (λ p. p.now) ps) (drop i others)) (drop_more one i d within)
    ∙ ap (λ b. if b then suc (common (map (λ p. p.now) (drop (i + 1) one)) (drop 1 (drop i others))) else 0) next in
    let f : drop 1 (drop i others) ≡ drop (i + 1) others = drop-drop 1 i others in
    let g : common (map (λ p. p.now) (drop (i + 1) one)) (drop 1 (drop i others)) ≡ common (map (λ p. p.now) (drop (i + 1) one)) (drop (i + 1) others) =
    ap (common (map (λ p. p.now) (drop (i + 1) one))) f in
    omega (arith, h, e, g)

-- a part that isn't in common
pub common_less : (one : List (Bor (List ℕ))) (others : List (List ℕ)) (i whole : ℕ) (d : Bor (List ℕ)) → i < length one → i + common (map (λ p. p.now) (drop i one)) (drop i others) ≡ whole → is_next ((get_or one i d).now) (drop i others) ≡ false → i ≡ whole
common_less one others i whole d within h next =
    let e : common (map (λ p. p.now) (drop i one)) (drop i others) ≡ 0 =
    ap (λ ps. common (map (λ p. p.now) ps) (drop i others)) (drop_more one i d within)
    ∙ ap (λ b. if b then suc (common (map (λ p. p.now) (drop (i + 1) one)) (drop 1 (drop i others))) else 0) next in
    omega (arith, h, e)

-- a step that leads out of the root
pub out-when : {A : Type 0} (stays : Bool) (o : Option A) (x : A) → o ≡ (if stays then Some x else None) → stays ≡ false → o ≡ None
out-when true o x e h = absurd (true≢false h)
out-when false o x e h = e

-- a folder out of the root
pub resolved-out : (folder path : List ℕ) → begins_at_root path ≡ false → led folder ≡ None → None ≡ resolved folder path
resolved-out folder path b e =
    sym
    (
    ap (λ s. option_map joined (fold gone (if s then Some [] else led folder) (parts_of path))) b
    ∙ ap (λ o. option_map joined (fold gone o (parts_of path))) e
    ∙ ap (option_map joined) (gone-none (parts_of path))
    )

-- the first of the parts from a place on
pub next-at : (part : List ℕ) (rest other : List (Bor (List ℕ))) (count i : ℕ) (found : Bool) → found ≡ is_next part (map (λ p. p.now) rest) → rest ≡ drop count other → count ≡ i → is_next part (drop i (map (λ p. p.now) other)) ≡ found
next-at part rest other count i found e r s =
    ap (is_next part) (drop-map (λ p. p.now) i other)
    ∙ sym (e ∙ ap (λ ps. is_next part (map (λ p. p.now) ps)) (r ∙ ap (λ n. drop n other) s))

-- one more part of the way up
pub climb-more : (done new : List (Bor (List ℕ))) (up : Bor (List ℕ)) (parts : List (Bor (List ℕ))) (i : ℕ) (whole : List (List ℕ)) → i < length parts → new ≡ done ++ (up ∷ []) → up.now ≡ codes ".." → map (λ p. p.now) done ++ climbed (map (λ p. p.now) (drop i parts)) ≡ whole → map (λ p. p.now) new ++ climbed (map (λ p. p.now) (drop (i + 1) parts)) ≡ whole
climb-more done new up parts i whole within e u h =
    let left : List (List ℕ) = climbed (map (λ p. p.now) (drop (i + 1) parts)) in
    ap (λ ps. map (λ p. p.now) ps ++ left) e
    ∙ ap (λ ps. ps ++ left) (map-append (λ p. p.now) done (up ∷ []))
    ∙ append_assoc (map (λ p. p.now) done) (up.now ∷ []) left
    ∙ ap (λ part. map (λ p. p.now) done ++ (part ∷ left)) u
    ∙ ap (λ ps. map (λ p. p.now) done ++ climbed (map (λ p. p.now) ps)) (sym (drop_more parts i up within))
    ∙ h

-- the way between two places, step by step
pub between-is : (new whole way done up down from to : List (Bor (List ℕ))) (shared : ℕ) → map (λ p. p.now) new ≡ or_here (map (λ p. p.now) whole) → whole ≡ way ++ down → map (λ p. p.now) way ≡ map (λ p. p.now) done ++ climbed (map (λ p. p.now) up) → done ≡ [] → up ≡ drop shared from → down ≡ drop shared to → shared ≡ common (map (λ p. p.now) from) (map (λ p. p.now) to) → map (λ p. p.now) new ≡ between (map (λ p. p.now) from) (map (λ p. p.now) to)
between-is new whole way done up down from to shared n w c d u t s =
    let rise : map (λ p. p.now) way ≡ climbed (drop shared (map (λ p. p.now) from)) =
    c
    ∙ ap (λ ps. map (λ p. p.now) ps ++ climbed (map (λ p. p.now) up)) d
    ∙ ap (λ ps. climbed (map (λ p. p.now) ps)) u
    ∙ ap climbed (sym (drop-map (λ p. p.now) shared from)) in
    let fall : map (λ p. p.now) down ≡ drop shared (map (λ p. p.now) to) =
    ap (λ ps. map (λ p. p.now) ps) t ∙ sym (drop-map (λ p. p.now) shared to) in
    n
    ∙ ap (λ ps. or_here (map (λ p. p.now) ps)) w
    ∙ ap or_here
    (
    map-append (λ p. p.now) way down
    ∙ ap (λ ps. ps ++ map (λ p. p.now) down) rise
    ∙ ap (λ ps. climbed (drop shared (map (λ p. p.now) from)) ++ ps) fall
    ∙ ap (λ k. climbed (drop k (map (λ p. p.now) from)) ++ drop k (map (λ p. p.now) to)) s
    )
