-- A relative path leads back to the place that it was made for.
use Rattle.std.proofs.Common.{◌≡◌, refl, sym, ◌∙◌, ap, subst, ℕ, zero, suc, ◌<◌, ◌≤◌, ◌+◌, ◌-◌, ◌==◌, Bool, true, false, List, [], ◌∷◌, ◌++◌, length, take, drop, arith, Option, None, Some, unwrap_or, codes, if◌then◌else◌, append_assoc, append-nil, true≢false, take_all, take-take, length-drop}
use Rattle.std.specs.List.{fold}
use Rattle.std.specs.Option.{option_map}
use Rattle.std.proofs.lemmas.List.{take-append-drop, length-take-le}
use Rattle.std.proofs.lemmas.List.Sums.{fold-append}
use Rattle.std.proofs.lemmas.Slice.Eq.{bytes_eq-Decides}
use Rattle.tocmark_links.specs.Paths.{parts_of, begun, followed, joined, is_up, is_here, above, gone, begins_at_root, led, start_of, resolved, place, is_next, common, climbed, or_here, between, relative, IsPlace}
use Rattle.tocmark_links.proofs.Parts.{Lacks, gone-none, parts-whole}

-- ---- what parts of a path are

abbrev AllLack : List (List ℕ) → Type 0
AllLack [] = Unit {0}
AllLack (part ∷ parts) = Lacks part × AllLack parts

begun-lacks : (b : ℕ) (parts : List (List ℕ)) → (b == 47) ≡ false → AllLack parts → AllLack (begun b parts)
begun-lacks b [] e h = ((e, tt), tt)
begun-lacks b (part ∷ parts) e h = ((e, h.0), h.1)

-- the parts of a byte and a path, by whether the byte is a slash
next-lack : (slash : Bool) (b : ℕ) (parts : List (List ℕ)) → (b == 47) ≡ slash → AllLack parts → AllLack (if slash then [] ∷ parts else begun b parts)
next-lack true b parts e h = (tt, h)
next-lack false b parts e h = begun-lacks b parts e h

parts-lack : (bytes : List ℕ) → AllLack (parts_of bytes)
parts-lack [] = (tt, tt)
parts-lack (b ∷ bytes) = next-lack (b == 47) b (parts_of bytes) refl (parts-lack bytes)

-- ---- parts that lead down

-- a part that is a name of a file or folder
abbrev IsName : List ℕ → Type 0
IsName part = (is_up part ≡ false) × (is_here part ≡ false) × Lacks part

abbrev AllNames : List (List ℕ) → Type 0
AllNames [] = Unit {0}
AllNames (part ∷ parts) = IsName part × AllNames parts

names-append : (names : List (List ℕ)) (part : List ℕ) → AllNames names → IsName part → AllNames (names ++ (part ∷ []))
names-append [] part h p = (p, tt)
names-append (name ∷ names) part h p = (h.0, names-append names part h.1 p)

names-take : (n : ℕ) (names : List (List ℕ)) → AllNames names → AllNames (take n names)
names-take zero names h = tt
names-take (suc n) [] h = tt
names-take (suc n) (name ∷ names) h = (h.0, names-take n names h.1)

names-drop : (n : ℕ) (names : List (List ℕ)) → AllNames names → AllNames (drop n names)
names-drop zero names h = h
names-drop (suc n) [] h = tt
names-drop (suc n) (name ∷ names) h = names-drop n names h.1

some-same : {A : Type 0} (x y : A) → Some x ≡ Some y → x ≡ y
some-same x y e = ap (λ o. unwrap_or o x) e

none-some : {A : Type 0} (x : A) → None ≡ Some x → ⊥
none-some x e = cc

-- one more part leaves names
went : (up here : Bool) (names : List (List ℕ)) (part : List ℕ) (next : List (List ℕ)) → AllNames names → Lacks part → is_up part ≡ up → is_here part ≡ here → (if up then above names else (if here then Some names else Some (names ++ (part ∷ [])))) ≡ Some next → AllNames next
went true here [] part next h l u e s = absurd (none-some next s)
went true here (name ∷ names) part next h l u e s =
    subst AllNames (some-same (take (length (name ∷ names) - 1) (name ∷ names)) next s) (names-take (length (name ∷ names) - 1) (name ∷ names) h)
went false true names part next h l u e s = subst AllNames (some-same names next s) h
went false false names part next h l u e s =
    subst AllNames (some-same (names ++ (part ∷ [])) next s) (names-append names part h (u, e, l))

was-some : (o : Option (List (List ℕ))) (parts last : List (List ℕ)) → fold gone o parts ≡ Some last → (names : List (List ℕ)) × (o ≡ Some names)
was-some None parts last e = absurd (none-some last (sym (gone-none parts) ∙ e))
was-some (Some names) parts last e = (names, refl)

led-names : (names parts last : List (List ℕ)) → AllNames names → AllLack parts → fold gone (Some names) parts ≡ Some last → AllNames last
led-names names [] last h l e = subst AllNames (some-same names last e) h
led-names names (part ∷ parts) last h l e =
    let next = was-some (gone (Some names) part) parts last e in
    led-names next.0 parts last
    (went (is_up part) (is_here part) names part next.0 h l.0 refl refl next.1)
    l.1
    (sym (ap (λ o. fold gone o parts) next.1) ∙ e)

-- names lead down
down : (names parts : List (List ℕ)) → AllNames parts → fold gone (Some names) parts ≡ Some (names ++ parts)
down names [] h = ap Some (sym (append-nil names))
down names (part ∷ parts) h =
    ap (λ o. fold gone o parts) (rw (h.0.0, h.0.1) refl)
    ∙ down (names ++ (part ∷ [])) parts h.1
    ∙ ap Some (append_assoc names (part ∷ []) parts)

-- ---- the way up

up-once : (names : List (List ℕ)) → 0 < length names → gone (Some names) (codes "..") ≡ Some (take (length names - 1) names)
up-once [] h = absurd (omega (arith, h))
up-once (name ∷ names) h = refl

up : (names parts : List (List ℕ)) → length parts ≤ length names → fold gone (Some names) (climbed parts) ≡ Some (take (length names - length parts) names)
up names [] h = ap Some (sym (take_all (length names - 0) names (omega arith)))
up names (part ∷ parts) h =
    let shorter : List (List ℕ) = take (length names - 1) names in
    let fits : length shorter ≡ length names - 1 = length-take-le (length names - 1) names (omega arith) in
    let one : length (part ∷ parts) ≡ length parts + 1 = omega arith in
    let room : length parts ≤ length shorter = omega (arith, h, fits, one) in
    let here : 0 < length names = omega (arith, h, one) in
    let same : length shorter - length parts ≡ length names - length (part ∷ parts) = omega (arith, fits, one) in
    ap (λ o. fold gone o (climbed parts)) (up-once names here)
    ∙ up shorter parts room
    ∙ ap (λ n. Some (take n shorter)) same
    ∙ ap Some (take-take (length names - length (part ∷ parts)) (length names - 1) names (omega (arith, one)))

-- ---- what two places have in common

same-next : (next : Bool) (part : List ℕ) (one other : List (List ℕ)) → is_next part other ≡ next → take (common one (drop 1 other)) one ≡ take (common one (drop 1 other)) (drop 1 other) → take (if next then suc (common one (drop 1 other)) else 0) (part ∷ one) ≡ take (if next then suc (common one (drop 1 other)) else 0) other
same-next true part one [] e ih = absurd (true≢false (sym e))
same-next true part one (first ∷ others) e ih =
    ap (λ p. p ∷ take (common one others) one) (sym ((bytes_eq-Decides first part).0 e)) ∙ ap (λ ps. first ∷ ps) ih
same-next false part one other e ih = refl

common-same : (one other : List (List ℕ)) → take (common one other) one ≡ take (common one other) other
common-same [] other = refl
common-same (part ∷ one) other = same-next (is_next part other) part one other refl (common-same one (drop 1 other))

fits-next : (next : Bool) (shared : ℕ) (part : List ℕ) (one : List (List ℕ)) → shared ≤ length one → (if next then suc shared else 0) ≤ length (part ∷ one)
fits-next true shared part one h = omega (arith, h)
fits-next false shared part one h = omega arith

common-fits : (one other : List (List ℕ)) → common one other ≤ length one
common-fits [] other = omega arith
common-fits (part ∷ one) other =
    fits-next (is_next part other) (common one (drop 1 other)) part one (common-fits one (drop 1 other))

-- ---- parts that can be joined

abbrev AllWords : List (List ℕ) → Type 0
AllWords [] = Unit {0}
AllWords ([] ∷ parts) = ⊥
AllWords ((b ∷ part) ∷ parts) = Lacks (b ∷ part) × AllWords parts

words-of-names : (parts : List (List ℕ)) → AllNames parts → AllWords parts
words-of-names [] h = tt
words-of-names ([] ∷ parts) h = absurd (true≢false h.0.1)
words-of-names ((b ∷ part) ∷ parts) h = (h.0.2, words-of-names parts h.1)

words-climbed : (parts more : List (List ℕ)) → AllWords more → AllWords (climbed parts ++ more)
words-climbed [] more h = h
words-climbed (part ∷ parts) more h = ((refl, (refl, tt)), words-climbed parts more h)

next-some : (slash : Bool) (b : ℕ) (parts : List (List ℕ)) (part : List ℕ) (rest : List (List ℕ)) → parts ≡ part ∷ rest → (first : List ℕ) × (others : List (List ℕ)) × ((if slash then [] ∷ parts else begun b parts) ≡ first ∷ others)
next-some true b parts part rest e = ([], parts, refl)
next-some false b parts part rest e = (b ∷ part, rest, ap (begun b) e)

parts-some : (bytes : List ℕ) → (first : List ℕ) × (others : List (List ℕ)) × (parts_of bytes ≡ first ∷ others)
parts-some [] = ([], [], refl)
parts-some (b ∷ bytes) =
    let found = parts-some bytes in next-some (b == 47) b (parts_of bytes) found.0 found.1 found.2

follow-next : (slash : Bool) (b : ℕ) (longer shorter : List (List ℕ)) (part first : List ℕ) (others : List (List ℕ)) → longer ≡ shorter ++ (part ∷ []) → shorter ≡ first ∷ others → (if slash then [] ∷ longer else begun b longer) ≡ (if slash then [] ∷ shorter else begun b shorter) ++ (part ∷ [])
follow-next true b longer shorter part first others e s = ap (λ ps. [] ∷ ps) e
follow-next false b longer shorter part first others e s =
    ap (begun b) (e ∙ ap (λ ps. ps ++ (part ∷ [])) s) ∙ sym (ap (λ ps. begun b ps ++ (part ∷ [])) s)

parts-followed : (path part : List ℕ) → Lacks part → parts_of (path ++ (47 ∷ part)) ≡ parts_of path ++ (part ∷ [])
parts-followed [] part l = ap (λ ps. [] ∷ ps) (parts-whole part l)
parts-followed (b ∷ path) part l =
    let found = parts-some path in
    follow-next (b == 47) b (parts_of (path ++ (47 ∷ part))) (parts_of path) part found.0 found.1 (parts-followed path part l) found.2

joined-parts : (b : ℕ) (path : List ℕ) (parts : List (List ℕ)) → AllWords parts → parts_of (fold followed (b ∷ path) parts) ≡ parts_of (b ∷ path) ++ parts
joined-parts b path [] h = sym (append-nil (parts_of (b ∷ path)))
joined-parts b path ([] ∷ parts) h = absurd h
joined-parts b path ((q ∷ part) ∷ parts) h =
    joined-parts b (path ++ (47 ∷ (q ∷ part))) parts h.1
    ∙ ap (λ ps. ps ++ parts) (parts-followed (b ∷ path) (q ∷ part) h.0)
    ∙ append_assoc (parts_of (b ∷ path)) ((q ∷ part) ∷ []) parts

joined-begins : (b : ℕ) (path : List ℕ) (parts : List (List ℕ)) → begins_at_root (fold followed (b ∷ path) parts) ≡ (b == 47)
joined-begins b path [] = refl
joined-begins b path (part ∷ parts) = joined-begins b (path ++ (47 ∷ part)) parts

-- ---- the law

pub start-root : (slash : Bool) → (if slash then Some [] else led []) ≡ Some []
start-root true = refl
start-root false = refl

was-placed : (o : Option (List (List ℕ))) (path : List ℕ) → option_map joined o ≡ Some path → (names : List (List ℕ)) × (o ≡ Some names) × (joined names ≡ path)
was-placed None path e = absurd (none-some path e)
was-placed (Some names) path e = (names, refl, some-same (joined names) path e)

placed : (path : List ℕ) → IsPlace path → (names : List (List ℕ)) × (led path ≡ Some names) × (joined names ≡ path)
placed path h =
    was-placed (led path) path
    (sym (ap (λ o. option_map joined (fold gone o (parts_of path))) (start-root (begins_at_root path))) ∙ h)

here : (from to way : List (List ℕ)) → fold gone (Some from) way ≡ Some to → fold gone (Some from) (or_here way) ≡ Some to
here from to [] e = e
here from to (part ∷ way) e = e

leads : (from to : List (List ℕ)) → AllNames to → fold gone (Some from) (climbed (drop (common from to) from) ++ drop (common from to) to) ≡ Some to
leads from to h =
    let shared : ℕ = common from to in
    let fits : shared ≤ length from = common-fits from to in
    let left : length (drop shared from) ≡ length from - shared = length-drop shared from in
    let same : length from - length (drop shared from) ≡ shared = omega (arith, fits, left) in
    fold-append gone (Some from) (climbed (drop shared from)) (drop shared to)
    ∙ ap (λ o. fold gone o (drop shared to)) (up from (drop shared from) (omega (arith, left)))
    ∙ down (take (length from - length (drop shared from)) from) (drop shared to) (names-drop shared to h)
    ∙ ap Some
    (
    ap (λ n. take n from ++ drop shared to) same
    ∙ ap (λ ps. ps ++ drop shared to) (common-same from to)
    ∙ take-append-drop shared to
    )

lands-on : (b : ℕ) (part : List ℕ) (parts : List (List ℕ)) (folder : List ℕ) (from to : List (List ℕ)) → led folder ≡ Some from → Lacks (b ∷ part) → AllWords parts → fold gone (Some from) ((b ∷ part) ∷ parts) ≡ Some to → resolved folder (joined ((b ∷ part) ∷ parts)) ≡ Some (joined to)
lands-on b part parts folder from to e l h f =
    let path : List ℕ = fold followed (b ∷ part) parts in
    let same : parts_of path ≡ (b ∷ part) ∷ parts =
    joined-parts b part parts h ∙ ap (λ ps. ps ++ parts) (parts-whole (b ∷ part) l) in
    let start : start_of folder path ≡ Some from =
    ap (λ s. if s then Some [] else led folder) (joined-begins b part parts ∙ l.0) ∙ e in
    ap (option_map joined)
    (ap (λ o. fold gone o (parts_of path)) start ∙ ap (fold gone (Some from)) same ∙ f)

lands : (way : List (List ℕ)) (folder : List ℕ) (from to : List (List ℕ)) → led folder ≡ Some from → AllWords way → fold gone (Some from) (or_here way) ≡ Some to → resolved folder (joined (or_here way)) ≡ Some (joined to)
lands [] folder from to e h f = lands-on 46 [] [] folder from to e (refl, tt) tt f
lands ([] ∷ parts) folder from to e h f = absurd h
lands ((b ∷ part) ∷ parts) folder from to e h f = lands-on b part parts folder from to e h.0 h.1 f

front-of : (names : List (List ℕ)) → AllNames names → begins_at_root (joined names) ≡ false
front-of [] h = refl
front-of ([] ∷ names) h = absurd (true≢false h.0.1)
front-of ((b ∷ part) ∷ names) h = joined-begins b part names ∙ h.0.2.0

-- no place begins with a slash
pub no-slash-in-front : (path : List ℕ) → IsPlace path → begins_at_root path ≡ false
no-slash-in-front path h =
    let f = placed path h in
    ap begins_at_root (sym f.2) ∙ front-of f.0 (led-names [] (parts_of path) f.0 tt (parts-lack path) f.1)

pub leads-back : (folder target : List ℕ) → IsPlace folder → IsPlace target → resolved folder (relative folder target) ≡ Some target
leads-back folder target hf ht =
    let f = placed folder hf in
    let g = placed target ht in
    let names : AllNames g.0 = led-names [] (parts_of target) g.0 tt (parts-lack target) g.1 in
    let way : List (List ℕ) = climbed (drop (common f.0 g.0) f.0) ++ drop (common f.0 g.0) g.0 in
    let words : AllWords way =
    words-climbed (drop (common f.0 g.0) f.0) (drop (common f.0 g.0) g.0) (words-of-names (drop (common f.0 g.0) g.0) (names-drop (common f.0 g.0) g.0 names)) in
    ap (λ o. resolved folder (joined (between (unwrap_or o []) (place target)))) f.1
    ∙ ap (λ o. resolved folder (joined (between f.0 (unwrap_or o [])))) g.1
    ∙ lands way folder f.0 g.0 f.1 words (here f.0 g.0 way (leads f.0 g.0 names))
    ∙ ap Some g.2
